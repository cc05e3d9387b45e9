-- No second answer of the run of a word.
use Rattle.std.specs.Prelude.{◌≡◌, List, ℕ}
use Rattle.meaning.specs.Once.{Once}
use Rattle.meaning.proofs.Laws.Once.{both_once}
use Rattle.format.specs.Decode.{Decoded, decoded}
use Rattle.il_instruction.specs.declared.Registers.{Registers}
use Rattle.il_instruction.specs.Effect.{running, flip_flops_after}

pub run_instruction_once : (fs : List ℕ) (x : ℕ) (i : Decoded) (s : Registers) → Once {A = Registers × List ℕ} (λ (r, m). (r ≡ running x fs i s) × (m ≡ flip_flops_after i s.result fs))
run_instruction_once fs x i s = both_once (running x fs i s) (flip_flops_after i s.result fs)

pub run_word_once : (fs : List ℕ) (x w : ℕ) (s : Registers) → Once {A = Registers × List ℕ} (λ (r, m). (r ≡ running x fs (decoded w) s) × (m ≡ flip_flops_after (decoded w) s.result fs))
run_word_once fs x w s = both_once (running x fs (decoded w) s) (flip_flops_after (decoded w) s.result fs)
