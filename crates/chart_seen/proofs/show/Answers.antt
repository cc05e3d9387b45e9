-- The leaf fits its place, and the word of a leaf is that of its outputs.
use Rattle.std.proofs.Common.{◌≡◌, ap, ◌∙◌, set, arith}
use Rattle.meaning.specs.Machine.{seen_at_leaf}
use Rattle.chart_paths.specs.WordsLaws.{word_seen}
use Rattle.chart_seen.proofs.show.Goals as goal

pub returns : goal.returns
returns c c' R W h =
    let a = c.args in
    let w = c.at in
    let s : w.result ≡ (seen_at_leaf c' a.l).outputs = unfold seen_at_leaf in (word_seen c' R a.l w.result w.type_inv (λ n z. rw w.ensures (W a.l n h z))) in (
      c.remember.ensures (omega (arith, h, R.size.few_states)),
      c.put.ensures ∙ ap (set a.outputs.now a.i) s,
    )
