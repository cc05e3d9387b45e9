-- The declarations of some blocks.
use Rattle.std.specs.Prelude.{◌≡◌, refl, ◌≢◌, ℕ, zero, suc}
use mathlib.Core.List.{◌++◌, flat_map}
use Rattle.meaning.specs.Rows.{table}
use Rattle.format.specs.Text.{bytes, line, block_line, declarations}

pub some_declared : (d : ℕ) → d ≢ 0 → declarations d ≡ line (bytes "VAR") ++ (flat_map block_line (table (λ n. n) 1 d) ++ line (bytes "END_VAR"))
unfolding declarations
some_declared zero n = absurd (n refl)
some_declared (suc d) n = refl
