-- Numbers in a 64-bit word: number n is the bit of weight 2^(n-1).
use Rattle.std.specs.Prelude.{ℕ, ◌-◌, ◌^◌, cond}
use Rattle.std.specs.Int.Bits.{bit_or}
use Rattle.meaning.specs.Literals.{between}

-- the word w with number n too; one that no word has a bit for changes nothing
unfoldable pub with_number : ℕ → ℕ → ℕ
with_number w n = cond (between 1 64 n) (bit_or w (2 ^ (n - 1))) w
