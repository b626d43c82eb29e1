-- "Build the saved bytes a 32-bit word at a time, the bytes left over singly .."
use Rattle.std.specs.Prelude.{ℕ, suc, ◌-◌, ◌*◌, List}
use Rattle.bitpack.specs.Bits.{bits}
use Rattle.bitpack.specs.Packed.{total, packed}

-- "Each word is proved to be its 32 bits of the record": word k of packed values is bits 32 * k to 32 * k + 31 of their number, counted from its
-- high end, where there are so many.
unfoldable pub word_of : List ℕ → List ℕ → ℕ → ℕ
word_of ws vs k = bits (packed ws vs) (total ws - 32 * suc k) 32
