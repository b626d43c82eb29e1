-- The sign of a number (for the code: `signed_text` ties it to `signed_decimal`).
use Rattle.std.specs.Prelude.{cond, ℕ, List, [], ℤ, pos}
use Rattle.std.specs.Int.Signed.{lt_z}
use Rattle.text.specs.Bytes.{bytes}

-- A minus where it is negative, and else nothing.
abbrev pub sign_of : ℤ → List ℕ
sign_of z = cond (lt_z z (pos 0)) (bytes "-") []
