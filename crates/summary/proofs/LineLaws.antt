-- The lines E and N, as the code puts their pieces, and how long they are. Assumes nothing.
use Prim.Native.Char.{code}
use Prim.Native.Nat.{ℕ, ◌+◌, ◌^◌, ◌≤◌, ◌<◌}
use mathlib.Core.Path.{◌≡◌, refl, sym, ◌∙◌, ap}
use mathlib.Core.List.{List, [], ◌∷◌, ◌++◌, append_assoc}
use native.Mathlib.Omega.{arith}
use lib.ListN.{length, set, length-append}
use Rattle.text.specs.Numerals.{digit_count, decimal}
use Rattle.text.specs.Lines.{LF}
use Rattle.text.specs.Place.{put}
use Rattle.text.proofs.DecimalLaws.{length-decimal, count_le}
use Rattle.trace.specs.LogLines.{field}
use Rattle.text.proofs.PieceLaws.{more, after_store}
use Rattle.summary.specs.Milliseconds.{milliseconds}
use Rattle.summary.specs.ClosingLines.{line_e, line_n}
use Rattle.summary.proofs.TimeLaws.{half_a_step}

-- ---- how long they are

-- The letter, three spaces and the LF, beside three numbers; ..
pub length-E : (status age : ℕ) → length (line_e status age) ≡ 5 + digit_count 10 status + digit_count 10 age + digit_count 10 (milliseconds age)
unfolding line_e
length-E status age = simp (length-append, length-decimal) (omega arith)

-- .. or two spaces, beside two.
pub length-N : (number line : ℕ) → length (line_n number line) ≡ 4 + digit_count 10 number + digit_count 10 line
unfolding line_n
length-N number line = simp (length-append, length-decimal) (omega arith)

-- A number of 64 bits has at most 20 digits.
few : (v : ℕ) → v < 2 ^ 64 → digit_count 10 v ≤ 20
few v h = count_le 10 (omega arith) 19 v (omega arith)

-- So the lines have at most 65 and 44 bytes.
pub short_E : (status age : ℕ) → status < 2 ^ 64 → age < 2 ^ 64 → length (line_e status age) ≤ 65
short_E status age hs ha =
    let time : milliseconds age < 2 ^ 64 = omega (arith, (half_a_step age).0) in
    rw length-E (omega (arith, few status hs, few age ha, few (milliseconds age) time))

pub short_N : (number line : ℕ) → number < 2 ^ 64 → line < 2 ^ 64 → length (line_n number line) ≤ 44
short_N number line hn hl = rw length-N (omega (arith, few number hn, few line hl))

-- ---- their pieces

-- A letter is stored and a number put after it, ..
pub letter_put : (letter v at : ℕ) (d e : List ℕ) → e ≡ put (set d at letter) (at + 1) (field (decimal v)) → e ≡ put d at (letter ∷ field (decimal v))
letter_put letter v at d e p = after_store d e at (at + 1) letter (field (decimal v)) refl p

-- .. then, in line E, a second and a last one, ..
pub line_e_put : (status age at p q : ℕ) (d e f g : List ℕ) → p ≡ at + 1 + 1 + digit_count 10 status → q ≡ p + 1 + digit_count 10 age
    → e ≡ put (set d at (code "E")) (at + 1) (field (decimal status)) → f ≡ put e p (field (decimal age))
    → g ≡ put f q (field (decimal (milliseconds age)) ++ (LF ∷ []))
    → g ≡ put d at (line_e status age)
unfolding line_e
line_e_put status age at p q d e f g pe qe first second last =
    let front = code "E" ∷ field (decimal status) in
    more d f g at q (front ++ field (decimal age)) _ (simp (length-append, length-decimal) (omega arith))
    (more d e f at p front _ (simp length-decimal (omega arith)) (letter_put (code "E") status at d e first) second)
    last
    ∙ ap (put d at) (sym (append_assoc (front ++ field (decimal age)) (field (decimal (milliseconds age))) (LF ∷ [])))

-- .. and in line N the last.
pub line_n_put : (number line at p : ℕ) (d e f : List ℕ) → p ≡ at + 1 + 1 + digit_count 10 number
    → e ≡ put (set d at (code "N")) (at + 1) (field (decimal number)) → f ≡ put e p (field (decimal line) ++ (LF ∷ []))
    → f ≡ put d at (line_n number line)
unfolding line_n
line_n_put number line at p d e f pe first last =
    let front = code "N" ∷ field (decimal number) in
    more d e f at p front _ (simp length-decimal (omega arith)) (letter_put (code "N") number at d e first) last
    ∙ ap (put d at) (sym (append_assoc front (field (decimal line)) (LF ∷ [])))
