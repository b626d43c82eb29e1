-- The questions of a line: their numbers, and what a yes to all of them says. Assumes nothing.
use Prim.Native.Nat.{ℕ, ◌≤◌}
use mathlib.Core.Path.{◌≡◌, refl}
use mathlib.Core.Bool.{Bool, true, false, cond, not, ◌&&◌, ◌||◌}
use mathlib.Core.List.{List, [], ◌∷◌}
use native.Mathlib.Omega.{arith}
use lib.Dec.{leb, ltb}
use lib.ListN.{length}
use Rattle.text.specs.declared.Outcome.{Outcome}
use Rattle.text.specs.Questions.{Question, accepted, refused, first_no}
use Rattle.text.proofs.QuestionLaws.{first_yes}
use Rattle.source.specs.Bytes.{are_right_bytes}
use Rattle.source.specs.Lookup.{is_among}
use Rattle.lines.specs.declared.Form.{Form}
use Rattle.lines.specs.Line.{form_of, is_right, has_label, has_code, has_word, label_of, operand}
use Rattle.lines.specs.Asked.{is_known, are_in_range, is_word_in_range}
use Rattle.labels.specs.Text.{code_count, labels}
use Rattle.labels.specs.Limits.{most_labels}
use Rattle.statements.specs.Questions.{asked_if, is_usable, last_address, line_questions}

-- ---- the first no

-- Questions have numbers from 2 to 8.
InRange : List Question → Type 0
InRange [] = Unit {0}
InRange (q ∷ qs) = ((2 ≤ q.0) × (q.0 ≤ 8)) × InRange qs

-- Where none gets a no, what comes next is told, ..
none-refused : (qs : List Question) (p : ℕ) (next : Outcome) → InRange qs → (first_no qs 0 (accepted 0)).number ≡ 0 → first_no qs p next ≡ next
unfolding InRange
none-refused [] p next r e = refl
none-refused (q ∷ qs) p next r e =
    let yes-it = first_yes q.0 0 q.1 (first_no qs 0 (accepted 0)) (omega (arith, r.0.0)) e in
    rw yes-it.0 (none-refused qs p next r.1 yes-it.1)

-- .. and else the first no, with its place, ..
one-refused : (qs : List Question) (p : ℕ) (next : Outcome) → ((first_no qs 0 (accepted 0)).number ≡ 0 → ⊥) → first_no qs p next ≡ refused (first_no qs 0 (accepted 0)).number p
one-refused [] p next n = absurd (n refl)
one-refused (q ∷ qs) p next n = go q.1 (one-refused qs p next) n
  where
    go : (b : Bool) → (((first_no qs 0 (accepted 0)).number ≡ 0 → ⊥) → first_no qs p next ≡ refused (first_no qs 0 (accepted 0)).number p)
        → ((cond b (first_no qs 0 (accepted 0)) (refused q.0 0)).number ≡ 0 → ⊥)
        → cond b (first_no qs p next) (refused q.0 p) ≡ refused (cond b (first_no qs 0 (accepted 0)) (refused q.0 0)).number p
    go true more n = more n
    go false more n = refl

-- .. whose number is one of theirs.
number_in : (qs : List Question) → InRange qs → ((first_no qs 0 (accepted 0)).number ≡ 0 → ⊥) → (2 ≤ (first_no qs 0 (accepted 0)).number) × ((first_no qs 0 (accepted 0)).number ≤ 8)
unfolding InRange
number_in [] r n = absurd (n refl)
number_in (q ∷ qs) r n = go q.1 (number_in qs r.1) n
  where
    go : (b : Bool) → (((first_no qs 0 (accepted 0)).number ≡ 0 → ⊥) → (2 ≤ (first_no qs 0 (accepted 0)).number) × ((first_no qs 0 (accepted 0)).number ≤ 8))
        → ((cond b (first_no qs 0 (accepted 0)) (refused q.0 0)).number ≡ 0 → ⊥)
        → (2 ≤ (cond b (first_no qs 0 (accepted 0)) (refused q.0 0)).number) × ((cond b (first_no qs 0 (accepted 0)) (refused q.0 0)).number ≤ 8)
    go true more n = more n
    go false more n = r.0

-- ---- the questions of a line

module _ (all before : List (List ℕ)) (line : List ℕ) where
  in_range : InRange (line_questions all before line)
  unfolding line_questions InRange
  in_range =
      ((omega arith, omega arith), ((omega arith, omega arith), ((omega arith, omega arith), ((omega arith, omega arith), ((omega arith, omega arith), ((omega arith, omega arith), ((omega arith, omega arith), tt)))))))

  abbrev first_number : ℕ
  first_number = (first_no (line_questions all before line) 0 (accepted 0)).number

  -- A line that gets no no, ..
  pub line_passes : (p : ℕ) (next : Outcome) → first_number ≡ 0 → first_no (line_questions all before line) p next ≡ next
  line_passes p next e = none-refused (line_questions all before line) p next in_range e

  -- .. and one that gets one.
  pub line_fails : (p : ℕ) (next : Outcome) → (first_number ≡ 0 → ⊥) → first_no (line_questions all before line) p next ≡ refused first_number p
  line_fails p next n = one-refused (line_questions all before line) p next n

  pub line-number : (first_number ≡ 0 → ⊥) → (2 ≤ first_number) × (first_number ≤ 8)
  line-number n = number_in (line_questions all before line) in_range n

-- A line that got no no, as far as the memories need it.
pub record GoodLine (all before : List (List ℕ)) (line : List ℕ) (f : Form) : Type 0 where
  pub right : is_right f ≡ true
  pub known : asked_if (has_code f) (is_known f line) ≡ true
  pub fresh : asked_if (has_label f) (not (is_among (labels before) (label_of line))) ≡ true
  pub defined : asked_if (has_code f) (is_usable (labels all) (operand 4 f line) && is_usable (labels all) (operand 5 f line)) ≡ true
  pub placed : (asked_if (has_code f || has_label f) (leb (code_count before) last_address) && asked_if (has_label f) (ltb (length (labels before)) most_labels)) ≡ true

seven : (a b d e g h k : Bool) → (first_no ((2, a) ∷ (3, b) ∷ (4, d) ∷ (5, e) ∷ (6, g) ∷ (7, h) ∷ (8, k) ∷ []) 0 (accepted 0)).number ≡ 0 → (b ≡ true) × (d ≡ true) × (g ≡ true) × (h ≡ true) × (k ≡ true)
seven a b d e g h k q =
    let q2 = (first_yes 2 0 a (first_no ((3, b) ∷ (4, d) ∷ (5, e) ∷ (6, g) ∷ (7, h) ∷ (8, k) ∷ []) 0 (accepted 0)) (omega arith) q).1 in
    let q3 = first_yes 3 0 b (first_no ((4, d) ∷ (5, e) ∷ (6, g) ∷ (7, h) ∷ (8, k) ∷ []) 0 (accepted 0)) (omega arith) q2 in
    let q4 = first_yes 4 0 d (first_no ((5, e) ∷ (6, g) ∷ (7, h) ∷ (8, k) ∷ []) 0 (accepted 0)) (omega arith) q3.1 in
    let q5 = (first_yes 5 0 e (first_no ((6, g) ∷ (7, h) ∷ (8, k) ∷ []) 0 (accepted 0)) (omega arith) q4.1).1 in
    let q6 = first_yes 6 0 g (first_no ((7, h) ∷ (8, k) ∷ []) 0 (accepted 0)) (omega arith) q5 in
    let q7 = first_yes 7 0 h (first_no ((8, k) ∷ []) 0 (accepted 0)) (omega arith) q6.1 in
    let q8 = first_yes 8 0 k (accepted 0) (omega arith) q7.1 in
    (q3.0, q4.0, q6.0, q7.0, q8.0)

pub passed : (all before : List (List ℕ)) (line : List ℕ) (f : Form) → f ≡ form_of line → (first_no (line_questions all before line) 0 (accepted 0)).number ≡ 0 → GoodLine all before line f
unfolding line_questions
passed all before line f form q =
    let g = form_of line in
    let r =
    seven (are_right_bytes line) (is_right g) (asked_if (has_code g) (is_known g line)) (asked_if (has_code g) (are_in_range g line) && asked_if (has_word g) (is_word_in_range line))
    (asked_if (has_label g) (not (is_among (labels before) (label_of line))))
    (asked_if (has_code g) (is_usable (labels all) (operand 4 g line) && is_usable (labels all) (operand 5 g line)))
    (asked_if (has_code g || has_label g) (leb (code_count before) last_address) && asked_if (has_label g) (ltb (length (labels before)) most_labels))
    q in
    rw form (record { right = r.0; known = r.1; fresh = r.2; defined = r.3; placed = r.4 })
