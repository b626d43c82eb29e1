-- Laws of the lines of a text. Assumes nothing.
use Prim.Native.Nat.{ℕ, zero, suc, ◌+◌, ◌-◌, ◌≤◌, ◌<◌}
use mathlib.Core.Path.{◌≡◌, refl, ◌∙◌, ap}
use mathlib.Core.Bool.{Bool, true, false, cond, ◌||◌, true≢false}
use mathlib.Core.List.{List, [], ◌∷◌, ◌++◌, map}
use native.Mathlib.Nat.{add-suc, not-suc-le-zero, le_of_suc-le-suc}
use native.Mathlib.Omega.{arith}
use native.Mathlib.Numerals.{add-one}
use lib.ListN.{length, get_or, take, drop, length-drop, drop_of_length-le, take-append-drop}
use lib.Seq.{drop-cons, drop-drop, get_or-drop, length-take-le}
use lib.Dec.{eqb, ltb, leb-suc-suc}
use borrow.Author.Tests.{lt-ltb, ltb-true, ltb-false, eq-eqb, ne_eqb, eqb-true, eqb-false}
use Rattle.text.specs.Lines.{LF, lines, in_front, first_line, has_lf, unlines, ends_line}
use Rattle.text.specs.Numerals.{digit_value, digits, all_digits}
use Rattle.text.proofs.Truth.{and_left, and_right, neither, leb-sub}
use Rattle.text.proofs.DigitLaws.{all-written}

-- No byte of the list is an LF.
unfoldable pub NoLF : List ℕ → Type 0
NoLF [] = Unit {0}
NoLF (c ∷ s) = (c ≡ LF → ⊥) × NoLF s

pub no_lf_append : (a b : List ℕ) → NoLF a → NoLF b → NoLF (a ++ b)
unfolding NoLF
no_lf_append [] b na nb = nb
no_lf_append (c ∷ a) b na nb = (na.0, no_lf_append a b na.1 nb)

-- None of the lines has one.
unfoldable pub NoneLF : List (List ℕ) → Type 0
NoneLF [] = Unit {0}
NoneLF (l ∷ ls) = NoLF l × NoneLF ls

pub lines-line : (l s : List ℕ) → NoLF l → lines (l ++ (LF ∷ s)) ≡ l ∷ lines s
unfolding NoLF lines
lines-line [] s h = refl
lines-line (c ∷ l) s h = rw (ne_eqb c LF h.0, lines-line l s h.1)

pub lines-last : (l : List ℕ) → NoLF l → 0 < length l → lines l ≡ l ∷ []
unfolding NoLF lines
lines-last [] n h = absurd (not-suc-le-zero h)
lines-last (c ∷ []) n h = rw (ne_eqb c LF n.0)
lines-last (c ∷ d ∷ l) n h = rw (ne_eqb c LF n.0, lines-last (d ∷ l) n.1 (omega arith))

-- Digits have no LF among them.
pub digits_no_lf : (b : ℕ) (l : List ℕ) → b ≤ 16 → all_digits b l ≡ true → NoLF l
unfolding NoLF all_digits
digits_no_lf b [] h e = tt
digits_no_lf b (c ∷ l) h e =
    let d = ltb-true (digit_value c) b (and_left (ltb (digit_value c) b) (all_digits b l) e) in (
      (λ q. let over : digit_value c ≡ 16 = ap digit_value q in omega arith),
      digits_no_lf b l h (and_right (ltb (digit_value c) b) (all_digits b l) e),
    )

pub written_no_lf : (b k : ℕ) → 0 < b → b ≤ 16 → (vs : List ℕ) → NoneLF (map (digits b k) vs)
unfolding NoneLF
written_no_lf b k some few [] = tt
written_no_lf b k some few (v ∷ vs) = (digits_no_lf b (digits b k v) few (all-written b some few k v), written_no_lf b k some few vs)

-- What is written as lines reads as those lines.
pub lines-unlines : (ls : List (List ℕ)) → NoneLF ls → lines (unlines ls) ≡ ls
unfolding NoneLF unlines lines
lines-unlines [] h = refl
lines-unlines (l ∷ ls) h = lines-line l (unlines ls) h.0 ∙ ap (λ (r : List (List ℕ)). l ∷ r) (lines-unlines ls h.1)

-- ---- the first line

-- Where it ends: at an LF or at the end of the text.
first_lf_lem : (c : ℕ) (s : List ℕ) → c ≡ LF → first_line (c ∷ s) ≡ []
unfolding first_line
first_lf_lem c s e = rw (eq-eqb c LF e)

first_more : (c : ℕ) (s : List ℕ) → (c ≡ LF → ⊥) → first_line (c ∷ s) ≡ c ∷ first_line s
unfolding first_line
first_more c s e = rw (ne_eqb c LF e)

pub first_le : (s : List ℕ) → length (first_line s) ≤ length s
unfolding first_line
first_le [] = omega arith
first_le (c ∷ s) = go (eqb c LF) (first_le s)
  where
    go : (t : Bool) → length (first_line s) ≤ length s → length (cond t [] (c ∷ first_line s)) ≤ suc (length s)
    go true h = omega arith
    go false h = omega arith

-- It is a front of the text.
pub first-front : (s : List ℕ) → take (length (first_line s)) s ≡ first_line s
unfolding first_line
first-front [] = refl
first-front (c ∷ s) = go (eqb c LF) (first-front s)
  where
    go : (t : Bool) → take (length (first_line s)) s ≡ first_line s → take (length (cond t [] (c ∷ first_line s))) (c ∷ s) ≡ cond t [] (c ∷ first_line s)
    go true h = refl
    go false h = ap (λ (l : List ℕ). c ∷ l) h

-- An LF follows it, or the text ends.
pub first_stop : (s : List ℕ) → length (first_line s) < length s → get_or s (length (first_line s)) 0 ≡ LF
unfolding first_line
first_stop [] h = absurd (not-suc-le-zero h)
first_stop (c ∷ s) h = go (eqb c LF) refl (first_stop s) h
  where
    go : (t : Bool) → eqb c LF ≡ t → (length (first_line s) < length s → get_or s (length (first_line s)) 0 ≡ LF)
        → length (cond t [] (c ∷ first_line s)) < suc (length s) → get_or (c ∷ s) (length (cond t [] (c ∷ first_line s))) 0 ≡ LF
    go true e ih h = eqb-true c LF e
    go false e ih h = ih (le_of_suc-le-suc h)

-- It ends where a line can end.
pub first_ends : (s : List ℕ) → ends_line s (length (first_line s)) ≡ true
first_ends s = go (ltb (length (first_line s)) (length s)) refl
  where
    go : (t : Bool) → ltb (length (first_line s)) (length s) ≡ t → cond t (eqb (get_or s (length (first_line s)) 0) LF) true ≡ true
    go true e = eq-eqb _ _ (first_stop s (ltb-true _ _ e))
    go false e = refl

-- Where no line can end the text goes on.
pub goes_on : (s : List ℕ) (n : ℕ) → ends_line s n ≡ false → n < length s
goes_on s n e = go (ltb n (length s)) refl e
  where
    go : (t : Bool) → ltb n (length s) ≡ t → cond t (eqb (get_or s n 0) LF) true ≡ false → n < length s
    go true h e = ltb-true n (length s) h
    go false h e = absurd (true≢false e)

-- Bytes without an LF, where a line can end after them, are the first line.
pub first-is : (k : ℕ) (s : List ℕ) → k ≤ length s → NoLF (take k s) → ends_line s k ≡ true → first_line s ≡ take k s
unfolding NoLF first_line
first-is zero [] h n e = refl
first-is zero (c ∷ s) h n e = let here = rw (lt-ltb 0 (suc (length s)) (omega arith)) at e in rw here
first-is (suc k) [] h n e = absurd (not-suc-le-zero h)
first-is (suc k) (c ∷ s) h n e = rw (ne_eqb c LF n.0) (ap (λ (l : List ℕ). c ∷ l) (first-is k s (le_of_suc-le-suc h) n.1 (rw (leb-suc-suc (suc k) (length s)) at e)))

-- The same of a text from a place on.
pub ends-drop : (s : List ℕ) (p k : ℕ) → p ≤ length s → ends_line (drop p s) k ≡ ends_line s (p + k)
ends-drop s p k h = rw (length-drop, get_or-drop, leb-sub (suc k) p (length s) h, add-suc)

-- The lines of a text that has bytes: the first, and those after its LF.
pub lines-first : (s : List ℕ) → 0 < length s → lines s ≡ first_line s ∷ lines (drop (suc (length (first_line s))) s)
unfolding first_line lines
lines-first [] h = absurd (not-suc-le-zero h)
lines-first (c ∷ []) h = go (eqb c LF)
  where
    go : (t : Bool) → cond t ([] ∷ []) ((c ∷ []) ∷ []) ≡ cond t [] (c ∷ []) ∷ lines (drop (length (cond t [] (c ∷ []))) [])
    go true = refl
    go false = refl
lines-first (c ∷ d ∷ s) h = go (eqb c LF) (lines-first (d ∷ s) (omega arith))
  where
    go : (t : Bool) → lines (d ∷ s) ≡ first_line (d ∷ s) ∷ lines (drop (length (first_line (d ∷ s))) s)
        → cond t ([] ∷ lines (d ∷ s)) (in_front c (lines (d ∷ s)))
        ≡ cond t [] (c ∷ first_line (d ∷ s)) ∷ lines (drop (length (cond t [] (c ∷ first_line (d ∷ s)))) (d ∷ s))
    go true e = refl
    go false e = ap (in_front c) e

-- ---- by places in the text

-- The lines from a place on: the line there, which ends at e, and those after its LF.
pub lines_at_lem : (s : List ℕ) (p e : ℕ) → p < length s → e ≡ p + length (first_line (drop p s))
    → lines (drop p s) ≡ take (e - p) (drop p s) ∷ lines (drop (e + 1) s)
lines_at_lem s p e h q =
    let n = length (first_line (drop p s)) in
    let size : e - p ≡ n = omega arith in
    let next : e + 1 ≡ p + suc n = omega arith in
    lines-first (drop p s) (rw length-drop (omega arith)) ∙ rw (size, next, first-front, drop-drop)

-- The search for a line's end: it goes past a byte that is no LF, and stops at an LF and at the end of the text.
module _ (s : List ℕ) (p : ℕ) where
  pub end_more : p < length s → (get_or s p 0 ≡ LF → ⊥)
      → p + 1 + length (first_line (drop (p + 1) s)) ≡ p + length (first_line (drop p s))
  end_more h other = rw (add-one p, drop-cons s p 0 h, first_more _ _ other) (omega arith)

  end-here : p < length s → get_or s p 0 ≡ LF → p ≡ p + length (first_line (drop p s))
  end-here h here = rw (drop-cons s p 0 h, first_lf_lem _ _ here) (omega arith)

  end_past : length s ≤ p → p ≡ p + length (first_line (drop p s))
  unfolding first_line
  end_past h = rw (drop_of_length-le s h) (omega arith)

  -- It has come to the line's end where it has stopped at an LF, or at the end of the text.
  pub end-at : p ≤ length s → (p < length s → get_or s p 0 ≡ LF) → p ≡ p + length (first_line (drop p s))
  end-at h here = go (ltb p (length s)) refl
    where
      go : (t : Bool) → ltb p (length s) ≡ t → p ≡ p + length (first_line (drop p s))
      go true e = let inside = ltb-true p (length s) e in end-here inside (here inside)
      go false e = end_past (ltb-false p (length s) e)

-- ---- an LF among bytes

no_lf : (s : List ℕ) → has_lf s ≡ false → NoLF s
unfolding has_lf NoLF
no_lf [] e = tt
no_lf (c ∷ s) e = let n = neither (eqb c LF) (has_lf s) e in (eqb-false c LF n.0, no_lf s n.1)

-- The search goes past bytes without one.
first-after : (a s : List ℕ) → NoLF a → length (first_line (a ++ s)) ≡ length a + length (first_line s)
unfolding NoLF first_line
first-after [] s n = omega arith
first-after (c ∷ a) s n = rw (ne_eqb c LF n.0) (let rest = first-after a s n.1 in omega arith)

pub end_after : (s : List ℕ) (p k : ℕ) → p + k ≤ length s → has_lf (take k (drop p s)) ≡ false
    → p + k + length (first_line (drop (p + k) s)) ≡ p + length (first_line (drop p s))
end_after s p k h e =
    let size : length (take k (drop p s)) ≡ k = length-take-le k (drop p s) (rw length-drop (omega arith)) in
    let split : take k (drop p s) ++ drop (p + k) s ≡ drop p s = rw (← drop-drop) (take-append-drop k (drop p s)) in
    let past = first-after (take k (drop p s)) (drop (p + k) s) (no_lf (take k (drop p s)) e) in
    rw (← split) (omega arith)

-- The bytes are looked at one by one.
module _ (s : List ℕ) (i : ℕ) (found : Bool) where
  pub lf_more : i < length s → (found || eqb (get_or s i 0) LF || has_lf (drop (i + 1) s)) ≡ (found || has_lf (drop i s))
  unfolding has_lf
  lf_more h = rw (add-one i, drop-cons s i 0 h) (go found)
    where
      go : (b : Bool) → (b || eqb (get_or s i 0) LF || has_lf (drop (suc i) s)) ≡ (b || (eqb (get_or s i 0) LF || has_lf (drop (suc i) s)))
      go true = refl
      go false = refl

  pub lf_past : length s ≤ i → found ≡ (found || has_lf (drop i s))
  unfolding has_lf
  lf_past h = rw (drop_of_length-le s h) (go found)
    where
      go : (b : Bool) → b ≡ (b || false)
      go true = refl
      go false = refl
