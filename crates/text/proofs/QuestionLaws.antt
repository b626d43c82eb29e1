-- Laws of questions asked in an order, and of the outcome. Assumes nothing.
use Prim.Native.Nat.{ℕ, ◌+◌, ◌<◌}
use mathlib.Core.Path.{◌≡◌, refl, sym}
use mathlib.Core.Bool.{Bool, true, false, cond}
use mathlib.Core.List.{List, [], ◌∷◌}
use native.Mathlib.Omega.{arith}
use Rattle.text.specs.declared.Outcome.{Outcome}
use Rattle.text.specs.Questions.{Question, accepted, refused, first_no, first_bad}
use Rattle.text.proofs.Truth.{either}

-- Where a call is accepted each question got a yes. Of the first of them, and of what is told then (as `first_no` computes):
pub first_yes : (n p : ℕ) (a : Bool) (t : Outcome) → 0 < n → (cond a t (refused n p)).number ≡ 0 → (a ≡ true) × (t.number ≡ 0)
first_yes n p true t h e = (refl, e)
first_yes n p false t h e = absurd (omega arith)

-- ---- an outcome by its numbers

abbrev pub outcome : (number place count : ℕ) → Outcome
outcome number place count = record { number = number; place = place; count = count }

pub outcome-is : {n p c : ℕ} (o : Outcome) → n ≡ o.number → p ≡ o.place → c ≡ o.count → outcome n p c ≡ o
outcome-is o a b d i = record { number = a i; place = b i; count = d i }

-- Questions that have no place give an outcome without one.
pub placeless : (qs : List Question) (n : ℕ) → (first_no qs 0 (accepted n)).place ≡ 0
placeless [] n = refl
placeless (q ∷ qs) n = either (λ (o : Outcome). o.place ≡ 0) q.1 (placeless qs n) refl

-- Where the outcome of an accepted call has no count, that of the call has none, ..
pub uncounted : (qs : List Question) (place : ℕ) (next : Outcome) → next.count ≡ 0 → (first_no qs place next).count ≡ 0
uncounted [] place next e = e
uncounted (q ∷ qs) place next e = either (λ (o : Outcome). o.count ≡ 0) q.1 (uncounted qs place next e) refl

-- .. also where the questions are asked of lines.
pub lines_uncounted : (ask : ℕ → List ℕ → List Question) (i : ℕ) (ls : List (List ℕ)) (next : Outcome) → next.count ≡ 0 → (first_bad ask i ls next).count ≡ 0
unfolding first_bad
lines_uncounted ask i [] next e = e
lines_uncounted ask i (l ∷ ls) next e = uncounted (ask i l) (i + 1) _ (lines_uncounted ask (i + 1) ls next e)

-- A call that asks without a place and a count, by its number.
pub by_number : (qs : List Question) {r : ℕ} → r ≡ (first_no qs 0 (accepted 0)).number → refused r 0 ≡ first_no qs 0 (accepted 0)
by_number qs e = outcome-is (first_no qs 0 (accepted 0)) e (sym (placeless qs 0)) (sym (uncounted qs 0 (accepted 0) refl))
