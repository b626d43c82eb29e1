-- How a run of any machine ends. Assumes nothing.
use Prim.Native.Nat.{ℕ, zero, suc, ◌+◌, ◌-◌, ◌≤◌, ◌<◌, zero-le}
use mathlib.Core.Path.{◌≡◌, refl, sym, ◌∙◌, ap}
use mathlib.Core.Logic.{◌⊎◌, inl, inr, ⊎_elim}
use mathlib.Core.Bool.{Bool, true, false, cond, ◌||◌}
use mathlib.Core.List.{[], append-nil}
use mathlib.Core.Option.{Option, some, none}
use native.Mathlib.Omega.{arith}
use lib.ListN.{length}
use lib.Dec.{leb, ltb}
use borrow.Author.Tests.{leb-true, ltb-true}
use Rattle.claim.specs.Plain.{Machine, is_over, onward, said, after, log_after, reason_at, Exact}
use Rattle.claim.proofs.Runs.{after-add, log-add, goes_on}

-- What the four tests of a run tell.
abbrev tells : Bool → Bool → Bool → Bool → Option ℕ
tells stopped limit spent full = cond stopped (some 1) (cond limit (some 3) (cond spent (some 0) (cond full (some 2) none)))

-- Reason 2 is that of the last test, ..
tells-full : (stopped limit spent full : Bool) → tells stopped limit spent full ≡ some 2 → full ≡ true
tells-full true q b f e = let z : ◌≡◌ {A = ℕ} 1 2 = cc in absurd (omega arith)
tells-full false true b f e = let z : ◌≡◌ {A = ℕ} 3 2 = cc in absurd (omega arith)
tells-full false false true f e = let z : ◌≡◌ {A = ℕ} 0 2 = cc in absurd (omega arith)
tells-full false false false true e = refl
tells-full false false false false e = let z : ◌≡◌ {A = ℕ} 0 1 = cc in absurd (omega arith)

-- .. another that of the machine, or of the budget.
tells-end : (stopped limit spent full : Bool) (reason : ℕ) → tells stopped limit spent full ≡ some reason → (reason ≡ 2 → ⊥) → ((stopped || limit) ≡ true) ⊎ (spent ≡ true)
tells-end true q b f reason e other = inl refl
tells-end false true b f reason e other = inl refl
tells-end false false true f reason e other = inr refl
tells-end false false false true reason e other = let z : reason ≡ 2 = cc in absurd (other z)
tells-end false false false false reason e other = let z : ◌≡◌ {A = ℕ} 0 1 = cc in absurd (omega arith)

module _ (M : Machine) (code : M.Code) where
  -- A machine that is over makes no cycle, and logs no line.
  over-stays : (n : ℕ) (s : M.State) → is_over M s ≡ true → after M code n s ≡ s
  unfolding after onward
  over-stays zero s e = refl
  over-stays (suc n) s e = rw (over-stays n s e, e)

  over_says : (n : ℕ) (s : M.State) → is_over M s ≡ true → log_after M code n s ≡ []
  unfolding log_after said
  over_says zero s e = refl
  over_says (suc n) s e = rw (over_says n s e, over-stays n s e, e)

  module _ (s : M.State) (budget room : ℕ) where
    -- A run stays within its budget.
    pub run-within : (n reason : ℕ) → Exact M code s budget room n reason → n ≤ budget
    run-within zero reason x = zero-le
    run-within (suc n) reason x = (goes_on M code s budget room n (x.before n (omega arith))).1

    -- One that has room for the lines of its first cycle, and ends because the next lines don't fit, has made a cycle.
    pub run-goes_on : (n : ℕ) → Exact M code s budget room n 2 → length (M.lines code s) ≤ room → 0 < n
    unfolding reason_at after log_after
    run-goes_on zero x fits =
        let full = ltb-true room _ (tells-full (M.is_stopped s) (M.is_at_limit s) (leb budget 0) _ x.there) in
        absurd (omega arith)
    run-goes_on (suc n) x fits = omega arith

    -- One that ends for another reason leaves a machine that is over, or no budget; ..
    module _ (n reason : ℕ) (x : Exact M code s budget room n reason) (other : reason ≡ 2 → ⊥) where
      pub over-or_spent : (is_over M (after M code n s) ≡ true) ⊎ (n ≡ budget)
      unfolding reason_at
      over-or_spent =
          ⊎_elim inl (λ e. inr (spent (leb-true budget n e)))
          (tells-end (M.is_stopped (after M code n s)) (M.is_at_limit (after M code n s)) (leb budget n) full reason x.there other)
        where
          full : Bool
          full = ltb room (length (log_after M code n s) + length (M.lines code (after M code n s)))

          spent : budget ≤ n → n ≡ budget
          spent h = omega (arith, run-within n reason x)

      parts : n + (budget - n) ≡ budget
      parts = omega (arith, run-within n reason x)

      -- .. the machine is as it is after the whole budget, ..
      pub run_ends : after M code n s ≡ after M code budget s
      run_ends =
          ⊎_elim
          (λ over. sym (over-stays (budget - n) (after M code n s) over) ∙ sym (after-add M code n (budget - n) s) ∙ ap (λ (k : ℕ). after M code k s) parts)
          (ap (λ (k : ℕ). after M code k s))
          over-or_spent

      -- .. and so is the log.
      pub run_says : log_after M code n s ≡ log_after M code budget s
      run_says =
          ⊎_elim
          (λ over. sym (rw (← parts, log-add M code n (budget - n) s, over_says (budget - n) (after M code n s) over) (append-nil (log_after M code n s))))
          (ap (λ (k : ℕ). log_after M code k s))
          over-or_spent
