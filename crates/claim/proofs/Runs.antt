-- Laws of the plain machine, and of one run from a state of it. Assumes nothing.
use Prim.Native.Nat.{ℕ, zero, suc, ◌+◌, ◌-◌, ◌<◌, ◌≤◌}
use mathlib.Core.Path.{◌≡◌, refl, sym, ap, ◌∙◌}
use mathlib.Core.Bool.{Bool, true, false, cond, ◌||◌}
use mathlib.Core.List.{◌++◌, append-nil, append_assoc}
use mathlib.Core.Option.{Option, some, none, some-ne-none}
use native.Mathlib.Nat.{add-zero, add-suc, zero-add, add_assoc}
use native.Mathlib.Numerals.{one-add}
use native.Mathlib.Omega.{arith}
use lib.ListN.{length, length-append}
use lib.Dec.{leb, ltb, leb-suc-zero, leb-suc-suc}
use borrow.Author.Tests.{leb-false, ltb-true, ltb-false, lt-ltb, le-ltb}
use Rattle.claim.specs.Plain.{Machine, is_over, onward, said, after, log_after, Makes, reason_at, Exact}
use Rattle.claim.specs.Calls.{Ran, ended, preceded, run_from}

-- p of n being used, a don't fit the rest just when p + a don't fit n.
ltb-sub : (a p n : ℕ) → p ≤ n → ltb n (p + a) ≡ ltb (n - p) a
ltb-sub a p n h = go (ltb (n - p) a) refl
  where
    go : (t : Bool) → ltb (n - p) a ≡ t → ltb n (p + a) ≡ ltb (n - p) a
    go true e = let past = ltb-true (n - p) a e in rw (e, lt-ltb n (p + a) (omega arith))
    go false e = let below = ltb-false (n - p) a e in rw (e, le-ltb n (p + a) (omega arith))

-- No reason among the four: each test is false.
no_reason : (stopped limit spent full : Bool)
    → cond {A = Option ℕ} stopped (some 1) (cond limit (some 3) (cond spent (some 0) (cond full (some 2) none))) ≡ none
    → ((stopped || limit) ≡ false) × (spent ≡ false) × (full ≡ false)
no_reason true q b f e = absurd (some-ne-none 1 e)
no_reason false true b f e = absurd (some-ne-none 3 e)
no_reason false false true f e = absurd (some-ne-none 0 e)
no_reason false false false true e = absurd (some-ne-none 2 e)
no_reason false false false false e = (refl, refl, refl)

module _ (M : Machine) (code : M.Code) where
  -- ---- the plain machine

  -- m cycles and then n are m + n cycles, ..
  pub after-add : (m n : ℕ) (s : M.State) → after M code (m + n) s ≡ after M code n (after M code m s)
  unfolding after
  after-add m zero s = rw add-zero
  after-add m (suc n) s = rw (add-suc, after-add m n s)

  -- .. so are their lines.
  pub log-add : (m n : ℕ) (s : M.State) → log_after M code (m + n) s ≡ log_after M code m s ++ log_after M code n (after M code m s)
  unfolding log_after
  log-add m zero s = rw (add-zero, append-nil)
  log-add m (suc n) s = rw (add-suc, log-add m n s, after-add m n s, append_assoc)

  -- .. All of them are made, where the first m and the n after them are.
  pub makes-add : (m n : ℕ) (s : M.State) → Makes M code m s → Makes M code n (after M code m s) → Makes M code (m + n) s
  makes-add m n s first more i h = go (ltb i m) refl
    where
      go : (p : Bool) → ltb i m ≡ p → is_over M (after M code i s) ≡ false
      go true p = first i (ltb-true i m p)
      go false p =
          let past = ltb-false i m p in
          let later : i ≡ m + (i - m) = omega arith in
          rw (later, after-add m (i - m) s) (more (i - m) (omega arith))

  -- One cycle, and its lines.
  after_one : (s : M.State) → is_over M s ≡ false → after M code 1 s ≡ M.cycle code s
  unfolding after onward
  after_one s live = rw live

  log-one : (s : M.State) → is_over M s ≡ false → log_after M code 1 s ≡ M.lines code s
  unfolding after log_after said
  log-one s live = rw live

  -- The first cycle first, ..
  pub after_front : (n : ℕ) (s : M.State) → is_over M s ≡ false → after M code (suc n) s ≡ after M code n (M.cycle code s)
  after_front n s live = rw (← one-add n, after-add 1 n s, after_one s live)

  -- .. and its lines.
  pub log-front : (n : ℕ) (s : M.State) → is_over M s ≡ false
      → log_after M code (suc n) s ≡ M.lines code s ++ log_after M code n (M.cycle code s)
  log-front n s live = rw (← one-add n, log-add 1 n s, after_one s live, log-one s live)

  -- ---- one run

  -- A run that has no reason to stop: the machine makes its next cycle, budget is left, and there is room for the lines.
  pub goes_on : (s : M.State) (budget room i : ℕ) → reason_at M code s budget room i ≡ none
      → (is_over M (after M code i s) ≡ false) × (i < budget) × (length (log_after M code i s) + length (M.lines code (after M code i s)) ≤ room)
  unfolding reason_at
  goes_on s budget room i e =
      let tests = no_reason (M.is_stopped (after M code i s)) (M.is_at_limit (after M code i s)) _ _ e in
      (tests.0, leb-false _ _ tests.1, ltb-false _ _ tests.2)

  -- All the cycles before an exact end are made.
  pub exact_makes : (s : M.State) (budget room n reason : ℕ) → Exact M code s budget room n reason → Makes M code n s
  exact_makes s budget room n reason e i h = (goes_on s budget room i (e.before i h)).0

  -- The lines of all cycles before a reason fit the log.
  pub within : (s : M.State) (budget room n : ℕ) → ((i : ℕ) → i < n → reason_at M code s budget room i ≡ none)
      → length (log_after M code n s) ≤ room
  unfolding log_after said
  within s budget room zero before = omega arith
  within s budget room (suc n) before =
      let goes = goes_on s budget room n (before n (omega arith)) in
      rw (goes.0, length-append) goes.2

  -- A run's reasons from its first cycle on are those of a run that begins after it, with less budget and less room.
  reason-front : (s : M.State) (budget room i : ℕ) → is_over M s ≡ false → length (M.lines code s) ≤ room
      → reason_at M code s (suc budget) room (suc i) ≡ reason_at M code (M.cycle code s) budget (room - length (M.lines code s)) i
  unfolding reason_at
  reason-front s budget room i live fits =
      rw (after_front i s live, log-front i s live, leb-suc-suc, length-append, add_assoc, ltb-sub _ _ _ fits)

  -- Before its first cycle.
  reason-first : (s : M.State) (budget room : ℕ)
      → reason_at M code s budget room 0
      ≡ cond (M.is_stopped s) (some 1)
      (cond (M.is_at_limit s) (some 3)
      (cond (leb budget 0) (some 0)
      (cond (ltb room (length (M.lines code s))) (some 2)
      none)))
  unfolding reason_at after log_after
  reason-first s budget room = rw zero-add

  -- What a run makes: cycles exactly until it has a reason to stop, and the plain machine's state and lines after as many.
  pub record Runs (s : M.State) (budget room : ℕ) (r : Ran M.State) : Type 0 where
    pub exact : Exact M code s budget room r.cycles r.reason
    pub state : r.state ≡ after M code r.cycles s
    pub lines : r.lines ≡ log_after M code r.cycles s

  -- A reason before the first cycle.
  at_once : (s : M.State) (budget room reason : ℕ) → reason_at M code s budget room 0 ≡ some reason → Runs s budget room (ended M code s reason)
  unfolding after log_after
  at_once s budget room reason e = record { exact = record { before = λ i h. absurd (omega arith); there = e }; state = refl; lines = refl }

  -- A cycle, and then a run.
  and_then : (s : M.State) (budget room : ℕ) (r : Ran M.State) → reason_at M code s (suc budget) room 0 ≡ none
      → is_over M s ≡ false → length (M.lines code s) ≤ room
      → Runs (M.cycle code s) budget (room - length (M.lines code s)) r → Runs s (suc budget) room (preceded M code (M.lines code s) r)
  and_then s budget room r e live fits more =
      record {
        exact = record { before = first; there = rw reason-front more.exact.there };
        state = rw after_front more.state;
        lines = rw (log-front, more.lines);
      }
    where
      first : (i : ℕ) → i < suc r.cycles → reason_at M code s (suc budget) room i ≡ none
      first zero h = e
      first (suc i) h = rw reason-front (more.exact.before i (omega arith))

  -- The definition that the contract of run cites makes just that.
  pub runs : (budget room : ℕ) (s : M.State) → Runs s budget room (run_from M code budget room s)
  unfolding run_from
  runs zero room s = at_once s 0 room _ (reason-first s 0 room ∙ go (M.is_stopped s) (M.is_at_limit s))
    where
      go : (p q : Bool) → cond {A = Option ℕ} p (some 1) (cond q (some 3) (some 0)) ≡ some (cond p 1 (cond q 3 0))
      go true q = refl
      go false true = refl
      go false false = refl
  runs (suc budget) room s =
      go (M.is_stopped s) refl (M.is_at_limit s) refl (ltb room (length (M.lines code s))) refl
      (runs budget (room - length (M.lines code s)) (M.cycle code s))
    where
      go : (p : Bool) → M.is_stopped s ≡ p → (q : Bool) → M.is_at_limit s ≡ q → (f : Bool) → ltb room (length (M.lines code s)) ≡ f
          → Runs (M.cycle code s) budget (room - length (M.lines code s)) (run_from M code budget (room - length (M.lines code s)) (M.cycle code s))
          → Runs s (suc budget) room (run_from M code (suc budget) room s)
      go true p b q c f more = rw p (at_once s _ room 1 (reason-first s (suc budget) room ∙ rw p))
      go false p true q c f more = rw (p, q) (at_once s _ room 3 (reason-first s (suc budget) room ∙ rw (p, q)))
      go false p false q true f more = rw (p, q, f) (at_once s _ room 2 (reason-first s (suc budget) room ∙ rw (p, q, leb-suc-zero, f)))
      go false p false q false f more =
          rw (p, q, f)
          (and_then s budget room _ (reason-first s (suc budget) room ∙ rw (p, q, leb-suc-zero, f)) (rw (p, q)) (ltb-false _ _ f) more)

  -- No run goes on past a reason to stop.
  not_past : (s : M.State) (budget room n reason k r : ℕ) → Exact M code s budget room n reason → reason_at M code s budget room k ≡ some r → n ≤ k
  not_past s budget room n reason k r e stops = go (ltb k n) refl
    where
      go : (p : Bool) → ltb k n ≡ p → n ≤ k
      go true p = absurd (some-ne-none r (sym stops ∙ e.before k (ltb-true k n p)))
      go false p = ltb-false k n p

  -- No other number of cycles is exact, and no other reason.
  pub exact_one : (s : M.State) (budget room n reason n' reason' : ℕ)
      → Exact M code s budget room n reason → Exact M code s budget room n' reason' → (n ≡ n') × (reason ≡ reason')
  exact_one s budget room n reason n' reason' e e' =
      let low = not_past s budget room n reason n' reason' e e'.there in
      let high = not_past s budget room n' reason' n reason e' e.there in
      let same : n ≡ n' = omega arith in
      (same, cc (e.there, e'.there))

  -- The only run: what run_from makes, from its cycles and its reason.
  pub run_is : (s : M.State) (budget room n reason : ℕ) → Exact M code s budget room n reason
      → run_from M code budget room s ≡ record { state = after M code n s; cycles = n; lines = log_after M code n s; reason = reason }
  run_is s budget room n reason e i =
      let r = runs budget room s in
      let one = exact_one s budget room _ _ n reason r.exact e in
      record {
        state = (r.state ∙ ap (λ (k : ℕ). after M code k s) one.0) i;
        cycles = one.0 i;
        lines = (r.lines ∙ ap (λ (k : ℕ). log_after M code k s) one.0) i;
        reason = one.1 i;
      }
