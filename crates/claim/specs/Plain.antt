-- The plain machine of document 01, over any machine: what it is after so many cycles, what it has logged by then, and where a run has to
-- stop.
use Rattle.std.specs.Prelude.{ℕ, zero, suc, ◌+◌, ◌<◌, ◌≡◌, Bool, false, cond, ◌||◌, List, [], ◌++◌, length, leb, ltb}
use Rattle.std.proofs.Math.Option.{Option, some, none}

-- A machine. `Code` is what no cycle changes: the program as the machine reads it, and the interrupt list. `State` is what a cycle may change:
-- the record and the memories. `lines` are the log lines of the cycle that the machine makes next.
pub record Machine : Type 1 where
  pub Code : Type 0
  pub State : Type 0
  pub cycle : Code → State → State
  pub lines : Code → State → List ℕ
  pub is_stopped : State → Bool
  pub is_at_limit : State → Bool

-- "it has stopped when its status is not 0, is at the cycle limit when its age is 2^40-1, and makes no cycle after either"
abbrev pub is_over : (M : Machine) → M.State → Bool
is_over M s = M.is_stopped s || M.is_at_limit s

module _ (M : Machine) (code : M.Code) where
  -- One cycle more, where the machine makes one; and the lines of that cycle.
  unfoldable pub onward : M.State → M.State
  onward s = cond (is_over M s) s (M.cycle code s)

  unfoldable pub said : M.State → List ℕ
  said s = cond (is_over M s) [] (M.lines code s)

  -- The plain machine after n cycles from s, and the lines of those cycles, joined. "The plain machine .. knows no calls."
  unfoldable pub after : ℕ → M.State → M.State
  after zero s = s
  after (suc n) s = onward (after n s)

  unfoldable pub log_after : ℕ → M.State → List ℕ
  log_after zero s = []
  log_after (suc n) s = log_after n s ++ said (after n s)

  -- The plain machine makes each of its first n cycles from s.
  abbrev pub Makes : ℕ → M.State → Type 0
  Makes n s = (i : ℕ) → i < n → is_over M (after i s) ≡ false

  -- "Before each cycle a run asks in this order: status not 0 (reason 1); age = 2^40-1 (reason 3); budget spent (reason 0); the cycle's lines
  -- don't fit the rest of the log (reason 2)." "Lines fit that have no more bytes than the run's log has left." Of a run from s whose log has
  -- `room` bytes, i cycles being made: its reason to stop there, or none.
  unfoldable pub reason_at : (s : M.State) (budget room i : ℕ) → Option ℕ
  reason_at s budget room i =
      cond (M.is_stopped (after i s)) (some 1)
      (cond (M.is_at_limit (after i s)) (some 3)
      (cond (leb budget i) (some 0)
      (cond (ltb room (length (log_after i s) + length (M.lines code (after i s)))) (some 2)
      none)))

  -- A run from s makes cycles exactly until it has a reason to stop: n of them, and that is its reason.
  pub record Exact (s : M.State) (budget room n reason : ℕ) : Type 0 where
    pub before : (i : ℕ) → i < n → reason_at s budget room i ≡ none
    pub there : reason_at s budget room n ≡ some reason
