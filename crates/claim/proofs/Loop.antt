-- A loop that makes a run: what holds each time round, for the invariant of any machine's run. Assumes nothing.
use Prim.Native.Nat.{ℕ, suc, ◌+◌, ◌≤◌, ◌<◌}
use mathlib.Core.Path.{◌≡◌, refl, sym, ◌∙◌}
use mathlib.Core.Bool.{Bool, true, false, cond}
use mathlib.Core.List.{◌++◌}
use mathlib.Core.Option.{Option, some, none}
use native.Mathlib.Omega.{arith}
use lib.ListN.{length, take, drop, length-append, length-drop}
use lib.Seq.{take-append_seam, drop-append-add, drop-drop, sets-eq}
use lib.Dec.{leb, ltb}
use borrow.Author.Tests.{ltb-true, ltb-false}
use Rattle.text.specs.Place.{put}
use Rattle.claim.specs.Plain.{Machine, is_over, onward, said, after, log_after, reason_at}
use Rattle.claim.specs.Calls.{Bytes, run_from}
use Rattle.claim.proofs.Runs.{goes_on, within, run_is}

-- What the loop asks, in document 01's order, n cycles being made and `at` bytes of the log written: its reason to stop, or none.
unfoldable pub ask : (M : Machine) (code : M.Code) (budget room n at : ℕ) → M.State → Option ℕ
ask M code budget room n at now =
    cond (M.is_stopped now) (some 1)
    (cond (M.is_at_limit now) (some 3)
    (cond (leb budget n) (some 0)
    (cond (ltb room (at + length (M.lines code now))) (some 2)
    none)))

-- A run from s with this budget and this log.
module _ (M : Machine) (code : M.Code) (s : M.State) (budget : ℕ) (log₀ : Bytes) where
  -- n cycles in, `now` is the state, `log` the log, and `at` of its bytes are written.
  pub record Going (n at : ℕ) (now : M.State) (log : Bytes) : Type 0 where
    pub state : now ≡ after M code n s
    pub bytes : at ≡ length (log_after M code n s)
    pub written : log ≡ log_after M code n s ++ drop at log₀
    pub before : (i : ℕ) → i < n → reason_at M code s budget (length log₀) i ≡ none

  -- So it is before the first cycle.
  pub start : Going 0 0 s log₀
  unfolding after log_after
  start = record { state = refl; bytes = refl; written = refl; before = λ i h. absurd (omega arith) }

  module _ (n at : ℕ) (now : M.State) (log : Bytes) (g : Going n at now log) where
    -- What it asks are the run's questions.
    asks : ask M code budget (length log₀) n at now ≡ reason_at M code s budget (length log₀) n
    unfolding ask reason_at
    asks = rw (g.state, g.bytes)

    -- The written bytes are the lines so far, ..
    taken : take at log ≡ log_after M code n s
    taken = rw (g.written, g.bytes) (take-append_seam _ _)

    -- .. and no byte beyond them has changed.
    dropped : (k : ℕ) → drop (at + k) log ≡ drop (at + k) log₀
    dropped k = rw (g.written, g.bytes, drop-append-add, drop-drop)

    -- As many bytes as are written so far, ..
    pub count : length (take at log) ≡ at
    count = rw taken (sym g.bytes)

    -- .. the rest of the log being as it was lent; ..
    pub rest : log ≡ take at log ++ drop at log₀
    rest = rw taken g.written

    -- .. the log is as long as it was.
    pub same_length : length log ≡ length log₀
    same_length =
        let fits = within M code s budget (length log₀) n g.before in
        rw (g.written, length-append, length-drop) (omega arith)

    -- Where there is no reason to stop, the machine makes its next cycle, budget is left, and there is room for the lines.
    pub goes : ask M code budget (length log₀) n at now ≡ none
        → (is_over M now ≡ false) × (n < budget) × (at + length (M.lines code now) ≤ length log)
    goes e = rw (same_length, g.state, g.bytes) (goes_on M code s budget (length log₀) n (sym asks ∙ e))

    -- So it is after one cycle more, ..
    pub next : ask M code budget (length log₀) n at now ≡ none
        → Going (suc n) (at + length (M.lines code now)) (M.cycle code now)
        (take at log ++ M.lines code now ++ drop (at + length (M.lines code now)) log)
    unfolding after log_after onward said
    next e =
        record {
          state = rw (← g.state, (goes e).0);
          bytes = rw (← g.state, (goes e).0, length-append, g.bytes);
          written = rw (← g.state, (goes e).0, taken, dropped);
          before = λ i h. go i h (ltb i n) refl;
        }
      where
        go : (i : ℕ) → i < suc n → (b : Bool) → ltb i n ≡ b → reason_at M code s budget (length log₀) i ≡ none
        go i h true p = g.before i (ltb-true i n p)
        go i h false p = let l : n ≤ i = ltb-false i n p in let q : i ≡ n = omega arith in rw q (sym asks ∙ e)

    -- .. its lines being put into the log where the written bytes end.
    pub next-put : ask M code budget (length log₀) n at now ≡ none
        → Going (suc n) (at + length (M.lines code now)) (M.cycle code now) (put log at (M.lines code now))
    unfolding put
    next-put e = rw (sets-eq (M.lines code now) log at (goes e).2) (next e)

    -- Where there is one, what the loop has made is the run.
    pub stop : (reason : ℕ) → ask M code budget (length log₀) n at now ≡ some reason
        → run_from M code budget (length log₀) s ≡ record { state = now; cycles = n; lines = take at log; reason = reason }
    stop reason e =
        rw (taken, g.state)
        (run_is M code s budget (length log₀) n reason (record { before = g.before; there = sym asks ∙ e }))
