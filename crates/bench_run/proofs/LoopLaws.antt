-- A loop of runs makes a list of calls. Assumes nothing.
use Prim.Native.Nat.{ℕ, ◌+◌, ◌-◌, ◌≤◌}
use mathlib.Core.Path.{◌≡◌, refl, sym, ◌∙◌, ap}
use mathlib.Core.Logic.{inl, inr}
use mathlib.Core.List.{List, [], ◌∷◌, ◌++◌}
use lib.ListN.{length}
use native.Mathlib.Omega.{arith}
use Rattle.claim.specs.Calls.{Call, run, Done, run_call, call, total, final}
use Rattle.claim.specs.Demand.{Trace, done}
use Rattle.claim.proofs.Traces.{trace_more, final_more, total_more, call-within}
use Rattle.runner.specs.Lab.{lab, Standing}
use Rattle.runner.proofs.Demand3.{demand3_met}
use Rattle.bench_run.specs.ByCalls.{ByCalls, ByOneRun, log_left}

-- One run that meets its contract.
pub by_one-run : (irq2 : List ℕ) (budget : ℕ) (log : List ℕ) (start lent : Standing) → lent ≡ start → (d : Done lab) → d ≡ run_call lab budget log irq2 lent
    → (Stands : Standing → Type 0) → Stands d.lent → ByOneRun irq2 budget log start d.bytes d.log Stands
by_one-run irq2 budget log start lent same d e Stands h =
    let is = e ∙ ap (run_call lab budget log irq2) same in
    record { count = ap (λ (x : Done lab). x.bytes) is; written = ap (λ (x : Done lab). x.log) is; stands = rw (← is) h }

-- A call more leaves its log.
log_more : (log : List ℕ) (ds : List (Done lab)) (d : Done lab) → log_left log (ds ++ d ∷ []) ≡ d.log
log_more log [] d = refl
log_more log (x ∷ ds) d = log_more x.log ds d

-- A list of calls from `start` that met their contracts: `now` stands after them, the log, which was `first`, is `log`, and `left` of the budget is left.
pub record Made (irq2 : List ℕ) (start : Standing) (budget : ℕ) (first : List ℕ) (now : Standing) (left : ℕ) (log : List ℕ) : Type 0 where
  pub calls : List (Call lab)
  pub dones : List (Done lab)
  pub trace : Trace lab irq2 start calls dones
  pub stands : final lab start calls dones ≡ now
  pub spent : total lab dones + left ≡ budget
  pub written : log ≡ log_left first dones
  pub room : length log ≡ length first

-- None at first.
pub none_made : (irq2 : List ℕ) (start : Standing) (budget : ℕ) (first : List ℕ) → Made irq2 start budget first start budget first
unfolding final total
none_made irq2 start budget first = record { calls = []; dones = []; trace = done; stands = refl; spent = omega arith; written = refl; room = refl }

module _ {irq2 : List ℕ} {start : Standing} {budget : ℕ} {first : List ℕ} {now : Standing} {left : ℕ} {log : List ℕ} (m : Made irq2 start budget first now left log) where
  -- A run more.
  pub one_more : (d : Done lab) → d ≡ run_call lab left log irq2 now → length d.log ≡ length log → (rest : ℕ) → rest + d.cycles ≡ left
      → Made irq2 start budget first d.lent rest d.log
  one_more d e size rest more =
      let met : d ≡ call lab irq2 (final lab start m.calls m.dones) (run left log) = e ∙ ap (run_call lab left log irq2) (sym m.stands) in
      record {
        calls = m.calls ++ run left log ∷ [];
        dones = m.dones ++ d ∷ [];
        trace = trace_more lab irq2 m.trace (run left log) d met;
        stands = final_more lab irq2 m.trace (run left log) d;
        spent = rw (total_more lab m.dones d) (let all = m.spent in omega arith);
        written = sym (log_more first m.dones d);
        room = size ∙ m.room;
      }

  -- It makes no more cycles than are left.
  pub within : (d : Done lab) → d ≡ run_call lab left log irq2 now → d.cycles ≤ left
  within d e = rw e (call-within lab left log irq2 now)

  -- What the loop promises when the budget is spent, ..
  pub by_calls : (cycles : ℕ) → left ≡ 0 → cycles ≡ budget → (Stands : Standing → Type 0) → Stands now → ByCalls irq2 budget first start cycles log Stands
  by_calls cycles none all Stands h =
      record {
        calls = m.calls;
        dones = m.dones;
        trace = m.trace;
        demand = λ fresh. demand3_met irq2 start fresh m.calls m.dones m.trace;
        made = (let spent = m.spent in omega arith);
        ended = inl all;
        written = m.written;
        stands = rw m.stands h;
      }

  -- .. and when a run made no cycle.
  pub by_idle : (cycles : ℕ) → cycles + left ≡ budget → (d : Done lab) → d ≡ run_call lab left log irq2 now → d.cycles ≡ 0
      → (Stands : Standing → Type 0) → Stands d.lent → ByCalls irq2 budget first start cycles d.log Stands
  by_idle cycles all d e none Stands h =
      let met : d ≡ call lab irq2 (final lab start m.calls m.dones) (run left log) = e ∙ ap (run_call lab left log irq2) (sym m.stands) in
      let rest : budget - cycles ≡ left = omega arith in
      let traced = trace_more lab irq2 m.trace (run left log) d met in
      record {
        calls = m.calls ++ run left log ∷ [];
        dones = m.dones ++ d ∷ [];
        trace = traced;
        demand = λ fresh. demand3_met irq2 start fresh (m.calls ++ run left log ∷ []) (m.dones ++ d ∷ []) traced;
        made = rw (total_more lab m.dones d) (let spent = m.spent in omega arith);
        ended = inr (record {
          before = m.calls;
          dones-before = m.dones;
          log = log;
          last = d;
          calls_are = rw rest;
          dones_are = refl;
          room-is = m.room;
          none = none;
        });
        written = sym (log_more first m.dones d);
        stands = rw (final_more lab irq2 m.trace (run left log) d) h;
      }
