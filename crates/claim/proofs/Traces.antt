-- Calls made one after the other. Assumes nothing.
use Prim.Native.Nat.{ℕ, zero, suc, ◌+◌, ◌≤◌}
use mathlib.Core.Path.{◌≡◌, refl}
use mathlib.Core.Bool.{Bool, true, false}
use mathlib.Core.List.{List, [], ◌∷◌, ◌++◌}
use native.Mathlib.Nat.{add_assoc, add-zero, zero-add}
use native.Mathlib.Omega.{arith}
use lib.Dec.{eqb}
use Rattle.claim.specs.Plain.{Machine}
use Rattle.claim.specs.Calls.{Bytes, Lab, Stands, Call, Done, run_from, run_outcome, run_call, call, standing, total, final}
use Rattle.claim.specs.Demand.{Trace, done, then}
use Rattle.claim.proofs.Runs.{runs, goes_on}

module _ (L : Lab) (irqs : L.Irqs) where
  -- One call more, which gets what the last one left.
  pub trace_more : {w : Stands L} {cs : List (Call L)} {ds : List (Done L)} → Trace L irqs w cs ds → (c : Call L) (d : Done L)
      → d ≡ call L irqs (final L w cs ds) c → Trace L irqs w (cs ++ c ∷ []) (ds ++ d ∷ [])
  unfolding final
  trace_more done c d e = then e done
  trace_more (then h t) c d e = then h (trace_more t c d e)

  -- What stands after it, ..
  pub final_more : {w : Stands L} {cs : List (Call L)} {ds : List (Done L)} → Trace L irqs w cs ds → (c : Call L) (d : Done L)
      → final L w (cs ++ c ∷ []) (ds ++ d ∷ []) ≡ standing L (final L w cs ds) c d
  unfolding final
  final_more done c d = refl
  final_more (then h t) c d = final_more t c d

-- .. and the cycles of all of them.
pub total_more : (L : Lab) (ds : List (Done L)) (d : Done L) → total L (ds ++ d ∷ []) ≡ total L ds + d.cycles
unfolding total
total_more L [] d = rw (add-zero, zero-add)
total_more L (e ∷ ds) d = rw (total_more L ds d, add_assoc)

-- A run makes no more cycles than its budget.
pub cycles-within : (M : Machine) (code : M.Code) (budget room : ℕ) (s : M.State) → (run_from M code budget room s).cycles ≤ budget
cycles-within M code budget room s = go (run_from M code budget room s).cycles refl
  where
    go : (n : ℕ) → (run_from M code budget room s).cycles ≡ n → (run_from M code budget room s).cycles ≤ budget
    go zero e = rw e (omega arith)
    go (suc n) e =
        let before = (runs M code budget room s).exact.before n (rw e (omega arith)) in
        let more = (goes_on M code s budget room n before).1 in
        rw e more

pub call-within : (L : Lab) (budget : ℕ) (log : Bytes) (irqs : L.Irqs) (w : Stands L) → (run_call L budget log irqs w).cycles ≤ budget
unfolding run_call
call-within L budget log irqs w = go (eqb (run_outcome L irqs w).number 0) refl
  where
    go : (t : Bool) → eqb (run_outcome L irqs w).number 0 ≡ t → (run_call L budget log irqs w).cycles ≤ budget
    go true e = rw e (cycles-within L.machine (L.code_of w.image irqs) budget _ w.state)
    go false e = rw e (omega arith)
