-- DEMAND 3 of this lab. The statement is `claim`'s (Plain, Calls, Demand), of the lab that specs/Lab.antt describes. Assumes nothing.
use Prim.Native.Nat.{ℕ, zero, suc, ◌+◌, ◌^◌, ◌<◌}
use mathlib.Core.Path.{◌≡◌, refl, ◌∙◌, ap}
use mathlib.Core.Bool.{true}
use mathlib.Core.List.{List}
use native.Mathlib.Numerals.{add-one}
use native.Mathlib.Omega.{arith}
use lib.ListN.{length}
use Rattle.text.specs.Questions.{accepted}
use Rattle.text.specs.Ranges.{Below}
use Rattle.files.specs.Sizes.{image_words, data_words, disk_words, frame_bytes}
use Rattle.files.specs.Irq2File.{rising}
use Rattle.saved.specs.Calls.{fresh_record}
use Rattle.machine.specs.State.{Machine}
use Rattle.machine.specs.Interrupts.{is_in}
use Rattle.machine.proofs.AgeLaws.{age-after}
use Rattle.claim.specs.Plain.{after, onward, Makes}
use Rattle.claim.specs.Calls.{Call, Done, run_outcome, session, total, joined, final}
use Rattle.claim.specs.Demand.{Demand3, Trace, plain}
use Rattle.claim.proofs.Lists as Lists
use Rattle.runner.specs.Lab.{simp, lab, code_of, standing_of, Standing, Fresh}
use Rattle.runner.specs.RealCalls.{RealCalls}
use Rattle.runner.proofs.Trips.{real_trace}
use Rattle.runner.proofs.LabLaws.{good-fresh, outcome-right, laws}

-- "This holds for every list of run calls, record saves read back, and memories written as text and read back, refused ones included, from a fresh
-- record with one program, one interrupt list and any starting memories, whatever cycle budget and log space each run has."
pub demand3 : (irq2 : List ℕ) (start : Standing) → Fresh start → (calls : List (Call lab)) → Demand3 lab irq2 start calls (session lab irq2 start calls)
demand3 irq2 start fresh calls = Lists.demand3 lab laws irq2 start fresh calls

-- The same of any calls that tell and leave what the definitions say, ..
pub demand3_met : (irq2 : List ℕ) (start : Standing) → Fresh start → (calls : List (Call lab)) (done : List (Done lab)) → Trace lab irq2 start calls done
    → Demand3 lab irq2 start calls done
demand3_met irq2 start fresh calls done trace = Lists.demand3_met lab laws irq2 start fresh calls done trace

-- .. and so of the real functions: of every list of calls of `run`, of `save` and `load`, and of the memories' writers and readers, each known by its
-- own contract alone.
pub demand3_real : (irq2 : List ℕ) (start : Standing) → Fresh start → {calls : List (Call lab)} {done : List (Done lab)} → RealCalls irq2 start calls done
    → Demand3 lab irq2 start calls done
demand3_real irq2 start fresh {calls} {done} made = demand3_met irq2 start fresh calls done (real_trace irq2 made)

-- However a run is cut into calls: two lists that report as many cycles in total leave the same record and memories, the same image and the same
-- joined log.
pub cuts : (irq2 : List ℕ) (start : Standing) (calls calls' : List (Call lab)) (done done' : List (Done lab))
    → Demand3 lab irq2 start calls done → Demand3 lab irq2 start calls' done' → total lab done ≡ total lab done'
    → ((final lab start calls done).state ≡ (final lab start calls' done').state)
    × (code_of (final lab start calls done).image irq2 ≡ code_of (final lab start calls' done').image irq2)
    × (joined lab done ≡ joined lab done')
cuts irq2 start calls calls' done done' d d' same = Lists.cuts lab irq2 start d d' same

sooner : {i n : ℕ} → i < n → i < suc n
sooner h = omega arith

-- Cycle c, counted from the start, is the cycle whose age is c.
pub cycle-is-age : (irq2 : List ℕ) (start : Standing) → Fresh start → (n : ℕ) → Makes simp (code_of start.image irq2) n start.state
    → (plain lab irq2 start n).core.age ≡ n
unfolding after onward
cycle-is-age irq2 start fresh zero makes = ap (λ (m : Machine). m.core.age) fresh.record_is
cycle-is-age irq2 start fresh (suc n) makes =
    let code = code_of start.image irq2 in
    let before = after simp code n start.state in
    let age = cycle-is-age irq2 start fresh n (λ i h. makes i (sooner h)) in
    rw (makes n (omega arith)) (age-after code.image (is_in before.core.age irq2) before ∙ ap (λ (c : ℕ). c + 1) age ∙ add-one n)

-- Any memories of the right lengths will do to start from, ..
pub fresh_any : (image memory disk frame : List ℕ) → length image ≡ image_words → length memory ≡ data_words → length disk ≡ disk_words → length frame ≡ frame_bytes
    → Below (2 ^ 32) memory → Below (2 ^ 32) disk → Below (2 ^ 8) frame → Fresh (standing_of image fresh_record memory disk frame)
fresh_any image memory disk frame a b c d e f g =
    record { record_is = refl; image = a; memory_words = b; disk-words = c; frame-bytes = d; memory-fits = e; disk-fits = f; frame-fits = g }

-- .. and from there every run is accepted whose irq2 list rises strictly.
pub accepts_runs : (irq2 : List ℕ) (start : Standing) → Fresh start → rising irq2 ≡ true → run_outcome lab irq2 start ≡ accepted 0
accepts_runs irq2 start fresh up = outcome-right start (good-fresh start fresh) irq2 ∙ rw up
