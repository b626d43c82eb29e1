-- The calls of a run that is stopped and resumed, as one list. Assumes nothing.
use Prim.Native.Nat.{ℕ}
use mathlib.Core.Path.{◌≡◌}
use mathlib.Core.List.{List}
use lib.ListN.{length}
use Rattle.machine.specs.declared.Record.{Record}
use Rattle.saved.specs.Calls.{fresh_record}
use Rattle.claim.specs.Calls.{run_call}
use Rattle.runner.specs.Lab.{lab, standing_of}
use Rattle.runner.specs.Answers.{done_of}
use Rattle.runner.specs.RealCalls.{ran, RealCalls, end, next}
use Rattle.runner.proofs.Demand3.{demand3_real}
use Rattle.worked_examples.specs.declared.Resumed.{Resumed}
use Rattle.worked_examples.specs.StopAndResume.{RecordReturns, SectorReturns, lent_of, start, calls, done, StopAndResume}

-- What the four calls promise, each by its contract, is what `stop_and_resume` promises.
pub resumes : (irq2 image memory disk frame log₁ bytes text words log₂ : List ℕ) (first sector second : ℕ) (r : Resumed) (fresh : Record)
    (memory₁ disk₁ frame₁ log₁' bytes' disk₂ text' words' memory' disk' frame' log₂' : List ℕ)
    → fresh ≡ fresh_record
    → done_of r.first image memory₁ disk₁ frame₁ log₁' ≡ run_call lab first log₁ irq2 (standing_of image fresh memory disk frame)
    → RecordReturns r.first.state bytes r.trip bytes'
    → SectorReturns disk₁ sector text words r.sector disk₂ text' words'
    → done_of r.second image memory' disk' frame' log₂' ≡ run_call lab second log₂ irq2 (standing_of image r.trip.state memory₁ disk₂ frame₁)
    → length words ≡ 128
    → StopAndResume irq2 first sector second (lent_of image memory disk frame log₁ bytes text words log₂) r (lent_of image memory' disk' frame' log₁' bytes' text' words' log₂')
resumes irq2 image memory disk frame log₁ bytes text words log₂ first sector second r fresh memory₁ disk₁ frame₁ log₁' bytes' disk₂ text' words' memory' disk' frame' log₂' is one saved placed' two size =
    let lent = lent_of image memory disk frame log₁ bytes text words log₂ in
    let left = lent_of image memory' disk' frame' log₁' bytes' text' words' log₂' in
    let made : RealCalls irq2 (start lent) (calls first sector second lent size) (done sector r left memory₁ disk₁ frame₁ disk₂) =
    next (ran first log₁ r.first memory₁ disk₁ frame₁ log₁' (rw is at one))
    (next (saved irq2 image memory₁ disk₁ frame₁)
    (next (placed' irq2 image r.trip.state memory₁ frame₁ size)
    (next (ran second log₂ r.second memory' disk' frame' log₂' two) end))) in
    record {
      memory = memory₁;
      disk = disk₁;
      frame = frame₁;
      disk' = disk₂;
      same = size;
      made = made;
      meets = λ fresh_start. demand3_real irq2 (start lent) fresh_start made;
    }
