-- The calls that a list may hold, and what each does. run's contract cites `run_call`; the definitions that the contracts of save, write and read
-- cite are named by the lab.
use Rattle.std.specs.Prelude.{ℕ, zero, suc, ◌+◌, ◌-◌, ◌≡◌, Bool, cond, List, [], ◌∷◌, ◌++◌, length, take, drop, ltb}
use Rattle.text.specs.declared.Outcome.{Outcome}
use Rattle.text.specs.Questions.{Question, accepted, first_no, unless_refused}
use Rattle.claim.specs.Plain.{Machine}

abbrev pub Bytes : Type 0
Bytes = List ℕ

-- What stands between two calls: the image as it is held, and the record with the memories.
pub record World (Image State : Type 0) : Type 0 where
  pub image : Image
  pub state : State

-- A machine with its calls. A machine's crate fills this in by the definitions that its contracts cite.
pub record Lab : Type 1 where
  pub machine : Machine
  pub Image : Type 0
  pub Irqs : Type 0
  -- What the machine reads of an image and of an interrupt list.
  pub code_of : Image → Irqs → machine.Code
  -- "It starts from the fresh record, any data memory, disk and frame, one image .."
  pub Fresh : World Image machine.State → Type 0
  -- The questions that document 01 asks of a run, in its order.
  pub asks : Irqs → World Image machine.State → List Question
  -- The things that a return trip carries: "the record .. the image, a memory or a part of the disk". `Lent` is what the writer of such a thing is
  -- lent and `part` what stands of it; `Slice` is what its reader fills, and `place` what stands when that takes its place.
  pub Kind : Type 0
  pub Lent : Kind → Type 0
  pub Slice : Kind → Type 0
  pub part : (k : Kind) → World Image machine.State → Lent k
  pub place : (k : Kind) → Slice k → World Image machine.State → World Image machine.State
  -- Such a thing is written into lent text space: what the writer answers, the text, and the space then, where it is refused too.
  pub write_outcome : (k : Kind) → Lent k → Bytes → Outcome
  pub text_of : (k : Kind) → Lent k → Bytes
  pub wrote_into : (k : Kind) → Lent k → Bytes → Bytes
  -- A text is read into a lent slice: what the reader answers, and the slice then, where it is refused too.
  pub read_outcome : (k : Kind) → Bytes → Slice k → Outcome
  pub read_into : (k : Kind) → Bytes → Slice k → Slice k
  -- What a refused reader leaves of its slice: "lent memory keeps its contents; .. a record reader the fresh one".
  pub refused_into : (k : Kind) → Slice k → Slice k
  -- "a slice of the same length" as the thing; lent text space of the right length, or with room for the text.
  pub SameLength : (k : Kind) → Slice k → Type 0
  pub Room : (k : Kind) → Bytes → Type 0
  -- The cycle from here accepts a disk command; the disk is not free.
  pub accepts : machine.Code → machine.State → Bool
  pub is_busy : machine.State → Bool

-- ---- one run

-- What a run makes: the state that it leaves, its cycles, their lines, its reason to stop.
pub record Ran (State : Type 0) : Type 0 where
  pub state : State
  pub cycles : ℕ
  pub lines : Bytes
  pub reason : ℕ

module _ (M : Machine) (code : M.Code) where
  abbrev pub ended : M.State → ℕ → Ran M.State
  ended s reason = record { state = s; cycles = 0; lines = []; reason = reason }

  -- The lines of one cycle, and then a run.
  abbrev pub preceded : Bytes → Ran M.State → Ran M.State
  preceded first r = record { state = r.state; cycles = suc r.cycles; lines = first ++ r.lines; reason = r.reason }

  -- A run with so much budget and log space left.
  unfoldable pub run_from : (budget room : ℕ) → M.State → Ran M.State
  run_from zero room s = ended s (cond (M.is_stopped s) 1 (cond (M.is_at_limit s) 3 0))
  run_from (suc budget) room s =
      let more = preceded (M.lines code s) (run_from budget (room - length (M.lines code s)) (M.cycle code s)) in
      cond (M.is_stopped s) (ended s 1)
      (cond (M.is_at_limit s) (ended s 3)
      (cond (ltb room (length (M.lines code s))) (ended s 2) more))

-- ---- the calls of a list

module _ (L : Lab) where
  abbrev pub State : Type 0
  State = L.machine.State

  abbrev pub Stands : Type 0
  Stands = World L.Image State

  -- What the questions of a run answer.
  abbrev pub run_outcome : L.Irqs → Stands → Outcome
  run_outcome irqs w = first_no (L.asks irqs w) 0 (accepted 0)

  pub data Call : Type 0 where
    -- "Each call gets the record, image and memories that the last one returned or left .. Each run is lent that irq2 list."
    run : (budget : ℕ) (log : Bytes) → Call
    -- "a call that is to be refused may instead be lent wrong lengths .. or an irq2 list that doesn't rise": anything that a question refuses;
    -- `lent` may be what stands.
    run_other : (budget : ℕ) (log : Bytes) (irqs : L.Irqs) (lent : Stands) → ((run_outcome irqs lent).number ≡ 0 → ⊥) → Call
    -- "A return trip saves the record and reads those bytes, or writes the image, a memory or a part of the disk as text and reads that text into
    -- a slice of the same length, whatever it held, which then takes its place."
    trip : (k : L.Kind) (space : Bytes) (into : L.Slice k) → L.SameLength k into → Call
    -- A trip one of whose halves is to be refused; `out` is what its writer is lent, what stands or not. ("too little text space" needs only `trip`,
    -- whose space is any.)
    trip_other : (k : L.Kind) (out : L.Lent k) (space : Bytes) (into : L.Slice k)
        → ((L.write_outcome k out space).number ≡ 0 → (L.read_outcome k (L.text_of k out) into).number ≡ 0 → ⊥) → Call

  -- What a return trip leaves of the text space and the slice that it was lent; a run is lent neither.
  pub data Halves : Type 0 where
    none : Halves
    halves : (k : L.Kind) (space : Bytes) (slice : L.Slice k) → Halves

  -- What a call answers and counts; the log, the image, the record and the memories that a run was lent, as they are after it; after a trip, what
  -- stands, and the text space and the slice that it was lent.
  pub record Done : Type 0 where
    pub outcome : Outcome
    pub cycles : ℕ
    pub bytes : ℕ
    pub reason : ℕ
    pub log : Bytes
    pub lent : Stands
    pub trip-left : Halves

  -- "lent memory keeps its contents; a run hands its record back .. every count and reason 0"
  abbrev pub refuse : Stands → Bytes → Outcome → Done
  refuse w log outcome = record { outcome = outcome; cycles = 0; bytes = 0; reason = 0; log = log; lent = w; trip-left = none }

  -- "It returns record, cycles done, log bytes written and reason; log bytes beyond those keep their contents."
  abbrev pub ran : Stands → Bytes → Ran State → Done
  ran w log r =
      record {
        outcome = accepted 0;
        cycles = r.cycles;
        bytes = length r.lines;
        reason = r.reason;
        log = r.lines ++ drop (length r.lines) log;
        lent = record { image = w.image; state = r.state };
        trip-left = none;
      }

  -- RUN, whatever it is lent.
  unfoldable pub run_call : (budget : ℕ) (log : Bytes) (irqs : L.Irqs) (lent : Stands) → Done
  run_call budget log irqs lent =
      unless_refused (run_outcome irqs lent)
      (ran lent log (run_from L.machine (L.code_of lent.image irqs) budget (length log) lent.state))
      (refuse lent log (run_outcome irqs lent))

  -- A trip counts nothing; w stands after it, and these are the text space and the slice that it was lent.
  abbrev pub tripped : Outcome → Stands → Halves → Done
  tripped outcome w left = record { outcome = outcome; cycles = 0; bytes = 0; reason = 0; log = []; lent = w; trip-left = left }

  -- What a trip answers: the first refusal of its halves, if one refuses.
  abbrev pub trip_outcome : (k : L.Kind) (out : L.Lent k) (space : Bytes) (into : L.Slice k) → Outcome
  trip_outcome k out space into =
      let wrote = L.write_outcome k out space in
      let got = L.read_outcome k (L.text_of k out) into in
      unless_refused wrote (unless_refused got (accepted 0) got) wrote

  -- A RETURN TRIP of `out` while w stands: "Where .. either half of a trip is refused, the list goes on with what stood before it."
  unfoldable pub trip_call : (w : Stands) (k : L.Kind) (out : L.Lent k) (space : Bytes) (into : L.Slice k) → Done
  trip_call w k out space into =
      let wrote = L.write_outcome k out space in
      let text = L.text_of k out in
      let sent = L.wrote_into k out space in
      let got = L.read_outcome k text into in
      let slice = L.read_into k text into in
      unless_refused wrote
      (unless_refused got
      (tripped (accepted 0) (L.place k slice w) (halves k sent slice))
      (tripped got w (halves k sent slice)))
      (tripped wrote w (halves k sent into))

  -- What stands after a call that left d while w stood: what it was lent; but w, where it was lent something else.
  abbrev pub standing : Stands → Call → Done → Stands
  standing w (run budget log) d = d.lent
  standing w (run_other budget log irqs lent _) d = w
  standing w (trip k space into _) d = d.lent
  standing w (trip_other k out space into _) d = w

  module _ (irqs : L.Irqs) where
    abbrev pub call : Stands → Call → Done
    call w (run budget log) = run_call budget log irqs w
    call w (run_other budget log other lent _) = run_call budget log other lent
    call w (trip k space into _) = trip_call w k (L.part k w) space into
    call w (trip_other k out space into _) = trip_call w k out space into

    -- A list of calls: each gets what the last one left.
    unfoldable pub session : Stands → List Call → List Done
    session w [] = []
    session w (c ∷ cs) = call w c ∷ session (standing w c (call w c)) cs

  -- The cycles that the calls count in total; "the log bytes that the runs report, in order"; and what stands in the end.
  unfoldable pub total : List Done → ℕ
  total [] = 0
  total (d ∷ ds) = d.cycles + total ds

  unfoldable pub joined : List Done → Bytes
  joined [] = []
  joined (d ∷ ds) = take d.bytes d.log ++ joined ds

  unfoldable pub final : Stands → List Call → List Done → Stands
  final w [] ds = w
  final w (c ∷ cs) [] = w
  final w (c ∷ cs) (d ∷ ds) = final (standing w c d) cs ds
