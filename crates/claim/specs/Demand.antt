-- Demand 3: "Demand 3 is a single claim about the whole list, not one for each call."
use Rattle.std.specs.Prelude.{ℕ, ◌+◌, ◌<◌, ◌≤◌, ◌≡◌, ◌↔◌, true, false, List, [], ◌∷◌, ◌++◌, length, take, drop}
use Rattle.text.specs.Questions.{Question}
use Rattle.claim.specs.Plain.{after, log_after, Makes, Exact}
use Rattle.claim.specs.Calls.{Bytes, Lab, Stands, State, Call, run, run_other, trip, trip_other, halves, Done, run_outcome, trip_outcome, call, standing, total, joined, final}

-- Every question gets a yes.
abbrev pub AllYes : List Question → Type 0
AllYes [] = Unit {0}
AllYes (q ∷ qs) = (q.1 ≡ true) × AllYes qs

-- One lab, one interrupt list, and what stands at the start: the image, the record and the memories.
module _ (L : Lab) (irqs : L.Irqs) (start : Stands L) where
  -- "The plain machine starts as the list does and knows no calls": what it reads, what it is after n cycles, and its log by then.
  abbrev pub code : L.machine.Code
  code = L.code_of start.image irqs

  abbrev pub plain : ℕ → State L
  plain n = after L.machine code n start.state

  abbrev pub plain_log : ℕ → Bytes
  plain_log n = log_after L.machine code n start.state

  -- The record and every memory are the plain machine's after m cycles. "The image stays the same": "two images are the same .. when their low 48
  -- bits are", which is what code_of takes of them.
  pub record Agrees (m : ℕ) (w : Stands L) : Type 0 where
    pub state : w.state ≡ plain m
    pub image : L.code_of w.image irqs ≡ code

  -- The call is accepted.
  abbrev pub Accepted : Done L → Type 0
  Accepted d = d.outcome.number ≡ 0

  -- A refused call "counts zero", and nothing that it was lent changes.
  pub record Unchanged (w : Stands L) (log : Bytes) (d : Done L) : Type 0 where
    pub same : d.lent ≡ w
    pub kept : d.log ≡ log
    pub cycles : d.cycles ≡ 0
    pub bytes : d.bytes ≡ 0
    pub reason : d.reason ≡ 0

  -- A run that is lent what stands, w, when the calls before it have counted m cycles in total.
  pub record OwnRun (m : ℕ) (w : Stands L) (budget : ℕ) (log : Bytes) (d : Done L) : Type 0 where
    -- "A run is refused exactly when a question that document 01 asks of it gets a no, and then counts zero."
    pub asked : d.outcome ≡ run_outcome L irqs w
    pub exactly : Accepted d ↔ AllYes (L.asks irqs w)
    pub refused : (Accepted d → ⊥) → Unchanged w log d
    -- Each run is told what a run from the start would be: none "works in its first call and afterwards only copies its record or refuses".
    pub as_first : d.outcome ≡ run_outcome L irqs start
    -- "An accepted run makes cycles exactly until its budget is spent or that machine, after all cycles so far, has stopped, is at the cycle limit
    -- or has a next cycle whose lines don't fit, whichever comes first. It reports their number and document 01's reason."
    pub accepted : Accepted d → Exact L.machine code (plain m) budget (length log) d.cycles d.reason
    -- The bytes that it reports are the lines of those cycles; "log bytes beyond those keep their contents".
    pub bytes : d.bytes ≡ length (log_after L.machine code d.cycles (plain m))
    pub lines : take d.bytes d.log ≡ log_after L.machine code d.cycles (plain m)
    pub beyond : drop d.bytes d.log ≡ drop d.bytes log

  -- A run that is lent something else is refused.
  pub record OtherRun (log : Bytes) (other : L.Irqs) (lent : Stands L) (d : Done L) : Type 0 where
    pub asked : d.outcome ≡ run_outcome L other lent
    pub refused : (Accepted d → ⊥) × Unchanged lent log d

  -- The text space of a written text: it holds the text, and what lies beyond keeps its contents.
  abbrev pub holding : Bytes → Bytes → Bytes
  holding text space = text ++ drop (length text) space

  -- "With right lent lengths and room for the text no such save, write or read is refused; where one is, nothing changes."
  pub record OwnTrip (w : Stands L) (k : L.Kind) (space : Bytes) (into : L.Slice k) (d : Done L) : Type 0 where
    pub asked : d.outcome ≡ trip_outcome L k (L.part k w) space into
    pub accepted : L.Room k space → Accepted d
    -- The text space and the slice after it.
    pub sent : Bytes
    pub slice : L.Slice k
    pub left : d.trip-left ≡ halves k sent slice
    -- Accepted, the text is in the space, the slice is what is read of it, and "then takes its place".
    pub written : Accepted d → sent ≡ holding (L.text_of k (L.part k w)) space
    pub read : Accepted d → slice ≡ L.read_into k (L.text_of k (L.part k w)) into
    pub placed : Accepted d → d.lent ≡ L.place k slice w
    pub refused : (Accepted d → ⊥) → Unchanged w [] d × (sent ≡ space) × (slice ≡ into)
    pub counts : (d.cycles ≡ 0) × (d.bytes ≡ 0) × (d.reason ≡ 0)

  -- A trip that is lent something else is refused. The half that is refused changes nothing.
  pub record OtherTrip (w : Stands L) (k : L.Kind) (out : L.Lent k) (space : Bytes) (into : L.Slice k) (d : Done L) : Type 0 where
    pub asked : d.outcome ≡ trip_outcome L k out space into
    pub refused : (Accepted d → ⊥) × Unchanged w [] d
    pub writer : ((L.write_outcome k out space).number ≡ 0 → ⊥) → d.trip-left ≡ halves k space into
    pub reader : (L.write_outcome k out space).number ≡ 0 → d.trip-left ≡ halves k (holding (L.text_of k out) space) (L.refused_into k into)

  -- What the demand says of one call, when w stands and the calls before it have counted m cycles.
  abbrev pub Meets : ℕ → Stands L → Call L → Done L → Type 0
  Meets m w (run budget log) d = OwnRun m w budget log d
  Meets m w (run_other budget log other lent _) d = OtherRun log other lent d
  Meets m w (trip k space into _) d = OwnTrip w k space into d
  Meets m w (trip_other k out space into _) d = OtherTrip w k out space into d

  -- Of each call of a list in turn; after each, what stands is the plain machine after all cycles so far.
  pub data Each : ℕ → Stands L → List (Call L) → List (Done L) → Type 0 where
    end : {m : ℕ} {w : Stands L} → Each m w [] []
    next : {m : ℕ} {w : Stands L} {c : Call L} {cs : List (Call L)} {d : Done L} {ds : List (Done L)}
        → Meets m w c d → Agrees (m + d.cycles) (standing L w c d) → Each (m + d.cycles) (standing L w c d) cs ds → Each m w (c ∷ cs) (d ∷ ds)

  -- DEMAND 3, of a list of calls and of what each of them told and left.
  pub record Demand3 (calls : List (Call L)) (ds : List (Done L)) : Type 0 where
    -- "After it the joined logs, the record and every memory equal those of the plain machine in document 01 after as many cycles as the runs
    -- reported in total."
    pub ends : Agrees (total L ds) (final L start calls ds)
    pub logs : joined L ds ≡ plain_log (total L ds)
    -- The plain machine makes every one of these cycles: none is reported that no cycle made.
    pub made : Makes L.machine code (total L ds) start.state
    -- Each call, in turn.
    pub each : Each 0 start calls ds
    -- "In every list a disk command accepted in cycle c frees the disk at the end of cycle c+1024 and not before, unless the list's cycles end
    -- sooner." Cycle c is the one that `plain c` makes; its age is c where the list starts from a fresh record. At its end the machine is `plain (c + 1)`.
    pub disk_busy : (c i : ℕ) → L.accepts code (plain c) ≡ true → c < i → i ≤ c + 1024 → i ≤ total L ds → L.is_busy (plain i) ≡ true
    pub disk_free : (c : ℕ) → L.accepts code (plain c) ≡ true → c + 1025 ≤ total L ds → L.is_busy (plain (c + 1025)) ≡ false

-- Calls that meet their contracts: each tells and leaves what its definition says, and gets what the last one left.
pub data Trace (L : Lab) (irqs : L.Irqs) : Stands L → List (Call L) → List (Done L) → Type 0 where
  done : {w : Stands L} → Trace L irqs w [] []
  then : {w : Stands L} {c : Call L} {cs : List (Call L)} {d : Done L} {ds : List (Done L)}
      → d ≡ call L irqs w c → Trace L irqs (standing L w c d) cs ds → Trace L irqs w (c ∷ cs) (d ∷ ds)
