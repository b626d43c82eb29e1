-- What a machine's crate proves of one cycle, of one trip and of run's questions, so that demand 3 holds of it.
use Rattle.std.specs.Prelude.{ℕ, suc, ◌≡◌, true, false, List, [], ◌∷◌, ◌++◌, length, drop}
use Rattle.text.specs.Questions.{Question}
use Rattle.claim.specs.Plain.{is_over}
use Rattle.claim.specs.Calls.{Bytes, Lab, Stands, State, run_outcome}

-- No question has the number 0, which tells that a call is accepted.
abbrev pub Numbered : List Question → Type 0
Numbered [] = Unit {0}
Numbered (q ∷ qs) = (q.0 ≡ 0 → ⊥) × Numbered qs

-- What stands after one cycle.
abbrev pub cycled : (L : Lab) → L.Irqs → Stands L → Stands L
cycled L irqs w = record { image = w.image; state = L.machine.cycle (L.code_of w.image irqs) w.state }

pub record Laws (L : Lab) : Type 1 where
  -- A sound record, with an image and memories of document 01's lengths, whose words fit. What is fresh is so; a cycle and a return trip keep it.
  pub Good : Stands L → Type 0
  pub fresh : (w : Stands L) → L.Fresh w → Good w
  pub kept : (irqs : L.Irqs) (w : Stands L) → Good w → is_over L.machine w.state ≡ false → Good (cycled L irqs w)
  -- No question of a run has the number 0.
  pub numbered : (irqs : L.Irqs) (w : Stands L) → Numbered (L.asks irqs w)
  -- The answers to them then depend on the interrupt list alone.
  pub alike : (irqs : L.Irqs) (v w : Stands L) → Good v → Good w → run_outcome L irqs v ≡ run_outcome L irqs w
  -- A thing is written where there is room for it, and reads back as the same thing.
  pub room : (w : Stands L) → Good w → (k : L.Kind) (space : Bytes) → L.Room k space → (L.write_outcome k (L.part k w) space).number ≡ 0
  pub back : (w : Stands L) → Good w → (k : L.Kind) (space : Bytes) → (L.write_outcome k (L.part k w) space).number ≡ 0
      → (into : L.Slice k) → L.SameLength k into
      → ((L.read_outcome k (L.text_of k (L.part k w)) into).number ≡ 0)
      × Good (L.place k (L.read_into k (L.text_of k (L.part k w)) into) w)
      × ((L.place k (L.read_into k (L.text_of k (L.part k w)) into) w).state ≡ w.state)
      × ((irqs : L.Irqs) → L.code_of (L.place k (L.read_into k (L.text_of k (L.part k w)) into) w).image irqs ≡ L.code_of w.image irqs)
  -- What an accepted writer, a refused one and a refused reader leave.
  pub written : (k : L.Kind) (out : L.Lent k) (space : Bytes) → (L.write_outcome k out space).number ≡ 0
      → L.wrote_into k out space ≡ L.text_of k out ++ drop (length (L.text_of k out)) space
  pub unwritten : (k : L.Kind) (out : L.Lent k) (space : Bytes) → ((L.write_outcome k out space).number ≡ 0 → ⊥) → L.wrote_into k out space ≡ space
  pub unread : (k : L.Kind) (text : Bytes) (into : L.Slice k) → ((L.read_outcome k text into).number ≡ 0 → ⊥) → L.read_into k text into ≡ L.refused_into k into
  -- The disk's cycles to go: 1,024 after a command, one fewer after each cycle; the disk is busy while there are any.
  pub left : State L → ℕ
  pub taken : (irqs : L.Irqs) (w : Stands L) → Good w → L.accepts (L.code_of w.image irqs) w.state ≡ true
      → left (cycled L irqs w).state ≡ 1024
  pub falls : (irqs : L.Irqs) (w : Stands L) → Good w → (n : ℕ) → left w.state ≡ suc n → left (cycled L irqs w).state ≡ n
  pub busy : (w : Stands L) → Good w → (n : ℕ) → left w.state ≡ suc n → L.is_busy w.state ≡ true
  pub free : (w : Stands L) → Good w → left w.state ≡ 0 → L.is_busy w.state ≡ false
