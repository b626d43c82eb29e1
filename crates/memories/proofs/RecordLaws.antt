-- The record that reading hands back is sound, and what is refused is not. Assumes nothing.
use Prim.Native.Nat.{ℕ, ◌≤◌, ◌<◌}
use mathlib.Core.Path.{◌≡◌, refl, sym, ◌∙◌, ap}
use mathlib.Core.Bool.{Bool, true, false, cond, false≢true}
use mathlib.Core.List.{List}
use native.Mathlib.Omega.{arith}
use lib.Dec.{eqb}
use Rattle.std.specs.Prelude.{Option, Some, None, Ok, Err}
use lib.ListN.{length, take}
use borrow.Author.Tests.{eqb-true, eq-eqb, ne_eqb}
use Rattle.text.specs.declared.Outcome.{Outcome}
use Rattle.text.specs.Questions.{accepted}
use Rattle.text.proofs.QuestionLaws.{first_yes, by_number}
use Rattle.machine.specs.declared.Record.{Record}
use Rattle.saved.specs.Sound.{is_sound}
use Rattle.saved.specs.Layout.{record_bytes}
use Rattle.saved.specs.Calls.{save_outcome, load_questions, load_outcome, load_record}
use Rattle.saved.proofs.TripLaws.{load_sound}
use Rattle.saved.specs.declared.LoadError.{LoadError}
use Rattle.saved.specs.declared.LoadError.TheVariants.{WrongLength, OtherEdition, Unsound, Busy}
use Rattle.saved.specs.Promises.{Loading}
use Rattle.memories.specs.Records.{ReadFrom, FrontLoaded, RecordLoaded, SoundRead}
use Rattle.files.proofs.FrontLaws.{front_self, by_front}

-- ---- a record that is read

-- From its bytes: one that is read, ..
pub record_read : (bytes : List ℕ) (state : Record) → Loading bytes (Ok state) → ReadFrom bytes (Some state)
record_read bytes state load =
    let good : (load_outcome bytes).number ≡ 0 = ap (λ (t : Outcome). t.number) (sym load.0) in
    record { is = go (eqb (load_outcome bytes).number 0) (eq-eqb (load_outcome bytes).number 0 good); sound = load_sound state bytes load.1 }
  where
    go : (b : Bool) → b ≡ true → Some state ≡ cond b (Some (load_record bytes)) None
    go true e = ap Some load.1
    go false e = absurd (false≢true e)

-- .. or one that is refused.
pub record_refused : (bytes : List ℕ) (error : LoadError) → Loading bytes (Err error) → ReadFrom bytes None
record_refused bytes WrongLength load = record { is = rw (← load.0); sound = tt }
record_refused bytes OtherEdition load = record { is = rw (← load.0); sound = tt }
record_refused bytes Unsound load = record { is = rw (← load.0); sound = tt }
record_refused bytes Busy load = record { is = rw (← load.0); sound = tt }

-- Files that are longer than a record of either edition are refused alike, whatever their bytes, ..
too_long : (a b : List ℕ) {r : Option Record} → record_bytes < length a → record_bytes < length b → ReadFrom a r → ReadFrom b r
too_long a b long-a long-b from =
    let one-a = ne_eqb (length a) 91 (λ e. omega arith) in
    let two_a = ne_eqb (length a) 94 (λ e. omega arith) in
    let one_b = ne_eqb (length b) 91 (λ e. omega arith) in
    let two-b = ne_eqb (length b) 94 (λ e. omega arith) in
    record { is = rw (one-a, two_a) at from.is ∙ rw (one_b, two-b); sound = from.sound }

-- .. so who reads one byte more than the longer edition's, or the whole file, has read the file.
pub front-loaded : (buffer : List ℕ) (n : ℕ) {r : Option Record} → record_bytes < length buffer → ReadFrom (take n buffer) r → FrontLoaded buffer n r
front-loaded buffer n {r} room from whole front =
    by_front (λ (bytes : List ℕ). ReadFrom bytes r) buffer n whole front from
    (λ full long. too_long (take n buffer) whole (omega arith) (omega arith) from)

-- The bytes need not be named.
pub sound-read : (buffer : List ℕ) (n : ℕ) (r : Option Record) → n ≤ length buffer → FrontLoaded buffer n r → SoundRead r
sound-read buffer n None h front = tt
sound-read buffer n (Some state) h front = (from.sound, go (eqb (load_outcome bytes).number 0) refl from.is)
  where
    bytes : List ℕ
    bytes = take n buffer

    from : ReadFrom (take n buffer) (Some state)
    from = front (take n buffer) (front_self buffer n h)

    go : (b : Bool) → eqb (load_outcome bytes).number 0 ≡ b → Some state ≡ cond b (Some (load_record bytes)) None → RecordLoaded state
    go true e is = record { bytes = bytes; outcome = sym (by_number (load_questions bytes) (sym (eqb-true (load_outcome bytes).number 0 e))); is = cc }
    go false e is = cc

-- ---- a record that is saved

pub saved-sound : (state : Record) (out : List ℕ) {t : Outcome} → t ≡ save_outcome state out → t.number ≡ 0 → is_sound state ≡ true
saved-sound state out outcome good =
    let none : (save_outcome state out).number ≡ 0 = ap (λ (t : Outcome). t.number) (sym outcome) ∙ good in
    let right = first_yes 1 0 (eqb (length out) record_bytes) _ (omega arith) none in
    (first_yes 13 0 (is_sound state) (accepted 0) (omega arith) right.1).0
