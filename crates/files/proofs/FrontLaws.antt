-- The front of a text that a buffer holds: the whole of it, or a full buffer. Assumes nothing.
use Rattle.std.specs.Prelude.{Result}
use Prim.Native.Nat.{ℕ, ◌+◌, ◌*◌, ◌≤◌, ◌<◌}
use mathlib.Core.Path.{◌≡◌, refl, sym, ◌∙◌, ap}
use mathlib.Core.Bool.{Bool, true, false}
use mathlib.Core.List.{List}
use native.Mathlib.Omega.{arith}
use lib.Dec.{leb}
use lib.ListN.{length, take}
use lib.Seq.{take_all, length-take-le}
use borrow.Author.Tests.{leb-true, leb-false}
use Rattle.text.specs.declared.Outcome.{Outcome}
use Rattle.files.specs.declared.FileError.{FileError}
use Rattle.files.specs.MemoryFile.{read_outcome}
use Rattle.files.specs.Front.{IsFront, FrontRead}
use Rattle.files.specs.Loaded.{FileLoaded}
use Rattle.files.specs.Answers.{file_read_outcome}
use Rattle.files.specs.Promises.{MemoryRead}
use Rattle.files.proofs.CutLaws.{cut-read}

-- What was read is the front of one text at least, of itself.
pub front_self : (buffer : List ℕ) (n : ℕ) → n ≤ length buffer → IsFront buffer n (take n buffer)
front_self buffer n h = sym (take_all (length buffer) (take n buffer) (rw (length-take-le n buffer h) h))

-- What holds of the bytes that were read holds of the whole text, if it does so where the buffer is full and the text longer: a shorter text was read whole.
pub by_front : (P : List ℕ → Type 0) (buffer : List ℕ) (n : ℕ) (whole : List ℕ) → IsFront buffer n whole
    → P (take n buffer)
    → (length (take n buffer) ≡ length buffer → length buffer < length whole → P whole)
    → P whole
by_front P buffer n whole front read cut = go (leb (length whole) (length buffer)) refl
  where
    go : (t : Bool) → leb (length whole) (length buffer) ≡ t → P whole
    go true e = rw (front ∙ take_all (length buffer) whole (leb-true (length whole) (length buffer) e)) at read
    go false e =
        let long = leb-false (length whole) (length buffer) e in
        cut (ap length front ∙ length-take-le (length buffer) whole (omega arith)) long

-- ---- a memory file

module _ {k : ℕ} {is_right : ℕ → Bool} {before after : List ℕ} where
  -- Of a memory of a wrong length every text is refused.
  wrong_read : (a b : List ℕ) {r : Result (Unit {0}) FileError} → is_right (length before) ≡ false → MemoryRead k is_right a before r after → MemoryRead k is_right b before r after
  unfolding read_outcome
  wrong_read a b wrong read = record { answer = read.answer ∙ rw wrong; words = rw wrong at read.words ∙ rw wrong }

  -- Who reads the front of a text has read the text, ..
  pub front_read : (buffer : List ℕ) (n : ℕ) {r : Result (Unit {0}) FileError} {t : Outcome} → MemoryRead k is_right (take n buffer) before r after → t ≡ file_read_outcome r
      → (is_right (length before) ≡ true → length before * (k + 1) < length buffer) → FrontRead k is_right buffer n t before after
  front_read buffer n {r} read says long whole front =
      let all = go (is_right (length before)) refl in
      let outcome = says ∙ all.answer in
      record { outcome = outcome; words = rw outcome all.words }
    where
      go : (b : Bool) → is_right (length before) ≡ b → MemoryRead k is_right whole before r after
      go true e = cut-read k is_right (length buffer) whole before r after (long e) (rw front at read)
      go false e = wrong_read (take n buffer) whole e read

  -- .. which need not be named.
  pub file_read : (buffer : List ℕ) (n : ℕ) {t : Outcome} → n ≤ length buffer → FrontRead k is_right buffer n t before after → FileLoaded k is_right t before after
  file_read buffer n h read =
      let text = read (take n buffer) (front_self buffer n h) in
      record { text = take n buffer; outcome = text.outcome; words = text.words }
