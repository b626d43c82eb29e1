-- What reading files that the operating system hands over leaves. Assumes nothing.
use Prim.Native.Nat.{ℕ, ◌+◌, ◌*◌, ◌%◌, ◌≤◌, ◌<◌}
use mathlib.Core.Path.{◌≡◌, refl, sym, ◌∙◌, ap}
use mathlib.Core.Bool.{Bool, true, false, cond, ◌&&◌}
use mathlib.Core.List.{List, [], ◌∷◌}
use native.Mathlib.Omega.{arith}
use lib.Dec.{eqb, leb, ltb}
use Rattle.std.specs.Prelude.{Option, Some, None, Result}
use lib.ListN.{length, take}
use borrow.Author.Tests.{eqb-true, leb-true}
use Rattle.text.specs.declared.Outcome.{Outcome}
use Rattle.text.specs.Questions.{accepted, first_bad}
use Rattle.text.specs.Lines.{lines}
use Rattle.text.proofs.QuestionLaws.{first_yes}
use Rattle.text.proofs.Truth.{and_right}
use Rattle.files.specs.declared.CycleError.{CycleError}
use Rattle.files.specs.Sizes.{sector_words, disk_words, image_digits, word_digits, frame_digits, is_image_length, is_data_length, is_part_length, is_frame_length}
use Rattle.files.specs.MemoryFile.{is_word, word_questions, lines_outcome, read_outcome}
use Rattle.files.specs.Answers.{cycles_read_outcome}
use Rattle.files.specs.Loaded.{FileLoaded}
use Rattle.files.specs.Promises.{Irq2Read}
use Rattle.files.proofs.CycleLaws.{are_cycles}
use Rattle.files.proofs.Irq2CutLaws.{cut-cycles}
use Rattle.files.proofs.LoadedLaws.{counted}
use Rattle.files.proofs.FrontLaws.{file_read}
use Rattle.memories.specs.Loading.{most_text, FromFront, LoadedFile, LoadedFront}
use Rattle.memories.specs.Cycles.{CyclesFile, FrontCycles, LoadedCycles, outcome_count, RiseIn}

-- ---- a memory file

-- Where no number is told of the lines, they are accepted.
lines-accepted : (k room i : ℕ) (ls : List (List ℕ)) → (first_bad (word_questions k room) i ls (accepted 0)).number ≡ 0
    → first_bad (word_questions k room) i ls (accepted 0) ≡ accepted 0
unfolding first_bad
lines-accepted k room i [] good = refl
lines-accepted k room i (l ∷ ls) good =
    let left = first_yes 10 (i + 1) (ltb i room) _ (omega arith) good in
    let word = first_yes 9 (i + 1) (is_word k l) _ (omega arith) left.1 in
    rw (left.0, word.0) (lines-accepted k room (i + 1) ls word.1)

read-accepted : (k : ℕ) (is_right : ℕ → Bool) (n : ℕ) (text : List ℕ) → (read_outcome k is_right n text).number ≡ 0 → read_outcome k is_right n text ≡ accepted 0
unfolding read_outcome lines_outcome
read-accepted k is_right n text good =
    let right = first_yes 1 0 (is_right n) _ (omega arith) good in
    rw right.0 (lines-accepted k n 0 (lines text) right.1)

-- A file that `accept` accepts.
module _ {k : ℕ} {is_right : ℕ → Bool} {before after : List ℕ} {t : Outcome} (file : FileLoaded k is_right t before after) where
  pub loaded : (n : ℕ) → Some n ≡ outcome_count t → FileLoaded k is_right (accepted 0) before after
  loaded n is = go (eqb t.number 0) refl is
    where
      go : (b : Bool) → eqb t.number 0 ≡ b → Some n ≡ cond b (Some t.count) None → FileLoaded k is_right (accepted 0) before after
      go true e same =
          let none = ap (λ (u : Outcome). u.number) (sym file.outcome) ∙ eqb-true t.number 0 e in
          let outcome : t ≡ accepted 0 = file.outcome ∙ read-accepted k is_right (length before) file.text none in
          record { text = file.text; outcome = sym outcome ∙ file.outcome; words = rw outcome at file.words }
      go false e same = cc

  -- One that it refuses changed nothing.
  pub refused : None ≡ outcome_count t → after ≡ before
  refused is = go (eqb t.number 0) refl is
    where
      go : (b : Bool) → eqb t.number 0 ≡ b → None ≡ cond b (Some t.count) None → after ≡ before
      go true e same = cc
      go false e same = file.words ∙ rw e

-- A file whose front was read was read from some text.
pub from_front : {k : ℕ} {is_right : ℕ → Bool} {before after : List ℕ} {t : Outcome} → FromFront k is_right t before after → FileLoaded k is_right t before after
from_front front = file_read front.buffer front.n front.within front.read

pub loaded_file : (k : ℕ) (is_right : ℕ → Bool) (before after : List ℕ) (r : Option Outcome) → LoadedFront k is_right r before after → LoadedFile k is_right r before after
loaded_file k is_right before after (Some t) front = from_front front
loaded_file k is_right before after None same = same

-- The memories' files are no longer than the longest.
pub few_image : (n : ℕ) → is_image_length n ≡ true → n * (image_digits + 1) ≤ most_text
few_image n e = omega (arith, eqb-true n 4096 e)

pub few_data : (n : ℕ) → is_data_length n ≡ true → n * (word_digits + 1) ≤ most_text
few_data n e = omega (arith, eqb-true n 4096 e)

pub few_part : (n : ℕ) → is_part_length n ≡ true → n * (word_digits + 1) ≤ most_text
few_part n e = omega (arith, leb-true n disk_words (and_right (eqb (n % sector_words) 0 && leb sector_words n) (leb n disk_words) e))

pub few_frame : (n : ℕ) → is_frame_length n ≡ true → n * (frame_digits + 1) ≤ most_text
few_frame n e = omega (arith, eqb-true n 65536 e)

-- ---- the irq2 file

module _ {text before after : List ℕ} where
  cycles_file : {a : Result ℕ CycleError} {t : Outcome} → Irq2Read text before a after → t ≡ cycles_read_outcome a → CyclesFile text t before after
  cycles_file {a} {t} read says =
      let outcome = says ∙ read.answer in
      record {
        outcome = outcome;
        places = rw outcome read.places;
        rise = are_cycles text before a after read t says;
        counted = λ none. says ∙ counted a (ap (λ (u : Outcome). u.number) (sym says) ∙ none) ∙ ap (λ (u : Outcome). accepted u.count) (sym says);
      }

-- Who reads the front of a text has read the text.
pub front-cycles : (buffer : List ℕ) (n : ℕ) {before after : List ℕ} {a : Result ℕ CycleError} {t : Outcome} → 229376 < length buffer
    → Irq2Read (take n buffer) before a after → t ≡ cycles_read_outcome a → FrontCycles buffer n t before after
front-cycles buffer n {before} {after} {a} long read says =
    record {
      front = cycles_file read says;
      whole = λ few text front. cycles_file (cut-cycles (length buffer) text before a after (omega arith) (rw front at read)) says;
    }

pub rise_in : (before after : List ℕ) (t : Outcome) {r : Option ℕ} → LoadedCycles (Some t) before after → r ≡ outcome_count t → RiseIn r before after
rise_in before after t file e = rw e (go (eqb t.number 0) refl)
  where
    go : (b : Bool) → eqb t.number 0 ≡ b → RiseIn (cond b (Some t.count) None) before after
    go true q =
        let none = eqb-true t.number 0 q in
        let is = file.1.counted none in
        let rise = file.1.rise none in
        (rise.0, rise.1, record { text = file.0; outcome = sym is ∙ file.1.outcome; places = rw is at file.1.places })
    go false q = file.1.places ∙ rw q
