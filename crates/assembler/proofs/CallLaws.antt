-- What the assembler's call answers and leaves. Assumes nothing.
use Rattle.std.specs.Prelude.{Result, Ok, Err}
use Prim.Native.Nat.{ℕ, ◌≤◌, ◌<◌}
use mathlib.Core.Path.{◌≡◌, refl, sym, ◌∙◌, ap}
use mathlib.Core.Bool.{Bool, true, false, ◌&&◌}
use mathlib.Core.List.{List}
use native.Mathlib.Omega.{arith}
use lib.Dec.{leb, eqb}
use lib.ListN.{length}
use borrow.Author.Tests.{leb-true, le-leb, lt-leb, eqb-true, ne_eqb}
use Rattle.text.specs.declared.Outcome.{Outcome}
use Rattle.text.specs.Questions.{refused}
use Rattle.text.proofs.Truth.{and_left, and_right}
use Rattle.files.specs.Sizes.{image_words, data_words, is_image_length, is_data_length}
use Rattle.assembler.specs.declared.AssembleError.{AssembleError}
use Rattle.assembler.specs.declared.AssembleError.TheVariants.{WrongLength, BadBytes, WrongForm, UnknownName, OutOfRange, DefinedBefore, Undefined, NoPlace}
use Rattle.assembler.specs.Answers.{refusal_of}
use Rattle.symbols.specs.Table.{entry_at}
use Rattle.labels.specs.Limits.{most_source}
use Rattle.labels.specs.Tables.{labels_within}
use Rattle.assembler.specs.Questions.{text_outcome, assemble_outcome}
use Rattle.assembler.specs.Promises.{Assembling}
use Rattle.assembler.specs.Passes.{Translated}

-- ---- the table for every label of the longest text

abbrev large_words : ℕ
large_words = 357720

-- It has room for the labels of any text.
pub large_room : (source : List ℕ) → length source ≤ most_source → large_words < entry_at (labels_within (length source)) → ⊥
large_room source h full = omega arith

-- ---- the call

-- The lent lengths were asked, and r is the answer.
module _ (source image memory : List ℕ) (r : Bool) (is : r ≡ (leb (length source) most_source && is_image_length (length image) && is_data_length (length memory))) where
  -- They are not right.
  pub wrong_length : r ≡ false → Assembling source image memory (Err WrongLength) image memory
  unfolding assemble_outcome
  wrong_length e =
      record {
        answer = rw (← is, e);
        words = refl;
        memory_words = refl;
        high_bits = λ q. let n : ◌≡◌ {A = ℕ} 1 0 = ap (λ (t : Outcome). t.number) q in absurd (omega arith);
      }

  -- They are.
  pub right-lengths : r ≡ true → (length source ≤ most_source) × (length image ≡ image_words) × (length memory ≡ data_words)
  right-lengths e =
      let both = and_left (leb (length source) most_source && is_image_length (length image)) (is_data_length (length memory)) (sym is ∙ e) in (
        leb-true (length source) most_source (and_left (leb (length source) most_source) (is_image_length (length image)) both),
        eqb-true (length image) image_words (and_right (leb (length source) most_source) (is_image_length (length image)) both),
        eqb-true (length memory) data_words (and_right (leb (length source) most_source && is_image_length (length image)) (is_data_length (length memory)) (sym is ∙ e)),
      )

-- ---- a source that is too long

-- It is refused, whatever its bytes, ..
pub long_refused : (source : List ℕ) (image memory_words : ℕ) → most_source < length source → assemble_outcome source image memory_words ≡ refused 1 0
unfolding assemble_outcome
long_refused source image memory_words long = rw (lt-leb (length source) most_source long)

-- .. so two such sources are assembled alike.
pub long_alike : (a b image memory : List ℕ) {r : Result (Unit {0}) AssembleError} {image_after memory_after : List ℕ} → most_source < length a → most_source < length b
    → Assembling a image memory r image_after memory_after → Assembling b image memory r image_after memory_after
long_alike a b image memory long-a long-b p =
    let no = p.answer ∙ long_refused a (length image) (length memory) long-a in
    record {
      answer = no ∙ sym (long_refused b (length image) (length memory) long-b);
      words = rw no at p.words ∙ rw no;
      memory_words = rw no at p.memory_words ∙ rw no;
      high_bits = p.high_bits;
    }

-- ---- a source of at most as many bytes

-- With right lengths, both passes over a text tell what is answered.
module _ (source image memory : List ℕ) (s : length source ≤ most_source) (i : length image ≡ image_words) (m : length memory ≡ data_words)
    (words memory_words : List ℕ) where
  text-outcome : text_outcome source ≡ assemble_outcome source (length image) (length memory)
  unfolding assemble_outcome
  text-outcome = rw (le-leb (length source) most_source s, i, m)

  -- A line is refused.
  pub line_refused : (error : AssembleError) → Translated source (Err error) words memory_words → Assembling source image memory (Err error) image memory
  line_refused error t =
      record {
        answer = t.answer ∙ text-outcome;
        words = rw (no_number error);
        memory_words = rw (no_number error);
        high_bits = λ z. absurd (some_number error (ap (λ (x : Outcome). x.number) z));
      }
    where
      some_number : (error : AssembleError) → (refusal_of error).number ≡ 0 → ⊥
      some_number WrongLength e = omega arith
      some_number (BadBytes line) e = omega arith
      some_number (WrongForm line) e = omega arith
      some_number (UnknownName line) e = omega arith
      some_number (OutOfRange line) e = omega arith
      some_number (DefinedBefore line) e = omega arith
      some_number (Undefined line) e = omega arith
      some_number (NoPlace line) e = omega arith

      no_number : (error : AssembleError) → eqb (refusal_of error).number 0 ≡ false
      no_number error = ne_eqb (refusal_of error).number 0 (some_number error)

  -- None is.
  pub text-good : Translated source (Ok tt) words memory_words → (image_after memory_after : List ℕ) → image_after ≡ words → memory_after ≡ memory_words → Assembling source image memory (Ok tt) image_after memory_after
  text-good t image_after memory_after a b =
      record {
        answer = t.answer ∙ text-outcome;
        words = a ∙ t.code refl;
        memory_words = b ∙ t.stores refl;
        high_bits = λ z. rw a t.high_bits;
      }
