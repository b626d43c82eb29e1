-- What is asked of memories after a trial, question by question. Assumes nothing.
use Prim.Native.Nat.{ℕ, ◌≤◌}
use mathlib.Core.Path.{◌≡◌, refl, sym, ◌∙◌, ap}
use mathlib.Core.Bool.{Bool, true, false, ◌&&◌}
use mathlib.Core.List.{List}
use native.Mathlib.Omega.{arith}
use lib.ListN.{length}
use lib.Seq.{length-take-le}
use borrow.Author.Tests.{eq-eqb, ne_eqb}
use Rattle.text.specs.declared.Outcome.{Outcome}
use Rattle.text.specs.Same.{same}
use Rattle.std.specs.Prelude.{Result, Ok, Err}
use Rattle.assembler.specs.declared.AssembleError.{AssembleError}
use Rattle.assembler.specs.Answers.{assembled_outcome}
use Rattle.assembler.specs.Questions.{assemble_outcome}
use Rattle.assembler.specs.Memories.{assembled_image, assembled_data}
use Rattle.assembler.specs.Promises.{Assembling}
use Rattle.lister.specs.declared.ListError.{ListError}
use Rattle.lister.specs.declared.ListError.TheVariants.{WrongLength, UnknownOpcode, NoRoom}
use Rattle.lister.specs.Calls.{listed_outcome, TextListed}
use Rattle.lister.proofs.CallLaws.{count-within}
use Rattle.check_asm.specs.Trials.{are_all, is_image_of, ListedInto}

-- ---- a text, assembled again

-- A text was assembled into memories of the right lengths, and t was told.
module _ (source image : List ℕ) {lent-image lent-memory again memory : List ℕ} {r : Result (Unit {0}) AssembleError} {t : Outcome} (i : length lent-image ≡ 4096) (m : length lent-memory ≡ 4096)
    (assembled : Assembling source lent-image lent-memory r again memory) (says : t ≡ assembled_outcome r) where
  told : t ≡ assemble_outcome source 4096 4096
  told = rw (i, m) at (says ∙ assembled.answer)

  -- It is refused, ..
  pub text-refused : (t.number ≡ 0 → ⊥) → false ≡ is_image_of source image
  text-refused some = rw (← told, ne_eqb t.number 0 some)

  -- .. or not: the data are asked, ..
  module _ (none : t.number ≡ 0) (z : Bool) (asked : z ≡ are_all memory 0) where
    accepted_so : is_image_of source image ≡ (z && same again image)
    accepted_so =
        let good = eq-eqb t.number 0 none in
        let words : again ≡ assembled_image source = assembled.words ∙ rw (← says, good) in
        let memory_words : memory ≡ assembled_data source = assembled.memory_words ∙ rw (← says, good) in
        rw (← told, good, ← memory_words, ← words, ← asked)

    pub data_differ : z ≡ false → false ≡ is_image_of source image
    data_differ e = sym (accepted_so ∙ rw e)

    -- .. and then the image.
    pub image-asked : z ≡ true → {s : Bool} → s ≡ same again image → s ≡ is_image_of source image
    image-asked e is = is ∙ sym (accepted_so ∙ rw e)

-- ---- a listing

count_fits : {words out after : List ℕ} (r : Result ℕ ListError) → TextListed words out r after → (listed_outcome r).count ≤ length out
count_fits {words} {out} (Ok n) listed = count-within words (length out) (listed_outcome (Ok n)) listed.answer refl
count_fits (Err WrongLength) listed = omega arith
count_fits (Err (UnknownOpcode word)) listed = omega arith
count_fits (Err NoRoom) listed = omega arith

pub listed_into : {words out after : List ℕ} {r : Result ℕ ListError} {n : ℕ} → TextListed words out r after → length after ≡ length out → n ≡ (listed_outcome r).count
    → ListedInto words out n after
listed_into {words} {out} {after} {r} {n} listed kept is =
    let fits : n ≤ length after = omega (arith, count_fits r listed) in
    record { count = is ∙ ap (λ (t : Outcome). t.count) listed.answer; bytes = listed.bytes; within = (fits, sym (length-take-le n after fits)) }
