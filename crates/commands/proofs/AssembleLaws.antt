-- A program is assembled as well from the front of its file: the bytes of the longest source and one more decide. Assumes nothing.
use Prim.Native.Nat.{ℕ, ◌<◌}
use mathlib.Core.Path.{◌≡◌, refl, sym, ◌∙◌, ap}
use mathlib.Core.List.{List}
use native.Mathlib.Omega.{arith}
use lib.ListN.{length, take}
use Rattle.text.specs.declared.Outcome.{Outcome}
use Rattle.labels.specs.Limits.{most_source}
use Rattle.std.specs.Prelude.{Result}
use Rattle.assembler.specs.declared.AssembleError.{AssembleError}
use Rattle.assembler.specs.Answers.{assembled_outcome}
use Rattle.assembler.specs.Promises.{Assembling}
use Rattle.assembler.proofs.CallLaws.{long_refused, long_alike}
use Rattle.files.specs.Front.{IsFront}
use Rattle.files.proofs.FrontLaws.{by_front}
use Rattle.commands.specs.Program.{TextAssembled, FrontAssembled}

-- The first n bytes of a buffer were assembled, which has room for one byte more than the longest source.
module _ (buffer : List ℕ) (n : ℕ) {image memory image_after memory_after : List ℕ} {r : Result (Unit {0}) AssembleError} {t : Outcome} (room : most_source < length buffer)
    (assembled : Assembling (take n buffer) image memory r image_after memory_after) (says : t ≡ assembled_outcome r) where
  whole-assembled : (whole : List ℕ) → IsFront buffer n whole → TextAssembled whole t image memory image_after memory_after
  whole-assembled whole front =
      let all = by_front (λ (s : List ℕ). Assembling s image memory r image_after memory_after) buffer n whole front assembled
      (λ full long. long_alike (take n buffer) whole image memory (omega arith) (omega arith) assembled) in
      record { outcome = says ∙ all.answer; words = rw says all.words; memory_words = rw says all.memory_words }

  whole-read : t.number ≡ 0 → (whole : List ℕ) → IsFront buffer n whole → take n buffer ≡ whole
  whole-read none whole front =
      by_front (λ (s : List ℕ). take n buffer ≡ s) buffer n whole front refl
      (λ full long.
      let refusal = says ∙ assembled.answer ∙ long_refused (take n buffer) (length image) (length memory) (omega arith) in
      let one : ◌≡◌ {A = ℕ} 0 1 = sym none ∙ ap (λ (u : Outcome). u.number) refusal in
      absurd (omega arith))

  pub front-assembled : FrontAssembled buffer n t image memory image_after memory_after
  front-assembled = record { text = whole-assembled; all = whole-read }
