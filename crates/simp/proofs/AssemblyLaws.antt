-- What assembling and listing promise, in the numbers of the C face. Assumes nothing.
use Prim.Native.Nat.{ℕ}
use mathlib.Core.Path.{◌≡◌, refl, sym, ◌∙◌, ap}
use mathlib.Core.List.{List}
use native.Mathlib.Omega.{arith}
use Rattle.text.specs.declared.Outcome.{Outcome}
use Rattle.text.specs.Questions.{accepted, unless_refused}
use Rattle.std.proofs.Common.{Result, Ok, Err}
use Rattle.assembler.specs.declared.AssembleError.{AssembleError}
use Rattle.assembler.specs.declared.AssembleError.TheVariants.{WrongLength, BadBytes, WrongForm, UnknownName, OutOfRange, DefinedBefore, Undefined, NoPlace}
use Rattle.assembler.specs.Answers.{assembled_outcome}
use Rattle.assembler.specs.Promises.{Assembling}
use Rattle.assembler.specs.Memories.{assembled_image, assembled_data}
use Rattle.lister.specs.declared.ListError.{ListError}
use Rattle.lister.specs.Calls.{listed_outcome, TextListed}
use Rattle.simp.specs.Assembly.{Assembles, Lists}

-- Number 0 tells that a text is assembled.
number-zero : (a : Result (Unit {0}) AssembleError) → (assembled_outcome a).number ≡ 0 → assembled_outcome a ≡ accepted 0
number-zero (Ok _) e = refl
number-zero (Err WrongLength) e = absurd (omega arith)
number-zero (Err (BadBytes line)) e = absurd (omega arith)
number-zero (Err (WrongForm line)) e = absurd (omega arith)
number-zero (Err (UnknownName line)) e = absurd (omega arith)
number-zero (Err (OutOfRange line)) e = absurd (omega arith)
number-zero (Err (DefinedBefore line)) e = absurd (omega arith)
number-zero (Err (Undefined line)) e = absurd (omega arith)
number-zero (Err (NoPlace line)) e = absurd (omega arith)

pub assembles : {source image memory : List ℕ} {a : Result (Unit {0}) AssembleError} {image_after memory_after : List ℕ} {r : Outcome} → Assembling source image memory a image_after memory_after → r ≡ assembled_outcome a
    → Assembles source image memory r.number image_after memory_after r.place
assembles {source} {image} {memory} {a} p t =
    record {
      number = ap (λ (x : Outcome). x.number) (t ∙ p.answer);
      line = ap (λ (x : Outcome). x.place) (t ∙ p.answer);
      words = p.words ∙ ap (λ (x : Outcome). unless_refused x (assembled_image source) image) p.answer;
      memory_words = p.memory_words ∙ ap (λ (x : Outcome). unless_refused x (assembled_data source) memory) p.answer;
      high_bits = λ q. p.high_bits (number-zero a (sym (ap (λ (x : Outcome). x.number) t) ∙ q));
    }

pub lists : {words text : List ℕ} {a : Result ℕ ListError} {text_after : List ℕ} {r : Outcome} → TextListed words text a text_after → r ≡ listed_outcome a → Lists words text r.number text_after r.count r.place
lists p t =
    record {
      number = ap (λ (x : Outcome). x.number) (t ∙ p.answer);
      byte_count = ap (λ (x : Outcome). x.count) (t ∙ p.answer);
      word = ap (λ (x : Outcome). x.place) (t ∙ p.answer);
      bytes = p.bytes;
    }
