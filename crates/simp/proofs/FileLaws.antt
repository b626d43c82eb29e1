-- What the readers and writers promise, in the numbers of the C face. Assumes nothing.
use Prim.Native.Nat.{ℕ}
use mathlib.Core.Path.{◌≡◌, ◌∙◌, ap}
use mathlib.Core.Bool.{Bool}
use mathlib.Core.List.{List}
use Rattle.text.specs.declared.Outcome.{Outcome}
use Rattle.std.proofs.Common.{Result}
use Rattle.files.specs.declared.FileError.{FileError}
use Rattle.files.specs.declared.CycleError.{CycleError}
use Rattle.files.specs.declared.WriteError.{WriteError}
use Rattle.files.specs.Answers.{file_read_outcome, cycles_read_outcome, written_outcome}
use Rattle.files.specs.Promises.{MemoryRead, Irq2Read, TextWritten}
use Rattle.intel_hex.specs.declared.HexError.{HexError}
use Rattle.intel_hex.specs.Answers.{hex_read_outcome}
use Rattle.intel_hex.specs.Promises.{HexFileRead}
use Rattle.simp.specs.Files.{Reads, ReadsCycles, ReadsHex, Writes}

pub reads : {k : ℕ} {is_right : ℕ → Bool} {text memory : List ℕ} {a : Result (Unit {0}) FileError} {after : List ℕ} {r : Outcome} → MemoryRead k is_right text memory a after → r ≡ file_read_outcome a
    → Reads k is_right text memory r.number after r.place
reads p t =
    record {
      number = ap (λ (x : Outcome). x.number) (t ∙ p.answer);
      line = ap (λ (x : Outcome). x.place) (t ∙ p.answer);
      words = p.words;
    }

pub reads_cycles : {text cycles : List ℕ} {a : Result ℕ CycleError} {after : List ℕ} {r : Outcome} → Irq2Read text cycles a after → r ≡ cycles_read_outcome a
    → ReadsCycles text cycles r.number after r.count r.place
reads_cycles p t =
    record {
      number = ap (λ (x : Outcome). x.number) (t ∙ p.answer);
      cycle-count = ap (λ (x : Outcome). x.count) (t ∙ p.answer);
      line = ap (λ (x : Outcome). x.place) (t ∙ p.answer);
      places = p.places;
    }

pub writes : {is_right : Bool} {file text : List ℕ} {a : Result ℕ WriteError} {after : List ℕ} {r : Outcome} → TextWritten is_right file text a after → r ≡ written_outcome a
    → Writes is_right file text r.number after r.count
writes p t =
    record {
      number = ap (λ (x : Outcome). x.number) (t ∙ p.answer);
      byte_count = ap (λ (x : Outcome). x.count) (t ∙ p.answer);
      bytes = p.bytes;
    }

pub reads_hex : {size : ℕ} {text memory : List ℕ} {a : Result (Unit {0}) HexError} {after : List ℕ} {r : Outcome} → HexFileRead size text memory a after → r ≡ hex_read_outcome a
    → ReadsHex size text memory r.number after r.place
reads_hex p t =
    record {
      number = ap (λ (x : Outcome). x.number) (t ∙ p.answer);
      line = ap (λ (x : Outcome). x.place) (t ∙ p.answer);
      words = p.words;
    }
