-- What the assembler finds on a listed line. Assumes nothing.
use Prim.Native.Nat.{ℕ, ◌%◌, ◌^◌, ◌≤◌}
use mathlib.Core.Path.{◌≡◌, refl, ◌∙◌}
use mathlib.Core.Bool.{true, false}
use mathlib.Core.List.{List, [], ◌∷◌}
use native.Mathlib.Omega.{arith}
use lib.ListN.{length}
use borrow.Author.Tests.{le-leb}
use Rattle.text.specs.Bytes.{bytes}
use Rattle.isa.specs.declared.Fields.{Fields}
use Rattle.isa.specs.Word.{fields_of, word_of}
use Rattle.isa.specs.Operations.{operation_name}
use Rattle.isa.proofs.WordLaws.{decode_fits, encode_decode}
use Rattle.source.specs.Bytes.{is_allowed, are_all, are_right_bytes}
use Rattle.source.specs.Tokens.{tokens, texts}
use Rattle.source.specs.Numbers.{number, is_number}
use Rattle.text.specs.Same.{same}
use Rattle.source.specs.Names.{is_definition}
use Rattle.source.specs.Shapes.{fits, matches, first_shape}
use Rattle.lines.specs.declared.Form.TheVariants.{Code}
use Rattle.lines.specs.Line.{shapes, form_of, operand}
use Rattle.lines.specs.Asked.{is_known, are_in_range}
use Rattle.statements.specs.Encoding.{immediate, encoded}
use Rattle.lister.specs.Listing.{operand_texts, listed_line}
use Rattle.lister.specs.Calls.{last_opcode}
use Rattle.lister.proofs.LineLaws.{line_most}
use Rattle.roundtrip.proofs.WrittenTokens.{and_no, AllWritten, reads_line, allowed-line}
use Rattle.roundtrip.proofs.WrittenNames.{OperationToken, operation-token, RegisterToken, register-token}
use Rattle.roundtrip.proofs.WrittenNumbers.{ImmediateToken, immediate-token}

-- A line that is an instruction, good wherever it stands, and assembles to w.
pub record Good (line : List ℕ) (w : ℕ) : Type 0 where
  pub allowed : are_all is_allowed line ≡ true
  pub right-bytes : are_right_bytes line ≡ true
  pub form : form_of line ≡ Code
  pub known : is_known Code line ≡ true
  pub in_range : are_in_range Code line ≡ true
  pub numeric1 : is_number (number (operand 4 Code line)) ≡ true
  pub numeric2 : is_number (number (operand 5 Code line)) ≡ true
  pub word : (lines : List (List ℕ)) → encoded lines line ≡ w

-- A line whose tokens are those of an instruction with these fields.
module _ (f : Fields) (line op rd rs rt rm imm1 imm2 : List ℕ)
    (found : texts (tokens line) ≡ op ∷ rd ∷ bytes "," ∷ rs ∷ bytes "," ∷ rt ∷ bytes "," ∷ rm ∷ bytes "," ∷ imm1 ∷ bytes "," ∷ imm2 ∷ [])
    (is-op : OperationToken f.op op) (is-rd : RegisterToken f.rd rd) (is-rs : RegisterToken f.rs rs) (is-rt : RegisterToken f.rt rt)
    (is-rm : RegisterToken f.rm rm) (is-imm1 : ImmediateToken f.imm1 imm1) (is-imm2 : ImmediateToken f.imm2 imm2) where
  has_form_lem : are_right_bytes line ≡ true → form_of line ≡ Code
  unfolding form_of shapes first_shape matches fits same
  has_form_lem right =
      rw (right, found, and_no (is_definition op) false refl, is-op.name, is-rd.name, is-rs.name, is-rt.name, is-rm.name, is-imm1.numeric, is-imm2.numeric)

  has_word_lem : form_of line ≡ Code → (lines : List (List ℕ)) → encoded lines line ≡ word_of f
  unfolding encoded immediate
  has_word_lem form lines =
      rw (form, found, is-op.place, is-rd.place, is-rs.place, is-rt.place, is-rm.place, is-imm1.numeric, is-imm2.numeric, is-imm1.stored, is-imm2.stored)

  good-line : (w : ℕ) → word_of f ≡ w → length line ≤ 45 → are_all is_allowed line ≡ true → Good line w
  unfolding are_right_bytes is_known are_in_range
  good-line w e short allowed =
      let right : are_right_bytes line ≡ true = rw (le-leb (length line) 500 (omega arith), allowed) in
      let form = has_form_lem right in
      record {
        allowed = allowed;
        right-bytes = right;
        form = form;
        known = rw (found, is-op.among, is-rd.among, is-rs.among, is-rt.among, is-rm.among);
        in_range = rw (found, is-imm1.within, is-imm2.within);
        numeric1 = rw (found, is-imm1.numeric);
        numeric2 = rw (found, is-imm2.numeric);
        word = λ lines. has_word_lem form lines ∙ e;
      }

-- The line of a word with a known opcode is such a line: it assembles to the word's low 48 bits.
pub listed-good : (w : ℕ) → (fields_of w).op ≤ last_opcode → Good (listed_line w) (w % 2 ^ 48)
unfolding listed_line
listed-good w h =
    let f = fields_of w in
    let fit = decode_fits w in
    let op = operation-token f.op h in
    let rd = register-token f.rd fit.rd in
    let rs = register-token f.rs fit.rs in
    let rt = register-token f.rt fit.rt in
    let rm = register-token f.rm fit.rm in
    let imm1 = immediate-token f.imm1 fit.imm1 in
    let imm2 = immediate-token f.imm2 fit.imm2 in
    let name = operation_name f.op in
    let ts = operand_texts w in
    let ws : AllWritten ts = (rd.written, (rs.written, (rt.written, (rm.written, (imm1.written, (imm2.written, tt)))))) in
    good-line f (listed_line w) _ _ _ _ _ _ _ (reads_line name ts op.written ws 0) op rd rs rt rm imm1 imm2
    (w % 2 ^ 48) (encode_decode w) (line_most w) (allowed-line name ts op.written ws)
