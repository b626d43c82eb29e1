-- What the lister's answer tells of the words and of the text. Assumes nothing.
use Rattle.std.specs.Prelude.{Result}
use Prim.Native.Nat.{ℕ, zero, suc, ◌+◌, ◌≤◌}
use mathlib.Core.Path.{◌≡◌, refl, sym, ◌∙◌, ap}
use mathlib.Core.List.{List, [], ◌∷◌}
use native.Mathlib.Nat.{not-suc-le-zero, le_of_suc-le-suc}
use native.Mathlib.Omega.{arith}
use lib.ListN.{length, take}
use lib.Seq.{take-append_seam}
use lib.Dec.{leb}
use borrow.Author.Tests.{le-leb, leb-true}
use Rattle.text.specs.declared.Outcome.{Outcome}
use Rattle.text.specs.Questions.{accepted, first_no}
use Rattle.text.proofs.QuestionLaws.{first_yes}
use Rattle.text.proofs.PutLaws.{put_front}
use Rattle.files.specs.Sizes.{image_words}
use Rattle.isa.specs.Word.{fields_of}
use Rattle.lister.specs.declared.ListError.{ListError}
use Rattle.lister.specs.Listing.{listing}
use Rattle.lister.specs.Calls.{KnownOpcodes, listed_outcome, last_opcode, first_unknown, list_outcome, TextListed}

-- ---- the question of opcodes

known_cons : (w : ℕ) (ws : List ℕ) → (fields_of w).op ≤ last_opcode → KnownOpcodes ws → KnownOpcodes (w ∷ ws)
known_cons w ws h known zero k = h
known_cons w ws h known (suc i) k = known i (le_of_suc-le-suc k)

-- Where it refuses no word, all opcodes are known, ..
pub none_unknown : (i : ℕ) (ws : List ℕ) (t : Outcome) → (first_unknown i ws t).number ≡ 0 → KnownOpcodes ws
unfolding first_unknown
none_unknown i [] t e = λ k h. absurd (not-suc-le-zero h)
none_unknown i (w ∷ ws) t e =
    let asked = first_yes 16 i (leb (fields_of w).op last_opcode) (first_unknown (i + 1) ws t) (omega arith) e in
    known_cons w ws (leb-true (fields_of w).op last_opcode asked.0) (none_unknown (i + 1) ws t asked.1)

-- .. and where they are it refuses none.
pub all_known : (i : ℕ) (ws : List ℕ) (t : Outcome) → KnownOpcodes ws → first_unknown i ws t ≡ t
unfolding first_unknown
all_known i [] t known = refl
all_known i (w ∷ ws) t known =
    rw (le-leb (fields_of w).op last_opcode (known 0 (omega arith))) (all_known (i + 1) ws t (λ k h. known (suc k) (omega arith)))

-- ---- an accepted call

-- What an accepted call tells of its words and of the n bytes of text that it wrote.
pub record Accepted (words : List ℕ) (room n : ℕ) : Type 0 where
  pub size : length words ≤ image_words
  pub known : KnownOpcodes words
  pub fits : length (listing words) ≤ room
  pub count : n ≡ length (listing words)

pub accepted-is : (words : List ℕ) (room n : ℕ) → list_outcome words room ≡ accepted n → Accepted words room n
unfolding list_outcome
accepted-is words room n e =
    let text = length (listing words) in
    let last = first_no ((15, leb text room) ∷ []) 0 (accepted text) in
    let first = first_yes 1 0 (leb (length words) image_words) (first_unknown 0 words last) (omega arith) (ap (λ (t : Outcome). t.number) e) in
    let known = none_unknown 0 words last first.1 in
    let outcome : last ≡ accepted n = sym (all_known 0 words last known) ∙ (rw first.0 at e) in
    let third = first_yes 15 0 (leb text room) (accepted text) (omega arith) (ap (λ (t : Outcome). t.number) outcome) in
    record {
      size = leb-true (length words) image_words first.0;
      known = known;
      fits = leb-true text room third.0;
      count = sym (ap (λ (t : Outcome). t.count) (rw third.0 at outcome));
    }

-- The text stands at the front of what was lent.
pub text_in_front : (words out : List ℕ) (r : Result ℕ ListError) (after : List ℕ) (n : ℕ) → TextListed words out r after → listed_outcome r ≡ accepted n
    → take n after ≡ listing words
text_in_front words out r after n p e =
    let outcome = sym p.answer ∙ e in
    let is = accepted-is words (length out) n outcome in
    let front = rw outcome at p.bytes ∙ put_front out (listing words) is.fits in
    rw (front, is.count, take-append_seam)

-- Where no question gets a no, the bytes that are counted have room.
pub count-within : (words : List ℕ) (room : ℕ) (t : Outcome) → t ≡ list_outcome words room → t.number ≡ 0 → t.count ≤ room
unfolding list_outcome
count-within words room t e z =
    let text = length (listing words) in
    let last = first_no ((15, leb text room) ∷ []) 0 (accepted text) in
    let first = first_yes 1 0 (leb (length words) image_words) (first_unknown 0 words last) (omega arith) (ap (λ (o : Outcome). o.number) (sym e) ∙ z) in
    let same = all_known 0 words last (none_unknown 0 words last first.1) in
    let fits = first_yes 15 0 (leb text room) (accepted text) (omega arith) (ap (λ (o : Outcome). o.number) (sym same) ∙ first.1) in
    let is : t ≡ accepted text = e ∙ rw first.0 (same ∙ rw fits.0) in
    omega (arith, leb-true text room fits.0, ap (λ (o : Outcome). o.count) is)
