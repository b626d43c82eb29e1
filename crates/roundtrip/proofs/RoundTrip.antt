-- Listing and assembling (demand 2): "Listing an image with known opcodes and assembling the text yields that image". First of the lister's text and
-- what a good text gives, then of any two calls that keep the lister's and the assembler's promises. `KnownOpcodes words`: each word's opcode
-- is at most 21. Assumes nothing.
use Prim.Native.Nat.{ℕ, zero, suc, ◌+◌, ◌-◌, ◌≤◌, ◌<◌}
use mathlib.Core.Path.{◌≡◌, refl, sym, ◌∙◌, ap}
use mathlib.Core.List.{List, [], ◌∷◌, ◌++◌, append-nil}
use native.Mathlib.Nat.{zero-add}
use native.Mathlib.Omega.{arith}
use lib.ListN.{length, take, replicate, length-map}
use lib.Seq.{length-take-le}
use borrow.Author.Tests.{le-leb}
use Rattle.text.specs.Questions.{accepted, first_bad}
use Rattle.text.specs.Lines.{lines}
use Rattle.files.specs.Sizes.{image_words, data_words}
use Rattle.files.specs.MemoryFile.{low48, SameImage}
use Rattle.files.proofs.ReturnTrip.{same-image_returns}
use Rattle.std.proofs.Common.{Result}
use Rattle.assembler.specs.declared.AssembleError.{AssembleError}
use Rattle.assembler.specs.Answers.{assembled_outcome}
use Rattle.statements.specs.Questions.{line_questions}
use Rattle.assembler.specs.Questions.{text_outcome, assemble_outcome}
use Rattle.assembler.specs.Memories.{code_of, assembled_image, stored, assembled_data}
use Rattle.assembler.specs.Promises.{Assembling}
use Rattle.lister.specs.declared.ListError.{ListError}
use Rattle.lister.specs.Listing.{listing}
use Rattle.lister.specs.Calls.{KnownOpcodes, listed_outcome, list_outcome, TextListed}
use Rattle.lister.specs.Used.{IsZero, Used}
use Rattle.lister.proofs.ListingLaws.{listing_most}
use Rattle.roundtrip.specs.Demand2.{ListingReturns}
use Rattle.roundtrip.proofs.ListedText.{listed-lines, no_line_bad, listed-code, nothing_stored}
use Rattle.lister.proofs.CallLaws.{all_known, accepted-is, text_in_front}

-- ---- of texts

-- Words with known opcodes, no more than an image has, are listed where the text has room; ..
pub known-listed : (words : List ℕ) (room : ℕ) → length words ≤ image_words → KnownOpcodes words → length (listing words) ≤ room
    → list_outcome words room ≡ accepted (length (listing words))
unfolding list_outcome
known-listed words room size known fits =
    rw (le-leb (length words) 4096 size) (all_known 0 words _ known ∙ rw (le-leb (length (listing words)) room fits))

-- .. the assembler accepts their text; ..
pub listing-accepted : (words : List ℕ) → length words ≤ image_words → KnownOpcodes words → assemble_outcome (listing words) image_words data_words ≡ accepted 0
unfolding assemble_outcome text_outcome
listing-accepted words size known =
    let most = listing_most words in
    let all = lines (listing words) in
    rw (le-leb (length (listing words)) 262144 (omega arith))
    (ap (λ (ls : List (List ℕ)). first_bad (λ i line. line_questions all (take i all) line) 0 ls (accepted 0)) (listed-lines words known)
    ∙ no_line_bad all 0 words (accepted 0) known (rw zero-add size))

-- .. its image is the words, with zeros above bit 47, and zeros after them; ..
pub listing-image : (words : List ℕ) → KnownOpcodes words → assembled_image (listing words) ≡ low48 words ++ replicate (image_words - length words) 0
unfolding assembled_image
listing-image words known =
    let all = lines (listing words) in
    let code : code_of all all ≡ low48 words = ap (code_of all) (listed-lines words known) ∙ listed-code all words known in
    rw (code, length-map)

-- .. and its data memory is zero.
pub listing_data : (words : List ℕ) → KnownOpcodes words → assembled_data (listing words) ≡ replicate data_words 0
unfolding assembled_data
listing_data words known = ap (stored (replicate data_words 0)) (listed-lines words known) ∙ nothing_stored (replicate data_words 0) words known

-- After the words of a whole image stands nothing.
same-image : (words : List ℕ) → length words ≡ image_words → SameImage (low48 words ++ replicate (image_words - length words) 0) words
same-image words whole =
    let none : image_words - length words ≡ 0 = omega arith in
    rw (none, append-nil) (same-image_returns words)

-- So the text of a whole image assembles to that image.
pub listing-same-image : (words : List ℕ) → length words ≡ image_words → KnownOpcodes words → SameImage (assembled_image (listing words)) words
listing-same-image words whole known = rw (listing-image words known) (same-image words whole)

-- ---- of calls

-- Words were listed: r was answered, and `after` is the slice that was lent for the text, after the call. Where r tells that n bytes were written, these
-- n bytes are assembled into any image and data memory of the right lengths, whatever they held. Then a, which is answered, tells no refusal, and the
-- memories are `image_after` and `memory_after`: the words, with zeros above bit 47, and zeros after them; and zeros. Of the words nothing is asked: that the
-- lister accepted them tells that their opcodes are known.
pub listed_assembles : (words out : List ℕ) (r : Result ℕ ListError) (after : List ℕ) (n : ℕ) (image memory : List ℕ) (a : Result (Unit {0}) AssembleError) (image_after memory_after : List ℕ)
    → TextListed words out r after → listed_outcome r ≡ accepted n
    → length image ≡ image_words → length memory ≡ data_words
    → Assembling (take n after) image memory a image_after memory_after
    → (assembled_outcome a ≡ accepted 0) × (image_after ≡ low48 words ++ replicate (image_words - length words) 0) × (memory_after ≡ replicate data_words 0)
listed_assembles words out r after n image memory a image_after memory_after listed good image_size data-size assembled =
    let is = accepted-is words (length out) n (sym listed.answer ∙ good) in
    let p = rw (text_in_front words out r after n listed good) at assembled in
    let outcome : assembled_outcome a ≡ accepted 0 = rw (image_size, data-size) at p.answer ∙ listing-accepted words is.size is.known in
    (outcome, rw outcome at p.words ∙ listing-image words is.known, rw outcome at p.memory_words ∙ listing_data words is.known)

-- An image that was listed whole comes back.
pub listed-image_returns : (words out : List ℕ) (r : Result ℕ ListError) (after : List ℕ) (n : ℕ) (image memory : List ℕ) (a : Result (Unit {0}) AssembleError) (image_after memory_after : List ℕ)
    → TextListed words out r after → listed_outcome r ≡ accepted n
    → length image ≡ image_words → length memory ≡ data_words
    → Assembling (take n after) image memory a image_after memory_after
    → length words ≡ image_words
    → (assembled_outcome a ≡ accepted 0) × SameImage image_after words
listed-image_returns words out r after n image memory a image_after memory_after listed good image_size data-size assembled whole =
    let back = listed_assembles words out r after n image memory a image_after memory_after listed good image_size data-size assembled in
    (back.0, rw back.1 (same-image words whole))

-- Nor need it be listed whole: the words up to the last that is not zero are enough, since the assembler leaves zeros after them.
zeros_after : (n k : ℕ) (words : List ℕ) → n + k ≡ length words → ((i : ℕ) → n ≤ i → i < length words → IsZero words i)
    → low48 (take n words) ++ replicate k 0 ≡ low48 words
zeros_after zero zero [] e zeros = refl
zeros_after zero zero (w ∷ ws) e zeros = absurd (omega arith)
zeros_after zero (suc k) [] e zeros = absurd (omega arith)
zeros_after zero (suc k) (w ∷ ws) e zeros =
    rw (zeros 0 (omega arith) (omega arith), ← zeros_after zero k ws (omega arith) (λ i low high. zeros (suc i) (omega arith) (omega arith)))
zeros_after (suc n) k [] e zeros = absurd (omega arith)
zeros_after (suc n) k (w ∷ ws) e zeros =
    rw (zeros_after n k ws (omega arith) (λ i low high. zeros (suc i) (omega arith) (omega arith)))

module _ (words : List ℕ) (n : ℕ) (used : Used words n) (whole : length words ≡ image_words) where
  used_image : SameImage (low48 (take n words) ++ replicate (image_words - length (take n words)) 0) words
  used_image =
      let within = used.within in
      rw (length-take-le n words within, zeros_after n (image_words - n) words (omega arith) used.rest) (same-image_returns words)

  pub used_returns : (out : List ℕ) (r : Result ℕ ListError) (after : List ℕ) (m : ℕ) (image memory : List ℕ) (a : Result (Unit {0}) AssembleError) (image_after memory_after : List ℕ)
      → TextListed (take n words) out r after → listed_outcome r ≡ accepted m
      → length image ≡ image_words → length memory ≡ data_words
      → Assembling (take m after) image memory a image_after memory_after
      → (assembled_outcome a ≡ accepted 0) × SameImage image_after words × (memory_after ≡ replicate data_words 0)
  used_returns out r after m image memory a image_after memory_after listed good image_size data-size assembled =
      let back = listed_assembles (take n words) out r after m image memory a image_after memory_after listed good image_size data-size assembled in
      (back.0, rw back.1 used_image, back.2)

-- With room for the text an image with known opcodes is listed, and its listing gives it back.
pub listing_returns : ListingReturns
listing_returns words out text image memory image_after memory_after r a whole known room listed image_size data-size assembled =
    let outcome : listed_outcome r ≡ accepted (length (listing words)) = listed.answer ∙ known-listed words (length out) (omega arith) known room in
    let back = listed_assembles words out r text (length (listing words)) image memory a image_after memory_after listed outcome image_size data-size assembled in
    record {
      listed = outcome;
      assembled = back.0;
      same-image = rw back.1 (same-image words whole);
      zero_data = back.2;
    }
