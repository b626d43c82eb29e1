-- The words that a text gives, from more bytes than the memory has or from fewer: a good text names none that is missing. Assumes nothing.
use Prim.Native.Nat.{ℕ, zero, suc, ◌+◌, ◌*◌, ◌≤◌, ◌<◌}
use mathlib.Core.Path.{◌≡◌, refl, ◌∙◌}
use mathlib.Core.Bool.{Bool, true, false, cond, not, ◌&&◌, ◌||◌}
use mathlib.Core.List.{List, [], ◌∷◌}
use native.Mathlib.Omega.{arith}
use lib.ListN.{length, get_or, drop, set, replicate, length-drop, length-set, length-take, length-replicate}
use lib.Seq.{get_or-drop, get_or-set_same, get_or-set_other}
use lib.Dec.{eqb}
use borrow.Author.Tests.{eqb-true, eqb-false}
use Rattle.text.specs.Questions.{accepted}
use Rattle.text.specs.Place.{put}
use Rattle.text.proofs.Truth.{and_left, and_right}
use Rattle.text.proofs.PutLaws.{length-put}
use Rattle.text.proofs.QuestionLaws.{first_yes}
use Rattle.intel_hex.specs.Words.{words_of}
use Rattle.intel_hex.specs.Record.{line_bytes, data_count, address, kind, data_bytes, is_record}
use Rattle.intel_hex.specs.Reading.{record_lines, is_end, is_right_end, is_read_type, is_placed, free_after, records_outcome, put_records, hex_words}
use Rattle.intel_hex.proofs.PairLaws.{values_below}
use Rattle.intel_hex.proofs.RecordLaws.{record_digits}
use Rattle.intel_hex.proofs.OutcomeLaws.{is_none, none_is, told, told_is}

-- ---- a good text is records

unfoldable AreRecords : List (List ℕ) → Type 0
AreRecords [] = Unit {0}
AreRecords (l ∷ ls) = (is_record l ≡ true) × AreRecords ls

told_records : (room free i : ℕ) (ls : List (List ℕ)) → (told room free i ls).number ≡ 0 → AreRecords ls
unfolding told AreRecords
told_records room free i [] e = tt
told_records room free i (l ∷ ls) e =
    let b = line_bytes l in
    let one = first_yes 17 (i + 1) (is_record l && is_right_end (is_none ls) (kind b) (data_count b)) _ (omega arith) e in
    let two = first_yes 18 (i + 1) (is_read_type (kind b)) _ (omega arith) one.1 in
    let three = first_yes 19 (i + 1) (is_placed room free (address b) (data_count b)) _ (omega arith) two.1 in
    (and_left (is_record l) _ one.0, go (is_end (kind b)) (data_count b) (and_right (is_record l) _ one.0) three.1 (told_records room (free_after free b) (i + 1) ls))
  where
    go : (t : Bool) (n : ℕ) → (not t || (eqb n 0 && is_none ls)) ≡ true → (cond t (accepted 0) (told room (free_after free (line_bytes l)) (i + 1) ls)).number ≡ 0
        → ((told room (free_after free (line_bytes l)) (i + 1) ls).number ≡ 0 → AreRecords ls) → AreRecords ls
    go true n e f more = rw (none_is ls (and_right (eqb n 0) (is_none ls) e)) tt
    go false n e f more = more f

-- What a record names lies below 65,792.
record_within : (l : List ℕ) → is_record l ≡ true → address (line_bytes l) + length (data_bytes (line_bytes l)) ≤ 65792
record_within l good =
    let below = values_below (drop 1 l) (record_digits l good) in
    let count = below 0 in
    let high = below 1 in
    let low = below 2 in
    let few = length-take (data_count (line_bytes l)) (drop 4 (line_bytes l)) in
    omega arith

-- ---- the same bytes as far as the first list goes

unfoldable Same : List ℕ → List ℕ → Type 0
Same d e = (k : ℕ) → k < length d → get_or d k 0 ≡ get_or e k 0

same_set : (d e : List ℕ) (i x : ℕ) → i < length e → Same d e → Same (set d i x) (set e i x)
unfolding Same
same_set d e i x h same k below = go (eqb k i) refl
  where
    inside : k < length d
    inside = rw (length-set d i x) at below

    go : (t : Bool) → eqb k i ≡ t → get_or (set d i x) k 0 ≡ get_or (set e i x) k 0
    go true q =
        let here = eqb-true k i q in
        let within : i < length d = rw (← here) inside in
        rw (here, get_or-set_same d i x 0 within, get_or-set_same e i x 0 h)
    go false q = rw (get_or-set_other d i k x 0 (eqb-false k i q), get_or-set_other e i k x 0 (eqb-false k i q)) (same k inside)

same-put : (d e : List ℕ) (at : ℕ) (xs : List ℕ) → at + length xs ≤ length e → Same d e → Same (put d at xs) (put e at xs)
unfolding put
same-put d e at [] h same = same
same-put d e at (x ∷ xs) h same =
    same-put (set d at x) (set e at x) (suc at) xs (rw (length-set e at x) (omega arith)) (same_set d e at x (omega arith) same)

same_records : (d e : List ℕ) (ls : List (List ℕ)) → length e ≡ 65792 → AreRecords ls → Same d e → Same (put_records d ls) (put_records e ls)
unfolding put_records AreRecords
same_records d e [] size good same = same
same_records d e (l ∷ ls) size good same =
    let b = line_bytes l in
    let within = record_within l good.0 in
    same_records (put d (address b) (data_bytes b)) (put e (address b) (data_bytes b)) ls (length-put e (address b) (data_bytes b) ∙ size) good.1
    (same-put d e (address b) (data_bytes b) (rw size within) same)

length_records : (d : List ℕ) (ls : List (List ℕ)) → length (put_records d ls) ≡ length d
unfolding put_records
length_records d [] = refl
length_records d (l ∷ ls) = length_records (put d (address (line_bytes l)) (data_bytes (line_bytes l))) ls ∙ length-put d (address (line_bytes l)) (data_bytes (line_bytes l))

same-words : (n : ℕ) (d e : List ℕ) → length d ≡ 4 * n → Same d e → words_of n d ≡ words_of n e
unfolding words_of Same
same-words zero d e size same = refl
same-words (suc n) d e size same =
    rw (
      same 0 (omega arith),
      same 1 (omega arith),
      same 2 (omega arith),
      same 3 (omega arith),
      same-words n (drop 4 d) (drop 4 e) (rw length-drop (omega arith)) (λ k h. rw (get_or-drop 4 d k 0, get_or-drop 4 e k 0) (same (4 + k) (let size' = length-drop 4 d in omega arith))),
    )

-- ---- zeros

zero-at : (n k : ℕ) → ◌≡◌ {A = ℕ} (get_or (replicate n 0) k 0) 0
zero-at zero k = refl
zero-at (suc n) zero = refl
zero-at (suc n) (suc k) = zero-at n k

-- The words of a good text are those of the bytes that its records put into 65,792 zeros.
pub words-given : (n : ℕ) (text : List ℕ) → (records_outcome (4 * n) (record_lines text)).number ≡ 0
    → hex_words n text ≡ words_of n (put_records (replicate 65792 0) (record_lines text))
unfolding hex_words Same
words-given n text good =
    let ls = record_lines text in
    let records = told_records (4 * n) 0 0 ls (rw told_is at good) in
    same-words n (put_records (replicate (4 * n) 0) ls) (put_records (replicate 65792 0) ls) (length_records (replicate (4 * n) 0) ls ∙ length-replicate {A = ℕ} (4 * n) 0)
    (same_records (replicate (4 * n) 0) (replicate 65792 0) ls (length-replicate {A = ℕ} 65792 0) records (λ k h. rw (zero-at (4 * n) k, zero-at 65792 k)))
