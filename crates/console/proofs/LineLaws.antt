-- The line of a refusal, as the code puts its pieces, and how long they are. Assumes nothing.
use Prim.Native.Nat.{ℕ, ◌+◌, ◌^◌, ◌≤◌, ◌<◌}
use mathlib.Core.Path.{◌≡◌, refl, sym}
use mathlib.Core.Bool.{true, false}
use mathlib.Core.List.{List, [], ◌++◌}
use native.Mathlib.Omega.{arith}
use lib.ListN.{length, get_or, get_or-eq_default, set, length-append}
use lib.Dec.{eqb}
use denote.Ref.{Bor}
use Rattle.text.specs.Bytes.{bytes}
use Rattle.text.specs.Lines.{LF}
use Rattle.text.specs.Numerals.{digit_count, decimal}
use Rattle.text.specs.Place.{put}
use Rattle.console.specs.Refusals.{sentence, sentences, longest, has_line, counted, place_text, refusal_line}
use Rattle.text.proofs.DecimalLaws.{length-decimal, count_le}
use Rattle.text.proofs.PieceLaws.{more}
use Rattle.text.proofs.PutLaws.{put_one}
use Rattle.text.proofs.TableLaws.{most_rule}
use Rattle.text.specs.Same.{same}
use Rattle.text.proofs.SameLaws.{table_rule}
use Rattle.text.proofs.Truth.{all_below}

-- ---- a count

-- A number of 64 bits has at most 20 digits.
pub few : (v : ℕ) → v < 2 ^ 64 → digit_count 10 v ≤ 20
few v h = count_le 10 (omega arith) 19 v (omega arith)

pub length-counted : (kind : List ℕ) (n : ℕ) → length (counted kind n) ≡ length kind + digit_count 10 n + 2
length-counted kind n = simp (length-append, length-decimal) (omega arith)

pub counted-put : (kind : List ℕ) (n at p q : ℕ) (d e f g : List ℕ) → p ≡ at + length kind → q ≡ p + digit_count 10 n
    → e ≡ put d at kind → f ≡ put e p (decimal n) → g ≡ put f q (bytes ": ")
    → g ≡ put d at (counted kind n)
counted-put kind n at p q d e f g pe qe first second third =
    more d f g at q (kind ++ decimal n) _ (simp (length-append, length-decimal) (omega arith))
    (more d e f at p kind _ pe first second)
    third

-- ---- the words of a number

-- A number that has no words.
pub none_above : (n : ℕ) → 21 ≤ n → sentence n ≡ []
unfolding sentence sentences
none_above n h = get_or-eq_default sentences [] h

-- A table of texts, by a test computed over its n entries.
pub texts_rule : (rule : ℕ → List ℕ) (n : ℕ) (rows : List (Bor (List ℕ))) (d : Bor (List ℕ)) → all_below (λ k. same (get_or rows k d).now (rule k)) n ≡ true
    → (k : ℕ) → k < n → (get_or rows k d).now ≡ rule k
texts_rule rule n rows d = table_rule (λ k. (get_or rows k d).now) rule n

-- No sentence has more bytes.
pub sentence_most : (n : ℕ) → n < 21 → length (sentence n) ≤ longest
unfolding sentence
sentence_most = most_rule (λ k. length (sentence k)) longest 21 refl

-- ---- the place

pub no_place : (number place : ℕ) → eqb number 16 ≡ false → has_line number place ≡ false → place_text number place ≡ []
unfolding place_text
no_place number place other none = simp (other, none)

-- ---- the line

pub line-put : (file : List ℕ) (number place p q r s t : ℕ) (d e f g h k : List ℕ)
    → p ≡ 0 + length file → q ≡ p + 2 → r ≡ q + length (place_text number place)
    → s ≡ r + length (counted [] number) → t ≡ s + length (sentence number)
    → e ≡ put d 0 file → f ≡ put e p (bytes ": ") → g ≡ put f q (place_text number place)
    → h ≡ put g r (counted [] number) → k ≡ put h s (sentence number)
    → (set k t LF ≡ put d 0 (refusal_line file number place)) × (t + 1 ≡ length (refusal_line file number place))
unfolding refusal_line
line-put file number place p q r s t d e f g h k pe qe re se te first second third fourth fifth =
    let colon = file ++ bytes ": " in
    let placed = colon ++ place_text number place in
    let numbered = placed ++ counted [] number in (
      more d k _ 0 t (numbered ++ sentence number) _ (simp (length-append, length-decimal) (omega (arith, length-counted [] number)))
          (more d h k 0 s numbered _ (simp (length-append, length-decimal) (omega (arith, length-counted [] number)))
          (more d g h 0 r placed _ (simp length-append (omega arith))
          (more d f g 0 q colon _ (simp length-append (omega arith)) (more d e f 0 p file _ pe first second) third)
          fourth)
          fifth)
          (sym (put_one k t LF)),
      simp (length-append, length-decimal) (omega (arith, length-counted [] number)),
    )
