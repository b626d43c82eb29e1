-- Laws of words put as lines, over the digit count. Assumes nothing.
use Prim.Native.Nat.{ℕ, zero, suc, ◌+◌, ◌-◌, ◌*◌, ◌≤◌, ◌<◌}
use mathlib.Core.Path.{◌≡◌, refl, sym, ◌∙◌, ap}
use mathlib.Core.List.{List, [], ◌∷◌, ◌++◌, append_assoc}
use native.Mathlib.Nat.{zero-mul, one-mul, suc-mul, add-mul, sub-zero, zero-sub}
use native.Mathlib.Omega.{arith}
use lib.ListN.{length, take, drop, set, get_or, length-append, length-drop, drop_of_length-le, take-append-drop}
use lib.Seq.{drop-cons, drop-drop, take-take, take-nil, length-take-le}
use Rattle.text.specs.Numerals.{digits}
use Rattle.text.specs.Lines.{LF, unlines}
use Rattle.text.specs.Place.{put}
use Rattle.text.proofs.DigitLaws.{length_digits}
use Rattle.text.proofs.PutLaws.{put_nil, put_one, put-append, length-put}
use Rattle.files.specs.MemoryFile.{file_text, sectors_of}

-- ---- one line

pub line-put : (k : ℕ) (out e : List ℕ) (at v : ℕ) → e ≡ put out at (digits 16 k v) → set e (at + k) LF ≡ put out at (digits 16 k v ++ (LF ∷ []))
line-put k out e at v q = rw (q, put-append, put_one, length_digits 16 k v)

-- ---- the text of a memory

text_nil : (k : ℕ) → file_text k [] ≡ []
unfolding file_text unlines
text_nil k = refl

text-one : (k w : ℕ) → digits 16 k w ++ (LF ∷ []) ≡ file_text k (w ∷ [])
unfolding file_text unlines
text-one k w = refl

pub text-append : (k : ℕ) (xs ys : List ℕ) → file_text k (xs ++ ys) ≡ file_text k xs ++ file_text k ys
unfolding file_text unlines
text-append k [] ys = refl
text-append k (x ∷ xs) ys = rw (append_assoc, ← text-append k xs ys)

pub length-text : (k : ℕ) (ws : List ℕ) → length (file_text k ws) ≡ length ws * (k + 1)
unfolding file_text unlines
length-text k [] = rw zero-mul
length-text k (w ∷ ws) = length-append (digits 16 k w) _ ∙ rw (length_digits, suc-mul, ← length-text k ws) (omega arith)

-- ---- words after words

-- Words are put as lines of k digits from `at` on into the text before; out is the text when i words are put and the next line begins at p.
pub record Putting (k : ℕ) (ws before : List ℕ) (at : ℕ) (out : List ℕ) (p i : ℕ) : Type 0 where
  pub rest : put out p (file_text k (drop i ws)) ≡ put before at (file_text k ws)
  pub size : length out ≡ length before
  pub place : p ≡ at + i * (k + 1)
  pub done : i ≤ length ws

module _ {k : ℕ} {ws before : List ℕ} {at : ℕ} {out : List ℕ} {p i : ℕ} (l : Putting k ws before at out p i) where
  -- The next n words were put at once.
  pub put_more_lem : (n : ℕ) {after : List ℕ} {to : ℕ} → i + n ≤ length ws → after ≡ put out p (file_text k (take n (drop i ws))) → to ≡ p + n * (k + 1)
      → Putting k ws before at after to (i + n)
  put_more_lem n {after} {to} h q e =
      let now = take n (drop i ws) in
      let later = drop (i + n) ws in
      let here : length (file_text k now) ≡ n * (k + 1) = rw (length-text, length-take-le n (drop i ws) (rw length-drop (omega arith))) in
      let parts : file_text k (drop i ws) ≡ file_text k now ++ file_text k later
      = ap (file_text k) (sym (take-append-drop n (drop i ws))) ∙ rw (text-append, drop-drop) in
      record {
        rest = rw (q, e, ← here, ← put-append out p (file_text k now) (file_text k later), ← parts) l.rest;
        size = rw (q, length-put) l.size;
        place = rw add-mul (omega (arith, l.place));
        done = h;
      }

  -- The next word, w, was put.
  pub put_turn : {after : List ℕ} {w : ℕ} → i < length ws → w ≡ get_or ws i 0 → after ≡ put out p (digits 16 k w ++ (LF ∷ []))
      → Putting k ws before at after (p + (k + 1)) (i + 1)
  put_turn {after} {w} h e q = put_more_lem 1 (omega arith) (q ∙ ap (put out p) (rw (drop-cons ws i 0 h, ← e) (text-one k w))) (rw one-mul)

  -- All words are put.
  pub put-end : length ws ≤ i → (out ≡ put before at (file_text k ws)) × (p ≡ at + length ws * (k + 1))
  put-end h =
      let all : i ≡ length ws = omega (arith, l.done) in
      (rw (drop_of_length-le ws h, text_nil, put_nil) at l.rest, rw (← all) l.place)

-- ---- sector after sector

-- The rest of a front is a front of the rest.
pub drop-take : (at m : ℕ) (s : List ℕ) → drop at (take m s) ≡ take (m - at) (drop at s)
drop-take zero m s = rw sub-zero
drop-take (suc at) zero s = rw zero-sub
drop-take (suc at) (suc m) [] = rw take-nil
drop-take (suc at) (suc m) (x ∷ s) = let less : suc m - suc at ≡ m - at = omega arith in rw less (drop-take at m s)

-- The sectors of a part have 128 words each.
pub length-words : (disk : List ℕ) (first sectors : ℕ) → 128 * (first + sectors) ≤ length disk → length (sectors_of disk first sectors) ≡ 128 * sectors
length-words disk first sectors h = length-take-le (128 * sectors) (drop (128 * first) disk) (rw length-drop (omega arith))

-- The part of the disk that is lent for sector s.
abbrev sector_part : List ℕ → ℕ → List ℕ
sector_part disk s = take (128 * s + 128 - 128 * s) (drop (128 * s) disk)

part-is : (disk : List ℕ) (s : ℕ) → sector_part disk s ≡ take 128 (drop (128 * s) disk)
part-is disk s = let size : 128 * s + 128 - 128 * s ≡ 128 = omega arith in rw size

pub length-sector : (disk : List ℕ) (s : ℕ) → 128 * s + 128 ≤ length disk → length (sector_part disk s) ≡ 128
length-sector disk s h = rw part-is (length-take-le 128 (drop (128 * s) disk) (rw length-drop (omega arith)))

-- Sectors of the disk are put from the front on into the text before; text is the text when the next of them, s, begins at `at`.
pub record PuttingSectors (disk : List ℕ) (first sectors : ℕ) (before text : List ℕ) (at s : ℕ) : Type 0 where
  pub words : Putting 8 (sectors_of disk first sectors) before 0 text at (128 * (s - first))
  pub low : first ≤ s
  pub high : s ≤ first + sectors

module _ {disk : List ℕ} {first sectors s : ℕ} {before text : List ℕ} {at : ℕ} (l : PuttingSectors disk first sectors before text at s)
    (inside : 128 * (first + sectors) ≤ length disk) where
  pub sector_turn : {after : List ℕ} {to : ℕ} → s < first + sectors
      → (after ≡ put text at (file_text 8 (sector_part disk s))) × (to ≡ at + length (sector_part disk s) * 9)
      → PuttingSectors disk first sectors before after to (s + 1)
  sector_turn h p =
      let low = l.low in
      let next : 128 * (s + 1 - first) ≡ 128 * (s - first) + 128 = omega arith in
      let start : 128 * first + 128 * (s - first) ≡ 128 * s = omega arith in
      let left : 128 ≤ 128 * sectors - 128 * (s - first) = omega arith in
      let here : sector_part disk s ≡ take 128 (drop (128 * (s - first)) (sectors_of disk first sectors))
      = part-is disk s ∙ rw (drop-take, drop-drop, start, take-take) in
      let words = length-words disk first sectors inside in
      let size = length-sector disk s (omega arith) in
      record {
        words = rw next (put_more_lem l.words 128 (omega arith) (p.0 ∙ ap (λ (ws : List ℕ). put text at (file_text 8 ws)) here) (omega (arith, p.1)));
        low = omega arith;
        high = omega arith;
      }

  pub sector-end : first + sectors ≤ s → (text ≡ put before 0 (file_text 8 (sectors_of disk first sectors))) × (at ≡ 1152 * sectors)
  sector-end h =
      let low = l.low in
      let words = length-words disk first sectors inside in
      let end = put-end l.words (omega arith) in
      (end.0, omega (arith, end.1))
