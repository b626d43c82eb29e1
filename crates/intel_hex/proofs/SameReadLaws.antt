-- What is read from a text does not depend on the case of its digits, on a CR before an LF, or on the last LF: "Lines end in LF, with a CR before it
-- allowed on reading. .. digits of either case .. The last LF may be missing, with that CR or without." Assumes nothing.
use Prim.Native.Nat.{ℕ, zero, suc, ◌+◌, ◌-◌, ◌*◌, ◌≤◌, ◌<◌}
use Prim.Native.Char.{code}
use mathlib.Core.Path.{◌≡◌, refl, sym, ◌∙◌, ap, ap₂}
use mathlib.Core.Bool.{Bool, true, false, cond}
use mathlib.Core.List.{List, [], ◌∷◌, ◌++◌, map, nil≢cons, cons≢nil, head-eq_of_cons-eq, tail-eq_of_cons-eq}
use native.Mathlib.Omega.{arith}
use lib.Dec.{eqb, leb}
use lib.ListN.{length, get_or, take, replicate, length-map, get_or-map}
use borrow.Author.Tests.{eqb-true, ne_eqb, leb-true}
use Rattle.text.specs.declared.Outcome.{Outcome}
use Rattle.text.specs.Questions.{first_no}
use Rattle.text.specs.Place.{put}
use Rattle.text.specs.Numerals.{is_between, digit_value, all_digits}
use Rattle.text.specs.Lines.{LF, lines, in_front}
use Rattle.text.proofs.Truth.{and_left, and_right, between}
use Rattle.text.proofs.LineLaws.{NoneLF, lines-line}
use Rattle.intel_hex.specs.Words.{words_of}
use Rattle.intel_hex.specs.Record.{pair_values, line_bytes, address, data_bytes, is_record}
use Rattle.intel_hex.specs.Reading.{CR, without_cr, record_lines, free_after, hex_outcome, put_records, hex_words}
use Rattle.intel_hex.proofs.OutcomeLaws.{is_none, told, told_is}

-- The same is read from two texts, into whatever memory: they tell the same, and give the same words.
abbrev pub ReadSame : List ℕ → List ℕ → Type 0
ReadSame t u = (words n : ℕ) → (hex_outcome words n t ≡ hex_outcome words n u) × (hex_words n t ≡ hex_words n u)

-- ---- what is looked at

-- All that reading looks at in a line: whether it is a record, and the record's bytes.
abbrev pub seen : List ℕ → Bool × List ℕ
seen l = (is_record l, line_bytes l)

-- What lines tell and put depends on that alone.
none_seen : (ls ks : List (List ℕ)) → map seen ls ≡ map seen ks → is_none ls ≡ is_none ks
none_seen [] [] e = refl
none_seen [] (k ∷ ks) e = absurd (nil≢cons e)
none_seen (l ∷ ls) [] e = absurd (cons≢nil e)
none_seen (l ∷ ls) (k ∷ ks) e = refl

told-seen : (room free i : ℕ) (ls ks : List (List ℕ)) → map seen ls ≡ map seen ks → told room free i ls ≡ told room free i ks
unfolding told
told-seen room free i [] [] e = refl
told-seen room free i [] (k ∷ ks) e = absurd (nil≢cons e)
told-seen room free i (l ∷ ls) [] e = absurd (cons≢nil e)
told-seen room free i (l ∷ ls) (k ∷ ks) e =
    let first : seen l ≡ seen k = head-eq_of_cons-eq e in
    let good : is_record l ≡ is_record k = ap (λ (s : Bool × List ℕ). s.0) first in
    let same : line_bytes l ≡ line_bytes k = ap (λ (s : Bool × List ℕ). s.1) first in
    let rest = tail-eq_of_cons-eq e in
    rw (good, same, none_seen ls ks rest, told-seen room (free_after free (line_bytes k)) (i + 1) ls ks rest)

put-seen : (bytes : List ℕ) (ls ks : List (List ℕ)) → map seen ls ≡ map seen ks → put_records bytes ls ≡ put_records bytes ks
unfolding put_records
put-seen bytes [] [] e = refl
put-seen bytes [] (k ∷ ks) e = absurd (nil≢cons e)
put-seen bytes (l ∷ ls) [] e = absurd (cons≢nil e)
put-seen bytes (l ∷ ls) (k ∷ ks) e =
    ap (λ (s : Bool × List ℕ). put_records (put bytes (address s.1) (data_bytes s.1)) ls) (head-eq_of_cons-eq e)
    ∙ put-seen (put bytes (address (line_bytes k)) (data_bytes (line_bytes k))) ls ks (tail-eq_of_cons-eq e)

-- Texts whose lines look the same, one by one, read the same; ..
pub same_seen : (t u : List ℕ) → map seen (record_lines t) ≡ map seen (record_lines u) → ReadSame t u
unfolding hex_outcome hex_words
same_seen t u e words n =
    let told_same = told_is (4 * n) (record_lines t) ∙ told-seen (4 * n) 0 0 (record_lines t) (record_lines u) e ∙ sym (told_is (4 * n) (record_lines u)) in
    (ap (λ (o : Outcome). first_no ((1, eqb n words) ∷ []) 0 o) told_same, ap (words_of n) (put-seen (replicate (4 * n) 0) (record_lines t) (record_lines u) e))

-- One after the other: texts that differ in case, in CRs and in the last LF read the same.
pub then_same : (t u v : List ℕ) → ReadSame t u → ReadSame u v → ReadSame t v
then_same t u v p q words n = ((p words n).0 ∙ (q words n).0, (p words n).1 ∙ (q words n).1)

-- .. so texts of the same lines do.
pub same_lines : (t u : List ℕ) → record_lines t ≡ record_lines u → ReadSame t u
same_lines t u e = same_seen t u (ap (map seen) e)

-- The lines of a text with the byte c in front of it, by the lines ls of the text: t is whether c is an LF.
abbrev joined : (t : Bool) (c : ℕ) → List (List ℕ) → List (List ℕ)
joined t c ls = cond t ([] ∷ ls) (in_front c ls)

-- ---- "digits of either case"

-- The capital of a small letter; any other byte as it is.
abbrev pub capital : ℕ → ℕ
capital c = cond (is_between "a" "z" c) (c - 32) c

-- A law of it has two cases: a small letter, and the byte as it is.
capital_either : (P : ℕ → Type 0) (c : ℕ) → (97 ≤ c → c < 123 → P (c - 32)) → P c → P (capital c)
capital_either P c small other = go (is_between "a" "z" c) refl
  where
    go : (t : Bool) → is_between "a" "z" c ≡ t → P (cond t (c - 32) c)
    go true e =
        let high : c ≤ 122 = leb-true _ _ (and_right (leb (code "a") c) (leb c (code "z")) e) in
        small (leb-true _ _ (and_left (leb (code "a") c) (leb c (code "z")) e)) (omega arith)
    go false e = other

-- It is worth the same as a digit; ..
capital-value : (c : ℕ) → digit_value (capital c) ≡ digit_value c
capital-value c =
    capital_either (λ d. digit_value d ≡ digit_value c) c
    (λ low high. eqb-true _ _ (between (λ c. eqb (digit_value (c - 32)) (digit_value c)) 97 123 refl c low high))
    refl

-- .. a byte before the letters stays, and none becomes one.
capital-is : (b c : ℕ) → b < 65 → eqb (capital c) b ≡ eqb c b
capital-is b c h =
    capital_either (λ d. eqb d b ≡ eqb c b) c (λ low high. ne_eqb (c - 32) b (λ q. omega arith) ∙ sym (ne_eqb c b (λ q. omega arith))) refl

-- So the digits, the bytes and the record of a line stay, ..
capital-digits : (l : List ℕ) → all_digits 16 (map capital l) ≡ all_digits 16 l
unfolding all_digits
capital-digits [] = refl
capital-digits (c ∷ l) = rw (capital-value c, capital-digits l)

capital_pairs : (l : List ℕ) → pair_values (map capital l) ≡ pair_values l
unfolding pair_values
capital_pairs [] = refl
capital_pairs (c ∷ []) = refl
capital_pairs (c ∷ d ∷ l) = rw (capital-value c, capital-value d, capital_pairs l)

capital-bytes : (l : List ℕ) → line_bytes (map capital l) ≡ line_bytes l
capital-bytes [] = refl
capital-bytes (c ∷ l) = capital_pairs l

capital_record : (l : List ℕ) → is_record (map capital l) ≡ is_record l
unfolding is_record
capital_record [] = refl
capital_record (c ∷ l) = rw (capital-is (code ":") c (omega arith), length-map l capital, capital-digits l, capital_pairs l)

-- .. and its CR, ..
capital-take : (n : ℕ) (l : List ℕ) → take n (map capital l) ≡ map capital (take n l)
capital-take zero l = refl
capital-take (suc n) [] = refl
capital-take (suc n) (c ∷ l) = ap (λ (r : List ℕ). capital c ∷ r) (capital-take n l)

capital_cr : (l : List ℕ) → without_cr (map capital l) ≡ map capital (without_cr l)
unfolding without_cr
capital_cr l =
    let last : get_or (map capital l) (length l - 1) 0 ≡ capital (get_or l (length l - 1) 0) = get_or-map capital l (length l - 1) 0 in
    rw (length-map l capital, last, capital-is CR (get_or l (length l - 1) 0) (omega arith), capital-take)
    (go (eqb (get_or l (length l - 1) 0) CR))
  where
    go : (t : Bool) → cond t (map capital (take (length l - 1) l)) (map capital l) ≡ map capital (cond t (take (length l - 1) l) l)
    go true = refl
    go false = refl

-- .. and the lines of a text.
capital-lines : (s : List ℕ) → lines (map capital s) ≡ map (map capital) (lines s)
unfolding lines
capital-lines [] = refl
capital-lines (c ∷ s) = rw (capital-is LF c (omega arith), capital-lines s) (go (eqb c LF) (lines s))
  where
    go : (t : Bool) (ls : List (List ℕ)) → joined t (capital c) (map (map capital) ls) ≡ map (map capital) (joined t c ls)
    go true ls = refl
    go false [] = refl
    go false (l ∷ ls) = refl

capital-seen : (ls : List (List ℕ)) → map seen (map without_cr (map (map capital) ls)) ≡ map seen (map without_cr ls)
capital-seen [] = refl
capital-seen (l ∷ ls) = rw (capital_cr l, capital_record (without_cr l), capital-bytes (without_cr l), capital-seen ls)

text-seen : (text : List ℕ) → map seen (record_lines (map capital text)) ≡ map seen (record_lines text)
text-seen text = ap (λ (ls : List (List ℕ)). map seen (map without_cr ls)) (capital-lines text) ∙ capital-seen (lines text)

-- A text reads the same in capitals, ..
pub either_case : (text : List ℕ) → ReadSame (map capital text) text
either_case text = same_seen (map capital text) text (text-seen text)

-- .. and so do two texts that are the same but for their letters' case.
pub same_case : (t u : List ℕ) → map capital t ≡ map capital u → ReadSame t u
same_case t u e = same_seen t u (sym (text-seen t) ∙ ap (λ (s : List ℕ). map seen (record_lines s)) e ∙ text-seen u)

-- ---- text in front of a text

-- A byte in front of a line that has bytes leaves the CR at its end as it is.
cr_front : (c d : ℕ) (l : List ℕ) → without_cr (c ∷ d ∷ l) ≡ c ∷ without_cr (d ∷ l)
unfolding without_cr
cr_front c d l =
    let long : suc (suc (length l)) - 1 ≡ suc (length l) = omega arith in
    let short : suc (length l) - 1 ≡ length l = omega arith in
    rw (long, short) (go (eqb (get_or (d ∷ l) (length l) 0) CR))
  where
    go : (t : Bool) → cond t (c ∷ take (length l) (d ∷ l)) (c ∷ d ∷ l) ≡ c ∷ cond t (take (length l) (d ∷ l)) (d ∷ l)
    go true = refl
    go false = refl

lines-front : (c d : ℕ) (ls : List (List ℕ)) → map without_cr (in_front c (in_front d ls)) ≡ in_front c (map without_cr (in_front d ls))
lines-front c d [] = rw (cr_front c d [])
lines-front c d (l ∷ ls) = rw (cr_front c d l)

-- Texts of the same lines that begin with the same byte have the same lines after any byte, ..
after_byte : (c d : ℕ) (s t : List ℕ) → record_lines (d ∷ s) ≡ record_lines (d ∷ t) → record_lines (c ∷ d ∷ s) ≡ record_lines (c ∷ d ∷ t)
unfolding lines
after_byte c d s t = go (eqb c LF) (eqb d LF)
  where
    go : (a b : Bool) → map without_cr (joined b d (lines s)) ≡ map without_cr (joined b d (lines t))
        → map without_cr (joined a c (joined b d (lines s))) ≡ map without_cr (joined a c (joined b d (lines t)))
    go true b e = ap (λ (ls : List (List ℕ)). without_cr [] ∷ ls) e
    go false true e = ap (λ (ls : List (List ℕ)). without_cr (c ∷ []) ∷ ls) (tail-eq_of_cons-eq e)
    go false false e = lines-front c d (lines s) ∙ ap (in_front c) e ∙ sym (lines-front c d (lines t))

-- .. and so after any text.
after_text : (front : List ℕ) (d : ℕ) (s t : List ℕ) → record_lines (d ∷ s) ≡ record_lines (d ∷ t) → record_lines (front ++ (d ∷ s)) ≡ record_lines (front ++ (d ∷ t))
after_text [] d s t e = e
after_text (c ∷ []) d s t e = after_byte c d s t e
after_text (c ∷ b ∷ front) d s t e = after_byte c b (front ++ (d ∷ s)) (front ++ (d ∷ t)) (after_text (b ∷ front) d s t e)

-- ---- "with a CR before it allowed"

-- After one byte, ..
one_cr : (c : ℕ) (s : List ℕ) → without_cr (c ∷ []) ≡ c ∷ [] → record_lines (c ∷ CR ∷ LF ∷ s) ≡ record_lines (c ∷ LF ∷ s)
unfolding lines without_cr
one_cr c s e = go (eqb c LF)
  where
    go : (t : Bool) → map without_cr (joined t c ((CR ∷ []) ∷ lines s)) ≡ map without_cr (joined t c ([] ∷ lines s))
    go true = refl
    go false = ap (λ (l : List ℕ). l ∷ map without_cr (lines s)) (sym e)

-- .. and after any text: a CR before an LF makes no difference, where that text doesn't end in a CR itself.
pub cr_before_lf : (t s : List ℕ) → without_cr t ≡ t → record_lines (t ++ (CR ∷ LF ∷ s)) ≡ record_lines (t ++ (LF ∷ s))
unfolding lines without_cr
cr_before_lf [] s e = refl
cr_before_lf (c ∷ []) s e = one_cr c s e
cr_before_lf (c ∷ d ∷ t) s e = after_byte c d (t ++ (CR ∷ LF ∷ s)) (t ++ (LF ∷ s)) (cr_before_lf (d ∷ t) s (tail-eq_of_cons-eq (sym (cr_front c d t) ∙ e)))

-- The end of a line: a CR or none, then an LF or none.
abbrev pub line_end : (cr lf : Bool) → List ℕ
line_end cr lf = cond cr (CR ∷ []) [] ++ cond lf (LF ∷ []) []

-- The text of lines, an LF after each: `cr i` is whether a CR stands before the LF of line i, counted from 0.
unfoldable pub unlines_with : (cr : ℕ → Bool) → List (List ℕ) → List ℕ
unlines_with cr [] = []
unlines_with cr (l ∷ ls) = l ++ (line_end (cr 0) true ++ unlines_with (λ i. cr (suc i)) ls)

-- Whichever LFs have a CR before them, the lines are read as they are (they have no LF in them and no CR at their end), ..
pub any_ends : (cr : ℕ → Bool) (ls : List (List ℕ)) → NoneLF ls → map without_cr ls ≡ ls → record_lines (unlines_with cr ls) ≡ ls
unfolding NoneLF lines unlines_with
any_ends cr [] n e = refl
any_ends cr (l ∷ ls) n e =
    go (cr 0)
    ∙ ap (map without_cr) (lines-line l rest n.0)
    ∙ ap₂ (λ (k : List ℕ) (ks : List (List ℕ)). k ∷ ks) (head-eq_of_cons-eq e) (any_ends (λ i. cr (suc i)) ls n.1 (tail-eq_of_cons-eq e))
  where
    rest : List ℕ
    rest = unlines_with (λ i. cr (suc i)) ls

    go : (t : Bool) → record_lines (l ++ (line_end t true ++ rest)) ≡ record_lines (l ++ (LF ∷ rest))
    go true = cr_before_lf l rest (head-eq_of_cons-eq e)
    go false = refl

-- .. and so the same is read.
pub same_ends : (cr cr' : ℕ → Bool) (ls : List (List ℕ)) → NoneLF ls → map without_cr ls ≡ ls → ReadSame (unlines_with cr ls) (unlines_with cr' ls)
same_ends cr cr' ls n e = same_lines (unlines_with cr ls) (unlines_with cr' ls) (any_ends cr ls n e ∙ sym (any_ends cr' ls n e))

-- ---- "The last LF may be missing, with that CR or without."

-- After a last byte c that is neither, a CR, an LF or both make no difference, ..
pub four_ends : (t : List ℕ) (c : ℕ) → (c ≡ LF → ⊥) → (c ≡ CR → ⊥) → (cr lf : Bool) → record_lines (t ++ (c ∷ line_end cr lf)) ≡ record_lines (t ++ (c ∷ []))
unfolding lines without_cr
four_ends t c n m cr lf = after_text t c (line_end cr lf) [] (go cr lf)
  where
    go : (cr lf : Bool) → record_lines (c ∷ line_end cr lf) ≡ record_lines (c ∷ [])
    go true true = rw (ne_eqb c LF n, ne_eqb c CR m)
    go true false = rw (ne_eqb c LF n, ne_eqb c CR m)
    go false true = rw (ne_eqb c LF n)
    go false false = refl

-- So a text whose last byte c is neither reads the same with `CR LF`, `CR`, `LF` or nothing after it.
pub same-last : (t : List ℕ) (c : ℕ) → (c ≡ LF → ⊥) → (c ≡ CR → ⊥) → (cr lf cr' lf' : Bool) → ReadSame (t ++ (c ∷ line_end cr lf)) (t ++ (c ∷ line_end cr' lf'))
same-last t c n m cr lf cr' lf' = same_lines (t ++ (c ∷ line_end cr lf)) (t ++ (c ∷ line_end cr' lf')) (four_ends t c n m cr lf ∙ sym (four_ends t c n m cr' lf'))
