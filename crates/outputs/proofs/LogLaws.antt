-- Laws of the lines of a log that begin with a letter. Assumes nothing.
use Prim.Native.Nat.{ℕ, ◌+◌, ◌-◌, ◌≤◌, ◌<◌}
use mathlib.Core.Path.{◌≡◌, refl, sym, ◌∙◌}
use mathlib.Core.Bool.{Bool, true, false}
use mathlib.Core.List.{List, [], ◌∷◌, ◌++◌, map, append_assoc}
use native.Mathlib.Omega.{arith}
use lib.Dec.{eqb}
use lib.ListN.{length, get_or, take, drop, set, length-append, length-take, length-drop, drop_of_length-le}
use lib.Seq.{take_all}
use borrow.Author.Tests.{eq-eqb, ne_eqb}
use Rattle.text.specs.Lines.{LF, in_front, lines, first_line, unlines}
use Rattle.text.specs.Place.{put}
use Rattle.text.proofs.LineLaws.{lines_at_lem}
use Rattle.text.proofs.PutLaws.{put_one, put-append}
use Rattle.text.proofs.PutLaws.{puts_nothing}
use Rattle.outputs.specs.LogFiles.{lines_of, lines_with, line_with, Taken}
use Rattle.outputs.proofs.PieceLaws.{ended, counted}

-- ---- one line

-- A line without bytes, or one that begins with another letter, is not taken.
pub none_empty : (letter : ℕ) (l : List ℕ) → length l ≡ 0 → line_with letter l ≡ []
none_empty letter [] h = refl
none_empty letter (c ∷ l) h = absurd (omega arith)

pub none_other : (letter : ℕ) (l : List ℕ) → (get_or l 0 0 ≡ letter → ⊥) → line_with letter l ≡ []
none_other letter [] h = refl
none_other letter (c ∷ l) h = rw (ne_eqb c letter h)

-- One that begins with it is.
with_letter : (letter : ℕ) (l : List ℕ) → 0 < length l → get_or l 0 0 ≡ letter → line_with letter l ≡ drop 2 l ++ (LF ∷ [])
with_letter letter [] some e = absurd (omega arith)
with_letter letter (c ∷ l) some e = rw (eq-eqb c letter e)

module _ (letter : ℕ) (l out : List ℕ) (at : ℕ) (first : get_or l 0 0 ≡ letter) where
  -- Of the letter alone only an LF is put, ..
  pub letter_put : length l ≡ 1 → (set out at LF ≡ put out at (line_with letter l)) × (at + 1 ≡ at + length (line_with letter l))
  letter_put one =
      let short : length l ≤ 2 = omega arith in
      rw (with_letter letter l (omega arith) first, drop_of_length-le l short) (sym (put_one out at LF), refl)

  -- .. of a longer line what follows the blank.
  pub rest_put : (e : List ℕ) (to : ℕ) → 2 ≤ length l → e ≡ put out at (take (length l - 2) (drop 2 l))
      → to ≡ at + length (take (length l - 2) (drop 2 l))
      → (set e to LF ≡ put out at (line_with letter l)) × (to + 1 ≡ at + length (line_with letter l))
  rest_put e to long q t =
      let whole : take (length l - 2) (drop 2 l) ≡ drop 2 l = take_all (length l - 2) (drop 2 l) (rw length-drop (omega arith)) in
      rw (with_letter letter l (omega arith) first) (ended out e at to (drop 2 l) (rw whole at q, rw whole at t))

-- ---- line after line

with_cons : (letter : ℕ) (l : List ℕ) (ls : List (List ℕ))
    → unlines (map (drop 2) (lines_of letter (l ∷ ls))) ≡ line_with letter l ++ unlines (map (drop 2) (lines_of letter ls))
unfolding unlines
with_cons letter [] ls = refl
with_cons letter (c ∷ l) ls = go (eqb c letter) refl
  where
    go : (t : Bool) → eqb c letter ≡ t → unlines (map (drop 2) (lines_of letter ((c ∷ l) ∷ ls))) ≡ line_with letter (c ∷ l) ++ unlines (map (drop 2) (lines_of letter ls))
    go true e = rw (e, append_assoc)
    go false e = rw e

module _ (letter : ℕ) (log : List ℕ) (from end : ℕ) (h : from < length log) (q : end ≡ from + length (first_line (drop from log))) where
  pub with_first : lines_with letter (drop from log) ≡ line_with letter (take (end - from) (drop from log)) ++ lines_with letter (drop (end + 1) log)
  unfolding lines_with
  with_first = rw (lines_at_lem log from end h q) (with_cons letter (take (end - from) (drop from log)) (lines (drop (end + 1) log)))

  -- The line that ends at `end` was taken: what is left to take are the lines after it.
  pub take_turn : (out e : List ℕ) (at to : ℕ) → e ≡ put out at (line_with letter (take (end - from) (drop from log)))
      → to ≡ at + length (line_with letter (take (end - from) (drop from log)))
      → put e to (lines_with letter (drop (end + 1) log)) ≡ put out at (lines_with letter (drop from log))
  take_turn out e at to r t = rw (r, t, with_first, put-append)

  pub take_size : (at to : ℕ) → to ≡ at + length (line_with letter (take (end - from) (drop from log)))
      → to + length (lines_with letter (drop (end + 1) log)) ≡ at + length (lines_with letter (drop from log))
  take_size at to t = rw (with_first, length-append) (omega arith)

-- No line is left.
pub none_left : (letter : ℕ) (log : List ℕ) (from : ℕ) → length log ≤ from → lines_with letter (drop from log) ≡ []
unfolding lines_with lines unlines
none_left letter log from h = rw (drop_of_length-le log h)

-- ---- a text that lines are taken to

-- Of the lines up to a place those that begin with the letter are taken; what is left to take are those after it.
pub record Taking (letter : ℕ) (log before : List ℕ) (from at : ℕ) (out : List ℕ) : Type 0 where
  pub text : put out at (lines_with letter (drop from log)) ≡ put before 0 (lines_with letter log)
  pub bytes_are : at + length (lines_with letter (drop from log)) ≡ length (lines_with letter log)
  pub kept : length out ≡ length before
  pub behind : at ≤ from
  pub within : at ≤ length log

pub taking_none : (letter : ℕ) (log before : List ℕ) → Taking letter log before 0 0 before
taking_none letter log before = record { text = refl; bytes_are = omega arith; kept = refl; behind = omega arith; within = omega arith }

module _ {letter : ℕ} {log before : List ℕ} {from end : ℕ} (h : from < length log) (q : end ≡ from + length (first_line (drop from log))) (inside : end ≤ length log)
    {at to : ℕ} {out e : List ℕ} (t : Taking letter log before from at out) where
  pub taking_more : (e ≡ put out at (line_with letter (take (end - from) (drop from log))))
      → to ≡ at + length (line_with letter (take (end - from) (drop from log)))
      → to ≤ at + length (take (end - from) (drop from log))
      → length e ≡ length out
      → Taking letter log before (end + 1) to e
  taking_more is-put size few same =
      let part : length (take (end - from) (drop from log)) ≤ end - from = rw length-take (omega arith) in
      record {
        text = take_turn letter log from end h q out e at to is-put size ∙ t.text;
        bytes_are = take_size letter log from end h q at to size ∙ t.bytes_are;
        kept = same ∙ t.kept;
        behind = omega (arith, t.behind, few, part, q);
        within = omega (arith, t.behind, few, part, q, inside);
      }

-- There is room for the next line.
pub taking_fits : {letter : ℕ} {log before : List ℕ} {from at end : ℕ} {out : List ℕ} → end ≡ from + length (first_line (drop from log)) → end ≤ length log
    → Taking letter log before from at out → length log ≤ length before → at + length (take (end - from) (drop from log)) ≤ length out
taking_fits {letter} {log} {before} {from} {at} {end} {out} q inside t room =
    let part : length (take (end - from) (drop from log)) ≤ end - from = rw length-take (omega arith) in
    omega (arith, part, q, inside, t.behind, t.kept, room)

-- All lines are taken.
pub taking_all : {letter : ℕ} {log before : List ℕ} {from at : ℕ} {out : List ℕ} → length log ≤ from → length log ≤ length before
    → Taking letter log before from at out → Taken letter log before at out
taking_all {letter} {log} {before} {from} {at} {out} past room t =
    let is-put = puts_nothing out at _ (none_left letter log from past) in
    let whole = is-put.0 ∙ t.text in
    record { text = whole; bytes_are = is-put.1 ∙ t.bytes_are; within = counted before out 0 at _ whole (omega (arith, t.within)) }

-- ---- a log in pieces

-- The lines of a text that goes on after an LF.
in_front-joined : (c : ℕ) (ls ks : List (List ℕ)) → 0 < length ls → in_front c (ls ++ ks) ≡ in_front c ls ++ ks
in_front-joined c [] ks some = absurd (omega arith)
in_front-joined c (l ∷ ls) ks some = refl

some_in_front : (c : ℕ) (ls : List (List ℕ)) → 0 < length (in_front c ls)
some_in_front c [] = omega arith
some_in_front c (l ∷ ls) = omega arith

some-line : (a : List ℕ) → 0 < length (lines (a ++ (LF ∷ [])))
unfolding lines
some-line [] = omega arith
some-line (c ∷ a) = go (eqb c LF) refl
  where
    go : (t : Bool) → eqb c LF ≡ t → 0 < length (lines ((c ∷ a) ++ (LF ∷ [])))
    go true e = rw e (omega arith)
    go false e = rw e (some_in_front c (lines (a ++ (LF ∷ []))))

lines-joined : (a b : List ℕ) → lines (a ++ (LF ∷ b)) ≡ lines (a ++ (LF ∷ [])) ++ lines b
unfolding lines
lines-joined [] b = refl
lines-joined (c ∷ a) b = go (lines-joined a b) (eqb c LF) refl
  where
    go : lines (a ++ (LF ∷ b)) ≡ lines (a ++ (LF ∷ [])) ++ lines b → (t : Bool) → eqb c LF ≡ t → lines ((c ∷ a) ++ (LF ∷ b)) ≡ lines ((c ∷ a) ++ (LF ∷ [])) ++ lines b
    go more true e = rw (e, more)
    go more false e = rw (e, more) (in_front-joined c (lines (a ++ (LF ∷ []))) (lines b) (some-line a))

module _ (letter : ℕ) where
  with_both : (ls ks : List (List ℕ))
      → unlines (map (drop 2) (lines_of letter (ls ++ ks))) ≡ unlines (map (drop 2) (lines_of letter ls)) ++ unlines (map (drop 2) (lines_of letter ks))
  unfolding unlines
  with_both [] ks = refl
  with_both (l ∷ ls) ks = rw (with_cons letter l (ls ++ ks), with_cons letter l ls, with_both ls ks, append_assoc)

  -- A log that is split in pieces, each of which ends in an LF, gives the texts that the whole log gives, one piece after the other.
  pub with_joined : (a b : List ℕ) → lines_with letter (a ++ (LF ∷ b)) ≡ lines_with letter (a ++ (LF ∷ [])) ++ lines_with letter b
  unfolding lines_with
  with_joined a b = rw (lines-joined a b) (with_both (lines (a ++ (LF ∷ []))) (lines b))
