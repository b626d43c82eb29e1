-- What the records of a text tell, record after record. Assumes nothing.
use Prim.Native.Nat.{ℕ, ◌+◌}
use mathlib.Core.Path.{◌≡◌, refl, sym, ◌∙◌, ap}
use mathlib.Core.Bool.{Bool, true, false, cond, not, ◌&&◌, ◌||◌, false≢true}
use mathlib.Core.List.{List, [], ◌∷◌, ◌++◌, append-nil}
use native.Mathlib.Omega.{arith}
use lib.ListN.{length, take, length-append}
use lib.Seq.{append_snoc, take-append_seam}
use lib.Dec.{eqb}
use borrow.Author.Tests.{eq-eqb, ne_eqb}
use Rattle.text.specs.declared.Outcome.{Outcome}
use Rattle.text.specs.Questions.{accepted, refused, first_no, first_bad}
use Rattle.text.proofs.Truth.{and_right}
use Rattle.intel_hex.specs.Record.{line_bytes, data_count, address, kind, is_record}
use Rattle.intel_hex.specs.Reading.{is_end, is_right_end, is_read_type, is_placed, record_questions, free_after, free_after_all, line_questions, has_end, records_outcome}

-- There are no lines.
abbrev pub is_none : List (List ℕ) → Bool
is_none [] = true
is_none (l ∷ ls) = false

-- What the records of these lines tell, i lines standing before them and `free` being the address after the last byte named there: the end record is
-- the last one asked.
unfoldable pub told : (room free i : ℕ) → List (List ℕ) → Outcome
told room free i [] = refused 18 (i + 1)
told room free i (l ∷ ls) =
    first_no (record_questions room free (is_none ls) l) (i + 1)
    (cond (is_end (kind (line_bytes l))) (accepted 0) (told room (free_after free (line_bytes l)) (i + 1) ls))

-- ---- one line more

-- The address after the last byte named, one line later.
free_more : (free : ℕ) (ls : List (List ℕ)) (l : List ℕ) → free_after_all free (ls ++ (l ∷ [])) ≡ free_after (free_after_all free ls) (line_bytes l)
unfolding free_after_all
free_more free [] l = refl
free_more free (k ∷ ls) l = free_more (free_after free (line_bytes k)) ls l

-- An end stands among two lists where it stands in one of them.
end_either : (a b : List (List ℕ)) → has_end (a ++ b) ≡ (has_end a || has_end b)
unfolding has_end
end_either [] b = refl
end_either (l ∷ a) b = go (is_end (kind (line_bytes l))) (end_either a b)
  where
    go : (t : Bool) → has_end (a ++ b) ≡ (has_end a || has_end b) → (t || has_end (a ++ b)) ≡ ((t || has_end a) || has_end b)
    go true e = refl
    go false e = e

-- A line is the last of all where none follows.
last-is : (done : List (List ℕ)) (l : List ℕ) (ls : List (List ℕ)) → eqb (length done + 1) (length (done ++ (l ∷ ls))) ≡ is_none ls
last-is done l [] = eq-eqb _ _ (sym (length-append done (l ∷ [])))
last-is done l (k ∷ ls) = ne_eqb (length done + 1) (length (done ++ (l ∷ k ∷ ls))) (λ e. let all = length-append done (l ∷ k ∷ ls) in omega arith)

pub none_is : (ls : List (List ℕ)) → is_none ls ≡ true → ls ≡ []
none_is [] e = refl
none_is (l ∷ ls) e = absurd (false≢true e)

-- What follows a question counts only where it gets a yes; ..
after_yes : (a : Bool) (x y z : Outcome) → (a ≡ true → x ≡ y) → cond a x z ≡ cond a y z
after_yes true x y z e = e refl
after_yes false x y z e = refl

-- .. so what follows a record counts only where it gets a yes to its first question.
module _ (room free : ℕ) (is_last : Bool) (l : List ℕ) (line : ℕ) (x y : Outcome) where
  after_record : ((is_record l && is_right_end is_last (kind (line_bytes l)) (data_count (line_bytes l))) ≡ true → x ≡ y)
      → first_no (record_questions room free is_last l) line x ≡ first_no (record_questions room free is_last l) line y
  after_record e =
      let b = line_bytes l in
      after_yes (is_record l && is_right_end is_last (kind b) (data_count b)) _ _ _
      (λ a. ap (λ (o : Outcome). first_no ((18, is_read_type (kind b)) ∷ (19, is_placed room free (address b) (data_count b)) ∷ []) line o) (e a))

-- ---- all lines

module _ (room : ℕ) (all : List (List ℕ)) where
  -- What is told after i of all the lines: of those left, then of a missing end.
  abbrev left : (i : ℕ) → List (List ℕ) → Outcome
  left i ls = first_bad (line_questions room all) i ls (first_no ((18, has_end all) ∷ []) (length all + 1) (accepted 0))

  told-from : (done ls : List (List ℕ)) → all ≡ done ++ ls → has_end done ≡ false → left (length done) ls ≡ told room (free_after_all 0 done) (length done) ls
  unfolding first_bad told has_end
  told-from done [] e h = let whole : all ≡ done = e ∙ append-nil done in rw (whole, h)
  told-from done (l ∷ ls) e h =
      let front : take (length done) all ≡ done = ap (take (length done)) e ∙ take-append_seam done (l ∷ ls) in
      let last : eqb (length done + 1) (length all) ≡ is_none ls = ap (λ (a : List (List ℕ)). eqb (length done + 1) (length a)) e ∙ last-is done l ls in
      let more = told-from (done ++ (l ∷ [])) ls (e ∙ sym (append_snoc done l ls)) in
      rw (front, last) (after_record room (free_after_all 0 done) (is_none ls) l (length done + 1) _ _ (next (is_end (kind (line_bytes l))) refl more))
    where
      next : (t : Bool) → is_end (kind (line_bytes l)) ≡ t
          → (has_end (done ++ (l ∷ [])) ≡ false → left (length (done ++ (l ∷ []))) ls ≡ told room (free_after_all 0 (done ++ (l ∷ []))) (length (done ++ (l ∷ []))) ls)
          → (is_record l && (not t || (eqb (data_count (line_bytes l)) 0 && is_none ls))) ≡ true
          → left (length done + 1) ls ≡ cond t (accepted 0) (told room (free_after (free_after_all 0 done) (line_bytes l)) (length done + 1) ls)
      next true q more a =
          let none = none_is ls (and_right (eqb (data_count (line_bytes l)) 0) (is_none ls) (and_right (is_record l) _ a)) in
          let found : has_end all ≡ true = ap has_end e ∙ end_either done (l ∷ ls) ∙ rw (h, q) in
          rw (none, found)
      next false q more a =
          let still : has_end (done ++ (l ∷ [])) ≡ false = end_either done (l ∷ []) ∙ rw (h, q) in
          rw (length-append done (l ∷ []), free_more 0 done l) at (more still)

-- The records tell what they tell one after the other.
pub told_is : (room : ℕ) (ls : List (List ℕ)) → records_outcome room ls ≡ told room 0 0 ls
unfolding records_outcome free_after_all has_end
told_is room ls = told-from room ls [] ls refl refl
