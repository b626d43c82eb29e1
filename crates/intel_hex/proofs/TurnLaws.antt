-- A turn of the reader: the record on the next line, what is told then and what is put. Assumes nothing.
use Rattle.std.specs.Prelude.{Option, Some, None}
use Prim.Native.Nat.{ℕ, suc, ◌+◌, ◌-◌, ◌≤◌, ◌<◌}
use mathlib.Core.Path.{◌≡◌, refl, sym, ◌∙◌, ap}
use mathlib.Core.Bool.{Bool, true, false, cond, not, ◌&&◌, ◌||◌, true≢false, false≢true}
use mathlib.Core.List.{List, [], ◌∷◌, map}
use native.Mathlib.Omega.{arith}
use lib.ListN.{length, take, drop, length-drop, drop_of_length-le}
use lib.Seq.{drop-drop, take_all}
use lib.Dec.{eqb, leb, ltb}
use borrow.Author.Tests.{lt-leb, le-leb, ltb-true, ltb-false, eqb-true, eqb-false, not-false}
use Rattle.text.specs.declared.Outcome.{Outcome}
use Rattle.text.specs.Questions.{accepted, refused, first_no}
use Rattle.text.specs.Lines.{lines, first_line}
use Rattle.text.proofs.Truth.{and_right, neither}
use Rattle.text.proofs.LineLaws.{first_le, lines-first}
use Rattle.intel_hex.specs.declared.record.Found.{Found}
use Rattle.intel_hex.specs.declared.record.Kind.{Kind}
use Rattle.intel_hex.specs.Record.{line_bytes, data_count, address, kind, is_record}
use Rattle.intel_hex.specs.Reading.{without_cr, record_lines, is_end, is_right_end, is_read_type, is_placed, free_after, put_records}
use Rattle.intel_hex.specs.Steps.{first_record, kind_of, kind_byte, SaysRecord, RecordFound, found_outcome}
use Rattle.intel_hex.proofs.OutcomeLaws.{is_none, none_is, told}

-- ---- three questions

module _ (x y z : Bool) (p : ℕ) where
  abbrev asked : Outcome → Outcome
  asked next = first_no ((17, x) ∷ (18, y) ∷ (19, z) ∷ []) p next

-- The first no is the outcome, whatever would come next; ..
a_no : (x y z : Bool) (p : ℕ) (next : Outcome) → eqb (asked x y z p (accepted 0)).number 0 ≡ false → asked x y z p (accepted 0) ≡ asked x y z p next
a_no true true true p next e = absurd (true≢false e)
a_no true true false p next e = refl
a_no true false z p next e = refl
a_no false y z p next e = refl

-- .. without one each got a yes.
no_no : (x y z : Bool) (p : ℕ) → eqb (asked x y z p (accepted 0)).number 0 ≡ true → (x ≡ true) × (y ≡ true) × (z ≡ true)
no_no true true true p e = (refl, refl, refl)
no_no true true false p e = absurd (false≢true e)
no_no true false z p e = absurd (false≢true e)
no_no false y z p e = absurd (false≢true e)

-- ---- the lines that are left

-- No byte is left where no line is.
last_line : (text : List ℕ) (p : ℕ) → leb (length text) p ≡ is_none (record_lines (drop p text))
unfolding lines
last_line text p = go (ltb p (length text)) refl
  where
    go : (t : Bool) → ltb p (length text) ≡ t → leb (length text) p ≡ is_none (record_lines (drop p text))
    go true e =
        let inside = ltb-true p (length text) e in
        rw (lt-leb (length text) p inside, lines-first (drop p text) (rw length-drop (omega arith)))
    go false e =
        let past = ltb-false p (length text) e in
        rw (le-leb (length text) p past, drop_of_length-le text past)

pub told_past : (room free i : ℕ) (text : List ℕ) (at : ℕ) → length text ≤ at → refused 18 (i + 1) ≡ told room free i (record_lines (drop at text))
unfolding told lines
told_past room free i text at h = rw (drop_of_length-le text h)

-- ---- the type of a record

kind-end : (t : ℕ) → eqb (kind_byte (kind_of t)) 1 ≡ eqb t 1
kind-end t = go (eqb t 0) refl (eqb t 1) refl
  where
    go : (a : Bool) → eqb t 0 ≡ a → (b : Bool) → eqb t 1 ≡ b → eqb (kind_byte (cond a Kind.Data (cond b Kind.End Kind.Other))) 1 ≡ b
    go true e true f = let zero_is = eqb-true t 0 e in let one_is = eqb-true t 1 f in absurd (omega arith)
    go true e false f = refl
    go false e true f = refl
    go false e false f = refl

kind-read : (t : ℕ) → leb (kind_byte (kind_of t)) 1 ≡ leb t 1
kind-read t = go (eqb t 0) refl (eqb t 1) refl
  where
    go : (a : Bool) → eqb t 0 ≡ a → (b : Bool) → eqb t 1 ≡ b → leb (kind_byte (cond a Kind.Data (cond b Kind.End Kind.Other))) 1 ≡ leb t 1
    go true e b f = let zero_is = eqb-true t 0 e in sym (le-leb t 1 (omega arith))
    go false e true f = let one_is = eqb-true t 1 f in sym (le-leb t 1 (omega arith))
    go false e false f = let not_zero = eqb-false t 0 e in let not_one = eqb-false t 1 f in sym (lt-leb t 1 (omega arith))

-- ---- a turn

module _ (text : List ℕ) (at : ℕ) (h : at < length text) where
  abbrev line : List ℕ
  line = first_record (drop at text)

  lines-here : record_lines (drop at text) ≡ line ∷ record_lines (drop (at + suc (length (first_line (drop at text)))) text)
  lines-here = ap (map without_cr) (lines-first (drop at text) (rw length-drop (omega arith))) ∙ rw drop-drop

  here : (bytes after : List ℕ) (r : Option Found) → RecordFound (take (length text - at) (drop at text)) bytes r after → RecordFound (drop at text) bytes r after
  here bytes after r p = rw (take_all (length text - at) (drop at text) (rw length-drop (omega arith))) at p

  -- No record.
  pub turn_none : (bytes after : List ℕ) → RecordFound (take (length text - at) (drop at text)) bytes None after
      → (room free i : ℕ) → refused 17 (i + 1) ≡ told room free i (record_lines (drop at text))
  unfolding told
  turn_none bytes after p room free i = let no : is_record line ≡ false = sym (here bytes after None p).record_is in rw (lines-here, no)

  -- A record.
  module _ (bytes after : List ℕ) (f : Found) (p : RecordFound (take (length text - at) (drop at text)) bytes (Some f) after) (room free i : ℕ) where
    abbrev next : ℕ
    next = at + f.end + 1

    abbrev rest : List (List ℕ)
    rest = record_lines (drop next text)

    abbrev outcome : Outcome
    outcome = found_outcome room free (leb (length text) next) (Some f) (i + 1)

    says : SaysRecord (drop at text) bytes after f
    says = (here bytes after (Some f) p).says

    -- Its line ends within the text.
    pub turn-within : at + f.end ≤ length text
    turn-within = let fits = first_le (drop at text) in omega (arith, says.line-end, length-drop at text)

    good : is_record line ≡ true
    good = sym (here bytes after (Some f) p).record_is

    lines_then : record_lines (drop at text) ≡ line ∷ rest
    lines_then =
        let place : at + suc (length (first_line (drop at text))) ≡ next = (let end = says.line-end in omega arith) in
        lines-here ∙ rw place

    is_right : Bool
    is_right = is_record line && is_right_end (is_none rest) (kind (line_bytes line)) (data_count (line_bytes line))

    placed : Bool
    placed = is_placed room free (address (line_bytes line)) (data_count (line_bytes line))

    outcome-is : outcome ≡ asked is_right (is_read_type (kind (line_bytes line))) placed (i + 1) (accepted 0)
    unfolding is_right placed
    outcome-is = rw (says.kind-is, kind-end, kind-read, says.count-is, says.address_is, good, last_line text next)

    told_here : told room free i (record_lines (drop at text))
        ≡ asked is_right (is_read_type (kind (line_bytes line))) placed (i + 1)
        (cond (is_end (kind (line_bytes line))) (accepted 0) (told room (free_after free (line_bytes line)) (i + 1) rest))
    unfolding told is_right placed
    told_here = rw lines_then

    -- It is refused, ..
    good-refused : eqb outcome.number 0 ≡ false → outcome ≡ told room free i (record_lines (drop at text))
    good-refused e = outcome-is ∙ a_no is_right (is_read_type (kind (line_bytes line))) placed (i + 1) _ (rw outcome-is at e) ∙ sym told_here

    module _ (e : eqb outcome.number 0 ≡ true) where
      yes : (is_right ≡ true) × (is_read_type (kind (line_bytes line)) ≡ true) × (placed ≡ true)
      yes = no_no is_right (is_read_type (kind (line_bytes line))) placed (i + 1) (rw outcome-is at e)

      told-next : told room free i (record_lines (drop at text)) ≡ cond (is_end (kind (line_bytes line))) (accepted 0) (told room (free_after free (line_bytes line)) (i + 1) rest)
      told-next = told_here ∙ rw (yes.0, yes.1, yes.2)

      -- .. or the end, ..
      good-end : eqb (kind_byte f.kind) 1 ≡ true → (outcome ≡ told room free i (record_lines (drop at text))) × (after ≡ put_records bytes (record_lines (drop at text)))
      unfolding is_right put_records
      good-end k =
          let end : is_end (kind (line_bytes line)) ≡ true = rw (says.kind-is, kind-end) at k in
          let none = none_is rest (and_right (eqb (data_count (line_bytes line)) 0) (is_none rest) (rw end at (and_right (is_record line) _ yes.0))) in
          let all = yes in
          (outcome-is ∙ rw (all.0, all.1, all.2) (sym (told-next ∙ rw end)), says.bytes ∙ rw (lines_then, none))

      -- .. or another record, which puts its data.
      good-next : eqb (kind_byte f.kind) 1 ≡ false → (free' : ℕ) → free' ≡ cond (eqb f.count 0) free (f.address + f.count)
          → (told room free' (i + 1) rest ≡ told room free i (record_lines (drop at text))) × (put_records after rest ≡ put_records bytes (record_lines (drop at text)))
      unfolding put_records
      good-next k free' q =
          let other : is_end (kind (line_bytes line)) ≡ false = rw (says.kind-is, kind-end) at k in
          let same : free' ≡ free_after free (line_bytes line) = q ∙ rw (says.count-is, says.address_is) in
          (rw same (sym (told-next ∙ rw other)), rw (says.bytes, lines_then))

    -- The reader stops: a no, or the end.
    pub turn_stop : (not (eqb outcome.number 0) || eqb (kind_byte f.kind) 1) ≡ true
        → (outcome ≡ told room free i (record_lines (drop at text))) × (outcome.number ≡ 0 → after ≡ put_records bytes (record_lines (drop at text)))
    turn_stop stop = go (eqb outcome.number 0) refl stop
      where
        go : (t : Bool) → eqb outcome.number 0 ≡ t → (not t || eqb (kind_byte f.kind) 1) ≡ true
            → (outcome ≡ told room free i (record_lines (drop at text))) × (outcome.number ≡ 0 → after ≡ put_records bytes (record_lines (drop at text)))
        go true e s = let end = good-end e s in (end.0, λ z. end.1)
        go false e s = (good-refused e, λ z. absurd (false≢true (sym e ∙ rw z)))

    -- It goes on.
    pub turn_next : (not (eqb outcome.number 0) || eqb (kind_byte f.kind) 1) ≡ false → (free' : ℕ) → free' ≡ cond (eqb f.count 0) free (f.address + f.count)
        → (told room free' (i + 1) rest ≡ told room free i (record_lines (drop at text))) × (put_records after rest ≡ put_records bytes (record_lines (drop at text)))
    turn_next on free' q =
        let both = neither (not (eqb outcome.number 0)) (eqb (kind_byte f.kind) 1) on in
        good-next (not-false (eqb outcome.number 0) both.0) both.1 free' q
