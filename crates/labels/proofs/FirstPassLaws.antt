-- The label of a line, and the first pass over the lines of a text. Assumes nothing.
use Prim.Native.Nat.{ℕ, ◌+◌, ◌-◌, ◌*◌, ◌≤◌, ◌<◌}
use mathlib.Core.Path.{◌≡◌, refl, sym, ◌∙◌, ap}
use mathlib.Core.Bool.{Bool, true, false, cond}
use mathlib.Core.List.{List, [], ◌∷◌, ◌++◌, append-nil, append_assoc}
use native.Mathlib.Omega.{arith}
use native.Mathlib.Nat.{zero-add}
use lib.Dec.{ltb}
use lib.ListN.{length, get_or, set, take, drop, drop_of_length-le, get_or-append}
use lib.Seq.{get_or_at, get_or-set_same, get_or-set_other}
use borrow.Author.Tests.{ltb-true, ltb-false}
use Rattle.text.specs.Lines.{lines, first_line}
use Rattle.text.proofs.Truth.{and_left, and_right}
use Rattle.text.proofs.LineLaws.{lines_at_lem}
use Rattle.std.specs.Prelude.{None}
use Rattle.symbols.specs.Table.{names_of, entry_at}
use Rattle.symbols.specs.Sound.{Sound, Empty}
use Rattle.symbols.proofs.NameLaws.{length-names}
use Rattle.symbols.proofs.EmptyLaws.{empty_sound}
use Rattle.lines.specs.Line.{form_of, is_right, label_of}
use Rattle.lines.specs.declared.First.{First}
use Rattle.lines.specs.First.{FirstFormed, tells_label, tells_code}
use Rattle.lines.proofs.FirstLaws.{first_tells}
use Rattle.labels.specs.Text.{code_count, labels, are_right, label_values}
use Rattle.labels.specs.Limits.{most_labels}
use Rattle.labels.specs.Tables.{LabelTable, LabelNoted}
use Rattle.labels.specs.Found.{LabelsFound}
use Rattle.labels.proofs.TextLaws.{labels_append, code-append, values_append, right-append, length_values}

-- ---- the first pass

-- The labels of the lines before p are noted: n instructions and m labels.
pub record Noting (source table values : List ℕ) (p n m : ℕ) : Type 0 where
  pub done : List (List ℕ)
  pub split : lines source ≡ done ++ lines (drop p source)
  pub noted : LabelTable source done table values m
  pub code : are_right done ≡ true → n ≡ code_count done
  pub few : 3 * m ≤ p
  pub small : n ≤ p

pub none_noted : (source table values : List ℕ) → Empty table → length values ≡ most_labels → Noting source table values 0 0 0
unfolding names_of labels code_count
none_noted source table values e room =
    record {
      done = [];
      split = refl;
      noted = record { sound = empty_sound source table e; names = refl; room = room; valued = λ r k h. absurd (omega arith) };
      code = λ r. refl;
      few = omega arith;
      small = omega arith;
    }

-- What the first pass leaves where the table has no room for one more label, ..
pub some_found : {source table values : List ℕ} {p n m : ℕ} → Noting source table values p n m → p < length source → length table < entry_at (m + 1) → LabelsFound source (length table) None
some_found d inside full =
    let few = d.few in
    omega arith

-- .. and where it has come to the end of the text: all are noted.
pub all_found : {source table values : List ℕ} {p n m : ℕ} → Noting source table values p n m → length source ≤ p → LabelTable source (lines source) table values m
unfolding lines
all_found {source} {table} {values} {p} {n} {m} d h =
    let whole : lines source ≡ d.done = d.split ∙ ap (λ (s : List ℕ). d.done ++ lines s) (drop_of_length-le source h) ∙ append-nil d.done in
    rw whole d.noted

-- One line more.
module _ {source table values : List ℕ} {p n m : ℕ} (d : Noting source table values p n m) (inside : p < length source) (e : ℕ) (is : e ≡ p + length (first_line (drop p source))) (f : First)
    (first : FirstFormed (take (e - p) (drop p source)) f) (r : ℕ) (table' values' : List ℕ) (sound : Sound source table' r) (size : length values' ≡ length values)
    (note : LabelNoted source p e (tells_label f) table values n m r table' values') where
  abbrev line : List ℕ
  line = take (e - p) (drop p source)

  abbrev next : List (List ℕ)
  next = d.done ++ (line ∷ [])

  next_split : lines source ≡ next ++ lines (drop (e + 1) source)
  next_split = d.split ∙ ap (λ (x : List (List ℕ)). d.done ++ x) (lines_at_lem source p e inside is) ∙ sym (append_assoc d.done (line ∷ []) (lines (drop (e + 1) source)))

  -- Where all lines have right forms so had those before, and this one has.
  done-right : are_right next ≡ true → are_right d.done ≡ true
  done-right r = and_left (are_right d.done) (are_right (line ∷ [])) (sym (right-append d.done (line ∷ [])) ∙ r)

  line-right : are_right next ≡ true → is_right (form_of line) ≡ true
  unfolding are_right
  line-right r = and_left (is_right (form_of line)) true (and_right (are_right d.done) (are_right (line ∷ [])) (sym (right-append d.done (line ∷ [])) ∙ r))

  next-code : (n' : ℕ) → n' ≡ cond (tells_code f) (n + 1) n → are_right next ≡ true → n' ≡ code_count next
  unfolding code_count
  next-code n' q right =
      let before = d.code (done-right right) in
      q ∙ count (tells_code f) before ∙ ap (λ (b : Bool). code_count d.done + cond b 1 0) ((first_tells line f first).1 (line-right right)) ∙ sym (code-append d.done (line ∷ []))
    where
      count : (b : Bool) → n ≡ code_count d.done → cond b (n + 1) n ≡ code_count d.done + cond b 1 0
      count true x = omega arith
      count false x = omega arith

  -- Without a label, ..
  module _ (no_label : tells_label f ≡ false) where
    same-labels : labels next ≡ labels d.done
    unfolding labels
    same-labels = labels_append d.done (line ∷ []) ∙ rw (sym (first_tells line f first).0 ∙ no_label) (append-nil (labels d.done))

    same_values : label_values 0 next ≡ label_values 0 d.done
    unfolding label_values
    same_values = values_append 0 d.done (line ∷ []) ∙ rw (sym (first_tells line f first).0 ∙ no_label) (append-nil (label_values 0 d.done))

    plain_noted : LabelTable source next table' values' r
    plain_noted =
        let same = note.none no_label in
        rw (same.0, same.1, same.2)
        (record {
          sound = rw (same.0, same.1) at sound;
          names = d.noted.names ∙ sym same-labels;
          room = d.noted.room;
          valued = λ right k h l. d.noted.valued (done-right right) k h l ∙ sym (ap (λ (x : List ℕ). get_or x k 0) same_values);
        })

  -- .. and with one.
  module _ (label : tells_label f ≡ true) where
    more_labels : labels next ≡ labels d.done ++ (label_of line ∷ [])
    unfolding labels
    more_labels = labels_append d.done (line ∷ []) ∙ rw (sym (first_tells line f first).0 ∙ label)

    more_values : are_right next ≡ true → label_values 0 next ≡ label_values 0 d.done ++ (n ∷ [])
    unfolding label_values
    more_values right =
        let same : code_count d.done ≡ n = sym (d.code (done-right right)) in
        values_append 0 d.done (line ∷ []) ∙ rw (sym (first_tells line f first).0 ∙ label, zero-add, same)

    count : length (label_values 0 d.done) ≡ m
    count = length_values 0 d.done ∙ sym (ap length d.noted.names) ∙ length-names source table m

    stored : are_right next ≡ true → (k : ℕ) → k < m + 1 → k < most_labels → get_or (cond (ltb m most_labels) (set values m n) values) k 0 ≡ get_or (label_values 0 next) k 0
    stored right k h l =
        go (ltb m most_labels) refl (ltb k m) refl
        ∙ sym (ap (λ (x : List ℕ). get_or x k 0) (more_values right))
      where
        before : k < m → get_or values k 0 ≡ get_or (label_values 0 d.done ++ (n ∷ [])) k 0
        before q = d.noted.valued (done-right right) k q l ∙ sym (get_or-append (label_values 0 d.done) (n ∷ []) 0 k (rw count q))

        go : (b : Bool) → ltb m most_labels ≡ b → (t : Bool) → ltb k m ≡ t → get_or (cond b (set values m n) values) k 0 ≡ get_or (label_values 0 d.done ++ (n ∷ [])) k 0
        go true q true t = let less = ltb-true k m t in get_or-set_other values m k n 0 (λ x. omega arith) ∙ before less
        go false q true t = before (ltb-true k m t)
        go true q false t =
            let past = ltb-false k m t in
            let here : k ≡ m = omega arith in
            let room = d.noted.room in
            rw here (get_or-set_same values m n 0 (omega arith) ∙ sym (get_or_at (label_values 0 d.done) n [] 0 m count))
        go false q false t = let past = ltb-false k m t in let late = ltb-false m most_labels q in absurd (omega arith)

    label_noted : LabelTable source next table' values' r
    label_noted =
        let one = note.some label in
        rw one.0
        (record {
          sound = rw one.0 at sound;
          names = one.1 ∙ ap (λ (x : List (List ℕ)). x ++ (label_of line ∷ [])) d.noted.names ∙ sym more_labels;
          room = size ∙ d.noted.room;
          valued = λ right k h l. ap (λ (x : List ℕ). get_or x k 0) one.2 ∙ stored right k h l;
        })

  pub one_noted : (n' : ℕ) → n' ≡ cond (tells_code f) (n + 1) n → Noting source table' values' (e + 1) n' r
  one_noted n' q = go (tells_label f) refl
    where
      less : n' ≤ p + 1
      less = let small = d.small in at (tells_code f) q
        where
          at : (b : Bool) → n' ≡ cond b (n + 1) n → n' ≤ p + 1
          at true x = let small = d.small in omega arith
          at false x = let small = d.small in omega arith

      go : (b : Bool) → tells_label f ≡ b → Noting source table' values' (e + 1) n' r
      go true x =
          let one = note.some x in
          let few = d.few in
          let grown : p + 2 ≤ e = one.3 in
          let count : r ≡ m + 1 = one.0 in
          let most = less in
          record { done = next; split = next_split; noted = label_noted x; code = next-code n' q; few = omega arith; small = omega arith }
      go false x =
          let same : r ≡ m = (note.none x).0 in
          let few = d.few in
          let most = less in
          record { done = next; split = next_split; noted = plain_noted x; code = next-code n' q; few = omega arith; small = omega arith }
