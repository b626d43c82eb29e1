-- Where the label of a line stands. Assumes nothing.
use Prim.Native.Nat.{ℕ, ◌+◌, ◌-◌, ◌≤◌, ◌<◌}
use mathlib.Core.Path.{◌≡◌, sym, ◌∙◌, ap}
use mathlib.Core.Bool.{true, false≢true}
use mathlib.Core.List.{List, [], ◌∷◌, ◌++◌}
use native.Mathlib.Omega.{arith}
use lib.Dec.{eqb}
use lib.ListN.{length, get_or, take, drop, length-take, length-drop, take-append-drop}
use lib.Seq.{length-take-le, take-take, take-append-le, drop-append-le, drop-drop}
use Rattle.text.proofs.Truth.{and_right}
use Rattle.source.specs.declared.Span.{Span}
use Rattle.source.specs.Spans.{nowhere, Split}
use Rattle.source.specs.Names.{is_name, defined, is_definition}
use Rattle.lines.specs.declared.Form.{Form}
use Rattle.lines.specs.declared.Form.TheVariants.{Nothing, Label, Code, Labelled, Word, Wrong}
use Rattle.lines.specs.Line.{has_label, part, label_of}
use Rattle.lines.specs.Parts.{part_count, Formed}
use Rattle.lines.proofs.FirstLaws.{defines}

-- ---- the token that defines a label

name-some : (t : List ℕ) → is_name t ≡ true → 1 ≤ length t
unfolding is_name
name-some [] e = absurd (false≢true e)
name-some (b ∷ t) e = omega arith

-- It has a letter and the colon.
two_bytes : (t : List ℕ) → is_definition t ≡ true → 2 ≤ length t
unfolding is_definition
two_bytes t e =
    let some = name-some (defined t) (and_right (eqb (get_or t (length t - 1) 0) 58) (is_name (defined t)) e) in
    let size = length-take (length t - 1) t in
    let most : length (take (length t - 1) t) ≤ length t - 1 = rw size (omega arith) in
    omega arith

has_part : (f : Form) → has_label f ≡ true → 0 < part_count f
has_part Nothing e = absurd (false≢true e)
has_part Label e = omega arith
has_part Code e = absurd (false≢true e)
has_part Labelled e = omega arith
has_part Word e = absurd (false≢true e)
has_part Wrong e = absurd (false≢true e)

-- The label of a line stands from a to the colon before b.
pub record LabelIn (line : List ℕ) (a b : ℕ) : Type 0 where
  pub order : a + 2 ≤ b
  pub within : b ≤ length line
  pub is : take (b - 1 - a) (drop a line) ≡ label_of line

pub label_in : {line : List ℕ} {spans : List Span} {n : ℕ} {f : Form} → Split line spans n → Formed line n f → has_label f ≡ true → LabelIn line (get_or spans 0 nowhere).start (get_or spans 0 nowhere).end
label_in {line} {spans} {n} {f} split formed e =
    let parts = formed.parts in
    let some = has_part f e in
    let p = split.placed 0 (omega arith) in
    let a = (get_or spans 0 nowhere).start in
    let b = (get_or spans 0 nowhere).end in
    let order = p.order in
    let within = p.within in
    let rest = length-drop a line in
    let size : length (part 0 line) ≡ b - a = sym (ap length p.is) ∙ length-take-le (b - a) (drop a line) (omega arith) in
    let two = two_bytes (part 0 line) (defines line f formed.is e) in
    let less : b - 1 - a ≡ length (part 0 line) - 1 = omega arith in
    record {
      order = omega arith;
      within = within;
      is = sym (take-take (b - 1 - a) (b - a) (drop a line) (omega arith)) ∙ ap (take (b - 1 - a)) p.is ∙ ap (λ (k : ℕ). take k (part 0 line)) less;
    }

-- ---- a part of a line is a part of its text

pub part_in_line : (s : List ℕ) (p e a k : ℕ) → p ≤ e → e ≤ length s → a + k ≤ e - p → take k (drop a (take (e - p) (drop p s))) ≡ take k (drop (p + a) s)
part_in_line s p e a k h w r =
    let line = take (e - p) (drop p s) in
    let rest = drop (e - p) (drop p s) in
    let size : length line ≡ e - p = length-take-le (e - p) (drop p s) (rw length-drop (omega arith)) in
    let left = length-drop a line in
    sym
    (ap (take k) (sym (drop-drop a p s))
    ∙ ap (λ (x : List ℕ). take k (drop a x)) (sym (take-append-drop (e - p) (drop p s)))
    ∙ ap (take k) (drop-append-le a line rest (omega arith))
    ∙ take-append-le k (drop a line) rest (omega arith))

-- The label of a line of a text.
pub record LabelOf (source : List ℕ) (p e a b : ℕ) : Type 0 where
  pub order : a + 2 ≤ b
  pub within : p + b ≤ e
  pub is : take (p + b - 1 - (p + a)) (drop (p + a) source) ≡ label_of (take (e - p) (drop p source))

pub label_of_lem : {source line : List ℕ} {p e a b : ℕ} → p ≤ e → e ≤ length source → line ≡ take (e - p) (drop p source) → LabelIn line a b → LabelOf source p e a b
label_of_lem {source} {line} {p} {e} {a} {b} h w is l =
    let size : length line ≡ e - p = ap length is ∙ length-take-le (e - p) (drop p source) (rw length-drop (omega arith)) in
    let order = l.order in
    let within = l.within in
    let same : p + b - 1 - (p + a) ≡ b - 1 - a = omega arith in
    let there = rw is at l.is in
    record {
      order = order;
      within = omega arith;
      is = ap (λ (k : ℕ). take k (drop (p + a) source)) same ∙ sym (part_in_line source p e a (b - 1 - a) h w (omega arith)) ∙ there;
    }

-- ---- its name

-- One more name, given in two ways.
pub names_more : (ns : List (List ℕ)) (x y : List ℕ) → x ≡ y → ns ++ (x ∷ []) ≡ ns ++ (y ∷ [])
names_more ns x y e = ap (λ (t : List ℕ). ns ++ (t ∷ [])) e
