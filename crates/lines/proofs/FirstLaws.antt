-- What the first token tells of the form of a line. Assumes nothing.
use Prim.Native.Nat.{ℕ, ◌+◌, ◌-◌, ◌<◌}
use mathlib.Core.Path.{◌≡◌, refl, sym, ◌∙◌, ap}
use mathlib.Core.Bool.{Bool, true, false, cond, ◌&&◌, false≢true}
use mathlib.Core.List.{List, [], ◌∷◌}
use native.Mathlib.Omega.{arith}
use lib.Dec.{eqb, leb}
use lib.ListN.{length, get_or, take, drop, length-drop}
use lib.Seq.{length-take-le, get_or-take, get_or-drop}
use borrow.Author.Tests.{lt-leb, eqb-true}
use Rattle.text.specs.Bytes.{bytes}
use Rattle.text.proofs.Truth.{and_left}
use Rattle.source.specs.declared.Span.{Span}
use Rattle.source.specs.Bytes.{most_bytes, are_right_bytes, is_letter, is_letter_or_digit, are_all}
use Rattle.source.specs.Tokens.{tokens, texts}
use Rattle.source.specs.Spans.{FirstToken}
use Rattle.text.specs.Same.{same}
use Rattle.source.specs.Names.{is_name, defined, is_definition}
use Rattle.source.specs.Shapes.{fits, matches, first_shape}
use Rattle.lines.specs.declared.Form.{Form}
use Rattle.lines.specs.declared.Form.TheVariants.{Nothing, Label, Code, Labelled, Word, Wrong}
use Rattle.lines.specs.Line.{directive, shapes, form_at, form_of, is_right, has_label, has_code, part}
use Rattle.lines.specs.declared.Line.{Line}
use Rattle.lines.specs.declared.First.{First}
use Rattle.lines.specs.declared.First.TheVariants.{Whole, Instruction, Neither}
use Rattle.lines.specs.First.{FirstFormed, tells_label, tells_code}
use Rattle.lines.proofs.FormLaws.{shape-number}

-- ---- the shape behind a form

-- The shape that tokens have where their line has a form.
pub data Shaped (ts : List (List ℕ)) : Form → Type 0 where
  nothing : matches directive (bytes "") ts ≡ true → Shaped ts Nothing
  label : matches directive (bytes ":") ts ≡ true → Shaped ts Label
  code : matches directive (bytes "o$,$,$,$,i,i") ts ≡ true → Shaped ts Code
  labelled : matches directive (bytes ":o$,$,$,$,i,i") ts ≡ true → Shaped ts Labelled
  word : matches directive (bytes ".00") ts ≡ true → Shaped ts Word
  wrong : Shaped ts Wrong

pub shaped : (line : List ℕ) → Shaped (texts (tokens line)) (form_of line)
unfolding form_of shapes first_shape
shaped line =
    go (are_right_bytes line) (matches directive (bytes "") ts) refl (matches directive (bytes ":") ts) refl (matches directive (bytes "o$,$,$,$,i,i") ts) refl (matches directive (bytes ":o$,$,$,$,i,i") ts) refl (matches directive (bytes ".00") ts) refl
  where
    ts : List (List ℕ)
    ts = texts (tokens line)

    go : (right a : Bool) → matches directive (bytes "") ts ≡ a → (b : Bool) → matches directive (bytes ":") ts ≡ b → (d : Bool) → matches directive (bytes "o$,$,$,$,i,i") ts ≡ d
        → (l : Bool) → matches directive (bytes ":o$,$,$,$,i,i") ts ≡ l → (w : Bool) → matches directive (bytes ".00") ts ≡ w
        → Shaped ts (cond right (form_at (cond a 0 (1 + cond b 0 (1 + cond d 0 (1 + cond l 0 (1 + cond w 0 (1 + 0))))))) Wrong)
    go false a p b q d r l s w t = wrong
    go true true p b q d r l s w t = nothing p
    go true false p true q d r l s w t = label q
    go true false p false q true r l s w t = code r
    go true false p false q false r true s w t = labelled s
    go true false p false q false r false s true t = word t
    go true false p false q false r false s false t = wrong

-- ---- the first token

first_fits : (d : List ℕ) (g : ℕ) (gs : List ℕ) (ts : List (List ℕ)) → matches d (g ∷ gs) ts ≡ true → fits d g (get_or ts 0 []) ≡ true
unfolding matches
first_fits d g gs [] e = absurd (false≢true e)
first_fits d g gs (t ∷ ts) e = and_left (fits d g t) (matches d gs ts) e

colon_defines : (t : List ℕ) → fits directive 58 t ≡ true → is_definition t ≡ true
unfolding fits
colon_defines t e = e

op_named : (t : List ℕ) → fits directive 111 t ≡ true → is_name t ≡ true
unfolding fits
op_named t e = e

dot_directs : (t : List ℕ) → fits directive 46 t ≡ true → same t directive ≡ true
unfolding fits
dot_directs t e = e

-- A line with a label begins with its definition.
pub defines : (line : List ℕ) (f : Form) → f ≡ form_of line → has_label f ≡ true → is_definition (part 0 line) ≡ true
defines line f is e = go (form_of line) (shaped line) (sym (ap has_label is) ∙ e)
  where
    go : (g : Form) → Shaped (texts (tokens line)) g → has_label g ≡ true → is_definition (part 0 line) ≡ true
    go Nothing s h = absurd (false≢true h)
    go Label (label q) h = colon_defines (part 0 line) (first_fits directive 58 [] (texts (tokens line)) q)
    go Code s h = absurd (false≢true h)
    go Labelled (labelled q) h = colon_defines (part 0 line) (first_fits directive 58 (bytes "o$,$,$,$,i,i") (texts (tokens line)) q)
    go Word s h = absurd (false≢true h)
    go Wrong s h = absurd (false≢true h)

definition_ends : (t : List ℕ) → is_definition t ≡ true → get_or t (length t - 1) 0 ≡ 58
unfolding is_definition
definition_ends t e = eqb-true (get_or t (length t - 1) 0) 58 (and_left (eqb (get_or t (length t - 1) 0) 58) (is_name (defined t)) e)

name-begins : (t : List ℕ) → is_name t ≡ true → is_letter (get_or t 0 0) ≡ true
unfolding is_name
name-begins t e = and_left (is_letter (get_or t 0 0)) (leb (length t) 50) (and_left (is_letter (get_or t 0 0) && leb (length t) 50) (are_all is_letter_or_digit t) e)

directive-begins : (t : List ℕ) → same t directive ≡ true → get_or t 0 0 ≡ 46
unfolding same
directive-begins [] e = absurd (false≢true e)
directive-begins (b ∷ t) e = eqb-true b 46 (and_left (eqb b 46) (same t (bytes "word")) e)

-- A line whose first token does not end in a colon defines no label.
no_colon : (line : List ℕ) → (get_or (part 0 line) (length (part 0 line) - 1) 0 ≡ 58 → ⊥) → false ≡ has_label (form_of line)
no_colon line n = go (has_label (form_of line)) refl
  where
    go : (b : Bool) → has_label (form_of line) ≡ b → false ≡ b
    go true e = absurd (n (definition_ends (part 0 line) (defines line (form_of line) refl e)))
    go false e = refl

-- One that has none and begins with a dot has no instruction, ..
dot_no_code : (line : List ℕ) → false ≡ has_label (form_of line) → get_or (part 0 line) 0 0 ≡ 46 → false ≡ has_code (form_of line)
dot_no_code line none dot = go (form_of line) (shaped line) none
  where
    go : (g : Form) → Shaped (texts (tokens line)) g → false ≡ has_label g → false ≡ has_code g
    go Nothing s h = refl
    go Label s h = refl
    go Code (code q) h =
        absurd (false≢true (ap is_letter (sym dot) ∙ name-begins (part 0 line) (op_named (part 0 line) (first_fits directive 111 (bytes "$,$,$,$,i,i") (texts (tokens line)) q))))
    go Labelled s h = absurd (false≢true h)
    go Word s h = refl
    go Wrong s h = refl

-- .. and one that has tokens and begins with another byte has one, if its form is right.
some-code : (line : List ℕ) → 0 < length (texts (tokens line)) → false ≡ has_label (form_of line) → (get_or (part 0 line) 0 0 ≡ 46 → ⊥) → is_right (form_of line) ≡ true → true ≡ has_code (form_of line)
some-code line some none dot right = go (form_of line) (shaped line) none right
  where
    go : (g : Form) → Shaped (texts (tokens line)) g → false ≡ has_label g → is_right g ≡ true → true ≡ has_code g
    go Nothing (nothing q) h r = let none = shape-number directive [] (texts (tokens line)) q in absurd (omega arith)
    go Label s h r = absurd (false≢true h)
    go Code s h r = refl
    go Labelled s h r = absurd (false≢true h)
    go Word (word q) h r = absurd (dot (directive-begins (part 0 line) (dot_directs (part 0 line) (first_fits directive 46 (bytes "00") (texts (tokens line)) q))))
    go Wrong s h r = absurd (false≢true r)

-- ---- what the code finds

-- Too many bytes.
pub first_long : (line : List ℕ) → most_bytes < length line → FirstFormed line Neither
unfolding form_of are_right_bytes
first_long line h = let long = lt-leb (length line) most_bytes h in (rw long, λ r. rw long)

-- No token.
pub first-none : (line : List ℕ) → tokens line ≡ [] → FirstFormed line Neither
unfolding form_of shapes first_shape matches
first-none line none = (rw none (both (are_right_bytes line)), λ r. rw none (neither (are_right_bytes line)))
  where
    neither : (b : Bool) → has_code (cond b Nothing Wrong) ≡ false
    neither true = refl
    neither false = refl

    both : (b : Bool) → has_label (cond b Nothing Wrong) ≡ false
    both true = refl
    both false = refl

module _ (line : List ℕ) (s : Span) (t : FirstToken line 0 s) where
  first_part : part 0 line ≡ take (s.end - s.start) (drop s.start line)
  first_part = ap (λ (ts : List (List ℕ)). get_or ts 0 []) (ap texts t.is)

  some-tokens : 0 < length (texts (tokens line))
  some-tokens = rw (ap texts t.is) (omega arith)

  size : length (part 0 line) ≡ s.end - s.start
  size = let order = t.order in let within = t.within in ap length first_part ∙ length-take-le (s.end - s.start) (drop s.start line) (rw length-drop (omega arith))

  byte_at : (k : ℕ) → k < s.end - s.start → get_or (part 0 line) k 0 ≡ get_or line (s.start + k) 0
  byte_at k q = ap (λ (x : List ℕ). get_or x k 0) first_part ∙ get_or-take (s.end - s.start) (drop s.start line) k 0 q ∙ get_or-drop s.start line k 0

  last_byte : get_or (part 0 line) (length (part 0 line) - 1) 0 ≡ get_or line (s.end - 1) 0
  last_byte =
      let order = t.order in
      let place : s.start + (s.end - s.start - 1) ≡ s.end - 1 = omega arith in
      rw size (byte_at (s.end - s.start - 1) (omega arith) ∙ ap (λ (k : ℕ). get_or line k 0) place)

  first_byte : get_or (part 0 line) 0 0 ≡ get_or line s.start 0
  first_byte = let order = t.order in byte_at 0 (omega arith) ∙ ap (λ (k : ℕ). get_or line k 0) (omega arith)

  module _ (colon : get_or line (s.end - 1) 0 ≡ 58 → ⊥) where
    none : false ≡ has_label (form_of line)
    none = no_colon line (λ e. colon (sym last_byte ∙ e))

    pub first_dot : get_or line s.start 0 ≡ 46 → FirstFormed line Neither
    first_dot e = (sym none, λ r. sym (dot_no_code line none (first_byte ∙ e)))

    pub first_code : (get_or line s.start 0 ≡ 46 → ⊥) → FirstFormed line Instruction
    first_code n = (sym none, λ r. sym (some-code line some-tokens none (λ e. n (sym first_byte ∙ e)) r))

-- What it tells is so.
pub first_tells : (line : List ℕ) (f : First) → FirstFormed line f
    → (tells_label f ≡ has_label (form_of line)) × (is_right (form_of line) ≡ true → tells_code f ≡ has_code (form_of line))
first_tells line (Whole l) e = let is = l.formed.is ∙ ap form_of e in (ap has_label is, λ r. ap has_code is)
first_tells line Instruction e = (sym e.0, λ r. sym (e.1 r))
first_tells line Neither e = (sym e.0, λ r. sym (e.1 r))

-- The whole form.
pub first-whole : {line : List ℕ} (l : Line) → l.tokens.line.now ≡ line → FirstFormed line (Whole l)
first-whole l e = e
