-- What a line says: its immediates, its names and its word. Assumes nothing.
use Rattle.std.specs.Prelude.{Option, None, Some}
use Prim.Native.Nat.{ℕ, ◌+◌, ◌%◌, ◌≤◌, ◌<◌, ◌^◌}
use mathlib.Core.Path.{◌≡◌, refl, sym, ◌∙◌, ap}
use mathlib.Core.Bool.{Bool, true, false, ◌&&◌, false≢true, and-true}
use mathlib.Core.List.{List, []}
use native.Mathlib.Omega.{arith}
use lib.ListN.{length, get_or}
use Rattle.text.proofs.Truth.{and_left, and_right}
use Rattle.isa.specs.Word.{word_of}
use Rattle.isa.specs.Registers.{register_names}
use Rattle.source.specs.declared.Number.{Number}
use Rattle.source.specs.Numbers.{number, is_number}
use Rattle.source.specs.Lookup.{is_among, place_of}
use Rattle.symbols.specs.Table.{names_of}
use Rattle.symbols.specs.Sound.{FoundAt, Found}
use Rattle.symbols.proofs.NameLaws.{length-names}
use Rattle.symbols.proofs.LookupLaws.{is_among_lem}
use Rattle.symbols.proofs.DistinctLaws.{distinct-place}
use Rattle.lines.specs.declared.Form.{Form}
use Rattle.lines.specs.declared.Form.TheVariants.{Word}
use Rattle.lines.specs.declared.Names.{Names}
use Rattle.lines.specs.Line.{has_code, has_word, part, op_at, operand}
use Rattle.lines.specs.Parts.{Formed}
use Rattle.lines.specs.Ranges.{is_immediate, is_address, is_data, modulo}
use Rattle.lines.specs.Asked.{are_in_range, is_word_in_range}
use Rattle.lines.specs.Names.{are_known, Numbered, fields_with}
use Rattle.lines.proofs.FormLaws.{code-form}
use Rattle.lines.proofs.NameLaws.{known_is, all-known}
use Rattle.statements.specs.declared.Immediate.{Immediate}
use Rattle.labels.specs.Text.{labels, value_of, label_values}
use Rattle.statements.specs.Questions.{is_usable}
use Rattle.labels.specs.Limits.{most_labels}
use Rattle.statements.specs.Encoding.{immediate, encoded}
use Rattle.labels.specs.Tables.{LabelTable}
use Rattle.statements.specs.Reading.{Usual, ImmediateRead, StatementRead}
use Rattle.labels.proofs.TextLaws.{value-at}

-- ---- an immediate

-- What is no number is not out of range.
none_within : (n : Option Number) → is_number n ≡ false → true ≡ is_immediate n
none_within (Some n) e = absurd (false≢true (sym e))
none_within None e = refl

-- A token that is no number was looked up in the table of the labels.
module _ {source table values : List ℕ} {ls : List (List ℕ)} {count : ℕ} (l : LabelTable source ls table values count) (t : List ℕ) (no : is_number (number t) ≡ false) where
  usable_is : (b : Bool) → is_among (names_of source table count) t ≡ b → is_usable (labels ls) t ≡ b
  usable_is b f = rw (no, ← l.names) f

  labels-number : length (labels ls) ≡ count
  labels-number = sym (ap length l.names) ∙ length-names source table count

  -- It is none of them.
  pub label-none : Found source table count t None → ImmediateRead ls t (record { inside = true; defined = false; value = 0 })
  label-none f =
      record {
        inside = none_within (number t) no;
        defined = sym (usable_is false f);
        value = λ e u. absurd (false≢true e);
        fits = omega arith;
      }

  module _ {r : ℕ} (f : FoundAt source table count t r) where
    -- It is label r of a text with no label twice, and so has the value of that.
    label-value : Usual ls → r < most_labels → get_or values r 0 ≡ value_of ls t
    label-value u k =
        let size = labels-number in
        let h = f.within in
        let here : get_or (labels ls) r [] ≡ t = rw l.names at f.name in
        let among : is_among (labels ls) t ≡ true = is_among_lem (labels ls) t r (omega arith) here in
        l.valued u.right r h k ∙ sym (value-at ls t among ∙ ap (λ (p : ℕ). get_or (label_values 0 ls) p 0) (distinct-place (labels ls) t u.distinct r (omega arith) here))

    label-some : (v : ℕ) → v < 2 ^ 12 → (Usual ls → v ≡ value_of ls t % 4096) → ImmediateRead ls t (record { inside = true; defined = true; value = v })
    unfolding immediate
    label-some v fits is =
        record {
          inside = none_within (number t) no;
          defined = sym (usable_is true f.among);
          value = λ e u. rw no (is u);
          fits = fits;
        }

    -- One after the first 1,024 has no value, and no good text has it.
    pub label_late : most_labels ≤ r → ImmediateRead ls t (record { inside = true; defined = true; value = 0 })
    label_late k =
        label-some 0 (omega arith) (λ u. let size = labels-number in let few = u.few in let within = f.within in absurd (omega arith))

    pub label_early : r < most_labels → ImmediateRead ls t (record { inside = true; defined = true; value = get_or values r 0 % 4096 })
    label_early k =
        label-some (get_or values r 0 % 4096) (omega arith) (λ u. ap (λ (v : ℕ). v % 4096) (label-value u k))

-- "labels keep the wider range": a label's value is stored as it is up to 4095.
pub label-stored : (all : List (List ℕ)) (t : List ℕ) → is_number (number t) ≡ false → value_of all t < 4096 → immediate all t ≡ value_of all t
unfolding immediate
label-stored all t none h = rw none (omega arith)

-- A number.
pub number_read : {all : List (List ℕ)} {t : List ℕ} (n : Option Number) (inside : Bool) (v : ℕ) → n ≡ number t → is_number n ≡ true → inside ≡ is_immediate n
    → v < 2 ^ 12 → v ≡ modulo 4096 n → ImmediateRead all t (record { inside = inside; defined = true; value = v })
unfolding immediate
number_read n inside v is some within fits low =
    record {
      inside = rw is at within;
      defined = rw (← is, some);
      value = λ e u. rw (← is, some) low;
      fits = fits;
    }

-- ---- `.word`

-- Its address and its data were read.
pub word_read : {line : List ℕ} (f : Form) → f ≡ Word → (x y : Option Number) → x ≡ number (part 1 line) → y ≡ number (part 2 line)
    → (inside : Bool) → inside ≡ (is_address x && is_data y) → (a v : ℕ) → a < 2 ^ 12 → a ≡ modulo 4096 x → v ≡ modulo (2 ^ 32) y
    → (all : List (List ℕ)) → StatementRead all line f (record { known = true; inside = inside; defined = true; word = 0; address = a; value = v })
unfolding is_word_in_range
word_read f is x y xis yis inside within a v fits low high all =
    rw is
    (record {
      known = refl;
      inside = rw (xis, yis) at within;
      defined = refl;
      word = λ e k d u. absurd (false≢true e);
      word_fits = omega arith;
      address = λ e. rw xis at low;
      address-fits = fits;
      value = λ e. rw yis at high;
    })

-- ---- an instruction

module _ {line : List ℕ} {n : ℕ} {f : Form} {first : ℕ} (formed : Formed line n f) (code : has_code f ≡ true) (is : first ≡ op_at f) where
  operand-is : (k j : ℕ) → j ≡ first + 1 + k + k → part j line ≡ operand k f line
  operand-is k j e = ap (λ (i : ℕ). part i line) (omega arith)

  -- Its immediates were read.
  module _ {all : List (List ℕ)} {t u : List ℕ} {i j : Immediate} (ti : t ≡ part (first + 9) line) (uj : u ≡ part (first + 11) line)
      (ri : ImmediateRead all t i) (rj : ImmediateRead all u j) where
    ti_is : t ≡ operand 4 f line
    ti_is = ti ∙ operand-is 4 (first + 9) (omega arith)

    uj_is : u ≡ operand 5 f line
    uj_is = uj ∙ operand-is 5 (first + 11) (omega arith)

    -- The word of known names and defined immediates.
    word-is : (names : Names) → Numbered line (op_at f) names → (i.defined && j.defined) ≡ true → Usual all → word_of (fields_with names i.value j.value) ≡ encoded all line
    unfolding encoded
    word-is names r defined usual =
        let at : (k g : ℕ) → g ≡ k → place_of register_names (part k line) ≡ place_of register_names (part g line) = λ k g e. ap (λ (p : ℕ). place_of register_names (part p line)) (sym e) in
        let rd = r.rd.is ∙ at (op_at f + 1) (op_at f + 1 + 0 + 0) (omega arith) in
        let rs = r.rs.is ∙ at (op_at f + 3) (op_at f + 1 + 1 + 1) (omega arith) in
        let rt = r.rt.is ∙ at (op_at f + 5) (op_at f + 1 + 2 + 2) (omega arith) in
        let rm = r.rm.is ∙ at (op_at f + 7) (op_at f + 1 + 3 + 3) (omega arith) in
        let imm1 = ri.value (and_left i.defined j.defined defined) usual ∙ ap (immediate all) ti_is in
        let imm2 = rj.value (and_right i.defined j.defined defined) usual ∙ ap (immediate all) uj_is in
        rw (← formed.is, r.op.is, rd, rs, rt, rm, imm1, imm2)

    pub code_read : (known inside defined : Bool) (word : ℕ) → known ≡ are_known (op_at f) line → inside ≡ (i.inside && j.inside) → defined ≡ (i.defined && j.defined)
        → word < 2 ^ 48 → (known ≡ true → defined ≡ true → Usual all → word ≡ encoded all line)
        → StatementRead all line f (record { known = known; inside = inside; defined = defined; word = word; address = 0; value = 0 })
    unfolding are_in_range
    code_read known inside defined word k a d fits w =
        record {
          known = rw code (k ∙ known_is line f);
          inside = rw (code, (code-form f code).2, ← ti_is, ← uj_is, ← ri.inside, ← rj.inside) (a ∙ sym (and-true (i.inside && j.inside)));
          defined = rw (code, ← ti_is, ← uj_is, ← ri.defined, ← rj.defined) d;
          word = λ e q g v. w q g v;
          word_fits = fits;
          address = λ e. absurd (false≢true (sym (code-form f code).2 ∙ e));
          address-fits = omega arith;
          value = λ e. absurd (false≢true (sym (code-form f code).2 ∙ e));
        }

    -- Its names are known, ..
    pub known_read : (names : Names) → Numbered line (op_at f) names → (inside defined : Bool) (word : ℕ) → inside ≡ (i.inside && j.inside) → defined ≡ (i.defined && j.defined)
        → word < 2 ^ 48 → word ≡ word_of (fields_with names i.value j.value)
        → StatementRead all line f (record { known = true; inside = inside; defined = defined; word = word; address = 0; value = 0 })
    known_read names r inside defined word a d fits w =
        code_read true inside defined word (sym (all-known r)) a d fits (λ k g u. w ∙ word-is names r (sym d ∙ g) u)

    -- .. or they are not.
    pub unknown_read : are_known (op_at f) line ≡ false → (inside defined : Bool) → inside ≡ (i.inside && j.inside) → defined ≡ (i.defined && j.defined)
        → StatementRead all line f (record { known = false; inside = inside; defined = defined; word = 0; address = 0; value = 0 })
    unknown_read none inside defined a d = code_read false inside defined 0 (sym none) a d (omega arith) (λ k g u. absurd (false≢true k))

-- ---- no statement

-- A line with neither says nothing.
pub nothing_read : {all : List (List ℕ)} {line : List ℕ} (f : Form) → has_code f ≡ false → has_word f ≡ false
    → StatementRead all line f (record { known = true; inside = true; defined = true; word = 0; address = 0; value = 0 })
nothing_read f a b =
    record {
      known = rw a;
      inside = rw (a, b);
      defined = rw a;
      word = λ e k d u. absurd (false≢true (sym a ∙ e));
      word_fits = omega arith;
      address = λ e. absurd (false≢true (sym b ∙ e));
      address-fits = omega arith;
      value = λ e. absurd (false≢true (sym b ∙ e));
    }
