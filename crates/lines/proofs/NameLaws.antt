-- The names of an instruction, by their numbers among all names. Assumes nothing.
use Rattle.std.specs.Prelude.{Option, Some, None}
use Prim.Native.Nat.{ℕ, suc, ◌+◌, ◌-◌, ◌≤◌, ◌<◌, ◌^◌}
use mathlib.Core.Path.{◌≡◌, refl, sym, ◌∙◌, ap}
use mathlib.Core.Bool.{Bool, true, false, cond, not, ◌||◌}
use mathlib.Core.List.{List, [], ◌∷◌, ◌++◌}
use native.Mathlib.Omega.{arith}
use lib.Dec.{ltb, eqb}
use lib.ListN.{length, get_or}
use borrow.Author.Tests.{eqb-true, ltb-true, ltb-false, lt-ltb, not-true}
use Rattle.text.specs.Bytes.{bytes}
use Rattle.text.proofs.Truth.{all_below, below, neither}
use Rattle.isa.specs.declared.Fields.{Fields}
use Rattle.isa.specs.Word.{word_of, Fitting}
use Rattle.isa.specs.Operations.{operation_names}
use Rattle.isa.specs.Registers.{register_names}
use Rattle.source.specs.Tokens.{tokens_from, tokens, texts}
use Rattle.text.specs.Same.{same}
use Rattle.source.specs.Lookup.{is_among, place_of}
use Rattle.symbols.specs.Table.{names_of}
use Rattle.symbols.specs.Sound.{Sound, FoundAt, Found}
use Rattle.symbols.proofs.NameLaws.{length-names}
use Rattle.symbols.proofs.DistinctLaws.{Distinct, found_place}
use Rattle.symbols.proofs.LookupLaws.{among-place, name-at-place, place_kept}
use Rattle.lines.specs.declared.Form.{Form}
use Rattle.lines.specs.declared.Names.{Names}
use Rattle.lines.specs.Line.{part, op_at}
use Rattle.lines.specs.Asked.{is_known}
use Rattle.lines.specs.Numbered.{operation_count, name_count, all_names, IsNumber, LookedUp}
use Rattle.lines.specs.Names.{are_known, Numbered, fields_with}

-- ---- the table

-- The text of all names.
abbrev pub names_text : List ℕ
names_text = bytes "add sub mac and or xor sll sra srl beq bne blt bgt ble bge jal lw sw reti in out halt $zero $imm1 $imm2 $v0 $a0 $a1 $a2 $t0 $t1 $t2 $s0 $s1 $s2 $gp $sp $ra"

all-tokens : texts (tokens names_text) ≡ all_names
unfolding tokens_from all_names operation_names register_names
all-tokens = refl

all-count : length all_names ≡ name_count
unfolding all_names operation_names register_names
all-count = refl

-- A table of the tokens of that text is one of all names.
pub name_table_lem : (names table : List ℕ) (r : ℕ) → names ≡ names_text → Sound names table r → names_of names table r ≡ texts (tokens names) → (r ≡ name_count) × Sound names table name_count × (names_of names table name_count ≡ all_names)
name_table_lem names table r e sound is =
    let all : names_of names table r ≡ all_names = is ∙ ap (λ (s : List ℕ). texts (tokens s)) e ∙ all-tokens in
    let count : r ≡ name_count = sym (length-names names table r) ∙ ap length all ∙ all-count in
    (count, rw count at sound, rw count at all)

-- ---- one name

-- A name past these is looked up among those after them.
place_after : (ns ms : List (List ℕ)) (t : List ℕ) → length ns ≤ place_of ns t → place_of (ns ++ ms) t ≡ length ns + place_of ms t
unfolding place_of
place_after [] ms t h = omega arith
place_after (n ∷ ns) ms t h = go (same t n) (place_after ns ms t) h
  where
    go : (b : Bool) → (length ns ≤ place_of ns t → place_of (ns ++ ms) t ≡ length ns + place_of ms t) → suc (length ns) ≤ cond b 0 (suc (place_of ns t)) → cond b 0 (suc (place_of (ns ++ ms) t)) ≡ suc (length ns) + place_of ms t
    go true more k = absurd (omega arith)
    go false more k = let e = more (omega arith) in omega arith

-- One of these or of those is one of all.
among_both : (ns ms : List (List ℕ)) (t : List ℕ) → is_among (ns ++ ms) t ≡ (is_among ns t || is_among ms t)
unfolding is_among
among_both [] ms t = refl
among_both (n ∷ ns) ms t = go (same t n) (among_both ns ms t)
  where
    go : (b : Bool) → is_among (ns ++ ms) t ≡ (is_among ns t || is_among ms t) → (b || is_among (ns ++ ms) t) ≡ ((b || is_among ns t) || is_among ms t)
    go true e = refl
    go false e = e

count-operations : length operation_names ≡ operation_count
unfolding operation_names
count-operations = refl

count-registers : length register_names ≡ 16
unfolding register_names
count-registers = refl

none_both : all_below (λ k. not (is_among register_names (get_or operation_names k []))) operation_count ≡ true
unfolding is_among same operation_names register_names
none_both = refl

module _ (t : List ℕ) where
  place-first : place_of operation_names t < operation_count → place_of all_names t ≡ place_of operation_names t
  unfolding all_names
  place-first h = place_kept operation_names register_names t (rw count-operations h)

  place_later : operation_count ≤ place_of operation_names t → place_of all_names t ≡ operation_count + place_of register_names t
  unfolding all_names
  place_later h = place_after operation_names register_names t (rw count-operations h) ∙ ap (λ (n : ℕ). n + place_of register_names t) count-operations

  -- No operation has the name of a register.
  not_both : place_of operation_names t < operation_count → is_among register_names t ≡ false
  not_both h =
      let here : get_or operation_names (place_of operation_names t) [] ≡ t = name-at-place operation_names t (rw count-operations h) in
      sym (ap (is_among register_names) here) ∙ not-true (is_among register_names (get_or operation_names (place_of operation_names t) [])) (below (λ k. not (is_among register_names (get_or operation_names k []))) operation_count none_both (place_of operation_names t) h)

  -- Its number among all, where it is an operation, ..
  pub operation_is : (n : ℕ) → IsNumber all_names t n → n < operation_count → IsNumber operation_names t n
  operation_is n i h = go (ltb (place_of operation_names t) operation_count) refl
    where
      go : (b : Bool) → ltb (place_of operation_names t) operation_count ≡ b → IsNumber operation_names t n
      go true e =
          record {
            among = rw (among-place operation_names t, count-operations) e;
            is = i.is ∙ place-first (ltb-true (place_of operation_names t) operation_count e);
            below = rw count-operations h;
          }
      go false e = let later = place_later (ltb-false (place_of operation_names t) operation_count e) in let is = i.is in absurd (omega arith)

  -- .. or a register; ..
  pub register_is : (n : ℕ) → IsNumber all_names t n → operation_count ≤ n → IsNumber register_names t (n - operation_count)
  register_is n i h = go (ltb (place_of operation_names t) operation_count) refl
    where
      go : (b : Bool) → ltb (place_of operation_names t) operation_count ≡ b → IsNumber register_names t (n - operation_count)
      go true e =
          let less = ltb-true (place_of operation_names t) operation_count e in
          let first = place-first less in
          let is = i.is in
          absurd (omega arith)
      go false e =
          let later = place_later (ltb-false (place_of operation_names t) operation_count e) in
          let is = i.is in
          let below = rw all-count at i.below in
          let registers = count-registers in
          record {
            among = rw (among-place register_names t, count-registers) (lt-ltb (place_of register_names t) 16 (omega arith));
            is = omega arith;
            below = rw count-registers (omega arith);
          }

  -- .. an operation is no register, ..
  pub no_register : (n : ℕ) → IsNumber all_names t n → n < operation_count → is_among register_names t ≡ false
  no_register n i h = let o = operation_is n i h in not_both (let is = o.is in omega arith)

  -- .. a register no operation, ..
  pub no_operation : (n : ℕ) → IsNumber all_names t n → operation_count ≤ n → is_among operation_names t ≡ false
  no_operation n i h = go (ltb (place_of operation_names t) operation_count) refl
    where
      go : (b : Bool) → ltb (place_of operation_names t) operation_count ≡ b → is_among operation_names t ≡ false
      go true e = let first = place-first (ltb-true (place_of operation_names t) operation_count e) in let is = i.is in let less = ltb-true (place_of operation_names t) operation_count e in absurd (omega arith)
      go false e = rw (among-place operation_names t, count-operations) e

  -- .. and what is none of all is neither.
  pub none_of_all : is_among all_names t ≡ false → (is_among operation_names t ≡ false) × (is_among register_names t ≡ false)
  unfolding all_names
  none_of_all e = neither (is_among operation_names t) (is_among register_names t) (sym (among_both operation_names register_names t) ∙ e)

  -- So an unknown name is no register.
  pub unknown_register : is_among all_names t ≡ false → is_among register_names t ≡ false
  unknown_register e = (none_of_all e).1

-- ---- all names of an instruction

pub operation_below : {t : List ℕ} {n : ℕ} → IsNumber operation_names t n → n < 22
operation_below i = rw count-operations at i.below

pub register_below : {t : List ℕ} {n : ℕ} → IsNumber register_names t n → n < 16
register_below i = rw count-registers at i.below

pub fields_fit : (n : Names) (imm1 imm2 : ℕ) → imm1 < 2 ^ 12 → imm2 < 2 ^ 12 → Fitting (fields_with n imm1 imm2)
fields_fit n imm1 imm2 h k = let o = n.operation in let r = n.registers in record { op = omega arith; rd = omega arith; rs = omega arith; rt = omega arith; rm = omega arith; imm1 = h; imm2 = k }

pub word_fits : (f : Fields) → Fitting f → word_of f < 2 ^ 48
word_fits f h = omega arith

-- They are known as question 4 asks.
pub known_is : (line : List ℕ) (f : Form) → are_known (op_at f) line ≡ is_known f line
unfolding is_known
known_is line f =
    let at : (k j : ℕ) → j ≡ k → part j line ≡ part k line = λ k j e. ap (λ (i : ℕ). part i line) e in
    rw (
      at (op_at f + 1 + 0 + 0) (op_at f + 1) (omega arith),
      at (op_at f + 1 + 1 + 1) (op_at f + 3) (omega arith),
      at (op_at f + 1 + 2 + 2) (op_at f + 5) (omega arith),
      at (op_at f + 1 + 3 + 3) (op_at f + 7) (omega arith),
    )

-- All are where each has its number.
pub all-known : {line : List ℕ} {first : ℕ} {n : Names} → Numbered line first n → are_known first line ≡ true
all-known r = rw (r.op.among, r.rd.among, r.rs.among, r.rt.among, r.rm.among)

-- No name stands twice.
each_once : all_below (λ k. eqb (place_of all_names (get_or all_names k [])) k) name_count ≡ true
unfolding all_names operation_names register_names place_of same
each_once = refl

distinct-names : Distinct all_names
distinct-names k h =
    eqb-true (place_of all_names (get_or all_names k [])) k (below (λ n. eqb (place_of all_names (get_or all_names n [])) n) name_count each_once k (rw all-count at h))

-- A name that is found in a table of all names has its number among them.
pub found_name : {names table : List ℕ} {count r : ℕ} {t : List ℕ} → names_of names table count ≡ all_names → FoundAt names table count t r → IsNumber all_names t r
found_name {names} {table} {count} {r} {t} all f =
    record {
      among = rw all at f.among;
      is = found_place (rw all distinct-names) f ∙ ap (λ (ns : List (List ℕ)). place_of ns t) all;
      below = let size = ap length all in let names-size = length-names names table count in let within = f.within in omega arith;
    }

-- A table of all names answers with numbers among them.
pub looked_up : (names table : List ℕ) (count : ℕ) (t : List ℕ) → names_of names table count ≡ all_names → (r : Option ℕ) → Found names table count t r → LookedUp all_names t r
looked_up names table count t all None f = rw all at f
looked_up names table count t all (Some r) f = found_name all f
