-- The fields are those of the bytes, and the record is theirs.
use Prim.Native.Nat.{ℕ}
use mathlib.Core.Path.{◌≡◌, refl, sym, ◌∙◌, ap}
use mathlib.Core.Bool.{true, ◌||◌}
use mathlib.Core.List.{List}
use lib.Dec.{eqb}
use lib.ListN.{length, get_or}
use borrow.Author.Tests.{eq-eqb, ne_eqb}
use Rattle.isa.specs.Registers.{io_bits}
use Rattle.bitpack.specs.Packed.{fit}
use Rattle.bitpack.specs.Format.{fields_in}
use Rattle.bitpack.proofs.FormatLaws.{fields_fit}
use Rattle.machine.specs.declared.Record.{Record}
use Rattle.saved.specs.Sound.{is_sound}
use Rattle.saved.specs.Layout.{widths, record_of, edition_two}
use Rattle.saved.proofs.TripLaws.{format_two, read-fit}
use Rattle.saved.proofs.AnswerLaws.{load_edition, load_unsound, load_loaded, two_last, two_sound}
use Rattle.saved.proofs.loading.load_two.Goals as goal

-- The format is the one of the length.
known : (b : List ℕ) → length b ≡ 94 → (eqb (length b) 91 || eqb (length b) 94) ≡ true
known b size = rw size refl

pub returns-then-f-ne-EDITION : goal.returns-then-f-ne-EDITION
returns-then-f-ne-EDITION c =
    let fields_are : c.unpack.new.values ≡ fields_in edition_two c.args.bytes.now = unfold fields_in widths io_bits in c.unpack.ensures in
    load_edition c.args.bytes.now edition_two (format_two c.args.bytes.now c.requires) (known c.args.bytes.now c.requires) (rw (← fields_are) (ne_eqb _ 2 c.if-f-ne-EDITION.true))

pub returns-then-f-ne0 : goal.returns-then-f-ne0
returns-then-f-ne0 c =
    let fields_are : c.unpack.new.values ≡ fields_in edition_two c.args.bytes.now = unfold fields_in widths io_bits in c.unpack.ensures in
    let edition-is : eqb (get_or (fields_in edition_two c.args.bytes.now) 0 0) 2 ≡ true = rw (← fields_are) (eq-eqb _ 2 c.if-f-ne-EDITION.false) in
    load_unsound c.args.bytes.now edition_two (format_two c.args.bytes.now c.requires) (known c.args.bytes.now c.requires) (edition-is) (two_last c.args.bytes.now (rw (← fields_are) c.if-f-ne0.true))

pub record_of-state-requires : goal.record_of-state-requires
record_of-state-requires c =
    let fields_are : c.unpack.new.values ≡ fields_in edition_two c.args.bytes.now = unfold fields_in widths io_bits in c.unpack.ensures in
    ap (λ (f : List ℕ). fit widths f) (fields_are) ∙ fields_fit edition_two c.args.bytes.now

pub is_possible-requires : goal.is_possible-requires
is_possible-requires c =
    let fields_are : c.unpack.new.values ≡ fields_in edition_two c.args.bytes.now = unfold fields_in widths io_bits in c.unpack.ensures in
    let record_is : c.record_of-state.result ≡ record_of (fields_in edition_two c.args.bytes.now) = c.record_of-state.ensures ∙ ap (λ (f : List ℕ). record_of f) (fields_are) in
    rw (record_is) (read-fit c.args.bytes.now (rw (← fields_are) c.if-f-ne-EDITION.false) (rw (← fields_are) c.if-f-ne0.false))

pub returns-then-not-is_possible : goal.returns-then-not-is_possible
returns-then-not-is_possible c =
    let fields_are : c.unpack.new.values ≡ fields_in edition_two c.args.bytes.now = unfold fields_in widths io_bits in c.unpack.ensures in
    let record_is : c.record_of-state.result ≡ record_of (fields_in edition_two c.args.bytes.now) = c.record_of-state.ensures ∙ ap (λ (f : List ℕ). record_of f) (fields_are) in
    let sound-is : is_sound (record_of (fields_in edition_two c.args.bytes.now)) ≡ c.is_possible.result = sym (c.is_possible.ensures ∙ ap (λ (r : Record). is_sound r) (record_is)) in
    let edition-is : eqb (get_or (fields_in edition_two c.args.bytes.now) 0 0) 2 ≡ true = rw (← fields_are) (eq-eqb _ 2 c.if-f-ne-EDITION.false) in
    let last = two_sound c.args.bytes.now (rw (← fields_are) c.if-f-ne0.false) in
    let no = last ∙ sound-is ∙ c.if-not-is_possible.true in
    load_unsound c.args.bytes.now edition_two (format_two c.args.bytes.now c.requires) (known c.args.bytes.now c.requires) (edition-is) no

pub returns : goal.returns
returns c =
    let fields_are : c.unpack.new.values ≡ fields_in edition_two c.args.bytes.now = unfold fields_in widths io_bits in c.unpack.ensures in
    let record_is : c.record_of-state.result ≡ record_of (fields_in edition_two c.args.bytes.now) = c.record_of-state.ensures ∙ ap (λ (f : List ℕ). record_of f) (fields_are) in
    let sound-is : is_sound (record_of (fields_in edition_two c.args.bytes.now)) ≡ c.is_possible.result = sym (c.is_possible.ensures ∙ ap (λ (r : Record). is_sound r) (record_is)) in
    let edition-is : eqb (get_or (fields_in edition_two c.args.bytes.now) 0 0) 2 ≡ true = rw (← fields_are) (eq-eqb _ 2 c.if-f-ne-EDITION.false) in
    let last = two_sound c.args.bytes.now (rw (← fields_are) c.if-f-ne0.false) in
    let yes = last ∙ sound-is ∙ c.if-not-is_possible.false in
    load_loaded c.args.bytes.now edition_two (format_two c.args.bytes.now c.requires) (known c.args.bytes.now c.requires) (edition-is) yes refl _ (record_is)
