-- The fields are those of the bytes, and the record is theirs.
use Prim.Native.Nat.{ℕ}
use mathlib.Core.Path.{◌≡◌, refl, sym, ◌∙◌, ap}
use mathlib.Core.Bool.{true, ◌||◌}
use mathlib.Core.List.{List}
use lib.Dec.{eqb}
use lib.ListN.{length, get_or}
use borrow.Author.Tests.{eq-eqb, ne_eqb}
use Rattle.isa.specs.Registers.{io_bits}
use Rattle.bitpack.specs.Packed.{fit}
use Rattle.bitpack.specs.Format.{fields_in}
use Rattle.bitpack.proofs.FormatLaws.{fields_fit}
use Rattle.machine.specs.declared.Record.{Record}
use Rattle.saved.specs.Sound.{is_sound}
use Rattle.saved.specs.Layout.{widths_one, record_one, edition_one}
use Rattle.saved.proofs.TripLaws.{format_one}
use Rattle.saved.proofs.AnswerLaws.{load_edition, load_unsound, load_busy, load_loaded, one-sound, one-busy, one_free}
use Rattle.saved.proofs.loading.load_one.Goals as goal

-- The format is the one of the length.
known : (b : List ℕ) → length b ≡ 91 → (eqb (length b) 91 || eqb (length b) 94) ≡ true
known b size = rw size refl

pub returns-then-f-ne-EDITION_ONE : goal.returns-then-f-ne-EDITION_ONE
returns-then-f-ne-EDITION_ONE c =
    let fields_are : c.unpack.new.values ≡ fields_in edition_one c.args.bytes.now = unfold fields_in widths_one io_bits in c.unpack.ensures in
    load_edition c.args.bytes.now edition_one (format_one c.args.bytes.now c.requires) (known c.args.bytes.now c.requires) (rw (← fields_are) (ne_eqb _ 1 c.if-f-ne-EDITION_ONE.true))

pub record_one-state-requires : goal.record_one-state-requires
record_one-state-requires c =
    let fields_are : c.unpack.new.values ≡ fields_in edition_one c.args.bytes.now = unfold fields_in widths_one io_bits in c.unpack.ensures in
    ap (λ (f : List ℕ). fit widths_one f) (fields_are) ∙ fields_fit edition_one c.args.bytes.now

pub returns-then-not-is_sound : goal.returns-then-not-is_sound
returns-then-not-is_sound c =
    let fields_are : c.unpack.new.values ≡ fields_in edition_one c.args.bytes.now = unfold fields_in widths_one io_bits in c.unpack.ensures in
    let record_is : c.record_one-state.result ≡ record_one (fields_in edition_one c.args.bytes.now) = c.record_one-state.ensures ∙ ap (λ (f : List ℕ). record_one f) (fields_are) in
    let sound-is : is_sound (record_one (fields_in edition_one c.args.bytes.now)) ≡ c.is_sound.result = sym (c.is_sound.ensures ∙ ap (λ (r : Record). is_sound r) (record_is)) in
    let edition-is : eqb (get_or (fields_in edition_one c.args.bytes.now) 0 0) 1 ≡ true = rw (← fields_are) (eq-eqb _ 1 c.if-f-ne-EDITION_ONE.false) in
    let no = one-sound c.args.bytes.now ∙ sound-is ∙ c.if-not-is_sound.true in
    load_unsound c.args.bytes.now edition_one (format_one c.args.bytes.now c.requires) (known c.args.bytes.now c.requires) (edition-is) no

pub returns-then-f-ne0 : goal.returns-then-f-ne0
returns-then-f-ne0 c =
    let fields_are : c.unpack.new.values ≡ fields_in edition_one c.args.bytes.now = unfold fields_in widths_one io_bits in c.unpack.ensures in
    let record_is : c.record_one-state.result ≡ record_one (fields_in edition_one c.args.bytes.now) = c.record_one-state.ensures ∙ ap (λ (f : List ℕ). record_one f) (fields_are) in
    let sound-is : is_sound (record_one (fields_in edition_one c.args.bytes.now)) ≡ c.is_sound.result = sym (c.is_sound.ensures ∙ ap (λ (r : Record). is_sound r) (record_is)) in
    let edition-is : eqb (get_or (fields_in edition_one c.args.bytes.now) 0 0) 1 ≡ true = rw (← fields_are) (eq-eqb _ 1 c.if-f-ne-EDITION_ONE.false) in
    let yes = one-sound c.args.bytes.now ∙ sound-is ∙ c.if-not-is_sound.false in
    load_busy c.args.bytes.now edition_one (format_one c.args.bytes.now c.requires) (known c.args.bytes.now c.requires) (edition-is) yes (one-busy c.args.bytes.now (rw (← fields_are) c.if-f-ne0.true))

pub returns : goal.returns
returns c =
    let fields_are : c.unpack.new.values ≡ fields_in edition_one c.args.bytes.now = unfold fields_in widths_one io_bits in c.unpack.ensures in
    let record_is : c.record_one-state.result ≡ record_one (fields_in edition_one c.args.bytes.now) = c.record_one-state.ensures ∙ ap (λ (f : List ℕ). record_one f) (fields_are) in
    let sound-is : is_sound (record_one (fields_in edition_one c.args.bytes.now)) ≡ c.is_sound.result = sym (c.is_sound.ensures ∙ ap (λ (r : Record). is_sound r) (record_is)) in
    let edition-is : eqb (get_or (fields_in edition_one c.args.bytes.now) 0 0) 1 ≡ true = rw (← fields_are) (eq-eqb _ 1 c.if-f-ne-EDITION_ONE.false) in
    let yes = one-sound c.args.bytes.now ∙ sound-is ∙ c.if-not-is_sound.false in
    load_loaded c.args.bytes.now edition_one (format_one c.args.bytes.now c.requires) (known c.args.bytes.now c.requires) (edition-is) yes (one_free c.args.bytes.now (rw (← fields_are) c.if-f-ne0.false)) _ (record_is)
