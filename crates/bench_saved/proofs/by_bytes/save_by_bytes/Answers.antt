-- What the tests passed say.
use Prim.Native.Nat.{ℕ}
use mathlib.Core.Path.{◌≡◌, ◌∙◌, sym, ap}
use mathlib.Core.Bool.{true}
use mathlib.Core.List.{List}
use lib.Dec.{eqb}
use lib.ListN.{length}
use borrow.Author.Tests.{eq-eqb}
use Rattle.isa.specs.Registers.{io_bits}
use Rattle.bitpack.specs.Packed.{fit}
use Rattle.bitpack.specs.Format.{bytes_of_record}
use Rattle.saved.specs.Layout.{widths, fields_of}
use Rattle.saved.specs.Sound.{is_sound}
use Rattle.saved.proofs.SoundTest.{unfit_unsound}
use Rattle.saved.proofs.AnswerLaws.{save_unsound, save_done}
use Rattle.bench_saved.proofs.by_bytes.save_by_bytes.Goals as goal

pub returns-then-not-all_fit_ending_early : goal.returns-then-not-all_fit_ending_early
returns-then-not-all_fit_ending_early c =
    let length-is : eqb (length c.args.bytes.now) 94 ≡ true = eq-eqb _ 94 c.if-bytes-ne-BYTES.false in
    let fit_is : fit widths (fields_of c.args.r) ≡ c.all_fit_ending_early.result = unfold widths io_bits in sym (c.all_fit_ending_early.ensures ∙ ap (λ (f : List ℕ). fit widths f) c.fields-f.ensures) in
    let a = c.args in
    let no = fit_is ∙ c.if-not-all_fit_ending_early.true in
    save_unsound a.r a.bytes.now (length-is) (unfit_unsound a.r no)

pub is_possible-requires : goal.is_possible-requires
is_possible-requires c =
    let fit_is : fit widths (fields_of c.args.r) ≡ c.all_fit_ending_early.result = unfold widths io_bits in sym (c.all_fit_ending_early.ensures ∙ ap (λ (f : List ℕ). fit widths f) c.fields-f.ensures) in
    fit_is ∙ c.if-not-all_fit_ending_early.false

pub returns : goal.returns
unfolding bytes_of_record widths io_bits
returns c =
    let length-is : eqb (length c.args.bytes.now) 94 ≡ true = eq-eqb _ 94 c.if-bytes-ne-BYTES.false in
    let sound-is : is_sound c.args.r ≡ true = sym c.is_possible.ensures ∙ c.if-not-is_possible.false in
    let a = c.args in
    let size = c.if-bytes-ne-BYTES.false in
    save_done a.r a.bytes.now (length-is) (sound-is) _ (c.pack_bytes.ensures ∙ rw (size, c.fields-f.ensures))
