use Prim.Native.Nat.{ℕ}
use mathlib.Core.Path.{ap, sym, ◌∙◌}
use mathlib.Core.List.{List}
use mathlib.Core.Logic.{inl, inr}
use native.Mathlib.Omega.{arith}
use lib.ListN.{length}
use lib.Seq.{length-take-le}
use Rattle.isa.specs.Registers.{io_bits}
use Rattle.bitpack.specs.Packed.{fit}
use Rattle.saved.specs.Layout.{widths, record_of}
use Rattle.simp.proofs.NumberLaws.{put_fields, fields_length, same_record, too_wide}
use Rattle.simp.proofs.numbers.record_of.Goals as goal

pub slice_bounds-copy_from_slice-end : goal.slice_bounds-copy_from_slice-end
slice_bounds-copy_from_slice-end c = sym (length-take-le 38 c.args.numbers.now (omega arith))

pub slice_bounds-all_fit-end-2 : goal.slice_bounds-all_fit-end-2
slice_bounds-all_fit-end-2 c =
    sym (ap (λ (l : List ℕ). length l) (put_fields c.args.numbers.now c.requires _ _ c.copy_from_slice.ensures.after c.copy_from_slice-2.ensures.after) ∙ fields_length c.args.numbers.now c.requires)

pub returns-then-not-all_fit : goal.returns-then-not-all_fit
unfolding widths io_bits
returns-then-not-all_fit c =
    let is = put_fields c.args.numbers.now c.requires _ _ c.copy_from_slice.ensures.after c.copy_from_slice-2.ensures.after in
    inr (c.unsound_record.ensures, too_wide c.args.numbers.now c.requires (ap (λ (f : List ℕ). fit widths f) (sym is) ∙ sym c.all_fit.ensures ∙ c.if-not-all_fit.true))

pub record_of-requires : goal.record_of-requires
unfolding widths io_bits
record_of-requires c = sym c.all_fit.ensures ∙ c.if-not-all_fit.false

pub returns : goal.returns
returns c =
    let is = put_fields c.args.numbers.now c.requires _ _ c.copy_from_slice.ensures.after c.copy_from_slice-2.ensures.after in
    inl (c.record_of.ensures ∙ ap record_of is ∙ same_record c.args.numbers.now c.requires)
