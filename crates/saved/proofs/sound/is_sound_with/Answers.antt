-- The record's arrays: their lengths, and what a register holds.
use Prim.Native.Nat.{ℕ, ◌^◌, ◌<◌}
use mathlib.Core.Path.{◌≡◌, sym, ap, ◌∙◌}
use mathlib.Core.Bool.{Bool, ◌&&◌}
use mathlib.Core.List.{[], List, ◌∷◌, ◌++◌}
use lib.ListN.{length, get_or, take, drop}
use mir.Syntax.{w32}
use mir.Val.{Fits}
use borrow.Author.Rules.{rules}
use Rattle.isa.specs.Registers.{io_bits}
use Rattle.bitpack.specs.Packed.{fit}
use Rattle.saved.specs.Layout.{widths, fields_of}
use Rattle.machine.specs.declared.Record.{Record}
use Rattle.saved.proofs.PartLaws.{rest-is}
use Rattle.saved.proofs.SoundTest.{scalar_widths, scalars_of, io_widths, others_fit, unfit_unsound}
use Rattle.saved.proofs.sound.is_sound_with.Goals as goal

-- The first test is of the scalars, ..
scalars_are : (r : Record) (f : List ℕ) → f ≡ fields_of r → (result : Bool) → result ≡ fit scalar_widths (take 8 f) → fit scalar_widths (scalars_of r.core) ≡ result
unfolding fields_of
scalars_are r f e result is = sym (is ∙ ap (λ (f : List ℕ). fit scalar_widths (take 8 f)) e)

-- .. the second of the I/O registers.
io_are : (r : Record) (f : List ℕ) → f ≡ fields_of r → length r.regs ≡ 13 → length r.io ≡ 23 → (result : Bool) → result ≡ fit (io_widths 5) (take 24 (drop 21 f)) → fit (io_widths 5) (r.io ++ (0 ∷ [])) ≡ result
unfolding fields_of
io_are r f e regs_13 io_23 result is =
    sym (is ∙ ap (λ (f : List ℕ). fit (io_widths 5) (take 24 (drop 21 f))) e ∙ ap (λ (f : List ℕ). fit (io_widths 5) f) (rest-is r.regs r.io regs_13 io_23))

pub returns-then-not-scalars-io : goal.returns-then-not-scalars-io
returns-then-not-scalars-io c =
    let regs_13 : length c.args.r.regs ≡ 13 = search rules in
    let small : (k : ℕ) → get_or c.args.r.regs k 0 < 2 ^ 32 = λ k. let e : Fits w32 (get_or c.args.r.regs k 0) = search rules in e.fits in
    let parts_are : fit widths (fields_of c.args.r) ≡ (fit scalar_widths (scalars_of c.args.r.core) && fit (io_widths 5) (c.args.r.io ++ (0 ∷ []))) = others_fit c.args.r (regs_13) (small) in
    let scalars_are : fit scalar_widths (scalars_of c.args.r.core) ≡ c.all_fit-scalars.result = scalars_are c.args.r c.args.f c.requires c.all_fit-scalars.result c.all_fit-scalars.ensures in
    let io_23 : length c.args.r.io ≡ 23 = search rules in
    let io-is : fit (io_widths 5) (c.args.r.io ++ (0 ∷ [])) ≡ c.all_fit-io.result = io_are c.args.r c.args.f c.requires (regs_13) (io_23) c.all_fit-io.result (unfold io_bits in c.all_fit-io.ensures) in
    let both_are : fit widths (fields_of c.args.r) ≡ (c.all_fit-scalars.result && c.all_fit-io.result) = parts_are ∙ rw (scalars_are, io-is) in
    sym (unfit_unsound c.args.r (both_are ∙ c.if-not-scalars-io.true))

pub is_possible-requires : goal.is_possible-requires
is_possible-requires c =
    let regs_13 : length c.args.r.regs ≡ 13 = search rules in
    let small : (k : ℕ) → get_or c.args.r.regs k 0 < 2 ^ 32 = λ k. let e : Fits w32 (get_or c.args.r.regs k 0) = search rules in e.fits in
    let parts_are : fit widths (fields_of c.args.r) ≡ (fit scalar_widths (scalars_of c.args.r.core) && fit (io_widths 5) (c.args.r.io ++ (0 ∷ []))) = others_fit c.args.r (regs_13) (small) in
    let scalars_are : fit scalar_widths (scalars_of c.args.r.core) ≡ c.all_fit-scalars.result = scalars_are c.args.r c.args.f c.requires c.all_fit-scalars.result c.all_fit-scalars.ensures in
    let io_23 : length c.args.r.io ≡ 23 = search rules in
    let io-is : fit (io_widths 5) (c.args.r.io ++ (0 ∷ [])) ≡ c.all_fit-io.result = io_are c.args.r c.args.f c.requires (regs_13) (io_23) c.all_fit-io.result (unfold io_bits in c.all_fit-io.ensures) in
    let both_are : fit widths (fields_of c.args.r) ≡ (c.all_fit-scalars.result && c.all_fit-io.result) = parts_are ∙ rw (scalars_are, io-is) in
    both_are ∙ c.if-not-scalars-io.false
