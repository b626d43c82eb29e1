-- Value i is there, and has few bits.
use Prim.Native.Nat.{◌+◌, ◌-◌, ◌^◌, ◌≤◌, ◌<◌}
use mathlib.Core.Path.{◌≡◌, refl}
use native.Mathlib.Omega.{arith}
use lib.ListN.{length, get_or}
use lib.Pow.{shr_lt}
use borrow.Author.Rules.{rules}
use Rattle.bitpack.proofs.PackLaws.{fit_length, fit_at, narrow_at}
use Rattle.bitpack.proofs.WordLaws.{word-is}
use Rattle.bitpack.proofs.word.make_word.Goals as goal

pub offset_bounds-values-i : goal.offset_bounds-values-i
offset_bounds-values-i c =
    let value_there : c.args.i < length c.args.values.now = rw (fit_length c.args.widths.now c.args.values.now c.requires.fitting) c.requires.there in
    let h = value_there in search rules

pub bounds-values-i : goal.bounds-values-i
bounds-values-i c =
    let value_there : c.args.i < length c.args.values.now = rw (fit_length c.args.widths.now c.args.values.now c.requires.fitting) c.requires.there in
    value_there

pub overflow_shr-values : goal.overflow_shr-values
overflow_shr-values c =
    let most : get_or c.args.widths.now c.args.i 0 ≤ 40 = narrow_at 40 c.args.widths.now c.args.i c.requires.small in
    let m = most in let h = c.requires.within in omega arith

pub append-requires : goal.append-requires
append-requires c =
    let most : get_or c.args.widths.now c.args.i 0 ≤ 40 = narrow_at 40 c.args.widths.now c.args.i c.requires.small in
    let m = most in
    let w = c.from in
    let e = w.ensures in
    let h = c.requires.within in
    let cut : (w.result - c.args.last) + c.args.last ≡ w.result = omega arith in
    let value : get_or c.args.values.now c.args.i 0 < 2 ^ ((w.result - c.args.last) + c.args.last) = rw (cut, e) (fit_at c.args.widths.now c.args.values.now c.args.i c.requires.fitting) in
    (omega arith, shr_lt (w.result - c.args.last) c.args.last value)

pub returns : goal.returns
returns c = word-is c.requires _ _ _ c.from.ensures refl c.append.ensures
