use Rattle.std.proofs.Common.{rules}
use mathlib.Core.Path.{ap}
use Prim.Native.Nat.{◌-◌}
use native.Mathlib.Omega.{arith}
use Rattle.symbols.specs.Keys.{bucket_of}
use Rattle.symbols.proofs.FindLaws.{whole-left, found, one_less, none_left}
use Rattle.symbols.proofs.find.Goals as goal

pub loop-link-init : goal.loop-link-init
loop-link-init c =
    let whole = whole-left c.requires.sound c.args.below c.args.t.now c.requires.below _ (ap bucket_of c.key_of-key.ensures) (omega arith) in
    search rules

pub returns-then-is_entry : goal.returns-then-is_entry
returns-then-is_entry c =
    let a = c.args in
    found a.source.now a.table.now a.below (c.loop-link.link - 1) a.t.now c.is_entry.result c.is_entry.ensures c.if-is_entry.true

pub loop-link-preserved : goal.loop-link-preserved
loop-link-preserved c =
    let l = c.loop-link in
    let some = c.loop-link-test.true in
    one_less c.requires.sound c.args.below c.args.t.now l.invariant (l.link - 1) (omega arith) c.is_entry.result c.is_entry.ensures c.if-is_entry.false

pub returns : goal.returns
returns c = none_left c.requires.sound c.args.below c.args.t.now c.loop-link.invariant c.loop-link-test.false
