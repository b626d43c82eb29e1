use mathlib.Core.Path.{sym, ◌∙◌}
use native.Mathlib.Omega.{arith}
use borrow.Author.Rules.{rules}
use Prim.Native.Nat.{◌-◌, ◌≤◌}
use lib.ListN.{get_or}
use Rattle.source.specs.Spans.{nowhere}
use Rattle.labels.proofs.LabelPlaces.{label_in}
use Rattle.statements.proofs.AskLaws.{fresh-is}
use Rattle.statements.proofs.ask.is_fresh.Goals as goal

pub overflow_sub-s : goal.overflow_sub-s
overflow_sub-s c =
    let t = c.args.line.now in
    let l = label_in t.tokens.split t.formed (sym c.has_label.ensures ∙ c.if-not-has_label.false) in
    omega (arith, l.order)

pub slice_bounds-find-count : goal.slice_bounds-find-count
slice_bounds-find-count c =
    let t = c.args.line.now in
    let l = label_in t.tokens.split t.formed (sym c.has_label.ensures ∙ c.if-not-has_label.false) in
    omega (arith, l.order)

pub slice_bounds-find-start : goal.slice_bounds-find-start
slice_bounds-find-start c =
    let t = c.args.line.now in
    let l = label_in t.tokens.split t.formed (sym c.has_label.ensures ∙ c.if-not-has_label.false) in
    let o = l.order in
    let s = get_or t.tokens.spans.now 0 nowhere in
    let h : s.start ≤ s.end - 1 = omega arith in
    search (rules, h)

pub returns : goal.returns
returns c =
    let t = c.args.line.now in
    let yes-label = sym c.has_label.ensures ∙ c.if-not-has_label.false in
    let l = label_in t.tokens.split t.formed yes-label in
    rw yes-label (fresh-is t.tokens.line.now c.args.labels.now.found c.requires c.find.result c.find.ensures c.is_none.result c.is_none.ensures l.is)
