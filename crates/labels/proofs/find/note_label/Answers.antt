use mathlib.Core.Path.{sym, ◌∙◌}
use mathlib.Core.Bool.{false≢true}
use native.Mathlib.Omega.{arith}
use Rattle.symbols.specs.Table.{names_of}
use Rattle.labels.proofs.LabelPlaces.{label_in, label_of_lem, names_more}
use Rattle.labels.proofs.find.note_label.Goals as goal

pub overflow_sub-p : goal.overflow_sub-p
overflow_sub-p c =
    let t = c.args.line.now in
    let l = label_in t.tokens.split t.formed (sym c.has_label.ensures ∙ c.if-not-has_label.false) in
    omega (arith, l.order)

pub add-requires-clause-order : goal.add-requires-clause-order
add-requires-clause-order c =
    let t = c.args.line.now in
    let l = label_in t.tokens.split t.formed (sym c.has_label.ensures ∙ c.if-not-has_label.false) in
    omega (arith, l.order)

pub add-requires-clause-within : goal.add-requires-clause-within
add-requires-clause-within c =
    let t = c.args.line.now in
    let r = c.requires in
    let l = label_of_lem r.order r.within r.line (label_in t.tokens.split t.formed (sym c.has_label.ensures ∙ c.if-not-has_label.false)) in
    omega (arith, l.within, r.within)

pub returns-clause-label : goal.returns-clause-label
returns-clause-label c =
    let t = c.args.line.now in
    let r = c.requires in
    let yes-label = sym c.has_label.ensures ∙ c.if-not-has_label.false in
    let l = label_of_lem r.order r.within r.line (label_in t.tokens.split t.formed yes-label) in
    let count = c.add.ensures.count in
    let source = c.add.ensures.source in
    let names = rw (source, count) at c.add.ensures.names in
    let a = c.args.names.now in
    record {
      none = λ q. absurd (false≢true (sym q ∙ yes-label));
      some = λ q. (
        count,
        names ∙ names_more (names_of a.source.now a.words.now a.count) _ _ l.is,
        c.note_value.ensures,
        omega (arith, l.order, l.within),
      );
      room = c.add.ensures.room;
    }
