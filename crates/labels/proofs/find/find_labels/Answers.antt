use mathlib.Core.Path.{sym, ◌∙◌}
use native.Mathlib.Omega.{arith}
use borrow.Author.Tests.{leb-false}
use Rattle.labels.proofs.FirstPassLaws.{none_noted, one_noted, all_found}
use Rattle.labels.proofs.find.find_labels.Goals as goal

pub loop-p-init : goal.loop-p-init
loop-p-init c =
    let e = c.empty-names.ensures in
    record {
      source = e.source;
      noted = rw (e.words, e.count) (none_noted c.args.source.now c.args.words.now c.args.values.now c.requires.empty (omega arith));
      within = omega arith;
      room = rw e.words;
    }

pub loop-p-preserved : goal.loop-p-preserved
loop-p-preserved c =
    let i = c.loop-p.invariant in
    let e = c.line_end-e in
    let f = c.first_form-first in
    let o = c.note_line-n in
    let label = rw i.source at o.ensures.label in
    let source = o.ensures.source ∙ i.source in
    let sound = rw source at o.new.names.sound in
    record {
      source = source;
      noted = one_noted i.noted c.loop-p-test.true e.result e.ensures.0 f.result f.ensures _ _ _ sound (o.array_long ∙ sym i.noted.noted.room) label o.result o.ensures.code;
      within = omega (arith, e.ensures.1);
      room = o.ensures.label.room ∙ i.room;
    }

pub returns-then-not-has_room : goal.returns-then-not-has_room
returns-then-not-has_room c =
    let full = leb-false _ _ (sym c.has_room.ensures ∙ c.if-not-has_room.true) in
    let few = c.loop-p.invariant.noted.few in
    let room = c.loop-p.invariant.room in
    let source = c.loop-p.invariant.source in
    grind arith

pub invariant_of-result : goal.invariant_of-result
invariant_of-result c =
    let i = c.loop-p.invariant in
    rw i.source (record { found = all_found i.noted (omega arith) })
