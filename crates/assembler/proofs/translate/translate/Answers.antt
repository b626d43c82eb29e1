use Prim.Native.Nat.{◌+◌}
use Rattle.std.specs.Int.{from_bool}
use mathlib.Core.Path.{◌∙◌, ap}
use native.Mathlib.Omega.{arith}
use Rattle.lines.specs.Line.{form_of}
use Rattle.statements.specs.Errors.{question_of}
use Rattle.assembler.proofs.TranslateLaws.{none_translated, after-done, fewer, all_translated, one_bad, code-placed, one_translated, counted_on}
use Rattle.assembler.proofs.translate.translate.Goals as goal

pub loop-p-init : goal.loop-p-init
loop-p-init c = record { done = none_translated _ _ _ c.requires.words c.requires.memory; within = omega arith; few = omega arith }

pub ask-requires-clause-few : goal.ask-requires-clause-few
ask-requires-clause-few c = fewer c.loop-p.invariant.done c.args.labels.now.found

pub returns-in-Err : goal.returns-in-Err
returns-in-Err c =
    let d = c.loop-p.invariant.done in
    let e = c.line_end-e in
    let asks = rw c.line_form-line.ensures at (c.ask.ensures d.done (after-done d)) in
    rw c.at_line.ensures (one_bad d c.loop-p-test.true e.result e.ensures.0 (question_of c.ask.result) asks c.in-Err.error (ap question_of c.in-Err.is))

pub store_code-requires : goal.store_code-requires
store_code-requires c =
    let d = c.loop-p.invariant.done in
    let e = c.line_end-e in
    let l = c.line_form-line in
    let asks = rw l.ensures at (c.ask.ensures d.done (after-done d)) in
    let says = rw l.ensures at c.read_statement-s.ensures in
    λ h. rw d.room
    (code-placed d c.loop-p-test.true e.result e.ensures.0 (question_of c.ask.result) asks (ap question_of c.in_default.is) l.result.form (l.result.formed.is ∙ ap form_of l.ensures)
    c.read_statement-s.result says h)

pub loop-p-preserved : goal.loop-p-preserved
loop-p-preserved c =
    let d = c.loop-p.invariant.done in
    let e = c.line_end-e in
    let l = c.line_form-line in
    let asks = rw l.ensures at (c.ask.ensures d.done (after-done d)) in
    let says = rw l.ensures at c.read_statement-s.ensures in
    let n = c.from-n.ensures ∙ ap from_bool c.has_code.ensures in
    let m = c.from-m.ensures ∙ ap from_bool c.has_label.ensures in
    record {
      done =
          one_translated d c.loop-p-test.true e.result e.ensures.0 (question_of c.ask.result) asks (ap question_of c.in_default.is) l.result.form (l.result.formed.is ∙ ap form_of l.ensures)
          c.read_statement-s.result says _ _ _ _ c.store_code.ensures c.store_data.ensures (counted_on _ c.loop-p.n _ (ap (λ k. c.loop-p.n + k) n)) (counted_on _ c.loop-p.m _ (ap (λ k. c.loop-p.m + k) m));
      within = omega (arith, e.ensures.1);
      few = let h = c.loop-p.invariant.few in omega (arith, e.ensures.0);
    }

pub returns : goal.returns
returns c = all_translated c.loop-p.invariant.done (omega arith)
