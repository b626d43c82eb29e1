use mathlib.Core.Path.{◌≡◌, refl, sym, ◌∙◌, ap}
use native.Mathlib.Omega.{arith}
use lib.Dec.{eqb}
use denote.Enum.Bare.{sameb}
use Rattle.intel_hex.specs.contracts.record.Kind.{the_type}
use Rattle.intel_hex.specs.declared.record.Kind.{Kind}
use Rattle.intel_hex.specs.Steps.{kind_byte}
use Rattle.std.proofs.lemmas.Result.{err_from_is_err_and}
use Rattle.text.specs.declared.Outcome.{Outcome}
use Rattle.intel_hex.specs.Reading.{record_lines}
use Rattle.intel_hex.proofs.AnswerLaws.{hex_refused}
use Rattle.intel_hex.proofs.OutcomeLaws.{told_is}
use Rattle.intel_hex.proofs.TurnLaws.{told_past, turn_none, turn-within, turn_stop, turn_next}
use Rattle.intel_hex.proofs.read.read_records.Goals as goal

pub loop-at-init : goal.loop-at-init
loop-at-init c = let a = c.args in
    record { told = sym (told_is a.room (record_lines a.text.now)); bytes = refl; size = c.requires; counted = omega arith; within = omega arith }

pub returns-in_default : goal.returns-in_default
returns-in_default c =
    let l = c.loop-at in
    let found = c.in_default.ensures in
    record {
      answer = turn_none c.args.text.now l.at c.loop-at-test.true l.bytes _ found c.args.room l.free l.i ∙ l.invariant.told;
      same_length = found.same_length ∙ l.invariant.size ∙ sym c.requires;
      bytes = λ z. absurd (omega arith);
    }

pub overflow_add-next : goal.overflow_add-next
overflow_add-next c =
    let l = c.loop-at in
    omega (arith, turn-within c.args.text.now l.at c.loop-at-test.true l.bytes _ _ c.in-Some.ensures c.args.room l.free l.i)

pub overflow_add-next-in-loop-at : goal.overflow_add-next-in-loop-at
overflow_add-next-in-loop-at c =
    let l = c.loop-at in
    omega (arith, turn-within c.args.text.now l.at c.loop-at-test.true l.bytes _ _ c.in-Some.ensures c.args.room l.free l.i)

pub returns-in_err-ask : goal.returns-in_err-ask
returns-in_err-ask c =
    let l = c.loop-at in
    let p = err_from_is_err_and c.from_residual.result c.from_residual.ensures.1 in
    let e = c.in_err-ask.field-0.0 in
    let ask = c.in_err-ask.ensures in
    let found = c.in-Some.ensures in
    let no = hex_refused e in
    let t = turn_stop c.args.text.now l.at c.loop-at-test.true l.bytes _ _ found c.args.room l.free l.i (rw (← ask, no)) in
    rw (p.1, p.2) (record {
      answer = ask ∙ t.0 ∙ l.invariant.told;
      same_length = found.same_length ∙ l.invariant.size ∙ sym c.requires;
      bytes = λ z. t.1 (sym (ap (λ (o : Outcome). o.number) ask) ∙ z) ∙ l.invariant.bytes;
    })

-- The derived test of a type.
end_byte : (k : Kind) → sameb the_type k Kind.End ≡ eqb (kind_byte k) 1
end_byte Kind.Data = refl
end_byte Kind.End = refl
end_byte Kind.Other = refl

pub returns-then-eq : goal.returns-then-eq
returns-then-eq c =
    let l = c.loop-at in
    let found = c.in-Some.ensures in
    let ask = c.in_ok-ask.ensures in
    let end = sym (end_byte c.in-Some.found.kind) ∙ sym c.if-eq.ensures in
    let t = turn_stop c.args.text.now l.at c.loop-at-test.true l.bytes _ _ found c.args.room l.free l.i (rw (← ask, end)) in
    record {
      answer = ask ∙ t.0 ∙ l.invariant.told;
      same_length = found.same_length ∙ l.invariant.size ∙ sym c.requires;
      bytes = λ z. t.1 (sym (ap (λ (o : Outcome). o.number) ask) ∙ z) ∙ l.invariant.bytes;
    }

pub loop-at-preserved : goal.loop-at-preserved
loop-at-preserved c =
    let l = c.loop-at in
    let found = c.in-Some.ensures in
    let ask = c.in_ok-ask.ensures in
    let other = sym (end_byte c.in-Some.found.kind) ∙ sym c.if-eq.ensures in
    let t = turn_next c.args.text.now l.at c.loop-at-test.true l.bytes _ _ found c.args.room l.free l.i (rw (← ask, other)) _ c.free_after-free.ensures in
    let within = turn-within c.args.text.now l.at c.loop-at-test.true l.bytes _ _ found c.args.room l.free l.i in
    record {
      told = t.0 ∙ l.invariant.told;
      bytes = t.1 ∙ l.invariant.bytes;
      size = found.same_length ∙ l.invariant.size;
      counted = omega arith;
      within = omega arith;
    }

pub returns : goal.returns
returns c =
    let l = c.loop-at in
    record {
      answer = told_past c.args.room l.free l.i c.args.text.now l.at (omega arith) ∙ l.invariant.told;
      same_length = l.invariant.size ∙ sym c.requires;
      bytes = λ z. absurd (omega arith);
    }
