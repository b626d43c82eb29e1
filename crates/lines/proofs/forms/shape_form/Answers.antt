use native.Mathlib.Omega.{arith}
use Rattle.text.specs.Bytes.{bytes}
use Rattle.lines.specs.Line.{directive}
use Rattle.lines.proofs.FormLaws.{shape-parts, is_nothing, is-label, is_code, is_labelled, is_word_lem, is_wrong}
use Rattle.lines.proofs.forms.shape_form.Goals as goal

pub returns-then-has_shape-clause-form : goal.returns-then-has_shape-clause-form
returns-then-has_shape-clause-form c = is_nothing c.args.tokens.now.line.now c.has_shape.ensures c.if-has_shape.true

pub returns-then-is_lone_definition : goal.returns-then-is_lone_definition
returns-then-is_lone_definition c = record {
  form = is-label c.args.tokens.now.line.now c.has_shape.ensures c.if-has_shape.false (c.is_lone_definition.ensures directive) c.if-is_lone_definition.true;
  parts = shape-parts c.args.tokens.now.split c.requires directive (bytes ":") (omega arith) (c.is_lone_definition.ensures directive) c.if-is_lone_definition.true;
}

pub returns-then-has_shape-2 : goal.returns-then-has_shape-2
returns-then-has_shape-2 c = record {
  form = is_code c.args.tokens.now.line.now c.has_shape.ensures c.if-has_shape.false (c.is_lone_definition.ensures directive) c.if-is_lone_definition.false c.has_shape-2.ensures
      c.if-has_shape-2.true;
  parts = shape-parts c.args.tokens.now.split c.requires _ _ (omega arith) c.has_shape-2.ensures c.if-has_shape-2.true;
}

pub returns-then-has_shape-3 : goal.returns-then-has_shape-3
returns-then-has_shape-3 c = record {
  form = is_labelled c.args.tokens.now.line.now c.has_shape.ensures c.if-has_shape.false (c.is_lone_definition.ensures directive) c.if-is_lone_definition.false c.has_shape-2.ensures
      c.if-has_shape-2.false c.has_shape-3.ensures c.if-has_shape-3.true;
  parts = shape-parts c.args.tokens.now.split c.requires _ _ (omega arith) c.has_shape-3.ensures c.if-has_shape-3.true;
}

pub returns-then-has_shape-4 : goal.returns-then-has_shape-4
returns-then-has_shape-4 c = record {
  form = is_word_lem c.args.tokens.now.line.now c.has_shape.ensures c.if-has_shape.false (c.is_lone_definition.ensures directive) c.if-is_lone_definition.false c.has_shape-2.ensures
      c.if-has_shape-2.false c.has_shape-3.ensures c.if-has_shape-3.false c.has_shape-4.ensures c.if-has_shape-4.true;
  parts = shape-parts c.args.tokens.now.split c.requires _ _ (omega arith) c.has_shape-4.ensures c.if-has_shape-4.true;
}

pub returns-clause-form : goal.returns-clause-form
returns-clause-form c =
    is_wrong c.args.tokens.now.line.now c.has_shape.ensures c.if-has_shape.false (c.is_lone_definition.ensures directive) c.if-is_lone_definition.false c.has_shape-2.ensures
    c.if-has_shape-2.false c.has_shape-3.ensures c.if-has_shape-3.false c.has_shape-4.ensures c.if-has_shape-4.false
