use Rattle.lines.proofs.FormLaws.{formed_wrong, formed-shape}
use Rattle.lines.proofs.forms.split_form.Goals as goal

pub returns-then-not-are_right_bytes-clause-form : goal.returns-then-not-are_right_bytes-clause-form
returns-then-not-are_right_bytes-clause-form c =
    (formed_wrong c.args.line.now 0 _ c.are_right_bytes.ensures c.if-not-are_right_bytes.true).is

pub returns-clause-form : goal.returns-clause-form
returns-clause-form c =
    let count = c.put_spans-count in
    let shape = c.shape_form in
    (formed-shape c.args.line.now count.result _ c.are_right_bytes.ensures c.if-not-are_right_bytes.false shape.result shape.ensures.form shape.ensures.parts).is
