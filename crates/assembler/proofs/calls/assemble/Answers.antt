use Rattle.std.proofs.lemmas.Result.{err_from_is_err_and}
use Rattle.assembler.proofs.CallLaws.{wrong_length, right-lengths, line_refused, text-good}
use Rattle.assembler.proofs.calls.assemble.Goals as goal

pub returns-then-not-are_right_lengths : goal.returns-then-not-are_right_lengths
returns-then-not-are_right_lengths c = wrong_length _ _ _ c.are_right_lengths.result c.are_right_lengths.ensures c.if-not-are_right_lengths.true

pub returns-in_err-pass_twice : goal.returns-in_err-pass_twice
returns-in_err-pass_twice c =
    let l = c.are_right_lengths in
    let lengths = right-lengths c.args.source.now c.args.image.now c.args.memory.now l.result l.ensures c.if-not-are_right_lengths.false in
    let p = err_from_is_err_and c.from_residual.result c.from_residual.ensures.1 in
    rw (p.1, p.2)
    (line_refused c.args.source.now c.args.image.now c.args.memory.now lengths.0 lengths.1 lengths.2 _ _ c.in_err-pass_twice.field-0.0 c.in_err-pass_twice.ensures)

pub returns : goal.returns
returns c =
    let l = c.are_right_lengths in
    let lengths = right-lengths c.args.source.now c.args.image.now c.args.memory.now l.result l.ensures c.if-not-are_right_lengths.false in
    text-good c.args.source.now c.args.image.now c.args.memory.now lengths.0 lengths.1 lengths.2 _ _ c.in_ok-pass_twice.ensures _ _ c.copy_from_slice.ensures.after
    c.copy_from_slice-2.ensures.after
