use Rattle.trace.proofs.LineLaws.{low_immediate, high_immediate}
use Rattle.trace.proofs.log_lines.immediate_digits.Goals as goal

pub returns-then-immediate-lt2048 : goal.returns-then-immediate-lt2048
returns-then-immediate-lt2048 c =
    let a = c.args in
    low_immediate a.immediate a.low c.requires.0 c.requires.1.1 c.if-immediate-lt2048.true

pub returns : goal.returns
returns c =
    let a = c.args in
    high_immediate a.immediate a.low c.requires.0 c.requires.1.1 c.if-immediate-lt2048.false
