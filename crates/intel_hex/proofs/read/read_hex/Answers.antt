use mathlib.Core.Path.{refl}
use Rattle.std.proofs.lemmas.Result.{err_from_is_err_and}
use Rattle.intel_hex.proofs.AnswerLaws.{hex_refused, wrong_length, was_refused, was_filled}
use Rattle.intel_hex.proofs.read.read_hex.Goals as goal

pub returns-then-memory-size : goal.returns-then-memory-size
returns-then-memory-size c = let a = c.args in wrong_length a.size a.text.now a.memory.now c.if-memory-size.true

pub returns-in_err-read_records : goal.returns-in_err-read_records
returns-in_err-read_records c =
    let a = c.args in
    let p = err_from_is_err_and c.from_residual.result c.from_residual.ensures.1 in
    rw (p.1, p.2) (was_refused a.size a.text.now a.memory.now c.if-memory-size.false _ _ c.in_err-read_records.ensures (hex_refused _))

pub returns : goal.returns
returns c =
    let a = c.args in
    was_filled a.size a.text.now a.memory.now c.if-memory-size.false _ _ c.in_ok-read_records.ensures _ refl c.fill_memory.ensures
