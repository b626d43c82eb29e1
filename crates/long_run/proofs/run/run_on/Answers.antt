use mathlib.Core.Path.{◌≡◌, sym, ◌∙◌}
use mathlib.Core.Bool.{true, false, ◌&&◌}
use native.Mathlib.Omega.{arith}
use Rattle.long_run.specs.Pieces.{is_log_full}
use Rattle.long_run.proofs.PieceLaws.{on_first, on_more, on_last, on_starts, on_over}
use Rattle.long_run.proofs.run.run_on.Goals as goal

pub loop-rt-init : goal.loop-rt-init
loop-rt-init c = on_first c.requires.0

pub returns-then-not-is_sent-is_full : goal.returns-then-not-is_sent-is_full
returns-then-not-is_sent-is_full c =
    let so_far = c.loop-rt.invariant in
    let p = c.run_piece-piece.ensures.piece in
    let o = on_more so_far p in
    let sent = c.send-is_sent.result in
    let full = c.is_log_full-is_full.result in
    let over : (sent && full) ≡ false = c.if-not-is_sent-is_full.true in
    let last : sent ≡ true → is_log_full c.run_piece-piece.result.answer ≡ false = λ e. sym c.is_log_full-is_full.ensures ∙ rw e at over in
    record {
      machine = o.machine;
      within = omega arith;
      sound = o.sound;
      makes = o.makes;
      starts = on_starts so_far p;
      over = λ e. on_over so_far p (last e);
      ends = λ e. on_last so_far p (last e);
    }

pub loop-rt-preserved : goal.loop-rt-preserved
loop-rt-preserved c = on_more c.loop-rt.invariant c.run_piece-piece.ensures.piece
