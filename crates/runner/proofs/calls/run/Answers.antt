use mathlib.Core.Path.{refl}
use Rattle.runner.specs.Lab.{standing_of}
use Rattle.runner.proofs.RunLaws.{so, run-accepted, outcome-length, outcome-rising, outcome-unsound, run-refused}
use Rattle.runner.specs.declared.RunError.TheVariants as RunError
use Rattle.runner.proofs.calls.run.Goals as goal

pub returns-then-not-are_lengths : goal.returns-then-not-are_lengths
returns-then-not-are_lengths c =
    let a = c.args in
    let lengths = so c.are_lengths.ensures (c.if-not-are_lengths.true) in
    run-refused a.image.now a.irq2.now a.memory.now a.disk.now a.frame.now a.log.now a.state a.budget RunError.WrongLength (outcome-length (standing_of a.image.now a.state a.memory.now a.disk.now a.frame.now) a.irq2.now a.log.now a.budget lengths) refl c.refused.result c.refused.ensures

pub returns-then-not-is_rising : goal.returns-then-not-is_rising
returns-then-not-is_rising c =
    let a = c.args in
    let lengths = so c.are_lengths.ensures (c.if-not-are_lengths.false) in
    let up = so c.is_rising.ensures (c.if-not-is_rising.true) in
    run-refused a.image.now a.irq2.now a.memory.now a.disk.now a.frame.now a.log.now a.state a.budget RunError.NotRising (outcome-rising (standing_of a.image.now a.state a.memory.now a.disk.now a.frame.now) a.irq2.now a.log.now a.budget lengths up) refl c.refused-then-not-is_rising.result c.refused-then-not-is_rising.ensures

pub returns-then-not-is_sound : goal.returns-then-not-is_sound
returns-then-not-is_sound c =
    let a = c.args in
    let lengths = so c.are_lengths.ensures (c.if-not-are_lengths.false) in
    let up = so c.is_rising.ensures (c.if-not-is_rising.false) in
    let sound = so c.is_sound.ensures (c.if-not-is_sound.true) in
    run-refused a.image.now a.irq2.now a.memory.now a.disk.now a.frame.now a.log.now a.state a.budget RunError.Unsound (outcome-unsound (standing_of a.image.now a.state a.memory.now a.disk.now a.frame.now) a.irq2.now a.log.now a.budget lengths up sound) refl c.refused-then-not-is_sound.result c.refused-then-not-is_sound.ensures

pub returns : goal.returns
returns c =
    let a = c.args in
    let lengths = so c.are_lengths.ensures (c.if-not-are_lengths.false) in
    let up = so c.is_rising.ensures (c.if-not-is_rising.false) in
    let sound = so c.is_sound.ensures (c.if-not-is_sound.false) in
    run-accepted (standing_of a.image.now a.state a.memory.now a.disk.now a.frame.now) a.irq2.now a.log.now a.budget lengths up sound _ c.run_sound.ensures
