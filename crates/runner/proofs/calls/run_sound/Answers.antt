use Rattle.saved.proofs.SoundTest.{sound_yes}
use Rattle.runner.proofs.calls.run_sound.Goals as goal

pub make_cycles-e-requires-clause-sound : goal.make_cycles-e-requires-clause-sound
make_cycles-e-requires-clause-sound c =
    let p = c.requires in
    rw c.of_record-registers.ensures (sound_yes _ p.0)
