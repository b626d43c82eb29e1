use Rattle.files.proofs.CycleLaws.{are_cycles}
use Rattle.files.proofs.LoadedLaws.{cycles-loaded}
use Rattle.check_examples.proofs.load.load_irq2.Goals as goal

pub returns : goal.returns
returns c =
    let same = rw c.in_default.is at c.load_irq2.ensures in
    let read = c.read_irq2.ensures in
    (are_cycles _ _ _ _ read _ c.counted.ensures, rw same at (cycles-loaded read c.counted.ensures))
