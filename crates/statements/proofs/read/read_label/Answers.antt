use Rattle.statements.proofs.ReadLaws.{label-none, label_late, label_early}
use Rattle.statements.proofs.read.read_label.Goals as goal

pub returns-in_default : goal.returns-in_default
returns-in_default c = label-none c.args.labels.now.found c.args.t.now c.requires c.in_default.ensures

pub returns-then-k-lt-MOST_LABELS : goal.returns-then-k-lt-MOST_LABELS
returns-then-k-lt-MOST_LABELS c = label_early c.args.labels.now.found c.args.t.now c.requires c.in-Some.ensures c.if-k-lt-MOST_LABELS.true

pub returns-else-k-lt-MOST_LABELS : goal.returns-else-k-lt-MOST_LABELS
returns-else-k-lt-MOST_LABELS c = label_late c.args.labels.now.found c.args.t.now c.requires c.in-Some.ensures c.if-k-lt-MOST_LABELS.false
