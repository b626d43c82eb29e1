use Rattle.statements.proofs.AskLaws.{asked}
use Rattle.statements.specs.Errors.{question_of}
use Rattle.statements.proofs.ask.ask.Goals as goal

pub returns : goal.returns
returns c = λ before after. asked _ before _ c.args.line.now.form c.args.s c.is_fresh-fresh.result c.is_placed-placed.result c.args.n c.args.m (question_of c.first_no.result) c.args.line.now.formed.is
    c.requires.said after c.is_fresh-fresh.ensures c.is_placed-placed.ensures c.first_no.ensures
