use Rattle.symbols.proofs.TokenLaws.{none_added}
use Rattle.symbols.proofs.add_tokens.Goals as goal

pub loop-s-init : goal.loop-s-init
loop-s-init c =
    let e = c.empty-table.ensures in
    (e.source, rw (e.words, e.count) (none_added c.args.names.now c.args.words.now c.requires.empty))
