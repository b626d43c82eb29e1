use Rattle.trace.proofs.prefixes.Prefix.update.Goals as goal

pub returns-then-c-self : goal.returns-then-c-self
returns-then-c-self c = let p = c.prefix_of in p.result.valid c.args.c p.ensures.0 p.ensures.1

pub returns-else-self-c : goal.returns-else-self-c
returns-else-self-c c = c.args.self.now.valid c.args.c c.if-c-self.false c.if-self-c.false
