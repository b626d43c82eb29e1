-- Which cycles a prefix is valid for.
use Rattle.std.specs.Prelude.{ℕ}
use Rattle.trace.specs.Prefixes.{GivesPrefix}
use Rattle.trace.specs.declared.prefixes.Prefix.{Prefix}

-- It is valid for the cycle c.
abbrev pub ValidFor : ℕ → Prefix → Type 0
ValidFor c prefix = GivesPrefix prefix.base prefix.lowered prefix.count prefix.held prefix.more c
