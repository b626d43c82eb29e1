use mathlib.Core.Path.{sym}
use native.Mathlib.Omega.{arith}
use lib.Seq.{length-take-le}
use Rattle.commands.proofs.ListLaws.{listed-fits}
use Rattle.commands.proofs.listing.list_words.Goals as goal

pub slice_bounds-text-end : goal.slice_bounds-text-end
slice_bounds-text-end c = omega (arith, listed-fits c.list.ensures _ c.counted-outcome.ensures _ c.in-Some.ensures, c.list.auto.text)

pub slice_bounds-say-end : goal.slice_bounds-say-end
slice_bounds-say-end c = sym (length-take-le _ _ (omega (arith, listed-fits c.list.ensures _ c.counted-outcome.ensures _ c.in-Some.ensures, c.list.auto.text)))
