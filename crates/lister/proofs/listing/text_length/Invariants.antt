use Prim.Native.Nat.{◌+◌, ◌*◌, ◌≤◌}
use mathlib.Core.Path.{◌≡◌}
use lib.ListN.{length, drop}
use Rattle.lister.specs.Listing.{listing}
use Rattle.lister.proofs.listing.text_length.Given as goal

abbrev pub invariant-loop-word : goal.invariant-loop-word
invariant-loop-word l = (l.total + length (listing (drop l.word-index l.words)) ≡ length (listing l.words)) × (l.total ≤ 46 * l.word-index)
