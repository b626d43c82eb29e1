use Prim.Native.Nat.{◌+◌}
use mathlib.Core.Path.{◌≡◌}
use lib.ListN.{length, drop}
use Rattle.text.specs.Place.{put}
use Rattle.lister.specs.Listing.{listing}
use Rattle.lister.proofs.listing.put_lines.Given as goal

abbrev pub invariant-loop-word : goal.invariant-loop-word
invariant-loop-word l = record {
  text : put l.out l.at (listing (drop l.word-index l.words)) ≡ put l.fn.out 0 (listing l.words);
  room : length l.out ≡ length l.fn.out;
  end : l.at + length (listing (drop l.word-index l.words)) ≡ length (listing l.words);
}
