use mathlib.Core.Path.{sym}
use native.Mathlib.Omega.{arith}
use lib.ListN.{length}
use borrow.Author.Tests.{le-leb}
use Rattle.lister.specs.Listing.{listing}
use Rattle.lister.proofs.ListingLaws.{listing_most}
use Rattle.lister.proofs.listing.has_room.Goals as goal

pub returns-then-words-room : goal.returns-then-words-room
returns-then-words-room c =
    let a = c.args in
    let most = listing_most a.words.now in
    rw (le-leb _ _ c.if-words-room.true) (sym (le-leb (length (listing a.words.now)) a.room (omega arith)))
