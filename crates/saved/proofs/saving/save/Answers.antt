-- What the tests passed say.
use mathlib.Core.Path.{◌≡◌, ◌∙◌, sym}
use mathlib.Core.Bool.{true}
use lib.Dec.{eqb}
use lib.ListN.{length}
use borrow.Author.Tests.{eq-eqb}
use Rattle.isa.specs.Registers.{io_bits}
use Rattle.bitpack.specs.Format.{bytes_of_record}
use Rattle.saved.specs.Layout.{widths}
use Rattle.saved.specs.Sound.{is_sound}
use Rattle.saved.proofs.TripLaws.{packs}
use Rattle.saved.proofs.AnswerLaws.{save_done}
use Rattle.saved.proofs.saving.save.Goals as goal

pub pack-requires : goal.pack-requires
unfolding widths io_bits
pack-requires c =
    let sound-is : is_sound c.args.r ≡ true = sym c.is_sound_with.ensures ∙ c.if-not-is_sound_with.false in
    rw c.fields-f.ensures (packs c.args.r (sound-is) _ c.if-bytes-ne-BYTES.false)

pub returns : goal.returns
unfolding bytes_of_record widths io_bits
returns c =
    let length-is : eqb (length c.args.bytes.now) 94 ≡ true = eq-eqb _ 94 c.if-bytes-ne-BYTES.false in
    let sound-is : is_sound c.args.r ≡ true = sym c.is_sound_with.ensures ∙ c.if-not-is_sound_with.false in
    let a = c.args in
    save_done a.r a.bytes.now (length-is) (sound-is) _ (c.pack.ensures ∙ rw (c.if-bytes-ne-BYTES.false, c.fields-f.ensures))
