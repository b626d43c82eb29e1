-- The disk and the part were asked.
use mathlib.Core.Path.{◌≡◌, sym, ◌∙◌}
use mathlib.Core.Bool.{true}
use native.Mathlib.Omega.{arith}
use lib.ListN.{length}
use Rattle.files.specs.Sizes.{is_disk_part}
use Rattle.files.proofs.SizeLaws.{length_part}
use Rattle.files.proofs.AnswerLaws.{wrong_length, no_room, wrote}
use Rattle.files.proofs.write.write_disk.Goals as goal

pub returns-then-not-is_part_of : goal.returns-then-not-is_part_of
returns-then-not-is_part_of c = wrong_length (sym c.is_part_of.ensures ∙ c.if-not-is_part_of.true)

pub returns-then-text-sectors : goal.returns-then-text-sectors
returns-then-text-sectors c =
    let part_yes : is_disk_part (length c.args.disk.now) c.args.first c.args.sectors ≡ true = sym c.is_part_of.ensures ∙ c.if-not-is_part_of.false in
    let a = c.args in
    let yes-part = part_yes in
    no_room yes-part (rw (length_part a.disk.now a.first a.sectors yes-part) (omega arith))

pub returns : goal.returns
returns c =
    let part_yes : is_disk_part (length c.args.disk.now) c.args.first c.args.sectors ≡ true = sym c.is_part_of.ensures ∙ c.if-not-is_part_of.false in
    let a = c.args in
    let h = part_yes in
    let size = length_part a.disk.now a.first a.sectors h in
    let p = c.put_sectors.ensures in
    wrote h (rw size (omega arith)) (p.1 ∙ sym size) p.0
