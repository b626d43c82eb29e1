use Rattle.std.proofs.Common.{refl}
use Rattle.text.proofs.PutLaws.{put_part}
use Rattle.text.proofs.place.put_bytes.Goals as goal

pub returns : goal.returns
returns c = (put_part c.args.out.now c.args.bytes.now _ c.args.at c.requires c.copy_from_slice.ensures.after, refl)
