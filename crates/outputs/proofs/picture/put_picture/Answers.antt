use native.Mathlib.Omega.{arith}
use Rattle.text.specs.Bytes.{bytes}
use Rattle.outputs.specs.Picture.{picture_of}
use Rattle.outputs.proofs.PieceLaws.{joined, counted, at_front}
use Rattle.outputs.proofs.picture.put_picture.Goals as goal

pub returns : goal.returns
unfolding picture_of
returns c =
    let a = c.args in
    let p = joined a.out.now _ _ 0 _ _ (bytes "P5\n256 256\n255\n") a.frame.now c.put_bytes-at.ensures c.put_bytes.ensures in
    (p.0, at_front a.out.now _ _ _ p, counted a.out.now _ 0 _ _ p.0 (omega (arith, c.put_bytes.ensures.1, c.put_bytes-at.ensures.1, c.requires)))
