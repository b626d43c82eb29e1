use Rattle.files.proofs.PutLaws.{line-put}
use Rattle.files.proofs.put.put_line.Goals as goal

pub returns : goal.returns
returns c = let a = c.args in
    line-put a.k a.out.now _ a.at a.v c.put_hex.ensures
