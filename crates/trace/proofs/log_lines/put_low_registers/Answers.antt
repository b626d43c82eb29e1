use Rattle.text.specs.Numerals.{low_bytes}
use Rattle.text.proofs.HexWordLaws.{length_low}
use Rattle.trace.proofs.LineLaws.{low_registers-put}
use Rattle.trace.proofs.log_lines.put_low_registers.Goals as goal

pub returns : goal.returns
returns c =
    let a = c.args in
    low_registers-put (low_bytes 8 a.first) (low_bytes 8 a.second) a.at a.out.now _ _ _ (length_low 8 a.first)
    c.put_bytes.ensures.0 c.put_eight.ensures c.put_eight-2.ensures
