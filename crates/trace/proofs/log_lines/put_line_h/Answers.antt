use Rattle.std.proofs.Common.{arith}
use Rattle.text.specs.Bytes.{bytes}
use Rattle.trace.proofs.LengthLaws.{length-H}
use Rattle.trace.proofs.LineLaws.{line_h_put}
use Rattle.trace.proofs.log_lines.put_line_h.Goals as goal

pub put_cycle-access_at-requires : goal.put_cycle-access_at-requires
put_cycle-access_at-requires c =
    let room = rw length-H at c.requires.0 in (omega (arith, room), c.requires.1)

pub put_bytes-name_at-requires : goal.put_bytes-name_at-requires
put_bytes-name_at-requires c =
    let room = rw c.in-Read.is at (rw length-H at c.requires.0) in
    omega (arith, room, c.put_cycle-access_at.ensures.0)

pub put_named_digits-requires : goal.put_named_digits-requires
put_named_digits-requires c =
    let room = rw c.in-Read.is at (rw length-H at c.requires.0) in
    omega (arith, room, c.put_cycle-access_at.ensures.0, c.put_bytes-name_at.ensures.1)

pub put_bytes-name_at-requires-in-Write : goal.put_bytes-name_at-requires-in-Write
put_bytes-name_at-requires-in-Write c =
    let room = rw c.in-Write.is at (rw length-H at c.requires.0) in
    omega (arith, room, c.put_cycle-access_at.ensures.0)

pub put_named_digits-requires-in-Write : goal.put_named_digits-requires-in-Write
put_named_digits-requires-in-Write c =
    let room = rw c.in-Write.is at (rw length-H at c.requires.0) in
    omega (arith, room, c.put_cycle-access_at.ensures.0, c.put_bytes-name_at-in-Write.ensures.1)

pub returns-in-Read : goal.returns-in-Read
returns-in-Read c =
    let a = c.args in
    let cycle = c.put_cycle-access_at.ensures in
    let access = c.put_bytes-name_at.ensures in
    let value = c.put_named_digits.ensures in
    rw c.in-Read.is
    (line_h_put a.c a.n a.x a.at _ _ (bytes "READ") a.out.now _ _ _ (omega (arith, access.1)) cycle.1 access.0 (rw c.hex_word-held.ensures at value.0), rw length-H (omega (arith, cycle.0, access.1, value.1)))

pub returns-in-Write : goal.returns-in-Write
returns-in-Write c =
    let a = c.args in
    let cycle = c.put_cycle-access_at.ensures in
    let access = c.put_bytes-name_at-in-Write.ensures in
    let value = c.put_named_digits-in-Write.ensures in
    rw c.in-Write.is
    (line_h_put a.c a.n a.x a.at _ _ (bytes "WRITE") a.out.now _ _ _ (omega (arith, access.1)) cycle.1 access.0 (rw c.hex_word-held.ensures at value.0), rw length-H (omega (arith, cycle.0, access.1, value.1)))
