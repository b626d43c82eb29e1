use native.Mathlib.Omega.{arith}
use lib.ListN.{length-set}
use Rattle.console.proofs.ReadLaws.{within}
use Rattle.console.proofs.LineLaws.{line-put}
use Rattle.console.proofs.refusal.put_refusal.Goals as goal

pub returns : goal.returns
returns c =
    let a = c.args in
    let first = c.put_bytes-colon_at.ensures in
    let second = c.put_bytes-place_at.ensures in
    let third = c.put_place-number_at.ensures in
    let fourth = c.put_counted-words_at.ensures in
    let fifth = c.put_sentence-end.ensures in
    let is-put = line-put a.file.now a.number a.place _ _ _ _ _ a.out.now _ _ _ _ _ first.1 second.1 third.1 fourth.1 fifth.1 first.0 second.0 third.0 fourth.0 fifth.0 in (
      is-put.0,
      is-put.1,
      within _ _
          (rw length-set
          (omega (arith, first.1, second.1, third.2, fourth.2, fifth.2, c.put_sentence-end.auto.out, c.put_counted-words_at.auto.out, c.put_place-number_at.auto.out, c.put_bytes-place_at.auto.out, c.put_bytes-colon_at.auto.out))),
    )
