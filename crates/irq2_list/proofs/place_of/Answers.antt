use native.Mathlib.Omega.{arith}
use lib.Dec.{ltb}
use Rattle.std.proofs.Common.{rules}
use Rattle.std.proofs.lemmas.List.Sorted.{IsPartitionPoint-from_clause}
use Rattle.irq2_list.proofs.PlaceLaws.{rises, parted, between-parted, between_found}
use Rattle.irq2_list.proofs.place_of.Goals as goal

pub returns : goal.returns
returns c =
    let cycles = c.args.cycles.now in
    let place = c.partition_point.ensures in
    between_found
    (between-parted c.args.c _ cycles place.bound
    (IsPartitionPoint-from_clause (λ x. ltb x c.args.c) cycles _ place.partitioned (parted c.args.c cycles (rises cycles c.requires)) (λ a r q k. search rules)))
    (omega arith)
