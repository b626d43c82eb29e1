use mathlib.Core.Path.{refl, sym, ◌∙◌}
use native.Mathlib.Omega.{arith}
use Rattle.intel_hex.proofs.RecordLaws.{length_data}
use Rattle.intel_hex.proofs.FoundLaws.{head_good, head_small, head_stop, too_short, no_head, cut_off, nothing_there, not_front, no_end, found_there}
use Rattle.intel_hex.proofs.record.find_record.Goals as goal

pub returns-then-text-lt-SHORTEST : goal.returns-then-text-lt-SHORTEST
returns-then-text-lt-SHORTEST c = let a = c.args in nothing_there a.text.now a.bytes.now _ refl (too_short a.text.now c.if-text-lt-SHORTEST.true)

pub returns-in_err-head : goal.returns-in_err-head
returns-in_err-head c = let a = c.args in rw c.from_residual.ensures (nothing_there a.text.now a.bytes.now _ refl (no_head a.text.now (sym c.in_err-head.ensures.form)))

pub overflow_mul-stop : goal.overflow_mul-stop
overflow_mul-stop c = let small = head_small _ _ c.in_ok-head.ensures in omega arith

pub overflow_add-stop : goal.overflow_add-stop
overflow_add-stop c = let small = head_small _ _ c.in_ok-head.ensures in omega arith

pub returns-then-text-stop : goal.returns-then-text-stop
returns-then-text-stop c = let a = c.args in nothing_there a.text.now a.bytes.now _ refl (cut_off a.text.now _ c.if-text-lt-SHORTEST.false c.in_ok-head.ensures.says.count-is c.if-text-stop.true)

pub put_pairs-data-requires-clause-few : goal.put_pairs-data-requires-clause-few
put_pairs-data-requires-clause-few c =
    let small = head_small _ _ c.in_ok-head.ensures in
    let stop = head_stop c.args.text.now _ c.in_ok-head.ensures c.if-text-lt-SHORTEST.false in
    let size = length_data c.args.text.now _ stop c.if-text-stop.false in
    omega arith

pub put_pairs-data-requires-clause-room : goal.put_pairs-data-requires-clause-room
put_pairs-data-requires-clause-room c =
    let small = head_small _ _ c.in_ok-head.ensures in
    let stop = head_stop c.args.text.now _ c.in_ok-head.ensures c.if-text-lt-SHORTEST.false in
    let size = length_data c.args.text.now _ stop c.if-text-stop.false in
    omega arith

pub overflow_add-head : goal.overflow_add-head
overflow_add-head c =
    let small = head_small _ _ c.in_ok-head.ensures in
    let stop = head_stop c.args.text.now _ c.in_ok-head.ensures c.if-text-lt-SHORTEST.false in
    let size = length_data c.args.text.now _ stop c.if-text-stop.false in
    omega (arith, c.put_pairs-data.ensures.2)

pub overflow_add-head-2 : goal.overflow_add-head-2
overflow_add-head-2 c =
    let small = head_small _ _ c.in_ok-head.ensures in
    let stop = head_stop c.args.text.now _ c.in_ok-head.ensures c.if-text-lt-SHORTEST.false in
    let size = length_data c.args.text.now _ stop c.if-text-stop.false in
    omega (arith, c.put_pairs-data.ensures.2, c.pair_at-last.ensures.2)

pub returns-then-not-data-last : goal.returns-then-not-data-last
returns-then-not-data-last c =
    let s = c.args.text.now in
    let head = c.in_ok-head.ensures in
    let stop = head_stop s _ head c.if-text-lt-SHORTEST.false in
    let front = rw (c.put_pairs-data.ensures.0, c.pair_at-last.ensures.0, head.says.sum_is, c.put_pairs-data.ensures.1, c.pair_at-last.ensures.1) at c.if-not-data-last.true in
    nothing_there s c.args.bytes.now _ c.put_pairs-data.auto.bytes (not_front s _ stop c.if-text-stop.false (head_good s _ head) front)

pub returns-in_err-end : goal.returns-in_err-end
returns-in_err-end c =
    let s = c.args.text.now in
    let head = c.in_ok-head.ensures in
    let stop = head_stop s _ head c.if-text-lt-SHORTEST.false in
    rw c.from_residual-in_err-end.ensures
    (nothing_there s c.args.bytes.now _ c.put_pairs-data.auto.bytes (no_end s _ stop c.if-text-stop.false (head_good s _ head) (sym c.record_end.ensures ∙ c.in_err-end.was)))

pub returns : goal.returns
returns c =
    let s = c.args.text.now in
    let head = c.in_ok-head.ensures in
    let stop = head_stop s _ head c.if-text-lt-SHORTEST.false in
    let front = rw (c.put_pairs-data.ensures.0, c.pair_at-last.ensures.0, head.says.sum_is, c.put_pairs-data.ensures.1, c.pair_at-last.ensures.1) at c.if-not-data-last.false in
    found_there s _ stop c.if-text-stop.false (head_good s _ head) c.args.bytes.now _ _ front (sym c.record_end.ensures ∙ c.in_ok-end.was)
    head.says.count-is head.says.address_is head.says.kind-is c.put_pairs-data.ensures.3
