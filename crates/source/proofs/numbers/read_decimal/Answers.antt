use borrow.Author.Rules.{rules}
use Rattle.text.specs.Bytes.{bytes}
use Rattle.text.proofs.SameLaws.{front-room}
use Rattle.source.proofs.numbers.read_decimal.Goals as goal

pub slice_bounds-digits_up_to-count : goal.slice_bounds-digits_up_to-count
slice_bounds-digits_up_to-count c = front-room c.args.t.now (bytes "-") c.begins_with.result c.begins_with.ensures c.if-begins_with.true

pub slice_bounds-digits_up_to-start : goal.slice_bounds-digits_up_to-start
slice_bounds-digits_up_to-start c =
    let room = front-room c.args.t.now (bytes "-") c.begins_with.result c.begins_with.ensures c.if-begins_with.true in search (rules, room)
