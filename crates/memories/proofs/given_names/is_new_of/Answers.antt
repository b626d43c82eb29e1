use mathlib.Core.Path.{sym, ◌∙◌}
use native.Mathlib.Omega.{arith}
use Rattle.text.specs.Bytes.{bytes}
use Rattle.memories.proofs.NameLaws.{same_after, other_before}
use Rattle.text.proofs.SameLaws.{front-room}
use Rattle.memories.proofs.given_names.is_new_of.Goals as goal

pub slice_bounds-are_same-count : goal.slice_bounds-are_same-count
slice_bounds-are_same-count c = front-room _ c.args.name.now _ c.begins_with.ensures c.if-begins_with.true

pub slice_bounds-are_same-start : goal.slice_bounds-are_same-start
slice_bounds-are_same-start c = let room = front-room _ c.args.name.now _ c.begins_with.ensures c.if-begins_with.true in omega arith

pub returns-then-begins_with : goal.returns-then-begins_with
returns-then-begins_with c = let a = c.args in c.are_same.ensures ∙ same_after a.new.now a.name.now (bytes ".new") (sym c.begins_with.ensures ∙ c.if-begins_with.true)

pub returns : goal.returns
returns c = let a = c.args in other_before a.new.now a.name.now (bytes ".new") (sym c.begins_with.ensures ∙ c.if-begins_with.false)
