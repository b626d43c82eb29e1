use mathlib.Core.Path.{sym, ◌∙◌}
use borrow.Author.Rules.{rules}
use Rattle.source.specs.Numbers.{number}
use Rattle.source.proofs.NumberLaws.{prefixed, prefix-fits}
use Rattle.source.proofs.numbers.read_number.Goals as goal

pub slice_bounds-digits_up_to-count : goal.slice_bounds-digits_up_to-count
slice_bounds-digits_up_to-count c = (prefix-fits c.args.t.now c.in-Some.p (sym c.in-Some.is ∙ c.prefix_of.ensures)).room

pub slice_bounds-digits_up_to-start : goal.slice_bounds-digits_up_to-start
slice_bounds-digits_up_to-start c = let room = (prefix-fits c.args.t.now c.in-Some.p (sym c.in-Some.is ∙ c.prefix_of.ensures)).room in search (rules, room)

pub digits_up_to-requires : goal.digits_up_to-requires
digits_up_to-requires c =
    let p = prefix-fits c.args.t.now c.in-Some.p (sym c.in-Some.is ∙ c.prefix_of.ensures) in
    record { base = p.base; room = p.fits; some = p.some }

pub returns-in-Some : goal.returns-in-Some
returns-in-Some c =
    prefixed c.args.t.now c.in-Some.p (sym c.in-Some.is ∙ c.prefix_of.ensures) c.digits_up_to.result c.digits_up_to.ensures c.map.result (search rules)

pub returns-in-None : goal.returns-in-None
unfolding number
returns-in-None c =
    let prefixed = sym c.in-None.is ∙ c.prefix_of.ensures in
    rw (← prefixed) c.read_decimal.ensures
