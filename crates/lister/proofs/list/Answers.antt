use mathlib.Core.Path.{sym, ◌∙◌, ap}
use native.Mathlib.Omega.{arith}
use Rattle.lister.specs.Calls.{unknown_told}
use Rattle.lister.proofs.ListingLaws.{told}
use Rattle.lister.proofs.AnswerLaws.{wrong_length, unknown_opcode, no_room, wrote}
use Rattle.lister.proofs.list.Goals as goal

pub returns-then-words-gt-MOST_WORDS : goal.returns-then-words-gt-MOST_WORDS
returns-then-words-gt-MOST_WORDS c = let a = c.args in wrong_length a.words.now a.text.now (omega arith)

pub returns-in-Some : goal.returns-in-Some
returns-in-Some c =
    let a = c.args in
    let bad = sym c.first_unknown.ensures ∙ c.in-Some.is in
    unknown_opcode a.words.now a.text.now (omega arith) c.in-Some.word (λ next. told a.words.now next ∙ ap (λ o. unknown_told o next) bad)

pub returns-then-not-has_room : goal.returns-then-not-has_room
returns-then-not-has_room c =
    let a = c.args in
    let none = sym c.first_unknown.ensures ∙ c.in_default.is in
    no_room a.words.now a.text.now (omega arith) (λ next. told a.words.now next ∙ ap (λ o. unknown_told o next) none) (sym c.has_room.ensures ∙ c.if-not-has_room.true)

pub returns : goal.returns
returns c =
    let a = c.args in
    let none = sym c.first_unknown.ensures ∙ c.in_default.is in
    let room = sym c.has_room.ensures ∙ c.if-not-has_room.false in
    let is-put = c.put_lines.ensures in
    wrote a.words.now a.text.now (omega arith) (λ next. told a.words.now next ∙ ap (λ o. unknown_told o next) none) _ _ room is-put.text is-put.end
