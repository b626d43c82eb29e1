use Rattle.std.proofs.Common.{ℕ, ◌∙◌, ◌≡◌, ap, arith, rules}
use Rattle.text.specs.Numerals.{digits, decimal}
use Rattle.text.specs.Place.{put}
use Rattle.text.proofs.decimal.put_decimal.Goals as goal
use Rattle.text.proofs.decimal.put_decimal.Goals.{in-Ok, in-Err}

pub returns : goal.returns
unfolding decimal
returns c =
    let a = c.args in
    let all : c.match-try_from.out ≡ put a.out.now a.at (digits 10 c.digit_count-n.result a.v) =
    elim c.match-try_from.branch [ in-Ok w ↦ search rules | in-Err w ↦ search rules ] in
    (all ∙ ap (λ (k : ℕ). put a.out.now a.at (digits 10 k a.v)) c.digit_count-n.ensures.0, omega arith)
