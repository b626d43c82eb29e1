-- The definitions computed on document 01's examples.
use Rattle.std.specs.Prelude.{◌≡◌, refl}
use Rattle.text.specs.Bytes.{bytes}
use Rattle.text.specs.Numerals.{digits, digit_count, digit_count_up_to, decimal}
use Rattle.summary.specs.Milliseconds.{milliseconds}
use Rattle.summary.specs.ClosingLines.{line_e, line_n}

-- "64 cycles are 63 ms": 62.5, a half.
half_up : milliseconds 64 ≡ 63
unfolding milliseconds
half_up = refl

-- 2 cycles are 1.95 ms, 100,000 are 97,656.25 ms.
two_cycles : milliseconds 2 ≡ 2
unfolding milliseconds
two_cycles = refl

whole_budget_lem : milliseconds 100000 ≡ 97656
unfolding milliseconds
whole_budget_lem = refl

no_cycle : milliseconds 0 ≡ 0
unfolding milliseconds
no_cycle = refl

-- The last line of the example, one where the budget is spent, and one of a refused file.
example_line : line_e 1 2 ≡ bytes "E 1 2 2\n"
unfolding line_e milliseconds decimal digits digit_count digit_count_up_to
example_line = refl

spent_line : line_e 0 100000 ≡ bytes "E 0 100000 97656\n"
unfolding line_e milliseconds decimal digits digit_count digit_count_up_to
spent_line = refl

refused-line : line_n 9 3 ≡ bytes "N 9 3\n"
unfolding line_n decimal digits digit_count digit_count_up_to
refused-line = refl
