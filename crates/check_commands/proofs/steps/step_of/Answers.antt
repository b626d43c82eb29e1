use mathlib.Core.Path.{refl}
use native.Mathlib.Omega.{arith}
use borrow.Author.Tests.{ne_eqb}
use Rattle.check_commands.specs.Keys.{step_of}
use Rattle.check_commands.proofs.steps.step_of.Goals as goal

pub returns-in-97 : goal.returns-in-97
unfolding step_of
returns-in-97 c = rw c.in-97.is refl

pub returns-in-108 : goal.returns-in-108
unfolding step_of
returns-in-108 c = rw c.in-108.is refl

pub returns-in-109 : goal.returns-in-109
unfolding step_of
returns-in-109 c = rw c.in-109.is refl

pub returns-in-114 : goal.returns-in-114
unfolding step_of
returns-in-114 c = rw c.in-114.is refl

pub returns-in-111 : goal.returns-in-111
unfolding step_of
returns-in-111 c = rw c.in-111.is refl

pub returns-in-112 : goal.returns-in-112
unfolding step_of
returns-in-112 c = rw c.in-112.is refl

pub returns-in-104 : goal.returns-in-104
unfolding step_of
returns-in-104 c = rw c.in-104.is refl

pub returns-in-101 : goal.returns-in-101
unfolding step_of
returns-in-101 c = rw c.in-101.is refl

pub returns-in_default : goal.returns-in_default
unfolding step_of
returns-in_default c =
    let key = c.args.key in
    rw (ne_eqb key 97 (λ e. omega arith), ne_eqb key 108 (λ e. omega arith), ne_eqb key 109 (λ e. omega arith), ne_eqb key 114 (λ e. omega arith), ne_eqb key 111 (λ e. omega arith), ne_eqb key 112 (λ e. omega arith), ne_eqb key 104 (λ e. omega arith), ne_eqb key 101 (λ e. omega arith)) refl
