-- A listing that is not refused fits. Assumes nothing.
use Prim.Native.Nat.{ℕ, ◌≤◌}
use mathlib.Core.Path.{◌≡◌, refl, ◌∙◌}
use mathlib.Core.Bool.{Bool, true, false, cond}
use mathlib.Core.List.{List}
use lib.Dec.{eqb}
use borrow.Author.Tests.{eqb-true}
use Rattle.std.specs.Prelude.{Some, None, Result}
use Rattle.memories.specs.Cycles.{outcome_count}
use lib.ListN.{length}
use Rattle.text.specs.declared.Outcome.{Outcome}
use Rattle.lister.specs.declared.ListError.{ListError}
use Rattle.lister.specs.Calls.{listed_outcome, TextListed}
use Rattle.lister.proofs.CallLaws.{count-within}

pub listed-fits : {words out after : List ℕ} {r : Result ℕ ListError} → TextListed words out r after → (t : Outcome) → t ≡ listed_outcome r → (k : ℕ) → Some k ≡ outcome_count t → k ≤ length out
listed-fits {words} {out} listed t says k count = go (eqb t.number 0) refl count
  where
    go : (b : Bool) → eqb t.number 0 ≡ b → Some k ≡ cond b (Some t.count) None → k ≤ length out
    go true e same =
        let is : k ≡ t.count = cc in
        rw is (count-within words (length out) t (says ∙ listed.answer) (eqb-true t.number 0 e))
    go false e same = cc
