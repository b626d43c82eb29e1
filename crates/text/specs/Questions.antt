-- Questions asked in an order: the first that gets a no refuses the call. Document 01 gives the form ("Questions asked"); which questions
-- a call asks stands with the call.
use Rattle.std.specs.Prelude.{ℕ, ◌+◌, Bool, cond, List, [], ◌∷◌, eqb, Result, Ok, Err}
use Rattle.text.specs.declared.Outcome.{Outcome}

-- A question: its number, and whether the answer is yes.
abbrev pub Question : Type 0
Question = ℕ × Bool

-- What a call answers is an `Outcome` (src/lib.rt). Accepted: number 0, place 0 and a count, 0 where the call has none. Refused: "A no gives the
-- number and a place (line from 1, listed word from 0, else 0) .. every count and reason 0" (a run's reason stands with the run).
abbrev pub accepted : ℕ → Outcome
accepted n = record { number = 0; place = 0; count = n }

abbrev pub refused : ℕ → ℕ → Outcome
refused number place = record { number = number; place = place; count = 0 }

-- What a call answers, where each of its errors is the refusal of a question: one that counts, and one that has no count.
abbrev pub counted : {E : Type 0} → (E → Outcome) → Result ℕ E → Outcome
counted refusal (Ok count) = accepted count
counted refusal (Err error) = refusal error

abbrev pub done : {E : Type 0} → (E → Outcome) → Result (Unit {0}) E → Outcome
done refusal (Ok _) = accepted 0
done refusal (Err error) = refusal error

-- The first of the questions that gets a no refuses, with its number and this place; where none does, the outcome is `next`.
abbrev pub first_no : List Question → ℕ → Outcome → Outcome
first_no [] place next = next
first_no (q ∷ qs) place next = cond q.1 (first_no qs place next) (refused q.0 place)

-- "first bad line": the questions are asked of each line in turn. `ask i l` has those of the line l that i lines stand before; its
-- place is i + 1, "line from 1".
unfoldable pub first_bad : (ℕ → List ℕ → List Question) → ℕ → List (List ℕ) → Outcome → Outcome
first_bad ask i [] next = next
first_bad ask i (l ∷ ls) next = first_no (ask i l) (i + 1) (first_bad ask (i + 1) ls next)

-- "lent memory keeps its contents" where the call is refused: the memory after a call that would have set it to `new`.
abbrev pub unless_refused {ℓ} : {A : Type ℓ} → Outcome → A → A → A
unless_refused t new old = cond (eqb t.number 0) new old
