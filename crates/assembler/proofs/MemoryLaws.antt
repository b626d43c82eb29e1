-- What the lines of a text store, taken together and one by one. Assumes nothing.
use Prim.Native.Nat.{ℕ, suc, ◌^◌}
use mathlib.Core.Path.{◌≡◌, refl, ap}
use mathlib.Core.Bool.{Bool, true, false, cond}
use mathlib.Core.List.{List, [], ◌∷◌, ◌++◌}
use lib.ListN.{length, set}
use Rattle.source.specs.Numbers.{number}
use Rattle.lines.specs.Line.{form_of, has_code, has_word, part}
use Rattle.lines.specs.Ranges.{modulo}
use Rattle.labels.specs.Text.{code_count}
use Rattle.statements.specs.Encoding.{encoded}
use Rattle.assembler.specs.Memories.{code_of, stored}

pub words_append : (all a b : List (List ℕ)) → code_of all (a ++ b) ≡ code_of all a ++ code_of all b
unfolding code_of
words_append all [] b = refl
words_append all (l ∷ a) b = go (has_code (form_of l)) (words_append all a b)
  where
    go : (h : Bool) → code_of all (a ++ b) ≡ code_of all a ++ code_of all b → cond h (encoded all l ∷ code_of all (a ++ b)) (code_of all (a ++ b)) ≡ cond h (encoded all l ∷ code_of all a) (code_of all a) ++ code_of all b
    go true e = ap (λ (x : List ℕ). encoded all l ∷ x) e
    go false e = e

pub stored-append : (m : List ℕ) (a b : List (List ℕ)) → stored m (a ++ b) ≡ stored (stored m a) b
unfolding stored
stored-append m [] b = refl
stored-append m (l ∷ a) b = stored-append (cond (has_word (form_of l)) (set m (modulo 4096 (number (part 1 l))) (modulo (2 ^ 32) (number (part 2 l)))) m) a b

-- There are as many words as instructions.
pub length-words : (all ls : List (List ℕ)) → length (code_of all ls) ≡ code_count ls
unfolding code_of code_count
length-words all [] = refl
length-words all (l ∷ ls) = go (has_code (form_of l)) (length-words all ls)
  where
    go : (h : Bool) → length (code_of all ls) ≡ code_count ls → length (cond h (encoded all l ∷ code_of all ls) (code_of all ls)) ≡ cond h (suc (code_count ls)) (code_count ls)
    go true e = ap suc e
    go false e = e
