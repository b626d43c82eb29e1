-- The lines of a text, taken together and one by one. Assumes nothing.
use Prim.Native.Nat.{ℕ, suc, ◌+◌}
use mathlib.Core.Path.{◌≡◌, refl, sym, ◌∙◌, ap}
use mathlib.Core.Bool.{Bool, true, false, cond, ◌&&◌, false≢true}
use mathlib.Core.List.{List, [], ◌∷◌, ◌++◌}
use native.Mathlib.Omega.{arith}
use native.Mathlib.Nat.{add-zero, zero-add}
use lib.ListN.{length, get_or}
use Rattle.text.specs.Same.{same}
use Rattle.source.specs.Lookup.{is_among, place_of}
use Rattle.lines.specs.Line.{form_of, is_right, has_label, has_code, label_of}
use Rattle.labels.specs.Text.{code_count, labels, are_right, lines_before, value_of, label_values}

-- ---- two lists of lines

pub labels_append : (a b : List (List ℕ)) → labels (a ++ b) ≡ labels a ++ labels b
unfolding labels
labels_append [] b = refl
labels_append (l ∷ a) b = go (has_label (form_of l)) (labels_append a b)
  where
    go : (h : Bool) → labels (a ++ b) ≡ labels a ++ labels b → cond h (label_of l ∷ labels (a ++ b)) (labels (a ++ b)) ≡ cond h (label_of l ∷ labels a) (labels a) ++ labels b
    go true e = ap (λ (x : List (List ℕ)). label_of l ∷ x) e
    go false e = e

pub code-append : (a b : List (List ℕ)) → code_count (a ++ b) ≡ code_count a + code_count b
unfolding code_count
code-append [] b = omega arith
code-append (l ∷ a) b = go (has_code (form_of l)) (code-append a b)
  where
    go : (h : Bool) → code_count (a ++ b) ≡ code_count a + code_count b → cond h (suc (code_count (a ++ b))) (code_count (a ++ b)) ≡ cond h (suc (code_count a)) (code_count a) + code_count b
    go true e = omega arith
    go false e = e

pub values_append : (n : ℕ) (a b : List (List ℕ)) → label_values n (a ++ b) ≡ label_values n a ++ label_values (n + code_count a) b
unfolding label_values code_count
values_append n [] b = rw add-zero
values_append n (l ∷ a) b = go (has_label (form_of l)) (has_code (form_of l)) (λ m. values_append m a b)
  where
    count : (h : Bool) → cond h (n + 1) n + code_count a ≡ n + cond h (suc (code_count a)) (code_count a)
    count true = omega arith
    count false = refl

    go : (g h : Bool) → ((m : ℕ) → label_values m (a ++ b) ≡ label_values m a ++ label_values (m + code_count a) b)
        → cond g (n ∷ label_values (cond h (n + 1) n) (a ++ b)) (label_values (cond h (n + 1) n) (a ++ b))
        ≡ cond g (n ∷ label_values (cond h (n + 1) n) a) (label_values (cond h (n + 1) n) a) ++ label_values (n + cond h (suc (code_count a)) (code_count a)) b
    go true h more = ap (λ (x : List ℕ). n ∷ x) (more (cond h (n + 1) n) ∙ ap (λ (k : ℕ). label_values (cond h (n + 1) n) a ++ label_values k b) (count h))
    go false h more = more (cond h (n + 1) n) ∙ ap (λ (k : ℕ). label_values (cond h (n + 1) n) a ++ label_values k b) (count h)

pub right-append : (a b : List (List ℕ)) → are_right (a ++ b) ≡ (are_right a && are_right b)
unfolding are_right
right-append [] b = refl
right-append (l ∷ a) b = go (is_right (form_of l)) (right-append a b)
  where
    go : (r : Bool) → are_right (a ++ b) ≡ (are_right a && are_right b) → (r && are_right (a ++ b)) ≡ (r && are_right a && are_right b)
    go true e = e
    go false e = refl

-- ---- how many

-- There are as many values as labels.
pub length_values : (n : ℕ) (ls : List (List ℕ)) → length (label_values n ls) ≡ length (labels ls)
unfolding label_values labels
length_values n [] = refl
length_values n (l ∷ ls) = go (has_label (form_of l)) (has_code (form_of l)) (λ m. length_values m ls)
  where
    go : (g h : Bool) → ((m : ℕ) → length (label_values m ls) ≡ length (labels ls)) → length (cond g (n ∷ label_values (cond h (n + 1) n) ls) (label_values (cond h (n + 1) n) ls)) ≡ length (cond g (label_of l ∷ labels ls) (labels ls))
    go true h more = ap suc (more (cond h (n + 1) n))
    go false h more = more (cond h (n + 1) n)

-- ---- the value of a label

-- It is the one at its place, where so many instructions stand before these lines, ..
value-from : (n : ℕ) (ls : List (List ℕ)) (t : List ℕ) → is_among (labels ls) t ≡ true → n + code_count (lines_before ls t) ≡ get_or (label_values n ls) (place_of (labels ls) t) 0
unfolding lines_before label_values labels place_of is_among code_count
value-from n [] t e = absurd (false≢true e)
value-from n (l ∷ ls) t e = go (has_label (form_of l)) (has_code (form_of l)) refl (same t (label_of l)) refl e (λ m. value-from m ls t)
  where
    later : (h : Bool) → has_code (form_of l) ≡ h → ((m : ℕ) → m + code_count (lines_before ls t) ≡ get_or (label_values m ls) (place_of (labels ls) t) 0)
        → n + cond (has_code (form_of l)) (suc (code_count (lines_before ls t))) (code_count (lines_before ls t)) ≡ get_or (label_values (cond h (n + 1) n) ls) (place_of (labels ls) t) 0
    later true q more = rw q (omega (arith, more (n + 1)))
    later false q more = rw q (more n)

    go : (g h : Bool) → has_code (form_of l) ≡ h → (s : Bool) → same t (label_of l) ≡ s → is_among (cond g (label_of l ∷ labels ls) (labels ls)) t ≡ true
        → ((m : ℕ) → is_among (labels ls) t ≡ true → m + code_count (lines_before ls t) ≡ get_or (label_values m ls) (place_of (labels ls) t) 0)
        → n + code_count (cond (g && s) [] (l ∷ lines_before ls t))
        ≡ get_or (cond g (n ∷ label_values (cond h (n + 1) n) ls) (label_values (cond h (n + 1) n) ls)) (place_of (cond g (label_of l ∷ labels ls) (labels ls)) t) 0
    go true h q true x e more = rw (x, add-zero)
    go true h q false x e more = rw x (later h q (λ m. more m (rw x at e)))
    go false h q s x e more = later h q (λ m. more m e)

-- .. and so of a text.
pub value-at : (ls : List (List ℕ)) (t : List ℕ) → is_among (labels ls) t ≡ true → value_of ls t ≡ get_or (label_values 0 ls) (place_of (labels ls) t) 0
unfolding value_of
value-at ls t e = sym (zero-add (code_count (lines_before ls t))) ∙ value-from 0 ls t e
