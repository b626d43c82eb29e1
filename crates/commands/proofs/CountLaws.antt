-- Instructions counted line by line. Assumes nothing.
use Prim.Native.Nat.{ℕ, suc, ◌+◌, ◌-◌, ◌≤◌, ◌<◌}
use mathlib.Core.Path.{◌≡◌, ◌∙◌, ap}
use mathlib.Core.Bool.{Bool, true, false, cond}
use mathlib.Core.List.{List, ◌∷◌}
use native.Mathlib.Omega.{arith}
use lib.ListN.{length, take, drop, drop_of_length-le}
use Rattle.text.specs.Lines.{lines, first_line}
use Rattle.text.proofs.LineLaws.{lines_at_lem}
use Rattle.lines.specs.declared.Form.{Form}
use Rattle.lines.specs.Line.{form_of, has_code}
use Rattle.labels.specs.Text.{code_count}

-- One line more.
line_more : (l : List ℕ) (ls : List (List ℕ)) → code_count (l ∷ ls) ≡ cond (has_code (form_of l)) 1 0 + code_count ls
unfolding code_count
line_more l ls = go (has_code (form_of l))
  where
    go : (t : Bool) → cond t (suc (code_count ls)) (code_count ls) ≡ cond t 1 0 + code_count ls
    go true = omega arith
    go false = omega arith

-- A line has one instruction at most.
pub one_at_most : (f : Form) (k : ℕ) → k ≡ cond (has_code f) 1 0 → k ≤ 1
one_at_most f k e = rw e (go (has_code f))
  where
    go : (t : Bool) → cond t 1 0 ≤ 1
    go true = omega arith
    go false = omega arith

-- The line at p, which ends at e, has k instructions; n stand before it.
module _ (text : List ℕ) (p e : ℕ) (h : p < length text) (q : e ≡ p + length (first_line (drop p text))) where
  pub one-counted : (f : Form) → f ≡ form_of (take (e - p) (drop p text)) → (k : ℕ) → k ≡ cond (has_code f) 1 0 → (n : ℕ)
      → n + code_count (lines (drop p text)) ≡ code_count (lines text)
      → n + k + code_count (lines (drop (e + 1) text)) ≡ code_count (lines text)
  one-counted f is k one n all =
      let k-is : k ≡ cond (has_code (form_of (take (e - p) (drop p text)))) 1 0 = one ∙ ap (λ (g : Form). cond (has_code g) 1 0) is in
      let more = ap code_count (lines_at_lem text p e h q) ∙ line_more (take (e - p) (drop p text)) (lines (drop (e + 1) text)) in
      omega arith

-- No line is left.
pub all-counted : (text : List ℕ) (p n : ℕ) → length text ≤ p → n + code_count (lines (drop p text)) ≡ code_count (lines text) → n ≡ code_count (lines text)
unfolding lines code_count
all-counted text p n h all = let none : code_count (lines (drop p text)) ≡ 0 = rw (drop_of_length-le text h) in omega arith
