-- A line's tokens compared with a shape, one after the other. Assumes nothing.
use Prim.Native.Nat.{ℕ, suc, ◌+◌, ◌≤◌, ◌<◌}
use mathlib.Core.Path.{◌≡◌, refl, sym, ◌∙◌, ap}
use mathlib.Core.Bool.{Bool, true, false, ◌&&◌}
use mathlib.Core.List.{List, [], ◌∷◌}
use native.Mathlib.Numerals.{add-one}
use native.Mathlib.Omega.{arith}
use lib.Dec.{ltb}
use lib.ListN.{length, get_or, drop, drop_of_length-le}
use lib.Seq.{drop-cons}
use borrow.Author.Tests.{ltb-true, ltb-false}
use Rattle.source.specs.declared.Span.{Span}
use Rattle.source.specs.Tokens.{tokens, texts}
use Rattle.source.specs.Spans.{Split}
use Rattle.source.specs.Shapes.{fits, matches}

-- ---- how many tokens

-- Tokens of another number than its signs don't have a shape.
pub other_number : (directive shape : List ℕ) (ts : List (List ℕ)) → (length shape ≡ length ts → ⊥) → false ≡ matches directive shape ts
unfolding matches
other_number directive [] [] n = absurd (n refl)
other_number directive [] (t ∷ ts) n = refl
other_number directive (g ∷ gs) [] n = refl
other_number directive (g ∷ gs) (t ∷ ts) n = either (fits directive g t) (other_number directive gs ts (λ e. n (ap suc e)))
  where
    either : (b : Bool) → false ≡ matches directive gs ts → false ≡ (b && matches directive gs ts)
    either true e = e
    either false e = refl

module _ {line : List ℕ} {spans : List Span} {n : ℕ} (s : Split line spans n) (shape : List ℕ) (room : length shape < length spans) where
  -- A shape of as many signs as the line was split into has as many as it has tokens, ..
  pub as_many : length shape ≡ n → length (texts (tokens line)) ≡ length shape
  as_many e = s.few (omega arith) ∙ sym e

  -- .. and one of another number has not.
  pub not_as_many : (length shape ≡ n → ⊥) → length shape ≡ length (texts (tokens line)) → ⊥
  not_as_many differ e = go (ltb n (length spans)) refl
    where
      go : (b : Bool) → ltb n (length spans) ≡ b → ⊥
      go true q = differ (e ∙ s.few (ltb-true n (length spans) q))
      go false q = let h = ltb-false n (length spans) q in let more = s.many in let within = s.within in omega arith

-- ---- one sign after the other

-- The first i tokens fit their signs: whether all do is left to the others.
pub record Fitted (directive shape : List ℕ) (ts : List (List ℕ)) (i : ℕ) : Type 0 where
  pub number : length ts ≡ length shape
  pub is : matches directive shape ts ≡ matches directive (drop i shape) (drop i ts)

pub none_fitted : (directive shape : List ℕ) (ts : List (List ℕ)) → length ts ≡ length shape → Fitted directive shape ts 0
none_fitted directive shape ts e = record { number = e; is = refl }

module _ {directive shape : List ℕ} {ts : List (List ℕ)} {i : ℕ} (f : Fitted directive shape ts i) where
  module _ (h : i < length shape) (t : List ℕ) (at : t ≡ get_or ts i []) (r : Bool) (fit : r ≡ fits directive (get_or shape i 0) t) where
    next : matches directive shape ts ≡ (r && matches directive (drop (i + 1) shape) (drop (i + 1) ts))
    unfolding matches
    next = let same = f.number in f.is ∙ rw (drop-cons shape i 0 h, drop-cons ts i [] (omega arith), add-one i, fit, at)

    pub token_unfit : r ≡ false → false ≡ matches directive shape ts
    token_unfit q = sym (next ∙ rw q)

    pub token-fits : r ≡ true → Fitted directive shape ts (i + 1)
    token-fits q = record { number = f.number; is = next ∙ rw q }

  -- All fit.
  pub all_fit : length shape ≤ i → true ≡ matches directive shape ts
  unfolding matches
  all_fit h = let same = f.number in let past : length ts ≤ i = omega arith in sym (f.is ∙ rw (drop_of_length-le shape h, drop_of_length-le ts past))

-- A shape of one sign.
pub one_sign : (directive : List ℕ) (sign : ℕ) (ts : List (List ℕ)) → length ts ≡ 1 → (t : List ℕ) → t ≡ get_or ts 0 [] → (r : Bool) → r ≡ fits directive sign t
    → r ≡ matches directive (sign ∷ []) ts
unfolding matches
one_sign directive sign [] n t at r fit = absurd (omega arith)
one_sign directive sign (u ∷ []) n t at r fit = go r (fit ∙ ap (fits directive sign) at)
  where
    go : (r : Bool) → r ≡ fits directive sign u → r ≡ (fits directive sign u && true)
    go true e = rw (← e)
    go false e = rw (← e)
one_sign directive sign (u ∷ v ∷ us) n t at r fit = absurd (omega arith)
