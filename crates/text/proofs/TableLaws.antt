-- Tables of numbers: one that is given, by a test computed over it, and one that is filled from the front. Assumes nothing.
use Prim.Native.Nat.{ℕ, ◌+◌, ◌%◌, ◌≤◌, ◌<◌}
use mathlib.Core.Path.{◌≡◌, refl, ◌∙◌, ap}
use mathlib.Core.Bool.{Bool, true, false}
use mathlib.Core.List.{List}
use native.Mathlib.Nat.{mod-eq_of_lt, not-suc-le-zero}
use native.Mathlib.Omega.{arith}
use lib.ListN.{length, get_or, set, length-set}
use lib.Seq.{get_or-set_same, get_or-set_other}
use lib.Arith.{lt_of_le-ne}
use lib.Dec.{eqb, leb}
use borrow.Author.Tests.{eqb-true, eqb-false, leb-true}
use Rattle.text.proofs.Truth.{all_below, below}

-- A test computed over n entries gives the rule at each, ..
pub numbers_rule : (rule : ℕ → ℕ) (t : List ℕ) (n : ℕ) → all_below (λ k. eqb (get_or t k 0) (rule k)) n ≡ true → (k : ℕ) → k < n → get_or t k 0 ≡ rule k
numbers_rule rule t n e k h = eqb-true _ _ (below (λ k. eqb (get_or t k 0) (rule k)) n e k h)

-- .. or a bound of each.
pub most_rule : (entry : ℕ → ℕ) (most n : ℕ) → all_below (λ k. leb (entry k) most) n ≡ true → (k : ℕ) → k < n → entry k ≤ most
most_rule entry most n e k h = leb-true _ _ (below (λ k. leb (entry k) most) n e k h)

-- ---- filled from the front

le_of_lt_add-one : {k n : ℕ} → k < n + 1 → k ≤ n
le_of_lt_add-one h = omega arith

-- One entry more: x at n.
pub filled_more : (rule : ℕ → ℕ) (t : List ℕ) (n x : ℕ) → n < length t → x ≡ rule n → ((k : ℕ) → k < n → get_or t k 0 ≡ rule k)
    → (k : ℕ) → k < n + 1 → get_or (set t n x) k 0 ≡ rule k
filled_more rule t n x room e before k h = go (eqb k n) refl
  where
    go : (same : Bool) → eqb k n ≡ same → get_or (set t n x) k 0 ≡ rule k
    go true q = rw (eqb-true k n q, get_or-set_same t n x 0 room) e
    go false q = let other = eqb-false k n q in get_or-set_other t n k x 0 other ∙ before k (lt_of_le-ne (le_of_lt_add-one h) other)

-- The first n entries of a table of `size` numbers hold what a rule says; `most` are to be filled.
pub record Filled (rule : ℕ → ℕ) (size most : ℕ) (t : List ℕ) (n : ℕ) : Type 0 where
  pub room : length t ≡ size
  pub within : n ≤ most
  pub entries : (k : ℕ) → k < n → get_or t k 0 ≡ rule k

module _ {rule : ℕ → ℕ} {size most : ℕ} {t : List ℕ} where
  pub none_filled : length t ≡ size → Filled rule size most t 0
  none_filled e = record { room = e; within = omega arith; entries = λ k h. absurd (not-suc-le-zero h) }

  module _ {n : ℕ} (f : Filled rule size most t n) where
    pub one-filled : (x : ℕ) → n < most → most ≤ size → x ≡ rule n → Filled rule size most (set t n x) (n + 1)
    one-filled x h fits e =
        let room = f.room in
        record { room = simp length-set f.room; within = omega arith; entries = filled_more rule t n x (omega arith) e f.entries }

    -- The same where the entry's number is cut to a byte's.
    pub low_filled : (x : ℕ) → n < most → most ≤ size → x ≡ rule (n % most) → Filled rule size most (set t n x) (n + 1)
    low_filled x h fits e = one-filled x h fits (e ∙ ap rule (mod-eq_of_lt h))

    pub all-filled : most ≤ n → (k : ℕ) → k < most → get_or t k 0 ≡ rule k
    all-filled h k below = f.entries k (omega arith)
