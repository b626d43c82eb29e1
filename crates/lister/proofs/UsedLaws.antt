-- Words counted from the last. Assumes nothing.
use Prim.Native.Nat.{ℕ, zero, suc, ◌-◌, ◌%◌, ◌^◌, ◌≤◌, ◌<◌}
use mathlib.Core.Path.{◌≡◌, refl, sym, ◌∙◌, ap}
use mathlib.Core.Bool.{Bool, true, false}
use mathlib.Core.List.{List, [], ◌∷◌}
use native.Mathlib.Nat.{lt_of_not-le}
use native.Mathlib.Omega.{arith}
use lib.Dec.{eqb}
use lib.ListN.{length, get_or, length-map}
use borrow.Author.Tests.{eqb-true, eqb-false}
use Rattle.files.specs.MemoryFile.{low48, SameImage}
use Rattle.lister.specs.Used.{IsZero, Used}

-- All words from n on are zero in their low 48 bits.
pub record ZeroFrom (words : List ℕ) (n : ℕ) : Type 0 where
  pub within : n ≤ length words
  pub rest : (i : ℕ) → n ≤ i → i < length words → IsZero words i

pub zero-first : (words : List ℕ) → ZeroFrom words (length words)
zero-first words = record { within = omega arith; rest = λ i low high. absurd (omega arith) }

module _ (words : List ℕ) (n : ℕ) (z : ZeroFrom words n) where
  -- The word before them is zero too, ..
  pub zero_more : 0 < n → IsZero words (n - 1) → ZeroFrom words (n - 1)
  zero_more some e = record { within = omega (arith, z.within); rest = λ i low high. go i low high (eqb i (n - 1)) refl }
    where
      go : (i : ℕ) → n - 1 ≤ i → i < length words → (t : Bool) → eqb i (n - 1) ≡ t → IsZero words i
      go i low high true q = ap (λ (k : ℕ). get_or words k 0 % 2 ^ 48) (eqb-true i (n - 1) q) ∙ e
      go i low high false q = z.rest i (omega (arith, eqb-false i (n - 1) q)) high

  -- .. or the last that is used.
  pub used_here : 0 < n → (IsZero words (n - 1) → ⊥) → Used words n
  used_here some other =
      record {
        within = z.within;
        last = λ k e zero. other (ap (λ (i : ℕ). get_or words i 0 % 2 ^ 48) (let same : n - 1 ≡ k = omega arith in same) ∙ zero);
        rest = z.rest;
      }

  -- None is used.
  pub none_used : n ≡ 0 → Used words 0
  none_used e = record { within = omega arith; last = λ k f zero. absurd (omega arith); rest = λ i low high. z.rest i (omega arith) high }

-- ---- one count for one image

low_at : (words : List ℕ) (i : ℕ) → get_or (low48 words) i 0 ≡ get_or words i 0 % 2 ^ 48
low_at [] i = refl
low_at (w ∷ ws) zero = refl
low_at (w ∷ ws) (suc i) = low_at ws i

module _ (a b : List ℕ) (same : SameImage a b) where
  zero_in_both : (i : ℕ) → IsZero a i → IsZero b i
  zero_in_both i e = sym (low_at b i) ∙ ap (λ (l : List ℕ). get_or l i 0) (sym same) ∙ low_at a i ∙ e

  same_size : length a ≡ length b
  same_size = simp length-map at (ap length same)

  never_more : (m n : ℕ) → Used a m → Used b n → m < n → ⊥
  never_more m zero u v h = omega arith
  never_more m (suc k) u v h =
      let size = same_size in
      v.last k refl (zero_in_both k (u.rest k (omega arith) (omega (arith, v.within))))

-- Of two images that are the same, as many words are used.
pub used_alike : (a b : List ℕ) → SameImage a b → (m n : ℕ) → Used a m → Used b n → m ≡ n
used_alike a b same m n u v =
    let low : m < suc n = lt_of_not-le {n = suc n} (never_more b a (sym same) n m v u) in
    let high : n < suc m = lt_of_not-le {n = suc m} (never_more a b same m n u v) in
    omega arith
