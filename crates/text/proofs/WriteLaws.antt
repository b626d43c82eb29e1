-- Laws of digits that are written from the last to the first. Assumes nothing.
use Prim.Native.Nat.{ℕ, suc, ◌+◌, ◌-◌, ◌*◌, ◌/◌, ◌%◌, ◌^◌, ◌≤◌, ◌<◌}
use mathlib.Core.Path.{◌≡◌, refl, sym, ◌∙◌, ap}
use mathlib.Core.List.{List}
use native.Mathlib.Nat.{mod-eq_of_lt, add-mul-mod_self_right, add-mul-div_right, div-eq_of_lt, zero-add}
use native.Mathlib.Omega.{arith}
use native.Mathlib.Numerals.{add-one}
use lib.ListN.{length, set, length-set}
use Rattle.text.specs.Numerals.{digit, digits}
use Rattle.text.specs.Place.{put}
use Rattle.text.proofs.PutLaws.{put_nil, put_one, put-before}
use Rattle.text.proofs.DigitLaws.{digit_lt, digits_split, length_digits}

-- k digits of v are written at a place of the list `old`, from the last on: `out` has those that are written, and what is left to write are
-- the `left` digits of `rest`.
pub record Writing (b : ℕ) (old : List ℕ) (at k v : ℕ) (out : List ℕ) (left rest : ℕ) : Type 0 where
  pub is : put out at (digits b left rest) ≡ put old at (digits b k v)
  pub room : length out ≡ length old
  pub within : left ≤ k

pub none_written : {b : ℕ} {old : List ℕ} {at k v : ℕ} → Writing b old at k v old k v
none_written = record { is = refl; room = refl; within = omega arith }

module _ {b : ℕ} {old : List ℕ} {at k v : ℕ} {out : List ℕ} {left rest : ℕ} (w : Writing b old at k v out left rest) where
  -- The last j of the digits that are left.
  pub last_written : 0 < b → (j : ℕ) → j ≤ left → (e : List ℕ) → length e ≡ length out → e ≡ put out (at + (left - j)) (digits b j (rest % b ^ j))
      → Writing b old at k v e (left - j) (rest / b ^ j)
  last_written some j h e size q =
      let whole : left ≡ left - j + j = omega arith in
      let front = digits b (left - j) (rest / b ^ j) in
      let within = w.within in
      record {
        is = rw (q, put-before out at (left - j) front _ (length_digits b (left - j) (rest / b ^ j)), ← digits_split b some (left - j) j rest, ← whole) w.is;
        room = size ∙ w.room;
        within = omega arith;
      }

  -- The last of them, by a store.
  pub one_written : 1 ≤ left → (x : ℕ) → x ≡ digit (rest % b) → Writing b old at k v (set out (at + (left - 1)) x) (left - 1) (rest / b)
  unfolding digits
  one_written h x e =
      let whole : suc (left - 1) ≡ left = omega arith in
      let front = digits b (left - 1) (rest / b) in
      let within = w.within in
      record {
        is =
            rw (e, ← put_one out (at + (left - 1)) (digit (rest % b)), put-before out at (left - 1) front _ (length_digits b (left - 1) (rest / b)))
            (ap (λ (n : ℕ). put out at (digits b n rest)) whole ∙ w.is);
        room = simp length-set w.room;
        within = omega arith;
      }

  -- One is left, and it is stored; or none.
  pub first-written : left ≡ 1 → (x : ℕ) → x ≡ digit (rest % b) → set out at x ≡ put old at (digits b k v)
  unfolding digits
  first-written q x e = rw (e, ← put_one out at (digit (rest % b))) (ap (λ (n : ℕ). put out at (digits b n rest)) (sym q) ∙ w.is)

  pub all-written : left ≡ 0 → out ≡ put old at (digits b k v)
  unfolding digits
  all-written q = sym (put_nil out at) ∙ ap (λ (n : ℕ). put out at (digits b n rest)) (sym q) ∙ w.is

-- A pair of digits out of the table's entry.
pub write_pair : (out : List ℕ) (at n p : ℕ) → n < 256 → p ≡ digit (n / 16) + digit (n % 16) * 256
    → set (set out at (p % 256)) (at + 1) (p / 256 % 256) ≡ put out at (digits 16 2 n)
unfolding digits put
write_pair out at n p h q =
    let high : n / 16 < 16 = omega arith in
    let low : n % 16 < 16 = omega arith in
    let first = digit_lt (n / 16) high in
    let second = digit_lt (n % 16) low in
    let p0 : p % 256 ≡ digit (n / 16) = ap (λ (x : ℕ). x % 256) q ∙ add-mul-mod_self_right (digit (n / 16)) (digit (n % 16)) 256 ∙ mod-eq_of_lt (omega arith) in
    let p1 : p / 256 ≡ digit (n % 16) = ap (λ (x : ℕ). x / 256) q ∙ add-mul-div_right (digit (n / 16)) (digit (n % 16)) (omega arith) ∙ rw (div-eq_of_lt {n = digit (n / 16)} {m = 256} (omega arith), zero-add) in
    rw (p0, p1, mod-eq_of_lt {n = digit (n % 16)} {m = 256} (omega arith), mod-eq_of_lt high, add-one)

-- Two digits stored one by one.
pub write_two : (b : ℕ) (out : List ℕ) (at n x y : ℕ) → n / b < b → x ≡ digit (n / b) → y ≡ digit (n % b) → set (set out at x) (at + 1) y ≡ put out at (digits b 2 n)
unfolding digits put
write_two b out at n x y h p q = rw (p, q, mod-eq_of_lt h, add-one)
