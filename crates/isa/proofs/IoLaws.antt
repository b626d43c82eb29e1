-- Laws of the I/O registers' table: numbers that are not listed, and the low bits of a register's width. Assumes nothing.
use Rattle.std.proofs.Common.{◌≡◌, ℕ, ◌%◌, ◌^◌, ◌<◌, ◌≤◌, Bool, true, false, ltb, [], length, sym, refl, ap, ◌∙◌, mod-eq_of_lt, arith, ltb-false, ltb-true}
use mathlib.Core.Bool.{false≢true}
use lib.ListN.{get_or-eq_default}
use Rattle.text.proofs.TableLaws.{most_rule}
use Rattle.isa.specs.Registers.{io_registers, not_listed, IoRegister, io_name, io_bits, is_listed}

pub no_bits-above : (n : ℕ) → 23 ≤ n → io_bits n ≡ 0
unfolding io_bits
no_bits-above n h = ap (λ (r : IoRegister). r.bits) (get_or-eq_default io_registers not_listed h)

pub no_name-above : (n : ℕ) → 23 ≤ n → io_name n ≡ []
unfolding io_name
no_name-above n h = ap (λ (r : IoRegister). r.name) (get_or-eq_default io_registers not_listed h)

-- The low bits of a register's width: so many, all of a word, or none.
pub low_same : (n x bits : ℕ) → bits ≡ io_bits n → x % 2 ^ bits ≡ x % 2 ^ io_bits n
low_same n x bits e = ap (λ (b : ℕ). x % 2 ^ b) e

pub low_word : (n x : ℕ) → x < 2 ^ 32 → 32 ≡ io_bits n → x ≡ x % 2 ^ io_bits n
low_word n x h e = sym (mod-eq_of_lt h) ∙ low_same n x 32 e

pub low_none : (n x : ℕ) → 0 ≡ io_bits n → 0 ≡ x % 2 ^ io_bits n
low_none n x e = rw (← e) (omega arith)

-- A number that is listed is below 23.
pub listed_lt : (n : ℕ) → is_listed n ≡ true → n < 23
listed_lt n e = go (ltb n 23) refl
  where
    go : (t : Bool) → ltb n 23 ≡ t → n < 23
    go true q = ltb-true n 23 q
    go false q = absurd (false≢true (sym (ap (λ (b : ℕ). ltb 0 b) (no_bits-above n (ltb-false n 23 q))) ∙ e))

-- The longest name is `timercurrent`.
pub name-length : (n : ℕ) → length (io_name n) ≤ 12
unfolding io_name
name-length n = go (ltb n 23) refl
  where
    go : (t : Bool) → ltb n 23 ≡ t → length (io_name n) ≤ 12
    go true e = most_rule (λ k. length (io_name k)) 12 23 refl n (ltb-true n 23 e)
    go false e = rw (no_name-above n (ltb-false n 23 e)) (omega arith)
