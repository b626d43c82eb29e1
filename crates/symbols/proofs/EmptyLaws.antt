-- A table with no entry. Assumes nothing.
use Prim.Native.Nat.{ℕ, ◌+◌, ◌≤◌}
use native.Mathlib.Nat.{not-suc-le-zero}
use native.Mathlib.Omega.{arith}
use mathlib.Core.List.{List}
use lib.ListN.{replicate, length-replicate, get_or-replicate}
use Rattle.symbols.specs.Keys.{buckets}
use Rattle.symbols.specs.Table.{entry_at}
use Rattle.symbols.specs.Sound.{Sound, Empty}

-- It is well made, for any text.
pub empty_sound : (source table : List ℕ) → Empty table → Sound source table 0
empty_sound source table e =
    let room = e.room in
    record {
      room = omega arith;
      entries = λ k h. absurd (not-suc-le-zero h);
      heads = λ b h. rw (e.heads b h) (omega arith);
      recents = λ i h. rw (e.recents i h) (omega arith);
      linked = λ k h. absurd (not-suc-le-zero h);
    }

-- Zeros are one.
pub zeros_empty : (n : ℕ) → entry_at 0 ≤ n → Empty (replicate n 0)
zeros_empty n h =
    record {
      room = rw (length-replicate {A = ℕ} n 0) h;
      heads = λ b l. get_or-replicate {A = ℕ} n b 0 0 (omega arith);
      recents = λ i l. get_or-replicate {A = ℕ} n (buckets + i) 0 0 (omega arith);
    }
