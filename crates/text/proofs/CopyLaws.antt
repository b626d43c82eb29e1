-- A list copied number by number to a list as long. Assumes nothing.
use Prim.Native.Nat.{ℕ, ◌+◌, ◌≤◌, ◌<◌}
use mathlib.Core.Path.{◌≡◌}
use mathlib.Core.List.{List}
use native.Mathlib.Omega.{arith}
use lib.ListN.{length, get_or, set, length-set}
use lib.Seq.{ext_get_or}
use Rattle.text.proofs.TableLaws.{filled_more}

-- The first i numbers are copied.
pub record Copying (from to : List ℕ) (i : ℕ) : Type 0 where
  pub room : length to ≡ length from
  pub done : (k : ℕ) → k < i → get_or to k 0 ≡ get_or from k 0

module _ {from to : List ℕ} where
  pub begun : length to ≡ length from → Copying from to 0
  begun e = record { room = e; done = λ k h. absurd (omega arith) }

  module _ {i : ℕ} (p : Copying from to i) where
    pub turned : (x : ℕ) → x ≡ get_or from i 0 → i < length to → Copying from (set to i x) (i + 1)
    turned x e h =
        record {
          room = simp length-set p.room;
          done = filled_more (λ k. get_or from k 0) to i x h e p.done;
        }

    pub finished : length to ≤ i → to ≡ from
    finished h = ext_get_or 0 to from p.room (λ k l. p.done k (omega arith))
