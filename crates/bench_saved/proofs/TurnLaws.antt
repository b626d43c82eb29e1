-- One turn more of a loop of saves, and of one of readings. Assumes nothing.
use Prim.Native.Nat.{ℕ, ◌+◌, ◌≤◌}
use mathlib.Core.Path.{◌≡◌, refl, ap, ◌∙◌}
use mathlib.Core.Bool.{Bool, true, false, cond}
use mathlib.Core.List.{List}
use native.Mathlib.Numerals.{add-one}
use native.Mathlib.Nat.{add-zero, add_assoc}
use native.Mathlib.Omega.{arith}
use lib.Dec.{eqb}
use Rattle.text.specs.declared.Outcome.{Outcome}
use Rattle.machine.specs.declared.Record.{Record}
use Rattle.saved.specs.Calls.{save_outcome, save_bytes, load_outcome, load_record}
use Rattle.bench_saved.specs.Turns.{one, older, saves, saves_done, loads, loads_done}

-- A call counts at most 1.
pub at_most_one : (t : Outcome) (x : ℕ) → x ≡ one t → x ≤ 1
at_most_one t x e = rw e (go (eqb t.number 0))
  where
    go : (b : Bool) → cond b 1 0 ≤ 1
    go true = omega arith
    go false = omega arith

-- ---- saving

-- After k saves of r into the bytes `from`: the record for the next, the bytes, and how many saves were accepted.
pub record Saving (r : Record) (from : List ℕ) (k : ℕ) (s : Record) (bytes : List ℕ) (n : ℕ) : Type 0 where
  pub next : s ≡ older k r
  pub held : bytes ≡ saves r k from
  pub done : n ≡ saves_done r k from
  pub few : n ≤ k

-- Before the first save.
pub begun : (r : Record) (from : List ℕ) → Saving r from 0 r from 0
begun r from = record { next = rw (add-zero r.core.age); held = refl; done = refl; few = omega arith }

-- One save more.
pub turned : {r : Record} {from : List ℕ} {k : ℕ} {s : Record} {bytes : List ℕ} {n : ℕ} → Saving r from k s bytes n
    → (t : Outcome) (x : ℕ) (new : List ℕ) → x ≡ one t → t ≡ save_outcome s bytes → new ≡ save_bytes s bytes
    → Saving r from (k + 1) (older 1 s) new (n + x)
turned {r} {from} {k} {s} {bytes} {n} p t x new ex et en =
    let most = at_most_one t x ex in
    let few = p.few in
    rw (add-one k)
    (record {
      next = ap (older 1) p.next ∙ rw (add_assoc r.core.age k 1, add-one k);
      held = en ∙ rw (p.next, p.held);
      done = rw (p.done, ex, et, p.next, p.held);
      few = omega arith;
    })

-- ---- reading

-- After i readings of the bytes: the record that was read last, and how many readings were accepted.
pub record Reading (bytes : List ℕ) (i : ℕ) (r : Record) (k : ℕ) : Type 0 where
  pub last : r ≡ loads i bytes
  pub done : k ≡ loads_done i bytes
  pub few : k ≤ i

-- One reading more.
pub read : {bytes : List ℕ} {i : ℕ} {r : Record} {k : ℕ} → Reading bytes i r k
    → (t : Outcome) (x : ℕ) (new : Record) → x ≡ one t → t ≡ load_outcome bytes → new ≡ load_record bytes
    → Reading bytes (i + 1) new (k + x)
read {bytes} {i} {r} {k} p t x new ex et en =
    let most = at_most_one t x ex in
    let few = p.few in
    rw (add-one i) (record { last = en; done = rw (p.done, ex, et); few = omega arith })

-- One that is refused.
pub read_none : {bytes : List ℕ} {i : ℕ} {r : Record} {k : ℕ} → Reading bytes i r k
    → (t : Outcome) → eqb t.number 0 ≡ false → (new : Record) → t ≡ load_outcome bytes → new ≡ load_record bytes
    → Reading bytes (i + 1) new k
read_none {bytes} {i} {r} {k} p t bad new et en =
    let none : 0 ≡ one t = rw bad in
    rw (add-zero k) at (read p t 0 new none et en)
