-- Fields that fit: which have at most 32 bits, and the record that they are. Assumes nothing.
use Prim.Native.Nat.{ℕ, zero, suc, ◌+◌, ◌-◌, ◌≤◌, ◌<◌, ◌^◌}
use mathlib.Core.Path.{◌≡◌, sym}
use mathlib.Core.Bool.{true}
use mathlib.Core.List.{List, [], ◌∷◌}
use native.Mathlib.Omega.{arith}
use native.Mathlib.Nat.{lt_of_lt_of_le}
use lib.Dec.{leb}
use lib.ListN.{length, get_or, take, drop, length-drop}
use lib.Seq.{length-take-le, get_or-drop}
use lib.Pow.{pow_mono}
use borrow.Author.Tests.{leb-true}
use Rattle.bitpack.specs.Packed.{fit}
use Rattle.bitpack.specs.Needs.{narrow}
use Rattle.bitpack.proofs.PackLaws.{fit_length, fit_at, narrow_at}
use Rattle.devices.specs.declared.Drive.{Drive}
use Rattle.machine.specs.declared.Record.{Record}
use Rattle.saved.specs.Layout.{record_from}
use Rattle.saved.specs.Parts.{HasRecord}

module _ (ws f : List ℕ) (h : fit ws f ≡ true) where
  at_most_32 : (i : ℕ) → get_or ws i 0 ≤ 32 → get_or f i 0 < 2 ^ 32
  at_most_32 i l = lt_of_lt_of_le (fit_at ws f i h) (pow_mono l)

  pub small-field : (i : ℕ) → leb (get_or ws i 0) 32 ≡ true → get_or f i 0 < 2 ^ 32
  small-field i e = at_most_32 i (leb-true (get_or ws i 0) 32 e)

  -- The record is in fields that fit.
  pub has_record : (n : ℕ) → 5 ≤ n → n + 36 ≤ length ws → narrow 32 (drop n ws) ≡ true
      → leb (get_or ws 1 0) 32 ≡ true → leb (get_or ws 2 0) 32 ≡ true → leb (get_or ws 3 0) 32 ≡ true → HasRecord n f
  has_record n behind room rest a b c =
      let size = fit_length ws f h in
      record {
        behind = behind;
        room = omega arith;
        status = small-field 1 a;
        handler = small-field 2 b;
        pc = small-field 3 c;
        registers = λ k. at_most_32 (n + k) (rw (← get_or-drop n ws k 0) (narrow_at 32 (drop n ws) k rest));
      }

-- A part of fields: its length, and what it holds; past its end 0 is read.
pub part_length : (f : List ℕ) (n m : ℕ) → n + m ≤ length f → m ≡ length (take (n + m - n) (drop n f))
part_length f n m l = let e : n + m - n ≡ m = omega arith in rw e (sym (length-take-le m (drop n f) (simp length-drop (omega arith))))

small-take : (most n : ℕ) (l : List ℕ) → 0 < most → ((k : ℕ) → get_or l k 0 < most) → (k : ℕ) → get_or (take n l) k 0 < most
small-take most zero l h p k = h
small-take most (suc n) [] h p k = h
small-take most (suc n) (x ∷ l) h p zero = p 0
small-take most (suc n) (x ∷ l) h p (suc k) = small-take most n l h (λ j. p (suc j)) k

pub small-part : (f : List ℕ) (n m : ℕ) → ((k : ℕ) → get_or f (n + k) 0 < 2 ^ 32) → (k : ℕ) → get_or (take (n + m - n) (drop n f)) k 0 < 2 ^ 32
small-part f n m small = small-take (2 ^ 32) (n + m - n) (drop n f) (omega arith) (λ k. rw (get_or-drop n f k 0) (small k))

-- The record, field by field.
pub record_is : (n : ℕ) (d : Drive) (f regs io : List ℕ) (status handler pc : ℕ) → status ≡ get_or f 1 0 → handler ≡ get_or f 2 0 → pc ≡ get_or f 3 0
    → regs ≡ take (n + 13 - n) (drop n f) → io ≡ take (n + 13 + 23 - (n + 13)) (drop (n + 13) f)
    → ◌≡◌ {A = Record} (record { core = record { status = status; handler = handler; pc = pc; age = get_or f 4 0; drive = d }; regs = regs; io = io }) (record_from n d f)
record_is n d f regs io status handler pc a b c e g =
    let short : n + 13 - n ≡ 13 = omega arith in
    let long : n + 13 + 23 - (n + 13) ≡ 23 = omega arith in
    rw (a, b, c, e, g, short, long)
