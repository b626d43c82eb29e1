-- The pieces of a line that are names: their table, and how they are put with more bytes than they have. Assumes nothing.
use Prim.Native.Nat.{ℕ, ◌+◌, ◌-◌, ◌*◌, ◌/◌, ◌^◌, ◌≤◌, ◌<◌}
use mathlib.Core.Path.{◌≡◌, refl, sym, ◌∙◌, ap}
use mathlib.Core.Bool.{true}
use mathlib.Core.List.{List, ◌++◌, append_assoc}
use native.Mathlib.Omega.{arith}
use lib.Dec.{leb}
use lib.ListN.{length, length-append}
use borrow.Author.Tests.{lt-ltb, le-ltb, leb-true}
use Rattle.text.specs.Numerals.{low_bytes}
use Rattle.text.specs.Place.{put}
use Rattle.text.specs.Same.{same}
use Rattle.text.proofs.Truth.{all_below, below}
use Rattle.text.proofs.SameLaws.{table_rule}
use Rattle.text.proofs.PutLaws.{put-append}
use Rattle.text.proofs.PieceLaws.{put-over}
use Rattle.text.proofs.HexWordLaws.{length_low, low_split}
use Rattle.isa.specs.Operations.{operation_name}
use Rattle.isa.specs.Registers.{register_name}
use Rattle.isa.proofs.NameLaws.{no_operation}
use Rattle.lister.specs.Pieces.{operation_piece, register_piece, piece_at, held_length, held_bytes, eight_at, Eights, NamePieces, PutWith}

-- ---- places

pub operation-there : (n : ℕ) → n < 22 → piece_at n ≡ operation_piece n
unfolding piece_at
operation-there n h = rw (lt-ltb n 23 (omega arith))

-- A number that names no operation.
pub none-there : (n : ℕ) → 22 ≤ n → piece_at 22 ≡ operation_piece n
unfolding piece_at operation_name
none-there n h = rw (no_operation n h)

pub register-there : (n : ℕ) → piece_at (23 + n) ≡ register_piece n
unfolding piece_at
register-there n = let place : 23 + n - 23 ≡ n = omega arith in rw (le-ltb (23 + n) 23 (omega arith), place)

-- The longest are `$zero`, `$imm1` and `$imm2` with what stands after them.
pub piece_most : (n : ℕ) → n < 39 → length (piece_at n) ≤ 7
unfolding piece_at operation_name register_name
piece_most n h = leb-true _ _ (below (λ k. leb (length (piece_at k)) 7) 39 refl n h)

-- ---- the table

-- A test computed over the bytes gives the rule of the table made of them.
pub pieces_rule : {s t : List ℕ} → Eights s t → all_below (λ k. same (held_bytes (eight_at s (k * 8))) (piece_at k)) 39 ≡ true → NamePieces t
pieces_rule {s} {t} eights e n h = rw (eights.entry n h) (table_rule (λ k. held_bytes (eight_at s (k * 8))) piece_at 39 e n h)

-- ---- a piece put

-- The number v holds a piece of eight bytes at most.
module _ (v : ℕ) (piece : List ℕ) (p : held_bytes v ≡ piece) where
  pub piece_size : held_length v ≡ length piece
  piece_size = sym (length_low (held_length v) v) ∙ ap length p

  -- All eight bytes are put, and then what stands after the piece, up to the eighth byte at least.
  pub covered : (d e : List ℕ) (at to : ℕ) → length piece ≤ 8 → e ≡ put d at (low_bytes 8 v) → to ≡ at + length piece → PutWith (8 - length piece) d at piece e to
  covered d e at to few q r rest enough =
      let k = held_length v in
      let size = piece_size in
      let more_bytes = low_bytes (8 - k) (v / 256 ^ k) in
      let eight : 8 ≡ k + (8 - k) = omega arith in
      let all : low_bytes 8 v ≡ piece ++ more_bytes = ap (λ (n : ℕ). low_bytes n v) eight ∙ low_split k (8 - k) v ∙ ap (λ (l : List ℕ). l ++ more_bytes) p in
      let short : length more_bytes ≤ length rest = rw length_low (omega arith) in
      rw (q, all, r, put-append d at piece more_bytes, put-over (put d at piece) (at + length piece) more_bytes rest short, ← put-append d at piece rest)

-- A piece put after another is one with it.
pub put_more_lem : (m n : ℕ) (d e f : List ℕ) (at p q : ℕ) (xs ys : List ℕ) → PutWith m d at xs e p → PutWith n e p ys f q → m ≤ length ys + n
    → PutWith n d at (xs ++ ys) f q
put_more_lem m n d e f at p q xs ys first second h rest enough =
    second rest enough ∙ first (ys ++ rest) (simp length-append (omega arith)) ∙ ap (put d at) (sym (append_assoc xs ys rest))
