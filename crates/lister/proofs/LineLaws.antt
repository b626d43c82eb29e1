-- The line of a word: its length, and its pieces put one after another. Assumes nothing.
use Prim.Native.Nat.{ℕ, ◌+◌, ◌-◌, ◌≤◌, ◌<◌}
use mathlib.Core.Path.{◌≡◌, refl, ◌∙◌, ap}
use mathlib.Core.Bool.{Bool, true, false}
use mathlib.Core.List.{List, [], ◌∷◌, ◌++◌, append_assoc}
use native.Mathlib.Omega.{arith}
use lib.Dec.{ltb, leb}
use lib.ListN.{length, set, length-append}
use borrow.Author.Tests.{ltb-true, ltb-false, leb-true}
use Rattle.text.specs.Bytes.{bytes}
use Rattle.text.specs.Lines.{LF}
use Rattle.text.specs.Place.{put}
use Rattle.text.proofs.Truth.{below}
use Rattle.isa.specs.declared.Fields.{Fields}
use Rattle.isa.specs.Word.{fields_of, Fitting}
use Rattle.isa.proofs.WordLaws.{decode_fits}
use Rattle.isa.specs.Operations.{operation_name}
use Rattle.isa.specs.Registers.{register_name}
use Rattle.isa.proofs.NameLaws.{no_operation, no_register}
use Rattle.lister.specs.Listing.{signed_decimal, separated, listed_line}
use Rattle.lister.specs.Pieces.{operation_piece, register_piece, register_pieces, PutWith}
use Rattle.text.proofs.PieceLaws.{more, store_after}
use Rattle.lister.proofs.ImmediateLaws.{immediate_most}
use Rattle.lister.proofs.PieceLaws.{put_more_lem}

-- ---- names

-- The longest are `reti` and `halt`.
pub operation_most : (n : ℕ) → length (operation_name n) ≤ 4
unfolding operation_name
operation_most n = go (ltb n 22) refl
  where
    go : (t : Bool) → ltb n 22 ≡ t → length (operation_name n) ≤ 4
    go true e = leb-true _ _ (below (λ k. leb (length (operation_name k)) 4) 22 refl n (ltb-true n 22 e))
    go false e = rw (no_operation n (ltb-false n 22 e)) (omega arith)

-- The longest are `$zero`, `$imm1` and `$imm2`.
pub register_most : (n : ℕ) → length (register_name n) ≤ 5
unfolding register_name
register_most n = go (ltb n 16) refl
  where
    go : (t : Bool) → ltb n 16 ≡ t → length (register_name n) ≤ 5
    go true e = leb-true _ _ (below (λ k. leb (length (register_name k)) 5) 16 refl n (ltb-true n 16 e))
    go false e = rw (no_register n (ltb-false n 16 e)) (omega arith)

-- ---- the length of a line

-- Beside names and immediates a line has a blank, and five commas with a blank each. f: the word's fields, as the code has them.
module _ (w : ℕ) (f : Fields) (e : f ≡ fields_of w) where
  pub fits : Fitting f
  fits = rw e (decode_fits w)

  pub length-line : length (listed_line w)
      ≡ length (operation_name f.op) + length (register_name f.rd) + length (register_name f.rs) + length (register_name f.rt) + length (register_name f.rm)
      + length (signed_decimal f.imm1) + length (signed_decimal f.imm2) + 11
  unfolding listed_line separated
  length-line = rw e (simp length-append (omega arith))

-- 45 bytes at most, so 46 with the LF.
pub line_most : (w : ℕ) → length (listed_line w) ≤ 45
line_most w =
    let f = fields_of w in
    omega (arith, length-line w f refl, operation_most f.op, register_most f.rd, register_most f.rs, register_most f.rt, register_most f.rm, immediate_most f.imm1 (omega arith), immediate_most f.imm2 (omega arith))

-- ---- pieces

pub length-operation : (n : ℕ) → length (operation_piece n) ≡ length (operation_name n) + 1
length-operation n = length-append (operation_name n) (bytes " ")

pub length-register : (n : ℕ) → length (register_piece n) ≡ length (register_name n) + 2
length-register n = length-append (register_name n) (bytes ", ")

pub length-registers : (rd rs rt rm : ℕ)
    → length (register_pieces rd rs rt rm) ≡ length (register_piece rd) + length (register_piece rs) + length (register_piece rt) + length (register_piece rm)
length-registers rd rs rt rm = simp length-append (omega arith)

-- The line of a word, with its LF, in pieces: 8 bytes at least.
pub length_pieces : (w : ℕ) (f : Fields) → f ≡ fields_of w
    → (length (listed_line w) + 1
    ≡ length (operation_piece f.op) + length (register_pieces f.rd f.rs f.rt f.rm) + length (signed_decimal f.imm1) + length (signed_decimal f.imm2) + 3)
    × (8 ≤ length (listed_line w) + 1)
length_pieces w f e =
    let whole = length-line w f e in
    let registers = length-registers f.rd f.rs f.rt f.rm in
    (omega (arith, length-operation f.op, length-register f.rd, length-register f.rs, length-register f.rt, length-register f.rm), omega arith)

-- The shortest is as `$v0, `.
pub register_least : (n : ℕ) → n < 16 → 5 ≤ length (register_piece n)
unfolding register_name
register_least n h = leb-true _ _ (below (λ k. leb 5 (length (register_piece k))) 16 refl n h)

-- The bytes that have to be put after a register fill eight with it: three are enough.
pub register-put : (n : ℕ) (d e : List ℕ) (at to : ℕ) → n < 16 → PutWith (8 - length (register_piece n)) d at (register_piece n) e to → PutWith 3 d at (register_piece n) e to
register-put n d e at to named is-put rest enough = is-put rest (omega (arith, register_least n named))

pub registers-put : (rd rs rt rm at p q r s : ℕ) (d e f g h : List ℕ)
    → PutWith 3 d at (register_piece rd) e p → PutWith 3 e p (register_piece rs) f q → PutWith 3 f q (register_piece rt) g r → PutWith 3 g r (register_piece rm) h s
    → PutWith 3 d at (register_pieces rd rs rt rm) h s
registers-put rd rs rt rm at p q r s d e f g h first second third last =
    put_more_lem 3 3 d g h at r s (register_piece rd ++ register_piece rs ++ register_piece rt) (register_piece rm)
    (put_more_lem 3 3 d f g at q r (register_piece rd ++ register_piece rs) (register_piece rt)
    (put_more_lem 3 3 d e f at p q (register_piece rd) (register_piece rs) first second (omega arith))
    third (omega arith))
    last (omega arith)

abbrev immediate_pieces : ℕ → ℕ → List ℕ
immediate_pieces imm1 imm2 = signed_decimal imm1 ++ bytes ", " ++ signed_decimal imm2 ++ (LF ∷ [])

pub immediates-put : (imm1 imm2 at p q r : ℕ) (d e f g : List ℕ)
    → p ≡ at + length (signed_decimal imm1) → q ≡ p + 2 → r ≡ q + length (signed_decimal imm2)
    → e ≡ put d at (signed_decimal imm1) → f ≡ put e p (bytes ", ") → g ≡ put f q (signed_decimal imm2)
    → set g r LF ≡ put d at (immediate_pieces imm1 imm2)
immediates-put imm1 imm2 at p q r d e f g pe qe re first second third =
    store_after d g at r LF (signed_decimal imm1 ++ bytes ", " ++ signed_decimal imm2) (simp length-append (omega arith))
    (more d f g at q (signed_decimal imm1 ++ bytes ", ") _ (simp length-append (omega arith))
    (more d e f at p (signed_decimal imm1) _ pe first second)
    third)

-- The line in pieces is the line.
regroup : (o b c rd rs rt rm x y l : List ℕ)
    → (o ++ b) ++ (((rd ++ c) ++ (rs ++ c) ++ (rt ++ c) ++ (rm ++ c)) ++ (x ++ c ++ y ++ l))
    ≡ (o ++ (b ++ (rd ++ (c ++ (rs ++ (c ++ (rt ++ (c ++ (rm ++ (c ++ (x ++ (c ++ y)))))))))))) ++ l
regroup o b c rd rs rt rm x y l = simp append_assoc

line-is : (w : ℕ) (f : Fields) → f ≡ fields_of w
    → operation_piece f.op ++ (register_pieces f.rd f.rs f.rt f.rm ++ immediate_pieces f.imm1 f.imm2) ≡ listed_line w ++ (LF ∷ [])
unfolding listed_line separated
line-is w f e =
    rw e
    (let v = fields_of w in
    regroup (operation_name v.op) (bytes " ") (bytes ", ") (register_name v.rd) (register_name v.rs) (register_name v.rt) (register_name v.rm) (signed_decimal v.imm1) (signed_decimal v.imm2) (LF ∷ []))

pub line-put : (w : ℕ) (v : Fields) (at p q : ℕ) (d e f g : List ℕ) → v ≡ fields_of w
    → PutWith (8 - length (operation_piece v.op)) d at (operation_piece v.op) e p
    → PutWith 3 e p (register_pieces v.rd v.rs v.rt v.rm) f q
    → g ≡ put f q (immediate_pieces v.imm1 v.imm2)
    → g ≡ put d at (listed_line w ++ (LF ∷ []))
line-put w v at p q d e f g decoded name registers immediates =
    let last = immediate_pieces v.imm1 v.imm2 in
    immediates
    ∙ registers last (simp length-append (omega arith))
    ∙ name (register_pieces v.rd v.rs v.rt v.rm ++ last) (simp length-append (omega arith))
    ∙ ap (put d at) (line-is w v decoded)
