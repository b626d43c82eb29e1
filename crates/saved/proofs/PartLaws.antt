-- The parts of the fields: 13 registers, 23 I/O registers, the bits at the end. Assumes nothing.
use Prim.Native.Nat.{ℕ, ◌+◌}
use mathlib.Core.Path.{◌≡◌, ap, ◌∙◌}
use mathlib.Core.List.{List, [], ◌∷◌, ◌++◌}
use native.Mathlib.Omega.{arith}
use lib.ListN.{length, get_or, take, drop, replicate, length-append, length-drop, take-append-drop}
use lib.Seq.{take_at, drop_at, take_all, get_or-drop, get_or-append-add}

-- ---- zeros where the I/O registers and the bits will be

module _ (regs : List ℕ) (h : length regs ≡ 13) where
  pub all_37 : length (regs ++ replicate 24 0) ≡ 37
  all_37 = length-append regs (replicate 24 0) ∙ rw h

  pub rest_23 : length (take 23 (drop 13 (regs ++ replicate 24 0))) ≡ 23
  rest_23 = rw (drop_at regs (replicate 24 0) 13 h)

  -- The I/O registers in their place.
  pub other_io : (new : List ℕ) → take 13 (regs ++ replicate 24 0) ++ (new ++ drop 23 (drop 13 (regs ++ replicate 24 0))) ≡ regs ++ (new ++ (0 ∷ []))
  other_io new = rw (drop_at regs (replicate 24 0) 13 h, take_at regs (replicate 24 0) 13 h)

-- ---- registers, I/O registers and the bits

module _ (regs io : List ℕ) (h : length regs ≡ 13) (k : length io ≡ 23) where
  pub regs_are : take 13 (regs ++ (io ++ (0 ∷ []))) ≡ regs
  regs_are = take_at regs (io ++ (0 ∷ [])) 13 h

  pub io_are : take 23 (drop 13 (regs ++ (io ++ (0 ∷ [])))) ≡ io
  io_are = ap (take 23) (drop_at regs (io ++ (0 ∷ [])) 13 h) ∙ take_at io (0 ∷ []) 23 k

  -- What stands behind the registers.
  pub rest-is : take 24 (drop 13 (regs ++ (io ++ (0 ∷ [])))) ≡ io ++ (0 ∷ [])
  rest-is = let size : length (io ++ (0 ∷ [])) ≡ 24 = length-append io (0 ∷ []) ∙ rw k in ap (take 24) (drop_at regs (io ++ (0 ∷ [])) 13 h) ∙ take_all 24 (io ++ (0 ∷ [])) (omega arith)

  -- The bits are zero.
  pub last-is : get_or (regs ++ (io ++ (0 ∷ []))) 36 0 ≡ 0
  last-is = get_d_after regs (io ++ (0 ∷ [])) 13 23 h ∙ get_d_after io (0 ∷ []) 23 0 k
    where
      get_d_after : (xs ys : List ℕ) (n m : ℕ) → length xs ≡ n → get_or (xs ++ ys) (n + m) 0 ≡ get_or ys m 0
      get_d_after xs ys n m e = rw (← e) (get_or-append-add xs ys m 0)

-- Fields that end with zero are their parts again.
last_one : (l : List ℕ) → length l ≡ 1 → get_or l 0 0 ≡ 0 → l ≡ 0 ∷ []
last_one [] h e = absurd (omega arith)
last_one (x ∷ []) h e = ap (λ (n : ℕ). n ∷ []) e
last_one (x ∷ y ∷ l) h e = absurd (omega arith)

pub parts_again : (l : List ℕ) → length l ≡ 37 → get_or l 36 0 ≡ 0 → take 13 l ++ (take 23 (drop 13 l) ++ (0 ∷ [])) ≡ l
parts_again l h e =
    let last = last_one (drop 23 (drop 13 l)) (simp length-drop (omega arith)) (get_or-drop 23 (drop 13 l) 0 0 ∙ get_or-drop 13 l 23 0 ∙ e) in
    rw (← last, take-append-drop 23 (drop 13 l)) (take-append-drop 13 l)
