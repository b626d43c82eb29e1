-- Laws of bytes laid at a place. Assumes nothing.
use Prim.Native.Nat.{ℕ, suc, ◌+◌, ◌-◌, ◌≤◌, ◌<◌}
use mathlib.Core.Path.{◌≡◌, refl, sym, ◌∙◌, ap}
use mathlib.Core.List.{List, [], ◌∷◌, ◌++◌, append_assoc, append-nil}
use native.Mathlib.Nat.{add-zero, add-suc, suc-add, zero-add}
use native.Mathlib.Omega.{arith}
use lib.ListN.{drop_of_length-le, length, take, drop, set}
use lib.Seq.{drop-drop, sets-eq, length-sets, set_comm}
use borrow.Rule.Slice.PartMut.{put_mid, Post-is}
use Rattle.text.specs.Place.{put, Puts}

pub put_nil : (d : List ℕ) (at : ℕ) → put d at [] ≡ d
unfolding put
put_nil d at = refl

-- What has no bytes puts nothing.
pub puts_nothing : (out : List ℕ) (at : ℕ) (xs : List ℕ) → xs ≡ [] → Puts out at xs at out
puts_nothing out at xs e = rw e (sym (put_nil out at), sym (add-zero at))

pub put_one : (d : List ℕ) (at x : ℕ) → put d at (x ∷ []) ≡ set d at x
unfolding put
put_one d at x = refl

pub length-put : (d : List ℕ) (at : ℕ) (xs : List ℕ) → length (put d at xs) ≡ length d
unfolding put
length-put d at xs = length-sets d at xs

-- One piece after another.
pub put-append : (d : List ℕ) (at : ℕ) (xs ys : List ℕ) → put d at (xs ++ ys) ≡ put (put d at xs) (at + length xs) ys
unfolding put
put-append d at [] ys = rw add-zero
put-append d at (x ∷ xs) ys = rw (add-suc, ← suc-add) (put-append (set d at x) (suc at) xs ys)

-- A store before a piece, in either order.
set-put : (d : List ℕ) (i x at : ℕ) (ys : List ℕ) → i < at → set (put d at ys) i x ≡ put (set d i x) at ys
unfolding put
set-put d i x at [] h = refl
set-put d i x at (y ∷ ys) h =
    set-put (set d at y) i x (suc at) ys (omega arith)
    ∙ ap (λ (e : List ℕ). put e (suc at) ys) (set_comm d at i y x (omega arith))

-- A piece laid before another that already lies there: what a writer does that begins at the end.
pub put-before : (d : List ℕ) (at n : ℕ) (xs ys : List ℕ) → length xs ≡ n → put (put d (at + n) ys) at xs ≡ put d at (xs ++ ys)
unfolding put
put-before d at n [] ys e = rw (← e, add-zero)
put-before d at n (x ∷ xs) ys e =
    ap (λ (s : List ℕ). put s (suc at) xs) (set-put d at x (at + n) ys (omega arith))
    ∙ ap (λ (k : ℕ). put (put (set d at x) k ys) (suc at) xs) (ap (λ (k : ℕ). at + k) (sym e) ∙ add-suc at (length xs) ∙ sym (suc-add at (length xs)))
    ∙ put-before (set d at x) (suc at) (length xs) xs ys refl

-- A text laid at the front that has room.
pub put_front : (d xs : List ℕ) → length xs ≤ length d → put d 0 xs ≡ xs ++ drop (length xs) d
unfolding put
put_front d xs h = sets-eq xs d 0 (rw zero-add h) ∙ rw zero-add

-- A text laid over all of a list that is as long.
pub put_all : (d xs : List ℕ) → length xs ≡ length d → put d 0 xs ≡ xs
put_all d xs e =
    let all : length d ≤ length xs = omega arith in
    put_front d xs (omega arith) ∙ rw (drop_of_length-le d all, append-nil xs)

-- A part of a list that is lent and comes back as other numbers, as many.
pub put-part : (d ys : List ℕ) (at n : ℕ) → length ys ≡ n → at + n ≤ length d → put_mid at (at + n - at) d ys ≡ put d at ys
unfolding put
put-part d ys at n e h =
    ap (λ (z : List ℕ). take at d ++ (ys ++ z)) (Post-is at (at + n) d (omega arith)) ∙ rw (← e, ← append_assoc) (sym (sets-eq ys d at (omega arith)))

-- A part of a list replaced by as many numbers is these put at its place.
pub put_part : (d xs ys : List ℕ) (at : ℕ) → at + length xs ≤ length d → ys ≡ xs → put_mid at (at + length xs - at) d ys ≡ put d at xs
unfolding put
put_part d xs ys at h e =
    let size : at + length xs - at ≡ length xs = omega arith in
    rw (e, size, sets-eq xs d at h, drop-drop, append_assoc)
