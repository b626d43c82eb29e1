-- The low bytes of a number put from the last on: the bytes left over after the words. Assumes nothing.
use Prim.Native.Nat.{ℕ, suc, ◌+◌, ◌-◌, ◌*◌, ◌/◌, ◌%◌, ◌^◌, ◌≤◌, ◌<◌}
use mathlib.Core.Path.{◌≡◌, refl, sym, ap, ◌∙◌}
use mathlib.Core.List.{List, [], ◌∷◌}
use native.Mathlib.Nat.{sub_self, sub-zero, div-one}
use native.Mathlib.Omega.{arith}
use lib.ListN.{length, set}
use lib.Pow.{shr-shr}
use Rattle.text.specs.Place.{put}
use Rattle.text.proofs.PutLaws.{put_nil, put_one, length-put, put-before, put_all}
use Rattle.bitpack.specs.Bits.{bits}
use Rattle.bitpack.specs.Packed.{total, bytes_of}
use Rattle.bitpack.proofs.ByteLaws.{eights, total-eights, length-bytes}

-- The last bytes of x stand from place n on; `rest` is x without them.
pub record LastBytes (x : ℕ) (out₀ out : List ℕ) (rest n : ℕ) : Type 0 where
  pub within : n ≤ length out₀
  pub others : rest ≡ x / 2 ^ (8 * (length out₀ - n))
  pub done : out ≡ put out₀ n (bytes_of (length out₀ - n) x)

-- None yet.
pub none-put : (x : ℕ) (out : List ℕ) → LastBytes x out out x (length out)
unfolding bytes_of
none-put x out = record {
  within = omega arith;
  others = rw (sub_self (length out)) (sym (div-one x));
  done = rw (sub_self (length out)) (sym (put_nil out (length out)));
}

module _ {x : ℕ} {out₀ out : List ℕ} {rest n : ℕ} (l : LastBytes x out₀ out rest n) where
  -- One more, the lowest of the others.
  pub one_more : (b : ℕ) → 0 < n → b ≡ rest % 2 ^ 8 → LastBytes x out₀ (set out (n - 1) b) (rest / 2 ^ 8) (n - 1)
  unfolding bytes_of bits
  one_more b some hb =
      let m = length out₀ - n in
      let inside = l.within in
      let count : length out₀ - (n - 1) ≡ suc m = omega arith in
      let after : n - 1 + 1 ≡ n = omega arith in
      let byte : b ≡ x / 2 ^ total (eights m) % 2 ^ 8 = hb ∙ ap (λ (y : ℕ). y % 2 ^ 8) (l.others ∙ ap (λ (t : ℕ). x / 2 ^ t) (sym (total-eights m))) in
      let here : put out₀ (n - 1 + 1) (bytes_of m x) ≡ out = rw after (sym l.done) in
      record {
        within = omega arith;
        others = ap (λ (y : ℕ). y / 2 ^ 8) l.others ∙ shr-shr x (8 * m) 8 ∙ ap (λ (t : ℕ). x / 2 ^ t) (let e : 8 * m + 8 ≡ 8 * (length out₀ - (n - 1)) = omega arith in e);
        done =
            sym (put_one out (n - 1) b)
            ∙ ap (λ (d : List ℕ). put d (n - 1) (b ∷ [])) (sym here)
            ∙ put-before out₀ (n - 1) 1 (b ∷ []) (bytes_of m x) refl
            ∙ ap (put out₀ (n - 1)) (ap (λ (y : ℕ). y ∷ bytes_of m x) byte ∙ ap (λ (k : ℕ). bytes_of k x) (sym count));
      }

  -- There are as many places as before.
  pub same-room : length out ≡ length out₀
  same-room = ap length l.done ∙ length-put out₀ n (bytes_of (length out₀ - n) x)

  -- All are put.
  pub all-put : n ≡ 0 → out ≡ bytes_of (length out₀) x
  all-put e = rw (e, sub-zero (length out₀)) at l.done ∙ put_all out₀ (bytes_of (length out₀) x) (length-bytes (length out₀) x)
