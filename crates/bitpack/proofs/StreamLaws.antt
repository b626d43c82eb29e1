-- A number's bits go in by one list of widths and come out by another; between the two some are held. Unpacking goes in by bytes and comes out
-- by the widths; packing a byte at a time the other way round. Assumes nothing.
use Prim.Native.Nat.{ℕ, suc, ◌+◌, ◌-◌, ◌*◌, ◌/◌, ◌%◌, ◌^◌, ◌≤◌, ◌<◌}
use mathlib.Core.Path.{◌≡◌, refl, sym, ap, ◌∙◌}
use mathlib.Core.Bool.{Bool, true, false}
use mathlib.Core.List.{List}
use native.Mathlib.Nat.{add_comm, lt_of_lt_of_le, mod-one}
use native.Mathlib.Numerals.{add-one}
use native.Mathlib.Omega.{arith}
use lib.Arith.{digits_lt}
use lib.Dec.{leb, eqb}
use lib.ListN.{length, get_or, drop, set, length-set, drop_of_length-le}
use lib.Pow.{pow-add, pow_mono}
use lib.Seq.{ext_get_or, get_or-set_same, get_or-set_other}
use borrow.Author.Tests.{leb-true, leb-false, eqb-true, eqb-false}
use Rattle.bitpack.specs.Bits.{bits}
use Rattle.bitpack.specs.Packed.{total, unpacked}
use Rattle.bitpack.proofs.BitLaws.{bits_lt, bits_join, bits_high, bits_low}
use Rattle.bitpack.proofs.PackLaws.{length-unpacked, unpacked-at, total-drop}

-- i of the widths ws went in, n of the widths us came out, and `acc` holds the `have` bits of N between.
pub record State (N : ℕ) (ws us : List ℕ) (i n acc have : ℕ) : Type 0 where
  pub went_in : i ≤ length ws
  pub came_out : n ≤ length us
  pub meet : total (drop n us) ≡ have + total (drop i ws)
  pub held : acc ≡ bits N (total (drop i ws)) have

-- The same where what came out is stored.
pub record Loop (N : ℕ) (ws us out : List ℕ) (i n acc have : ℕ) : Type 0 where
  pub state : State N ws us i n acc have
  pub small : have < 64
  pub room : length out ≡ length us
  pub done : (k : ℕ) → k < n → get_or out k 0 ≡ get_or (unpacked us N) k 0

-- Nothing went in yet, and nothing came out.
pub begun : (N : ℕ) (ws us out : List ℕ) → total us ≡ total ws → length out ≡ length us → Loop N ws us out 0 0 0 0
unfolding bits
begun N ws us out e r = record {
  state = record { went_in = omega arith; came_out = omega arith; meet = omega arith; held = sym (mod-one (N / 2 ^ total ws)) };
  small = omega arith;
  room = r;
  done = λ k h. absurd (omega arith);
}

module _ {N : ℕ} {ws us out : List ℕ} {i n acc have : ℕ} (l : Loop N ws us out i n acc have) where
  -- Too few bits are held for the next width: there are more to go in.
  pub has_more : n < length us → have < get_or us n 0 → i < length ws
  has_more inside few = go (leb (suc i) (length ws)) refl
    where
      go : (t : Bool) → leb (suc i) (length ws) ≡ t → i < length ws
      go true e = leb-true (suc i) (length ws) e
      go false e =
          let short = leb-false (suc i) (length ws) e in
          let past : length ws ≤ i = omega arith in
          let none : total (drop i ws) ≡ 0 = ap total (drop_of_length-le ws past) in
          let next = total-drop us n inside in
          let m = l.state.meet in
          absurd (omega arith)

  -- What is held has `have` bits, ..
  held_lt : acc < 2 ^ have
  held_lt = rw l.state.held (bits_lt N (total (drop i ws)) have)

  -- .. so w bits more fit 64.
  pub pull_lt : (w v : ℕ) → have + w ≤ 64 → v < 2 ^ w → acc * 2 ^ w + v < 2 ^ 64
  pull_lt w v h k = lt_of_lt_of_le (rw (pow-add 2 have w) (digits_lt held_lt k)) (pow_mono h)

  -- m widths go in, of w bits together.
  pub pulled_all : (m w v acc' : ℕ) → total (drop i ws) ≡ w + total (drop (i + m) ws) → v ≡ bits N (total (drop (i + m) ws)) w → acc' ≡ acc * 2 ^ w + v
      → i + m ≤ length ws → have + w < 64 → Loop N ws us out (i + m) n acc' (have + w)
  pulled_all m w v acc' next field ha inside fits =
      let s = l.state in
      let rest = total (drop (i + m) ws) in
      let above : total (drop i ws) ≡ rest + w = next ∙ add_comm w rest in
      let high : acc ≡ bits N (rest + w) have = s.held ∙ ap (λ (x : ℕ). bits N x have) above in
      let meet = s.meet in
      record {
        state = record {
          went_in = inside;
          came_out = s.came_out;
          meet = omega arith;
          held = ha ∙ rw (field, high) (bits_join N rest have w);
        };
        small = fits;
        room = l.room;
        done = l.done;
      }

  -- Width i goes in.
  pub pulled : (w v acc' : ℕ) → w ≡ get_or ws i 0 → v ≡ get_or (unpacked ws N) i 0 → acc' ≡ acc * 2 ^ w + v → i < length ws → have + w < 64
      → Loop N ws us out (i + 1) n acc' (have + w)
  pulled w v acc' hw hv ha inside fits =
      pulled_all 1 w v acc' (rw (add-one i, hw) (total-drop ws i inside)) (rw (add-one i, hw) (hv ∙ unpacked-at ws i N)) ha (omega arith) fits

  module _ (u : ℕ) (hu : u ≡ get_or us n 0) (inside : n < length us) (enough : u ≤ have) where
    -- What comes out for width n is its value.
    pub field_is : acc / 2 ^ (have - u) ≡ get_or (unpacked us N) n 0
    field_is =
        let s = l.state in
        let t = total (drop i ws) in
        let next = total-drop us n inside in
        let m = s.meet in
        let parts : have ≡ u + (have - u) = omega arith in
        let above : t + (have - u) ≡ total (drop (suc n) us) = omega arith in
        let held : acc ≡ bits N t (u + (have - u)) = s.held ∙ ap (bits N t) parts in
        ap (λ (x : ℕ). x / 2 ^ (have - u)) held
        ∙ bits_high N t u (have - u)
        ∙ ap (λ (x : ℕ). bits N x u) above
        ∙ ap (bits N (total (drop (suc n) us))) hu
        ∙ sym (unpacked-at us n N)

    -- Width n comes out.
    pub emitted : (acc' : ℕ) → acc' ≡ acc % 2 ^ (have - u) → Loop N ws us (set out n (acc / 2 ^ (have - u))) i (n + 1) acc' (have - u)
    emitted acc' ha =
        let s = l.state in
        let t = total (drop i ws) in
        let next = total-drop us n inside in
        let m = s.meet in
        let less = l.small in
        let parts : have ≡ u + (have - u) = omega arith in
        let held : acc ≡ bits N t (u + (have - u)) = s.held ∙ ap (bits N t) parts in
        let wide : n < length out = omega (arith, l.room) in
        rw (add-one n) (record {
          state = record {
            went_in = s.went_in;
            came_out = inside;
            meet = omega arith;
            held = ha ∙ ap (λ (x : ℕ). x % 2 ^ (have - u)) held ∙ bits_low N t u (have - u);
          };
          small = omega arith;
          room = length-set out n (acc / 2 ^ (have - u)) ∙ l.room;
          done = λ k h. stored k h (eqb k n) refl wide;
        })
      where
        stored : (k : ℕ) → k < suc n → (t : Bool) → eqb k n ≡ t → n < length out
            → get_or (set out n (acc / 2 ^ (have - u))) k 0 ≡ get_or (unpacked us N) k 0
        stored k h true e wide =
            rw (eqb-true k n e) (get_or-set_same out n (acc / 2 ^ (have - u)) 0 wide ∙ field_is)
        stored k h false e wide =
            let other = eqb-false k n e in
            get_or-set_other out n k (acc / 2 ^ (have - u)) 0 other ∙ l.done k (omega arith)

  -- All came out: what is stored are the values.
  pub finished : length us ≤ n → out ≡ unpacked us N
  finished h =
      ext_get_or 0 out (unpacked us N) (l.room ∙ sym (length-unpacked us N)) (λ k b. l.done k (omega (arith, l.room)))
