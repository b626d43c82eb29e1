-- Packing a word at a time. Assumes nothing.
use Prim.Native.Nat.{ℕ, suc, ◌+◌, ◌-◌, ◌*◌, ◌/◌, ◌%◌, ◌^◌, ◌≤◌, ◌<◌}
use mathlib.Core.Path.{◌≡◌, refl, sym, ap, ap₂, ◌∙◌}
use mathlib.Core.Bool.{Bool, true, false}
use mathlib.Core.List.{List, ◌++◌}
use native.Mathlib.Nat.{add_comm, zero-add, mod-one}
use native.Mathlib.Numerals.{add-one}
use native.Mathlib.Omega.{arith}
use lib.Dec.{leb}
use lib.ListN.{length, get_or, drop, length-drop, drop_of_length-le}
use lib.Pow.{shr-shr}
use lib.Seq.{length-take-le}
use borrow.Author.Tests.{leb-true, leb-false}
use borrow.Rule.Slice.PartMut.{mid_of, put_mid}
use Rattle.text.specs.Place.{put}
use Rattle.text.proofs.PutLaws.{put_nil, length-put, put_all, put-part}
use Rattle.text.proofs.PieceLaws.{more}
use Rattle.bitpack.specs.Bits.{bits}
use Rattle.bitpack.specs.Packed.{total, packed, bytes_of}
use Rattle.bitpack.specs.Words.{word_of}
use Rattle.bitpack.specs.Needs.{Packs, Completes}
use Rattle.bitpack.proofs.BitLaws.{bits_lt, bits_join, bits_low, bits_lowest, shifted_low}
use Rattle.bitpack.proofs.PackLaws.{narrow_at, total-drop, value-bits}
use Rattle.bitpack.proofs.ByteLaws.{length-bytes, bytes-append, bytes_low}
use Rattle.bitpack.proofs.WordLaws.{word-place}

-- i values went in and k words came out; `acc` ends with the `have` bits between, fewer than a word has.
pub record Packing (ws vs out₀ out : List ℕ) (i k acc have : ℕ) : Type 0 where
  pub went_in : i ≤ length ws
  pub few : have < 32
  pub meet : 32 * k + have + total (drop i ws) ≡ total ws
  pub holds : acc % 2 ^ have ≡ bits (packed ws vs) (total (drop i ws)) have
  pub done : out ≡ put out₀ 0 (bytes_of (4 * k) (packed ws vs / 2 ^ (have + total (drop i ws))))

-- Nothing yet.
pub begun : (ws vs out : List ℕ) → Packing ws vs out out 0 0 0 0
unfolding bytes_of bits
begun ws vs out = record {
  went_in = omega arith;
  few = omega arith;
  meet = omega arith;
  holds = sym (mod-one (packed ws vs / 2 ^ total ws));
  done = sym (put_nil out 0);
}

-- The bytes of a number's first words, and the four of the word after them.
word_more : (n rest k : ℕ) (out₀ out out' : List ℕ) → out ≡ put out₀ 0 (bytes_of (4 * k) (n / 2 ^ (rest + 32)))
    → out' ≡ put out (4 * k) (bytes_of 4 (bits n rest 32)) → out' ≡ put out₀ 0 (bytes_of (4 * (k + 1)) (n / 2 ^ rest))
unfolding bits
word_more n rest k out₀ out out' before here =
    let first = bytes_of (4 * k) (n / 2 ^ (rest + 32)) in
    let count : 4 * (k + 1) ≡ 4 * k + 4 = omega arith in
    let place : 4 * k ≡ 0 + length first = sym (zero-add (length first) ∙ length-bytes (4 * k) (n / 2 ^ (rest + 32))) in
    let parts : bytes_of (4 * k + 4) (n / 2 ^ rest) ≡ first ++ bytes_of 4 (bits n rest 32) =
    bytes-append (4 * k) 4 (n / 2 ^ rest)
    ∙ ap₂ (λ (xs ys : List ℕ). xs ++ ys) (ap (bytes_of (4 * k)) (shr-shr n rest 32)) (bytes_low 4 (n / 2 ^ rest) (bits n rest 32) (sym (bits_low n rest 0 32))) in
    more out₀ out out' 0 (4 * k) first (bytes_of 4 (bits n rest 32)) place before here
    ∙ ap (put out₀ 0) (sym (ap (λ (m : ℕ). bytes_of m (n / 2 ^ rest)) count ∙ parts))

-- The same where that word is word k.
word_out : (ws vs : List ℕ) (rest k : ℕ) (out₀ out out' : List ℕ) → rest + 32 * suc k ≡ total ws
    → out ≡ put out₀ 0 (bytes_of (4 * k) (packed ws vs / 2 ^ (rest + 32))) → out' ≡ put out (4 * k) (bytes_of 4 (word_of ws vs k))
    → out' ≡ put out₀ 0 (bytes_of (4 * (k + 1)) (packed ws vs / 2 ^ rest))
word_out ws vs rest k out₀ out out' end before here =
    word_more (packed ws vs) rest k out₀ out out' before (here ∙ ap (λ (x : ℕ). put out (4 * k) (bytes_of 4 x)) (sym (word-place ws vs k rest (omega arith))))

module _ {ws vs out₀ out : List ℕ} {i k acc have : ℕ} (p : Packs ws vs (length out₀)) (s : Packing ws vs out₀ out i k acc have) where
  -- There are as many places as before.
  pub room : length out ≡ length out₀
  room = ap length s.done ∙ length-put out₀ 0 _

  -- The words that came out are those above so many bits.
  done_at : (below : ℕ) → below ≡ have + total (drop i ws) → out ≡ put out₀ 0 (bytes_of (4 * k) (packed ws vs / 2 ^ below))
  done_at below e = s.done ∙ ap (λ (t : ℕ). put out₀ 0 (bytes_of (4 * k) (packed ws vs / 2 ^ t))) (sym e)

  module _ (all : length ws ≤ i) where
    -- All went in.
    over : total (drop i ws) ≡ 0
    over = ap total (drop_of_length-le ws all)

    pub words-within : 4 * k ≤ length out
    words-within = let m = s.meet in let t = p.whole in let r = room in omega arith

    -- The bits that are held are those of the bytes left over, and with these the packing is done.
    pub finished : (bytes : List ℕ) → bytes ≡ bytes_of (length (mid_of (4 * k) (length out - 4 * k) out)) acc
        → put_mid (4 * k) (length out - 4 * k) out bytes ≡ bytes_of (length out₀) (packed ws vs)
    finished bytes e' =
        let n = packed ws vs in
        let m = length out - 4 * k in
        let within = words-within in
        let part : length (mid_of (4 * k) m out) ≡ m = length-take-le m (drop (4 * k) out) (simp length-drop (omega arith)) in
        let e : bytes ≡ bytes_of m acc = e' ∙ ap (λ (x : ℕ). bytes_of x acc) part in
        let meet = s.meet in
        let whole = p.whole in
        let none = over in
        let same = room in
        let bits_left : have ≡ 8 * m = omega arith in
        let size : length bytes ≡ m = ap length e ∙ length-bytes m acc in
        let first = bytes_of (4 * k) (n / 2 ^ (have + total (drop i ws))) in
        let start : 4 * k ≡ 0 + length first = sym (zero-add (length first) ∙ length-bytes (4 * k) _) in
        let low : acc % 2 ^ (8 * m) ≡ n % 2 ^ (8 * m) = rw (← bits_left) (s.holds ∙ rw none (bits_lowest n have)) in
        let above : have + total (drop i ws) ≡ 8 * m = omega arith in
        let parts : first ++ bytes ≡ bytes_of (4 * k + m) n =
        ap₂ (λ (xs ys : List ℕ). xs ++ ys) (ap (λ (t : ℕ). bytes_of (4 * k) (n / 2 ^ t)) above) (e ∙ bytes_low m acc n low) ∙ sym (bytes-append (4 * k) m n) in
        let count : 4 * k + m - 4 * k ≡ m = omega arith in
        let all_of : 4 * k + m ≡ length out₀ = omega arith in
        (rw count at (put-part out bytes (4 * k) m size (omega arith)))
        ∙ more out₀ out (put out (4 * k) bytes) 0 (4 * k) first bytes start s.done refl
        ∙ ap (put out₀ 0) (parts ∙ ap (λ (x : ℕ). bytes_of x n) all_of)
        ∙ put_all out₀ (bytes_of (length out₀) n) (length-bytes (length out₀) n)

  module _ (w v : ℕ) (hw : w ≡ get_or ws i 0) (hv : v ≡ get_or vs i 0) (there : i < length ws) where
    -- The bits after value i, ..
    rest : ℕ
    rest = total (drop (suc i) ws)

    -- .. those from it on, and its own.
    above : total (drop i ws) ≡ rest + w
    unfolding rest
    above = total-drop ws i there ∙ ap (λ (x : ℕ). x + rest) (sym hw) ∙ add_comm w rest

    value : v ≡ bits (packed ws vs) rest w
    unfolding rest
    value = hv ∙ value-bits ws vs i p.fitting ∙ ap (bits (packed ws vs) rest) (sym hw)

    small : w ≤ 40
    small = rw hw (narrow_at 40 ws i p.small)

    -- Value i is held where it completes no word.
    pub held_on : (acc' : ℕ) → have + w < 32 → acc' ≡ (acc * 2 ^ w + v) % 2 ^ 64 → Packing ws vs out₀ out (i + 1) k acc' (have + w)
    unfolding rest
    held_on acc' few he =
        let m = s.meet in
        let a = above in
        let below : v < 2 ^ w = rw value (bits_lt (packed ws vs) rest w) in
        rw (add-one i) (record {
          went_in = there;
          few = few;
          meet = omega arith;
          holds =
              ap (λ (x : ℕ). x % 2 ^ (have + w)) he
              ∙ shifted_low acc have w v (omega arith) below
              ∙ ap₂ (λ (x y : ℕ). x * 2 ^ w + y) (s.holds ∙ ap (λ (t : ℕ). bits (packed ws vs) t have) above) value
              ∙ bits_join (packed ws vs) rest have w;
          done = done_at (have + w + rest) (omega arith);
        })

    -- Its last bits are held where the word before them came out.
    last_held : (last : ℕ) → last ≤ w → v % 2 ^ last ≡ bits (packed ws vs) rest last
    last_held last within =
        let cut : (w - last) + last ≡ w = omega arith in
        ap (λ (x : ℕ). x % 2 ^ last) (value ∙ ap (bits (packed ws vs) rest) (sym cut)) ∙ bits_low (packed ws vs) rest (w - last) last

    -- A word that ends in value i has room among the bytes.
    pub word_room : (j last : ℕ) → last + 32 * suc j ≡ have + w + 32 * k → 4 * j + 4 ≤ length out₀
    unfolding rest
    word_room j last e = let m = s.meet in let a = above in let t = p.whole in omega arith

    module _ (j last : ℕ) (e : last + 32 * suc j ≡ have + w + 32 * k) (next : k ≤ j) where
      -- Value i completes word j, after which `last` of its bits come.
      pub word-ends : 32 * suc j + last + total (drop (suc i) ws) ≡ total ws
      unfolding rest
      word-ends = let m = s.meet in let a = above in omega arith

      pub completes : Completes ws vs i acc last
      unfolding rest bits
      completes =
          let f = s.few in
          record {
            fitting = p.fitting;
            small = p.small;
            there = there;
            within = rw (← hw) (omega arith);
            above = rw (← hw) (go (leb j k) refl);
          }
        where
          go : (t : Bool) → leb j k ≡ t → acc % 2 ^ (32 - (w - last)) ≡ bits (packed ws vs) (total (drop i ws)) (32 - (w - last))
          go true q =
              let same = leb-true j k q in
              let f = s.few in
              let count : 32 - (w - last) ≡ have = omega arith in
              rw count s.holds
          go false q =
              let later = leb-false j k q in
              let f = s.few in
              let count : 32 - (w - last) ≡ 0 = omega arith in
              rw count (mod-one acc ∙ sym (mod-one (packed ws vs / 2 ^ total (drop i ws))))

    -- After the words that value i completes its last bits are held.
    came_out : (words last : ℕ) (out' : List ℕ) → last + 32 * words ≡ have + w → last < 32 → last ≤ w
        → out' ≡ put out₀ 0 (bytes_of (4 * (k + words)) (packed ws vs / 2 ^ (last + rest))) → Packing ws vs out₀ out' (i + 1) (k + words) v last
    unfolding rest
    came_out words last out' e few within done =
        let m = s.meet in
        let a = above in
        rw (add-one i) (record { went_in = there; few = few; meet = omega arith; holds = last_held last within; done = done })

    -- What putting word j asks, of as many places as there were.
    pub word-asked : (j last : ℕ) → last + 32 * suc j ≡ have + w + 32 * k → k ≤ j → (size : ℕ) → size ≡ length out
        → Completes ws vs i acc last × (32 * suc j + last + total (drop (suc i) ws) ≡ total ws) × (4 * j + 4 ≤ size)
    word-asked j last e next size same = (completes j last e next, word-ends j last e next, rw (same ∙ room) (word_room j last e))

    -- One word came out.
    pub one_word : (last : ℕ) (out' : List ℕ) → last + 32 ≡ have + w → last < 32 → out' ≡ put out (4 * k) (bytes_of 4 (word_of ws vs k))
        → Packing ws vs out₀ out' (i + 1) (k + 1) v last
    unfolding rest
    one_word last out' e few here =
        let m = s.meet in
        let a = above in
        let f = s.few in
        came_out 1 last out' (omega arith) few (omega arith) (word_out ws vs (last + rest) k out₀ out out' (omega arith) (done_at (last + rest + 32) (omega arith)) here)

    -- Two words came out.
    pub two_words : (last : ℕ) (out' out'' : List ℕ) → last + 64 ≡ have + w → out' ≡ put out (4 * k) (bytes_of 4 (word_of ws vs k))
        → out'' ≡ put out' (4 * (k + 1)) (bytes_of 4 (word_of ws vs (k + 1))) → Packing ws vs out₀ out'' (i + 1) (k + 2) v last
    unfolding rest
    two_words last out' out'' e first second =
        let m = s.meet in
        let a = above in
        let f = s.few in
        let b = small in
        let here = word_out ws vs (last + rest + 32) k out₀ out out' (omega arith) (done_at (last + rest + 32 + 32) (omega arith)) first in
        let there' = word_out ws vs (last + rest) (k + 1) out₀ out' out'' (omega arith) here second in
        let count : k + 1 + 1 ≡ k + 2 = omega arith in
        came_out 2 last out'' (omega arith) (omega arith) (omega arith) (rw (← count) there')
