-- A HEX file is read as well from its front: the most bytes that are read and one more decide. Assumes nothing.
use Prim.Native.Nat.{ℕ, ◌≤◌, ◌<◌}
use mathlib.Core.Path.{◌≡◌, refl, sym, ◌∙◌, ap}
use mathlib.Core.Bool.{Bool, true, false, cond}
use Rattle.std.specs.Prelude.{Some, None, Result}
use Rattle.memories.specs.Cycles.{outcome_count}
use mathlib.Core.List.{List}
use native.Mathlib.Omega.{arith}
use lib.Dec.{eqb}
use lib.ListN.{length, take, replicate, length-take, length-replicate}
use lib.Seq.{length-take-le}
use borrow.Author.Tests.{le-leb, lt-leb}
use Rattle.text.specs.declared.Outcome.{Outcome}
use Rattle.intel_hex.specs.declared.HexError.{HexError}
use Rattle.intel_hex.specs.Reading.{hex_outcome}
use Rattle.intel_hex.specs.Answers.{hex_read_outcome}
use Rattle.intel_hex.specs.Promises.{HexFileRead}
use Rattle.files.proofs.FrontLaws.{front_self, by_front}
use Rattle.hex_commands.specs.Loading.{most_bytes, HexTextRead, HexFront, Loaded}

-- Room for more than k bytes.
pub room-above : (k n : ℕ) → k < n → k < length (replicate {A = ℕ} n 0)
room-above k n h = rw (length-replicate {A = ℕ} n 0) h

-- A buffer holds the front of a text in its first n bytes.
module _ (buffer : List ℕ) (n : ℕ) (fits : n ≤ length buffer) {before : List ℕ} where
  -- A text of more bytes than are read is refused.
  pub too_long : most_bytes < n → HexFront buffer n false before before
  too_long more whole front =
      let size : n ≡ length (take (length buffer) whole) = sym (length-take-le n buffer fits) ∙ ap length front in
      let long : most_bytes < length whole = omega (arith, size, length-take (length buffer) whole) in
      record { is = rw (lt-leb (length whole) most_bytes long); words = refl }

  -- One of no more is read whole, where the buffer has room for one byte more, ..
  front_read : {after : List ℕ} {h : Result (Unit {0}) HexError} {r : Bool} → n ≤ most_bytes → most_bytes < length buffer
      → HexFileRead (length before) (take n buffer) before h after → r ≡ eqb (hex_read_outcome h).number 0 → HexFront buffer n r before after
  front_read {after} {h} {r} few room read says whole front =
      by_front (λ (s : List ℕ). HexTextRead s r before after) buffer n whole front
      (record { is = is ∙ rw (le-leb (length (take n buffer)) most_bytes (omega (arith, size))); words = rw is read.words })
      (λ full long. absurd (omega (arith, full, size)))
    where
      size : length (take n buffer) ≡ n
      size = length-take-le n buffer fits

      is : r ≡ eqb (hex_outcome (length before) (length before) (take n buffer)).number 0
      is = says ∙ ap (λ (t : Outcome). eqb t.number 0) read.answer

  -- what `accept_at` answers of the outcome deciding, ..
  module _ {after : List ℕ} {h : Result (Unit {0}) HexError} {t : Outcome} (few : n ≤ most_bytes) (room : most_bytes < length buffer)
      (read : HexFileRead (length before) (take n buffer) before h after) (says : t ≡ hex_read_outcome h) where
    pub front_accepted : (k : ℕ) → Some k ≡ outcome_count t → HexFront buffer n true before after
    front_accepted k count = front_read few room read (go (eqb (hex_read_outcome h).number 0) (rw says at count))
      where
        go : (b : Bool) → Some k ≡ cond b (Some (hex_read_outcome h).count) None → true ≡ b
        go true e = refl
        go false e = cc

    pub front_refused : None ≡ outcome_count t → HexFront buffer n false before after
    front_refused count = front_read few room read (go (eqb (hex_read_outcome h).number 0) (rw says at count))
      where
        go : (b : Bool) → None ≡ cond b (Some (hex_read_outcome h).count) None → false ≡ b
        go true e = cc
        go false e = refl

  -- .. and need not be named.
  pub loaded : (r : Bool) {after : List ℕ} → HexFront buffer n r before after → Loaded r before after
  loaded true read = let text = read (take n buffer) (front_self buffer n fits) in record { text = take n buffer; good = sym text.is; words = text.words }
  loaded false read = (read (take n buffer) (front_self buffer n fits)).words
