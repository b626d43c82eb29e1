-- An irq2 file is read as well from its front: for a list of n places n × 14 bytes, 13 digits and an LF for each cycle, and one byte more decide what the
-- reader tells and leaves. Assumes nothing.
use Rattle.std.specs.Prelude.{Result}
use Prim.Native.Nat.{ℕ, zero, suc, ◌+◌, ◌-◌, ◌*◌, ◌≤◌, ◌<◌}
use mathlib.Core.Path.{◌≡◌, refl, sym, ◌∙◌, ap}
use mathlib.Core.Bool.{Bool, true, false}
use mathlib.Core.List.{List}
use native.Mathlib.Nat.{suc-mul}
use native.Mathlib.Omega.{arith}
use lib.ListN.{length, take, drop}
use lib.Seq.{take_all, length-take-le}
use lib.Dec.{leb}
use borrow.Author.Tests.{le-leb, lt-leb, leb-true, leb-false, ne_eqb}
use Rattle.text.specs.declared.Outcome.{Outcome}
use Rattle.text.specs.Questions.{accepted, refused, first_bad}
use Rattle.text.specs.Numerals.{value}
use Rattle.text.specs.Lines.{lines, first_line}
use Rattle.text.proofs.LineLaws.{first-front, lines_at_lem}
use Rattle.files.specs.declared.CycleError.{CycleError}
use Rattle.files.specs.Irq2File.{is_cycle, cycle_questions, irq2_outcome}
use Rattle.files.specs.Promises.{Irq2Read}
use Rattle.files.proofs.PutLaws.{drop-take}
use Rattle.files.proofs.CutLaws.{good-cut, line-cut}
use Rattle.files.proofs.Irq2Laws.{cycle-few, least_after, next-is, least_next, cycle-full, cycle_bad, cycle_low, cycle-good}

-- ---- one line

-- A cycle has at most 13 digits.
long_no_cycle : (l : List ℕ) → 13 < length l → is_cycle l ≡ false
long_no_cycle l h = rw (le-leb 1 (length l) (omega arith), lt-leb (length l) 13 h)

-- What is told of the lines of a text from the place `at` on, before which i lines stand.
abbrev cycles_from : ℕ → List ℕ → ℕ → ℕ → Outcome
cycles_from room text i at = first_bad (cycle_questions room (lines text)) i (lines (drop at text)) (accepted (length (lines text)))

-- l is the line there.
module _ (room : ℕ) (text : List ℕ) (at i : ℕ) (l : List ℕ) (h : at < length text) (q : l ≡ first_line (drop at text)) where
  end : at + length l ≡ at + length (first_line (drop at text))
  end = rw q

  part : take (at + length l - at) (drop at text) ≡ l
  part = let size : at + length l - at ≡ length l = omega arith in rw (size, q) (first-front (drop at text))

  told-full : room ≤ i → refused 10 (i + 1) ≡ cycles_from room text i at
  told-full full = cycle-full room text at i (at + length l) h end _ full

  told_bad : i < room → is_cycle l ≡ false → refused 11 (i + 1) ≡ cycles_from room text i at
  told_bad left bad = cycle_bad room text at i (at + length l) h end _ left (rw part bad)

  told_low : i < room → is_cycle l ≡ true → value 10 l < least_after (lines text) i → refused 12 (i + 1) ≡ cycles_from room text i at
  told_low left good low = cycle_low room text at i (at + length l) h end _ left (rw part good) (rw part low)

  told-good : i < room → is_cycle l ≡ true → least_after (lines text) i ≤ value 10 l → cycles_from room text (i + 1) (at + length l + 1) ≡ cycles_from room text i at
  told-good left good rises = cycle-good room text at i (at + length l) h end _ left (rw part good) (rw part rises)

  -- The lines after it, and the least cycle that rises there.
  told-next : lines (drop at text) ≡ drop i (lines text)
      → (lines (drop (at + length l + 1) text) ≡ drop (i + 1) (lines text)) × (value 10 l + 1 ≡ least_after (lines text) (i + 1))
  told-next from =
      let split = sym (rw part at (lines_at_lem text at (at + length l) h end)) ∙ from in
      (next-is (lines text) i l _ split, least_next (lines text) i l _ split)

-- ---- one line after the other

-- Of a text and its front: both are refused, alike.
abbrev RefusedAlike : ℕ → List ℕ → List ℕ → ℕ → ℕ → Type 0
RefusedAlike room front text i at = (cycles_from room front i at ≡ cycles_from room text i at) × ((cycles_from room text i at).number ≡ 0 → ⊥)

refused-alike : {a b : Outcome} (n place : ℕ) → refused (suc n) place ≡ a → refused (suc n) place ≡ b → (a ≡ b) × (b.number ≡ 0 → ⊥)
refused-alike n place p q = (sym p ∙ q, λ none. let wrong : suc n ≡ 0 = ap (λ (t : Outcome). t.number) q ∙ none in omega arith)

-- In both i lines stand before the place `at`, and the same cycles rise there.
record Alike (front text : List ℕ) (i at : ℕ) : Type 0 where
  pub front-lines : lines (drop at front) ≡ drop i (lines front)
  pub text-lines : lines (drop at text) ≡ drop i (lines text)
  pub least : least_after (lines front) i ≡ least_after (lines text) i

-- A text that is longer than its front.
module _ (room : ℕ) (text : List ℕ) (m : ℕ) (long : m < length text) where
  size : length (take m text) ≡ m
  size = length-take-le m text (omega arith)

  -- One line: where it is a good one, the lines after it are refused.
  same-cycle : (i at : ℕ) → i < room → at + 14 < m → Alike (take m text) text i at
      → ((to : ℕ) → to ≤ at + 14 → Alike (take m text) text (i + 1) to → RefusedAlike room (take m text) text (i + 1) to) → RefusedAlike room (take m text) text i at
  same-cycle i at left h alike rest = go (is_cycle line) refl
    where
      line : List ℕ
      line = first_line (drop at text)

      in_front_lem : at < length (take m text)
      in_front_lem = rw size (omega arith)

      in_text : at < length text
      in_text = omega arith

      go : (t : Bool) → is_cycle line ≡ t → RefusedAlike room (take m text) text i at
      go false bad =
          let same : is_cycle (first_line (drop at (take m text))) ≡ is_cycle line
          = ap (λ (s : List ℕ). is_cycle (first_line s)) (drop-take at m text) ∙ good-cut is_cycle 13 (m - at) (drop at text) long_no_cycle (omega arith) in
          refused-alike 10 (i + 1) (told_bad room (take m text) at i _ in_front_lem refl left (same ∙ bad)) (told_bad room text at i line in_text refl left bad)
      go true good = rise (leb (least_after (lines text) i) (value 10 line)) refl
        where
          few : length line ≤ 13
          few = cycle-few line good

          same : line ≡ first_line (drop at (take m text))
          same = sym (ap first_line (drop-take at m text) ∙ line-cut (m - at) (drop at text) (omega (arith, few)))

          rise : (t : Bool) → leb (least_after (lines text) i) (value 10 line) ≡ t → RefusedAlike room (take m text) text i at
          rise true q =
              let high = leb-true (least_after (lines text) i) (value 10 line) q in
              let front = told-good room (take m text) at i line in_front_lem same left good (rw alike.least high) in
              let whole = told-good room text at i line in_text refl left good high in
              let front-next = told-next room (take m text) at i line in_front_lem same alike.front-lines in
              let text-next = told-next room text at i line in_text refl alike.text-lines in
              let after = rest (at + length line + 1) (omega (arith, few))
              (record { front-lines = front-next.0; text-lines = text-next.0; least = sym front-next.1 ∙ text-next.1 }) in
              (sym front ∙ after.0 ∙ whole, λ none. after.1 (ap (λ (t : Outcome). t.number) whole ∙ none))
          rise false q =
              let low = leb-false (least_after (lines text) i) (value 10 line) q in
              refused-alike 11 (i + 1) (told_low room (take m text) at i line in_front_lem same left good (rw alike.least low)) (told_low room text at i line in_text refl left good low)

  -- All of them: past the last place any byte is refused.
  same-cycles : (j i at : ℕ) → i + j ≡ room → at + j * 14 < m → Alike (take m text) text i at → RefusedAlike room (take m text) text i at
  same-cycles zero i at e h alike =
      refused-alike 9 (i + 1) (told-full room (take m text) at i _ (rw size (omega arith)) refl (omega arith)) (told-full room text at i _ (omega arith) refl (omega arith))
  same-cycles (suc j) i at e h alike =
      let one = suc-mul j 14 in
      same-cycle i at (omega arith) (omega arith) alike (λ to near next. same-cycles j (i + 1) to (omega arith) (omega arith) next)

-- ---- any text

-- Who reads the front of a text has read the text.
pub cut-cycles : (m : ℕ) (text cycles : List ℕ) (r : Result ℕ CycleError) (after : List ℕ) → length cycles * 14 < m
    → Irq2Read (take m text) cycles r after → Irq2Read text cycles r after
unfolding irq2_outcome least_after
cut-cycles m text cycles r after h p = go (leb (length text) m) refl
  where
    go : (t : Bool) → leb (length text) m ≡ t → Irq2Read text cycles r after
    go true e = rw (take_all m text (leb-true (length text) m e)) at p
    go false e =
        let same = same-cycles (length cycles) text m (leb-false (length text) m e) (length cycles) 0 0 (omega arith) (omega arith) (record { front-lines = refl; text-lines = refl; least = refl }) in
        let refusal = ne_eqb (irq2_outcome (length cycles) text).number 0 same.1 in
        record { answer = p.answer ∙ same.0; places = rw (same.0, refusal) at p.places ∙ rw refusal }
