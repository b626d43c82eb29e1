-- Laws of the questions asked of an irq2 file's lines. Assumes nothing.
use Rattle.std.specs.Prelude.{Some, None}
use Rattle.std.specs.List.{AllPass}
use Rattle.std.proofs.lemmas.List.Elements.{All-nil, All-cons}
use Prim.Native.Nat.{ℕ, zero, suc, ◌+◌, ◌-◌, ◌^◌, ◌≤◌, ◌<◌}
use mathlib.Core.Path.{◌≡◌, refl, sym, ◌∙◌, ap}
use mathlib.Core.Bool.{true, false, cond, ◌&&◌}
use mathlib.Core.List.{List, [], ◌∷◌, map}
use native.Mathlib.Nat.{add-zero, le_trans, pow-le-pow_right}
use native.Mathlib.Omega.{arith}
use native.Mathlib.Numerals.{add-one}
use lib.ListN.{length, get_or, take, drop, set, drop_of_length-le, length-drop}
use lib.Seq.{drop-drop, get_or-drop}
use lib.Dec.{ltb, leb, leb-zero}
use borrow.Author.Tests.{lt-ltb, le-ltb, le-leb, lt-leb, leb-true}
use Rattle.text.specs.declared.Outcome.{Outcome}
use Rattle.text.specs.Questions.{accepted, refused, first_no, first_bad}
use Rattle.text.specs.Numerals.{all_digits, value, numeral}
use Rattle.text.specs.Lines.{lines, first_line}
use Rattle.text.specs.Place.{put}
use Rattle.text.proofs.Truth.{and_left, and_right}
use Rattle.text.proofs.DigitLaws.{number_yes, number_no, number-value}
use Rattle.text.proofs.QuestionLaws.{first_yes}
use Rattle.text.proofs.LineLaws.{first_le, lines-first, lines_at_lem}
use Rattle.files.specs.Sizes.{cycle_limit}
use Rattle.files.specs.Irq2File.{is_cycle, line_cycle, rises_after, rising, irq2_outcome, file_cycles, is_above, cycle_questions}

-- ---- one line

-- 13 digits fit 64 bits.
pub few-fit : (n : ℕ) → n ≤ 13 → 10 ^ n ≤ 2 ^ 64
few-fit n h = le_trans (pow-le-pow_right {n = 10} (omega arith) h) (omega arith)

module _ (l : List ℕ) (some : 1 ≤ length l) (few : length l ≤ 13) where
  pub cycle_no : numeral 10 l ≡ None → None ≡ line_cycle l
  cycle_no e = rw (le-leb 1 (length l) some, le-leb (length l) 13 few, number_no (all_digits 10 l) (value 10 l) e)

  module _ (v : ℕ) (e : numeral 10 l ≡ Some v) where
    pub cycle_yes : v < cycle_limit → Some v ≡ line_cycle l
    cycle_yes h =
        let is = number-value (all_digits 10 l) (value 10 l) v e in
        rw (le-leb 1 (length l) some, le-leb (length l) 13 few, number_yes (all_digits 10 l) (value 10 l) v e, ← is, lt-ltb v cycle_limit h)

    pub cycle-over : cycle_limit ≤ v → None ≡ line_cycle l
    cycle-over h =
        let is = number-value (all_digits 10 l) (value 10 l) v e in
        rw (le-leb 1 (length l) some, le-leb (length l) 13 few, number_yes (all_digits 10 l) (value 10 l) v e, ← is, le-ltb v cycle_limit h)

-- The digits of a cycle, which are few.
module _ (l : List ℕ) (e : is_cycle l ≡ true) where
  form : (leb 1 (length l) && leb (length l) 13 && all_digits 10 l) ≡ true
  form = and_left (leb 1 (length l) && leb (length l) 13 && all_digits 10 l) (ltb (value 10 l) cycle_limit) e

  pub cycle-few : length l ≤ 13
  cycle-few = leb-true (length l) 13 (and_right (leb 1 (length l)) (leb (length l) 13) (and_left (leb 1 (length l) && leb (length l) 13) (all_digits 10 l) form))

  cycle-digits : (all_digits 10 l ≡ true) × (10 ^ length l ≤ 2 ^ 64)
  cycle-digits = (and_right (leb 1 (length l) && leb (length l) 13) (all_digits 10 l) form, few-fit (length l) cycle-few)

-- ---- one line after the other

-- The least cycle that rises after i of all the lines.
unfoldable pub least_after : List (List ℕ) → ℕ → ℕ
least_after all zero = 0
least_after all (suc i) = suc (value 10 (get_or all i []))

above_least : (all : List (List ℕ)) (i : ℕ) (l : List ℕ) → is_above all i l ≡ leb (least_after all i) (value 10 l)
unfolding least_after
above_least all zero l = sym (leb-zero (value 10 l))
above_least all (suc i) l = refl

-- The line l stands after i of all the lines, and then come ls.
module _ (all : List (List ℕ)) (i : ℕ) (l : List ℕ) (ls : List (List ℕ)) (h : l ∷ ls ≡ drop i all) where
  line-is : get_or all i [] ≡ l
  line-is = ap (λ (n : ℕ). get_or all n []) (sym (add-zero i)) ∙ sym (get_or-drop i all 0 []) ∙ ap (λ (r : List (List ℕ)). get_or r 0 []) (sym h)

  pub next-is : ls ≡ drop (i + 1) all
  next-is = ap (drop 1) h ∙ drop-drop 1 i all

  pub least_next : value 10 l + 1 ≡ least_after all (i + 1)
  unfolding least_after
  least_next = rw (add-one, add-one, line-is)

-- The lines of `text` from `at` on, i lines before them; the first of them ends at e.
module _ (room : ℕ) (text : List ℕ) (at i e : ℕ) (h : at < length text) (q : e ≡ at + length (first_line (drop at text))) (t : Outcome) where
  -- What is told of the lines from here on, of the line here, and from the next on.
  here : first_bad (cycle_questions room (lines text)) i (lines (drop at text)) t
      ≡ first_no (cycle_questions room (lines text) i (take (e - at) (drop at text))) (i + 1) (first_bad (cycle_questions room (lines text)) (i + 1) (lines (drop (e + 1) text)) t)
  unfolding first_bad
  here = rw (lines_at_lem text at e h q)

  pub cycle-full : room ≤ i → refused 10 (i + 1) ≡ first_bad (cycle_questions room (lines text)) i (lines (drop at text)) t
  cycle-full full = rw (here, le-ltb i room full)

  module _ (left : i < room) where
    pub cycle_bad : is_cycle (take (e - at) (drop at text)) ≡ false → refused 11 (i + 1) ≡ first_bad (cycle_questions room (lines text)) i (lines (drop at text)) t
    cycle_bad bad = rw (here, lt-ltb i room left, bad)

    module _ (good : is_cycle (take (e - at) (drop at text)) ≡ true) where
      pub cycle_low : value 10 (take (e - at) (drop at text)) < least_after (lines text) i
          → refused 12 (i + 1) ≡ first_bad (cycle_questions room (lines text)) i (lines (drop at text)) t
      cycle_low low = rw (here, lt-ltb i room left, good, above_least, lt-leb _ _ low)

      pub cycle-good : least_after (lines text) i ≤ value 10 (take (e - at) (drop at text))
          → first_bad (cycle_questions room (lines text)) (i + 1) (lines (drop (e + 1) text)) t ≡ first_bad (cycle_questions room (lines text)) i (lines (drop at text)) t
      cycle-good rises = rw (here, lt-ltb i room left, good, above_least, le-leb _ _ rises)

-- No line is left.
module _ (room : ℕ) (text : List ℕ) (at i : ℕ) (h : length text ≤ at) where
  pub cycle-end : (t : Outcome) → t ≡ first_bad (cycle_questions room (lines text)) i (lines (drop at text)) t
  unfolding first_bad lines
  cycle-end t = rw (drop_of_length-le text h)

  pub count-end : i + length (lines (drop at text)) ≡ length (lines text) → i ≡ length (lines text)
  unfolding lines
  count-end e = let all = rw (drop_of_length-le text h) at e in omega arith

-- ---- a good file

-- Each of its lines is a cycle.
good_cycles : (room n : ℕ) (all : List (List ℕ)) (i : ℕ) (ls : List (List ℕ)) → (first_bad (cycle_questions room all) i ls (accepted n)).number ≡ 0 → AllPass is_cycle ls
unfolding first_bad
good_cycles room n all i [] good = All-nil (λ l. is_cycle l ≡ true)
good_cycles room n all i (l ∷ ls) good =
    let left = first_yes 10 (i + 1) (ltb i room) _ (omega arith) good in
    let cycle = first_yes 11 (i + 1) (is_cycle l) _ (omega arith) left.1 in
    let above = first_yes 12 (i + 1) (is_above all i l) _ (omega arith) cycle.1 in
    All-cons (λ l. is_cycle l ≡ true) l ls cycle.0 (good_cycles room n all (i + 1) ls above.1)

pub irq2-cycles : (room : ℕ) (text : List ℕ) → (irq2_outcome room text).number ≡ 0 → AllPass is_cycle (lines text)
unfolding irq2_outcome
irq2-cycles room text good = good_cycles room (length (lines text)) (lines text) 0 (lines text) good

-- The cycle of this line, which ends at e, is stored: what is left are those of the lines after it.
pub cycle_turn : (text : List ℕ) (at i e : ℕ) → at < length text → e ≡ at + length (first_line (drop at text)) → (m : List ℕ) (v : ℕ) → v ≡ value 10 (take (e - at) (drop at text))
    → put (set m i v) (i + 1) (map (value 10) (lines (drop (e + 1) text))) ≡ put m i (map (value 10) (lines (drop at text)))
unfolding put
cycle_turn text at i e h q m v r = rw (r, lines_at_lem text at e h q, add-one)

pub cycles-end : (text m : List ℕ) (at i : ℕ) → length text ≤ at → m ≡ put m i (map (value 10) (lines (drop at text)))
unfolding put lines
cycles-end text m at i h = rw (drop_of_length-le text h)

-- The cycles of the first i lines are set; of the text the lines from the place `at` on are left.
pub record CyclesSet (text before cycles : List ℕ) (at i : ℕ) : Type 0 where
  pub done : put cycles i (map (value 10) (lines (drop at text))) ≡ put before 0 (file_cycles text)
  pub left : lines (drop at text) ≡ drop i (lines text)
  pub inside : at ≤ length text + 1

module _ {text before cycles : List ℕ} {at i : ℕ} (l : CyclesSet text before cycles at i) where
  module _ (h : at < length text) where
    pub set-room : i < length (lines text)
    set-room =
        let more : length (lines (drop at text)) ≡ suc (length (lines (drop (suc (length (first_line (drop at text)))) (drop at text))))
        = ap length (lines-first (drop at text) (rw length-drop (omega arith))) in
        let left : length (lines (drop at text)) ≡ length (lines text) - i = rw (l.left, length-drop) in
        omega arith

    module _ (e : ℕ) (q : e ≡ at + length (first_line (drop at text))) where
      split : take (e - at) (drop at text) ∷ lines (drop (e + 1) text) ≡ drop i (lines text)
      split = sym (lines_at_lem text at e h q) ∙ l.left

      -- The next line is a cycle, whose digits can be read, ..
      pub set-form : AllPass is_cycle (lines text) → (all_digits 10 (take (e - at) (drop at text)) ≡ true) × (10 ^ length (take (e - at) (drop at text)) ≤ 2 ^ 64)
      set-form good = cycle-digits (take (e - at) (drop at text)) (rw (line-is (lines text) i _ _ split) at (good i [] set-room))

      -- .. and is set.
      pub set-turn : {v : ℕ} → v ≡ value 10 (take (e - at) (drop at text)) → CyclesSet text before (set cycles i v) (e + 1) (i + 1)
      set-turn {v} r =
          let within = first_le (drop at text) in
          record {
            done = cycle_turn text at i e h q cycles v r ∙ l.done;
            left = next-is (lines text) i _ _ split;
            inside = omega (arith, length-drop at text);
          }

  -- No line is left.
  pub set-end : length text ≤ at → cycles ≡ put before 0 (file_cycles text)
  set-end h = cycles-end text cycles at i h ∙ l.done

-- The cycles of a good file rise.
rises_from : (room : ℕ) (t : Outcome) (all : List (List ℕ)) (j : ℕ) (ls : List (List ℕ)) → ls ≡ drop (suc j) all
    → (first_bad (cycle_questions room all) (suc j) ls t).number ≡ 0 → rises_after (value 10 (get_or all j [])) (map (value 10) ls) ≡ true
unfolding first_bad rises_after
rises_from room t all j [] h good = refl
rises_from room t all j (l ∷ ls) h good =
    let left = first_yes 10 (suc j + 1) (ltb (suc j) room) _ (omega arith) good in
    let cycle = first_yes 11 (suc j + 1) (is_cycle l) _ (omega arith) left.1 in
    let above = first_yes 12 (suc j + 1) (is_above all (suc j) l) _ (omega arith) cycle.1 in
    let rest = rises_from room t all (suc j) ls (next-is all (suc j) l ls h ∙ rw add-one) (rw (← add-one (suc j)) above.1) in
    rw (above.0, ← line-is all (suc j) l ls h) rest

pub irq2-rising : (room : ℕ) (text : List ℕ) → (irq2_outcome room text).number ≡ 0 → rising (file_cycles text) ≡ true
unfolding irq2_outcome rising first_bad
irq2-rising room text good = go (lines text) good
  where
    go : (ls : List (List ℕ)) → (first_bad (cycle_questions room ls) 0 ls (accepted (length ls))).number ≡ 0 → rising (map (value 10) ls) ≡ true
    go [] good = refl
    go (l ∷ ls) good =
        let rest = first_bad (cycle_questions room (l ∷ ls)) 1 ls (accepted (suc (length ls))) in
        let left = first_yes 10 1 (ltb 0 room) (cond (is_cycle l) rest (refused 11 1)) (omega arith) good in
        rises_from room (accepted (suc (length ls))) (l ∷ ls) 0 ls refl (first_yes 11 1 (is_cycle l) rest (omega arith) left.1).1
