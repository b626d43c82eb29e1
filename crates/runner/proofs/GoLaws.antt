-- The loop of a run, in terms of the plain machine. Assumes nothing.
use Prim.Native.Nat.{ℕ, ◌+◌, ◌-◌, ◌%◌, ◌^◌, ◌≤◌, ◌<◌, zero-le}
use mathlib.Core.Path.{◌≡◌, refl, sym, ◌∙◌, ap}
use mathlib.Core.Bool.{Bool, true, false, cond, not, ◌&&◌, false≢true}
use mathlib.Core.List.{List}
use mathlib.Core.Option.{Option, some, none}
use native.Mathlib.Nat.{mod-mod}
use native.Mathlib.Numerals.{add-one}
use native.Mathlib.Omega.{arith}
use lib.Dec.{eqb, leb, ltb}
use lib.ListN.{length, drop, get_or-map}
use borrow.Author.Tests.{eq-eqb, leb-true, leb-false, lt-leb, le-leb, lt-ltb, le-ltb, not-true}
use Rattle.text.specs.Place.{put}
use Rattle.text.proofs.Truth.{and_left, and_right}
use Rattle.files.specs.Sizes.{cycle_limit}
use Rattle.files.specs.MemoryFile.{low48}
use Rattle.files.specs.Irq2File.{rising}
use Rattle.machine.specs.declared.Core.{Core}
use Rattle.machine.specs.State.{Machine}
use Rattle.machine.specs.Interrupts.{is_in}
use Rattle.machine.specs.Cycle.{at_fetch, stepped}
use Rattle.machine.specs.Log.{lines_at_fetch, Traced, traced, traced_on}
use Rattle.machine.specs.Soundness.{Sound}
use Rattle.machine.proofs.ImageLaws.{SameWords, same-cycle, same_lines}
use Rattle.machine.proofs.AgeLaws.{age-after}
use Rattle.machine.proofs.LineLaws.{lines-at_most}
use Rattle.executor.specs.Lent.{packed}
use Rattle.claim.proofs.Loop.{ask, Going, start, count, rest, same_length, next-put, stop}
use Rattle.runner.specs.declared.Ended.{Ended}
use Rattle.runner.specs.Lab.{simp, code_of}
use Rattle.irq2_list.specs.Places.{PlaceOf, is_at}
use Rattle.runner.specs.Answers.{reason_number, reason_of, EndsRun}
use Rattle.irq2_list.proofs.PlaceLaws.{rises, in_by_place, next_place}

-- ---- the room for a cycle's lines

-- A room of 231 bytes is enough.
pub enough : (image : List ℕ) (hit : Bool) (c : Core) (regs io memory disk frame : List ℕ) (room : ℕ) → Sound c (drop 3 regs) io → 231 ≤ room
    → leb (length (lines_at_fetch image (at_fetch hit (packed c regs io memory disk frame)))) room ≡ true
enough image hit c regs io memory disk frame room sound h =
    let m = packed c regs io memory disk frame in
    let most = lines-at_most image hit m sound.thirteen sound.core.age in
    le-leb (length (lines_at_fetch image (at_fetch hit m))) room (omega arith)

pub counted_yes : (a b fits : Bool) → a ≡ true → b ≡ false → fits ≡ true → true ≡ (a && not b && fits)
counted_yes a b fits p q e = rw (p, q, e)

-- Else the bytes are counted.
pub counted-room : (a b : Bool) (n lines room : ℕ) → a ≡ true → b ≡ false → n ≡ lines → leb n room ≡ (a && not b && leb lines room)
counted-room a b n lines room p q e = rw (p, q, e)

-- ---- the image by its low 48 bits

same-words : (image : List ℕ) → SameWords image (low48 image)
same-words image n = sym (rw (get_or-map (λ (w : ℕ). w % 2 ^ 48) image n 0, mod-mod))

module _ (image irq2 : List ℕ) (hit : Bool) (m : Machine) (is : is_in m.core.age irq2 ≡ hit) where
  cycle-is : stepped image hit m ≡ simp.cycle (code_of image irq2) m
  cycle-is = same-cycle image (low48 image) (same-words image) hit m ∙ ap (λ (t : Bool). stepped (low48 image) t m) (sym is)

  lines_are : lines_at_fetch image (at_fetch hit m) ≡ simp.lines (code_of image irq2) m
  lines_are = same_lines image (low48 image) (same-words image) (at_fetch hit m) ∙ ap (λ (t : Bool). lines_at_fetch (low48 image) (at_fetch t m)) (sym is)

-- ---- what a run asks

-- The answer to the four questions in their order, and the reason where the last of them tells one.
abbrev answered : Bool → Bool → Bool → Bool → Option ℕ
answered a b c d = cond a (some 1) (cond b (some 3) (cond c (some 0) (cond d (some 2) none)))

abbrev outcome : Bool → Bool → Bool → ℕ
outcome a b c = cond a 1 (cond b 3 (cond c 0 2))

reasoned : (a b c d : Bool) → (a ≡ false → b ≡ false → c ≡ false → d ≡ true) → answered a b c d ≡ some (outcome a b c)
reasoned true b c d h = refl
reasoned false true c d h = refl
reasoned false false true d h = refl
reasoned false false false d h = rw (h refl refl refl)

-- Whether it makes one with budget left.
abbrev goes : Core → ℕ → ℕ → Bool
goes c lines room = eqb c.status 0 && not (eqb c.age cycle_limit) && leb lines room

module _ (image irq2 : List ℕ) (budget n at room : ℕ) (m : Machine) (within : at ≤ room) where
  abbrev bytes : ℕ
  bytes = length (simp.lines (code_of image irq2) m)

  asks_none : goes m.core bytes (room - at) ≡ true → n < budget → ask simp (code_of image irq2) budget room n at m ≡ none
  unfolding ask
  asks_none e h =
      let two = and_left (eqb m.core.status 0 && not (eqb m.core.age cycle_limit)) (leb bytes (room - at)) e in
      let fits = leb-true bytes (room - at) (and_right (eqb m.core.status 0 && not (eqb m.core.age cycle_limit)) (leb bytes (room - at)) e) in
      let running = and_left (eqb m.core.status 0) (not (eqb m.core.age cycle_limit)) two in
      let young = not-true (eqb m.core.age cycle_limit) (and_right (eqb m.core.status 0) (not (eqb m.core.age cycle_limit)) two) in
      rw (running, young, lt-leb budget n h, le-ltb room (at + bytes) (omega arith))

  asks-some : goes m.core bytes (room - at) ≡ false → ask simp (code_of image irq2) budget room n at m ≡ some (reason_of m.core n budget)
  unfolding ask
  asks-some e = reasoned (not (eqb m.core.status 0)) (eqb m.core.age cycle_limit) (leb budget n) (ltb room (at + bytes)) (λ a b c. lt-ltb room (at + bytes) (full (eqb m.core.status 0) (eqb m.core.age cycle_limit) a b e))
    where
      full : (a b : Bool) → not a ≡ false → b ≡ false → (a && not b && leb bytes (room - at)) ≡ false → room < at + bytes
      full true b p q h = let over = leb-false bytes (room - at) (rw q at h) in omega arith
      full false b p q h = absurd (false≢true (sym p))

  asks_spent : budget ≤ n → ask simp (code_of image irq2) budget room n at m ≡ some (reason_of m.core n budget)
  unfolding ask
  asks_spent h = reasoned (not (eqb m.core.status 0)) (eqb m.core.age cycle_limit) (leb budget n) (ltb room (at + bytes)) (λ a b c. absurd (false≢true (sym c ∙ le-leb budget n h)))

  asks_old : m.core.age ≡ cycle_limit → ask simp (code_of image irq2) budget room n at m ≡ some (reason_of m.core n budget)
  unfolding ask
  asks_old h = reasoned (not (eqb m.core.status 0)) (eqb m.core.age cycle_limit) (leb budget n) (ltb room (at + bytes)) (λ a b c. absurd (false≢true (sym b ∙ eq-eqb m.core.age cycle_limit h)))

  -- At the age where its budget is spent, or at the limit where that comes first.
  asks-last : (from : ℕ) → from + n ≡ m.core.age → (t : Bool) → ltb budget (cycle_limit - from) ≡ t → m.core.age ≡ cond t (from + budget) cycle_limit
      → ask simp (code_of image irq2) budget room n at m ≡ some (reason_of m.core n budget)
  asks-last from e true q h = asks_spent (omega (arith, e, h))
  asks-last from e false q h = asks_old h

-- A cycle is counted.
pub older : (image : List ℕ) (hit : Bool) (m m' : Machine) (log log' : List ℕ) (at at' : ℕ) → traced m' log' at' ≡ traced_on image hit (traced m log at)
    → m'.core.age ≡ m.core.age + 1
unfolding traced_on
older image hit m m' log log' at at' e = ap (λ (t : Traced). t.machine.core.age) e ∙ age-after image hit m

-- ---- the loop

-- n cycles in: `now` and `log` are those of the plain machine, `at` bytes are written, and p is the age's place in the irq2 list.
pub record Under (image irq2 : List ℕ) (s : Machine) (budget : ℕ) (log₀ : List ℕ) (n at p : ℕ) (now : Machine) (log : List ℕ) : Type 0 where
  pub going : Going simp (code_of image irq2) s budget log₀ n at now log
  pub place : PlaceOf now.core.age p irq2
  pub within : at ≤ length log₀

module _ (image irq2 : List ℕ) (s : Machine) (budget : ℕ) (log₀ : List ℕ) (up : rising irq2 ≡ true) where
  -- Before the first cycle.
  pub sets_out : (p : ℕ) → PlaceOf s.core.age p irq2 → Under image irq2 s budget log₀ 0 0 p s log₀
  sets_out p h = record { going = start simp (code_of image irq2) s budget log₀; place = h; within = zero-le }

  module _ (n at p : ℕ) (now : Machine) (log : List ℕ) (u : Under image irq2 s budget log₀ n at p now log) where
    -- The place tells whether the age is in the list.
    hits : is_in now.core.age irq2 ≡ is_at now.core.age p irq2
    hits = in_by_place now.core.age p irq2 (rises irq2 up) u.place

    -- Where a run ends.
    ends : ask simp (code_of image irq2) budget (length log₀) n at now ≡ some (reason_of now.core n budget)
        → (e : Ended) (m : Machine) → m ≡ now → e.cycles ≡ n → e.at ≡ at → reason_number e.reason ≡ reason_of now.core n budget
        → EndsRun (code_of image irq2) budget log₀ s e m log
    ends q e m same cycles place why =
        record {
          is = rw (same, cycles, place, why) (stop simp (code_of image irq2) s budget log₀ n at now log u.going (reason_of now.core n budget) q);
          count = rw place (count simp (code_of image irq2) s budget log₀ n at now log u.going);
          rest = rw place (rest simp (code_of image irq2) s budget log₀ n at now log u.going);
        }

    pub ends_last : now.core.age ≡ cond (ltb budget (cycle_limit - s.core.age)) (s.core.age + budget) cycle_limit → s.core.age + n ≡ now.core.age
        → (e : Ended) (m : Machine) → m ≡ now → e.cycles ≡ n → e.at ≡ at → reason_number e.reason ≡ reason_of now.core n budget
        → EndsRun (code_of image irq2) budget log₀ s e m log
    ends_last h k = ends (asks-last image irq2 budget n at (length log₀) now u.within s.core.age k (ltb budget (cycle_limit - s.core.age)) refl h)

    -- `hit`: the age is in the list.
    module _ (hit : Bool) (here : hit ≡ is_at now.core.age p irq2) where
      is_hit : is_in now.core.age irq2 ≡ hit
      is_hit = hits ∙ sym here

      asked : (t : Bool) → t ≡ goes now.core (length (lines_at_fetch image (at_fetch hit now))) (length log - at)
          → goes now.core (length (simp.lines (code_of image irq2) now)) (length log₀ - at) ≡ t
      asked t e =
          rw (← same_length simp (code_of image irq2) s budget log₀ n at now log u.going)
          (ap (λ (ls : List ℕ). goes now.core (length ls) (length log - at)) (sym (lines_are image irq2 hit now is_hit)) ∙ sym e)

      pub ends_there : (t : Bool) → t ≡ false → t ≡ goes now.core (length (lines_at_fetch image (at_fetch hit now))) (length log - at)
          → (e : Ended) (m : Machine) → m ≡ now → e.cycles ≡ n → e.at ≡ at → reason_number e.reason ≡ reason_of now.core n budget
          → EndsRun (code_of image irq2) budget log₀ s e m log
      ends_there t stays is = ends (asks-some image irq2 budget n at (length log₀) now u.within (asked t is ∙ stays))

      module _ (t : Bool) (going : t ≡ true) (is : t ≡ goes now.core (length (lines_at_fetch image (at_fetch hit now))) (length log - at)) where
        -- There is room for the lines of a cycle that is made.
        pub has_room_lem : at + length (lines_at_fetch image (at_fetch hit now)) ≤ length log
        has_room_lem =
            let bytes = length (lines_at_fetch image (at_fetch hit now)) in
            let fits = leb-true bytes (length log - at) (and_right (eqb now.core.status 0 && not (eqb now.core.age cycle_limit)) (leb bytes (length log - at)) (sym is ∙ going)) in
            let size = same_length simp (code_of image irq2) s budget log₀ n at now log u.going in
            let place = u.within in
            omega arith

        -- One turn of the loop.
        pub goes_round : n < budget → (m : Machine) (log' : List ℕ) (at' : ℕ) → traced m log' at' ≡ traced_on image hit (traced now log at)
            → (p' : ℕ) → p' ≡ cond hit (p + 1) p → Under image irq2 s budget log₀ (n + 1) at' p' m log'
        unfolding traced_on
        goes_round h m log' at' e p' q =
            let lines = lines_at_fetch image (at_fetch hit now) in
            let none = asks_none image irq2 budget n at (length log₀) now u.within (asked t is ∙ going) h in
            let next = next-put simp (code_of image irq2) s budget log₀ n at now log u.going none in
            let machine : m ≡ stepped image hit now = ap (λ (t : Traced). t.machine) e in
            let place : at' ≡ at + length lines = ap (λ (t : Traced). t.at) e in
            let written : log' ≡ put log at lines = ap (λ (t : Traced). t.log) e in
            let same = lines_are image irq2 hit now is_hit in
            let size = same_length simp (code_of image irq2) s budget log₀ n at now log u.going in
            let room = has_room_lem in
            record {
              going = rw (add-one n, machine, place, written, cycle-is image irq2 hit now is_hit, same) next;
              place = rw (q, machine, age-after image hit now, here) (next_place now.core.age p irq2 (rises irq2 up) u.place);
              within = omega arith;
            }
