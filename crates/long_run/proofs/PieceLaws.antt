-- A run of a sound machine is a piece of the plain machine's run. Assumes nothing.
use Prim.Native.Nat.{ℕ, zero, suc, ◌+◌, ◌-◌, ◌^◌, ◌≤◌, ◌<◌}
use mathlib.Core.Path.{◌≡◌, refl, sym, ◌∙◌, ap, subst}
use mathlib.Core.Bool.{Bool, true, false, ◌||◌, false≢true}
use mathlib.Core.Logic.{◌⊎◌, inl, inr, ⊎_elim}
use mathlib.Core.List.{List, ◌++◌}
use native.Mathlib.Omega.{arith}
use lib.ListN.{length, take, length-append}
use lib.Seq.{take-append_seam}
use borrow.Author.Tests.{eq-eqb, eqb-true, eqb-false}
use Rattle.files.specs.MemoryFile.{low48}
use Rattle.files.specs.Irq2File.{rising}
use Rattle.machine.specs.declared.Record.{Record}
use Rattle.machine.specs.State.{Machine, fresh_machine}
use Rattle.machine.specs.Soundness.{Sound}
use Rattle.machine.specs.Interrupts.{is_in}
use Rattle.machine.specs.Cycle.{is_stopped, is_at_limit}
use Rattle.machine.proofs.SoundLaws.{sound-cycle}
use Rattle.machine.proofs.LineLaws.{lines-at_most}
use Rattle.executor.specs.Lent.{Sized}
use Rattle.saved.specs.Calls.{fresh_record}
use Rattle.saved.proofs.SoundTest.{sound_test}
use Rattle.claim.specs.Plain.{is_over, onward, after, Makes, Exact}
use Rattle.claim.specs.Calls.{Done, Ran, run_from, ran, run_call}
use Rattle.claim.proofs.Runs.{after-add, log-add, makes-add, Runs, exact_makes, runs}
use Rattle.runner.specs.declared.RunReport.{RunReport}
use Rattle.runner.specs.Answers.{ran_reason, done_of}
use Rattle.runner.specs.Lab.{lab, simp, code_of, machine_of, standing_of, are_lengths, Standing}
use Rattle.runner.proofs.RunLaws.{run-accepted}
use Rattle.long_run.specs.declared.RunEnd.{RunEnd}
use Rattle.long_run.specs.Pieces.{machine_after, lines_of, is_log_full, Piece, Ends}
use Rattle.long_run.proofs.RunLaws.{run-within, run-goes_on, over-or_spent, run_ends, run_says}

-- ---- a sound machine stays one

abbrev IsSound : Machine → Type 0
IsSound m = Sound m.core m.regs m.io

not_over : (a b : Bool) → (a || b) ≡ false → b ≡ false
not_over true b e = absurd (false≢true (sym e))
not_over false b e = e

module _ (image irq2 : List ℕ) where
  sound-next : (m : Machine) → IsSound m → is_over simp m ≡ false → IsSound (simp.cycle (code_of image irq2) m)
  sound-next m h more =
      let limit = eqb-false m.core.age (2 ^ 40 - 1) (not_over (is_stopped m) (is_at_limit m) more) in
      let young : m.core.age < 2 ^ 40 - 1 = omega (arith, h.core.age, limit) in
      (sound-cycle (low48 image) (is_in m.core.age irq2) m (record { record_is = h }) young).record_is

  sound-after : (m : Machine) → IsSound m → (n : ℕ) → Makes simp (code_of image irq2) n m → IsSound (machine_after image irq2 n m)
  unfolding after onward
  sound-after m h zero makes = h
  sound-after m h (suc n) makes =
      rw (makes n (omega arith)) (sound-next (machine_after image irq2 n m) (sound-after m h n (λ i k. makes i (omega arith))) (makes n (omega arith)))

-- ---- one run of it

module _ (image irq2 memory disk frame log : List ℕ) (state : Record) (budget : ℕ)
    (h : Sound state.core state.regs state.io) (size : length image ≡ 4096) (sizes : Sized memory disk frame) (long : 231 ≤ length log) (rises : rising irq2 ≡ true) where
  abbrev start : Machine
  start = machine_of state memory disk frame

  abbrev lent : Standing
  lent = standing_of image state memory disk frame

  -- What the run makes: cycles of the plain machine and their lines, exactly until it has a reason to stop.
  abbrev made : Ran Machine
  made = run_from simp (code_of image irq2) budget (length log) start

  so : Runs simp (code_of image irq2) start budget (length log) made
  so = runs simp (code_of image irq2) budget (length log) start

  -- It is accepted.
  lengths : are_lengths lent ≡ true
  lengths =
      rw (
        eq-eqb (length image) 4096 size,
        eq-eqb (length memory) 4096 sizes.memory_size,
        eq-eqb (length disk) 16384 sizes.disk_size,
        eq-eqb (length frame) 65536 sizes.frame_size,
      )

  accepts : ran lab lent log made ≡ run_call lab budget log irq2 lent
  accepts = run-accepted lent irq2 log budget lengths rises (sound_test state h) (ran lab lent log made) refl

  -- The lines of its first cycle fit the log.
  fits : length (simp.lines (code_of image irq2) start) ≤ length log
  fits = let most = lines-at_most (low48 image) (is_in state.core.age irq2) start h.thirteen h.core.age in omega arith

  -- What it reported and left.
  module _ (r : RunReport) (memory' disk' frame' log' : List ℕ) (e : done_of r image memory' disk' frame' log' ≡ run_call lab budget log irq2 lent) where
    is : done_of r image memory' disk' frame' log' ≡ ran lab lent log made
    is = e ∙ sym accepts

    cycles : r.cycles ≡ made.cycles
    cycles = ap (λ (d : Done lab). d.cycles) is

    reason : ran_reason r.answer ≡ made.reason
    reason = ap (λ (d : Done lab). d.reason) is

    bytes : r.bytes ≡ length made.lines
    bytes = ap (λ (d : Done lab). d.bytes) is

    exact : Exact simp (code_of image irq2) start budget (length log) r.cycles (ran_reason r.answer)
    exact = rw (cycles, reason) so.exact

    machine : machine_of r.state memory' disk' frame' ≡ machine_after image irq2 r.cycles start
    machine = ap (λ (d : Done lab). d.lent.state) is ∙ rw cycles so.state

    lines : take r.bytes log' ≡ lines_of image irq2 r.cycles start
    lines = rw (ap (λ (d : Done lab). d.log) is, bytes, take-append_seam, cycles) so.lines

    room : r.bytes ≤ length log'
    room = rw (ap (λ (d : Done lab). d.log) is, bytes, length-append) (omega arith)

    makes : Makes simp (code_of image irq2) r.cycles start
    makes = exact_makes simp (code_of image irq2) start budget (length log) _ _ exact

    pub piece : Piece image irq2 budget start r (machine_of r.state memory' disk' frame') log'
    piece =
        record {
          machine = machine;
          lines = lines;
          room = room;
          sound = subst IsSound (sym machine) (sound-after image irq2 start h r.cycles makes);
          makes = makes;
          within = run-within simp (code_of image irq2) start budget (length log) _ _ exact;
          goes_on = λ full. run-goes_on simp (code_of image irq2) start budget (length log) r.cycles (rw (eqb-true (ran_reason r.answer) 2 full) at exact) fits;
          ends = λ other.
              let last = eqb-false (ran_reason r.answer) 2 other in (
                machine ∙ run_ends simp (code_of image irq2) start budget (length log) _ _ exact last,
                lines ∙ run_says simp (code_of image irq2) start budget (length log) _ _ exact last,
              );
          over = λ other. subst (λ (x : Machine). (is_over simp x ≡ true) ⊎ (r.cycles ≡ budget)) (sym machine) (over-or_spent simp (code_of image irq2) start budget (length log) _ _ exact (eqb-false (ran_reason r.answer) 2 other));
        }

-- ---- one run after the other

module _ {image irq2 : List ℕ} {budget : ℕ} {m n : Machine} {r : RunReport} {log : List ℕ} (p : Piece image irq2 budget m r n log) where
  parts : r.cycles + (budget - r.cycles) ≡ budget
  parts = omega (arith, p.within)

  -- What the rest of the budget logs after a piece: a piece and the rest are the whole log.
  pub rest_lines : take r.bytes log ++ lines_of image irq2 (budget - r.cycles) n ≡ lines_of image irq2 budget m
  rest_lines = rw (p.lines, p.machine, ← log-add simp (code_of image irq2) r.cycles (budget - r.cycles) m, parts)

  -- A piece of no cycle: the machine is over, or there is no budget.
  pub piece_starts : r.cycles ≡ 0 → (is_over simp m ≡ true) ⊎ (budget ≡ 0)
  unfolding after
  piece_starts none = go (is_log_full r.answer) refl
    where
      go : (t : Bool) → is_log_full r.answer ≡ t → (is_over simp m ≡ true) ⊎ (budget ≡ 0)
      go true full = absurd (omega (arith, p.goes_on full))
      go false other =
          let same : n ≡ m = p.machine ∙ rw none in
          ⊎_elim (λ over. inl (rw same at over)) (λ spent. inr (sym spent ∙ none)) (p.over other)

-- ---- all runs so far

-- The machine n stands in the plain machine's run from m with so much budget: so much is left.
pub record On (image irq2 : List ℕ) (budget : ℕ) (m : Machine) (left : ℕ) (n : Machine) : Type 0 where
  pub sound : IsSound n
  pub within : left ≤ budget
  pub machine : n ≡ machine_after image irq2 (budget - left) m
  pub makes : Makes simp (code_of image irq2) (budget - left) m

module _ {image irq2 : List ℕ} {budget : ℕ} {m : Machine} where
  pub on_first : IsSound m → On image irq2 budget m budget m
  unfolding after
  on_first h =
      let none : 0 ≡ budget - budget = omega arith in
      record { sound = h; within = omega arith; machine = ap (λ (k : ℕ). machine_after image irq2 k m) none; makes = λ i few. absurd (omega arith) }

  module _ {left : ℕ} {n n' : Machine} {r : RunReport} {log : List ℕ} (o : On image irq2 budget m left n) (p : Piece image irq2 left n r n' log) where
    so_far : budget - left + r.cycles ≡ budget - (left - r.cycles)
    so_far = omega (arith, o.within, p.within)

    -- A piece more.
    pub on_more : On image irq2 budget m (left - r.cycles) n'
    on_more =
        record {
          sound = p.sound;
          within = omega (arith, o.within);
          machine =
              p.machine ∙ ap (machine_after image irq2 r.cycles) o.machine ∙ sym (after-add simp (code_of image irq2) (budget - left) r.cycles m)
              ∙ ap (λ (k : ℕ). machine_after image irq2 k m) so_far;
          makes = rw so_far at (makes-add simp (code_of image irq2) (budget - left) r.cycles m o.makes (rw o.machine at p.makes));
        }

    -- The last piece.
    pub on_last : is_log_full r.answer ≡ false → n' ≡ machine_after image irq2 budget m
    on_last other =
        (p.ends other).0 ∙ ap (machine_after image irq2 left) o.machine ∙ sym (after-add simp (code_of image irq2) (budget - left) left m)
        ∙ ap (λ (k : ℕ). machine_after image irq2 k m) (let so : budget - left + left ≡ budget = omega (arith, o.within) in so)

    -- Nothing is made only at the start.
    pub on_starts : budget - (left - r.cycles) ≡ 0 → (is_over simp m ≡ true) ⊎ (budget ≡ 0)
    unfolding after
    on_starts none =
        let all : left ≡ budget = omega (arith, o.within, p.within) in
        let no_more : budget - left ≡ 0 = omega arith in
        let same : n ≡ m = o.machine ∙ rw no_more in
        go r.cycles refl same all
      where
        go : (k : ℕ) → r.cycles ≡ k → n ≡ m → left ≡ budget → (is_over simp m ≡ true) ⊎ (budget ≡ 0)
        go zero e same all = rw (all, same) at (piece_starts p e)
        go (suc k) e same all = inr (omega (arith, p.within, none))

    -- The last piece leaves a machine that is over, or no budget.
    pub on_over : is_log_full r.answer ≡ false → (is_over simp n' ≡ true) ⊎ (budget - (left - r.cycles) ≡ budget)
    on_over other = ⊎_elim inl (λ spent. inr (omega (arith, spent, o.within))) (p.over other)

-- Before the first.
pub fresh-ends : {image irq2 : List ℕ} {budget : ℕ} {r : RunEnd} {n : Machine} (state : Record) (memory disk frame : List ℕ) → state ≡ fresh_record
    → Ends image irq2 budget (machine_of state memory disk frame) r n → Ends image irq2 budget (fresh_machine memory disk frame) r n
fresh-ends {image} {irq2} {budget} {r} {n} state memory disk frame e h = rw e at h
