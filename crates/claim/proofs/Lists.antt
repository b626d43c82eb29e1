-- Demand 3 holds of every list of calls, for any machine that meets Laws. Assumes nothing.
use Prim.Native.Nat.{ℕ, zero, suc, ◌+◌, ◌-◌, ◌<◌, ◌≤◌}
use mathlib.Core.Path.{◌≡◌, refl, sym, ap, ◌∙◌, subst₂}
use mathlib.Core.Bool.{Bool, true, false}
use mathlib.Core.List.{List, [], ◌∷◌}
use native.Mathlib.Nat.{add-zero, add-suc, zero-add, add_assoc}
use native.Mathlib.Omega.{arith}
use lib.ListN.{length, take, drop}
use lib.Seq.{take-append_seam, drop-append_seam}
use lib.Dec.{eqb}
use borrow.Author.Tests.{eqb-true, eqb-false, eq-eqb, ne_eqb}
use Rattle.text.specs.declared.Outcome.{Outcome}
use Rattle.text.specs.Questions.{Question, accepted, first_no}
use Rattle.text.proofs.QuestionLaws.{first_yes}
use Rattle.claim.specs.Plain.{onward, after, log_after, Makes}
use Rattle.claim.specs.Calls.{Bytes, Lab, State, Stands, Call, run, run_other, trip, trip_other, Done, run_outcome}
use Rattle.claim.specs.Calls.{Ran, run_from, refuse, ran, run_call, Halves, halves, tripped, trip_outcome, trip_call, call, standing, session, total, joined, final}
use Rattle.claim.specs.Demand.{AllYes, code, plain, plain_log, Agrees, Unchanged, holding, Meets, Each, end, next, Demand3, Trace, done, then}
use Rattle.claim.specs.Laws.{Numbered, Laws}
use Rattle.claim.proofs.Runs.{after-add, log-add, makes-add, exact_makes, Runs, runs}

-- ---- questions

-- Where every question gets a yes, the call is accepted; ..
yes_outcome : (qs : List Question) → AllYes qs → first_no qs 0 (accepted 0) ≡ accepted 0
yes_outcome [] all = refl
yes_outcome (q ∷ qs) all = rw all.0 (yes_outcome qs all.1)

-- .. only then.
outcome_yes : (qs : List Question) → Numbered qs → (first_no qs 0 (accepted 0)).number ≡ 0 → AllYes qs
outcome_yes [] numbered e = tt
outcome_yes (q ∷ qs) numbered e =
    let number = numbered.0 in
    let first = first_yes q.0 0 q.1 (first_no qs 0 (accepted 0)) (omega arith) e in
    (first.0, outcome_yes qs numbered.1 first.1)

module _ (L : Lab) (laws : Laws L) (irqs : L.Irqs) where
  -- ---- the cycles of a run

  -- So many cycles later, the image as it was.
  abbrev later : Stands L → ℕ → Stands L
  later w n = record { image = w.image; state = after L.machine (L.code_of w.image irqs) n w.state }

  -- Cycles that are made keep what stands good.
  good_later : (w : Stands L) → laws.Good w → (n : ℕ) → Makes L.machine (L.code_of w.image irqs) n w.state → laws.Good (later w n)
  unfolding after onward
  good_later w good zero makes = good
  good_later w good (suc n) makes =
      rw (makes n (omega arith)) (laws.kept irqs (later w n) (good_later w good n (λ i h. makes i (omega arith))) (makes n (omega arith)))

  module _ (start : Stands L) (sound : laws.Good start) where
    -- ---- one call

    -- What one call does when w stands and m cycles are made.
    record Stepped (m : ℕ) (w : Stands L) (c : Call L) (d : Done L) : Type 0 where
      pub meets : Meets L irqs start m w c d
      pub good : laws.Good (standing L w c d)
      pub agrees : Agrees L irqs start (m + d.cycles) (standing L w c d)
      pub lines : take d.bytes d.log ≡ log_after L.machine (code L irqs start) d.cycles (plain L irqs start m)
      pub makes : Makes L.machine (code L irqs start) d.cycles (plain L irqs start m)

    -- A call that is refused changes nothing.
    unchanged : (w : Stands L) (log : Bytes) (outcome : Outcome) → Unchanged L irqs start w log (refuse L w log outcome)
    unchanged w log outcome = record { same = refl; kept = refl; cycles = refl; bytes = refl; reason = refl }

    trip-unchanged : (w : Stands L) (outcome : Outcome) (left : Halves L) → Unchanged L irqs start w [] (tripped L outcome w left)
    trip-unchanged w outcome left = record { same = refl; kept = refl; cycles = refl; bytes = refl; reason = refl }

    module _ (m : ℕ) (w : Stands L) where
      -- A call that counts nothing.
      still : (c : Call L) (d : Done L) → Meets L irqs start m w c d → laws.Good (standing L w c d) → Agrees L irqs start m (standing L w c d)
          → d.cycles ≡ 0 → d.bytes ≡ 0 → Stepped m w c d
      unfolding log_after
      still c d meets good agrees cycles bytes =
          let same : m + d.cycles ≡ m = omega arith in
          record {
            meets = meets;
            good = good;
            agrees = rw same agrees;
            lines = rw (cycles, bytes);
            makes = λ i h. absurd (omega arith);
          }

    module _ (m : ℕ) (w : Stands L) (good : laws.Good w) (agrees : Agrees L irqs start m w) where
      -- A run of what stands is one of the plain machine after m cycles.
      carried : (budget room : ℕ) (r : Ran (State L)) → Runs L.machine (L.code_of w.image irqs) w.state budget room r
          → Runs L.machine (code L irqs start) (plain L irqs start m) budget room r
      carried budget room r = subst₂ (λ c s. Runs L.machine c s budget room r) agrees.image agrees.state

      -- Where it is accepted, ..
      ran_step : (budget : ℕ) (log : Bytes) → (run_outcome L irqs w).number ≡ 0
          → Stepped m w (run budget log) (ran L w log (run_from L.machine (L.code_of w.image irqs) budget (length log) w.state))
      ran_step budget log e =
          let r = run_from L.machine (L.code_of w.image irqs) budget (length log) w.state in
          let here = runs L.machine (L.code_of w.image irqs) budget (length log) w.state in
          let there = carried budget (length log) r here in
          let asked = outcome_yes (L.asks irqs w) (laws.numbered irqs w) e in
          let outcome : accepted 0 ≡ run_outcome L irqs w = sym (yes_outcome (L.asks irqs w) asked) in
          let said = take-append_seam r.lines (drop (length r.lines) log) ∙ there.lines in
          let makes = exact_makes L.machine (L.code_of w.image irqs) w.state budget (length log) _ _ here.exact in
          record {
            meets = record {
              asked = outcome;
              exactly = (λ h. asked, λ h. refl);
              refused = λ h. absurd (h refl);
              as_first = outcome ∙ laws.alike irqs w start good sound;
              accepted = λ h. there.exact;
              bytes = ap length there.lines;
              lines = said;
              beyond = drop-append_seam r.lines _;
            };
            good = rw here.state (good_later w good r.cycles makes);
            agrees = record { state = there.state ∙ sym (after-add _ _ m r.cycles _); image = agrees.image };
            lines = said;
            makes = exact_makes L.machine (code L irqs start) (plain L irqs start m) budget (length log) _ _ there.exact;
          }

      -- .. and where it is refused.
      refused_step : (budget : ℕ) (log : Bytes) → ((run_outcome L irqs w).number ≡ 0 → ⊥)
          → Stepped m w (run budget log) (refuse L w log (run_outcome L irqs w))
      unfolding log_after
      refused_step budget log refusal =
          still m w (run budget log) (refuse L w log (run_outcome L irqs w))
          (record {
            asked = refl;
            exactly = (outcome_yes (L.asks irqs w) (laws.numbered irqs w), λ all. ap (λ (t : Outcome). t.number) (yes_outcome (L.asks irqs w) all));
            refused = λ h. unchanged w log _;
            as_first = laws.alike irqs w start good sound;
            accepted = λ h. absurd (refusal h);
            bytes = refl;
            lines = refl;
            beyond = refl;
          })
          good agrees refl refl

      -- A run that is lent something else.
      other_step : (budget : ℕ) (log : Bytes) (other : L.Irqs) (lent : Stands L) (refusal : (run_outcome L other lent).number ≡ 0 → ⊥)
          → Stepped m w (run_other budget log other lent refusal) (run_call L budget log other lent)
      unfolding run_call
      other_step budget log other lent refusal =
          rw (ne_eqb (run_outcome L other lent).number 0 refusal)
          (still m w (run_other budget log other lent refusal) (refuse L lent log (run_outcome L other lent))
          (record { asked = refl; refused = (refusal, unchanged lent log _) })
          good agrees refl refl)

      -- A trip of what stands, ..
      trip_step : (k : L.Kind) (space : Bytes) (into : L.Slice k) (same : L.SameLength k into)
          → Stepped m w (trip k space into same) (trip_call L w k (L.part k w) space into)
      unfolding trip_call
      trip_step k space into same = go (eqb (L.write_outcome k (L.part k w) space).number 0) refl
        where
          go : (t : Bool) → eqb (L.write_outcome k (L.part k w) space).number 0 ≡ t
              → Stepped m w (trip k space into same) (trip_call L w k (L.part k w) space into)
          go true e =
              let back = laws.back w good k space (eqb-true _ _ e) into same in
              let slice = L.read_into k (L.text_of k (L.part k w)) into in
              rw (e, eq-eqb _ _ back.0)
              (still m w (trip k space into same) (tripped L (accepted 0) (L.place k slice w) (halves k (L.wrote_into k (L.part k w) space) slice))
              (record {
                asked = rw (e, eq-eqb _ _ back.0);
                accepted = λ h. refl;
                sent = L.wrote_into k (L.part k w) space;
                slice = slice;
                left = refl;
                written = λ h. laws.written k (L.part k w) space (eqb-true _ _ e);
                read = λ h. refl;
                placed = λ h. refl;
                refused = λ h. absurd (h refl);
                counts = (refl, refl, refl);
              })
              back.1
              (record { state = back.2 ∙ agrees.state; image = back.3 irqs ∙ agrees.image })
              refl refl)
          go false e =
              let kept = laws.unwritten k (L.part k w) space (eqb-false _ _ e) in
              rw e
              (still m w (trip k space into same) (tripped L (L.write_outcome k (L.part k w) space) w (halves k (L.wrote_into k (L.part k w) space) into))
              (record {
                asked = rw e;
                accepted = laws.room w good k space;
                sent = L.wrote_into k (L.part k w) space;
                slice = into;
                left = refl;
                written = λ h. absurd (eqb-false _ _ e h);
                read = λ h. absurd (eqb-false _ _ e h);
                placed = λ h. absurd (eqb-false _ _ e h);
                refused = λ h. (trip-unchanged w _ _, kept, refl);
                counts = (refl, refl, refl);
              })
              good agrees refl refl)

      -- .. and one that is lent something else.
      other_trip_step : (k : L.Kind) (out : L.Lent k) (space : Bytes) (into : L.Slice k)
          (refusal : (L.write_outcome k out space).number ≡ 0 → (L.read_outcome k (L.text_of k out) into).number ≡ 0 → ⊥)
          → Stepped m w (trip_other k out space into refusal) (trip_call L w k out space into)
      unfolding trip_call
      other_trip_step k out space into refusal =
          go (eqb (L.write_outcome k out space).number 0) refl (eqb (L.read_outcome k (L.text_of k out) into).number 0) refl
        where
          refuses : (t : Outcome) (left : Halves L) → t ≡ trip_outcome L k out space into → (t.number ≡ 0 → ⊥)
              → (((L.write_outcome k out space).number ≡ 0 → ⊥) → left ≡ halves k space into)
              → ((L.write_outcome k out space).number ≡ 0 → left ≡ halves k (holding L irqs start (L.text_of k out) space) (L.refused_into k into))
              → Stepped m w (trip_other k out space into refusal) (tripped L t w left)
          refuses t left outcome h writer reader =
              still m w (trip_other k out space into refusal) (tripped L t w left)
              (record { asked = outcome; refused = (h, trip-unchanged w t left); writer = writer; reader = reader })
              good agrees refl refl

          go : (t : Bool) → eqb (L.write_outcome k out space).number 0 ≡ t → (u : Bool) → eqb (L.read_outcome k (L.text_of k out) into).number 0 ≡ u
              → Stepped m w (trip_other k out space into refusal) (trip_call L w k out space into)
          go true e true f = absurd (refusal (eqb-true _ _ e) (eqb-true _ _ f))
          go true e false f =
              rw (e, f)
              (refuses _ _ (rw (e, f)) (eqb-false _ _ f) (λ h. absurd (h (eqb-true _ _ e)))
              (λ h. rw (laws.written k out space h, laws.unread k (L.text_of k out) into (eqb-false _ _ f))))
          go false e u f =
              rw e (refuses _ _ (rw e) (eqb-false _ _ e) (λ h. rw (laws.unwritten k out space h)) (λ h. absurd (eqb-false _ _ e h)))

      -- Any call.
      step : (c : Call L) → Stepped m w c (call L irqs w c)
      unfolding run_call
      step (run budget log) = go (eqb (run_outcome L irqs w).number 0) refl
        where
          go : (t : Bool) → eqb (run_outcome L irqs w).number 0 ≡ t → Stepped m w (run budget log) (run_call L budget log irqs w)
          go true e = rw e (ran_step budget log (eqb-true _ _ e))
          go false e = rw e (refused_step budget log (eqb-false _ _ e))
      step (run_other budget log other lent refusal) = other_step budget log other lent refusal
      step (trip k space into same) = trip_step k space into same
      step (trip_other k out space into refusal) = other_trip_step k out space into refusal

    -- ---- a list of calls

    -- What a list of calls does when w stands and m cycles are made.
    record Rest (m : ℕ) (w : Stands L) (cs : List (Call L)) (ds : List (Done L)) : Type 0 where
      pub ends : Agrees L irqs start (m + total L ds) (final L w cs ds)
      pub logs : joined L ds ≡ log_after L.machine (code L irqs start) (total L ds) (plain L irqs start m)
      pub made : Makes L.machine (code L irqs start) (total L ds) (plain L irqs start m)
      pub each : Each L irqs start m w cs ds

    -- One call, and then a list.
    and-rest : (m : ℕ) (w : Stands L) (c : Call L) (cs : List (Call L)) (d : Done L) (ds : List (Done L))
        → Stepped m w c d → Rest (m + d.cycles) (standing L w c d) cs ds → Rest m w (c ∷ cs) (d ∷ ds)
    unfolding total joined final
    and-rest m w c cs d ds one more =
        let there = after-add L.machine (code L irqs start) m d.cycles start.state in
        record {
          ends = rw (← add_assoc) more.ends;
          logs = rw (log-add, ← there, one.lines, more.logs);
          made = makes-add L.machine (code L irqs start) d.cycles (total L ds) _ one.makes (rw (← there) more.made);
          each = next one.meets one.agrees more.each;
        }

    -- Any list.
    rest : (m : ℕ) (w : Stands L) → laws.Good w → Agrees L irqs start m w → (cs : List (Call L)) → Rest m w cs (session L irqs w cs)
    unfolding session total joined final log_after
    rest m w good agrees [] = record { ends = rw add-zero agrees; logs = refl; made = λ i h. absurd (omega arith); each = end }
    rest m w good agrees (c ∷ cs) =
        let one = step m w good agrees c in
        and-rest m w c cs _ _ one (rest (m + (call L irqs w c).cycles) (standing L w c (call L irqs w c)) one.good one.agrees cs)

    -- ---- the disk

    -- The first n cycles are made.
    module _ (n : ℕ) (made : Makes L.machine (code L irqs start) n start.state) where
      good-at : (i : ℕ) → i ≤ n → laws.Good (later start i)
      good-at i h = good_later start sound i (λ j k. made j (omega arith))

      plain-next : (i : ℕ) → i < n → plain L irqs start (suc i) ≡ L.machine.cycle (code L irqs start) (plain L irqs start i)
      unfolding after onward
      plain-next i h = rw (made i h)

      -- A command is accepted in cycle c. At the end of cycle c + j the disk has 1,024 - j cycles to go.
      left_at : (c j : ℕ) → L.accepts (code L irqs start) (plain L irqs start c) ≡ true → c + j < n → j ≤ 1024
          → laws.left (plain L irqs start (suc (c + j))) + j ≡ 1024
      left_at c zero a h k =
          rw (add-zero (laws.left _), add-zero c, plain-next c (omega arith)) (laws.taken irqs (later start c) (good-at c (omega arith)) a)
      left_at c (suc j) a h k =
          let before = left_at c j a (omega arith) (omega arith) in
          let one_less = laws.falls irqs (later start (suc (c + j))) (good-at (suc (c + j)) (omega arith)) (1023 - j) (omega arith) in
          rw (add-suc c j, plain-next (suc (c + j)) (omega arith), one_less) (omega arith)

      -- So it is busy up to the end of cycle c + 1023, ..
      busy_until : (c i : ℕ) → L.accepts (code L irqs start) (plain L irqs start c) ≡ true → c < i → i ≤ c + 1024 → i ≤ n
          → L.is_busy (plain L irqs start i) ≡ true
      busy_until c i a after-it before-end h =
          let same : suc (c + (i - suc c)) ≡ i = omega arith in
          let left = left_at c (i - suc c) a (omega arith) (omega arith) in
          rw (← same) (laws.busy (later start (suc (c + (i - suc c)))) (good-at _ (omega arith)) (1023 - (i - suc c)) (omega arith))

      -- .. and free at the end of cycle c + 1024.
      free-then : (c : ℕ) → L.accepts (code L irqs start) (plain L irqs start c) ≡ true → c + 1025 ≤ n → L.is_busy (plain L irqs start (c + 1025)) ≡ false
      free-then c a h =
          let left = left_at c 1024 a (omega arith) (omega arith) in
          rw add-suc (laws.free (later start (suc (c + 1024))) (good-at _ (omega arith)) (omega arith))

-- A call keeps what stands good.
pub call-good : (L : Lab) (laws : Laws L) (irqs : L.Irqs) (w : Stands L) → laws.Good w → (c : Call L) → laws.Good (standing L w c (call L irqs w c))
unfolding after
call-good L laws irqs w good c = (step L laws irqs w good 0 w good (record { state = refl; image = refl }) c).good

-- ---- demand 3

-- DEMAND 3 holds of what a list of calls does by the definitions that the contracts cite, ..
pub demand3 : (L : Lab) → Laws L → (irqs : L.Irqs) (start : Stands L) → L.Fresh start → (calls : List (Call L))
    → Demand3 L irqs start calls (session L irqs start calls)
unfolding after
demand3 L laws irqs start fresh calls =
    let good = laws.fresh start fresh in
    let all = rest L laws irqs start good 0 start good (record { state = refl; image = refl }) calls in
    record {
      ends = rw zero-add at all.ends;
      logs = all.logs;
      made = all.made;
      each = all.each;
      disk_busy = busy_until L laws irqs start good _ all.made;
      disk_free = free-then L laws irqs start good _ all.made;
    }

-- Calls that meet their contracts do what the definitions say.
traced : (L : Lab) (irqs : L.Irqs) (w : Stands L) (calls : List (Call L)) (ds : List (Done L)) → Trace L irqs w calls ds → ds ≡ session L irqs w calls
unfolding session
traced L irqs w calls ds done = refl
traced L irqs w calls ds (then {cs = cs} {d = d} {ds = more} e t) = rw (← e) (ap (λ (r : List (Done L)). d ∷ r) (traced L irqs _ cs more t))

-- .. and of what calls do that meet their contracts.
pub demand3_met : (L : Lab) → Laws L → (irqs : L.Irqs) (start : Stands L) → L.Fresh start → (calls : List (Call L)) (ds : List (Done L))
    → Trace L irqs start calls ds → Demand3 L irqs start calls ds
demand3_met L laws irqs start fresh calls ds t = rw (traced L irqs start calls ds t) (demand3 L laws irqs start fresh calls)

-- However the cycles are cut into calls: lists that count as many leave the same state, the same image to the machine, and the same log.
pub cuts : (L : Lab) (irqs : L.Irqs) (start : Stands L) {cs cs' : List (Call L)} {ds ds' : List (Done L)}
    → Demand3 L irqs start cs ds → Demand3 L irqs start cs' ds' → total L ds ≡ total L ds'
    → ((final L start cs ds).state ≡ (final L start cs' ds').state)
    × (L.code_of (final L start cs ds).image irqs ≡ L.code_of (final L start cs' ds').image irqs)
    × (joined L ds ≡ joined L ds')
cuts L irqs start one other same = (
  one.ends.state ∙ ap (plain L irqs start) same ∙ sym other.ends.state,
  one.ends.image ∙ sym other.ends.image,
  one.logs ∙ ap (plain_log L irqs start) same ∙ sym other.logs,
)
