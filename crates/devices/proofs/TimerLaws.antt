-- When irq0status rises. Assumes nothing.
use Rattle.std.proofs.Common.{◌≡◌, ℕ, ◌+◌, ◌%◌, ◌^◌, ◌≤◌, Bool, true, false, cond, eqb, List, length, get_or, set, refl, ◌∙◌, arith, length-set, get_or-set_other, get_or-set_same, eq-eqb, ne_eqb}
use Rattle.devices.specs.Numbers.{irq0status, timerenable, timercurrent, timermax, device_registers}
use Rattle.devices.specs.Timer.{timed}

pub length-timed : (io : List ℕ) → length (timed io) ≡ length io
unfolding timed
length-timed io = go (eqb (get_or io timerenable 0) 1) (eqb (get_or io timercurrent 0) (get_or io timermax 0))
  where
    go : (a b : Bool)
        → length (cond a (cond b (set (set io irq0status 1) timercurrent 0) (set io timercurrent ((get_or io timercurrent 0 + 1) % 2 ^ 32))) io) ≡ length io
    go true true = simp length-set
    go true false = simp length-set
    go false b = refl

module _ (io : List ℕ) (has : device_registers ≤ length io) where
  -- A timer that is not enabled does nothing.
  pub timer_off : (get_or io timerenable 0 ≡ 1 → ⊥) → timed io ≡ io
  unfolding timed
  timer_off off = rw (ne_eqb _ 1 off)

  module _ (on : get_or io timerenable 0 ≡ 1) where
    -- At timermax it asks for its interrupt and begins anew.
    pub timer_rises : get_or io timercurrent 0 ≡ get_or io timermax 0 → (get_or (timed io) irq0status 0 ≡ 1) × (get_or (timed io) timercurrent 0 ≡ 0)
    unfolding timed
    timer_rises full =
        rw (eq-eqb _ 1 on, eq-eqb _ _ full) (
          get_or-set_other (set io irq0status 1) timercurrent irq0status 0 0 (omega arith) ∙ get_or-set_same io irq0status 1 0 (omega arith),
          get_or-set_same (set io irq0status 1) timercurrent 0 0 (rw length-set (omega arith)),
        )

    -- Elsewhere it counts, and irq0status stays as it is.
    pub timer-counts : (get_or io timercurrent 0 ≡ get_or io timermax 0 → ⊥)
        → (get_or (timed io) irq0status 0 ≡ get_or io irq0status 0) × (get_or (timed io) timercurrent 0 ≡ (get_or io timercurrent 0 + 1) % 2 ^ 32)
    unfolding timed
    timer-counts more =
        rw (eq-eqb _ 1 on, ne_eqb _ _ more)
        (get_or-set_other io timercurrent irq0status _ 0 (omega arith), get_or-set_same io timercurrent _ 0 (omega arith))
