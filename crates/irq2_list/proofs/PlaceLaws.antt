-- The irq2 list by a place that moves with the age, instead of a search in each cycle. Assumes nothing.
use Prim.Native.Nat.{ℕ, zero, suc, ◌+◌, ◌-◌, ◌^◌, ◌≤◌, ◌<◌, zero-le, suc-le-suc}
use mathlib.Core.Path.{◌≡◌, refl, sym, ◌∙◌, ap}
use mathlib.Core.Bool.{Bool, true, false, cond, ◌&&◌, ◌||◌, false≢true, or-true}
use mathlib.Core.List.{List, [], ◌∷◌}
use native.Mathlib.Nat.{not-suc-le-zero, le_of_suc-le-suc}
use native.Mathlib.Omega.{arith}
use native.Mathlib.Numerals.{add-one}
use lib.ListN.{length, get_or}
use lib.Dec.{eqb, ltb}
use Rattle.std.specs.List.{IsAllAdjacentAnswer}
use Rattle.std.specs.List.Sorted.{IsPartitionedBy, IsPartitionPoint}
use Rattle.std.proofs.lemmas.List.{get_or_default}
use borrow.Author.Tests.{lt-ltb, eq-eqb, ne_eqb, eqb-true, eqb-false, ltb-true, ltb-false}
use Rattle.text.proofs.Truth.{and_left, and_right}
use Rattle.files.specs.Irq2File.{rises_after, rising}
use Rattle.machine.specs.Interrupts.{is_in}
use Rattle.irq2_list.specs.Places.{PlaceOf, is_at, awaited_at}

-- ---- membership by places

is_in_at : (c : ℕ) (l : List ℕ) (i : ℕ) → i < length l → get_or l i 0 ≡ c → is_in c l ≡ true
unfolding is_in
is_in_at c [] i h e = absurd (not-suc-le-zero h)
is_in_at c (x ∷ l) zero h e = rw (eq-eqb c x (sym e))
is_in_at c (x ∷ l) (suc i) h e = rw (is_in_at c l i (le_of_suc-le-suc h) e, or-true)

is_in_where : (c : ℕ) (l : List ℕ) → is_in c l ≡ true → (i : ℕ) × (i < length l) × (get_or l i 0 ≡ c)
unfolding is_in
is_in_where c [] e = absurd (false≢true e)
is_in_where c (x ∷ l) e = go (eqb c x) refl (is_in_where c l) e
  where
    go : (t : Bool) → eqb c x ≡ t → (is_in c l ≡ true → (i : ℕ) × (i < length l) × (get_or l i 0 ≡ c)) → (t || is_in c l) ≡ true
        → (i : ℕ) × (i < suc (length l)) × (get_or (x ∷ l) i 0 ≡ c)
    go true q ih e = (0, omega arith, sym (eqb-true c x q))
    go false q ih e = let found = ih e in (suc found.0, suc-le-suc found.1, found.2)

lt_of_le_ne_suc : {a b : ℕ} → a ≤ b → (a ≡ b → ⊥) → a + 1 ≤ b
lt_of_le_ne_suc h n = omega arith

-- ---- a place in a list that rises

-- The list rises strictly.
abbrev pub Rises : List ℕ → Type 0
Rises l = (i j : ℕ) → i < j → j < length l → get_or l i 0 < get_or l j 0

module _ (c p : ℕ) (l : List ℕ) (rises : Rises l) (place : PlaceOf c p l) where
  at_yes : is_at c p l ≡ true → (p < length l) × (c ≡ get_or l p 0)
  at_yes e =
      (ltb-true p (length l) (and_left (ltb p (length l)) (eqb c (get_or l p 0)) e), eqb-true c (get_or l p 0) (and_right (ltb p (length l)) (eqb c (get_or l p 0)) e))

  at_no : is_at c p l ≡ false → p < length l → c ≡ get_or l p 0 → ⊥
  at_no e h q = false≢true (sym e ∙ rw (lt-ltb p (length l) h, eq-eqb c (get_or l p 0) q))

  -- No other entry is c.
  nowhere : is_at c p l ≡ false → (i : ℕ) → i < length l → get_or l i 0 ≡ c → ⊥
  nowhere e i h q = go (ltb i p) refl (ltb p i) refl
    where
      go : (t : Bool) → ltb i p ≡ t → (u : Bool) → ltb p i ≡ u → ⊥
      go true low u r = let less = place.before i (ltb-true i p low) in omega arith
      go false low true r =
          let above = ltb-true p i r in
          let less = rises p i above h in
          let least = place.after p (omega arith) (omega arith) in
          omega arith
      go false low false r =
          let here : i ≡ p = let a = ltb-false i p low in let b = ltb-false p i r in omega arith in
          at_no e (rw (← here) h) (sym (rw here at q))

  -- The cycle c is in the list exactly where it stands at its place.
  pub in_by_place : is_in c l ≡ is_at c p l
  in_by_place = go (is_at c p l) refl
    where
      absent : is_at c p l ≡ false → (t : Bool) → is_in c l ≡ t → t ≡ false
      absent e true q = let found = is_in_where c l q in absurd (nowhere e found.0 found.1 found.2)
      absent e false q = refl

      go : (t : Bool) → is_at c p l ≡ t → is_in c l ≡ t
      go true e = let at = at_yes e in is_in_at c l p at.0 (sym at.1)
      go false e = absent e (is_in c l) refl

  -- The place of the next cycle.
  pub next_place : PlaceOf (c + 1) (cond (is_at c p l) (p + 1) p) l
  next_place = go (is_at c p l) refl
    where
      past : is_at c p l ≡ true → (i : ℕ) → i < p + 1 → get_or l i 0 < c + 1
      past e i h = test (eqb i p) refl
        where
          test : (t : Bool) → eqb i p ≡ t → get_or l i 0 < c + 1
          test true q = rw (eqb-true i p q) (let at = (at_yes e).1 in omega arith)
          test false q = let other = eqb-false i p q in let less = place.before i (omega arith) in omega arith

      beyond : is_at c p l ≡ false → (i : ℕ) → p ≤ i → i < length l → c + 1 ≤ get_or l i 0
      beyond e i h k = let least = place.after i h k in lt_of_le_ne_suc least (λ q. nowhere e i k (sym q))

      go : (t : Bool) → is_at c p l ≡ t → PlaceOf (c + 1) (cond t (p + 1) p) l
      go true e =
          record { within = (let here = (at_yes e).0 in omega arith); before = past e; after = λ i h k. let at = (at_yes e).1 in let less = rises p i (omega arith) k in omega arith }
      go false e = record { within = place.within; before = λ i h. let less = place.before i h in omega arith; after = beyond e }

-- ---- a list that rises

-- What rises after c lies above it, ..
above : (c : ℕ) (l : List ℕ) → rises_after c l ≡ true → (i : ℕ) → i < length l → c < get_or l i 0
unfolding rises_after
above c [] e i h = absurd (not-suc-le-zero h)
above c (x ∷ l) e zero h = ltb-true c x (and_left (ltb c x) (rises_after x l) e)
above c (x ∷ l) e (suc i) h =
    let first = ltb-true c x (and_left (ltb c x) (rises_after x l) e) in
    let rest = above x l (and_right (ltb c x) (rises_after x l) e) i (le_of_suc-le-suc h) in
    omega arith

-- .. and rises.
rises_after_lem : (c : ℕ) (l : List ℕ) → rises_after c l ≡ true → Rises l
unfolding rises_after
rises_after_lem c [] e i j h k = absurd (not-suc-le-zero k)
rises_after_lem c (x ∷ l) e i zero h k = absurd (not-suc-le-zero h)
rises_after_lem c (x ∷ l) e zero (suc j) h k = above x l (and_right (ltb c x) (rises_after x l) e) j (le_of_suc-le-suc k)
rises_after_lem c (x ∷ l) e (suc i) (suc j) h k = rises_after_lem x l (and_right (ltb c x) (rises_after x l) e) i j (le_of_suc-le-suc h) (le_of_suc-le-suc k)

-- A list whose cycles are strictly rising rises from every place to every later one.
pub rises : (l : List ℕ) → rising l ≡ true → Rises l
unfolding rising
rises [] e i j h k = absurd (not-suc-le-zero k)
rises (x ∷ l) e i zero h k = absurd (not-suc-le-zero h)
rises (x ∷ l) e zero (suc j) h k = above x l e j (le_of_suc-le-suc k)
rises (x ∷ l) e (suc i) (suc j) h k = rises_after_lem x l e i j (le_of_suc-le-suc h) (le_of_suc-le-suc k)

-- ---- asking whether a list rises, of each cycle and the next

-- It does where each cycle is below the next, ..
rises_on : (c : ℕ) (l : List ℕ) → ((k : ℕ) → k < length l → get_or (c ∷ l) k 0 < get_or (c ∷ l) (suc k) 0) → rises_after c l ≡ true
unfolding rises_after
rises_on c [] each = refl
rises_on c (x ∷ l) each =
    let first : ltb c x ≡ true = lt-ltb c x (each 0 (omega arith)) in
    rw (first, rises_on x l (λ k h. each (suc k) (suc-le-suc h)))

pub rises_where : (l : List ℕ) → ((k : ℕ) → k + 1 < length l → get_or l k 0 < get_or l (k + 1) 0) → rising l ≡ true
unfolding rising
rises_where [] each = refl
rises_where (c ∷ l) each = rises_on c l (λ k h. rw add-one at (each k (omega arith)))

-- .. and not where one is not.
pub rises_not : (l : List ℕ) (k : ℕ) → k + 1 < length l → (get_or l k 0 < get_or l (k + 1) 0 → ⊥) → rising l ≡ false
rises_not l k h never = go (rising l) refl
  where
    go : (t : Bool) → rising l ≡ t → t ≡ false
    go true e = absurd (never (rises l e k (k + 1) (omega arith) h))
    go false e = refl

-- What a test of each cycle and the next answers.
pub rising-answer : (l : List ℕ) (r : Bool) → IsAllAdjacentAnswer (λ x y b. b ≡ ltb x y) l r → r ≡ rising l
rising-answer l true all = sym (rises_where l (λ k h. ltb-true _ _ (sym (all k 0 h))))
rising-answer l false some = sym (rises_not l some.0 some.1 (λ less. false≢true (some.2 0 ∙ lt-ltb _ _ less)))

-- In a list that rises, no cycle below c comes after one that is not.
pub parted : (c : ℕ) (l : List ℕ) → Rises l → IsPartitionedBy (λ x. ltb x c) l
parted c l up i j d low inside e = go (ltb i j) refl
  where
    go : (t : Bool) → ltb i j ≡ t → ltb (get_or l i d) c ≡ true
    go true less =
        let first : get_or l i d ≡ get_or l i 0 = get_or_default l i d 0 (let h = ltb-true i j less in omega arith) in
        let second : get_or l j d ≡ get_or l j 0 = get_or_default l j d 0 inside in
        let above = up i j (ltb-true i j less) inside in
        let below = ltb-true (get_or l j d) c e in
        lt-ltb (get_or l i d) c (omega arith)
    go false same = let here : i ≡ j = let h = ltb-false i j same in omega arith in rw here e

-- ---- finding a place, by halves or otherwise

-- The place of c lies from low to high.
pub record Between (c low high : ℕ) (l : List ℕ) : Type 0 where
  pub order : low ≤ high
  pub within : high ≤ length l
  pub before : (i : ℕ) → i < low → get_or l i 0 < c
  pub after : (i : ℕ) → high ≤ i → i < length l → c ≤ get_or l i 0

module _ {c low high : ℕ} {l : List ℕ} (b : Between c low high l) (up : Rises l) where
  pub between_up : (m : ℕ) → low ≤ m → m < high → get_or l m 0 < c → Between c (m + 1) high l
  between_up m h k less =
      record { order = omega arith; within = b.within; before = λ i j. go i j (ltb i m) refl; after = b.after }
    where
      go : (i : ℕ) → i < m + 1 → (t : Bool) → ltb i m ≡ t → get_or l i 0 < c
      go i j true e =
          let size = b.within in
          let lower = up i m (ltb-true i m e) (omega arith) in
          omega arith
      go i j false e = let here : i ≡ m = let a = ltb-false i m e in omega arith in rw here less

  pub between_down : (m : ℕ) → low ≤ m → m < high → c ≤ get_or l m 0 → Between c low m l
  between_down m h k more =
      record { order = h; within = (let size = b.within in omega arith); before = b.before; after = λ i j s. go i j s (ltb m i) refl }
    where
      go : (i : ℕ) → m ≤ i → i < length l → (t : Bool) → ltb m i ≡ t → c ≤ get_or l i 0
      go i j s true e = let higher = up m i (ltb-true m i e) s in omega arith
      go i j s false e = let here : i ≡ m = let a = ltb-false m i e in omega arith in rw here more

pub between_found : {c low high : ℕ} {l : List ℕ} → Between c low high l → high ≤ low → PlaceOf c low l
between_found b h =
    let order = b.order in
    let size = b.within in
    record { within = omega arith; before = b.before; after = λ i j k. b.after i (omega arith) k }

-- All below a place are below c, and none from it on.
pub between-parted : (c p : ℕ) (l : List ℕ) → p ≤ length l → IsPartitionPoint (λ x. ltb x c ≡ true) (λ x. ltb x c ≡ false) l p → Between c p p l
between-parted c p l within parts =
    record { order = omega arith; within = within; before = λ i h. ltb-true _ _ (parts.0 i 0 zero-le h); after = λ i h k. ltb-false _ _ (parts.1 i 0 h k) }

-- ---- what a run waits for

-- It is c where c stands at the place.
at_awaited : (c p : ℕ) (l : List ℕ) → c < 2 ^ 64 - 1 → eqb c (awaited_at p l) ≡ is_at c p l
at_awaited c p l h = go (ltb p (length l))
  where
    go : (t : Bool) → eqb c (cond t (get_or l p 0) (2 ^ 64 - 1)) ≡ (t && eqb c (get_or l p 0))
    go true = refl
    go false = ne_eqb c (2 ^ 64 - 1) (λ e. omega (arith, e, h))

pub hit_at : (hit : Bool) (c p x : ℕ) (l : List ℕ) → c < 2 ^ 64 - 1 → x ≡ awaited_at p l → hit ≡ eqb c x → hit ≡ is_at c p l
hit_at hit c p x l h e q = q ∙ ap (eqb c) e ∙ at_awaited c p l h
