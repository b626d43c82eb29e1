-- Tokens, one byte after the other. Assumes nothing.
use Prim.Native.Nat.{ℕ, suc, ◌+◌, ◌-◌, ◌≤◌, ◌<◌}
use mathlib.Core.Path.{◌≡◌, refl, sym, ◌∙◌, ap}
use mathlib.Core.Bool.{Bool, true, false, not, ◌||◌, false≢true}
use mathlib.Core.List.{List, [], ◌∷◌, ◌++◌}
use native.Mathlib.Numerals.{add-one}
use native.Mathlib.Omega.{arith}
use lib.Dec.{eqb, ltb}
use borrow.Author.Tests.{eq-eqb, ne_eqb, not-true, ltb-true, ltb-false}
use lib.ListN.{length, get_or, take, drop, drop_of_length-le, length-drop}
use lib.Seq.{drop-cons, get_or-drop, take-suc, append_snoc}
use Rattle.source.specs.Bytes.{is_blank}
use Rattle.source.specs.Tokens.{Token, token, closes, follows, is_joined, joined, tokens_from}
use Rattle.text.proofs.Truth.{and_right, neither}
use Rattle.std.specs.Prelude.{None, Some}
use Rattle.source.specs.Spans.{Begins, FirstStart, StartsAt, EndsAt, FirstToken}

module _ (l : List ℕ) (i : ℕ) where
  -- None is left at the end.
  pub at-end : length l ≤ i → tokens_from i (drop i l) ≡ []
  unfolding tokens_from
  at-end h = rw (drop_of_length-le l h)

  module _ (h : i < length l) where
    rest : drop i l ≡ get_or l i 0 ∷ drop (i + 1) l
    rest = drop-cons l i 0 h ∙ ap (λ (k : ℕ). get_or l i 0 ∷ drop k l) (sym (add-one i))

    -- A blank is skipped.
    pub skipped : is_blank (get_or l i 0) ≡ true → tokens_from i (drop i l) ≡ tokens_from (i + 1) (drop (i + 1) l)
    unfolding tokens_from
    skipped e = rw (rest, e)

    -- A comment ends the tokens.
    pub commented : is_blank (get_or l i 0) ≡ false → eqb (get_or l i 0) 35 ≡ true → tokens_from i (drop i l) ≡ []
    unfolding tokens_from
    commented e f = rw (rest, e, f)

    module _ (b : Begins (get_or l i 0)) where
      -- The last byte of a token, ..
      last : is_joined (get_or l i 0) (drop (i + 1) l) ≡ false → tokens_from i (drop i l) ≡ token i (get_or l i 0 ∷ []) ∷ tokens_from (i + 1) (drop (i + 1) l)
      unfolding tokens_from
      last e = rw (rest, b.blank, b.comment, e)

      -- .. and one before it.
      more : is_joined (get_or l i 0) (drop (i + 1) l) ≡ true → tokens_from i (drop i l) ≡ joined i (get_or l i 0) (tokens_from (i + 1) (drop (i + 1) l))
      unfolding tokens_from
      more e = rw (rest, b.blank, b.comment, e)

-- ---- where a token starts

-- The blanks from p to i are skipped.
pub record Skipped (l : List ℕ) (p i : ℕ) : Type 0 where
  pub from : p ≤ i
  pub within : i ≤ length l
  pub same : tokens_from p (drop p l) ≡ tokens_from i (drop i l)

pub none_skipped : (l : List ℕ) (p : ℕ) → p ≤ length l → Skipped l p p
none_skipped l p h = record { from = omega arith; within = h; same = refl }

module _ {l : List ℕ} {p i : ℕ} (s : Skipped l p i) where
  pub one_skipped : i < length l → (t : Bool) → t ≡ is_blank (get_or l i 0) → t ≡ true → Skipped l p (i + 1)
  one_skipped h t is e =
      let from = s.from in
      record { from = omega arith; within = omega arith; same = s.same ∙ skipped l i h (sym is ∙ e) }

  pub starts_nowhere : length l ≤ i → StartsAt l p None
  starts_nowhere h = s.same ∙ at-end l i h

  pub starts_in_comment : i < length l → get_or l i 0 ≡ 35 → StartsAt l p None
  starts_in_comment h e = s.same ∙ commented l i h (ap is_blank e) (eq-eqb (get_or l i 0) 35 e)

  pub starts-here : i < length l → (t : Bool) → t ≡ is_blank (get_or l i 0) → t ≡ false → (get_or l i 0 ≡ 35 → ⊥) → StartsAt l p (Some i)
  starts-here h t is e n =
      record { from = s.from; within = h; same = s.same; begins = record { blank = sym is ∙ e; comment = ne_eqb (get_or l i 0) 35 n } }

-- ---- where it ends

-- The bytes from a to i are of one token.
pub record Within (l : List ℕ) (a i : ℕ) : Type 0 where
  pub from : a ≤ i
  pub inside : i < length l
  pub begins : Begins (get_or l i 0)
  pub is : (bs : List ℕ) (ts : List Token) → tokens_from i (drop i l) ≡ token i bs ∷ ts → tokens_from a (drop a l) ≡ token a (take (i - a) (drop a l) ++ bs) ∷ ts

pub first-within : (l : List ℕ) (a : ℕ) → a < length l → Begins (get_or l a 0) → Within l a a
first-within l a h b =
    let none : a - a ≡ 0 = omega arith in
    record { from = omega arith; inside = h; begins = b; is = λ bs ts e. rw none e }

-- The bytes up to i, and byte i.
grown : (l : List ℕ) (a i : ℕ) → a ≤ i → i < length l → take (i + 1 - a) (drop a l) ≡ take (i - a) (drop a l) ++ (get_or l i 0 ∷ [])
grown l a i h k =
    let one : i + 1 - a ≡ suc (i - a) = omega arith in
    let place : a + (i - a) ≡ i = omega arith in
    let size = length-drop a l in
    rw one (take-suc (drop a l) (i - a) 0 (omega arith) ∙ rw (get_or-drop a l (i - a) 0, place))

-- The byte after one that is joined to it begins as one of a token can.
follows-begins : (b c : ℕ) (s : List ℕ) → is_joined b (c ∷ s) ≡ true → Begins c
follows-begins b c s e =
    let f = and_right (not (closes b)) (follows c) e in
    let other = not-true (is_blank c || eqb c 44 || eqb c 35) f in
    record {
      blank = (neither (is_blank c) (eqb c 44) (neither (is_blank c || eqb c 44) (eqb c 35) other).0).0;
      comment = (neither (is_blank c || eqb c 44) (eqb c 35) other).1;
    }

-- A byte that is joined to the next is not the line's last.
joined_more : (l : List ℕ) (i b : ℕ) → is_joined b (drop (i + 1) l) ≡ true → i + 1 < length l
joined_more l i b e = go (ltb (i + 1) (length l)) refl
  where
    go : (t : Bool) → ltb (i + 1) (length l) ≡ t → i + 1 < length l
    go true q = ltb-true (i + 1) (length l) q
    go false q = absurd (false≢true (sym (ap (is_joined b) (drop_of_length-le l (ltb-false (i + 1) (length l) q))) ∙ e))

module _ {l : List ℕ} {a i : ℕ} (w : Within l a i) (t : Bool) (is : t ≡ is_joined (get_or l i 0) (drop (i + 1) l)) where
  -- One byte more.
  pub one-within : t ≡ true → Within l a (i + 1)
  one-within e =
      let from = w.from in
      let yet = joined_more l i (get_or l i 0) (sym is ∙ e) in
      let here = drop-cons l (i + 1) 0 yet in
      record {
        from = omega arith;
        inside = yet;
        begins = follows-begins (get_or l i 0) (get_or l (i + 1) 0) (drop (suc (i + 1)) l) (ap (is_joined (get_or l i 0)) (sym here) ∙ sym is ∙ e);
        is = λ bs ts q.
            w.is (get_or l i 0 ∷ bs) ts (more l i w.inside w.begins (sym is ∙ e) ∙ ap (joined i (get_or l i 0)) q)
            ∙ ap (λ (x : List ℕ). token a x ∷ ts) (sym (append_snoc (take (i - a) (drop a l)) (get_or l i 0) bs) ∙ ap (λ (x : List ℕ). x ++ bs) (sym (grown l a i from w.inside)));
      }

  -- The last one.
  pub ends-here : t ≡ false → EndsAt l a (i + 1)
  ends-here e =
      let from = w.from in
      let inside = w.inside in
      record {
        after = omega arith;
        within = omega arith;
        is =
            w.is (get_or l i 0 ∷ []) (tokens_from (i + 1) (drop (i + 1) l)) (last l i inside w.begins (sym is ∙ e))
            ∙ ap (λ (x : List ℕ). token a x ∷ tokens_from (i + 1) (drop (i + 1) l)) (sym (grown l a i from inside));
      }

-- It is the line's last byte.
pub ends_with_line : {l : List ℕ} {a i : ℕ} → Within l a i → i + 1 ≡ length l → EndsAt l a (length l)
ends_with_line {l} {a} {i} w e = rw (← e) (ends-here w false (sym (ap (is_joined (get_or l i 0)) (drop_of_length-le l {i = i + 1} (omega arith)))) refl)

-- ---- the next token

pub token-there : {l : List ℕ} {p s r : ℕ} → FirstStart l p s → EndsAt l s r → FirstToken l p (record { start = s; end = r })
token-there a b = record { from = a.from; order = b.after; within = b.within; is = a.same ∙ b.is }

-- ---- whether two bytes are of one token

pub joined_pair : (l : List ℕ) (i : ℕ) → i + 1 < length l → is_joined (get_or l i 0) (get_or l (i + 1) 0 ∷ []) ≡ is_joined (get_or l i 0) (drop (i + 1) l)
joined_pair l i h = rw (drop-cons l (i + 1) 0 h)

-- ---- whether two bytes are of one token

pub joined-at-end : (l : List ℕ) (i b : ℕ) → i + 1 ≡ length l → false ≡ is_joined b (drop (i + 1) l)
joined-at-end l i b e = sym (ap (is_joined b) (drop_of_length-le l {i = i + 1} (omega arith)))

pub joined_following : (l : List ℕ) (i b : ℕ) → i + 1 < length l → (r : Bool) → r ≡ closes b → r ≡ false → (u : Bool) → u ≡ follows (get_or l (i + 1) 0) → u ≡ is_joined b (drop (i + 1) l)
joined_following l i b h r is e u q = rw (drop-cons l (i + 1) 0 h, ← is, e) q
