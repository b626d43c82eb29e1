-- A line split into its tokens, one after the other. Assumes nothing.
use Prim.Native.Nat.{ℕ, ◌+◌, ◌-◌, ◌≤◌, ◌<◌}
use mathlib.Core.Path.{◌≡◌, refl, sym, ◌∙◌, ap}
use mathlib.Core.List.{List, [], ◌∷◌}
use native.Mathlib.Omega.{arith}
use lib.ListN.{length, get_or, set, take, drop, length-drop}
use lib.Seq.{drop-drop, get_or-drop, get_or-set_same, get_or-set_other}
use borrow.Author.Count.{below_more}
use Rattle.source.specs.declared.Span.{Span}
use Rattle.source.specs.Tokens.{tokens, tokens_from, texts}
use Rattle.source.specs.Spans.{FirstToken, PartOf, nowhere, Placed, Split}

-- The first n tokens of a line are laid; the others stand from p on.
pub record Laid (line : List ℕ) (spans : List Span) (p n : ℕ) : Type 0 where
  pub within : p ≤ length line
  pub rest : drop n (texts (tokens line)) ≡ texts (tokens_from p (drop p line))
  pub some : n ≤ length (texts (tokens line))
  pub placed : Placed line spans n

pub none_laid : (line : List ℕ) (spans : List Span) → Laid line spans 0 0
none_laid line spans = record { within = omega arith; rest = refl; some = omega arith; placed = λ k h. absurd (omega arith) }

-- What stands at the front of the rest of a list.
module _ {ℓ} {A : Type ℓ} (l : List A) (n : ℕ) (d x : A) (xs : List A) (e : drop n l ≡ x ∷ xs) where
  front_at : get_or l n d ≡ x
  front_at = ap (λ (i : ℕ). get_or l i d) (omega arith) ∙ sym (get_or-drop n l 0 d) ∙ ap (λ (r : List A). get_or r 0 d) e

  front-within : n < length l
  front-within = let size = sym (length-drop n l) ∙ ap length e in omega arith

  rest-after : drop (n + 1) l ≡ xs
  rest-after = sym (drop-drop 1 n l) ∙ ap (drop 1) e

module _ {line : List ℕ} {spans : List Span} {p n : ℕ} (l : Laid line spans p n) where
  -- No token is left.
  pub split_whole : n ≤ length spans → tokens_from p (drop p line) ≡ [] → Split line spans n
  split_whole room none =
      let size = length-drop n (texts (tokens line)) in
      let left : length (drop n (texts (tokens line))) ≡ 0 = ap length (l.rest ∙ ap texts none) in
      let some = l.some in
      record { placed = l.placed; within = room; few = λ h. omega arith; many = some }

  -- There is no room for another.
  pub split_full : n ≡ length spans → Split line spans (length spans)
  split_full e = rw (← e) (record { placed = l.placed; within = omega arith; few = λ k. absurd (omega arith); many = l.some })

  -- One more is laid.
  pub one_laid : (s : Span) → FirstToken line p s → n < length spans → Laid line (set spans n s) s.end (n + 1)
  one_laid s t room =
      let ts = texts (tokens line) in
      let part = take (s.end - s.start) (drop s.start line) in
      let others = texts (tokens_from s.end (drop s.end line)) in
      let here : drop n ts ≡ part ∷ others = l.rest ∙ ap texts t.is in
      let inside = front-within ts n [] part others here in
      let order = t.order in
      record {
        within = t.within;
        rest = rest-after ts n [] part others here;
        some = omega arith;
        placed =
            below_more (λ (k : ℕ). PartOf line (get_or (set spans n s) k nowhere) (get_or ts k []))
            n
            (λ k h. rw (get_or-set_other spans n k s nowhere (λ q. omega arith)) (l.placed k h))
            (rw (get_or-set_same spans n s nowhere room, front_at ts n [] part others here) (record { order = omega arith; within = t.within; is = refl }));
      }
