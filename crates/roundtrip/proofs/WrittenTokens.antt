-- The tokens of a line that is written token by token. Assumes nothing.
use Prim.Native.Nat.{ℕ, ◌+◌, ◌<◌}
use Prim.Native.Char.{code}
use mathlib.Core.Path.{◌≡◌, refl, sym, ◌∙◌, ap}
use mathlib.Core.Bool.{Bool, true, false, not, ◌&&◌, ◌||◌, false≢true}
use mathlib.Core.List.{List, [], ◌∷◌, ◌++◌, append-nil}
use native.Mathlib.Nat.{not-suc-le-zero}
use lib.Dec.{eqb, ltb}
use lib.ListN.{length}
use borrow.Author.Tests.{not-true, ltb-true}
use Rattle.text.specs.Bytes.{bytes}
use Rattle.text.proofs.Truth.{and_left, and_right, neither}
use Rattle.text.proofs.LineLaws.{NoLF}
use Rattle.source.specs.Bytes.{is_blank, is_allowed, are_all}
use Rattle.source.specs.Tokens.{Token, closes, follows, joined, is_joined, tokens_from, texts}
use Rattle.lister.specs.Listing.{separated}

-- ---- bytes

-- A byte that can stand anywhere in a token: allowed in a line, and no blank, `#`, comma or colon.
abbrev pub is_plain : ℕ → Bool
is_plain b = is_allowed b && not (is_blank b || eqb b (code "#") || closes b)

record Plain (b : ℕ) : Type 0 where
  allowed : is_allowed b ≡ true
  blank : is_blank b ≡ false
  comment : eqb b (code "#") ≡ false
  goes_on : closes b ≡ false
  follows_it : follows b ≡ true

plain_byte : (b : ℕ) → is_plain b ≡ true → Plain b
plain_byte b e =
    let others = neither (is_blank b || eqb b (code "#")) (closes b) (not-true _ (and_right (is_allowed b) _ e)) in
    let two = neither (is_blank b) (eqb b (code "#")) others.0 in
    record {
      allowed = and_left (is_allowed b) _ e;
      blank = two.0;
      comment = two.1;
      goes_on = others.1;
      follows_it = rw (two.0, two.1, (neither (eqb b (code ",")) (eqb b (code ":")) others.1).0);
    }

-- ---- each byte of a text

pub all_append : (test : ℕ → Bool) (s t : List ℕ) → are_all test s ≡ true → are_all test t ≡ true → are_all test (s ++ t) ≡ true
all_append test [] t e f = f
all_append test (b ∷ s) t e f = rw (and_left (test b) (are_all test s) e, all_append test s t (and_right (test b) (are_all test s) e) f)

plain-allowed : (t : List ℕ) → are_all is_plain t ≡ true → are_all is_allowed t ≡ true
plain-allowed [] e = refl
plain-allowed (b ∷ t) e =
    rw ((plain_byte b (and_left (is_plain b) (are_all is_plain t) e)).allowed, plain-allowed t (and_right (is_plain b) (are_all is_plain t) e))

-- No allowed byte is an LF.
pub allowed_no_lf : (t : List ℕ) → are_all is_allowed t ≡ true → NoLF t
unfolding NoLF
allowed_no_lf [] e = tt
allowed_no_lf (b ∷ t) e = (
  (λ q. false≢true (sym (ap is_allowed q) ∙ and_left (is_allowed b) (are_all is_allowed t) e)),
  allowed_no_lf t (and_right (is_allowed b) (are_all is_allowed t) e),
)

-- ---- tokens

-- The texts of a line's tokens, wherever the line stands.
abbrev pub Reads : List ℕ → List (List ℕ) → Type 0
Reads s ts = (p : ℕ) → texts (tokens_from p s) ≡ ts

-- No byte, or one that belongs to no token before it.
abbrev pub stops : List ℕ → Bool
stops [] = true
stops (c ∷ s) = not (follows c)

pub and_no : (a b : Bool) → b ≡ false → (a && b) ≡ false
and_no true b e = e
and_no false b e = refl

not_joined : (b : ℕ) (r : List ℕ) → stops r ≡ true → is_joined b r ≡ false
not_joined b [] e = refl
not_joined b (c ∷ r) e = and_no (not (closes b)) (follows c) (not-true (follows c) e)

texts-joined : (p b : ℕ) (ts : List Token) (u : List ℕ) (us : List (List ℕ)) → texts ts ≡ u ∷ us → texts (joined p b ts) ≡ (b ∷ u) ∷ us
texts-joined p b [] u us e = cc
texts-joined p b (t ∷ ts) u us e = cc

reads_bytes : (b : ℕ) (t r : List ℕ) (ts : List (List ℕ)) → are_all is_plain (b ∷ t) ≡ true → stops r ≡ true → Reads r ts → Reads (b ∷ (t ++ r)) ((b ∷ t) ∷ ts)
unfolding tokens_from
reads_bytes b [] r ts e s h p =
    let plain = plain_byte b (and_left (is_plain b) true e) in
    rw (plain.blank, plain.comment, not_joined b r s, h (p + 1))
reads_bytes b (c ∷ t) r ts e s h p =
    let plain = plain_byte b (and_left (is_plain b) (are_all is_plain (c ∷ t)) e) in
    let after = and_right (is_plain b) (are_all is_plain (c ∷ t)) e in
    let next = plain_byte c (and_left (is_plain c) (are_all is_plain t) after) in
    rw (plain.blank, plain.comment, plain.goes_on, next.follows_it)
    (texts-joined p b (tokens_from (p + 1) (c ∷ (t ++ r))) (c ∷ t) ts (reads_bytes c t r ts after s h (p + 1)))

-- A text that is written as a token: some plain bytes.
pub record Written (t : List ℕ) : Type 0 where
  pub some : 0 < length t
  pub plain : are_all is_plain t ≡ true

abbrev pub is_written : List ℕ → Bool
is_written t = ltb 0 (length t) && are_all is_plain t

pub is-written : (t : List ℕ) → is_written t ≡ true → Written t
is-written t e =
    record {
      some = ltb-true 0 (length t) (and_left (ltb 0 (length t)) (are_all is_plain t) e);
      plain = and_right (ltb 0 (length t)) (are_all is_plain t) e;
    }

-- It is one token where a blank, a comma or the line's end follows it.
pub reads_token : (t r : List ℕ) (ts : List (List ℕ)) → Written t → stops r ≡ true → Reads r ts → Reads (t ++ r) (t ∷ ts)
reads_token [] r ts w s h = absurd (not-suc-le-zero w.some)
reads_token (b ∷ t) r ts w s h = reads_bytes b t r ts w.plain s h

-- ---- tokens with a comma and a blank between them

abbrev pub AllWritten : List (List ℕ) → Type 0
AllWritten [] = Unit {0}
AllWritten (t ∷ ts) = Written t × AllWritten ts

-- The tokens with a comma between them.
abbrev pub with_commas : List (List ℕ) → List (List ℕ)
with_commas [] = []
with_commas (t ∷ []) = t ∷ []
with_commas (t ∷ u ∷ ts) = t ∷ bytes "," ∷ with_commas (u ∷ ts)

reads_separated : (ts : List (List ℕ)) → AllWritten ts → Reads (separated ts) (with_commas ts)
unfolding separated tokens_from
reads_separated [] w p = refl
reads_separated (t ∷ []) w p = ap (λ (s : List ℕ). texts (tokens_from p s)) (sym (append-nil t)) ∙ reads_token t [] [] w.0 refl (λ q. refl) p
reads_separated (t ∷ u ∷ ts) w p =
    let rest = reads_separated (u ∷ ts) w.1 in
    reads_token t (bytes ", " ++ separated (u ∷ ts)) (bytes "," ∷ with_commas (u ∷ ts)) w.0 refl
    (λ q. ap (λ (us : List (List ℕ)). bytes "," ∷ us) (rest (q + 1 + 1)))
    p

allowed-separated : (ts : List (List ℕ)) → AllWritten ts → are_all is_allowed (separated ts) ≡ true
unfolding separated
allowed-separated [] w = refl
allowed-separated (t ∷ []) w = plain-allowed t w.0.plain
allowed-separated (t ∷ u ∷ ts) w = all_append is_allowed t _ (plain-allowed t w.0.plain) (allowed-separated (u ∷ ts) w.1)

-- ---- a line: a token, a blank, and tokens so separated

module _ (op : List ℕ) (ts : List (List ℕ)) (o : Written op) (w : AllWritten ts) where
  pub reads_line : Reads (op ++ (bytes " " ++ separated ts)) (op ∷ with_commas ts)
  unfolding tokens_from
  reads_line = reads_token op (bytes " " ++ separated ts) (with_commas ts) o refl (λ p. reads_separated ts w (p + 1))

  pub allowed-line : are_all is_allowed (op ++ (bytes " " ++ separated ts)) ≡ true
  allowed-line = all_append is_allowed op _ (plain-allowed op o.plain) (allowed-separated ts w)
