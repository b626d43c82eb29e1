-- A status and its words, and the line of where and why a run stopped, as the code puts their pieces. Assumes nothing.
use Prim.Native.Nat.{ℕ, ◌+◌, ◌≤◌, ◌<◌}
use mathlib.Core.Path.{◌≡◌, refl}
use mathlib.Core.List.{List, [], ◌++◌}
use lib.ListN.{length, set, get_or-eq_default}
use Rattle.text.specs.Bytes.{bytes}
use Rattle.text.specs.Lines.{LF}
use Rattle.text.specs.Numerals.{digit_count, digits, decimal}
use Rattle.text.specs.Place.{put}
use Rattle.text.proofs.TableLaws.{most_rule}
use Rattle.machine.specs.declared.Core.{Core}
use Rattle.outputs.specs.Statuses.{statuses, status_words}
use Rattle.outputs.specs.Reasons.{cause_of, reason_line}
use Rattle.outputs.proofs.PieceLaws.{Piece, joined, ended, numbered, placed}

-- A number that is no status has no words.
pub no_words : (n : ℕ) → 6 ≤ n → status_words n ≡ []
unfolding status_words statuses
no_words n h = get_or-eq_default statuses [] h

-- The longest are those of status 5.
pub words_most : (n : ℕ) → n < 6 → length (status_words n) ≤ 42
unfolding status_words
words_most = most_rule (λ k. length (status_words k)) 42 6 refl

-- ---- pieces

pub status-put : (front between : List ℕ) (status at p q r s : ℕ) (d e f g h : List ℕ) → Piece d at front e p
    → f ≡ put e p (decimal status) → q ≡ p + digit_count 10 status → Piece f q between g r → Piece g r (status_words status) h s
    → Piece d at (front ++ decimal status ++ between ++ status_words status) h s
status-put front between status at p q r s d e f g h first second t third fourth =
    joined d g h at r s _ _ (joined d f g at q r _ _ (numbered front status at p q d e f first second t) third) fourth

pub reason-put : (c : Core) (at p q r s : ℕ) (d e f g h : List ℕ) → Piece d at (bytes "stopped at PC ") e p
    → f ≡ put e p (digits 16 3 c.pc) → q ≡ p + 3 → Piece f q (bytes ": ") g r → Piece g r (cause_of c) h s
    → Piece d at (reason_line c) (set h s LF) (s + 1)
unfolding reason_line
reason-put c at p q r s d e f g h first second t third fourth =
    ended d h at s _
    (joined d g h at r s _ _ (joined d f g at q r _ _ (placed (bytes "stopped at PC ") c.pc at p q d e f first second t) third) fourth)
