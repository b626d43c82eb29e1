-- Demand 2, whole. Assumes nothing.
use Prim.Native.Nat.{ℕ, ◌*◌, ◌%◌, ◌^◌}
use mathlib.Core.Path.{◌≡◌, refl, ◌∙◌}
use mathlib.Core.Bool.{Bool, true}
use mathlib.Core.List.{List, map}
use lib.ListN.{length}
use borrow.Author.Tests.{eq-eqb}
use Rattle.text.proofs.RangeLaws.{below_mod, below_part}
use Rattle.files.specs.MemoryFile.{file_text, sectors_of}
use Rattle.files.proofs.SizeLaws.{length_sectors, is-part}
use Rattle.files.proofs.ReturnTrip.{writing, return_trip}
use Rattle.saved.proofs.TripLaws.{save_accepts, trip}
use Rattle.roundtrip.specs.Demand2.{Demand2, RecordReturns, ReadsBack, MemoriesReturn}
use Rattle.roundtrip.proofs.RoundTrip.{listing_returns}

record_returns : RecordReturns
record_returns r bytes sent a l sound size p q =
    let kept = save_accepts r sound bytes size in
    let back = trip r sound bytes size in
    (p.0 ∙ kept.0, rw p.1 at q.0 ∙ back.0, rw p.1 at q.1 ∙ back.1)

-- Words of k digits come back as far as k digits hold them.
reads_back : (k : ℕ) (is_written : Bool) (is_read : ℕ → Bool) (m back : List ℕ) → is_written ≡ true → ((n : ℕ) → n ≡ length m → is_read n ≡ true)
    → map (λ word. word % 16 ^ k) m ≡ back → ReadsBack k is_written is_read m back
reads_back k is_written is_read m back right right' e out sent into after w r room size p q =
    let wrote = writing (file_text k m) is_written out w sent right room p in
    let is = return_trip k m is_written is_read out into w sent r after right (right' (length into) size) room size p (rw wrote.0 at q) in
    (is.0, is.1, is.2 ∙ e)

-- Where words of k digits come back as far as k digits hold them, each memory does.
pub memories_return : (Back : ℕ → Bool → (ℕ → Bool) → List ℕ → List ℕ → Type 0)
    → ((k : ℕ) (is_written : Bool) (is_read : ℕ → Bool) (m back : List ℕ) → is_written ≡ true → ((n : ℕ) → n ≡ length m → is_read n ≡ true)
    → map (λ word. word % 16 ^ k) m ≡ back → Back k is_written is_read m back)
    → MemoriesReturn Back
memories_return Back back =
    record {
      image = λ m size. back 12 _ _ m _ (eq-eqb _ _ size) (λ n e. eq-eqb _ _ (e ∙ size)) refl;
      memory_words = λ m size below. back 8 _ _ m _ (eq-eqb _ _ size) (λ n e. eq-eqb _ _ (e ∙ size)) (below_mod (2 ^ 32) m below);
      frame = λ m size below. back 2 _ _ m _ (eq-eqb _ _ size) (λ n e. eq-eqb _ _ (e ∙ size)) (below_mod (2 ^ 8) m below);
      disk = λ m first sectors right below.
          back 8 _ _ (sectors_of m first sectors) _ right (λ n e. is-part m first sectors right n (e ∙ length_sectors m first sectors right))
          (below_mod (2 ^ 32) (sectors_of m first sectors) (below_part (2 ^ 32) (128 * sectors) (128 * first) m below));
    }

pub demand2 : Demand2
demand2 = record { listed = listing_returns; saved = record_returns; memories = memories_return ReadsBack reads_back }
