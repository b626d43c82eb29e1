-- What the C face promises of saved records: the number returned, and the lent memory after the call.
use Rattle.std.specs.Prelude.{ℕ, ◌≡◌, cond, List, [], ◌∷◌, length}
use Rattle.text.specs.declared.Outcome.{Outcome}
use Rattle.text.specs.Questions.{first_no, unless_refused}
use Rattle.saved.specs.Layout.{saved_bytes}
use Rattle.saved.specs.Calls.{save_outcome, load_outcome, load_record}
use Rattle.simp.specs.Numbers.{is_record_length, record_of, numbers_of}

-- Question 1 asks also for the 40 numbers of a record; then those of saving the record.
abbrev pub simp_save_outcome : (numbers bytes : List ℕ) → Outcome
simp_save_outcome numbers bytes = first_no ((1, is_record_length (length numbers)) ∷ []) 0 (save_outcome (record_of numbers) bytes)

-- `simp_save` returns r.
pub record Saves (numbers bytes : List ℕ) (r : ℕ) (bytes_after : List ℕ) : Type 0 where
  pub number : r ≡ (simp_save_outcome numbers bytes).number
  pub bytes_are : bytes_after ≡ unless_refused (simp_save_outcome numbers bytes) (saved_bytes (record_of numbers)) bytes

-- Question 1 asks also for the 40 numbers of a record; then those of reading one.
abbrev pub simp_load_outcome : (bytes numbers : List ℕ) → Outcome
simp_load_outcome bytes numbers = first_no ((1, is_record_length (length numbers)) ∷ []) 0 (load_outcome bytes)

-- `simp_load` returns r. Where there are 40 numbers they are those of the record read, which is the fresh one where the bytes are refused
-- (`load_record`); any other count of numbers is left as it was.
pub record Loads (bytes numbers : List ℕ) (r : ℕ) (numbers_after : List ℕ) : Type 0 where
  pub number : r ≡ (simp_load_outcome bytes numbers).number
  pub record_is : numbers_after ≡ cond (is_record_length (length numbers)) (numbers_of (load_record bytes)) numbers
