-- Laws of files that are being written. Assumes nothing.
use mathlib.Core.Bool.{false≢true}
use Rattle.std.proofs.Common.{◌≡◌, refl, sym, ◌∙◌, Bool, true, false, true≢false, Option}
use Rattle.std.specs.Prelude.{Some, None}
use Rattle.std.specs.declared.fs.File.{File}
use Rattle.console.specs.declared.Writing.{Writing}
use Rattle.console.specs.Writings.{is_no_file, is_new, through, Begun, Ended, Committed}

-- Every `Option` is begun, so that the type says it of each function that begins a file.
pub option-begun : (w : Option Writing) → Begun w
option-begun None e = refl
option-begun (Some w) e = absurd (false≢true e)

-- What stands at a path and stays there is begun.
pub through-begun : (w : Option Writing) (f : Option File) → w ≡ through f → Begun w
through-begun w f e = option-begun w

-- A file that was brought to the disk is one that was begun.
pub ended-begun : (w r : Option Writing) → Ended w r → Begun w → Begun r
ended-begun w r ended begun = option-begun r

module _ (w : Option Writing) where
  pub none_committed : is_no_file w ≡ true → Committed w false
  none_committed e = record { written = λ n. absurd (false≢true n); in_place = λ _. rw e refl }

  pub old_committed : is_no_file w ≡ false → Committed w true
  old_committed e = record { written = λ _. e; in_place = λ _. rw e refl }

  pub new_committed : is_no_file w ≡ false → is_new w ≡ true → (r : Bool) → Committed w r
  new_committed e new r = record { written = λ _. e; in_place = λ old. absurd (true≢false (sym new ∙ old)) }
