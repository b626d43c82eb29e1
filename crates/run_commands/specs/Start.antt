-- What a resumed run starts from.
use Rattle.std.specs.Prelude.{ℕ, ◌≡◌, ◌⊎◌, List, Option, Some, IfSome}
use Rattle.files.specs.Sizes.{frame_digits, is_frame_length}
use Rattle.machine.specs.declared.Record.{Record}
use Rattle.machine.specs.Soundness.{Sound}
use Rattle.saved.specs.Calls.{fresh_record}
use Rattle.memories.specs.Loading.{Loaded}
use Rattle.memories.specs.Records.{RecordLoaded}
use Rattle.run_commands.specs.declared.start.Start.{Start}
use Rattle.run_commands.specs.declared.start.Start.TheVariants.{Fresh, Saved}

-- The record: the fresh one where the run starts fresh; else what reading one hands back.
abbrev pub StartsAs : Start → Option Record → Type 0
StartsAs Fresh r = r ≡ Some fresh_record
StartsAs Saved r = IfSome r RecordLoaded

pub record StartRecord (start : Start) (r : Option Record) : Type 0 where
  pub sound : IfSome r (λ (state : Record). Sound state.core state.regs state.io)
  pub starts : StartsAs start r

-- The frame: one that is loaded, or, in a run that starts fresh, the one that was there.
abbrev pub StartFrame : Start → Option Unit → List ℕ → List ℕ → Type 0
StartFrame start r before after = Loaded frame_digits is_frame_length r before after ⊎ ((start ≡ Fresh) × (r ≡ Some tt) × (after ≡ before))
