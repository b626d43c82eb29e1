-- The lab's parts, computed: what a trip puts in its place, the calls that a list can hold, and when a list rises.
use Rattle.std.specs.Prelude.{ℕ, ◌-◌, ◌*◌, ◌^◌, ◌≡◌, refl, true, false, List, [], ◌∷◌, map, replicate}
use Rattle.text.specs.Place.{put}
use Rattle.files.specs.Irq2File.{rises_after, rising}
use Rattle.machine.specs.declared.Record.{Record}
use Rattle.saved.specs.Calls.{fresh_record}
use Rattle.claim.specs.Calls.{Call, run, trip}
use Rattle.runner.specs.Lab.{lab, Standing, the_record, the_image, the_data, the_frame, the_sectors, record_in, place}

-- ".. which then takes its place."
module _ (w : Standing) (r : Record) (words : List ℕ) (first sectors : ℕ) where
  record_placed : record_in (place the_record r w).state ≡ r
  record_placed = refl

  image-placed : (place the_image words w).image ≡ words
  image-placed = refl

  data_placed : (place the_data words w).state.memory ≡ words
  data_placed = refl

  frame-placed : (place the_frame words w).state.frame ≡ words
  frame-placed = refl

  sectors_placed : (place (the_sectors first sectors) words w).state.disk ≡ put w.state.disk (128 * first) words
  sectors_placed = refl

-- A list can hold a run of any budget and log, and a trip of each kind with any text space: also one that is refused, as of sector 128, which the disk
-- has not.
every_call : List (Call lab)
every_call =
    run 0 []
    ∷ run (2 ^ 64) (replicate 231 0)
    ∷ trip the_record (replicate 94 7) fresh_record tt
    ∷ trip the_image [] (replicate 4096 7) refl
    ∷ trip the_data [] (replicate 4096 7) refl
    ∷ trip the_frame [] (replicate 65536 7) refl
    ∷ trip (the_sectors 126 2) [] (replicate 256 7) refl
    ∷ trip (the_sectors 127 2) [] (replicate 256 7) refl
    ∷ []

-- "irq2 list strictly rising?": the empty list is, equal cycles are not, and no limit is asked.
lists : map rising ([] ∷ (5 ∷ 6 ∷ []) ∷ (5 ∷ 5 ∷ []) ∷ (6 ∷ 5 ∷ []) ∷ (0 ∷ (2 ^ 40 - 1) ∷ (2 ^ 64 - 1) ∷ []) ∷ []) ≡ true ∷ true ∷ false ∷ false ∷ true ∷ []
unfolding rising rises_after
lists = refl
