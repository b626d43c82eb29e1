-- The lines of a record, as the code puts them. Assumes nothing.
use Prim.Native.Nat.{ℕ}
use mathlib.Core.Path.{◌≡◌}
use mathlib.Core.List.{List, [], ◌∷◌, ◌++◌, map}
use lib.ListN.{length}
use Rattle.text.specs.Bytes.{bytes}
use Rattle.text.specs.Lines.{LF, unlines}
use Rattle.text.specs.Numerals.{decimal}
use Rattle.text.specs.Place.{put}
use Rattle.devices.specs.declared.Drive.{Drive}
use Rattle.machine.specs.declared.Core.{Core}
use Rattle.machine.specs.declared.Record.{Record}
use Rattle.outputs.specs.RecordText.{status_line, pc_line, drive_lines, core_lines, saved_registers, register_line, saved_io, io_line, record_text}
use Rattle.outputs.proofs.PieceLaws.{Piece, from_front, at_front, one_line, more_lines}

-- The disk's part.
pub drive-put : (v : Drive) (d e f g : List ℕ) (at p q r : ℕ) → Piece d at (bytes "left " ++ decimal v.left ++ (LF ∷ [])) e p
    → Piece e p (bytes "sector " ++ decimal v.sector ++ (LF ∷ [])) f q → Piece f q (bytes "buffer " ++ decimal v.buffer ++ (LF ∷ [])) g r
    → Piece d at (unlines (drive_lines v)) g r
unfolding drive_lines
drive-put v d e f g at p q r first second third =
    let two = more_lines d e f at p q _ _ (one_line d e at p (bytes "left " ++ decimal v.left) first) (one_line e f p q (bytes "sector " ++ decimal v.sector) second) in
    more_lines d f g at q r _ _ two (one_line f g q r (bytes "buffer " ++ decimal v.buffer) third)

-- The scalars.
pub core-put : (c : Core) (d e f g h k : List ℕ) (p q r s t : ℕ)
    → e ≡ put d 0 (status_line c.status ++ (LF ∷ [])) → p ≡ length (status_line c.status ++ (LF ∷ []))
    → Piece e p (bytes "handler " ++ decimal c.handler ++ (LF ∷ [])) f q → Piece f q (pc_line c.pc ++ (LF ∷ [])) g r
    → Piece g r (bytes "age " ++ decimal c.age ++ (LF ∷ [])) h s → Piece h s (unlines (drive_lines c.drive)) k t
    → (k ≡ put d 0 (unlines (core_lines c))) × (t ≡ length (unlines (core_lines c)))
unfolding core_lines
core-put c d e f g h k p q r s t first size second third fourth fifth =
    let handled = more_lines d e f 0 p q _ _ (one_line d e 0 p (status_line c.status) (from_front d e p _ first size)) (one_line e f p q (bytes "handler " ++ decimal c.handler) second) in
    let aged = more_lines d g h 0 r s _ _ (more_lines d f g 0 q r _ _ handled (one_line f g q r (pc_line c.pc) third)) (one_line g h r s (bytes "age " ++ decimal c.age) fourth) in
    let all = more_lines d h k 0 s t _ _ aged fifth in
    (all.0, at_front d k t (unlines (core_lines c)) all)

-- The scalars, R3 to R15 and the I/O registers.
pub record_put : (r : Record) (d e f g : List ℕ) (p q t : ℕ) → e ≡ put d 0 (unlines (core_lines r.core)) → p ≡ length (unlines (core_lines r.core))
    → Piece e p (unlines (map (register_line r.regs) saved_registers)) f q → Piece f q (unlines (map (io_line r.io) saved_io)) g t
    → (g ≡ put d 0 (record_text r)) × (t ≡ length (record_text r))
unfolding record_text
record_put r d e f g p q t first size second third =
    let all = more_lines d f g 0 q t _ _ (more_lines d e f 0 p q _ _ (from_front d e p _ first size) second) third in
    (all.0, at_front d g t (record_text r) all)
