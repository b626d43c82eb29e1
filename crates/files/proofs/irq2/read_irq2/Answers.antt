use mathlib.Core.Path.{◌≡◌, refl, sym, ◌∙◌}
use lib.ListN.{length, take, length-map}
use lib.Seq.{length-take-le}
use Rattle.text.specs.Lines.{lines}
use Rattle.text.proofs.PutLaws.{put_front, put_all}
use Rattle.files.specs.Irq2File.{file_cycles}
use Rattle.files.proofs.AnswerLaws.{irq2-read}
use Rattle.files.proofs.CycleLaws.{read_count}
use Rattle.files.proofs.irq2.read_irq2.Goals as goal

pub slice_bounds-fill_cycles-end : goal.slice_bounds-fill_cycles-end
slice_bounds-fill_cycles-end c = (read_count _ _ _ c.in_ok-count.ensures).1

pub slice_bounds-fill_cycles-end-2 : goal.slice_bounds-fill_cycles-end-2
slice_bounds-fill_cycles-end-2 c = sym (length-take-le _ c.args.cycles.now (read_count _ _ _ c.in_ok-count.ensures).1)

pub fill_cycles-requires-clause-good : goal.fill_cycles-requires-clause-good
fill_cycles-requires-clause-good c = (read_count _ _ _ c.in_ok-count.ensures).2

pub fill_cycles-requires-clause-places : goal.fill_cycles-requires-clause-places
fill_cycles-requires-clause-places c =
    let p = read_count _ _ _ c.in_ok-count.ensures in
    length-take-le _ c.args.cycles.now p.1 ∙ p.0

pub returns : goal.returns
returns c =
    let count = c.in_ok-count.count in
    let cycles = c.args.cycles.now in
    let places = file_cycles c.args.text.now in
    let p = read_count (length cycles) count c.args.text.now c.in_ok-count.ensures in
    let all : length places ≡ count = length-map (lines c.args.text.now) _ ∙ sym p.0 in
    let part = c.fill_cycles.ensures ∙ put_all (take count cycles) places (all ∙ sym (length-take-le count cycles p.1)) in
    irq2-read c.args.text.now cycles _ c.in_ok-count.ensures _ refl (rw (part, ← all) (sym (put_front cycles places (rw all p.1))))
