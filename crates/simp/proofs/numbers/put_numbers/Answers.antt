use mathlib.Core.Path.{◌≡◌, sym, ◌∙◌}
use native.Mathlib.Omega.{arith}
use lib.ListN.{length, length-drop, drop}
use lib.Seq.{length-take-le}
use borrow.Author.Rules.{rules}
use Rattle.simp.proofs.NumberLaws.{put-numbers, fields_numbers}
use Rattle.simp.proofs.numbers.put_numbers.Goals as goal

pub slice_bounds-copy_from_slice-end-2 : goal.slice_bounds-copy_from_slice-end-2
slice_bounds-copy_from_slice-end-2 c = sym (length-take-le 38 c.args.numbers.now (omega arith))

pub returns : goal.returns
returns c =
    let a = c.args in
    let f = c.fields-f in
    let x = c.copy_from_slice in
    let y = c.copy_from_slice-2 in
    let whole : length f.result ≡ 45 = search rules in
    let thirteen : length a.r.regs ≡ 13 = search rules in
    let all : length a.r.io ≡ 23 = search rules in
    let size : length x.new.self ≡ 38 = rw x.ensures.after (length-take-le 38 (drop 1 f.result) (simp length-drop (omega arith))) in
    put-numbers x.new.self (drop 38 a.numbers.now) y.new.self size ∙ rw (x.ensures.after, y.ensures.after, f.ensures) (fields_numbers a.r thirteen all)
