use mathlib.Core.Path.{◌≡◌, sym, ◌∙◌, ap}
use mathlib.Core.Bool.{Bool, ◌&&◌}
use Rattle.source.specs.Numbers.{number}
use Rattle.lines.specs.Ranges.{is_address, is_data}
use Rattle.statements.proofs.ReadLaws.{word_read}
use Rattle.statements.proofs.read.read_word.Goals as goal
use Rattle.statements.proofs.read.read_word.Goals.{then-address_fits, else-address_fits}

pub returns : goal.returns
returns c =
    let x = c.read_number-address in
    let y = c.read_number-value in
    let a = c.is_within-address_fits.ensures in
    let v = c.is_within-value_fits.ensures in
    let within : c.if-address_fits.result ≡ (is_address x.result && is_data y.result) =
    elim c.if-address_fits.branch [
      | then-address_fits w ↦ w.result-is ∙ v ∙ sym (ap (λ (b : Bool). b && is_data y.result) (sym a ∙ w.if-address_fits.true))
      | else-address_fits w ↦ w.result-is ∙ w.if-address_fits.false ∙ sym (ap (λ (b : Bool). b && is_data y.result) (sym a ∙ w.if-address_fits.false))
    ] in
    word_read c.args.line.now.form c.requires x.result y.result (x.ensures ∙ ap number c.text.ensures) (y.ensures ∙ ap number c.text-2.ensures)
    c.if-address_fits.result within c.modulo.result c.modulo-2.result c.modulo.ensures.below c.modulo.ensures.value c.modulo-2.ensures.value
