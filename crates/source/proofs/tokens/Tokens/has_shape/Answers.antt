use native.Mathlib.Omega.{arith}
use Rattle.source.proofs.ShapeLaws.{other_number, not_as_many, as_many, none_fitted, token_unfit, token-fits, all_fit}
use Rattle.source.proofs.tokens.Tokens.has_shape.Goals as goal

pub returns-then-shape-self : goal.returns-then-shape-self
returns-then-shape-self c = other_number _ _ _ (not_as_many c.args.self.now.split c.args.shape.now c.requires c.if-shape-self.true)

pub loop-k-init : goal.loop-k-init
loop-k-init c = none_fitted _ _ _ (as_many c.args.self.now.split c.args.shape.now c.requires c.if-shape-self.false)

pub returns-then-not-fits_sign : goal.returns-then-not-fits_sign
returns-then-not-fits_sign c = token_unfit c.loop-k.invariant (omega arith) _ c.text.ensures c.fits_sign.result c.fits_sign.ensures c.if-not-fits_sign.true

pub loop-k-preserved : goal.loop-k-preserved
loop-k-preserved c = token-fits c.loop-k.invariant (omega arith) _ c.text.ensures c.fits_sign.result c.fits_sign.ensures c.if-not-fits_sign.false

pub returns : goal.returns
returns c = all_fit c.loop-k.invariant (omega arith)
