use Rattle.std.proofs.Common.{[], ◌∷◌, refl}
use Rattle.exec_holding.proofs.Lemmas.{taken_one}
use Rattle.exec_holding.proofs.holding.take_asset.Goals as goal

pub returns-in-Ok-clause-ok : goal.returns-in-Ok-clause-ok
returns-in-Ok-clause-ok c =
    taken_one c.args.asset.now (c.args.asset.now ∷ []) _ _ _ refl
    c.in-Ok.ensures.held c.in-Ok.ensures.taken c.in-Ok.ensures.left c.in-Ok.ensures.whole c.in-Ok.ensures.fits_back
