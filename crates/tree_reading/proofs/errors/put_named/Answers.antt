use Rattle.std.proofs.Common.{◌≡◌, ◌∙◌, [], ◌∷◌, ◌++◌, refl, sym, ap}
use Rattle.tree_reading.specs.Errors.{error_names}
use Rattle.tree_reading.proofs.Once.{same_place}
use Rattle.tree_reading.proofs.ErrorPlaces.{errors_once, error_place}
use Rattle.tree_reading.proofs.errors.put_named.Goals as goal

pub returns-in_default : goal.returns-in_default
returns-in_default c = λ x fits bytes e. let p = error_place x fits in absurd (c.in_default.ensures p.0 p.1 (e ∙ p.2))

pub returns : goal.returns
returns c = λ x fits bytes e.
    let p = error_place x fits in
    let same : c.in-Some.index ≡ p.0 = same_place error_names c.in-Some.index p.0 errors_once c.in-Some.ensures.0 p.1 (sym c.in-Some.ensures.1 ∙ e ∙ p.2) in
    (refl, c.in_ok-put_u8.ensures.ok ∙ ap (λ n. c.args.out.now ++ n ∷ []) same ∙ ap (λ t. c.args.out.now ++ t) (sym p.3))
