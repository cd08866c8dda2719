use Rattle.std.proofs.Common.{◌≡◌, [], ◌∷◌, ◌++◌, ◌≤◌, sym, ap, subst, ◌∙◌, arith}
use Rattle.std.specs.Prelude.{IfErr}
use Rattle.std.proofs.lemmas.Result.{err_from_is_err_and}
use Rattle.amounts.specs.Amounts.{amount, minus, merge, difference}
use Rattle.amounts.proofs.Lemmas.{merge-difference}
use Rattle.asset_lists.specs.Units.{unit_of, amount_of}
use Rattle.asset_bundles.specs.Bundles.{bundle_of, IsHolding}
use Rattle.asset_bundles.proofs.Lemmas.Bundles.{unit_keys}
use Rattle.asset_bundles.specs.Joins.{IsWithinMost}
use Rattle.asset_bundles.specs.Portions.{AreWithinMost}
use Rattle.asset_bundles.specs.Taking.{IsTakeFault}
use Rattle.asset_bundles.proofs.Giving.{spent_holding, spent_minus}
use Rattle.asset_bundles.proofs.SumFacts.{within_most_of}
use Rattle.asset_bundles.proofs.Whole.{one_says, one_within, found_held, minus_one, one_holding}
use Rattle.asset_bundles.proofs.bundle.AssetBundle.try_take_one.Goals as goal

pub returns-then-amount-held-clause-fault : goal.returns-then-amount-held-clause-fault
returns-then-amount-held-clause-fault c = λ within.
    let says = one_says c.args.asset.now c.args.self.now within in
    let there = found_held (unit_of c.args.asset.now) c.as_slice.result.now c.self.inside.items.items c.args.self.now c.held.result c.held.ensures c.as_slice.ensures.value c.self.invariant c.self.view_is in
    omega (arith, says, there, c.amount.ensures, c.if-amount-held.true)

pub returns-in_err-items-clause-fault : goal.returns-in_err-items-clause-fault
returns-in_err-items-clause-fault c =
    let there = found_held (unit_of c.args.asset.now) c.as_slice.result.now c.self.inside.items.items c.args.self.now c.held.result c.held.ensures c.as_slice.ensures.value c.self.invariant c.self.view_is in
    let within = one_within c.args.asset.now c.args.self.now (omega (arith, there, c.amount.ensures, c.if-amount-held.false)) in
    let p = err_from_is_err_and c.from_residual.result c.from_residual.ensures.1 in
    subst (λ r. IfErr r (λ fault. IsTakeFault c.args.self.now (c.args.asset.now ∷ []) fault)) (sym p.1)
    (subst (λ fault. IsTakeFault c.args.self.now (c.args.asset.now ∷ []) fault) (sym p.2) within)

pub invariant_of-result : goal.invariant_of-result
invariant_of-result c =
    subst IsHolding (sym (c.push_asset.ensures.items ∙ ap (λ ys. ys ++ c.args.asset.now ∷ []) c.in_ok-items.ensures.items)) (one_holding c.args.asset.now c.requires)

pub invariant_of-self : goal.invariant_of-self
invariant_of-self c = subst IsHolding (sym c.give_up.ensures) (spent_holding (unit_of c.args.asset.now) (amount_of c.args.asset.now) c.self.inside.items.items c.self.invariant)

pub returns-clause-held : goal.returns-clause-held
returns-clause-held c =
    let there = found_held (unit_of c.args.asset.now) c.as_slice.result.now c.self.inside.items.items c.args.self.now c.held.result c.held.ensures c.as_slice.ensures.value c.self.invariant c.self.view_is in
    one_within c.args.asset.now c.args.self.now (omega (arith, there, c.amount.ensures, c.if-amount-held.false))

pub returns-clause-left : goal.returns-clause-left
returns-clause-left c =
    ap bundle_of c.give_up.ensures ∙ spent_minus (unit_of c.args.asset.now) (amount_of c.args.asset.now) c.self.inside.items.items c.self.invariant
    ∙ ap (λ b. minus b (unit_of c.args.asset.now) (amount_of c.args.asset.now)) c.self.view_is
    ∙ minus_one c.args.self.now c.args.asset.now

pub returns-clause-whole : goal.returns-clause-whole
returns-clause-whole c =
    let there = found_held (unit_of c.args.asset.now) c.as_slice.result.now c.self.inside.items.items c.args.self.now c.held.result c.held.ensures c.as_slice.ensures.value c.self.invariant c.self.view_is in
    let le : amount_of c.args.asset.now ≤ amount c.args.self.now (unit_of c.args.asset.now) = omega (arith, there, c.amount.ensures, c.if-amount-held.false) in
    let left : bundle_of c.give_up.new.items.items ≡ difference c.args.self.now (bundle_of (c.args.asset.now ∷ [])) =
    ap bundle_of c.give_up.ensures ∙ spent_minus (unit_of c.args.asset.now) (amount_of c.args.asset.now) c.self.inside.items.items c.self.invariant
    ∙ ap (λ b. minus b (unit_of c.args.asset.now) (amount_of c.args.asset.now)) c.self.view_is ∙ minus_one c.args.self.now c.args.asset.now in
    let taken : bundle_of c.push_asset.new.list.items ≡ bundle_of (c.args.asset.now ∷ []) = ap bundle_of (c.push_asset.ensures.items ∙ ap (λ ys. ys ++ c.args.asset.now ∷ []) c.in_ok-items.ensures.items) in
    (λ i. merge (left i) (taken i)) ∙ merge-difference unit_keys c.args.self.now (bundle_of (c.args.asset.now ∷ [])) (one_within c.args.asset.now c.args.self.now le)

pub returns-clause-fits_back : goal.returns-clause-fits_back
returns-clause-fits_back c =
    let there = found_held (unit_of c.args.asset.now) c.as_slice.result.now c.self.inside.items.items c.args.self.now c.held.result c.held.ensures c.as_slice.ensures.value c.self.invariant c.self.view_is in
    let le : amount_of c.args.asset.now ≤ amount c.args.self.now (unit_of c.args.asset.now) = omega (arith, there, c.amount.ensures, c.if-amount-held.false) in
    let left : bundle_of c.give_up.new.items.items ≡ difference c.args.self.now (bundle_of (c.args.asset.now ∷ [])) =
    ap bundle_of c.give_up.ensures ∙ spent_minus (unit_of c.args.asset.now) (amount_of c.args.asset.now) c.self.inside.items.items c.self.invariant
    ∙ ap (λ b. minus b (unit_of c.args.asset.now) (amount_of c.args.asset.now)) c.self.view_is ∙ minus_one c.args.self.now c.args.asset.now in
    let taken : bundle_of c.push_asset.new.list.items ≡ bundle_of (c.args.asset.now ∷ []) = ap bundle_of (c.push_asset.ensures.items ∙ ap (λ ys. ys ++ c.args.asset.now ∷ []) c.in_ok-items.ensures.items) in
    let whole = (λ i. merge (left i) (taken i)) ∙ merge-difference unit_keys c.args.self.now (bundle_of (c.args.asset.now ∷ [])) (one_within c.args.asset.now c.args.self.now le) in
    subst IsWithinMost (sym whole) (within_most_of c.args.self.now c.self.inside.items.items c.self.invariant (subst AreWithinMost c.as_slice-2.ensures.value c.amounts_fit.ensures) c.self.view_is)
