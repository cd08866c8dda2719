use Rattle.std.proofs.Common.{◌≡◌, Option, Some, refl, sym, ◌∙◌, subst}
use Rattle.std.specs.Prelude.{MatchOption}
use Rattle.std.specs.Map.{values_of}
use Rattle.asset_bundles.specs.declared.trap.Trap.{Trap}
use Rattle.asset_bundles.specs.Traps.{NoneFits}
use Rattle.asset_bundles.specs.Oldest.{IsTaken}
use Rattle.asset_bundles.proofs.Places.{placed_taken, is_taken, none_fits}
use Rattle.asset_bundles.proofs.rows.TrapRows.take_oldest.Goals as goal

taken_as : (P : Type 0) (Q : Trap → Type 0) (r : Option Trap) (t : Trap) → r ≡ Some t → Q t → MatchOption r P Q
taken_as P Q r t is q = subst (λ o. MatchOption o P Q) (sym is) q

pub invariant_of-self : goal.invariant_of-self
invariant_of-self c =
    placed_taken c.self.inside.traps.entries c.remove-in-Some.new.self.entries c.self.inside.places.keys c.remove.new.self.keys c.in-Some.key
    c.remove-in-Some.ensures.ordered c.remove-in-Some.ensures.updates.0 c.remove.ensures.updates.0 c.self.invariant

pub returns-in-Some : goal.returns-in-Some
returns-in-Some c =
    let oldest = c.in-Some.ensures in
    let new = c.remove-in-Some.new.self.entries in
    taken_as (NoneFits c.args.list.now c.args.origin.now c.args.self.now × (values_of new ≡ c.args.self.now)) (λ t. IsTaken c.args.list.now c.args.origin.now c.args.self.now t (values_of new)) c.remove-in-Some.result oldest.at.trap (c.remove-in-Some.ensures.value ∙ oldest.at.here)
    (subst (λ old. IsTaken c.args.list.now c.args.origin.now old oldest.at.trap (values_of new)) c.self.view_is
    (is_taken c.args.list.now c.args.origin.now c.self.inside.traps.entries new c.in-Some.key.1 oldest c.self.invariant.rising c.remove-in-Some.ensures.entries))

pub returns-in-None : goal.returns-in-None
returns-in-None c = (
  subst (NoneFits c.args.list.now c.args.origin.now) c.self.view_is (none_fits c.args.list.now c.args.origin.now c.self.inside.traps.entries c.self.invariant.rising c.in-None.ensures),
  refl,
)
