use Rattle.std.proofs.Common.{◌≡◌, refl, sym, ◌∙◌, Vec, Global}
use Rattle.std.specs.Prelude.{None, Some}
use Rattle.std.specs.Ordering.{eq_by_cmp}
use Rattle.asset_lists.specs.declared.units.Asset.{Asset}
use Rattle.asset_lists.specs.Units.{assets_cmp}
use Rattle.asset_lists.specs.Moves.{all_reanchored, reanchored_list}
use Rattle.asset_lists.proofs.Lemmas.UnitLaws.{assets_decide}
use Rattle.exec_base.specs.Host.{cargo_list}
use Rattle.chain_state.specs.PartOf.{part_of}
use Rattle.chain_state.specs.Arrivals.{arrival_by}
use Rattle.chain_state.proofs.NamedLists.{rising_named}
use Rattle.chain_state.proofs.Queries.{at_some}
use Rattle.chain_state.proofs.Arrived.{not_fitting, not_arrived, arrived, from_nowhere, from_sender}
use Rattle.chain_state.proofs.state.ChainState.is_cargo.Goals as goal
use Rattle.plain_lists.proofs.Lemmas.Facts.{at_none, none_if}

pub returns-then-not-fits : goal.returns-then-not-fits
returns-then-not-fits c = sym (not_fitting (part_of c.args.self.now) (arrival_by c.args.call) c.args.list.now (sym c.fits.ensures ∙ c.if-not-fits.true))

pub returns-in_default : goal.returns-in_default
returns-in_default c =
    let f = c.args.self.now in
    sym (not_arrived (part_of f) (arrival_by c.args.call) c.args.list.now
    (from_nowhere f.settings.site f.sender (cargo_list f.cargo) (sym c.location_of_other.ensures ∙ none_if c.location_of_other.result c.in_default.not-Some)))

pub returns-then-are_seen_as : goal.returns-then-are_seen_as
returns-then-are_seen_as c =
    let f = c.args.self.now in
    let target = c.in-Some.target in
    let list = c.args.list.now in
    let all : all_reanchored target c.path-context.result c.cargo_list-carried.result.now ≡ Some list =
    c.are_seen_as.ensures c.if-are_seen_as.true ∙ (λ i. Some (c.items-called.ensures.value i)) in
    let some : reanchored_list target c.path-context.result c.cargo_list-carried.result.now ≡ Some list =
    rising_named target c.path-context.result c.cargo_list-carried.result.now list c.items-called.ensures.list.rising all in
    let at = from_sender f.settings.site f.sender target (cargo_list f.cargo) (sym c.location_of_other.ensures ∙ c.in-Some.is)
    ∙ (λ i. reanchored_list target (sym c.path-context.ensures i) (sym c.cargo_list-carried.ensures i)) ∙ some in
    sym (arrived (part_of f) (arrival_by c.args.call) list list (sym c.fits.ensures ∙ c.if-not-fits.false) at ∙ (assets_decide list list).1 refl)

pub returns-in_default-2 : goal.returns-in_default-2
returns-in_default-2 c =
    let f = c.args.self.now in
    let target = c.in-Some.target in
    let seen = λ (xs : Vec Asset Global). reanchored_list target c.path-context.result c.cargo_list-carried.result.now ≡ Some xs.items in
    let none : reanchored_list target c.path-context.result c.cargo_list-carried.result.now ≡ None = at_none seen c.in_ok-seen.field-0 c.in_default-2.not-Some c.in_ok-seen.ensures in
    let carried = c.cargo_list-carried.ensures in
    sym (not_arrived (part_of f) (arrival_by c.args.call) c.args.list.now
    (from_sender f.settings.site f.sender target (cargo_list f.cargo) (sym c.location_of_other.ensures ∙ c.in-Some.is) ∙ (λ i. reanchored_list target (sym c.path-context.ensures i) (sym carried i)) ∙ none))

pub returns : goal.returns
returns c =
    let f = c.args.self.now in
    let target = c.in-Some.target in
    let seen = λ (xs : Vec Asset Global). reanchored_list target c.path-context.result c.cargo_list-carried.result.now ≡ Some xs.items in
    let some : reanchored_list target c.path-context.result c.cargo_list-carried.result.now ≡ Some c.in-Some-2.seen.items =
    at_some (reanchored_list target c.path-context.result c.cargo_list-carried.result.now ≡ None) seen c.in_ok-seen.field-0 c.in-Some-2.seen c.in-Some-2.is c.in_ok-seen.ensures in
    let carried = c.cargo_list-carried.ensures in
    let at = from_sender f.settings.site f.sender target (cargo_list f.cargo) (sym c.location_of_other.ensures ∙ c.in-Some.is) ∙ (λ i. reanchored_list target (sym c.path-context.ensures i) (sym carried i)) ∙ some in
    c.are_same.ensures ∙ (λ i. eq_by_cmp assets_cmp (c.as_slice.ensures.value i) (c.items-called.ensures.value i))
    ∙ sym (arrived (part_of f) (arrival_by c.args.call) c.args.list.now c.in-Some-2.seen.items (sym c.fits.ensures ∙ c.if-not-fits.false) at)
