use Rattle.std.proofs.Common.{◌≡◌, sym, ap, ◌∙◌, subst}
use Rattle.std.specs.Prelude.{Some}
use Rattle.asset_lists.specs.Moves.{reanchored_list}
use Rattle.asset_bundles.specs.Landing.{StayApart, Renamed}
use Rattle.channel_parts.specs.declared.cargo.Cargo.TheVariants.{Away}
use Rattle.exec_base.specs.Host.{cargo_list}
use Rattle.chain_state.specs.PartOf.{part_of}
use Rattle.chain_state.specs.Arrivals.{arrival_by, is_away}
use Rattle.chain_state.proofs.Arrived.{from_sender, taken_parts, taken_away, never_taken}
use Rattle.chain_state.proofs.state.ChainState.land_cargo.Goals as goal
use Rattle.plain_lists.proofs.Lemmas.Facts.{none_if}

pub shipment_of-shipment-requires : goal.shipment_of-shipment-requires
shipment_of-shipment-requires c =
    let p = part_of c.args.self.now in
    let parts = taken_parts p (arrival_by c.args.call) c.args.list.now c.requires.taken in
    ap is_away c.replace.ensures.value ∙ taken_away (arrival_by c.args.call) p.cargo.cargo parts.0 c.requires.shipped

pub unreachable-requires : goal.unreachable-requires
unreachable-requires c =
    let f = c.args.self.now in
    let parts = taken_parts (part_of f) (arrival_by c.args.call) c.args.list.now c.requires.taken in
    never_taken f.settings.site f.sender (cargo_list f.cargo) c.args.list.now (sym c.location_of_other.ensures ∙ none_if c.location_of_other.result c.in_default.not-Some) parts.1

pub land-requires : goal.land-requires
land-requires c =
    let f = c.args.self.now in
    let parts = taken_parts (part_of f) (arrival_by c.args.call) c.args.list.now c.requires.taken in
    let carried : f.cargo ≡ Away c.shipment_of-shipment.result = sym c.replace.ensures.value ∙ c.shipment_of-shipment.ensures in
    let at = from_sender f.settings.site f.sender c.in-Some.target (cargo_list f.cargo) (sym c.location_of_other.ensures ∙ c.in-Some.is) in
    let seen : reanchored_list c.in-Some.target c.path.result c.items-units.result.now ≡ Some c.args.list.now =
    (λ i. reanchored_list c.in-Some.target (c.path.ensures i) ((c.items-units.ensures.listed ∙ sym (ap cargo_list carried)) i)) ∙ sym at ∙ parts.1 in
    let moved = c.law_of_reanchored_lists.ensures.moved c.in-Some.target c.path.result c.items-units.result.now c.args.list.now c.items-list.ensures.list seen in
    subst (StayApart c.in-Some.target c.path.result) c.items-units.ensures.bundle
    (c.law_of_landing.ensures.apart c.in-Some.target c.path.result c.items-units.result.now c.args.list.now moved)

pub returns-clause-landed : goal.returns-clause-landed
returns-clause-landed c =
    let f = c.args.self.now in
    let parts = taken_parts (part_of f) (arrival_by c.args.call) c.args.list.now c.requires.taken in
    let carried : f.cargo ≡ Away c.shipment_of-shipment.result = sym c.replace.ensures.value ∙ c.shipment_of-shipment.ensures in
    let at = from_sender f.settings.site f.sender c.in-Some.target (cargo_list f.cargo) (sym c.location_of_other.ensures ∙ c.in-Some.is) in
    let seen : reanchored_list c.in-Some.target c.path.result c.items-units.result.now ≡ Some c.args.list.now =
    (λ i. reanchored_list c.in-Some.target (c.path.ensures i) ((c.items-units.ensures.listed ∙ sym (ap cargo_list carried)) i)) ∙ sym at ∙ parts.1 in
    let moved = c.law_of_reanchored_lists.ensures.moved c.in-Some.target c.path.result c.items-units.result.now c.args.list.now c.items-list.ensures.list seen in
    c.land.ensures ∙ ap (Renamed c.in-Some.target c.path.result) (sym c.items-units.ensures.bundle)
    ∙ c.law_of_landing.ensures.landed c.in-Some.target c.path.result c.items-units.result.now c.args.list.now c.items-units.ensures.holding moved
