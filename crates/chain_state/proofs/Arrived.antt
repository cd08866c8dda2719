-- The list of the cargo, as the chain names it.
use Rattle.std.proofs.Common.{◌≡◌, Bool, true, false, true≢false, ◌&&◌, List, Option, refl, sym, ap, ◌∙◌}
use Rattle.std.specs.Prelude.{None, Some, option_and_then, if◌then◌else◌}
use Rattle.std.specs.Ordering.{eq_by_cmp}
use Rattle.locations.specs.declared.relative.Location.{Location}
use Rattle.chain_ids.specs.declared.chain.ChainId.{ChainId}
use Rattle.asset_lists.specs.declared.units.Asset.{Asset}
use Rattle.asset_lists.specs.Units.{assets_cmp}
use Rattle.asset_lists.proofs.Lemmas.UnitLaws.{assets_decide}
use Rattle.asset_lists.specs.Moves.{reanchored_list}
use Rattle.channel_parts.specs.declared.cargo.Cargo.{Cargo}
use Rattle.channel_parts.specs.declared.cargo.Cargo.TheVariants.{Nothing, Deposit, Away}
use Rattle.trust_tables.specs.declared.chains.Site.{Site}
use Rattle.trust_tables.specs.Chains.{path_of_site, location_of}
use Rattle.exec_base.specs.Arrivals.{arrived_list, is_this_list}
use Rattle.exec_base.specs.Part.{ChainPart}
use Rattle.exec_base.specs.Host.{Arrival, arrives_by_deposit, fits_call, cargo_list, is_cargo, cargo_after, given}
use Rattle.chain_state.specs.Arrivals.{is_away}
use Rattle.plain_lists.proofs.Lemmas.Facts.{and_false as never, both_true}

-- a chain that has no name for this one sent nothing
pub from_nowhere : (site : Site) (sender : ChainId) (xs : List Asset) → location_of sender site.chain ≡ None → arrived_list site sender xs ≡ None
unfolding arrived_list
from_nowhere site sender xs none = ap (λ o. option_and_then (λ (target : Location). reanchored_list target (path_of_site (record { network = site.network; chain = sender })) xs) o) none

pub from_sender : (site : Site) (sender : ChainId) (target : Location) (xs : List Asset) → location_of sender site.chain ≡ Some target
    → arrived_list site sender xs ≡ reanchored_list target (path_of_site (record { network = site.network; chain = sender })) xs
unfolding arrived_list
from_sender site sender target xs at =
    ap (λ o. option_and_then (λ (target : Location). reanchored_list target (path_of_site (record { network = site.network; chain = sender })) xs) o) at

pub not_fitting : (p : ChainPart) (arrival : Arrival) (list : List Asset) → fits_call arrival p.cargo.cargo ≡ false → is_cargo p arrival list ≡ false
unfolding is_cargo
not_fitting p arrival list fits = ap (λ b. b && is_this_list list (arrived_list p.site p.cargo.sender (cargo_list p.cargo.cargo))) fits

pub not_arrived : (p : ChainPart) (arrival : Arrival) (list : List Asset) → arrived_list p.site p.cargo.sender (cargo_list p.cargo.cargo) ≡ None → is_cargo p arrival list ≡ false
unfolding is_cargo
not_arrived p arrival list none = ap (λ o. fits_call arrival p.cargo.cargo && is_this_list list o) none ∙ never (fits_call arrival p.cargo.cargo)

pub arrived : (p : ChainPart) (arrival : Arrival) (list seen : List Asset) → fits_call arrival p.cargo.cargo ≡ true → arrived_list p.site p.cargo.sender (cargo_list p.cargo.cargo) ≡ Some seen
    → is_cargo p arrival list ≡ eq_by_cmp assets_cmp seen list
unfolding is_cargo
arrived p arrival list seen fits at = λ i. fits i && is_this_list list (at i)

-- ---- what a call takes
list_named : (o : Option (List Asset)) (list : List Asset) → is_this_list list o ≡ true → o ≡ Some list
list_named None list e = absurd (cc)
list_named (Some seen) list e = ap Some ((assets_decide seen list).0 e)

pub taken_parts : (p : ChainPart) (arrival : Arrival) (list : List Asset) → is_cargo p arrival list ≡ true
    → (fits_call arrival p.cargo.cargo ≡ true) × (arrived_list p.site p.cargo.sender (cargo_list p.cargo.cargo) ≡ Some list)
unfolding is_cargo
taken_parts p arrival list taken =
    let parts = both_true (fits_call arrival p.cargo.cargo) (is_this_list list (arrived_list p.site p.cargo.sender (cargo_list p.cargo.cargo))) taken in
    (parts.0, list_named (arrived_list p.site p.cargo.sender (cargo_list p.cargo.cargo)) list parts.1)

-- a call by which no deposit arrives takes what is on its way
pub taken_away : (arrival : Arrival) (cargo : Cargo) → fits_call arrival cargo ≡ true → arrives_by_deposit arrival ≡ false → is_away cargo ≡ true
taken_away arrival Nothing fits by = absurd (cc)
taken_away arrival (Deposit list) fits by = absurd (true≢false (sym fits ∙ by))
taken_away arrival (Away shipment) fits by = refl

-- a chain that has no name for this one sent nothing that is taken
pub never_taken : (site : Site) (sender : ChainId) (xs list : List Asset) → location_of sender site.chain ≡ None → arrived_list site sender xs ≡ Some list → ⊥
never_taken site sender xs list none some = let no : None ≡ Some list = sym (from_nowhere site sender xs none) ∙ some in cc

-- ---- what a call leaves of the cargo
pub ended_cargo : (p q : ChainPart) (by arrival : Arrival) (list : List Asset) (ends : Bool) → ends ≡ is_cargo p by list → by ≡ arrival
    → q ≡ record p { cargo = if ends then (record { sender = p.cargo.sender; cargo = Nothing }) else p.cargo } → q ≡ record p { cargo = cargo_after p arrival list }
unfolding cargo_after
ended_cargo p q by arrival list ends is same now =
    now ∙ (λ i. record p { cargo = if is i then (record { sender = p.cargo.sender; cargo = Nothing }) else p.cargo })
    ∙ (λ i. record p { cargo = cargo_after p (same i) list })

-- a withdrawal changes nothing of the cargo
pub still_cargo : (p : ChainPart) (arrival : Arrival) (list : List Asset) (who : Location) → is_cargo (given p list who) arrival list ≡ is_cargo p arrival list
unfolding is_cargo
still_cargo p arrival list who = refl
