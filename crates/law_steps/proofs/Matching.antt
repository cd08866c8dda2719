-- The list at the front of a message is its cargo's, as the receiver's calls find.
use Rattle.std.proofs.Common.{◌≡◌, Bool, true, ◌&&◌, List, Option, Some, refl, ap, ◌∙◌}
use Rattle.locations.specs.declared.grammar.NetworkId.{NetworkId}
use Rattle.chain_ids.specs.declared.chain.ChainId.{ChainId}
use Rattle.asset_lists.specs.declared.units.Asset.{Asset}
use Rattle.asset_lists.proofs.Lemmas.UnitLaws.{assets_decide}
use Rattle.trust_tables.specs.declared.chains.Site.{Site}
use Rattle.channel_parts.specs.declared.cargo.Cargo.{Cargo}
use Rattle.exec_base.specs.Arrivals.{arrived_list, is_this_list}
use Rattle.exec_base.specs.Part.{ChainPart}
use Rattle.exec_base.specs.Host.{Arrival, fits_call, cargo_list, is_cargo}
use Rattle.law_steps.specs.Shapes.{named_there}

both_hold : (a : Bool) (list : List Asset) (o : Option (List Asset)) → a ≡ true → o ≡ Some list → (a && is_this_list list o) ≡ true
both_hold a list o yes_a is = ap (λ (b : Bool). b && is_this_list list o) yes_a ∙ ap (is_this_list list) is ∙ (assets_decide list list).1 refl

-- the network of the sender is the receiver's
arrives : (here : Site) (p : ChainPart) (cargo : Cargo) (list : List Asset) → p.site.network ≡ here.network → p.cargo.sender ≡ here.chain → p.cargo.cargo ≡ cargo → named_there here p.site.chain (cargo_list cargo) ≡ Some list
    → arrived_list p.site p.cargo.sender (cargo_list p.cargo.cargo) ≡ Some list
arrives here p cargo list network sender is named =
    ap (λ (c : Cargo). arrived_list p.site p.cargo.sender (cargo_list c)) is
    ∙ ap (λ (c : ChainId). arrived_list p.site c (cargo_list cargo)) sender
    ∙ ap (λ (n : NetworkId). arrived_list (record { network = n; chain = p.site.chain }) here.chain (cargo_list cargo)) network
    ∙ named

pub matched : (here : Site) (p : ChainPart) (cargo : Cargo) (arrival : Arrival) (list : List Asset) → p.site.network ≡ here.network → p.cargo.sender ≡ here.chain → p.cargo.cargo ≡ cargo → fits_call arrival cargo ≡ true
    → named_there here p.site.chain (cargo_list cargo) ≡ Some list → is_cargo p arrival list ≡ true
unfolding is_cargo
matched here p cargo arrival list network sender is fits named =
    both_hold (fits_call arrival p.cargo.cargo) list (arrived_list p.site p.cargo.sender (cargo_list p.cargo.cargo)) (ap (fits_call arrival) is ∙ fits) (arrives here p cargo list network sender is named)
