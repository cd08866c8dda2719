-- A cargo that isn't lost.
use Rattle.std.proofs.Common.{◌≡◌, ℕ, List, [], refl, sym, ap, ◌∙◌, map}
use Rattle.amounts.specs.Rows.{rows_at}
use Rattle.amounts.specs.Amounts.{empty, rows, from_rows, plus_all, map_keys}
use Rattle.amounts.proofs.Lemmas.{rows-from_rows}
use Rattle.asset_lists.specs.Units.{Unit, unit_cmp}
use Rattle.asset_lists.specs.Listed.{listed_of}
use Rattle.asset_bundles.specs.Bundles.{Bundle, assets_of_rows, held_assets}
use Rattle.asset_bundles.proofs.Lemmas.Bundles.{unit_keys}
use Rattle.asset_bundles.specs.Books.{Book, Booked, burned_for}
use Rattle.asset_bundles.specs.Losing.{book_after_loss}
use Rattle.asset_bundles.proofs.Lemmas.{booked_nothing}
use Rattle.asset_bundles.specs.declared.book.Cause.{Cause}
use Rattle.asset_bundles.specs.declared.shipment.Way.{Way}
use Rattle.asset_bundles.specs.declared.shipment.Shipment.{Shipment}
use Rattle.channel_parts.specs.declared.cargo.Cargo.{Cargo}
use Rattle.channel_parts.specs.declared.cargo.Cargo.TheVariants.{Nothing, Deposit, Away}
use Rattle.exec_base.specs.Part.{ChainPart, book_of}
use Rattle.exec_base.specs.Host.{burned_line, burned_lines}
use Rattle.network_steps.specs.Acting.{lost_by, lost_of, booking_lost, lost_lines}

rows_nothing : rows (empty {R = unit_cmp}) ≡ []
unfolding from_rows plus_all
rows_nothing = rows-from_rows unit_keys [] tt tt

burned_nothing : burned_for Cause.LostTeleport empty ≡ empty
unfolding burned_for map_keys from_rows plus_all
burned_nothing = ap (λ es. from_rows (rows_at (λ (unit : Unit). (listed_of unit, Cause.LostTeleport)) es)) rows_nothing

-- where nothing is lost, nothing is booked or told
pub nothing_booked : (p : ChainPart) → p ≡ booking_lost empty p
nothing_booked p =
    let same : p.burns ≡ (Booked (book_of p) (burned_for Cause.LostTeleport empty)).burns = sym (ap (λ b. (Booked (book_of p) b).burns) burned_nothing ∙ ap (λ (b : Book). b.burns) (booked_nothing (book_of p))) in
    λ i. record p { burns = same i }

pub nothing_told : (p : ChainPart) → [] ≡ lost_lines empty p
unfolding burned_lines held_assets
nothing_told p = sym (ap (λ (es : List (Unit × ℕ)). map (burned_line p (λ unit. Cause.LostTeleport)) (assets_of_rows es)) rows_nothing)

pub lost_shipment : (p : ChainPart) (way : Way) (units : Bundle) → record p { burns = (book_after_loss way units (book_of p)).burns } ≡ booking_lost (lost_by way units) p
lost_shipment p Way.Withdrawal units = nothing_booked p
lost_shipment p Way.Teleport units = refl

-- a cargo that isn't away
pub only_away : (p : ChainPart) (left : Cargo) → ((x : Shipment) → left ≡ Away x → ⊥) → p ≡ booking_lost (lost_of left) p
only_away p Nothing h = nothing_booked p
only_away p (Deposit list) h = nothing_booked p
only_away p (Away x) h = absurd (h x refl)

pub only_away_told : (p : ChainPart) (left : Cargo) → ((x : Shipment) → left ≡ Away x → ⊥) → [] ≡ lost_lines (lost_of left) p
only_away_told p Nothing h = nothing_told p
only_away_told p (Deposit list) h = nothing_told p
only_away_told p (Away x) h = absurd (h x refl)
