-- What the facts of a chain's state rest on doesn't change.
use Rattle.std.proofs.Common.{◌≡◌, Bool, true, false, ◌&&◌, if◌then◌else◌, List, [], ◌∷◌, refl, ap}
use Rattle.plain_lists.specs.Firsts.{change_first}
use Rattle.channel_parts.specs.Channels.{Outgoing}
use Rattle.asset_bundles.specs.declared.book.Cause.{Cause}
use Rattle.asset_bundles.specs.declared.shipment.Way.{Way}
use Rattle.asset_bundles.specs.Bundles.{Bundle}
use Rattle.asset_bundles.specs.Books.{Book, burned_for}
use Rattle.asset_bundles.specs.Losing.{book_after_loss}
use Rattle.asset_bundles.proofs.Lemmas.{listed-Booked}
use Rattle.asset_lists.specs.Listed.{Listed}
use Rattle.network_steps.specs.Tests.{has_price, have_prices}
use Rattle.chain_state.specs.ListedFees.{is_fee_listed, are_fees_listed}

-- a channel that changes keeps its fee
pub fees_kept : (listed : List Listed) (test : Outgoing → Bool) (change : Outgoing → Outgoing) → ((c : Outgoing) → is_fee_listed listed (change c) ≡ is_fee_listed listed c) → (channels : List Outgoing)
    → are_fees_listed listed (change_first test change channels) ≡ are_fees_listed listed channels
fees_kept listed test change same [] = refl
fees_kept listed test change same (c ∷ cs) =
    elim (test c) as (λ b. are_fees_listed listed (if b then change c ∷ cs else c ∷ change_first test change cs) ≡ (is_fee_listed listed c && are_fees_listed listed cs)) [
      | true ↦ ap (λ p. p && are_fees_listed listed cs) (same c)
      | false ↦ ap (λ p. is_fee_listed listed c && p) (fees_kept listed test change same cs)
    ]

pub prices_kept : (test : Outgoing → Bool) (change : Outgoing → Outgoing) → ((c : Outgoing) → has_price (change c) ≡ has_price c) → (channels : List Outgoing) → have_prices (change_first test change channels) ≡ have_prices channels
prices_kept test change same [] = refl
prices_kept test change same (c ∷ cs) =
    elim (test c) as (λ b. have_prices (if b then change c ∷ cs else c ∷ change_first test change cs) ≡ (has_price c && have_prices cs)) [
      | true ↦ ap (λ p. p && have_prices cs) (same c)
      | false ↦ ap (λ p. has_price c && p) (prices_kept test change same cs)
    ]

-- a loss changes no row of the book
pub lost_listed : (way : Way) (goods : Bundle) (book : Book) → (book_after_loss way goods book).listed ≡ book.listed
lost_listed Way.Withdrawal goods book = refl
lost_listed Way.Teleport goods book = listed-Booked book (burned_for Cause.LostTeleport goods)
