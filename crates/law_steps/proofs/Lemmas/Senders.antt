-- Lemmas: what a delivery does to its sender. A reader may skip this file.
use Rattle.std.proofs.Common.{◌≡◌, true, false, List, [], ◌∷◌, Some, map, refl, ap, ◌∙◌, arith}
use Rattle.std.specs.Prelude.{if◌then◌else◌, find, drop}
use Rattle.amounts.specs.Amounts.{empty, merge}
use Rattle.amounts.proofs.Lemmas.AmountLaws.{total-empty, amount-empty, same_amounts}
use Rattle.amounts.proofs.Lemmas.{amount-map_keys}
use Rattle.asset_lists.specs.Units.{Unit, unit_cmp}
use Rattle.asset_lists.specs.Listed.{listed_of}
use Rattle.std.specs.Ordering.{eq_by_cmp}
use Rattle.asset_bundles.specs.declared.book.Cause.{Cause}
use Rattle.asset_bundles.specs.Bundles.{Bundle}
use Rattle.asset_bundles.proofs.Lemmas.Bundles.{unit_keys}
use Rattle.asset_bundles.specs.Books.{Burn, burn_cmp, Burns, burned_for, Booked, AreTotals}
use Rattle.asset_bundles.proofs.Lemmas.{burn_keys, booked_nothing, booked_below}
use Rattle.chain_ids.specs.declared.chain.ChainId.{ChainId}
use Rattle.chain_ids.specs.Chains.{same_chain}
use Rattle.plain_lists.specs.Firsts.{change_first}
use Rattle.channel_parts.specs.Channels.{Waiting, Outgoing}
use Rattle.chain_queues.specs.Queues.{leads_to, channel_to, oldest, first_of, without_oldest, popped}
use Rattle.exec_base.specs.Part.{ChainPart, book_of}
use Rattle.network_steps.specs.Acting.{booking_lost}
use Rattle.network_steps.specs.Steps.{without_message}
use Rattle.law_coherence.specs.UniversalAssets.{UniversalAsset, Choice}
use Rattle.law_coherence.specs.Parts.{Cargo, Channel, Part, stock, account_amount, burned, teleported}
use Rattle.law_coherence.specs.Channels as queues
use Rattle.law_coherence.specs.Moves.{IsLost}
use Rattle.law_coherence.proofs.Lemmas.Sendings.{TeleportLost}
use Rattle.law_runs.specs.Views.{cargo_of, channel_of, seen}

-- ---- the oldest message leaves its channel
tail_map : (ms : List Waiting) → map (λ (m : Waiting). cargo_of m.cargo) (drop 1 ms) ≡ queues.behind_first (map (λ (m : Waiting). cargo_of m.cargo) ms)
tail_map [] = refl
tail_map (m ∷ ms) = refl

pub popped_map : (to : ChainId) (cs : List Outgoing) → map channel_of (popped to cs) ≡ queues.cargo_popped to (map channel_of cs)
popped_map to [] = refl
popped_map to (c ∷ cs) =
    elim (same_chain c.channel.to to) as (λ b. map channel_of (if b then without_oldest c ∷ cs else c ∷ change_first (leads_to to) without_oldest cs)
    ≡ (if b then record { to = c.channel.to; queue = queues.behind_first (map (λ (m : Waiting). cargo_of m.cargo) c.queue) } ∷ map channel_of cs else channel_of c ∷ queues.cargo_popped to (map channel_of cs))) [
      | true ↦ ap (λ (q : List Cargo). let d : Channel = record { to = c.channel.to; queue = q } in d ∷ map channel_of cs) (tail_map c.queue)
      | false ↦ ap (λ (ds : List Channel). channel_of c ∷ ds) (popped_map to cs)
    ]

first_map : (ms : List Waiting) (x : Waiting) → first_of ms ≡ Some x → queues.oldest_cargo (map (λ (m : Waiting). cargo_of m.cargo) ms) ≡ Some (cargo_of x.cargo)
first_map [] x e = absurd cc
first_map (m ∷ ms) x e = let same : m ≡ x = cc in ap (λ (y : Waiting). Some (cargo_of y.cargo)) same

same_channel : (c d : Outgoing) → Some c ≡ Some d → c ≡ d
same_channel c d e = cc

pub front_map : (to : ChainId) (cs : List Outgoing) (c : Outgoing) (x : Waiting) → channel_to to cs ≡ Some c → oldest c ≡ Some x → queues.front to (map channel_of cs) ≡ Some (cargo_of x.cargo)
front_map to [] c x found first = absurd cc
front_map to (d ∷ cs) c x found first =
    elim (same_chain d.channel.to to) as (λ b. (if b then Some d else find (leads_to to) cs) ≡ Some c → (if b then queues.oldest_cargo (map (λ (m : Waiting). cargo_of m.cargo) d.queue) else queues.front to (map channel_of cs)) ≡ Some (cargo_of x.cargo)) [
      | true ↦ λ h. first_map d.queue x (ap oldest (same_channel d c h) ∙ first)
      | false ↦ λ h. front_map to cs c x h first
    ] found

-- ---- nothing is booked
no_burns : (cause : Cause) → burned_for cause empty ≡ empty
unfolding burned_for
no_burns cause = same_amounts burn_keys _ _ (λ (k : Burn).
    let made = amount-map_keys {S = unit_cmp} burn_keys (λ (unit : Unit). (listed_of unit, cause)) empty k in
    let z = total-empty unit_keys (λ (unit : Unit). eq_by_cmp burn_cmp k (listed_of unit, cause)) in
    let y = amount-empty burn_keys k in
    omega (arith, made, z, y))

pub nothing_booked : (p : ChainPart) (goods : Bundle) → goods ≡ empty → (Booked (book_of p) (burned_for Cause.LostTeleport goods)).burns ≡ p.burns
nothing_booked p goods e =
    ap (λ (b : Bundle). (Booked (book_of p) (burned_for Cause.LostTeleport b)).burns) e
    ∙ ap (λ (m : Burns). (Booked (book_of p) m).burns) (no_burns Cause.LostTeleport)
    ∙ ap (λ b. b.burns) (booked_nothing (book_of p))

-- ---- the sender, without the message
pub sender_seen : (to : ChainId) (goods : Bundle) (p : ChainPart) → goods ≡ empty → seen empty (booking_lost goods (without_message to p)) ≡ record (seen empty p) { outgoing = queues.cargo_popped to (map channel_of p.channels) }
sender_seen to goods p e = λ i. record (seen empty p) { burns = nothing_booked p goods e i; outgoing = popped_map to p.channels i }

pub loser_seen : (to : ChainId) (goods : Bundle) (p : ChainPart) → AreTotals (merge p.burns (burned_for Cause.LostTeleport goods)) → seen empty (booking_lost goods (without_message to p)) ≡ TeleportLost to goods (seen empty p)
loser_seen to goods p below = λ i. record (seen empty p) { burns = booked_below (book_of p) (burned_for Cause.LostTeleport goods) below i; outgoing = popped_map to p.channels i }

-- a cargo without a teleport just ends
pub ended_lost : (to : ChainId) (cargo : Cargo) (p : Part) → queues.front to p.outgoing ≡ Some cargo → ((a : UniversalAsset) (choice : Choice) → teleported p.table a choice cargo ≡ 0)
    → IsLost to cargo p (record p { outgoing = queues.cargo_popped to p.outgoing })
unfolding stock burned account_amount
ended_lost to cargo p first none_of = record {
  table = refl;
  checking = refl;
  first = first;
  outgoing = refl;
  burns_now = λ a. let z = none_of a (λ o. true) in omega (arith, z);
  stock_same = λ a choice. refl;
  held_same = λ chain a count. refl;
  native = λ row chain choice inside role. none_of _ choice;
}
