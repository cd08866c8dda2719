-- What is printed of an asset as on its way from a chain is what conservation counts in its channels.
use Rattle.std.specs.Prelude.{◌≡◌, ℕ, Bool, true, false, if◌then◌else◌, List, [], ◌∷◌, map, Option, Some, None, sum_by, refl}
use Rattle.std.specs.List.{IsDistinct, AllByRecursion}
use Rattle.std.specs.Ordering.{eq_by_cmp}
use Rattle.std.proofs.Common.{sym, ap, ◌∙◌, arith}
use Rattle.std.proofs.lemmas.List.Sums.{sum_by-cons}
use Rattle.amounts.specs.Amounts.{total, empty}
use Rattle.locations.specs.declared.relative.Location.{Location}
use Rattle.asset_lists.specs.declared.units.AssetId.TheVariants.{Concrete}
use Rattle.asset_lists.specs.Units.{Unit}
use Rattle.asset_lists.specs.Listed.{listed_cmp}
use Rattle.asset_bundles.specs.declared.shipment.Way.TheVariants as ways
use Rattle.asset_bundles.specs.Bundles.{Bundle, is_asset}
use Rattle.asset_bundles.specs.Books.{is_unit_where, is_unit_of}
use Rattle.chain_ids.specs.declared.chain.ChainId.{ChainId}
use Rattle.chain_ids.specs.Chains.{same_chain}
use Rattle.trust_tables.specs.declared.chains.Site.{Site}
use Rattle.trust_tables.specs.declared.rows.AssetRow.{AssetRow}
use Rattle.trust_tables.specs.Chains.{path_of_site}
use Rattle.trust_tables.specs.Trust.{listing, listed_row}
use Rattle.channel_parts.specs.declared.cargo.Cargo as carried_cargo
use Rattle.channel_parts.specs.Channels.{Waiting, Outgoing}
use Rattle.exec_base.specs.Part.{ChainPart}
use Rattle.law_coherence.specs.UniversalAssets.{UniversalAsset, every, is_unit_at}
use Rattle.law_coherence.specs.Networks.{Table}
use Rattle.law_coherence.specs.Parts.{Cargo, Channel, Whole, teleported, deposited_amount, withdrawn_amount, in_channels, in_channels_to, flight, deposits, withdrawals}
use Rattle.law_runs.specs.Views.{cargo_of, channel_of, table_of, seen}
use Rattle.law_runs.specs.Safety.{IsTrustedCargo, AreTrustedAt, IsRunnable, links_of}
use Rattle.law_steps.specs.Rooms.{unlisted}
use Rattle.law_steps.specs.Soundness.{IsLink, IsSoundPart}
use Rattle.law_steps.proofs.Lemmas.Deliveries.{has_name}
use Rattle.supply_audit.specs.Places.{is_towards, teleports_at, deposits_to, withdrawals_to}
use Rattle.law_audits.proofs.Rows.{IsSum}
use Rattle.law_audits.proofs.Sums.{no_sum, each_sum, goods_sum}
use Rattle.law_audits.proofs.Places.{over_rows_of, rows_are, of_asset, whole_asset}
use Rattle.law_audits.proofs.Cargoes.{away_of, deposits_of, none_in, Count, Counts, by_cargo, whole, Keeps, teleports_keep, withdrawals_keep, deposits_keep, Lists, away_lists, deposits_list}

-- ---- what channels carry
sum_over_map : {X Y : Type 0} (f : Y → ℕ) (g : X → Y) (xs : List X) → sum_by f (map g xs) ≡ sum_by (λ x. f (g x)) xs
sum_over_map f g [] = refl
sum_over_map f g (x ∷ xs) =
    let rest = sum_over_map f g xs in
    let a = sum_by-cons f (g x) (map g xs) in
    let b = sum_by-cons (λ x. f (g x)) x xs in
    omega (arith, rest, a, b)

-- what is counted of all messages of channels
abbrev counted : Count → Option ChainId → List Outgoing → AssetRow → ℕ
counted count to channels row = sum_by (λ (c : Outgoing). if is_towards to c then sum_by (count row) c.queue else 0) channels

module _ (goods : carried_cargo.Cargo → Bundle) where
  abbrev in_queue : (Unit → Bool) → Outgoing → ℕ
  in_queue t c = sum_by (λ (w : Waiting). total t (goods w.cargo)) c.queue

  abbrev share_of : Option ChainId → (Unit → Bool) → Outgoing → ℕ
  share_of to t c = if is_towards to c then in_queue t c else 0

  abbrev sent_of : Option ChainId → List Outgoing → (Unit → Bool) → ℕ
  sent_of to channels t = sum_by (share_of to t) channels

  queue_sum : (c : Outgoing) → IsSum (λ test. in_queue (is_unit_where test) c)
  queue_sum c = each_sum (λ (w : Waiting) test. total (is_unit_where test) (goods w.cargo)) c.queue (λ w. goods_sum (goods w.cargo))

  share_sum : (to : Option ChainId) (c : Outgoing) → IsSum (λ test. share_of to (is_unit_where test) c)
  share_sum to c = elim (is_towards to c) as (λ b. IsSum (λ test. if b then in_queue (is_unit_where test) c else 0)) [ true ↦ queue_sum c | false ↦ no_sum ]

  sent_sum : (to : Option ChainId) (channels : List Outgoing) → IsSum (λ test. sent_of to channels (is_unit_where test))
  sent_sum to channels = each_sum (λ (c : Outgoing) test. share_of to (is_unit_where test) c) channels (share_sum to)

  -- as they are printed
  sent_says : (count : Count) → Counts count goods → (to : Option ChainId) (channels : List Outgoing) (row : AssetRow) → counted count to channels row ≡ sent_of to channels (is_unit_of (listed_row row))
  sent_says count counts to channels row =
      (λ i. sum_by (λ (c : Outgoing). if is_towards to c then sum_by (λ (w : Waiting). counts row w i) c.queue else 0) channels)
      ∙ ap (sent_of to channels) (of_asset (Concrete row.id) row.kind)

  -- as they are conserved
  module _ (kept : Table → UniversalAsset → Cargo → ℕ) (keeps : Keeps kept goods) (t : Table) (a : UniversalAsset) where
    queue_is : (c : Outgoing) → sum_by (kept t a) (channel_of c).queue ≡ in_queue (whole t a) c
    queue_is c =
        sum_over_map (kept t a) (λ (w : Waiting). cargo_of w.cargo) c.queue
        ∙ (λ i. sum_by (λ (w : Waiting). keeps t a w.cargo i) c.queue)

    channels_are : (channels : List Outgoing) → in_channels (kept t a) (map channel_of channels) ≡ sent_of None channels (whole t a)
    unfolding in_channels
    channels_are channels =
        sum_over_map (λ (c : Channel). sum_by (kept t a) c.queue) channel_of channels
        ∙ (λ i. sum_by (λ (c : Outgoing). queue_is c i) channels)

    channels_to_are : (chain : ChainId) (channels : List Outgoing) → in_channels_to chain (kept t a) (map channel_of channels) ≡ sent_of (Some chain) channels (whole t a)
    unfolding in_channels_to
    channels_to_are chain channels =
        sum_over_map (λ (c : Channel). if same_chain c.to chain then sum_by (kept t a) c.queue else 0) channel_of channels
        ∙ (λ i. sum_by (λ (c : Outgoing). if same_chain c.channel.to chain then queue_is c i else 0) channels)

  -- as they are listed
  module _ (in_rows : Lists goods) (site : Site) (rows : List AssetRow) where
    queue_listed : (name : Location) (queue : List Waiting) → AllByRecursion (λ (x : Waiting). IsTrustedCargo site rows name x.cargo × IsRunnable x.program) queue
        → sum_by (λ (w : Waiting). total (is_unit_where (unlisted rows)) (goods w.cargo)) queue ≡ 0
    queue_listed name [] all = refl
    queue_listed name (w ∷ queue) all =
        let here = in_rows site rows name w.cargo all.0.0 in
        let rest = queue_listed name queue all.1 in
        let both = sum_by-cons (λ (w : Waiting). total (is_unit_where (unlisted rows)) (goods w.cargo)) w queue in
        omega (arith, here, rest, both)

    sent_listed : (to : Option ChainId) (channels : List Outgoing) → AreTrustedAt site rows channels → AllByRecursion (IsLink site.chain) (links_of channels)
        → sent_of to channels (is_unit_where (unlisted rows)) ≡ 0
    sent_listed to [] all links = refl
    sent_listed to (c ∷ channels) all links =
        let named = has_name site.chain c.channel.to (λ same. links.0.away (sym same)) in
        let here = queue_listed named.0 c.queue (all.0 named.0 named.1) in
        let rest = sent_listed to channels all.1 links.1 in
        let both = sum_by-cons (share_of to (is_unit_where (unlisted rows))) c channels in
        let share : share_of to (is_unit_where (unlisted rows)) c ≡ 0 =
        elim (is_towards to c) as (λ b. (if b then in_queue (is_unit_where (unlisted rows)) c else 0) ≡ 0) [ true ↦ here | false ↦ refl ] in
        omega (arith, share, rest, both)

-- ---- of an asset
-- a chain between steps, whose rows list each asset once
pub record IsTold (p : ChainPart) : Type 0 where
  pub once : IsDistinct (eq_by_cmp listed_cmp) (listing p.rows)
  pub sound : IsSoundPart p

module _ (p : ChainPart) (told : IsTold p) (a : UniversalAsset) (goods : carried_cargo.Cargo → Bundle) (in_rows : Lists goods) where
  sent_same : (count : Count) → Counts count goods → (to : Option ChainId) → over_rows_of p a (counted count to p.channels) ≡ sent_of goods to p.channels (is_unit_at (path_of_site p.site) a every)
  sent_same count counts to =
      rows_are p a (counted count to p.channels) (λ test. sent_of goods to p.channels (is_unit_where test)) (sent_sum goods to p.channels) (sent_says goods count counts to p.channels) told.once
      (sent_listed goods in_rows p.site p.rows to p.channels told.sound.trusted told.sound.links)
      ∙ ap (sent_of goods to p.channels) (whole_asset p a)

  module _ (kept : Table → UniversalAsset → Cargo → ℕ) (keeps : Keeps kept goods) where
    -- what is printed is given first, so that it is known what is counted
    all_sent : (count : Count) (printed : ℕ) → printed ≡ over_rows_of p a (counted count None p.channels) → Counts count goods → in_channels (kept (table_of p) a) (map channel_of p.channels) ≡ printed
    all_sent count printed is counts = channels_are goods kept keeps (table_of p) a p.channels ∙ sym (sent_same count counts None) ∙ sym is

    sent_to : (count : Count) (chain : ChainId) (printed : ℕ) → printed ≡ over_rows_of p a (counted count (Some chain) p.channels) → Counts count goods → in_channels_to chain (kept (table_of p) a) (map channel_of p.channels) ≡ printed
    sent_to count chain printed is counts = channels_to_are goods kept keeps (table_of p) a chain p.channels ∙ sym (sent_same count counts (Some chain)) ∙ sym is

-- ---- teleports, deposits and withdrawals
module _ (p : ChainPart) (told : IsTold p) (a : UniversalAsset) where
  pub flight_is : flight a every (seen empty p) ≡ teleports_at a p
  flight_is =
      all_sent p told a (away_of ways.Teleport) (away_lists ways.Teleport) (λ t a. teleported t a every) teleports_keep _ (teleports_at a p) refl
      (by_cargo _ (away_of ways.Teleport) (λ row n xs. none_in (is_asset (Concrete row.id) row.kind)) (λ list row n xs. none_in (is_asset (Concrete row.id) row.kind)) (λ units row n xs. none_in (is_asset (Concrete row.id) row.kind)) (λ units row n xs. refl))

  pub deposits_are : (chain : ChainId) → deposits chain a Whole (seen empty p) ≡ deposits_to chain a p
  deposits_are chain =
      sent_to p told a deposits_of deposits_list (λ t a. deposited_amount t a every) deposits_keep _ chain (deposits_to chain a p) refl
      (by_cargo _ deposits_of (λ row n xs. none_in (is_asset (Concrete row.id) row.kind)) (λ list row n xs. refl) (λ units row n xs. none_in (is_asset (Concrete row.id) row.kind)) (λ units row n xs. none_in (is_asset (Concrete row.id) row.kind)))

  pub withdrawals_are : (chain : ChainId) → withdrawals chain a Whole (seen empty p) ≡ withdrawals_to chain a p
  withdrawals_are chain =
      sent_to p told a (away_of ways.Withdrawal) (away_lists ways.Withdrawal) (λ t a. withdrawn_amount t a every) withdrawals_keep _ chain (withdrawals_to chain a p) refl
      (by_cargo _ (away_of ways.Withdrawal) (λ row n xs. none_in (is_asset (Concrete row.id) row.kind)) (λ list row n xs. none_in (is_asset (Concrete row.id) row.kind)) (λ units row n xs. refl) (λ units row n xs. none_in (is_asset (Concrete row.id) row.kind)))
