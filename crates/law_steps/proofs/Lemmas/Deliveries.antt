-- Lemmas: a delivery is made of safe changes. A reader may skip this file.
use Rattle.std.proofs.Common.{◌≡◌, ℕ, zero, suc, ◌<◌, ◌≤◌, Bool, true, false, List, [], ◌∷◌, Option, Some, None, map, refl, sym, ap, ◌∙◌, subst, arith}
use Rattle.std.specs.Prelude.{IsTrue, ◌==◌, ◌||◌, if◌then◌else◌, find, drop, slice_get, slice_set}
use Rattle.std.specs.List.{AllByRecursion}
use Rattle.std.proofs.lemmas.Bool.{eqb-true}
use Rattle.amounts.specs.Amounts.{amount, total, empty, merge}
use Rattle.amounts.proofs.Lemmas.{same_key, total-merge}
use Rattle.locations.specs.declared.relative.Location.{Location}
use Rattle.asset_lists.specs.declared.units.Asset.{Asset}
use Rattle.asset_lists.specs.Listed.{Listed, listed_cmp, listed_of, lists}
use Rattle.asset_lists.specs.Units.{Unit}
use Rattle.std.specs.Ordering.{eq_by_cmp}
use Rattle.asset_bundles.specs.declared.book.Cause.{Cause}
use Rattle.asset_bundles.specs.declared.shipment.Way.{Way}
use Rattle.asset_bundles.specs.declared.shipment.Shipment.{Shipment}
use Rattle.locations.specs.declared.grammar.Junction.{Junction}
use Rattle.asset_bundles.specs.Bundles.{Bundle, held_assets, IsGoods}
use Rattle.asset_bundles.specs.Books.{is_burn_where, burned_for, AreTotals, AreListed}
use Rattle.asset_bundles.proofs.Lemmas.{listed_keys, burn_keys, booked_below, burned_for_total}
use Rattle.chain_ids.specs.declared.chain.ChainId.{ChainId}
use Rattle.chain_ids.specs.declared.chain.ChainId.TheVariants.{Relay, Para}
use Rattle.chain_ids.specs.Chains.{same_chain}
use Rattle.chain_ids.proofs.Lemmas.{same_chain_told}
use Rattle.trust_tables.specs.declared.chains.Site.{Site}
use Rattle.trust_tables.specs.declared.rows.AssetRow.{AssetRow}
use Rattle.trust_tables.specs.declared.rows.AssetRole.TheVariants.{Derivative}
use Rattle.trust_tables.specs.Chains.{location_of}
use Rattle.trust_tables.specs.Trust.{listing, listed_row, is_partner}
use Rattle.plain_lists.specs.Firsts.{change_first}
use Rattle.channel_parts.specs.declared.cargo.Cargo as carried
use Rattle.channel_parts.specs.declared.cargo.Cargo.TheVariants as cargos
use Rattle.channel_parts.specs.declared.channel.Channel.{Channel}
use Rattle.channel_parts.specs.Channels.{Waiting, Outgoing}
use Rattle.chain_queues.specs.Queues.{leads_to, channel_to, oldest, first_of, without_oldest, popped}
use Rattle.exec_base.specs.Part.{ChainPart, book_of}
use Rattle.network_steps.specs.Worlds as networks
use Rattle.network_steps.specs.Worlds.{Member}
use Rattle.exec_rules.specs.Machine.{Machine}
use Rattle.network_steps.specs.Acting.{lost_by, lost_of, booking_lost}
use Rattle.network_steps.specs.Steps.{without_message}
use Rattle.law_coherence.specs.UniversalAssets.{UniversalAsset, Choice, every}
use Rattle.law_coherence.specs.Networks.{Table, IsIn, asset_of_row, Agrees}
use Rattle.law_coherence.specs.Trusting.{IsShared}
use Rattle.law_coherence.specs.Parts.{Teleport, Part, WorldView, in_bundle, teleported}
use Rattle.law_coherence.specs.Channels as queues
use Rattle.law_coherence.specs.Steps.{tables_of, IsSafe, IsExchange}
use Rattle.law_coherence.proofs.Lemmas.Steps.{table_at, get_set_same, get_set_other}
use Rattle.law_coherence.proofs.Lemmas.Moves.{lost_safe}
use Rattle.law_coherence.proofs.Lemmas.Cargoes.{teleport_native}
use Rattle.law_coherence.proofs.Lemmas.Sendings.{TeleportLost, teleport_lost}
use Rattle.law_coherence.proofs.Lemmas.Receiving.{shared_there}
use Rattle.law_coherence.proofs.Lemmas.Landings.{WithoutFront}
use Rattle.law_coherence.specs.Histories.{History, One, Two}
use Rattle.law_runs.specs.Views.{table_of, shipped_by, cargo_of, channel_of, seen, view}
use Rattle.law_runs.specs.Sums.{in_kept, burned_where, none}
use Rattle.law_runs.proofs.Lemmas.Sums.{sum_of}
use Rattle.law_runs.proofs.Lemmas.Calls.{below}
use Rattle.law_runs.specs.Safety.{AreTrusted, AreTrustedAt, IsTrustedCargo, IsRunnable, links_of}
use Rattle.law_runs.proofs.Lemmas.Shipping.{each_unit}
use Rattle.law_steps.specs.Views.{views}
use Rattle.law_steps.specs.Rooms.{unlisted, AllListed}
use Rattle.law_steps.proofs.Lemmas.Rooms.{small_room, sum_rises, goods_listed}
use Rattle.law_steps.specs.Soundness.{IsLink, IsSoundPart, LawsBelow}
use Rattle.law_steps.proofs.Lemmas.Senders.{sender_seen, loser_seen, ended_lost, nothing_booked}
use Rattle.law_steps.specs.Bounds.{IsSoundGenesis}
use Rattle.law_steps.proofs.Lemmas.Bounds.{agrees_now, small_lost}
use Rattle.law_steps.proofs.Lemmas.Receptions.{Fate, Left, Landed, Passed, StillCarried, HasLanded}
use Rattle.law_steps.specs.Fates.{KeepsShapes}
use Rattle.plain_lists.proofs.Lemmas.Facts.{either_second as or_right}

-- ---- what waits was trusted
first_trusted : (P : Waiting → Type 0) (ms : List Waiting) (x : Waiting) → first_of ms ≡ Some x → AllByRecursion P ms → P x
first_trusted P [] x e all = absurd cc
first_trusted P (m ∷ ms) x e all = let same : m ≡ x = cc in subst P same all.0

same_channel : (c d : Outgoing) → Some c ≡ Some d → c ≡ d
same_channel c d e = cc

pub trusted_front : (site : Site) (rows : List AssetRow) (to : ChainId) (name : Location) → location_of site.chain to ≡ Some name → (cs : List Outgoing) (c : Outgoing) (x : Waiting) → channel_to to cs ≡ Some c → oldest c ≡ Some x
    → AreTrustedAt site rows cs → IsTrustedCargo site rows name x.cargo × IsRunnable x.program
trusted_front site rows to name named [] c x found first all = absurd cc
trusted_front site rows to name named (d ∷ cs) c x found first all =
    elim (same_chain d.channel.to to) as (λ b. same_chain d.channel.to to ≡ b → (if b then Some d else find (leads_to to) cs) ≡ Some c → IsTrustedCargo site rows name x.cargo × IsRunnable x.program) [
      | true ↦ λ t h. first_trusted (λ (x : Waiting). IsTrustedCargo site rows name x.cargo × IsRunnable x.program) d.queue x (ap oldest (same_channel d c h) ∙ first)
          (all.0 name (ap (location_of site.chain) (same_chain_told d.channel.to to t) ∙ named))
      | false ↦ λ t h. trusted_front site rows to name named cs c x h first all.1
    ] refl found

all_behind : (P : Waiting → Type 0) (ms : List Waiting) → AllByRecursion P ms → AllByRecursion P (drop 1 ms)
all_behind P [] all = tt
all_behind P (m ∷ ms) all = all.1

trusted_popped : (site : Site) (rows : List AssetRow) (to : ChainId) (cs : List Outgoing) → AreTrustedAt site rows cs → AreTrustedAt site rows (popped to cs)
trusted_popped site rows to [] all = tt
trusted_popped site rows to (c ∷ cs) all =
    elim (same_chain c.channel.to to) as (λ b. AreTrustedAt site rows (if b then without_oldest c ∷ cs else c ∷ change_first (leads_to to) without_oldest cs)) [
      | true ↦ ((λ name named. all_behind (λ (x : Waiting). IsTrustedCargo site rows name x.cargo × IsRunnable x.program) c.queue (all.0 name named)), all.1)
      | false ↦ (all.0, trusted_popped site rows to cs all.1)
    ]

links_popped : (to : ChainId) (cs : List Outgoing) → links_of (popped to cs) ≡ links_of cs
links_popped to [] = refl
links_popped to (c ∷ cs) =
    elim (same_chain c.channel.to to) as (λ b. links_of (if b then without_oldest c ∷ cs else c ∷ change_first (leads_to to) without_oldest cs) ≡ links_of (c ∷ cs)) [
      | true ↦ refl
      | false ↦ ap (λ (ls : List Channel). c.channel ∷ ls) (links_popped to cs)
    ]

-- ---- the sender between steps
sender_listed : (to : ChainId) (goods : Bundle) (p : ChainPart) → IsSoundPart p → burned_where (unlisted p.rows) (booking_lost goods (without_message to p)) ≤ burned_where (unlisted p.rows) p → AllListed none (booking_lost goods (without_message to p))
unfolding in_kept
sender_listed to goods p s le = let l = s.listed in omega (arith, l, le)

pub sender_sound : (to : ChainId) (goods : Bundle) (p : ChainPart) → IsSoundPart p → burned_where (unlisted p.rows) (booking_lost goods (without_message to p)) ≤ burned_where (unlisted p.rows) p → IsSoundPart (booking_lost goods (without_message to p))
sender_sound to goods p s le = record {
  rest = record { order = record { traps = s.rest.order.traps; rates = s.rest.order.rates; paid = s.rest.order.paid; pools = s.rest.order.pools; unparked = s.rest.order.unparked }; slot = s.rest.slot };
  cargo = s.cargo;
  listed = sender_listed to goods p s le;
  trusted = trusted_popped p.site p.rows to p.channels s.trusted;
  links = subst (AllByRecursion (IsLink p.site.chain)) (sym (links_popped to p.channels)) s.links;
}

nothing_more : (to : ChainId) (goods : Bundle) (p : ChainPart) → goods ≡ empty → burned_where (unlisted p.rows) (booking_lost goods (without_message to p)) ≤ burned_where (unlisted p.rows) p
nothing_more to goods p e = let same = ap (total (is_burn_where (unlisted p.rows))) (nothing_booked p goods e) in omega (arith, same)

listed_more : (to : ChainId) (goods : Bundle) (p : ChainPart) → AreTotals (merge p.burns (burned_for Cause.LostTeleport goods)) → AreListed (listing p.rows) goods
    → burned_where (unlisted p.rows) (booking_lost goods (without_message to p)) ≤ burned_where (unlisted p.rows) p
listed_more to goods p ends listed =
    let test = unlisted p.rows in
    let books = ap (total (is_burn_where test)) (booked_below (book_of p) (burned_for Cause.LostTeleport goods) ends) in
    let sum = total-merge burn_keys (is_burn_where test) p.burns (burned_for Cause.LostTeleport goods) in
    let made = burned_for_total test Cause.LostTeleport goods in
    let z = goods_listed p.rows goods listed in
    omega (arith, books, sum, made, z)

-- a shared unit is listed
shared_listed : (s t : Table) (u : Unit) → IsShared s t u → IsTrue (lists (listing s.rows) (listed_of u))
shared_listed s t u h =
    let row = h.twin.row in
    let same : listed_of u ≡ listed_row row = λ i. (h.twin.unit.id i, h.twin.unit.kind i) in
    row_listed_in s.rows h.twin.listed.0 row h.twin.listed.1 (listed_of u) same
  where
    row_listed_in : (rows : List AssetRow) (i : ℕ) (row : AssetRow) → slice_get rows i ≡ Some row → (k : Listed) → k ≡ listed_row row → lists (listing rows) k ≡ true
    row_listed_in [] i row at k e = absurd cc
    row_listed_in (r ∷ rows) zero row at k e =
        let same : r ≡ row = cc in
        ap (λ (b : Bool). b || lists (listing rows) k) (subst (λ (l : Listed). eq_by_cmp listed_cmp k l ≡ true) (e ∙ ap listed_row (sym same)) (same_key listed_keys k))
    row_listed_in (r ∷ rows) (suc i) row at k e = or_right (eq_by_cmp listed_cmp k (listed_row r)) (lists (listing rows) k) (row_listed_in rows i row at k e)

-- ---- two writes
set_twice : (w : WorldView) (j : ℕ) (x y : Part) → slice_set (slice_set w j x) j y ≡ slice_set w j y
set_twice [] j x y = refl
set_twice (z ∷ w) zero x y = refl
set_twice (z ∷ w) (suc j) x y = ap (λ (u : WorldView). z ∷ u) (set_twice w j x y)

pub views_set : (w : networks.World) (j : ℕ) (m : Member) → views (slice_set w j m) ≡ slice_set (views w) j (seen empty m.part)
views_set [] j m = refl
views_set (x ∷ w) zero m = refl
views_set (x ∷ w) (suc j) m = ap (λ (u : WorldView). seen empty x.part ∷ u) (views_set w j m)

-- another chain has a name
pub has_name : (a b : ChainId) → (a ≡ b → ⊥) → (l : Location) × (location_of a b ≡ Some l)
has_name Relay Relay differ = absurd (differ refl)
has_name Relay (Para number) differ = (_, refl)
has_name (Para own) Relay differ = (_, refl)
has_name (Para own) (Para number) differ =
    elim (own == number) as (λ b. (own == number) ≡ b → (l : Location) × (if◌then◌else◌ {A = Option Location} b None (Some (record { parents = 1; interior = Junction.Parachain number ∷ [] })) ≡ Some l)) [
      | true ↦ λ t. absurd (differ (ap Para (eqb-true own number t)))
      | false ↦ λ t. (_, refl)
    ] refl

pub record Stands (first : WorldView) (v : WorldView) (ps pr : ChainPart) : Type 0 where
  pub history : History first v
  pub sender : IsSoundPart ps
  pub receiver : IsSoundPart pr

module _ (laws : LawsBelow) (shapes : KeepsShapes) (first : WorldView) (genesis : IsSoundGenesis first) (v : WorldView) (history : History first v) (i j : ℕ) (ps pr : ChainPart) (at_i : slice_get v i ≡ Some (seen empty ps)) (at_j : slice_get v j ≡ Some (seen empty pr))
    (apart : i ≡ j → ⊥) (sound_s : IsSoundPart ps) (sound_r : IsSoundPart pr) (cargo : carried.Cargo) (front : queues.front pr.site.chain (map channel_of ps.channels) ≡ Some (cargo_of cargo))
    (name origin : Location) (leads : location_of ps.site.chain pr.site.chain ≡ Some name) (back : location_of pr.site.chain ps.site.chain ≡ Some origin) (trusts : IsTrustedCargo ps.site ps.rows name cargo) where
  abbrev agrees : Agrees (tables_of v)
  agrees = agrees_now first genesis v history

  -- ---- the sender where its cargo is left
  pub record Lost (goods : Bundle) : Type 0 where
    pub safe : IsSafe (seen empty ps) (seen empty (booking_lost goods (without_message pr.site.chain ps)))
    pub sound : IsSoundPart (booking_lost goods (without_message pr.site.chain ps))

  just_ends : (goods : Bundle) → goods ≡ empty → ((a : UniversalAsset) (choice : Choice) → teleported (table_of ps) a choice (cargo_of cargo) ≡ 0) → Lost goods
  just_ends goods e none_of = record {
    safe = subst (λ (q : Part). IsSafe (seen empty ps) q) (sym (sender_seen pr.site.chain goods ps e))
        (lost_safe pr.site.chain (cargo_of cargo) (seen empty ps) _ (ended_lost pr.site.chain (cargo_of cargo) (seen empty ps) front none_of));
    sound = sender_sound pr.site.chain goods ps sound_s (nothing_more pr.site.chain goods ps e);
  }

  burns_it : (units : Bundle) → cargo_of cargo ≡ Teleport units → IsGoods units → AllByRecursion (λ (a : Asset). IsTrue (is_partner ps.rows ps.site a name)) (held_assets units) → Lost units
  burns_it units carries whole partners =
      let s_in : IsIn (tables_of v) (table_of ps) = (i, table_at v i (seen empty ps) at_i) in
      let t_in : IsIn (tables_of v) (table_of pr) = (j, table_at v j (seen empty pr) at_j) in
      let shared : (u : Unit) → 0 < amount units u → IsShared (table_of ps) (table_of pr) u = λ u held.
      let found = each_unit (λ (a : Asset). IsTrue (is_partner ps.rows ps.site a name)) units whole partners u held in
      subst (IsShared (table_of ps) (table_of pr)) (sym found.2) (shared_there (tables_of v) agrees (table_of ps) (table_of pr) s_in t_in name origin leads back found.0 found.1) in
      let front_is : queues.front pr.site.chain (map channel_of ps.channels) ≡ Some (Teleport units) = front ∙ ap Some carries in
      let native : (row : AssetRow) (chain : ChainId) (choice : Choice) → IsIn ps.rows row → row.role ≡ Derivative chain → in_bundle (table_of ps) (asset_of_row (table_of ps) row) choice units ≡ 0 =
      λ row chain choice inside role. teleport_native (tables_of v) agrees (seen empty ps) (table_of pr) units s_in shared row chain choice inside role in
      let listed : AreListed (listing ps.rows) units = λ u held. shared_listed (table_of ps) (table_of pr) u (shared u held) in
      let zero_in : AllListed (sum_of units) ps = (let z = goods_listed ps.rows units listed in let l = sound_s.listed in omega (arith, z, l)) in
      let room = small_room ps (sum_of units) (sum_rises units) zero_in (small_lost first genesis v history i pr.site.chain units ps at_i front_is (λ row chain inside role. native row chain every inside role)) in
      let ends : AreTotals (merge ps.burns (burned_for Cause.LostTeleport units)) = below ps (sum_of units) (burned_for Cause.LostTeleport units) room
      (λ k. let e = burned_for_total (eq_by_cmp listed_cmp k) Cause.LostTeleport units in omega (arith, e)) in
      record {
        safe = subst (λ (q : Part). IsSafe (seen empty ps) q) (sym (loser_seen pr.site.chain units ps ends))
            (lost_safe pr.site.chain (Teleport units) (seen empty ps) (TeleportLost pr.site.chain units (seen empty ps)) (teleport_lost pr.site.chain units (seen empty ps) front_is native));
        sound = sender_sound pr.site.chain units ps sound_s (listed_more pr.site.chain units ps ends listed);
      }

  lost_by_way : (shipment : Shipment) (way : Way) → shipment.way ≡ way → cargo ≡ cargos.Away shipment → IsGoods shipment.units → AreTrusted ps.site ps.rows name way (held_assets shipment.units) → Lost (lost_by way shipment.units)
  lost_by_way shipment Way.Withdrawal by carries whole trusted =
      just_ends empty refl (λ a choice. ap (teleported (table_of ps) a choice) (ap cargo_of carries ∙ ap (λ (w : Way). shipped_by w shipment.units) by))
  lost_by_way shipment Way.Teleport by carries whole trusted = burns_it shipment.units (ap cargo_of carries ∙ ap (λ (w : Way). shipped_by w shipment.units) by) whole trusted

  lost_cargo : (c : carried.Cargo) → cargo ≡ c → IsTrustedCargo ps.site ps.rows name c → Lost (lost_of c)
  lost_cargo cargos.Nothing carries trusted = just_ends empty refl (λ a choice. ap (λ (c : carried.Cargo). teleported (table_of ps) a choice (cargo_of c)) carries)
  lost_cargo (cargos.Deposit list) carries trusted = just_ends empty refl (λ a choice. ap (λ (c : carried.Cargo). teleported (table_of ps) a choice (cargo_of c)) carries)
  lost_cargo (cargos.Away shipment) carries trusted = lost_by_way shipment shipment.way refl carries trusted.0 trusted.1

  -- both chains, whatever the receiver has
  still_carried : (left : carried.Cargo) → left ≡ cargo → (now : Part) → IsSafe (seen empty pr) now → History first (slice_set (slice_set v i (seen empty (booking_lost (lost_of left) (without_message pr.site.chain ps)))) j now)
  still_carried left is now safe =
      let lost : Lost (lost_of left) = subst (λ (c : carried.Cargo). Lost (lost_of c)) (sym is) (lost_cargo cargo refl trusts) in
      let s = booking_lost (lost_of left) (without_message pr.site.chain ps) in
      One (slice_set v i (seen empty s)) j (seen empty pr) now (One v i (seen empty ps) (seen empty s) history at_i lost.safe) (get_set_other v i j (seen empty s) (λ h. apart (sym h)) ∙ at_j) safe

  has_landed : (left : carried.Cargo) (mid : Part) → left ≡ cargos.Nothing → IsExchange (seen empty ps) (WithoutFront (seen empty pr) (seen empty ps)) (seen empty pr) mid → (now : Part) → IsSafe mid now
      → History first (slice_set (slice_set v i (seen empty (booking_lost (lost_of left) (without_message pr.site.chain ps)))) j now)
  has_landed left mid gone exchange now safe =
      let s = booking_lost (lost_of left) (without_message pr.site.chain ps) in
      let seen_so : seen empty s ≡ WithoutFront (seen empty pr) (seen empty ps) = sender_seen pr.site.chain (lost_of left) ps (ap lost_of gone) in
      let moved : IsExchange (seen empty ps) (seen empty s) (seen empty pr) mid = subst (λ (p : Part). IsExchange (seen empty ps) p (seen empty pr) mid) (sym seen_so) exchange in
      let w = slice_set (slice_set v i (seen empty s)) j mid in
      let once : History first w = Two v i j (seen empty ps) (seen empty s) (seen empty pr) mid history at_i at_j apart moved in
      let at : slice_get w j ≡ Some mid = get_set_same (slice_set v i (seen empty s)) j (seen empty pr) mid (get_set_other v i j (seen empty s) (λ h. apart (sym h)) ∙ at_j) in
      subst (History first) (set_twice (slice_set v i (seen empty s)) j mid now) (One w j mid now once at safe)

  -- ---- both chains between steps
  pub stands : (left : carried.Cargo) (q : ChainPart) (comes : Machine → Type 0) → Fate ps pr cargo left q comes
      → Stands first (slice_set (slice_set v i (seen empty (booking_lost (lost_of left) (without_message pr.site.chain ps)))) j (seen empty q)) (booking_lost (lost_of left) (without_message pr.site.chain ps)) q
  stands left q comes (Left is safe sound inside) = record {
    history = still_carried left is (seen empty q) safe;
    sender = (subst (λ (c : carried.Cargo). Lost (lost_of c)) (sym is) (lost_cargo cargo refl trusts)).sound;
    receiver = sound;
  }
  stands left q comes (Landed mid gone exchange safe sound inside) = record {
    history = has_landed left mid gone exchange (seen empty q) safe;
    sender = sender_sound pr.site.chain (lost_of left) ps sound_s (nothing_more pr.site.chain (lost_of left) ps (ap lost_of gone));
    receiver = sound;
  }

  -- both chains while the receiver runs the message, after its first instruction
  pub stands_inside : (left : carried.Cargo) (q : ChainPart) (comes : Machine → Type 0) → Fate ps pr cargo left q comes → (m : Machine) → comes m
      → History first (slice_set (slice_set v i (seen empty (booking_lost (lost_of m.part.cargo.cargo) (without_message pr.site.chain ps)))) j (view m))
  stands_inside left q comes (Left is safe sound inside) m c = let so_far = inside m c in still_carried m.part.cargo.cargo so_far.0 (view m) so_far.1
  stands_inside left q comes (Landed mid gone exchange safe sound inside) m c = let so_far = inside m c in has_landed m.part.cargo.cargo mid so_far.0 exchange (view m) so_far.1

  -- both chains where memory was refused
  pub stands_stopped : (q : ChainPart) → Passed ps pr cargo q → History first (slice_set (slice_set v i (seen empty (booking_lost (lost_of q.cargo.cargo) (without_message pr.site.chain ps)))) j (seen empty q))
  stands_stopped q (StillCarried is safe) = still_carried q.cargo.cargo is (seen empty q) safe
  stands_stopped q (HasLanded mid gone exchange safe) = has_landed q.cargo.cargo mid gone exchange (seen empty q) safe
