-- For proofs alone: a reader may skip this file. What `sums` says of a network in which it finds no fault: of no asset, by its path and
-- its kind, do all accounts together have the limit.
-- ---- what counts for an asset
use Rattle.std.specs.Prelude.{ℕ, ◌+◌, ◌<◌, List, [], ◌∷◌, ◌++◌, sum_by, Bool, true, false, ◌&&◌, nat_lt, Option, Some, None, is_ok, if◌then◌else◌}
use Rattle.std.specs.Ordering.{eq_by_cmp}
use Rattle.std.proofs.Common.{◌≡◌, ◌∙◌, refl, sym, ap, subst, arith, append_assoc, append-nil, lit<}
use Rattle.std.proofs.lemmas.Bool.{and_parts, and_from, ltb-true, lt-ltb}
use Rattle.std.proofs.lemmas.List.Sums.{sum_by-cons, sum_by-append, sum_by_push}
use Rattle.locations.specs.declared.grammar.NetworkId.{NetworkId}
use Rattle.locations.specs.declared.grammar.Junction.{Junction}
use Rattle.locations.specs.Order.{junctions_cmp}
use Rattle.locations.proofs.Lemmas.OrderLaws.{junctions_decides}
use Rattle.asset_lists.specs.declared.units.Asset.{Asset}
use Rattle.asset_lists.specs.declared.units.AssetId.{AssetId}
use Rattle.asset_lists.specs.declared.units.AssetId.TheVariants.{Concrete, Abstract}
use Rattle.asset_lists.specs.declared.units.Kind.{Kind}
use Rattle.asset_lists.specs.Units.{unit_of, amount_of}
use Rattle.asset_lists.specs.Listed.{kind_of, same_kind}
use Rattle.asset_lists.proofs.Lemmas.{same_kind_says}
use Rattle.trust_tables.specs.Chains.{path_of_site}
use Rattle.network_spec.specs.declared.chain.Balance.{Balance}
use Rattle.network_spec.specs.declared.chain.ChainSpec.{ChainSpec}
use Rattle.network_spec.specs.declared.network.NetworkSpec.{NetworkSpec}
use Rattle.document_entries.specs.declared.fault.NetworkFault.{NetworkFault}
use Rattle.document_entries.specs.declared.fault.NetworkFault.TheVariants.{LimitPassed}
use Rattle.document_entries.specs.declared.fault.Place.{Place}
use Rattle.document_entries.specs.declared.fault.Section.TheVariants.{Accounts}
use Rattle.document_entries.specs.Forms.{where_true, next_index}
use Rattle.document_entries.specs.Entries.{amount_limit}
use Rattle.network_config.specs.declared.sums.Share.{Share}
use Rattle.network_config.specs.References.{document_place}
use Rattle.network_config.specs.Sums.{path_at, share_by, share_of_id, listed_with, shares_in, shares_of, amount_of_same_asset, total_up_to, sums_in, sums}
use Rattle.network_config.proofs.Lemmas.Faultless.{ok_more}

abbrev pub is_of : List Junction → Kind → Share → Bool
is_of path kind share = eq_by_cmp junctions_cmp share.path path && same_kind share.kind kind

abbrev pub part : List Junction → Kind → Share → ℕ
part path kind share = if is_of path kind share then share.amount else 0

-- beside a share of the asset, others count as they do for the asset
counted_for : (path : List Junction) (kind : Kind) (share : Share) → is_of path kind share ≡ true → amount_of_same_asset share ≡ part path kind
counted_for path kind share h =
    let parts = and_parts _ _ h in
    let paths : share.path ≡ path = (junctions_decides share.path path).0 parts.0 in
    let kinds : share.kind ≡ kind = (same_kind_says share.kind kind).0 parts.1 in
    λ i other. if eq_by_cmp junctions_cmp other.path (paths i) && same_kind other.kind (kinds i) then other.amount else 0

is_itself : (share : Share) → is_of share.path share.kind share ≡ true
is_itself share = and_from _ _ ((junctions_decides share.path share.path).1 refl) ((same_kind_says share.kind share.kind).1 refl)

ok_where : (fault : NetworkFault) (b : Bool) → is_ok (where_true {X = Unit {0}} fault b tt) ≡ b
ok_where fault true = refl
ok_where fault false = refl

sound_share : (earlier shares : List Share) (share : Share) → is_ok (sums_in earlier (share ∷ shares)) ≡ (nat_lt (total_up_to earlier share) amount_limit && is_ok (sums_in (earlier ++ share ∷ []) shares))
unfolding sums_in
sound_share earlier shares share = ok_more _ _ _ _ (ok_where (LimitPassed share.place) (nat_lt (total_up_to earlier share) amount_limit)) refl

one_more : (path : List Junction) (kind : Kind) (earlier : List Share) (share : Share) → nat_lt (total_up_to earlier share) amount_limit ≡ true → sum_by (part path kind) earlier < amount_limit
    → sum_by (part path kind) (earlier ++ share ∷ []) < amount_limit
one_more path kind earlier share h l = by (is_of path kind share) refl
  where
    pushed : sum_by (part path kind) (earlier ++ share ∷ []) ≡ sum_by (part path kind) earlier + part path kind share
    pushed = sum_by_push (part path kind) earlier share

    by : (b : Bool) → is_of path kind share ≡ b → sum_by (part path kind) (earlier ++ share ∷ []) < amount_limit
    by true e =
        let here : part path kind share ≡ share.amount = ap (λ b. if b then share.amount else 0) e in
        let earlier_same : sum_by (amount_of_same_asset share) earlier ≡ sum_by (part path kind) earlier = ap (λ f. sum_by f earlier) (counted_for path kind share e) in
        let below = ltb-true (total_up_to earlier share) amount_limit h in
        omega (arith, pushed, here, earlier_same, below)
    by false e =
        let here : part path kind share ≡ 0 = ap (λ b. if b then share.amount else 0) e in
        omega (arith, pushed, here, l)

pub sums_below : (path : List Junction) (kind : Kind) (earlier shares : List Share) → is_ok (sums_in earlier shares) ≡ true → sum_by (part path kind) earlier < amount_limit
    → sum_by (part path kind) (earlier ++ shares) < amount_limit
sums_below path kind earlier [] h l = rw append-nil l
sums_below path kind earlier (share ∷ shares) h l =
    let parts = and_parts _ _ (sym (sound_share earlier shares share) ∙ h) in
    let rest = sums_below path kind (earlier ++ share ∷ []) shares parts.1 (one_more path kind earlier share parts.0 l) in
    rw (append_assoc earlier (share ∷ []) shares) at rest

pub sums_from : (earlier shares : List Share) → ((path : List Junction) (kind : Kind) → sum_by (part path kind) (earlier ++ shares) < amount_limit) → is_ok (sums_in earlier shares) ≡ true
unfolding sums_in
sums_from earlier [] h = refl
sums_from earlier (share ∷ shares) h =
    let all : sum_by (part share.path share.kind) (earlier ++ share ∷ shares) < amount_limit = h share.path share.kind in
    let split : sum_by (part share.path share.kind) (earlier ++ share ∷ shares) ≡ sum_by (part share.path share.kind) earlier + sum_by (part share.path share.kind) (share ∷ shares) = sum_by-append _ earlier (share ∷ shares) in
    let first : sum_by (part share.path share.kind) (share ∷ shares) ≡ part share.path share.kind share + sum_by (part share.path share.kind) shares = sum_by-cons _ share shares in
    let here : part share.path share.kind share ≡ share.amount = ap (λ b. if b then share.amount else 0) (is_itself share) in
    let below : total_up_to earlier share < amount_limit = omega (arith, all, split, first, here) in
    sound_share earlier shares share
    ∙ and_from _ _ (lt-ltb (total_up_to earlier share) amount_limit below) (sums_from (earlier ++ share ∷ []) shares (λ path kind. rw (append_assoc earlier (share ∷ []) shares) (h path kind)))

-- ---- what a balance counts for, whatever its position

abbrev pub part_at : List Junction → Kind → Asset → Option (List Junction) → ℕ
part_at path kind asset None = 0
part_at path kind asset (Some p) = if eq_by_cmp junctions_cmp p path && same_kind (kind_of (unit_of asset).1) kind then amount_of asset else 0

abbrev pub part_of_id : List Junction → List Junction → Kind → Asset → AssetId → ℕ
part_of_id context path kind asset (Concrete id) = part_at path kind asset (path_at context id)
part_of_id context path kind asset (Abstract bytes) = 0

abbrev pub part_of : List Junction → List Junction → Kind → Balance → ℕ
part_of context path kind balance = part_of_id context path kind balance.asset balance.asset.id

abbrev pub part_in : NetworkId → List Junction → Kind → ChainSpec → ℕ
part_in network path kind c = sum_by (part_of (path_of_site (record { network = network; chain = c.chain })) path kind) c.accounts

by_path : (path : List Junction) (kind : Kind) (place : Place) (asset : Asset) (o : Option (List Junction)) (shares : List Share)
    → sum_by (part path kind) (listed_with (share_by place asset o) shares) ≡ part_at path kind asset o + sum_by (part path kind) shares
by_path path kind place asset None shares = omega arith
by_path path kind place asset (Some p) shares = sum_by-cons (part path kind) (record { place = place; path = p; kind = kind_of (unit_of asset).1; amount = amount_of asset }) shares

by_id : (context path : List Junction) (kind : Kind) (place : Place) (asset : Asset) (id : AssetId) (shares : List Share)
    → sum_by (part path kind) (listed_with (share_of_id place context asset id) shares) ≡ part_of_id context path kind asset id + sum_by (part path kind) shares
by_id context path kind place asset (Concrete id) shares = by_path path kind place asset (path_at context id) shares
by_id context path kind place asset (Abstract bytes) shares = omega arith

in_chain : (context path : List Junction) (kind : Kind) (chain i : ℕ) (balances : List Balance) → sum_by (part path kind) (shares_in chain context i balances) ≡ sum_by (part_of context path kind) balances
unfolding shares_in
in_chain context path kind chain i [] = refl
in_chain context path kind chain i (b ∷ bs) =
    by_id context path kind (document_place (Some chain) Accounts i) b.asset b.asset.id (shares_in chain context (next_index i) bs)
    ∙ ap (λ n. part_of context path kind b + n) (in_chain context path kind chain (next_index i) bs)
    ∙ sym (sum_by-cons (part_of context path kind) b bs)

pub in_chains : (network : NetworkId) (path : List Junction) (kind : Kind) (i : ℕ) (cs : List ChainSpec) → sum_by (part path kind) (shares_of network i cs) ≡ sum_by (part_in network path kind) cs
unfolding shares_of
in_chains network path kind i [] = refl
in_chains network path kind i (c ∷ cs) =
    let context : List Junction = path_of_site (record { network = network; chain = c.chain }) in
    sum_by-append (part path kind) (shares_in i context 0 c.accounts) (shares_of network (next_index i) cs)
    ∙ (λ j. in_chain context path kind i 0 c.accounts j + in_chains network path kind (next_index i) cs j)
    ∙ sym (sum_by-cons (part_in network path kind) c cs)

-- ---- the network

pub ok_sums : (spec : NetworkSpec) → is_ok (sums spec) ≡ true → (path : List Junction) (kind : Kind) → sum_by (part_in spec.network path kind) spec.chains < amount_limit
unfolding sums amount_limit
ok_sums spec h path kind =
    let below : sum_by (part path kind) (shares_of spec.network 0 spec.chains) < amount_limit = sums_below path kind [] (shares_of spec.network 0 spec.chains) h (lit< tt) in
    subst (λ n. n < amount_limit) (in_chains spec.network path kind 0 spec.chains) below

pub sums_ok : (spec : NetworkSpec) → ((path : List Junction) (kind : Kind) → sum_by (part_in spec.network path kind) spec.chains < amount_limit) → is_ok (sums spec) ≡ true
unfolding sums
sums_ok spec h = sums_from [] (shares_of spec.network 0 spec.chains) (λ path kind. subst (λ n. n < amount_limit) (sym (in_chains spec.network path kind 0 spec.chains)) (h path kind))
