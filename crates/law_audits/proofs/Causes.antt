-- One asset of a chain: units by their id and kind, and burns by their four causes.
use Rattle.std.specs.Prelude.{◌≡◌, Bool, true, false, ◌&&◌, not, Option, Some, None, refl}
use Rattle.std.specs.Ordering.{eq_by_cmp, is_eq, nat_cmp}
use Rattle.std.proofs.Common.{sym, ap, ◌∙◌, arith}
use Rattle.amounts.specs.Amounts.{total}
use Rattle.amounts.proofs.Lemmas.AmountLaws.{total_alike, total_split, amount-total}
use Rattle.asset_lists.specs.declared.units.AssetId.{AssetId}
use Rattle.asset_lists.specs.declared.units.Instance.{Instance}
use Rattle.asset_lists.specs.declared.units.Kind.{Kind}
use Rattle.asset_lists.specs.Units.{Unit, asset_id_cmp}
use Rattle.asset_lists.specs.Listed.{Listed, listed_cmp, kind_of, kind_number}
use Rattle.asset_bundles.specs.declared.book.Cause.{Cause}
use Rattle.asset_bundles.specs.Bundles.{is_kind, is_asset}
use Rattle.asset_bundles.specs.Books.{Burn, Burns, burn_cmp, burned_by_any_cause, cause_index, is_unit_of}
use Rattle.asset_bundles.proofs.Lemmas.Books.{is_burn_of}
use Rattle.asset_bundles.proofs.Lemmas.{burn_keys}
use Rattle.plain_lists.proofs.Lemmas.Facts.{equal_then as then_says}

-- ---- units
kind_says : (kind : Kind) (i : Option Instance) → is_eq (nat_cmp (kind_number kind) (kind_number (kind_of i))) ≡ is_kind kind i
kind_says Kind.Fungible None = refl
kind_says Kind.Fungible (Some i) = refl
kind_says Kind.Class None = refl
kind_says Kind.Class (Some i) = refl

-- a unit is of an id and a kind where it is of that listed asset
pub asset_says : (id : AssetId) (kind : Kind) (u : Unit) → is_asset id kind u ≡ is_unit_of (id, kind) u
asset_says id kind u =
    sym (then_says (asset_id_cmp id u.0) (nat_cmp (kind_number kind) (kind_number (kind_of u.1))) ∙ ap (λ b. eq_by_cmp asset_id_cmp id u.0 && b) (kind_says kind u.1))

-- ---- burns
abbrev is_cause : Cause → Cause → Bool
is_cause c d = is_eq (nat_cmp (cause_index c) (cause_index d))

abbrev is_for : Listed → Cause → Burn → Bool
is_for k c = eq_by_cmp burn_cmp (k, c)

for_says : (k : Listed) (c : Cause) (burn : Burn) → is_for k c burn ≡ (is_burn_of k burn && is_cause c burn.1)
for_says k c burn = then_says (listed_cmp k burn.0) (nat_cmp (cause_index c) (cause_index burn.1))

taken : (e n : Bool) → ((e && n) && e) ≡ (e && n)
taken true true = refl
taken true false = refl
taken false n = refl

second : (e : Bool) (d : Cause) → ((e && is_cause Cause.LostTeleport d) && (not (e && is_cause Cause.BurnAsset d) && e)) ≡ (e && is_cause Cause.LostTeleport d)
second false d = refl
second true Cause.BurnAsset = refl
second true Cause.LostTeleport = refl
second true Cause.Merged = refl
second true Cause.Saturated = refl

third : (e : Bool) (d : Cause) → ((e && is_cause Cause.Merged d) && (not (e && is_cause Cause.LostTeleport d) && (not (e && is_cause Cause.BurnAsset d) && e))) ≡ (e && is_cause Cause.Merged d)
third false d = refl
third true Cause.BurnAsset = refl
third true Cause.LostTeleport = refl
third true Cause.Merged = refl
third true Cause.Saturated = refl

fourth : (e : Bool) (d : Cause) → (not (e && is_cause Cause.Merged d) && (not (e && is_cause Cause.LostTeleport d) && (not (e && is_cause Cause.BurnAsset d) && e))) ≡ (e && is_cause Cause.Saturated d)
fourth false d = refl
fourth true Cause.BurnAsset = refl
fourth true Cause.LostTeleport = refl
fourth true Cause.Merged = refl
fourth true Cause.Saturated = refl

-- what was burned of an asset for all causes is all that was burned of it
pub all_causes : (burns : Burns) (id : AssetId) (kind : Kind) → burned_by_any_cause burns id kind ≡ total (is_burn_of (id, kind)) burns
all_causes burns id kind =
    let k : Listed = (id, kind) in
    let e = is_burn_of k in
    let by = λ (c : Cause) (burn : Burn). e burn && is_cause c burn.1 in
    let one = λ (c : Cause). amount-total burn_keys burns (k, c) ∙ total_alike (is_for k c) (by c) burns (for_says k c) in
    let a = one Cause.BurnAsset in
    let b = one Cause.LostTeleport in
    let c = one Cause.Merged in
    let d = one Cause.Saturated in
    let behind = λ (burn : Burn). not (by Cause.BurnAsset burn) && e burn in
    let last = λ (burn : Burn). not (by Cause.LostTeleport burn) && behind burn in
    let x = total_split burn_keys e (by Cause.BurnAsset) burns in
    let y = total_split burn_keys behind (by Cause.LostTeleport) burns in
    let z = total_split burn_keys last (by Cause.Merged) burns in
    let p = total_alike (λ burn. by Cause.BurnAsset burn && e burn) (by Cause.BurnAsset) burns (λ burn. taken (e burn) (is_cause Cause.BurnAsset burn.1)) in
    let q = total_alike (λ burn. by Cause.LostTeleport burn && behind burn) (by Cause.LostTeleport) burns (λ burn. second (e burn) burn.1) in
    let r = total_alike (λ burn. by Cause.Merged burn && last burn) (by Cause.Merged) burns (λ burn. third (e burn) burn.1) in
    let s = total_alike (λ burn. not (by Cause.Merged burn) && last burn) (by Cause.Saturated) burns (λ burn. fourth (e burn) burn.1) in
    omega (arith, a, b, c, d, x, y, z, p, q, r, s)
