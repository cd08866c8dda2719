-- For proofs alone: a reader may skip this file. What the tests of `Trust` say in words. The laws of `laws.rt` say it.
use Rattle.std.specs.Prelude.{◌≡◌, ℕ, suc, ◌+◌, ◌↔◌, Bool, true, false, IsTrue, ◌&&◌, ◌||◌, not, if◌then◌else◌, List, [], ◌∷◌, length, nat_lt, slice_get, position, Option, Some, None, is_none, is_some, IsSomeAnd, option_and_then, refl}
use Rattle.std.specs.Ordering.{eq_by_cmp, is_eq, nat_cmp}
use Rattle.std.specs.List.{position_or_len, list_any, find}
use Rattle.std.proofs.Common.{sym, ap, ◌∙◌, cond, ltb-false, true≢false}
use Rattle.std.proofs.lemmas.Option.{slice_get_past}
use Rattle.std.proofs.lemmas.List.Folds.{Any-from_list_any, list_any-from_Any, find_at}
use Rattle.locations.specs.declared.relative.Location.{Location}
use Rattle.locations.proofs.Lemmas.OrderLaws.{location_decides}
use Rattle.asset_lists.specs.declared.units.Asset.{Asset}
use Rattle.asset_lists.specs.declared.units.AssetId.{AssetId}
use Rattle.asset_lists.specs.declared.units.AssetId.TheVariants.{Concrete, Abstract}
use Rattle.asset_lists.specs.declared.units.Kind.{Kind}
use Rattle.asset_lists.specs.declared.units.Kind.TheVariants.{Fungible, Class}
use Rattle.asset_lists.specs.Units.{unit_of, asset_id_cmp}
use Rattle.asset_lists.specs.Listed.{kind_of, kind_number, same_kind, listed_cmp, listed_of, lists}
use Rattle.asset_lists.proofs.Lemmas.{same_kind_says}
use Rattle.chain_ids.specs.declared.chain.ChainId.{ChainId}
use Rattle.trust_tables.specs.declared.chains.Site.{Site}
use Rattle.trust_tables.specs.declared.rows.AssetRow.{AssetRow}
use Rattle.trust_tables.specs.declared.rows.AssetRole.{AssetRole}
use Rattle.trust_tables.specs.declared.rows.AssetRole.TheVariants.{Native, Derivative}
use Rattle.trust_tables.specs.Chains.{location_of}
use Rattle.trust_tables.specs.Trust.{listed_row, listing, is_id, is_row_of, row_of, has_location, is_location_of, is_reserve_role, is_partner_role, is_reserve, is_partner, holds_of, IsRowOf, IsReserveRole, IsPartnerRole, IsReserve, IsPartner}
use Rattle.plain_lists.proofs.Lemmas.Facts.{equal_then as then_says, same_some as some_same}

not_none : {A : Type 0} (x : A) → None ≡ Some x → ⊥
not_none x e = true≢false (ap is_none e)

-- ---- rows
id_told : AssetId → Location → Location
id_told (Concrete l) m = l
id_told (Abstract name) m = m

is_concrete : AssetId → Bool
is_concrete (Concrete l) = true
is_concrete (Abstract name) = false

is_id_says : (id : AssetId) (l : Location) → IsTrue (is_id id l) ↔ (id ≡ Concrete l)
unfolding id_told is_concrete
is_id_says (Concrete m) l = (λ e. ap Concrete ((location_decides m l).0 e), λ e. (location_decides m l).1 (ap (λ id. id_told id l) e))
is_id_says (Abstract name) l = (λ e. absurd (true≢false (sym e)), λ e. absurd (true≢false (sym (ap is_concrete e))))

and_says : (a b : Bool) → IsTrue (a && b) ↔ (IsTrue a × IsTrue b)
and_says true b = (λ e. (refl, e), λ e. e.1)
and_says false b = (λ e. absurd (true≢false (sym e)), λ e. e.0)

pub is_row_of_says : (a : Asset) (row : AssetRow) → IsTrue (is_row_of a row) ↔ IsRowOf a row
is_row_of_says a row =
    let both = and_says (is_id a.id row.id) (same_kind (kind_of (unit_of a).1) row.kind) in
    let ids = is_id_says a.id row.id in
    let kinds = same_kind_says (kind_of (unit_of a).1) row.kind in
    (λ e. (ids.0 (both.0 e).0, kinds.0 (both.0 e).1), λ e. both.1 (ids.1 e.0, kinds.1 e.1))

past_end : {A : Type 0} (xs : List A) (i : ℕ) (b : Bool) → nat_lt i (length xs) ≡ b → slice_get xs i ≡ option_and_then (slice_get xs) (if b then Some i else None)
past_end xs i true e = refl
past_end xs i false e = slice_get_past xs i (ltb-false i (length xs) e)

-- the row at the index that is found
pub row_at-position : (rows : List AssetRow) (a : Asset) → option_and_then (slice_get rows) (position (is_row_of a) rows) ≡ row_of rows a
row_at-position rows a = sym (find_at (is_row_of a) rows ∙ past_end rows (position_or_len (is_row_of a) rows) _ refl)

-- the row that is found is in the table, and of the asset
found_in : {A : Type 0} (p : A → Bool) (xs : List A) (x : A) → find p xs ≡ Some x → (i : ℕ) × (slice_get xs i ≡ Some x) × (p x ≡ true)
found_in p [] x e = absurd (not_none x e)
found_in p (y ∷ ys) x e =
    elim (p y) as (λ b. p y ≡ b → (if b then Some y else find p ys) ≡ Some x → (i : ℕ) × (slice_get (y ∷ ys) i ≡ Some x) × (p x ≡ true)) [
      | true ↦ λ t is. (0, is, ap p (sym (some_same y x is)) ∙ t)
      | false ↦ λ t is. let rest = found_in p ys x is in (suc rest.0, rest.1, rest.2)
    ] refl e

pub row_found : (rows : List AssetRow) (a : Asset) (row : AssetRow) → row_of rows a ≡ Some row → (i : ℕ) × (slice_get rows i ≡ Some row) × IsRowOf a row
row_found rows a row e = let found = found_in (is_row_of a) rows row e in (found.0, found.1, (is_row_of_says a row).0 found.2)

-- ---- the listing of a table
number_says : (a b : Kind) → is_eq (nat_cmp (kind_number a) (kind_number b)) ≡ same_kind a b
number_says Fungible Fungible = refl
number_says Fungible Class = refl
number_says Class Fungible = refl
number_says Class Class = refl

id_says : (id : AssetId) (l : Location) → is_eq (asset_id_cmp id (Concrete l)) ≡ is_id id l
id_says (Concrete m) l = refl
id_says (Abstract name) l = refl

-- a row is of the asset exactly where its listed asset is that of the asset's unit
pub row_listed : (a : Asset) (row : AssetRow) → eq_by_cmp listed_cmp (listed_of (unit_of a)) (listed_row row) ≡ is_row_of a row
row_listed a row =
    then_says (asset_id_cmp a.id (Concrete row.id)) (nat_cmp (kind_number (kind_of (unit_of a).1)) (kind_number row.kind))
    ∙ (λ i. id_says a.id row.id i && number_says (kind_of (unit_of a).1) row.kind i)

listing_length : (rows : List AssetRow) → length (listing rows) ≡ length rows
listing_length [] = refl
listing_length (row ∷ rows) = ap suc (listing_length rows)

place_listed : (rows : List AssetRow) (a : Asset) → position_or_len (eq_by_cmp listed_cmp (listed_of (unit_of a))) (listing rows) ≡ position_or_len (is_row_of a) rows
place_listed [] a = refl
place_listed (row ∷ rows) a = λ i. cond {A = ℕ} (not (row_listed a row i)) (1 + place_listed rows a i) 0

-- the index of the asset in the listing is that of its row
pub position_listed : (rows : List AssetRow) (a : Asset) → position (eq_by_cmp listed_cmp (listed_of (unit_of a))) (listing rows) ≡ position (is_row_of a) rows
position_listed rows a = λ i. cond {A = Option ℕ} (nat_lt (place_listed rows a i) (listing_length rows i)) (Some (place_listed rows a i)) None

-- the listing has the asset exactly where a row is found
some_found : {A : Type 0} (p : A → Bool) (xs : List A) → list_any p xs ≡ is_some (find p xs)
some_found p [] = refl
some_found p (x ∷ xs) =
    elim (p x) as (λ b. (b || list_any p xs) ≡ is_some (if b then Some x else find p xs)) [ true ↦ refl | false ↦ some_found p xs ]

any_listed : (rows : List AssetRow) (a : Asset) → lists (listing rows) (listed_of (unit_of a)) ≡ list_any (is_row_of a) rows
any_listed [] a = refl
any_listed (row ∷ rows) a = λ i. row_listed a row i || any_listed rows a i

pub listing_says : (rows : List AssetRow) (a : Asset) → lists (listing rows) (listed_of (unit_of a)) ≡ is_some (row_of rows a)
listing_says rows a = any_listed rows a ∙ some_found (is_row_of a) rows

-- ---- roles
is_named_says : (named : Option Location) (l : Location) → IsTrue (has_location named l) ↔ (named ≡ Some l)
is_named_says None l = (λ e. absurd (true≢false (sym e)), λ e. absurd (not_none l e))
is_named_says (Some named) l = (λ e. ap Some ((location_decides named l).0 e), λ e. (location_decides named l).1 (some_same named l e))

is_location_of_says : (here chain : ChainId) (l : Location) → IsTrue (is_location_of here chain l) ↔ (location_of here chain ≡ Some l)
is_location_of_says here chain l = is_named_says (location_of here chain) l

is_reserve_role_says : (here : ChainId) (l : Location) (role : AssetRole) → IsTrue (is_reserve_role here l role) ↔ IsReserveRole here l role
is_reserve_role_says here l (Native partners checking) = (λ e. true≢false (sym e), λ e. absurd e)
is_reserve_role_says here l (Derivative reserve) = is_location_of_says here reserve l

is_partner_role_says : (here : ChainId) (l : Location) (role : AssetRole) → IsTrue (is_partner_role here l role) ↔ IsPartnerRole here l role
is_partner_role_says here l (Native partners checking) = (
  λ e. let some = Any-from_list_any (λ chain. is_location_of here chain l) partners e in (some.0, some.1, some.2, some.3, (is_location_of_says here some.1 l).0 some.4),
  λ some. list_any-from_Any (λ chain. is_location_of here chain l) partners (some.0, some.1, some.2, some.3, (is_location_of_says here some.1 l).1 some.4),
)
is_partner_role_says here l (Derivative reserve) = (λ e. true≢false (sym e), λ e. absurd e)

holds_of_says : (test : AssetRole → Bool) (Says : AssetRole → Type 0) → ((role : AssetRole) → IsTrue (test role) ↔ Says role) → (row : Option AssetRow) → IsTrue (holds_of test row) ↔ IsSomeAnd row (λ r. Says r.role)
holds_of_says test Says says None = (λ e. true≢false (sym e), λ e. absurd e)
holds_of_says test Says says (Some row) = says row.role

pub is_reserve_says : (rows : List AssetRow) (site : Site) (a : Asset) (l : Location) → IsTrue (is_reserve rows site a l) ↔ IsReserve rows site a l
is_reserve_says rows site a l = holds_of_says (is_reserve_role site.chain l) (IsReserveRole site.chain l) (is_reserve_role_says site.chain l) (row_of rows a)

pub is_partner_says : (rows : List AssetRow) (site : Site) (a : Asset) (l : Location) → IsTrue (is_partner rows site a l) ↔ IsPartner rows site a l
is_partner_says rows site a l = holds_of_says (is_partner_role site.chain l) (IsPartnerRole site.chain l) (is_partner_role_says site.chain l) (row_of rows a)
