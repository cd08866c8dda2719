-- Lemmas that proofs cite, in this crate and above it: what it means that a call of a host isn't refused. A reader of the contracts may skip
-- this file.
use Rattle.std.proofs.Common.{◌≡◌, ℕ, Bool, true, false, List, [], ◌∷◌, Option, Some, None, refl, sym, ap, ◌∙◌}
use Rattle.std.specs.Prelude.{◌||◌, is_some, position}
use Rattle.std.specs.Ordering.{eq_by_cmp}
use Rattle.std.specs.List.{list_all, list_any, AllByRecursion}
use Rattle.amounts.proofs.Lemmas.Rows.{IsKeyOrder}
use Rattle.amounts.proofs.Lemmas.Keys.{number_keys, list_keys, pair_keys, keys_by}
use Rattle.amounts.proofs.Lemmas.{key_same, from_rows-rows}
use Rattle.amounts.specs.Amounts.{rows, from_rows}
use Rattle.locations.specs.declared.relative.Location.{Location}
use Rattle.locations.specs.Order.{location_cmp}
use Rattle.operands.specs.declared.error.XcmError.{XcmError}
use Rattle.asset_lists.specs.declared.units.Asset.{Asset}
use Rattle.asset_lists.specs.Units.{unit_of}
use Rattle.asset_lists.specs.Listed.{listed_of, lists}
use Rattle.asset_bundles.specs.Bundles.{Bundle, bundle_of}
use Rattle.asset_bundles.proofs.Lemmas.Bundles.{unit_keys}
use Rattle.asset_bundles.specs.Books.{AreListed}
use Rattle.asset_bundles.proofs.Lemmas.{listed_list}
use Rattle.plain_lists.proofs.Lemmas.Firsts.{passes_none}
use Rattle.trust_tables.specs.declared.rows.AssetRow.{AssetRow}
use Rattle.trust_tables.specs.declared.rows.AssetRole.{AssetRole}
use Rattle.trust_tables.specs.Trust.{row_of, listing, holds_of, is_reserve_role, is_partner_role}
use Rattle.trust_tables.proofs.Lemmas.TrustLaws.{listing_says}
use Rattle.trust_tables.specs.Accounts.{account_of}
use Rattle.asset_bundles.specs.declared.trap.Trap.{Trap}
use Rattle.exec_base.specs.Part.{ChainPart}
use Rattle.exec_base.specs.Sending.{unless, or_else}
use Rattle.exec_base.specs.Host.{first_fault, debit_fault, trust_fault, bundle_cmp, is_trap, withdraw_refusal, receive_refusal, claim_refusal}
use Rattle.plain_lists.proofs.Lemmas.Facts.{both_are as both_true, second_true as both_right}

-- ---- tests that passed
pub unless_held : (ok : Bool) (e : XcmError) (next : Option XcmError) → unless ok e next ≡ None → ok ≡ true
unless_held true e next h = refl
unless_held false e next h = absurd cc

pub unless_next : (ok : Bool) (e : XcmError) (next : Option XcmError) → unless ok e next ≡ None → next ≡ None
unless_next true e next h = h
unless_next false e next h = absurd cc

pub none_first : (a b : Option XcmError) → or_else a b ≡ None → a ≡ None
none_first None b h = refl
none_first (Some e) b h = h

pub none_next : (a b : Option XcmError) → or_else a b ≡ None → b ≡ None
none_next None b h = h
none_next (Some e) b h = absurd cc

-- ---- what may be given or received is listed
row_is_listed : (rows : List AssetRow) (a : Asset) → is_some (row_of rows a) ≡ true → lists (listing rows) (listed_of (unit_of a)) ≡ true
row_is_listed rows a h = listing_says rows a ∙ h

given_rows : (p : ChainPart) (o : Option (List ℕ)) (list : List Asset) → first_fault (debit_fault p o) list ≡ None → list_all (λ a. lists (listing p.rows) (listed_of (unit_of a))) list ≡ true
given_rows p o [] h = refl
given_rows p o (a ∷ list) h = both_true _ _ (row_is_listed p.rows a (unless_held _ _ _ (none_first _ _ h))) (given_rows p o list (none_next _ _ h))

pub withdrawn_is_listed : (p : ChainPart) (list : List Asset) (who : Location) → withdraw_refusal p list who ≡ None → AreListed (listing p.rows) (bundle_of list)
unfolding withdraw_refusal
withdrawn_is_listed p list who h = listed_list (listing p.rows) list (given_rows p (account_of who p.site) list h)

holds_some : (test : AssetRole → Bool) (o : Option AssetRow) → holds_of test o ≡ true → is_some o ≡ true
holds_some test None h = absurd cc
holds_some test (Some row) h = refl

trusted_row : (p : ChainPart) (from : Location) (teleport : Bool) (a : Asset) → trust_fault p from teleport a ≡ None → is_some (row_of p.rows a) ≡ true
trusted_row p from true a h = holds_some (is_partner_role p.site.chain from) (row_of p.rows a) (unless_held _ _ _ h)
trusted_row p from false a h = holds_some (is_reserve_role p.site.chain from) (row_of p.rows a) (unless_held _ _ _ h)

trusted_rows : (p : ChainPart) (from : Location) (teleport : Bool) (list : List Asset) → first_fault (trust_fault p from teleport) list ≡ None
    → list_all (λ a. lists (listing p.rows) (listed_of (unit_of a))) list ≡ true
trusted_rows p from teleport [] h = refl
trusted_rows p from teleport (a ∷ list) h = both_true _ _ (row_is_listed p.rows a (trusted_row p from teleport a (none_first _ _ h))) (trusted_rows p from teleport list (none_next _ _ h))

pub received_is_listed : (p : ChainPart) (list : List Asset) (from : Location) (teleport : Bool) → receive_refusal p list from teleport ≡ None → AreListed (listing p.rows) (bundle_of list)
unfolding receive_refusal
received_is_listed p list from teleport h = listed_list (listing p.rows) list (trusted_rows p from teleport list (none_first _ _ h))

-- ---- a trap that is found has just the assets of the list
same_rows : (a b : Bundle) → rows a ≡ rows b → a ≡ b
same_rows a b e = sym (from_rows-rows unit_keys a) ∙ ap from_rows e ∙ from_rows-rows unit_keys b

bundle_keys : IsKeyOrder bundle_cmp
bundle_keys = keys_by (λ (b : Bundle). rows b) same_rows (list_keys (pair_keys unit_keys number_keys))

pub goods_of_trap : (list : List Asset) (origin : Location) (t : Trap) → is_trap list origin t ≡ true → t.goods ≡ bundle_of list
goods_of_trap list origin t h = key_same bundle_keys t.goods (bundle_of list) (both_right (eq_by_cmp location_cmp t.origin origin) _ h)

or_second : (a b : Bool) → a ≡ false → (a || b) ≡ true → b ≡ true
or_second true b e h = absurd cc
or_second false b e h = h

none_any : {X : Type 0} (test : X → Bool) (xs : List X) → AllByRecursion (λ (x : X). test x ≡ false) xs → list_any test xs ≡ true → ⊥
none_any test [] all h = absurd cc
none_any test (x ∷ xs) all h = none_any test xs all.1 (or_second _ _ all.0 h)

pub found_somewhere : (p : ChainPart) (list : List Asset) (origin : Location) → claim_refusal p list origin ≡ None → position (is_trap list origin) p.traps.traps ≡ None → ⊥
unfolding claim_refusal
found_somewhere p list origin ok none = none_any (is_trap list origin) p.traps.traps (passes_none (is_trap list origin) p.traps.traps none) (unless_held _ _ _ ok)
