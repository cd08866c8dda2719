-- The lines of assets that are burned.
use Rattle.std.proofs.Common.{◌≡◌, ℕ, ◌+◌, ◌-◌, ◌/◌, ◌%◌, ◌^◌, ◌<◌, true, List, [], ◌∷◌, length, drop, min, refl, sym, ap, ◌∙◌, subst, arith, zero, suc}
use Rattle.std.specs.Prelude.{Option, None, Some, is_some, slice_get, nat_le}
use Rattle.std.proofs.lemmas.Bool.{and_parts}
use Rattle.locations.specs.declared.grammar.Junction.{Junction}
use Rattle.locations.specs.declared.relative.Location.{Location}
use Rattle.locations.specs.declared.faults.PathFault.{PathFault}
use Rattle.locations.specs.Chains.{path_of, IsPathFault}
use Rattle.asset_lists.specs.declared.units.AssetId.{AssetId}
use Rattle.asset_lists.specs.declared.units.AssetId.TheVariants.{Concrete, Abstract}
use Rattle.asset_lists.specs.declared.units.Asset.{Asset}
use Rattle.asset_lists.specs.Units.{Unit, unit_of}
use Rattle.asset_lists.specs.Listed.{Listed, listed_of, lists}
use Rattle.asset_bundles.specs.Books.{Book}
use Rattle.asset_bundles.specs.Traps.{number_after, traps_of}
use Rattle.trust_tables.specs.declared.rows.AssetRow.{AssetRow}
use Rattle.trust_tables.specs.Trust.{listing, row_of}
use Rattle.trust_tables.proofs.Lemmas.TrustLaws.{listing_says, row_found}
use Rattle.exec_base.specs.declared.event.Event.{Event}
use Rattle.exec_base.specs.Host.{total_of, trapped_lines}
use Rattle.network_steps.specs.Tests.{has_path, have_paths}
use Rattle.chain_state.specs.Lines.{trap_events_from}

less_whole : (n m : ℕ) → n < m → n % m ≡ n
less_whole n m small = grind (arith, small)

less_none : (n m : ℕ) → n < m → n / m ≡ 0
less_none n m small = grind (arith, small)

-- an amount as a total
pub small_total : (n : ℕ) → n < 2 ^ 128 → total_of n ≡ record { low = n; high = 0 }
small_total n small = λ i. record { low = less_whole n (2 ^ 128) small i; high = ap (λ k. min k (2 ^ 32 - 1)) (less_none n (2 ^ 128) small) i }

-- ---- paths
path_of_row : (context : List Junction) (rows : List AssetRow) (i : ℕ) (row : AssetRow) → have_paths context rows ≡ true → slice_get rows i ≡ Some row → has_path context row ≡ true
path_of_row context [] i row all at = absurd (cc)
path_of_row context (r ∷ rows) zero row all at = (let same : r ≡ row = cc in ap (has_path context) (sym same) ∙ (and_parts (has_path context r) (have_paths context rows) all).0)
path_of_row context (r ∷ rows) (suc i) row all at = path_of_row context rows i row (and_parts (has_path context r) (have_paths context rows) all).1 at

row_there : (o : Option AssetRow) → is_some o ≡ true → (row : AssetRow) × (o ≡ Some row)
row_there None h = absurd (cc)
row_there (Some row) h = (row, refl)

-- the row of a listed asset: its id is the asset's, and it has a path
pub listed_path : (context : List Junction) (rows : List AssetRow) (a : Asset) → have_paths context rows ≡ true → lists (listing rows) (listed_of (unit_of a)) ≡ true
    → (row : AssetRow) × (a.id ≡ Concrete row.id) × (has_path context row ≡ true)
listed_path context rows a all listed =
    let there = row_there (row_of rows a) (sym (listing_says rows a) ∙ listed) in
    let found = row_found rows a there.0 there.1 in
    (there.0, found.2.0, path_of_row context rows found.0 there.0 all found.1)

not_less : (n m : ℕ) → nat_le n m ≡ true → m < n → ⊥
not_less n m h less = grind (arith, h, less)

-- a location with a path has no reason to have none
pub no_fault : (context : List Junction) (row : AssetRow) (l : Location) (fault : PathFault) → has_path context row ≡ true → l ≡ row.id → IsPathFault context l fault → ⊥
no_fault context row l PathFault.PastRoot has same h =
    let parts = and_parts (nat_le row.id.parents (length context)) (nat_le (length (path_of context row.id)) 8) has in
    not_less row.id.parents (length context) parts.0 (subst (λ (k : Location). length context < k.parents) same h)
no_fault context row l PathFault.Full has same h =
    let parts = and_parts (nat_le row.id.parents (length context)) (nat_le (length (path_of context row.id)) 8) has in
    not_less (length (path_of context row.id)) 8 parts.1 (subst (λ (k : Location). 8 < length (path_of context k)) same h.1)

place_in : AssetId → Location → Location
place_in (Concrete l) other = l
place_in (Abstract bytes) other = other

pub same_place : (id : AssetId) (l k : Location) → id ≡ Concrete l → id ≡ Concrete k → l ≡ k
unfolding place_in
same_place id l k first second = ap (λ x. place_in x l) (sym first ∙ second)

pub not_bytes : (id : AssetId) (l : Location) (bytes : List ℕ) → id ≡ Concrete l → id ≡ Abstract bytes → ⊥
not_bytes id l bytes first second = (let both = sym first ∙ second in absurd (cc))

-- ---- traps
pub numbered_step : (n i x : ℕ) → i < n → trap_events_from (n - i) x ≡ Event.Trapped x ∷ trap_events_from (n - (i + 1)) (number_after x)
numbered_step n i x inside = (let e : n - i ≡ suc (n - (i + 1)) = omega (arith, inside) in ap (λ k. trap_events_from k x) e)

-- the lines of the traps that a bundle makes
pub lines_numbered : (count number : ℕ) (origin : Location) (units : List (Unit × ℕ)) → trapped_lines (traps_of count number origin units) ≡ trap_events_from count number
lines_numbered zero number origin units = refl
lines_numbered (suc count) number origin units = ap (λ ls. Event.Trapped number ∷ ls) (lines_numbered count (number_after number) origin (drop 20 units))

-- the book of the ledger's listing
pub same_book : (book : Book) (listed : List Listed) → book.listed ≡ listed → book ≡ record { listed = listed; burns = book.burns }
same_book book listed same = λ i. record { listed = same i; burns = book.burns }
