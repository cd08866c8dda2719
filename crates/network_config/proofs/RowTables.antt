-- The table of the assets that a chain's rows list.
use Rattle.std.proofs.Common.{◌≡◌, ◌∙◌, ℕ, ◌+◌, ◌<◌, List, [], ◌∷◌, ◌++◌, length, get_or, take, map, refl, ap, sym, Bool, false, Option, Ok}
use Rattle.std.specs.Prelude.{not, ◌||◌, nat_lt, is_ok}
use Rattle.std.specs.Ordering.{nat_cmp, eq_by_cmp}
use Rattle.std.specs.List.{AllByRecursion, IsDistinct}
use Rattle.std.proofs.lemmas.List.{take_more, map-append}
use Rattle.chain_ids.specs.declared.chain.ChainId.{ChainId}
use Rattle.locations.specs.declared.grammar.NetworkId.{NetworkId}
use Rattle.locations.specs.declared.relative.Location.{Location}
use Rattle.locations.specs.Order.{location_cmp}
use Rattle.locations.specs.Chains.{path_of}
use Rattle.asset_lists.specs.declared.units.AssetId.TheVariants.{Concrete}
use Rattle.asset_lists.specs.declared.units.Kind.{Kind}
use Rattle.asset_lists.specs.Listed.{Listed, kind_number, listed_cmp}
use Rattle.ledgers.specs.Ledgers.{listed_pair}
use Rattle.trust_tables.specs.declared.rows.AssetRow.{AssetRow}
use Rattle.trust_tables.specs.Chains.{path_of_site}
use Rattle.trust_tables.specs.Trust.{listed_row, listing}
use Rattle.trust_tables.proofs.Lemmas.TrustLaws.{position_listed}
use Rattle.network_spec.specs.declared.chain.Balance.{Balance}
use Rattle.network_spec.specs.declared.chain.ChainSpec.{ChainSpec}
use Rattle.document_entries.specs.declared.fault.Section.TheVariants.{Assets}
use Rattle.network_config.specs.References.{same_location, names_others, each_in, asset_flaws}
use Rattle.network_config.proofs.Lemmas.Faultless.{apart, ok_each}
use Rattle.network_config.specs.Holdings.{listed_number}
use Rattle.network_config.proofs.Lemmas.Holdings.{row_number}
use Rattle.plain_lists.proofs.Lemmas.Facts.{first_apart}

-- ---- rows that are listed one by one

listing_append : (xs ys : List AssetRow) → listing (xs ++ ys) ≡ listing xs ++ listing ys
listing_append [] ys = refl
listing_append (x ∷ xs) ys = ap (λ ks. listed_row x ∷ ks) (listing_append xs ys)

pub one_more : (list : List (Location × Kind)) (rows : List AssetRow) (i : ℕ) (row : AssetRow) (id : Location) → i < length rows → row ≡ get_or rows i row → id ≡ row.id
    → map listed_pair list ≡ listing (take i rows) → map listed_pair (list ++ (id, row.kind) ∷ []) ≡ listing (take (i + 1) rows)
one_more list rows i row id l e same so_far =
    rw (take_more rows i row l, ← e) (map-append listed_pair list ((id, row.kind) ∷ []) ∙ (λ j. so_far j ++ (Concrete (same j), row.kind) ∷ []) ∙ sym (listing_append (take i rows) (row ∷ [])))

-- ---- rows whose ids differ

abbrev same_row : AssetRow → AssetRow → Bool
same_row a b = same_location a.id b.id

other_listed : (row : AssetRow) (rows : List AssetRow) → AllByRecursion (λ (y : AssetRow). same_row row y ≡ false) rows → AllByRecursion (λ y. eq_by_cmp listed_cmp (listed_row row) y ≡ false) (listing rows)
other_listed row [] h = tt
other_listed row (y ∷ ys) h = (first_apart (location_cmp row.id y.id) (nat_cmp (kind_number row.kind) (kind_number y.kind)) h.0, other_listed row ys h.1)

listed_apart : (rows : List AssetRow) → IsDistinct same_row rows → IsDistinct (eq_by_cmp listed_cmp) (listing rows)
unfolding IsDistinct
listed_apart [] d = tt
listed_apart (row ∷ rows) d = (other_listed row rows d.0, listed_apart rows d.1)

-- rows in which no fault is found list no asset twice
pub rows_apart : (chains : List ChainSpec) (network : NetworkId) (here : ChainId) (entry : Option ℕ) (rows : List AssetRow) → each_in (asset_flaws chains network here) entry Assets 0 [] rows ≡ Ok tt
    → IsDistinct (eq_by_cmp listed_cmp) (listing rows)
rows_apart chains network here entry rows e =
    let context = path_of_site (record { network = network; chain = here }) in
    listed_apart rows (apart same_row (λ row. not (names_others chains here row.role) || nat_lt (length context) row.id.parents) (λ row. nat_lt 8 (length (path_of context row.id))) [] rows
    (sym (ok_each (asset_flaws chains network here) entry Assets 0 [] rows) ∙ ap is_ok e))

-- ---- numbers

pub number_same : (listed : List Listed) (rows : List AssetRow) (balance : Balance) → listed ≡ listing rows → listed_number listed balance ≡ row_number rows balance
number_same listed rows balance e = ap (λ t. listed_number t balance) e ∙ position_listed rows balance.asset
