-- The listing of the first rows.
use Rattle.std.proofs.Common.{◌≡◌, ℕ, zero, suc, ◌+◌, ◌<◌, List, [], ◌∷◌, ◌++◌, length, get_or, take, map, refl, sym, ap, ◌∙◌, arith, add-one}
use Rattle.locations.specs.declared.relative.Location.{Location}
use Rattle.asset_lists.specs.declared.units.Kind.{Kind}
use Rattle.ledgers.specs.Ledgers.{listed_pair}
use Rattle.trust_tables.specs.declared.rows.AssetRow.{AssetRow}
use Rattle.trust_tables.specs.Trust.{listed_row, listing}

-- one row more
more_by_one : (rows : List AssetRow) (i : ℕ) (row : AssetRow) → i < length rows → row ≡ get_or rows i row → listing (take (suc i) rows) ≡ listing (take i rows) ++ listed_row row ∷ []
more_by_one [] i row inside at = absurd (omega (arith, inside))
more_by_one (r ∷ rows) zero row inside at = ap (λ (x : AssetRow). listed_row x ∷ []) (sym at)
more_by_one (r ∷ rows) (suc i) row inside at = ap (λ ks. listed_row r ∷ ks) (more_by_one rows i row (omega (arith, inside)) at)

pub one_more : (rows : List AssetRow) (i : ℕ) (row : AssetRow) → i < length rows → row ≡ get_or rows i row → listing (take (i + 1) rows) ≡ listing (take i rows) ++ listed_row row ∷ []
one_more rows i row inside at = ap (λ n. listing (take n rows)) (add-one i) ∙ more_by_one rows i row inside at

pub map_more : (places : List (Location × Kind)) (x : Location × Kind) → map listed_pair (places ++ x ∷ []) ≡ map listed_pair places ++ listed_pair x ∷ []
map_more [] x = refl
map_more (y ∷ ys) x = ap (λ ks. listed_pair y ∷ ks) (map_more ys x)

length_places : (places : List (Location × Kind)) → length (map listed_pair places) ≡ length places
length_places [] = refl
length_places (y ∷ ys) = ap suc (length_places ys)

length_listing : (rows : List AssetRow) → length (listing rows) ≡ length rows
length_listing [] = refl
length_listing (r ∷ rows) = ap suc (length_listing rows)

pub as_many : (places : List (Location × Kind)) (rows : List AssetRow) → map listed_pair places ≡ listing rows → length places ≡ length rows
as_many places rows same = sym (length_places places) ∙ ap length same ∙ length_listing rows
