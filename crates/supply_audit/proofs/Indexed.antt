-- Of the positions of an asset at all chains, those at one chain are the chain's own.
use Rattle.std.proofs.Common.{◌≡◌, ◌∙◌, ℕ, zero, suc, ◌+◌, ◌<◌, nat_eq, Bool, true, false, List, [], ◌∷◌, ◌++◌, Some, refl, sym, ap, arith, add-zero, append-nil, subst}
use Rattle.std.specs.Prelude.{if◌then◌else◌, flat_map, slice_get}
use Rattle.std.specs.List.{enumerate_from, filter}
use Rattle.std.specs.declared.alloc.Global.{Global}
use Rattle.std.specs.declared.vec.Vec.{Vec}
use Rattle.std.proofs.lemmas.List.Elements.{filter-append}
use Rattle.trust_tables.specs.declared.rows.AssetRow.{AssetRow}
use Rattle.law_coherence.specs.UniversalAssets.{UniversalAsset}
use Rattle.law_coherence.specs.Networks.{Table}
use Rattle.supply_audit.specs.declared.place.Place.{Place}
use Rattle.supply_audit.specs.RowPlaces.{is_table_row_of, place_if, chain_places}
use Rattle.supply_audit.specs.AssetPlaces.{all_places, is_at, ArePlaces, HavePlacesOf}

joined : (b : Bool) (xs ys : List Place) → (if b then xs else []) ++ (if b then ys else []) ≡ (if b then xs ++ ys else [])
joined true xs ys = refl
joined false xs ys = refl

nothing : (b : Bool) → ◌≡◌ {A = List Place} [] (if b then [] else [])
nothing true = refl
nothing false = refl

one_at : (i : ℕ) (listed : Bool) (place : Place) → filter (is_at i) (if listed then place ∷ [] else []) ≡ (if nat_eq place.chain i then (if listed then place ∷ [] else []) else [])
one_at i false place = nothing (nat_eq place.chain i)
one_at i true place = elim (nat_eq place.chain i) as (λ b. (if b then place ∷ [] else []) ≡ (if b then place ∷ [] else [])) [ true ↦ refl | false ↦ refl ]

same_number : (n : ℕ) → nat_eq n n ≡ true
same_number n = grind arith

other_number : (n m : ℕ) → m < n → nat_eq n m ≡ false
other_number n m less = grind (arith, less)

before : (n i : ℕ) → nat_eq n (n + suc i) ≡ false
before n i = grind arith

module _ (a : UniversalAsset) where
  rows_at : (t : Table) (n i k : ℕ) (rows : List AssetRow)
      → filter (is_at i) (flat_map (place_if true t a n) (enumerate_from k rows)) ≡ (if nat_eq n i then flat_map (place_if true t a n) (enumerate_from k rows) else [])
  rows_at t n i k [] = nothing (nat_eq n i)
  rows_at t n i k (x ∷ rows) =
      let rest = flat_map (place_if true t a n) (enumerate_from (k + 1) rows) in
      let one = one_at i (is_table_row_of t a x) (record { chain = n; row = k }) in
      let more = rows_at t n i (k + 1) rows in
      filter-append (is_at i) (place_if true t a n (k, x)) rest
      ∙ (λ j. one j ++ more j)
      ∙ joined (nat_eq n i) (place_if true t a n (k, x)) rest

  -- no position is at a chain before these
  none_before : (n m : ℕ) (tables : List Table) → m < n → filter (is_at m) (flat_map (chain_places true a) (enumerate_from n tables)) ≡ []
  none_before n m [] less = refl
  none_before n m (t ∷ tables) less =
      let own = chain_places true a (n, t) in
      let none : filter (is_at m) own ≡ [] = rows_at t n m 0 t.rows ∙ ap (λ b. if b then own else []) (other_number n m less) in
      filter-append (is_at m) own (flat_map (chain_places true a) (enumerate_from (n + 1) tables))
      ∙ (λ j. none j ++ none_before (n + 1) m tables (omega (arith, less)) j)

  past : (n i : ℕ) → (n + 1) + i ≡ n + suc i
  past n i = omega arith

  chain_at : (n i : ℕ) (tables : List Table) (t : Table) → slice_get tables i ≡ Some t
      → filter (is_at (n + i)) (flat_map (chain_places true a) (enumerate_from n tables)) ≡ chain_places true a (n + i, t)
  chain_at n i [] t at = absurd cc
  chain_at n zero (x ∷ tables) t at =
      let own = chain_places true a (n, x) in
      let same : x ≡ t = cc in
      let all : filter (is_at n) own ≡ own = rows_at x n n 0 x.rows ∙ ap (λ b. if b then own else []) (same_number n) in
      let found : filter (is_at n) (flat_map (chain_places true a) (enumerate_from n (x ∷ tables))) ≡ chain_places true a (n, t) =
      filter-append (is_at n) own (flat_map (chain_places true a) (enumerate_from (n + 1) tables))
      ∙ (λ j. all j ++ none_before (n + 1) n tables (omega arith) j)
      ∙ append-nil own
      ∙ ap (λ y. chain_places true a (n, y)) same in
      subst (λ m. filter (is_at m) (flat_map (chain_places true a) (enumerate_from n (x ∷ tables))) ≡ chain_places true a (m, t)) (sym (add-zero n)) found
  chain_at n (suc i) (x ∷ tables) t at =
      let own = chain_places true a (n, x) in
      let rest = flat_map (chain_places true a) (enumerate_from (n + 1) tables) in
      let none : filter (is_at (n + suc i)) own ≡ [] = rows_at x n (n + suc i) 0 x.rows ∙ ap (λ b. if b then own else []) (before n i) in
      let more : filter (is_at (n + suc i)) rest ≡ chain_places true a (n + suc i, t) =
      subst (λ m. filter (is_at m) rest ≡ chain_places true a (m, t)) (past n i) (chain_at (n + 1) i tables t at) in
      filter-append (is_at (n + suc i)) own rest ∙ (λ j. none j ++ more j)

from_zero : (i : ℕ) → 0 + i ≡ i
from_zero i = omega arith

pub own_places : (entries : List (UniversalAsset × Vec Place Global)) (tables : List Table) (i : ℕ) (t : Table) → ArePlaces entries tables → slice_get tables i ≡ Some t → HavePlacesOf entries (i, t)
own_places entries tables i t are at a =
    ap (filter (is_at i)) (are a)
    ∙ subst (λ m. filter (is_at m) (all_places a tables) ≡ chain_places true a (m, t)) (from_zero i) (chain_at a 0 i tables t at)
