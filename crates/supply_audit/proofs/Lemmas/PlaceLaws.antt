-- That the rows at the positions of an asset have what the audit's definitions name. A reader can skip it.
-- ---- sums over positions
use Rattle.std.specs.Prelude.{◌≡◌, ℕ, ◌+◌, not, Bool, true, false, if◌then◌else◌, List, [], ◌∷◌, Option, None, Some, option_map, slice_get, map, sum_by, flat_map, refl}
use Rattle.std.specs.List.{enumerate_from, position_or_len}
use Rattle.std.proofs.Common.{sym, ap, ◌∙◌, subst, arith, add-zero, suc, cond, rules}
use Rattle.std.proofs.lemmas.Option.{slice_get-map}
use Rattle.std.proofs.lemmas.List.Folds.{find_at}
use Rattle.std.proofs.lemmas.List.Sums.{sum_by-append, sum_by-cons}
use Rattle.asset_lists.specs.declared.units.AssetId.TheVariants.{Concrete}
use Rattle.chain_ids.specs.declared.chain.ChainId.{ChainId}
use Rattle.chain_ids.specs.Chains.{same_chain}
use Rattle.trust_tables.specs.declared.rows.AssetRow.{AssetRow}
use Rattle.trust_tables.specs.declared.rows.AssetRole.{AssetRole}
use Rattle.trust_tables.specs.declared.rows.AssetRole.TheVariants.{Native, Derivative}
use Rattle.trust_tables.specs.Accounts.{sovereign_account}
use Rattle.law_coherence.specs.UniversalAssets.{UniversalAsset}
use Rattle.law_coherence.specs.Networks.{Table, asset_of_row, is_home}
use Rattle.exec_base.specs.Part.{ChainPart}
use Rattle.supply_audit.specs.declared.figures.Carried.TheVariants.{Teleports, Deposits, Withdrawals}
use Rattle.supply_audit.specs.declared.figures.Figure.{Figure}
use Rattle.supply_audit.specs.declared.figures.Figure.TheVariants.{Placed, Burned, Account, Sent}
use Rattle.supply_audit.specs.declared.place.Place.{Place}
use Rattle.supply_audit.specs.Places.{chain_table, is_chain_row_of, row_share, over_rows, figure}
use Rattle.supply_audit.specs.Supply.{Debt, supply_at_homes, teleports_in_flight, burned_at_homes, if_home, at_homes, chain_at, debt_at, debt_by, debt_between, debt_of_row, debt_of_chain, held_at_reserve, owed_by, of_debt}
use Rattle.supply_audit.specs.RowPlaces.{place_if, chain_places, places_at_home, home_places, place_share, share_in, figure_of_row, over_places, placed_over, flight_over, burned_over}
use Rattle.supply_audit.specs.Covered.{Covered}
use Rattle.supply_audit.specs.Covers.{number_of, cover_at, cover_between, cover_by, cover_of_row, cover_of_chain, held_at, owed_at, of_cover}

past : (n k : ℕ) → (n + 1) + k ≡ n + suc k
past n k = omega arith

at_start : {A : Type 0} (f : ℕ → A) (k : ℕ) → f (0 + k) ≡ f k
at_start f k = ap f (omega arith)

sum_one : {X : Type 0} (f : X → ℕ) (x : X) → sum_by f (x ∷ []) ≡ f x
sum_one f x = search (rules, add-zero)

module _ (f : Figure) (parts : List ChainPart) where
  piece : (i : ℕ) (p : ChainPart) (a : UniversalAsset) (counts : Bool) (n : ℕ) (x : AssetRow) → slice_get parts i ≡ Some p → slice_get p.rows n ≡ Some x
      → sum_by (place_share f parts) (place_if counts (chain_table p) a i (n, x)) ≡ (if counts then row_share p a (figure f p) x else 0)
  piece i p a false n x at row = refl
  piece i p a true n x at row =
      let place : Place = record { chain = i; row = n } in
      let counts : place_share f parts place ≡ figure f p (Concrete x.id) x.kind = ap (share_in f n) at ∙ ap (figure_of_row (figure f p)) row in
      elim (is_chain_row_of p a x) as (λ b. sum_by (place_share f parts) (if b then place ∷ [] else []) ≡ (if b then figure f p (Concrete x.id) x.kind else 0)) [
        | true ↦ sum_one (place_share f parts) place ∙ counts
        | false ↦ refl
      ]

  one_more : (counts : Bool) (has : AssetRow → ℕ) (x : AssetRow) (rows : List AssetRow) → (if counts then has x else 0) + (if counts then sum_by has rows else 0) ≡ (if counts then sum_by has (x ∷ rows) else 0)
  one_more true has x rows = sym (sum_by-cons has x rows)
  one_more false has x rows = refl

  no_rows : (counts : Bool) (has : AssetRow → ℕ) → 0 ≡ (if counts then sum_by has [] else 0)
  no_rows true has = refl
  no_rows false has = refl

  -- the rows of a chain from a number on
  rows_are : (i : ℕ) (p : ChainPart) (a : UniversalAsset) (counts : Bool) → slice_get parts i ≡ Some p → (n : ℕ) (rows : List AssetRow) → ((k : ℕ) → slice_get p.rows (n + k) ≡ slice_get rows k)
      → sum_by (place_share f parts) (flat_map (place_if counts (chain_table p) a i) (enumerate_from n rows)) ≡ (if counts then sum_by (row_share p a (figure f p)) rows else 0)
  rows_are i p a counts at n [] rest = no_rows counts (row_share p a (figure f p))
  rows_are i p a counts at n (x ∷ rows) rest =
      let first : slice_get p.rows n ≡ Some x = ap (slice_get p.rows) (sym (add-zero n)) ∙ rest 0 in
      let here = piece i p a counts n x at first in
      let more = rows_are i p a counts at (n + 1) rows (λ k. ap (slice_get p.rows) (past n k) ∙ rest (suc k)) in
      sum_by-append (place_share f parts) (place_if counts (chain_table p) a i (n, x)) (flat_map (place_if counts (chain_table p) a i) (enumerate_from (n + 1) rows))
      ∙ (λ j. here j + more j)
      ∙ one_more counts (row_share p a (figure f p)) x rows

  pub chain_sum : (i : ℕ) (p : ChainPart) (a : UniversalAsset) → slice_get parts i ≡ Some p → over_places f parts (chain_places true a (i, chain_table p)) ≡ over_rows p a (figure f p)
  chain_sum i p a at = rows_are i p a true at 0 p.rows (at_start (slice_get p.rows))

  homes_are : (a : UniversalAsset) (n : ℕ) (xs : List ChainPart) → ((k : ℕ) → slice_get parts (n + k) ≡ slice_get xs k)
      → sum_by (place_share f parts) (flat_map (places_at_home a) (enumerate_from n (map chain_table xs))) ≡ sum_by (if_home (λ p. over_rows p a (figure f p)) a) xs
  homes_are a n [] rest = refl
  homes_are a n (p ∷ xs) rest =
      let at : slice_get parts n ≡ Some p = ap (slice_get parts) (sym (add-zero n)) ∙ rest 0 in
      let here = rows_are n p a (is_home a (chain_table p)) at 0 p.rows (at_start (slice_get p.rows)) in
      let more = homes_are a (n + 1) xs (λ k. ap (slice_get parts) (past n k) ∙ rest (suc k)) in
      sum_by-append (place_share f parts) (places_at_home a (n, chain_table p)) (flat_map (places_at_home a) (enumerate_from (n + 1) (map chain_table xs)))
      ∙ (λ j. here j + more j)
      ∙ sym (sum_by-cons (if_home (λ p. over_rows p a (figure f p)) a) p xs)

  home_sum : (a : UniversalAsset) → over_places f parts (home_places a (map chain_table parts)) ≡ at_homes f a parts
  home_sum a = homes_are a 0 parts (at_start (slice_get parts))

-- an asset's positions have what the audit finds of it
pub record Sums (parts : List ChainPart) (a : UniversalAsset) : Type 0 where
  pub home : placed_over parts (home_places a (map chain_table parts)) ≡ supply_at_homes a parts
  pub flight : flight_over parts (home_places a (map chain_table parts)) ≡ teleports_in_flight a parts
  pub burned : burned_over parts (home_places a (map chain_table parts)) ≡ burned_at_homes a parts

pub home_sums : (parts : List ChainPart) (a : UniversalAsset) → Sums parts a
home_sums parts a = record { home = home_sum Placed parts a; flight = home_sum (Sent Teleports None) parts a; burned = home_sum Burned parts a }

-- ---- covers

pub position_map : {X Y : Type 0} (g : X → Y) (q : Y → Bool) (xs : List X) → position_or_len q (map g xs) ≡ position_or_len (λ x. q (g x)) xs
position_map g q [] = refl
position_map g q (x ∷ xs) = ap (λ n. cond (not (q (g x))) (1 + n) 0) (position_map g q xs)

-- the cover's figures are those of the derivative
pub record CoversAs (parts : List ChainPart) (cover : Option Covered) (debt : Option Debt) : Type 0 where
  pub held : of_cover (held_at parts) cover ≡ of_debt held_at_reserve debt
  pub owed : of_cover (owed_at parts) cover ≡ of_debt owed_by debt

module _ (parts : List ChainPart) where
  at_number : (chain : ChainId) → slice_get parts (number_of (map chain_table parts) chain) ≡ chain_at parts chain
  at_number chain =
      ap (slice_get parts) (position_map chain_table (λ (t : Table). same_chain t.site.chain chain) parts)
      ∙ sym (find_at (λ (p : ChainPart). same_chain p.site.chain chain) parts)

  table_at : (chain : ChainId) → slice_get (map chain_table parts) (number_of (map chain_table parts) chain) ≡ option_map chain_table (chain_at parts chain)
  table_at chain = slice_get-map chain_table parts (number_of (map chain_table parts) chain) ∙ ap (option_map chain_table) (at_number chain)

  no_cover : CoversAs parts None None
  no_cover = record { held = refl; owed = refl }

  between : (i : ℕ) (p : ChainPart) (row : AssetRow) (j : ℕ) (other : Option ChainPart) → slice_get parts i ≡ Some p → slice_get parts j ≡ other
      → CoversAs parts (cover_between (i, chain_table p) row j (option_map chain_table other)) (debt_between p row other)
  between i p row j None at there = no_cover
  between i p row j (Some q) at there =
      let a = asset_of_row (chain_table p) row in
      let own = λ (f : Figure). chain_sum f parts i p a at in
      let kept = λ (f : Figure). chain_sum f parts j q a there in
      record {
        held = kept (Account (sovereign_account q.site.chain p.site.chain));
        owed = λ k. own Placed k + kept (Sent Deposits (Some p.site.chain)) k + own (Sent Withdrawals (Some q.site.chain)) k;
      }

  by_role : (i : ℕ) (p : ChainPart) (row : AssetRow) (role : AssetRole) → slice_get parts i ≡ Some p → CoversAs parts (cover_by (map chain_table parts) (i, chain_table p) row role) (debt_by parts p row role)
  by_role i p row (Native partners checking) at = no_cover
  by_role i p row (Derivative reserve) at =
      let j = number_of (map chain_table parts) reserve in
      subst (λ (t : Option Table). CoversAs parts (cover_between (i, chain_table p) row j t) (debt_between p row (chain_at parts reserve))) (sym (table_at reserve))
      (between i p row j (chain_at parts reserve) at (at_number reserve))

  of_row : (i : ℕ) (p : ChainPart) (row : Option AssetRow) → slice_get parts i ≡ Some p → CoversAs parts (cover_of_row (map chain_table parts) (i, chain_table p) row) (debt_of_row parts p row)
  of_row i p None at = no_cover
  of_row i p (Some row) at = by_role i p row row.role at

  of_chain : (i row : ℕ) (here : Option ChainPart) → slice_get parts i ≡ here → CoversAs parts (cover_of_chain (map chain_table parts) row i (option_map chain_table here)) (debt_of_chain parts row here)
  of_chain i row None at = no_cover
  of_chain i row (Some p) at = of_row i p (slice_get p.rows row) at

  pub covers_as : (chain : ChainId) (row : ℕ) → CoversAs parts (cover_at (map chain_table parts) chain row) (debt_at parts chain row)
  covers_as chain row =
      let i = number_of (map chain_table parts) chain in
      subst (λ (t : Option Table). CoversAs parts (cover_of_chain (map chain_table parts) row i t) (debt_at parts chain row)) (sym (table_at chain))
      (of_chain i row (chain_at parts chain) (at_number chain))
