-- What is added to a table of supplies.
use Rattle.std.proofs.Common.{◌≡◌, ◌∙◌, ℕ, ◌+◌, ◌<◌, min, List, [], ◌∷◌, ◌++◌, length, get_or, take, refl, ap, sym, subst, Bool, true, false, map, rules, arith, zero, suc, add-zero, add_assoc}
use Rattle.std.specs.Prelude.{None, if◌then◌else◌, sum_by}
use Rattle.std.specs.Ordering.{eq_by_cmp, is_eq}
use Rattle.std.specs.declared.cmp.Ordering.{Ordering}
use Rattle.std.specs.declared.cmp.Ordering.TheVariants.{Less, Equal, Greater}
use Rattle.std.specs.List.{list_all}
use Rattle.std.proofs.lemmas.Bool.{and_parts, false≢true}
use Rattle.std.proofs.lemmas.List.{take_more}
use Rattle.std.proofs.lemmas.List.Sums.{sum_by-append}
use Rattle.asset_lists.specs.declared.units.AssetId.TheVariants.{Concrete}
use Rattle.asset_bundles.specs.Books.{most_burned}
use Rattle.asset_bundles.specs.Totals.{total_value}
use Rattle.trust_tables.specs.declared.rows.AssetRow.{AssetRow}
use Rattle.trust_tables.specs.Chains.{path_of_site}
use Rattle.law_coherence.specs.UniversalAssets.{UniversalAsset}
use Rattle.law_coherence.specs.Networks.{is_home}
use Rattle.exec_base.specs.Part.{ChainPart}
use Rattle.network_steps.specs.Tests.{has_path}
use Rattle.chain_state.specs.declared.state.ChainState.{ChainState}
use Rattle.chain_state.specs.Known.{paths_there}
use Rattle.supply_audit.specs.declared.figures.Carried.TheVariants.{Teleports}
use Rattle.supply_audit.specs.declared.figures.Figure.{Figure}
use Rattle.supply_audit.specs.declared.figures.Figure.TheVariants.{Placed, Burned, Sent}
use Rattle.ledgers.specs.declared.supplies.Supply.{Supply}
use Rattle.supply_audit.specs.Assets.{universal_asset_cmp, listed_at}
use Rattle.supply_audit.proofs.Lemmas.AssetLaws.{asset_exact, asset_tests}
use Rattle.supply_audit.specs.Places.{chain_table, is_chain_row_of, row_share, figure}
use Rattle.supply_audit.specs.Supply.{at_homes}
use Rattle.supply_audit.specs.Supplies.{IsSupply, HasSums, Raises, row_part, rows_part, supply_in}
use Rattle.supply_audit.proofs.Saturating.{both, sum-map_append}
use Rattle.plain_lists.proofs.Lemmas.Facts.{all_at}

abbrev Entries : Type 0
Entries = List (UniversalAsset × Supply)

-- ---- rows

-- the id of each row has a path
pub row_has_path : (chain : ChainState) (rows : List AssetRow) (k : ℕ) (row : AssetRow) → rows ≡ chain.settings.rows → k < length rows → row ≡ get_or rows k row
    → has_path (path_of_site chain.settings.site) row ≡ true
row_has_path chain rows k row same inside at =
    all_at (has_path (path_of_site chain.settings.site)) rows k row
    (subst (λ (xs : List AssetRow). list_all (has_path (path_of_site chain.settings.site)) xs ≡ true) (sym same) (paths_there chain)) inside at

-- ---- figures

-- the same figures
pub along : (s : Supply) (f g : Figure → ℕ) → ((w : Figure) → f w ≡ g w) → HasSums s f → HasSums s g
along s f g e h = subst (HasSums s) (λ i w. e w i) h

pub sums_both : (s t u : Supply) (f g : Figure → ℕ) → total_value u.home ≡ min (total_value s.home + total_value t.home) most_burned
    → total_value u.flight ≡ min (total_value s.flight + total_value t.flight) most_burned → total_value u.burned ≡ min (total_value s.burned + total_value t.burned) most_burned
    → HasSums s f → HasSums t g → HasSums u (λ w. f w + g w)
sums_both s t u f g home flight burned x y =
    let sent = Sent Teleports None in
    record {
      home = home ∙ (λ i. min (x.home i + y.home i) most_burned) ∙ both (f Placed) (g Placed) most_burned;
      flight = flight ∙ (λ i. min (x.flight i + y.flight i) most_burned) ∙ both (f sent) (g sent) most_burned;
      burned = burned ∙ (λ i. min (x.burned i + y.burned i) most_burned) ∙ both (f Burned) (g Burned) most_burned;
    }

pub supply_is : (s : Supply) (a : UniversalAsset) (parts : List ChainPart) → HasSums s (λ w. at_homes w a parts) → IsSupply s a parts
supply_is s a parts h = record { home = h.home; flight = h.flight; burned = h.burned }

-- ---- rises

pub raises_nothing : (old : Entries) (m : UniversalAsset → Figure → ℕ) → ((a : UniversalAsset) (w : Figure) → m a w ≡ 0) → Raises old old m
raises_nothing old m e a has h = along (supply_in old a) has (λ w. has w + m a w) (λ w. sym (ap (λ n. has w + n) (e a w) ∙ add-zero (has w))) h

pub raises_along : (old new : Entries) (m n : UniversalAsset → Figure → ℕ) → ((a : UniversalAsset) (w : Figure) → m a w ≡ n a w) → Raises old new m → Raises old new n
raises_along old new m n e r a has h = along (supply_in new a) (λ w. has w + m a w) (λ w. has w + n a w) (λ w. ap (λ k. has w + k) (e a w)) (r a has h)

pub raises_both : (old mid new : Entries) (m n k : UniversalAsset → Figure → ℕ) → ((a : UniversalAsset) (w : Figure) → m a w + n a w ≡ k a w)
    → Raises old mid m → Raises mid new n → Raises old new k
raises_both old mid new m n k e r s a has h =
    along (supply_in new a) (λ w. (has w + m a w) + n a w) (λ w. has w + k a w)
    (λ w. add_assoc (has w) (m a w) (n a w) ∙ ap (λ x. has w + x) (e a w))
    (s a (λ w. has w + m a w) (r a has h))

-- ---- assets

pub same_asset : (x y : UniversalAsset) → eq_by_cmp universal_asset_cmp x y ≡ true → x ≡ y
same_asset x y h = asset_exact x y (tied (universal_asset_cmp x y) h)
  where
    tied : (r : Ordering) → is_eq r ≡ true → r ≡ Equal
    tied Less h = absurd (false≢true h)
    tied Equal h = refl
    tied Greater h = absurd (false≢true h)

-- one asset's entry is written anew
pub raised : (old new : Entries) (asset : UniversalAsset) (found more sum : Supply) → found ≡ supply_in old asset
    → ((a : UniversalAsset) → supply_in new a ≡ (if eq_by_cmp universal_asset_cmp asset a then sum else supply_in old a))
    → total_value sum.home ≡ min (total_value found.home + total_value more.home) most_burned
    → total_value sum.flight ≡ min (total_value found.flight + total_value more.flight) most_burned
    → total_value sum.burned ≡ min (total_value found.burned + total_value more.burned) most_burned
    → (has : Figure → ℕ) → HasSums more has → Raises old new (λ a w. if eq_by_cmp universal_asset_cmp asset a then has w else 0)
raised old new asset found more sum is wrote home flight burned has m a before start =
    subst (λ (s : Supply). HasSums s (λ w. before w + (if eq_by_cmp universal_asset_cmp asset a then has w else 0))) (sym (wrote a))
    (elim (eq_by_cmp universal_asset_cmp asset a) as (λ t. eq_by_cmp universal_asset_cmp asset a ≡ t → HasSums (if t then sum else supply_in old a) (λ w. before w + (if t then has w else 0))) [
      | true ↦ λ e.
          let here : supply_in old a ≡ found = ap (supply_in old) (sym (same_asset asset a e)) ∙ sym is in
          sums_both found more sum before has home flight burned (subst (λ (s : Supply). HasSums s before) here start) m
      | false ↦ λ e. along (supply_in old a) before (λ w. before w + 0) (λ w. sym (add-zero (before w))) start
    ] refl)

-- ---- rows

pub either_nothing : (b : Bool) → ◌≡◌ {A = ℕ} (if b then 0 else 0) 0
either_nothing true = refl
either_nothing false = refl

-- what a row counts for, at each asset, where it is known whether its own is at home
pub part_is : (p : ChainPart) (row : AssetRow) (home : Bool) → is_home (listed_at p.site row) (chain_table p) ≡ home → (a : UniversalAsset) (w : Figure)
    → (if eq_by_cmp universal_asset_cmp (listed_at p.site row) a then (if home then figure w p (Concrete row.id) row.kind else 0) else 0) ≡ row_part p row a w
part_is p row home h a w =
    let has = figure w p (Concrete row.id) row.kind in
    let own = listed_at p.site row in
    let test : eq_by_cmp universal_asset_cmp own a ≡ is_chain_row_of p a row = asset_tests own a in
    elim (eq_by_cmp universal_asset_cmp own a) as (λ t. eq_by_cmp universal_asset_cmp own a ≡ t → (if t then (if home then has else 0) else 0) ≡ row_part p row a w) [
      | true ↦ λ e.
          let at_home : is_home a (chain_table p) ≡ home = ap (λ (x : UniversalAsset). is_home x (chain_table p)) (sym (same_asset own a e)) ∙ h in
          let of_it : is_chain_row_of p a row ≡ true = sym test ∙ e in
          sym (λ i. if at_home i then (if of_it i then has else 0) else 0)
      | false ↦ λ e.
          let of_it : is_chain_row_of p a row ≡ false = sym test ∙ e in
          sym ((λ i. if is_home a (chain_table p) then (if of_it i then has else 0) else 0) ∙ either_nothing (is_home a (chain_table p)))
    ] refl

pub row_away : (old : Entries) (p : ChainPart) (row : AssetRow) → is_home (listed_at p.site row) (chain_table p) ≡ false → Raises old old (row_part p row)
row_away old p row h = raises_nothing old (row_part p row) (λ a w. sym (part_is p row false h a w) ∙ either_nothing (eq_by_cmp universal_asset_cmp (listed_at p.site row) a))

sum_one : {X : Type 0} (f : X → ℕ) (x : X) → sum_by f (x ∷ []) ≡ f x
sum_one f x = search (rules, add-zero)

pub sum_more : {X : Type 0} (f : X → ℕ) (xs : List X) (k : ℕ) (x : X) → k < length xs → x ≡ get_or xs k x → sum_by f (take k xs) + f x ≡ sum_by f (take (k + 1) xs)
sum_more f xs k x l e =
    let front : take (k + 1) xs ≡ take k xs ++ x ∷ [] = take_more xs k x l ∙ ap (λ y. take k xs ++ y ∷ []) (sym e) in
    ap (λ n. sum_by f (take k xs) + n) (sym (sum_one f x)) ∙ sym (sum_by-append f (take k xs) (x ∷ [])) ∙ ap (sum_by f) (sym front)

-- one row more
pub rows_more : (p : ChainPart) (rows : List AssetRow) (k : ℕ) (row : AssetRow) → k < length rows → row ≡ get_or rows k row → (a : UniversalAsset) (w : Figure)
    → rows_part p (take k rows) a w + row_part p row a w ≡ rows_part p (take (k + 1) rows) a w
rows_more p rows k row l e a w =
    let has = row_share p a (figure w p) in
    elim (is_home a (chain_table p)) as (λ b. (if b then sum_by has (take k rows) else 0) + (if b then has row else 0) ≡ (if b then sum_by has (take (k + 1) rows) else 0)) [
      | true ↦ sum_more has rows k row l e
      | false ↦ refl
    ]

-- one chain more
pub homes_more : {X : Type 0} (part : X → ChainPart) (chains : List X) (k : ℕ) (chain : X) → k < length chains → chain ≡ get_or chains k chain → (a : UniversalAsset) (w : Figure)
    → at_homes w a (map part (take k chains)) + rows_part (part chain) (part chain).rows a w ≡ at_homes w a (map part (take (k + 1) chains))
homes_more {X} part chains k chain l e a w =
    let share = λ (p : ChainPart). rows_part p p.rows a w in
    let front : take (k + 1) chains ≡ take k chains ++ chain ∷ [] = take_more chains k chain l ∙ ap (λ y. take k chains ++ y ∷ []) (sym e) in
    ap (λ n. sum_by share (map part (take k chains)) + n) (sym (sum_one share (part chain)))
    ∙ sym (sum-map_append part share (take k chains) (chain ∷ []))
    ∙ ap (λ (xs : List X). sum_by share (map part xs)) (sym front)
