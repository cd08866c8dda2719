-- Rows of running sums: one more, all changed at once, and what they then say of each asset.
use Rattle.std.proofs.Common.{◌≡◌, ℕ, zero, suc, ◌+◌, ◌-◌, ◌<◌, ◌≤◌, Bool, true, false, cond, ◌&&◌, ◌||◌, List, [], ◌∷◌, ◌++◌, map, length, get_or, take, Option, Some, None, refl, sym, ap, ◌∙◌, arith, true≢false}
use Rattle.std.specs.Prelude.{min, nat_lt, if◌then◌else◌}
use Rattle.std.specs.List.{find, list_all, position}
use Rattle.std.specs.Option.{option_map_or}
use Rattle.std.specs.Ordering.{eq_by_cmp}
use Rattle.std.proofs.lemmas.Bool.{and_parts, and_from}
use Rattle.std.proofs.lemmas.List.Folds.{list_all_more}
use Rattle.std.proofs.lemmas.List.Sums.{sum_by-cons}
use Rattle.plain_lists.proofs.Lemmas.Firsts.{found_at, found_nowhere, passes_at}
use Rattle.amounts.specs.Amounts.{total}
use Rattle.amounts.proofs.Lemmas.{same_key, key_same, total_none}
use Rattle.asset_lists.specs.declared.units.AssetId.{AssetId}
use Rattle.asset_lists.specs.declared.units.Asset.{Asset}
use Rattle.asset_lists.specs.declared.units.Instance.{Instance}
use Rattle.asset_lists.specs.declared.units.Kind.{Kind}
use Rattle.asset_lists.specs.Units.{Unit, unit_of, asset_id_cmp}
use Rattle.asset_lists.specs.UnitLaws.{asset_id_total}
use Rattle.asset_lists.proofs.Lemmas.UnitLaws.{asset_id_exact}
use Rattle.asset_lists.specs.Listed.{kind_of, Listed, listed_of, lists}
use Rattle.asset_bundles.specs.Bundles.{Bundle, is_kind, is_asset}
use Rattle.asset_bundles.proofs.Lemmas.Bundles.{unit_keys}
use Rattle.asset_bundles.specs.Books.{most_burned, AreListed}
use Rattle.asset_bundles.proofs.Lemmas.{listed_keys}
use Rattle.asset_bundles.specs.declared.trap.Trap.{Trap}
use Rattle.asset_bundles.specs.Traps.{trapped_amount}
use Rattle.asset_bundles.specs.Sums.{SumRow, is_row, keys_in, sum_at, listed_amount, raised_sum_row, settled_sum_row}

-- ---- where a row is
pub sum_found : (k : Listed) (rows : List SumRow) (i : ℕ) (row : SumRow) → position (is_row k) rows ≡ Some i → row ≡ get_or rows i row → row.1 ≡ sum_at k rows
sum_found k rows i row e at = sym (ap (λ o. option_map_or (λ (r : SumRow). r.1) o 0) (found_at (is_row k) rows i row e at))

pub sum_nowhere : (k : Listed) (rows : List SumRow) → position (is_row k) rows ≡ None → 0 ≡ sum_at k rows
sum_nowhere k rows e = sym (ap (λ o. option_map_or (λ (r : SumRow). r.1) o 0) (found_nowhere (is_row k) rows e))

listed_at : (k : Listed) (rows : List SumRow) (i : ℕ) (row : SumRow) → i < length rows → is_row k (get_or rows i row) ≡ true → lists (keys_in rows) k ≡ true
listed_at k [] i row h here = absurd (omega (arith, h))
listed_at k (r ∷ rows) zero row h here = ap (λ b. b || lists (keys_in rows) k) here
listed_at k (r ∷ rows) (suc i) row h here = elim (is_row k r) as (λ b. (b || lists (keys_in rows) k) ≡ true) [ true ↦ refl | false ↦ listed_at k rows i row (omega (arith, h)) here ]

get_same : (rows : List SumRow) (i : ℕ) (d : SumRow) → get_or rows i d ≡ get_or rows i (get_or rows i d)
get_same [] i d = refl
get_same (x ∷ xs) zero d = refl
get_same (x ∷ xs) (suc i) d = get_same xs i d

pub found_listed : (k : Listed) (rows : List SumRow) (i : ℕ) → position (is_row k) rows ≡ Some i → lists (keys_in rows) k ≡ true
found_listed k [] i e = absurd (cc)
found_listed k (r ∷ rows) i e =
    let same = get_same (r ∷ rows) i r in
    let first = passes_at (is_row k) (r ∷ rows) i (get_or (r ∷ rows) i r) e same in
    listed_at k (r ∷ rows) i r first.0 first.1

-- ---- one more row
pub sum_pushed : (k : Listed) (rows : List SumRow) (row : SumRow) → row.1 ≡ 0 → sum_at k (rows ++ row ∷ []) ≡ sum_at k rows
sum_pushed k [] row none = elim (is_row k row) as (λ b. option_map_or (λ (r : SumRow). r.1) (cond b (Some row) None) 0 ≡ 0) [ true ↦ none | false ↦ refl ]
sum_pushed k (r ∷ rows) row none =
    elim (is_row k r) as (λ b. option_map_or (λ (x : SumRow). x.1) (cond b (Some r) (find (is_row k) (rows ++ row ∷ []))) 0 ≡ option_map_or (λ (x : SumRow). x.1) (cond b (Some r) (find (is_row k) rows)) 0) [
      | true ↦ refl
      | false ↦ sum_pushed k rows row none
    ]

pub listed_pushed : (k : Listed) (rows : List SumRow) (row : SumRow) → lists (keys_in rows) k ≡ true → lists (keys_in (rows ++ row ∷ [])) k ≡ true
listed_pushed k [] row h = absurd (true≢false (sym h))
listed_pushed k (r ∷ rows) row h =
    elim (is_row k r) as (λ b. (b || lists (keys_in rows) k) ≡ true → (b || lists (keys_in (rows ++ row ∷ [])) k) ≡ true) [ true ↦ λ g. refl | false ↦ λ g. listed_pushed k rows row g ] h

pub pushed_listed : (rows : List SumRow) (row : SumRow) → lists (keys_in (rows ++ row ∷ [])) row.0 ≡ true
pushed_listed [] row = ap (λ b. b || false) (same_key listed_keys row.0)
pushed_listed (r ∷ rows) row = elim (is_row row.0 r) as (λ b. (b || lists (keys_in (rows ++ row ∷ [])) row.0) ≡ true) [ true ↦ refl | false ↦ pushed_listed rows row ]

-- a test that passes all of a list passes all where it passes more
pub all_kept : (p q : Asset → Bool) (xs : List Asset) → ((a : Asset) → p a ≡ true → q a ≡ true) → list_all p xs ≡ true → list_all q xs ≡ true
all_kept p q [] more h = refl
all_kept p q (x ∷ xs) more h =
    let parts = and_parts (p x) (list_all p xs) h in
    ap (λ b. b && list_all q xs) (more x parts.0) ∙ all_kept p q xs more parts.1

pub all_listed_more : (rows more : List SumRow) (xs : List Asset) (i : ℕ) (a : Asset) → i < length xs → a ≡ get_or xs i a
    → ((k : Listed) → lists (keys_in rows) k ≡ true → lists (keys_in more) k ≡ true)
    → list_all (λ x. lists (keys_in rows) (listed_of (unit_of x))) (take i xs) ≡ true → lists (keys_in more) (listed_of (unit_of a)) ≡ true
    → list_all (λ x. lists (keys_in more) (listed_of (unit_of x))) (take (i + 1) xs) ≡ true
all_listed_more rows more xs i a h at kept so_far here =
    let q : Asset → Bool = λ x. lists (keys_in more) (listed_of (unit_of x)) in
    list_all_more q xs i a h
    ∙ and_from (list_all q (take i xs)) (q (get_or xs i a)) (all_kept (λ x. lists (keys_in rows) (listed_of (unit_of x))) q (take i xs) (λ x. kept (listed_of (unit_of x))) so_far) (ap q (sym at) ∙ here)

-- ---- all rows changed at once, each by its key
module _ (g : Listed → ℕ → ℕ) where
  abbrev changed : SumRow → SumRow
  changed row = (row.0, g row.0 row.1)

  pub sum_changed : (k : Listed) (rows : List SumRow) → lists (keys_in rows) k ≡ true → sum_at k (map changed rows) ≡ g k (sum_at k rows)
  sum_changed k [] h = absurd (true≢false (sym h))
  sum_changed k (r ∷ rows) h =
      elim (is_row k r) as (λ b. is_row k r ≡ b → (b || lists (keys_in rows) k) ≡ true
      → option_map_or (λ (x : SumRow). x.1) (cond b (Some (changed r)) (find (is_row k) (map changed rows))) 0 ≡ g k (option_map_or (λ (x : SumRow). x.1) (cond b (Some r) (find (is_row k) rows)) 0)) [
        | true ↦ λ e f. ap (λ j. g j r.1) (sym (key_same listed_keys k r.0 e))
        | false ↦ λ e f. sum_changed k rows f
      ] refl h

  pub sum_unlisted : (k : Listed) (rows : List SumRow) → lists (keys_in rows) k ≡ false → sum_at k (map changed rows) ≡ 0
  sum_unlisted k [] h = refl
  sum_unlisted k (r ∷ rows) h =
      elim (is_row k r) as (λ b. (b || lists (keys_in rows) k) ≡ false → option_map_or (λ (x : SumRow). x.1) (cond b (Some (changed r)) (find (is_row k) (map changed rows))) 0 ≡ 0) [
        | true ↦ λ f. absurd (true≢false f)
        | false ↦ λ f. sum_unlisted k rows f
      ] h

pub none_listed : (k : Listed) (rows : List SumRow) → lists (keys_in rows) k ≡ false → sum_at k rows ≡ 0
none_listed k [] h = refl
none_listed k (r ∷ rows) h =
    elim (is_row k r) as (λ b. (b || lists (keys_in rows) k) ≡ false → option_map_or (λ (x : SumRow). x.1) (cond b (Some r) (find (is_row k) rows)) 0 ≡ 0) [
      | true ↦ λ f. absurd (true≢false f)
      | false ↦ λ f. none_listed k rows f
    ] h

-- ---- units of an asset
kind_told : (kind : Kind) (o : Option Instance) → is_kind kind o ≡ true → kind_of o ≡ kind
kind_told Kind.Fungible None e = refl
kind_told Kind.Fungible (Some instance) e = absurd (true≢false (sym e))
kind_told Kind.Class None e = absurd (true≢false (sym e))
kind_told Kind.Class (Some instance) e = refl

asset_told : (k : Listed) (u : Unit) → is_asset k.0 k.1 u ≡ true → listed_of u ≡ k
asset_told k u e =
    let parts = and_parts (eq_by_cmp asset_id_cmp k.0 u.0) (is_kind k.1 u.1) e in
    let id : k.0 ≡ u.0 = key_same (record { total = asset_id_total; exact = asset_id_exact }) k.0 u.0 parts.0 in
    let kind : kind_of u.1 ≡ k.1 = kind_told k.1 u.1 parts.1 in
    λ i. (sym id i, kind i)

-- nothing of an asset without a row is in goods whose assets have rows
pub none_of_unlisted : (listed : List Listed) (goods : Bundle) (k : Listed) → AreListed listed goods → lists listed k ≡ false → listed_amount goods k ≡ 0
none_of_unlisted listed goods k all none =
    total_none unit_keys (is_asset k.0 k.1) goods (λ u some.
    elim (is_asset k.0 k.1 u) as (λ b. is_asset k.0 k.1 u ≡ b → b ≡ false) [
      | true ↦ λ e. absurd (true≢false (sym (all u some) ∙ ap (lists listed) (asset_told k u e) ∙ none))
      | false ↦ λ e. refl
    ] refl)

-- ---- trapping and claiming
zero_min : (n : ℕ) → 0 ≡ min n most_burned → n ≡ 0
zero_min n h = grind (arith, h)

more_min : (n m : ℕ) → min (min n most_burned + m) most_burned ≡ min (n + m) most_burned
more_min n m = grind arith

pub sums_raised : (rows : List SumRow) (goods : Bundle) (before after : List Trap) → AreListed (keys_in rows) goods
    → ((k : Listed) → sum_at k rows ≡ min (trapped_amount k.0 k.1 before) most_burned)
    → ((k : Listed) → trapped_amount k.0 k.1 after ≡ trapped_amount k.0 k.1 before + listed_amount goods k)
    → (k : Listed) → sum_at k (map (raised_sum_row goods) rows) ≡ min (trapped_amount k.0 k.1 after) most_burned
sums_raised rows goods before after listed sums grown k =
    elim (lists (keys_in rows) k) as (λ b. lists (keys_in rows) k ≡ b → sum_at k (map (raised_sum_row goods) rows) ≡ min (trapped_amount k.0 k.1 after) most_burned) [
      | true ↦ λ e. sum_changed (λ j n. min (n + listed_amount goods j) most_burned) k rows e ∙ ap (λ n. min (n + listed_amount goods k) most_burned) (sums k)
          ∙ more_min (trapped_amount k.0 k.1 before) (listed_amount goods k) ∙ ap (λ n. min n most_burned) (sym (grown k))
      | false ↦ λ e.
          let none : trapped_amount k.0 k.1 before ≡ 0 = zero_min _ (sym (none_listed k rows e) ∙ sums k) in
          let part = none_of_unlisted (keys_in rows) goods k listed e in
          let all = grown k in
          let nothing : trapped_amount k.0 k.1 after ≡ 0 = omega (arith, none, part, all) in
          sum_unlisted (λ j n. min (n + listed_amount goods j) most_burned) k rows e ∙ sym (ap (λ n. min n most_burned) nothing)
    ] refl

settled_sum : (n m left : ℕ) → n ≡ left + m → (if nat_lt (min n most_burned) most_burned then min n most_burned - m else min left most_burned) ≡ min left most_burned
settled_sum n m left all = grind (arith, all)

pub sums_settled : (rows : List SumRow) (goods : Bundle) (before after : List Trap)
    → ((k : Listed) → sum_at k rows ≡ min (trapped_amount k.0 k.1 before) most_burned)
    → ((k : Listed) → trapped_amount k.0 k.1 before ≡ trapped_amount k.0 k.1 after + listed_amount goods k)
    → (k : Listed) → sum_at k (map (settled_sum_row goods after) rows) ≡ min (trapped_amount k.0 k.1 after) most_burned
sums_settled rows goods before after sums fallen k =
    elim (lists (keys_in rows) k) as (λ b. lists (keys_in rows) k ≡ b → sum_at k (map (settled_sum_row goods after) rows) ≡ min (trapped_amount k.0 k.1 after) most_burned) [
      | true ↦ λ e. sum_changed (λ j n. if nat_lt n most_burned then n - listed_amount goods j else min (trapped_amount j.0 j.1 after) most_burned) k rows e
          ∙ ap (λ n. if nat_lt n most_burned then n - listed_amount goods k else min (trapped_amount k.0 k.1 after) most_burned) (sums k)
          ∙ settled_sum (trapped_amount k.0 k.1 before) (listed_amount goods k) (trapped_amount k.0 k.1 after) (fallen k)
      | false ↦ λ e.
          let none : trapped_amount k.0 k.1 before ≡ 0 = zero_min _ (sym (none_listed k rows e) ∙ sums k) in
          let all = fallen k in
          let nothing : trapped_amount k.0 k.1 after ≡ 0 = omega (arith, none, all) in
          sum_unlisted (λ j n. if nat_lt n most_burned then n - listed_amount goods j else min (trapped_amount j.0 j.1 after) most_burned) k rows e ∙ sym (ap (λ n. min n most_burned) nothing)
    ] refl

-- ---- counting anew, trap by trap
pub counted_more : (id : AssetId) (kind : Kind) (rest left : List Trap) (t : Trap) (sum next all : ℕ) → rest ≡ t ∷ left → next ≡ min (sum + total (is_asset id kind) t.goods) most_burned
    → min (sum + trapped_amount id kind rest) most_burned ≡ min all most_burned → min (next + trapped_amount id kind left) most_burned ≡ min all most_burned
counted_more id kind rest left t sum next all is step so_far =
    let f : Trap → ℕ = λ x. total (is_asset id kind) x.goods in
    let sums : trapped_amount id kind rest ≡ f t + trapped_amount id kind left = ap (trapped_amount id kind) is ∙ sum_by-cons f t left in
    ap (λ n. min (n + trapped_amount id kind left) most_burned) step ∙ more_min (sum + f t) (trapped_amount id kind left)
    ∙ ap (λ n. min n most_burned) (omega (arith, sums)) ∙ so_far

pub no_more_than : (n next : ℕ) → next ≡ min n most_burned → next ≤ most_burned
no_more_than n next step = grind (arith, step)

pub counted_all : (id : AssetId) (kind : Kind) (rest : List Trap) (sum all : ℕ) → rest ≡ [] → sum ≤ most_burned → min (sum + trapped_amount id kind rest) most_burned ≡ min all most_burned
    → sum ≡ min all most_burned
counted_all id kind rest sum all none within so_far =
    let nothing : trapped_amount id kind rest ≡ 0 = ap (trapped_amount id kind) none in
    let whole : min (sum + trapped_amount id kind rest) most_burned ≡ sum = grind (arith, nothing, within) in
    sym whole ∙ so_far
