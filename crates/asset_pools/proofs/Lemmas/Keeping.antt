-- For proofs alone: a reader may skip this file. What an exchange that is made says, and what it keeps of accounts and goods.
use Rattle.std.proofs.Common.{◌≡◌, ℕ, zero, suc, length, ◌+◌, ◌-◌, ◌*◌, ◌^◌, ◌<◌, ◌≤◌, Bool, true, false, ◌&&◌, ◌⊎◌, inl, inr, List, [], ◌∷◌, take, drop, get_or, Option, Some, None, refl, sym, ap, ◌∙◌, subst, arith, true≢false}
use Rattle.std.specs.Prelude.{not, option_and_then, position, slice_get}
use Rattle.std.specs.Option.{option_map}
use Rattle.std.specs.List.{list_any, range_with_len}
use Rattle.std.specs.Str.{bytes_eq}
use Rattle.std.specs.Ordering.{eq_by_cmp}
use Rattle.std.specs.Int.{from_le_bytes, w32}
use Rattle.std.proofs.lemmas.Bool.{cases_eq, cases_lt}
use Rattle.std.proofs.lemmas.Option.{get_or_from_slice_get}
use Rattle.std.proofs.lemmas.List.Quantifiers.{position-Some}
use Rattle.std.proofs.lemmas.Nat.{from_le_bytes-to_le_bytes_4}
use Rattle.amounts.specs.Rows.{amount_if, sum_where}
use Rattle.amounts.proofs.Lemmas.Rows.{IsKeyOrder}
use Rattle.amounts.specs.Amounts.{amount, total, rows}
use Rattle.amounts.proofs.Lemmas.{same_key, key_same, amount-rows}
use Rattle.asset_lists.specs.declared.units.AssetId.{AssetId}
use Rattle.asset_lists.specs.declared.units.AssetId.TheVariants.{Concrete}
use Rattle.asset_lists.specs.declared.units.Asset.{Asset}
use Rattle.asset_lists.specs.Units.{Unit, unit_cmp, asset_id_cmp}
use Rattle.asset_lists.specs.UnitLaws.{asset_id_total}
use Rattle.asset_lists.proofs.Lemmas.UnitLaws.{asset_id_exact}
use Rattle.asset_bundles.specs.Bundles.{Bundle, assets_of_rows, held_assets}
use Rattle.asset_bundles.proofs.Lemmas.Bundles.{unit_keys}
use Rattle.trust_tables.specs.Accounts.{IsSovereign}
use Rattle.ledgers.specs.Ledgers.{Holder, Held, is_account}
use Rattle.ledgers.proofs.Lemmas.{account_keys, holder_keys}
use Rattle.asset_pools.specs.declared.deal.Deal.{Deal}
use Rattle.asset_pools.specs.Pools.{deal_at}
use Rattle.asset_pools.proofs.Lemmas.ExchangeLaws.{deal_says, deal_keeps, no_share}
use Rattle.asset_pools.specs.declared.pool.Pool.{Pool}
use Rattle.asset_pools.specs.declared.exchanges.Exchange.{Exchange}
use Rattle.asset_pools.specs.Exchanges.{pool_account, is_pool_account, pool_share, coin, same_id, has_pair, reserve, reserve_product, one_fungible, exchange_with, exchange_of_pair, exchange_of, held_after, goods_after}
use Rattle.asset_pools.proofs.Lemmas.Swaps.{other_key, amount_beside, swap_lowers, total_no_less, product_swapped, total_exchanged}
use Rattle.plain_lists.proofs.Lemmas.Facts.{both_true as both, bytes_themselves as itself, either_first, either_second, one_of_either as either, same_some}

-- ---- what an exchange says
pub record IsMade (pools : List Pool) (held : Held) (give : Bundle) (e : Exchange) : Type 0 where
  pub pool : Pool
  pub at : slice_get pools e.place ≡ Some pool
  pub pair : has_pair e.given e.wanted pool ≡ true
  pub one : rows give ≡ (coin e.given, amount give (coin e.given)) ∷ []
  pub taken : e.deal.to_pool ≤ amount give (coin e.given)
  pub some : 0 < e.deal.to_holding
  pub there : 0 < reserve held (pool_account e.place) e.given
  pub left : e.deal.to_holding < reserve held (pool_account e.place) e.wanted
  pub first_end : reserve held (pool_account e.place) e.given + e.deal.to_pool < 2 ^ 58
  pub second_end : reserve held (pool_account e.place) e.wanted < 2 ^ 58
  pub kept : reserve held (pool_account e.place) e.given * reserve held (pool_account e.place) e.wanted
      ≤ (reserve held (pool_account e.place) e.given + e.deal.to_pool) * (reserve held (pool_account e.place) e.wanted - e.deal.to_holding)

and_then_some : {A B : Type 0} (f : A → Option B) (o : Option A) (b : B) → option_and_then f o ≡ Some b → (a : A) × (o ≡ Some a) × (f a ≡ Some b)
and_then_some f None b h = absurd (cc)
and_then_some f (Some a) b h = (a, refl, h)

map_some : {A B : Type 0} (f : A → B) (o : Option A) (b : B) → option_map f o ≡ Some b → (a : A) × (o ≡ Some a) × (f a ≡ b)
map_some f None b h = absurd (cc)
map_some f (Some a) b h = (a, refl, cc)

-- one fungible asset is one row
row_of_one : (rs : List (Unit × ℕ)) (g : AssetId × ℕ) → one_fungible (assets_of_rows rs) ≡ Some g → rs ≡ (coin g.0, g.1) ∷ []
row_of_one [] g h = absurd (cc)
row_of_one (((id, None), n) ∷ []) g h = let e : (id, n) ≡ g = cc in ap (λ (v : AssetId × ℕ). let rs : List (Unit × ℕ) = (coin v.0, v.1) ∷ [] in rs) e
row_of_one (((id, Some instance), n) ∷ []) g h = absurd (cc)
row_of_one (r ∷ s ∷ rs) g h = absurd (cc)

if_same : (b : Bool) (n : ℕ) → b ≡ true → amount_if b n + 0 ≡ n
if_same true n h = omega arith
if_same false n h = absurd (cc)

row_of_offer : (give : Bundle) (g : AssetId × ℕ) → one_fungible (held_assets give) ≡ Some g → rows give ≡ (coin g.0, g.1) ∷ []
unfolding held_assets
row_of_offer give g h = row_of_one (rows give) g h

pub amount_of_offer : (give : Bundle) (g : AssetId × ℕ) → one_fungible (held_assets give) ≡ Some g → amount give (coin g.0) ≡ g.1
unfolding held_assets
amount_of_offer give g h =
    amount-rows unit_keys give (coin g.0) ∙ ap (sum_where (eq_by_cmp unit_cmp (coin g.0))) (row_of_one (rows give) g h)
    ∙ if_same (eq_by_cmp unit_cmp (coin g.0) (coin g.0)) g.1 (same_key unit_keys (coin g.0))

at_position : {A : Type 0} (p : A → Bool) (xs : List A) (i : ℕ) (x : A) → position p xs ≡ Some i → slice_get xs i ≡ Some x → p x ≡ true
at_position p xs i x there at = subst (λ y. p y ≡ true) (get_or_from_slice_get xs i x x at) (position-Some p xs i x there).1

deal_at_pool : (pools : List Pool) (held : Held) (give : Bundle) (g w : AssetId × ℕ) (maximal : Bool) (place : ℕ) (pool : Pool) (e : Exchange) → rows give ≡ (coin g.0, g.1) ∷ [] → amount give (coin g.0) ≡ g.1
    → has_pair g.0 w.0 pool ≡ true → slice_get pools place ≡ Some pool → exchange_with held g w maximal place pool ≡ Some e → IsMade pools held give e
deal_at_pool pools held give g w maximal place pool e row offer pair at made =
    let x = reserve held (pool_account place) g.0 in
    let y = reserve held (pool_account place) w.0 in
    let got = map_some (λ (d : Deal). let e : Exchange = record { place = place; given = g.0; wanted = w.0; deal = d } in e) (deal_at x y (pool_share pool) g.1 w.1 maximal) e made in
    let says = deal_says x y (pool_share pool) g.1 w.1 maximal got.0 got.1 in
    let P : Exchange → Type 0 = λ e. IsMade pools held give e in
    subst P got.2 (record {
      pool = pool;
      at = at;
      pair = pair;
      one = row ∙ ap (λ (n : ℕ). let rs : List (Unit × ℕ) = (coin g.0, n) ∷ [] in rs) (sym offer);
      taken = omega (arith, says.has, offer);
      some = says.some;
      there = says.first;
      left = says.below;
      first_end = says.first_end;
      second_end = says.second_end;
      kept = deal_keeps x y (pool_share pool) g.1 w.1 maximal got.0 (omega arith) got.1;
    })

made_of_pair : (pools : List Pool) (held : Held) (give : Bundle) (g w : AssetId × ℕ) (maximal : Bool) (e : Exchange) → rows give ≡ (coin g.0, g.1) ∷ [] → amount give (coin g.0) ≡ g.1 → exchange_of_pair pools held g w maximal ≡ Some e → IsMade pools held give e
made_of_pair pools held give g w maximal e row offer made =
    let there = and_then_some (λ (place : ℕ). option_and_then (exchange_with held g w maximal place) (slice_get pools place)) (position (has_pair g.0 w.0) pools) e made in
    let at = and_then_some (exchange_with held g w maximal there.0) (slice_get pools there.0) e there.2 in
    deal_at_pool pools held give g w maximal there.0 at.0 e row offer (at_position (has_pair g.0 w.0) pools there.0 at.0 there.1 at.1) at.1 at.2

pub exchange_says : (pools : List Pool) (held : Held) (give : Bundle) (want : List Asset) (maximal : Bool) (e : Exchange) → exchange_of pools held (held_assets give) want maximal ≡ Some e → IsMade pools held give e
unfolding exchange_of
exchange_says pools held give want maximal e made =
    let offered = and_then_some (λ (g : AssetId × ℕ). option_and_then (λ (w : AssetId × ℕ). exchange_of_pair pools held g w maximal) (one_fungible want)) (one_fungible (held_assets give)) e made in
    let wanted = and_then_some (λ (w : AssetId × ℕ). exchange_of_pair pools held offered.0 w maximal) (one_fungible want) e offered.2 in
    made_of_pair pools held give offered.0 wanted.0 maximal e (row_of_offer give offered.0 offered.1) (amount_of_offer give offered.0 offered.1) wanted.2

-- ---- the two assets
ids : IsKeyOrder asset_id_cmp
ids = record { total = asset_id_total; exact = asset_id_exact }

isnt : (a : Bool) → not a ≡ true → a ≡ false
isnt true h = absurd (cc)
isnt false h = refl

pub apart : (a b : AssetId) (pool : Pool) → has_pair a b pool ≡ true → coin a ≡ coin b → ⊥
apart a b pool pair same =
    let e : a ≡ b = ap (λ (u : Unit). u.0) same in
    true≢false (sym (same_key ids b) ∙ ap (λ (c : AssetId). same_id c b) (sym e) ∙ isnt (same_id a b) (both (not (same_id a b)) _ pair).0)

-- the given asset is the pool's first and the wanted one its second, or the other way round
pub in_order : (a b : AssetId) (pool : Pool) → has_pair a b pool ≡ true → ((a ≡ Concrete pool.first) × (b ≡ Concrete pool.second)) ⊎ ((a ≡ Concrete pool.second) × (b ≡ Concrete pool.first))
in_order a b pool pair =
    elim (either (same_id a (Concrete pool.first) && same_id b (Concrete pool.second)) (same_id a (Concrete pool.second) && same_id b (Concrete pool.first)) (both (not (same_id a b)) _ pair).1) [
      | inl forth ↦ let t = both _ _ forth in inl (key_same ids a (Concrete pool.first) t.0, key_same ids b (Concrete pool.second) t.1)
      | inr back ↦ let t = both _ _ back in inr (key_same ids a (Concrete pool.second) t.0, key_same ids b (Concrete pool.first) t.1)
    ]

-- ---- accounts of pools
number_in : List ℕ → ℕ
number_in account = from_le_bytes w32 (take 4 (drop 4 account))

number_in-pool_account : (n : ℕ) → n < 2 ^ 32 → number_in (pool_account n) ≡ n
unfolding number_in
number_in-pool_account n small = from_le_bytes-to_le_bytes_4 n small

pub one_pool : (m n : ℕ) → m < 2 ^ 32 → n < 2 ^ 32 → pool_account m ≡ pool_account n → m ≡ n
one_pool m n small_m small_n same = sym (number_in-pool_account m small_m) ∙ ap number_in same ∙ number_in-pool_account n small_n

some_in : (test : ℕ → Bool) (from n place : ℕ) → from ≤ place → place < from + n → test place ≡ true → list_any test (range_with_len from n) ≡ true
some_in test from zero place low high h = absurd (omega (arith, low, high))
some_in test from (suc n) place low high h =
    elim (cases_eq from place) [
      | inl same ↦ either_first (test from) _ (subst (λ (i : ℕ). test i ≡ true) (sym same) h)
      | inr other ↦ either_second (test from) _ (some_in test (from + 1) n place (above from place low other) (omega (arith, high)) h)
    ]
  where
    above : (a b : ℕ) → a ≤ b → (a ≡ b → ⊥) → a + 1 ≤ b
    above a b less apart = elim (cases_lt a b) [ inl lower ↦ omega (arith, lower) | inr higher ↦ absurd (apart (omega (arith, less, higher))) ]

pub pool_found : (pools : List Pool) (place : ℕ) → place < length pools → is_pool_account pools (pool_account place) ≡ true
pool_found pools place inside = some_in (λ (i : ℕ). bytes_eq (pool_account place) (pool_account i)) 0 (length pools) place (omega arith) (omega (arith, inside)) (itself (pool_account place))

-- a pool's account is no account of a whole chain
pub not_sovereign : (n : ℕ) → IsSovereign (pool_account n) → ⊥
not_sovereign n (inl child) = let e : 111 ≡ 97 = ap (λ (xs : List ℕ). get_or xs 1 0) child.2 in absurd (omega (arith, e))
not_sovereign n (inr (inl sibling)) = let e : 112 ≡ 115 = ap (λ (xs : List ℕ). get_or xs 0 0) sibling.2 in absurd (omega (arith, e))
not_sovereign n (inr (inr parent)) = let e : 112 ≡ 80 = ap (λ (xs : List ℕ). get_or xs 0 0) parent in absurd (omega (arith, e))

-- ---- what is kept
holder_apart : (account : List ℕ) (a b : AssetId) → (coin a ≡ coin b → ⊥) → ◌≡◌ {A = Holder} (account, coin a) (account, coin b) → ⊥
holder_apart account a b distinct same = distinct (ap (λ (h : Holder). h.1) same)

renamed : (f g : AssetId → ℕ) (a b c d : AssetId) → a ≡ c → b ≡ d → f a * f b ≤ g a * g b → f c * f d ≤ g c * g d
renamed f g a b c d ac bd h = subst (λ (x : AssetId). f x * f d ≤ g x * g d) ac (subst (λ (x : AssetId). f a * f x ≤ g a * g x) bd h)

turned_over : (f g : AssetId → ℕ) (a b : AssetId) → f a * f b ≤ g a * g b → f b * f a ≤ g b * g a
turned_over f g a b h = omega (arith, h)

kept_equal : (x y v w : ℕ) → v ≡ x → w ≡ y → x * y ≤ v * w
kept_equal x y v w first second = subst (λ (n : ℕ). x * y ≤ n * w) (sym first) (subst (λ (n : ℕ). x * y ≤ x * n) (sym second) (omega arith))

module _ (pools : List Pool) (held : Held) (give : Bundle) (e : Exchange) (is : IsMade pools held give e) where
  -- accounts and goods together have what they had, by any test that counts both alike
  pub exchange_keeps_total : (p : Holder → Bool) (q : Unit → Bool) → ((unit : Unit) → p (pool_account e.place, unit) ≡ q unit) → total p (held_after e held) + total q (goods_after e give) ≡ total p held + total q give
  exchange_keeps_total p q alike =
      total_exchanged holder_keys unit_keys p q held give (pool_account e.place, coin e.wanted) (pool_account e.place, coin e.given) (coin e.wanted) (coin e.given) e.deal.to_holding e.deal.to_pool
      (omega (arith, is.left)) is.taken (alike (coin e.wanted)) (alike (coin e.given))

  -- no account has less of a unit but the pool's, of the wanted one
  pub exchange_lowers : (who : List ℕ) (unit : Unit) → amount (held_after e held) (who, unit) < amount held (who, unit) → who ≡ pool_account e.place
  exchange_lowers who unit less =
      ap (λ (h : Holder). h.0) (swap_lowers holder_keys held (pool_account e.place, coin e.wanted) (pool_account e.place, coin e.given) e.deal.to_holding e.deal.to_pool (who, unit) less)

  -- another account has no less of what passes a test
  pub exchange_spares : (who : List ℕ) (t : Unit → Bool) → (pool_account e.place ≡ who → ⊥) → total (λ (h : Holder). is_account who h && t h.1) held ≤ total (λ (h : Holder). is_account who h && t h.1) (held_after e held)
  exchange_spares who t other =
      total_no_less holder_keys held (pool_account e.place, coin e.wanted) (pool_account e.place, coin e.given) e.deal.to_holding e.deal.to_pool (λ (h : Holder). is_account who h && t h.1)
      (omega (arith, is.left)) (ap (λ (b : Bool). b && t (coin e.wanted)) (other_key account_keys who (pool_account e.place) (λ same. other (sym same))))

  reserve_apart : (place : ℕ) (id : AssetId) → (pool_account place ≡ pool_account e.place → ⊥) → reserve (held_after e held) (pool_account place) id ≡ reserve held (pool_account place) id
  reserve_apart place id other =
      amount_beside holder_keys held (pool_account e.place, coin e.wanted) (pool_account e.place, coin e.given) e.deal.to_holding e.deal.to_pool (pool_account place, coin id)
      (λ same. other (ap (λ (h : Holder). h.0) same)) (λ same. other (ap (λ (h : Holder). h.0) same))

  own_product : reserve held (pool_account e.place) e.given * reserve held (pool_account e.place) e.wanted
      ≤ reserve (held_after e held) (pool_account e.place) e.given * reserve (held_after e held) (pool_account e.place) e.wanted
  own_product =
      product_swapped holder_keys held (pool_account e.place, coin e.wanted) (pool_account e.place, coin e.given) e.deal.to_holding e.deal.to_pool
      (holder_apart (pool_account e.place) e.given e.wanted (apart e.given e.wanted is.pool is.pair)) is.kept

  same_place : (place : ℕ) (pool : Pool) → slice_get pools place ≡ Some pool → place ≡ e.place → is.pool ≡ pool
  same_place place pool at same = same_some is.pool pool (sym is.at ∙ ap (slice_get pools) (sym same) ∙ at)

  product_there : (place : ℕ) (pool : Pool) → slice_get pools place ≡ Some pool → place ≡ e.place → reserve_product held place pool ≤ reserve_product (held_after e held) place pool
  product_there place pool at same =
      subst (λ (n : ℕ). reserve_product held n pool ≤ reserve_product (held_after e held) n pool) (sym same)
      (subst (λ (q : Pool). reserve_product held e.place q ≤ reserve_product (held_after e held) e.place q) (same_place place pool at same)
      (elim (in_order e.given e.wanted is.pool is.pair) [
        | inl forth ↦ renamed (reserve held (pool_account e.place)) (reserve (held_after e held) (pool_account e.place)) e.given e.wanted (Concrete is.pool.first) (Concrete is.pool.second) forth.0 forth.1 own_product
        | inr back ↦
            turned_over (reserve held (pool_account e.place)) (reserve (held_after e held) (pool_account e.place)) (Concrete is.pool.second) (Concrete is.pool.first)
            (renamed (reserve held (pool_account e.place)) (reserve (held_after e held) (pool_account e.place)) e.given e.wanted (Concrete is.pool.second) (Concrete is.pool.first) back.0 back.1 own_product)
      ]))

  -- no pool's product falls
  pub exchange_keeps_products : (place : ℕ) (pool : Pool) → slice_get pools place ≡ Some pool → place < 2 ^ 32 → e.place < 2 ^ 32 → reserve_product held place pool ≤ reserve_product (held_after e held) place pool
  exchange_keeps_products place pool at small few =
      elim (cases_eq place e.place) [
        | inl same ↦ product_there place pool at same
        | inr other ↦
            let elsewhere : pool_account place ≡ pool_account e.place → ⊥ = λ same. other (one_pool place e.place small few same) in
            let first = reserve_apart place (Concrete pool.first) elsewhere in
            let second = reserve_apart place (Concrete pool.second) elsewhere in
            kept_equal _ _ _ _ first second
      ]

-- nothing counts of what is given where the fee is all of it
pub no_exchange : (held : Held) (g w : AssetId × ℕ) (maximal : Bool) (place : ℕ) (pool : Pool) → 1000 ≤ pool.fee → exchange_with held g w maximal place pool ≡ None
no_exchange held g w maximal place pool all =
    let x = reserve held (pool_account place) g.0 in
    let y = reserve held (pool_account place) w.0 in
    let none : pool_share pool ≡ 0 = omega arith in
    ap (option_map (λ (d : Deal). let e : Exchange = record { place = place; given = g.0; wanted = w.0; deal = d } in e)) (ap (λ (n : ℕ). deal_at x y n g.1 w.1 maximal) none ∙ no_share x y g.1 w.1 maximal)
