-- For proofs alone: a reader may skip this file. Changes of accounts one after another, those that lower no pool's account, and exchanges.
use Rattle.std.proofs.Common.{◌≡◌, ℕ, zero, suc, ◌<◌, ◌≤◌, inl, inr, List, [], ◌∷◌, Some, sym, subst, arith}
use Rattle.std.specs.Prelude.{slice_get, IsTrue}
use Rattle.std.specs.Ordering.{eq_by_cmp}
use Rattle.std.proofs.lemmas.Bool.{cases_Bool, cases_lt}
use Rattle.std.proofs.lemmas.Option.{slice_get_within}
use Rattle.std.proofs.Math.Nat.{mul-le-mul}
use Rattle.amounts.specs.Amounts.{amount}
use Rattle.amounts.proofs.Lemmas.{key_same}
use Rattle.asset_lists.specs.declared.units.AssetId.{AssetId}
use Rattle.asset_lists.specs.declared.units.AssetId.TheVariants.{Concrete}
use Rattle.asset_lists.specs.Units.{Unit, unit_cmp}
use Rattle.asset_lists.specs.Listed.{Listed, listed_of, lists}
use Rattle.asset_bundles.specs.Bundles.{Bundle}
use Rattle.asset_bundles.proofs.Lemmas.Bundles.{unit_keys}
use Rattle.asset_bundles.specs.Books.{AreListed}
use Rattle.ledgers.specs.Ledgers.{Held}
use Rattle.asset_pools.specs.declared.pool.Pool.{Pool}
use Rattle.asset_pools.specs.declared.exchanges.Exchange.{Exchange}
use Rattle.asset_pools.specs.Exchanges.{pool_account, coin, reserve, held_after, goods_after}
use Rattle.asset_pools.specs.Spending.{ArePoolsListed, LowersOf, Spends}
use Rattle.asset_pools.proofs.Lemmas.Swaps.{amount_swapped, if_elsewhere}
use Rattle.asset_pools.proofs.Lemmas.Keeping.{IsMade, in_order, exchange_lowers, exchange_keeps_products}

then_lowers : (may : List ℕ → Type 0) (pools : List Pool) (a b c : Held) → LowersOf may pools a b → LowersOf may pools b c → LowersOf may pools a c
then_lowers may pools a b c h k = λ who unit less. elim (cases_lt (amount b (who, unit)) (amount a (who, unit))) [
  | inl lower ↦ h who unit lower
  | inr higher ↦ k who unit (omega (arith, higher, less))
]

-- one after another
pub spends_then : (may : List ℕ → Type 0) (pools : List Pool) (a b c : Held) → Spends may pools a b → Spends may pools b c → Spends may pools a c
spends_then may pools a b c h k = record {
  lowers = then_lowers may pools a b c h.lowers k.lowers;
  products = λ few place pool at other. let one = h.products few place pool at other in let two = k.products few place pool at other in omega (arith, one, two);
}

no_less : (n m : ℕ) → (m < n → ⊥) → n ≤ m
no_less n m h = elim (cases_lt m n) [ inl less ↦ absurd (h less) | inr more ↦ more ]

-- a change that lowers no pool's account, as all but exchanges do
pub spends_others : (may : List ℕ → Type 0) (pools : List Pool) (old new : Held) → ((who : List ℕ) (unit : Unit) → amount new (who, unit) < amount old (who, unit) → may who) → Spends may pools old new
spends_others may pools old new h = record {
  lowers = λ who unit less. inl (h who unit less);
  products = λ few place pool at other.
      let first : reserve old (pool_account place) (Concrete pool.first) ≤ reserve new (pool_account place) (Concrete pool.first) = no_less _ _ (λ less. other (h (pool_account place) (coin (Concrete pool.first)) less)) in
      let second : reserve old (pool_account place) (Concrete pool.second) ≤ reserve new (pool_account place) (Concrete pool.second) = no_less _ _ (λ less. other (h (pool_account place) (coin (Concrete pool.second)) less)) in
      mul-le-mul first second;
}

-- an exchange, whoever else may be lowered
pub spends_exchange : (may : List ℕ → Type 0) (pools : List Pool) (held : Held) (give : Bundle) (e : Exchange) → IsMade pools held give e → Spends may pools held (held_after e held)
spends_exchange may pools held give e is =
    let inside = slice_get_within pools e.place is.pool is.at in
    record {
      lowers = λ who unit less. inr (e.place, inside, exchange_lowers pools held give e is who unit less);
      products = λ few place pool at other. let there = slice_get_within pools place pool at in exchange_keeps_products pools held give e is place pool at (omega (arith, there, few)) (omega (arith, inside, few));
    }

-- ---- what comes of an exchange is listed
pool_listed : (listed : List Listed) (pools : List Pool) (place : ℕ) (pool : Pool) → ArePoolsListed listed pools → slice_get pools place ≡ Some pool
    → IsTrue (lists listed (listed_of (coin (Concrete pool.first)))) × IsTrue (lists listed (listed_of (coin (Concrete pool.second))))
pool_listed listed [] place pool all at = absurd (cc)
pool_listed listed (p ∷ pools) zero pool all at =
    let same : p ≡ pool = cc in
    subst (λ (q : Pool). IsTrue (lists listed (listed_of (coin (Concrete q.first)))) × IsTrue (lists listed (listed_of (coin (Concrete q.second))))) same all.0
pool_listed listed (p ∷ pools) (suc place) pool all at = pool_listed listed pools place pool all.1 at

pub exchange_listed : (listed : List Listed) (pools : List Pool) (held : Held) (give : Bundle) (e : Exchange) → IsMade pools held give e → ArePoolsListed listed pools → AreListed listed give → AreListed listed (goods_after e give)
exchange_listed listed pools held give e is all offered unit some =
    let both = pool_listed listed pools e.place is.pool all is.at in
    let wanted : IsTrue (lists listed (listed_of (coin e.wanted))) =
    elim (in_order e.given e.wanted is.pool is.pair) [
      | inl forth ↦ subst (λ (id : AssetId). IsTrue (lists listed (listed_of (coin id)))) (sym forth.1) both.1
      | inr back ↦ subst (λ (id : AssetId). IsTrue (lists listed (listed_of (coin id)))) (sym back.1) both.0
    ] in
    elim (cases_Bool (eq_by_cmp unit_cmp unit (coin e.wanted))) [
      | inl got ↦ subst (λ (u : Unit). IsTrue (lists listed (listed_of u))) (sym (key_same unit_keys unit (coin e.wanted) got)) wanted
      | inr other ↦
          let all_of = amount_swapped unit_keys give (coin e.given) (coin e.wanted) e.deal.to_pool e.deal.to_holding unit in
          let none = if_elsewhere unit_keys (eq_by_cmp unit_cmp unit (coin e.wanted)) e.deal.to_holding other in
          offered unit (omega (arith, some, all_of, none))
    ]
