-- What comes of goods that are exchanged.
use Rattle.std.proofs.Common.{◌≡◌, ℕ, ◌+◌, ◌-◌, ◌^◌, ◌≤◌, Bool, true, false, List, [], ◌∷◌, inl, inr, sym, ap, ◌∙◌, subst, arith}
use Rattle.std.specs.Prelude.{Option, Some}
use Rattle.std.specs.Ordering.{eq_by_cmp}
use Rattle.std.proofs.lemmas.Bool.{cases_Bool}
use Rattle.amounts.specs.Rows.{amount_if, sum_where}
use Rattle.amounts.specs.Amounts.{amount, minus, merge}
use Rattle.amounts.proofs.Lemmas.AmountLaws.{same_amounts}
use Rattle.amounts.proofs.Lemmas.{same_key, key_same, amount-rows, amount-merge, amount-minus}
use Rattle.asset_lists.specs.declared.units.AssetId.{AssetId}
use Rattle.asset_lists.specs.declared.units.Asset.{Asset}
use Rattle.asset_lists.specs.declared.units.Fun.TheVariants.{Fungible}
use Rattle.asset_lists.specs.Units.{Unit, unit_cmp}
use Rattle.asset_bundles.specs.Bundles.{Bundle, bundle_of, held_assets}
use Rattle.asset_bundles.proofs.Lemmas.Bundles.{unit_keys}
use Rattle.asset_bundles.proofs.Lemmas.BundleLaws.{amount-bundle_of}
use Rattle.asset_bundles.specs.Joins.{most_of, IsWithinMost}
use Rattle.ledgers.specs.Ledgers.{Held}
use Rattle.asset_pools.specs.declared.pool.Pool.{Pool}
use Rattle.asset_pools.specs.declared.exchanges.Exchange.{Exchange}
use Rattle.asset_pools.specs.Exchanges.{coin, exchange_of, goods_after}
use Rattle.asset_pools.specs.Making.{IsOffer}
use Rattle.asset_pools.proofs.Lemmas.Swaps.{other_key, if_elsewhere, amount_swapped}
use Rattle.asset_pools.proofs.Lemmas.Keeping.{IsMade, exchange_says, apart}

-- goods of which the pools make an exchange are an offer
pub is_offer : (pools : List Pool) (held : Held) (give : Bundle) (want : List Asset) (maximal : Bool) (e : Exchange) → exchange_of pools held (held_assets give) want maximal ≡ Some e → IsOffer give e
is_offer pools held give want maximal e made =
    let is = exchange_says pools held give want maximal e made in
    record { one = is.one; apart = apart e.given e.wanted is.pool is.pair; taken = is.taken; some = is.some; below = let left = is.left in let end = is.second_end in omega (arith, left, end) }

if_less : (b : Bool) (n m : ℕ) → n ≤ m → amount_if b n ≤ amount_if b m
if_less true n m h = h
if_less false n m h = omega arith

if_here : (b : Bool) (n : ℕ) → b ≡ true → amount_if b n ≡ n
if_here b n h = ap (λ (v : Bool). amount_if v n) h

abbrev pub wanted_asset : Exchange → Asset
wanted_asset e = record { id = e.wanted; fun = Fungible e.deal.to_holding }

module _ (give : Bundle) (e : Exchange) (offer : IsOffer give e) where
  amount_given : (u : Unit) → amount give u ≡ amount_if (eq_by_cmp unit_cmp u (coin e.given)) (amount give (coin e.given))
  amount_given u =
      let all : amount give u ≡ sum_where (eq_by_cmp unit_cmp u) ((coin e.given, amount give (coin e.given)) ∷ []) = amount-rows unit_keys give u ∙ ap (sum_where (eq_by_cmp unit_cmp u)) offer.one in
      omega (arith, all)

  amount_wanted : (u : Unit) → amount (bundle_of (wanted_asset e ∷ [])) u ≡ amount_if (eq_by_cmp unit_cmp u (coin e.wanted)) e.deal.to_holding
  amount_wanted u = let all = amount-bundle_of (wanted_asset e ∷ []) u in omega (arith, all)

  both_amounts : (u : Unit) → amount (merge give (bundle_of (wanted_asset e ∷ []))) u
      ≡ amount_if (eq_by_cmp unit_cmp u (coin e.given)) (amount give (coin e.given)) + amount_if (eq_by_cmp unit_cmp u (coin e.wanted)) e.deal.to_holding
  both_amounts u = let all = amount-merge unit_keys give (bundle_of (wanted_asset e ∷ [])) u in let g = amount_given u in let w = amount_wanted u in omega (arith, all, g, w)

  -- no amount passes its end
  pub fits : amount give (coin e.given) ≤ 2 ^ 128 - 1 → IsWithinMost (merge give (bundle_of (wanted_asset e ∷ [])))
  fits most u =
      let more = offer.below in
      let both = merge give (bundle_of (wanted_asset e ∷ [])) in
      elim (cases_Bool (eq_by_cmp unit_cmp u (coin e.given))) [
        | inl same ↦
            subst (λ (v : Unit). amount both v ≤ most_of v.1) (sym (key_same unit_keys u (coin e.given) same))
            (let all = both_amounts (coin e.given) in
            let one = if_here _ (amount give (coin e.given)) (same_key unit_keys (coin e.given)) in
            let none = if_elsewhere unit_keys (eq_by_cmp unit_cmp (coin e.given) (coin e.wanted)) e.deal.to_holding (other_key unit_keys (coin e.given) (coin e.wanted) offer.apart) in
            omega (arith, most, all, one, none))
        | inr other ↦ elim (cases_Bool (eq_by_cmp unit_cmp u (coin e.wanted))) [
          | inl same ↦
              subst (λ (v : Unit). amount both v ≤ most_of v.1) (sym (key_same unit_keys u (coin e.wanted) same))
              (let all = both_amounts (coin e.wanted) in
              let one = if_here _ e.deal.to_holding (same_key unit_keys (coin e.wanted)) in
              let none = if_elsewhere unit_keys (eq_by_cmp unit_cmp (coin e.wanted) (coin e.given)) (amount give (coin e.given)) (other_key unit_keys (coin e.wanted) (coin e.given) (λ same. offer.apart (sym same))) in
              omega (arith, more, all, one, none))
          | inr neither ↦
              let all = both_amounts u in
              let first = if_elsewhere unit_keys (eq_by_cmp unit_cmp u (coin e.given)) (amount give (coin e.given)) other in
              let second = if_elsewhere unit_keys (eq_by_cmp unit_cmp u (coin e.wanted)) e.deal.to_holding neither in
              omega (arith, all, first, second)
        ]
      ]

  -- the goods have what is given
  pub has_given : e.deal.to_pool ≤ amount (merge give (bundle_of (wanted_asset e ∷ []))) (coin e.given)
  has_given = let all = amount-merge unit_keys give (bundle_of (wanted_asset e ∷ [])) (coin e.given) in let taken = offer.taken in omega (arith, all, taken)

  pub exchanged_is : minus (merge give (bundle_of (wanted_asset e ∷ []))) (coin e.given) e.deal.to_pool ≡ goods_after e give
  exchanged_is = same_amounts unit_keys _ _ (λ u.
      let all = amount-merge unit_keys give (bundle_of (wanted_asset e ∷ [])) u in
      let w = amount_wanted u in
      let g = amount_given u in
      let less = amount-minus unit_keys (merge give (bundle_of (wanted_asset e ∷ []))) (coin e.given) e.deal.to_pool u in
      let swapped = amount_swapped unit_keys give (coin e.given) (coin e.wanted) e.deal.to_pool e.deal.to_holding u in
      let enough = if_less (eq_by_cmp unit_cmp u (coin e.given)) e.deal.to_pool (amount give (coin e.given)) offer.taken in
      omega (arith, all, w, g, less, swapped, enough))

-- goods that are made of the wanted asset, and joined
pub made_is : (e : Exchange) (id : AssetId) (got : Bundle) → id ≡ e.wanted → (let a : Asset = record { id = id; fun = Fungible e.deal.to_holding } in got ≡ bundle_of (a ∷ []))
    → got ≡ bundle_of (wanted_asset e ∷ [])
made_is e id got same is = is ∙ ap (λ (i : AssetId). let a : Asset = record { id = i; fun = Fungible e.deal.to_holding } in bundle_of (a ∷ [])) same

-- ---- the exchange that was found
pub made_of : (pools : List Pool) (held : Held) (give : Bundle) (list want : List Asset) (maximal : Bool) (found : Option Exchange) (e : Exchange) → list ≡ held_assets give
    → found ≡ exchange_of pools held list want maximal → found ≡ Some e → exchange_of pools held (held_assets give) want maximal ≡ Some e
made_of pools held give list want maximal found e listed says is = ap (λ (l : List Asset). exchange_of pools held l want maximal) (sym listed) ∙ sym says ∙ is

pub says_made : (pools : List Pool) (held : Held) (give : Bundle) (list want : List Asset) (maximal : Bool) (found : Option Exchange) (e : Exchange) → list ≡ held_assets give
    → found ≡ exchange_of pools held list want maximal → found ≡ Some e → IsMade pools held give e
says_made pools held give list want maximal found e listed says is = exchange_says pools held give want maximal e (made_of pools held give list want maximal found e listed says is)
