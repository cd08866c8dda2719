-- Lemmas: a call of a host burns no excess where nothing passes its maximum. A reader may skip this file.
use Rattle.std.proofs.Common.{◌≡◌, ℕ, ◌+◌, ◌-◌, ◌^◌, ◌≤◌, Bool, true, false, List, [], ◌∷◌, ◌++◌, Option, Some, None, map, refl, sym, ap, ◌∙◌, subst, arith}
use Rattle.std.specs.Prelude.{find, position, remove, if◌then◌else◌}
use Rattle.std.specs.Option.{option_map_or}
use Rattle.std.specs.Ordering.{eq_by_cmp}
use Rattle.amounts.specs.Amounts.{amount, total, empty}
use Rattle.amounts.proofs.Lemmas.AmountLaws.{amount-empty}
use Rattle.amounts.specs.Rows.{amount_if, sum_where}
use Rattle.amounts.proofs.Lemmas.Rows.{amount_if-zero}
use Rattle.amounts.proofs.Lemmas.{key_same, same_key, amount-merge, amount-map_keys, amount_at_most, total_none, total-from_rows}
use Rattle.locations.specs.declared.relative.Location.{Location}
use Rattle.operands.specs.declared.weight.Weight.{Weight}
use Rattle.asset_lists.specs.declared.units.Asset.{Asset}
use Rattle.asset_lists.specs.declared.units.Fun.{Fun}
use Rattle.asset_lists.specs.declared.units.Instance.{Instance}
use Rattle.asset_lists.specs.Units.{Unit, unit_cmp}
use Rattle.asset_lists.specs.Listed.{Listed, listed_of}
use Rattle.asset_bundles.specs.declared.book.Cause.{Cause}
use Rattle.asset_bundles.specs.Bundles.{Bundle}
use Rattle.asset_bundles.proofs.Lemmas.Bundles.{unit_keys}
use Rattle.asset_bundles.proofs.Lemmas.BundleLaws.{amount-bundle_of}
use Rattle.asset_bundles.specs.Books.{Burn, burn_cmp, Burns, burned_for, given_up}
use Rattle.asset_bundles.proofs.Lemmas.Changed.{amount-with_amounts}
use Rattle.asset_bundles.specs.Joins.{most_of}
use Rattle.asset_bundles.proofs.Lemmas.{burn_keys, amount-Booked, given_up_within}
use Rattle.ledgers.specs.Ledgers.{Holder}
use Rattle.ledgers.proofs.Lemmas.{holder_keys}
use Rattle.weight_trader.specs.Purchases.{Line, coin_of, paid_goods, is_covered, paying, Bought, excess}
use Rattle.weight_trader.specs.Prices.{price}
use Rattle.exec_base.specs.declared.event.Event.{Event}
use Rattle.exec_base.specs.Part.{ChainPart, book_of}
use Rattle.exec_base.specs.Host.{asset_unlocked, asset_noted, withdrawn, received, is_query, answered, bought, above, booked, burned_lines, bundles_joined, burnt, is_trap, claimed, all_fees, fees_above, settled_burns, settled, told}
use Rattle.law_runs.specs.Sums.{in_kept, in_places}
use Rattle.law_nets.proofs.Fitting.{just_unit}
use Rattle.plain_lists.proofs.Lemmas.Facts.{false_where_not_true as not_true, told_at_most as at_most}

-- the causes of what is given up
abbrev pub is_excess : Cause → Bool
is_excess Cause.BurnAsset = false
is_excess Cause.LostTeleport = false
is_excess Cause.Merged = true
is_excess Cause.Saturated = true

-- a change of a chain gives up nothing
abbrev pub BurnsNoExcess : ChainPart → ChainPart → Type 0
BurnsNoExcess p q = (k : Burn) → is_excess k.1 ≡ true → amount q.burns k ≡ amount p.burns k

pub same_burns : (p q : ChainPart) → q.burns ≡ p.burns → BurnsNoExcess p q
same_burns p q e k is = ap (λ (b : Burns). amount b k) e

pub no_excess_then : (p q r : ChainPart) → BurnsNoExcess p q → BurnsNoExcess q r → BurnsNoExcess p r
no_excess_then p q r x y k is = y k is ∙ x k is

-- ---- booking
booked_no_excess : (p : ChainPart) (more : Burns) (lines : List Event) → ((k : Burn) → is_excess k.1 ≡ true → amount more k ≡ 0) → BurnsNoExcess p (booked p more lines)
unfolding booked
booked_no_excess p more lines none k is = let e = amount-Booked (book_of p) more k in let z = none k is in omega (arith, e, z)

-- burns for another cause
pub other_cause : (cause : Cause) (b : Bundle) → is_excess cause ≡ false → (k : Burn) → is_excess k.1 ≡ true → amount (burned_for cause b) k ≡ 0
unfolding burned_for
other_cause cause b kept k is =
    amount-map_keys {S = unit_cmp} burn_keys (λ (unit : Unit). (listed_of unit, cause)) b k
    ∙ total_none unit_keys (λ (unit : Unit). eq_by_cmp burn_cmp k (listed_of unit, cause)) b (λ u held.
    not_true (eq_by_cmp burn_cmp k (listed_of u, cause)) (λ t.
    let same : k.1 ≡ cause = ap (λ (b : Burn). b.1) (key_same burn_keys k (listed_of u, cause) t) in
    let no_way : true ≡ false = sym is ∙ ap is_excess same ∙ kept in
    absurd cc))

-- burns of nothing
none_burned : (cause : Cause) (b : Bundle) → ((u : Unit) → amount b u ≡ 0) → (k : Burn) → amount (burned_for cause b) k ≡ 0
unfolding burned_for
none_burned cause b none k =
    amount-map_keys {S = unit_cmp} burn_keys (λ (unit : Unit). (listed_of unit, cause)) b k
    ∙ total_none unit_keys (λ (unit : Unit). eq_by_cmp burn_cmp k (listed_of unit, cause)) b (λ u held. let z = none u in absurd (omega (arith, z, held)))

pub burnt_no_excess : (p : ChainPart) (goods : Bundle) → BurnsNoExcess p (burnt p goods)
unfolding burnt
burnt_no_excess p goods = booked_no_excess p _ _ (other_cause Cause.BurnAsset goods refl)

-- ---- joins
-- together they are no more than one bundle may hold
abbrev pub FitTogether : Bundle → Bundle → Type 0
FitTogether b c = (u : Unit) → total (just_unit u) b + total (just_unit u) c ≤ most_of u.1

pub joined_no_excess : (p : ChainPart) (into goods : Bundle) → FitTogether into goods → BurnsNoExcess p (bundles_joined p into goods)
unfolding bundles_joined
joined_no_excess p into goods fit =
    let none : given_up into goods ≡ empty = given_up_within into goods (λ u.
    let sum = amount-merge unit_keys into goods u in
    let a = amount_at_most unit_keys (just_unit u) into u (same_key unit_keys u) in
    let b = amount_at_most unit_keys (just_unit u) goods u (same_key unit_keys u) in
    let le = fit u in
    omega (arith, sum, a, b, le)) in
    booked_no_excess p (given_up into goods) _ (λ k is. ap (λ (b : Burns). amount b k) none ∙ amount-empty burn_keys k)

-- ---- purchases
-- the line that is bought at is paid for among all, and the payment has its price
line_found : (w : Weight) (payment : Bundle) (lines : List Line) (line : Line) → find (is_covered w payment) lines ≡ Some line
    → (price line.rate w ≤ amount payment (coin_of line.rate)) × (line.paid ≤ sum_where (just_unit (coin_of line.rate)) (map (λ (l : Line). (coin_of l.rate, l.paid)) lines))
line_found w payment [] line e = absurd cc
line_found w payment (x ∷ lines) line e =
    elim (is_covered w payment x) as (λ b. is_covered w payment x ≡ b → (if b then Some x else find (is_covered w payment) lines) ≡ Some line
    → (price line.rate w ≤ amount payment (coin_of line.rate)) × (line.paid ≤ sum_where (just_unit (coin_of line.rate)) (map (λ (l : Line). (coin_of l.rate, l.paid)) (x ∷ lines)))) [
      | true ↦ λ t h.
          let same : x ≡ line = some_line x line h in
          subst (λ (y : Line). (price y.rate w ≤ amount payment (coin_of y.rate)) × (y.paid ≤ sum_where (just_unit (coin_of y.rate)) (map (λ (l : Line). (coin_of l.rate, l.paid)) (x ∷ lines)))) same
          (at_most _ _ t, first_counts x lines)
      | false ↦ λ t h. let rest = line_found w payment lines line h in (rest.0, omega (arith, rest.1))
    ] refl e
  where
    some_line : (x y : Line) → Some x ≡ Some y → x ≡ y
    some_line x y e = cc

    first_counts : (x : Line) (lines : List Line) → x.paid ≤ sum_where (just_unit (coin_of x.rate)) (map (λ (l : Line). (coin_of l.rate, l.paid)) (x ∷ lines))
    first_counts x lines =
        let counted : amount_if (just_unit (coin_of x.rate) (coin_of x.rate)) x.paid ≡ x.paid = ap (λ b. amount_if b x.paid) (same_key unit_keys (coin_of x.rate)) in
        omega (arith, counted)

paid_total : (lines : List Line) (t : Unit → Bool) → total t (paid_goods lines) ≡ sum_where t (map (λ (l : Line). (coin_of l.rate, l.paid)) lines)
unfolding paid_goods
paid_total lines t = total-from_rows unit_keys t (map (λ (l : Line). (coin_of l.rate, l.paid)) lines)

paid_in_places : (t : Unit → Bool) (p : ChainPart) → total t (paid_goods p.lines) ≤ in_places t p
unfolding in_kept
paid_in_places t p = omega arith

-- of each unit the chain and the payment have no more than one bundle may hold
abbrev pub FitsWith : Bundle → ChainPart → Type 0
FitsWith b p = (u : Unit) → in_places (just_unit u) p + total (just_unit u) b ≤ most_of u.1

no_excess : (p : ChainPart) (w : Weight) (payment : Bundle) → FitsWith payment p → (line : Line) → paying w payment p.lines ≡ Some line → excess w line ≡ 0
no_excess p w payment fits line e =
    let coin = coin_of line.rate in
    let found = line_found w payment p.lines line e in
    let price_le = found.0 in
    let paid_le = found.1 in
    let paid = paid_total p.lines (just_unit coin) in
    let places = paid_in_places (just_unit coin) p in
    let own = amount_at_most unit_keys (just_unit coin) payment coin (same_key unit_keys coin) in
    let fit = fits coin in
    omega (arith, price_le, paid_le, paid, places, own, fit)

none_above : (asset : Listed) (n : ℕ) → n ≡ 0 → (u : Unit) → amount (above asset n) u ≡ 0
none_above asset n z u =
    amount-bundle_of (record { id = asset.0; fun = Fun.Fungible n } ∷ []) u
    ∙ (let a : ℕ = amount_if (just_unit u (asset.0, None)) n in
    let e : amount_if (just_unit u (asset.0, None)) n ≡ 0 = ap (λ m. amount_if (just_unit u (asset.0, None)) m) z ∙ amount_if-zero (just_unit u (asset.0, None)) in
    omega (arith, e))

bought_at : (p : ChainPart) (w : Weight) (payment : Bundle) (o : Option Line) → ((line : Line) → o ≡ Some line → excess w line ≡ 0)
    → BurnsNoExcess p (option_map_or (λ (line : Line).
    let goods = above (listed_of (coin_of line.rate)) (excess w line) in
    booked (record p { lines = Bought w payment p.lines }) (burned_for Cause.Saturated goods) (burned_lines p (λ unit. Cause.Saturated) goods)) o p)
bought_at p w payment None none = same_burns p p refl
bought_at p w payment (Some line) none =
    booked_no_excess (record p { lines = Bought w payment p.lines }) _ _ (λ k is. none_burned Cause.Saturated _ (none_above (listed_of (coin_of line.rate)) (excess w line) (none line refl)) k)

pub bought_no_excess : (p : ChainPart) (w : Weight) (payment : Bundle) → FitsWith payment p → BurnsNoExcess p (bought p w payment)
unfolding bought
bought_no_excess p w payment fits = bought_at p w payment (paying w payment p.lines) (no_excess p w payment fits)

-- ---- settlement
ends : (u : Unit) → most_of u.1 ≤ 2 ^ 128 - 1
ends u = end_of u.1
  where
    end_of : (o : Option Instance) → most_of o ≤ 2 ^ 128 - 1
    end_of None = omega arith
    end_of (Some instance) = omega arith

account_and_fees : (t : Unit → Bool) (p : ChainPart) → total (λ (h : Holder). t h.1) p.held + (total t (paid_goods p.lines) + total t p.fees) ≤ in_places t p
unfolding in_kept
account_and_fees t p = omega arith

abbrev pub PartFits : ChainPart → Type 0
PartFits p = (u : Unit) → in_places (just_unit u) p ≤ most_of u.1

fees_end : (p : ChainPart) → PartFits p → (u : Unit) → amount p.held (p.fee_account, u) + amount (all_fees p) u ≤ 2 ^ 128 - 1
fees_end p fits u =
    let account = amount_at_most holder_keys (λ (h : Holder). just_unit u h.1) p.held (p.fee_account, u) (same_key unit_keys u) in
    let fees = amount-merge unit_keys (paid_goods p.lines) p.fees u in
    let paid = amount_at_most unit_keys (just_unit u) (paid_goods p.lines) u (same_key unit_keys u) in
    let more = amount_at_most unit_keys (just_unit u) p.fees u (same_key unit_keys u) in
    let places = account_and_fees (just_unit u) p in
    let fit = fits u in
    let end = ends u in
    omega (arith, account, fees, paid, more, places, fit, end)

no_fees_above : (p : ChainPart) → PartFits p → (u : Unit) → amount (fees_above p) u ≡ 0
no_fees_above p fits u =
    let over = amount-with_amounts unit_keys (λ (unit : Unit) n. (amount p.held (p.fee_account, unit) + n) - (2 ^ 128 - 1)) (λ unit. let l = fees_end p fits unit in omega (arith, l)) (all_fees p) u in
    let l = fees_end p fits u in
    omega (arith, over, l)

pub settled_no_excess : (p : ChainPart) → PartFits p → BurnsNoExcess p (settled p)
unfolding settled
settled_no_excess p fits k is =
    let e = amount-Booked (book_of p) (settled_burns p) k in
    let z = none_burned Cause.Saturated (fees_above p) (no_fees_above p fits) k in
    omega (arith, e, z)

-- ---- calls that burn nothing
pub withdrawn_burns : (p : ChainPart) (list : List Asset) (who : Location) → (withdrawn p list who).burns ≡ p.burns
unfolding withdrawn
withdrawn_burns p list who = refl

pub received_burns : (p : ChainPart) (list : List Asset) (teleport : Bool) → (received p list teleport).burns ≡ p.burns
unfolding received
received_burns p list teleport = refl

pub unlocked_burns : (p : ChainPart) (a : Asset) (target from : Location) → (asset_unlocked p a target from).burns ≡ p.burns
unfolding asset_unlocked
unlocked_burns p a target from = refl

pub noted_burns : (p : ChainPart) (a : Asset) (owner from : Location) → (asset_noted p a owner from).burns ≡ p.burns
unfolding asset_noted
noted_burns p a owner from = refl

answered_at : (p : ChainPart) (query : ℕ) (o : Option ℕ)
    → (option_map_or (λ (place : ℕ). record p { queries = remove p.queries place; pending_events = p.pending_events ++ Event.Answered query ∷ [] }) o (record p { pending_events = p.pending_events ++ Event.Ignored query ∷ [] })).burns ≡ p.burns
answered_at p query None = refl
answered_at p query (Some place) = refl

pub answered_burns : (p : ChainPart) (from : Location) (query : ℕ) → (answered p from query).burns ≡ p.burns
unfolding answered
answered_burns p from query = answered_at p query (position (is_query query from) p.queries)

claimed_at : (p : ChainPart) (o : Option ℕ) → (option_map_or (λ (place : ℕ). record p { traps = record p.traps { traps = remove p.traps.traps place } }) o p).burns ≡ p.burns
claimed_at p None = refl
claimed_at p (Some place) = refl

pub claimed_burns : (p : ChainPart) (list : List Asset) (origin : Location) → (claimed p list origin).burns ≡ p.burns
unfolding claimed
claimed_burns p list origin = claimed_at p (position (is_trap list origin) p.traps.traps)

pub told_burns : (p : ChainPart) (e : Event) → (told p e).burns ≡ p.burns
unfolding told
told_burns p e = refl
