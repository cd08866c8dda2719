-- Sums, share by share.
use Rattle.std.proofs.Common.{◌≡◌, ◌∙◌, ℕ, ◌+◌, ◌<◌, ◌≤◌, min, List, [], ◌∷◌, ◌++◌, length, get_or, take, drop, refl, ap, sym, subst, arith, Bool, true, false, Option, Some, None, Ok, Err, inl, inr, append_assoc, append-nil, rules, add-zero, lit≤}
use Rattle.std.specs.Prelude.{nat_lt, sum_by, option_to_list, ◌&&◌, ◌⊎◌, if◌then◌else◌}
use Rattle.std.specs.declared.cmp.Ordering.{Ordering}
use Rattle.std.specs.declared.cmp.Ordering.TheVariants.{Less, Equal, Greater}
use Rattle.std.specs.Ordering.{nat_cmp, eq_by_cmp, is_eq}
use Rattle.std.specs.FinMap.{nat_cmp-IsAntisymmetric}
use Rattle.std.proofs.lemmas.List.{drop_more, drop_all, take_more}
use Rattle.std.proofs.lemmas.List.Sums.{sum_by-append}
use Rattle.std.proofs.lemmas.Bool.{le-ltb, lt-ltb, ltb-true, ltb-false, and_parts, false≢true}
use Rattle.locations.specs.declared.grammar.NetworkId.{NetworkId}
use Rattle.locations.specs.declared.grammar.Junction.{Junction}
use Rattle.locations.specs.Order.{junctions_cmp}
use Rattle.locations.proofs.Lemmas.OrderLaws.{junctions_decides}
use Rattle.asset_lists.specs.declared.units.Kind.{Kind}
use Rattle.asset_lists.specs.declared.units.Kind.TheVariants.{Fungible, Class}
use Rattle.asset_lists.specs.Listed.{kind_number, same_kind}
use Rattle.trust_tables.specs.Chains.{path_of_site}
use Rattle.network_spec.specs.declared.chain.Balance.{Balance}
use Rattle.network_spec.specs.declared.chain.ChainSpec.{ChainSpec}
use Rattle.document_entries.specs.declared.fault.NetworkFault.{NetworkFault}
use Rattle.document_entries.specs.declared.fault.NetworkFault.TheVariants.{LimitPassed}
use Rattle.document_entries.specs.declared.fault.Section.TheVariants.{Accounts}
use Rattle.document_entries.specs.declared.stop.Stop.{Stop}
use Rattle.document_entries.specs.declared.stop.Stop.TheVariants as stops
use Rattle.document_entries.specs.Answers.{FailsWith}
use Rattle.document_entries.specs.Forms.{next_index}
use Rattle.document_entries.specs.Entries.{amount_limit}
use Rattle.network_config.specs.declared.sums.Share.{Share}
use Rattle.network_config.specs.References.{document_place}
use Rattle.network_config.specs.Sums.{share_of, shares_in, shares_of, listed_with, sums_in, total_up_to, amount_of_same_asset, same_asset}
use Rattle.network_config.specs.Totals.{TotalKey, total_key_cmp, total_key_of, total_under_key, with_share}
use Rattle.plain_lists.proofs.Lemmas.Facts.{equal_then as then_says}

pub within : (xs : List Share) (k : ℕ) (s : Share) → k < length xs → s ≡ get_or xs k s → nat_lt (total_up_to (take k xs) s) amount_limit ≡ true → sums_in (take k xs) (drop k xs) ≡ sums_in (take (k + 1) xs) (drop (k + 1) xs)
unfolding sums_in
within xs k s l e r = rw (drop_more xs k s l, take_more xs k s l, ← e, r) refl

pub beyond : (xs : List Share) (k : ℕ) (s : Share) → k < length xs → s ≡ get_or xs k s → nat_lt (total_up_to (take k xs) s) amount_limit ≡ false → sums_in (take k xs) (drop k xs) ≡ Err (LimitPassed s.place)
unfolding sums_in
beyond xs k s l e r = rw (drop_more xs k s l, ← e, r) refl

pub summed : (xs : List Share) (k : ℕ) (earlier : List Share) → length xs ≡ k → sums_in earlier (drop k xs) ≡ Ok tt
unfolding sums_in
summed xs k earlier e = rw (drop_all k xs (omega arith)) refl

-- ---- shares of accounts

listed_is : (o : Option Share) (shares : List Share) → listed_with o shares ≡ option_to_list o ++ shares
listed_is None shares = refl
listed_is (Some share) shares = refl

pub share_added : (chain : ℕ) (context : List Junction) (xs : List Balance) (k i : ℕ) (b : Balance) (done : List Share) (o : Option Share) → k < length xs → b ≡ get_or xs k b → o ≡ share_of (document_place (Some chain) Accounts i) context b
    → (done ++ option_to_list o) ++ shares_in chain context (next_index i) (drop (k + 1) xs) ≡ done ++ shares_in chain context i (drop k xs)
unfolding shares_in
share_added chain context xs k i b done o l e n = rw (drop_more xs k b l, ← e, ← n, listed_is o (shares_in chain context (next_index i) (drop (k + 1) xs))) (append_assoc done (option_to_list o) (shares_in chain context (next_index i) (drop (k + 1) xs)))

pub shares_end : (chain : ℕ) (context : List Junction) (xs : List Balance) (k i : ℕ) (done : List Share) → length xs ≡ k → done ++ shares_in chain context i (drop k xs) ≡ done
unfolding shares_in
shares_end chain context xs k i done e = rw (drop_all k xs (omega arith)) (append-nil done)

pub chain_added : (network : NetworkId) (xs : List ChainSpec) (k i : ℕ) (c : ChainSpec) (done : List Share) → k < length xs → c ≡ get_or xs k c
    → done ++ shares_of network i (drop k xs) ≡ (done ++ shares_in i (path_of_site (record { network = network; chain = c.chain })) 0 c.accounts) ++ shares_of network (next_index i) (drop (k + 1) xs)
unfolding shares_of
chain_added network xs k i c done l e = rw (drop_more xs k c l, ← e) (sym (append_assoc done (shares_in i (path_of_site (record { network = network; chain = c.chain })) 0 c.accounts) (shares_of network (next_index i) (drop (k + 1) xs))))

pub chains_end : (network : NetworkId) (xs : List ChainSpec) (k i : ℕ) (done : List Share) → length xs ≡ k → done ++ shares_of network i (drop k xs) ≡ done
unfolding shares_of
chains_end network xs k i done e = rw (drop_all k xs (omega arith)) (append-nil done)

-- ---- saturated sums

below_min : (t m l : ℕ) → l ≤ m → nat_lt (min t m) l ≡ nat_lt t l
below_min t m l h =
    elim (nat_lt t l) as (λ b. nat_lt t l ≡ b → nat_lt (min t m) l ≡ b) [
      | true ↦ λ e. lt-ltb (min t m) l (omega (arith, ltb-true t l e))
      | false ↦ λ e. le-ltb (min t m) l (omega (arith, ltb-false t l e))
    ] refl

-- a sum that saturates at 2^128-1 is below the limit exactly where the sum is, and then it is the sum
pub sum_told : (sum t : ℕ) (b : Bool) → sum ≡ min t 340282366920938463463374607431768211455 → nat_lt sum amount_limit ≡ b → nat_lt t amount_limit ≡ b
unfolding amount_limit
sum_told sum t b e f =
    sym (below_min t 340282366920938463463374607431768211455 170141183460469231731687303715884105728 (lit≤ tt)) ∙ ap (λ n. nat_lt n 170141183460469231731687303715884105728) (sym e) ∙ f

pub sum_exact : (sum t : ℕ) → sum ≡ min t 340282366920938463463374607431768211455 → nat_lt sum amount_limit ≡ true → sum ≡ t
unfolding amount_limit
sum_exact sum t e f = let below = ltb-true sum 170141183460469231731687303715884105728 f in omega (arith, e, below)

-- ---- totals

abbrev pub counted_at : TotalKey → Share → ℕ
counted_at key share = if eq_by_cmp total_key_cmp (total_key_of share) key then share.amount else 0

number_says : (a b : Kind) → is_eq (nat_cmp (kind_number a) (kind_number b)) ≡ same_kind a b
number_says Fungible Fungible = refl
number_says Fungible Class = refl
number_says Class Fungible = refl
number_says Class Class = refl

-- shares of one key are those of one path and kind
same_keys : (other share : Share) → eq_by_cmp total_key_cmp (total_key_of other) (total_key_of share) ≡ same_asset other share
same_keys other share =
    then_says (junctions_cmp other.path share.path) (nat_cmp (kind_number other.kind) (kind_number share.kind)) ∙ ap (λ b. eq_by_cmp junctions_cmp other.path share.path && b) (number_says other.kind share.kind)

counts_same : (share : Share) → counted_at (total_key_of share) ≡ amount_of_same_asset share
counts_same share = λ i other. if same_keys other share i then other.amount else 0

pub total_is : (totals : List (TotalKey × ℕ)) (earlier : List Share) (share : Share) → ((q : TotalKey) → total_under_key totals q ≡ sum_by (counted_at q) earlier) → total_under_key totals (total_key_of share) + share.amount ≡ total_up_to earlier share
total_is totals earlier share h = ap (λ n. n + share.amount) (h (total_key_of share) ∙ ap (λ f. sum_by f earlier) (counts_same share))

pub numbers_same : (a b : ℕ) → is_eq (nat_cmp a b) ≡ true → a ≡ b
numbers_same a b h = nat_cmp-IsAntisymmetric a b (tied (nat_cmp a b) h)
  where
    tied : (r : Ordering) → is_eq r ≡ true → r ≡ Equal
    tied Less h = absurd (false≢true h)
    tied Equal h = refl
    tied Greater h = absurd (false≢true h)

key_same : (k q : TotalKey) → eq_by_cmp total_key_cmp k q ≡ true → k ≡ q
key_same k q h =
    let parts = and_parts (eq_by_cmp junctions_cmp k.0 q.0) (is_eq (nat_cmp k.1 q.1)) (sym (then_says (junctions_cmp k.0 q.0) (nat_cmp k.1 q.1)) ∙ h) in
    let paths : k.0 ≡ q.0 = (junctions_decides k.0 q.0).0 parts.0 in
    let numbers : k.1 ≡ q.1 = numbers_same k.1 q.1 parts.1 in
    λ i. (paths i, numbers i)

sum_one : (f : Share → ℕ) (x : Share) → sum_by f (x ∷ []) ≡ f x
sum_one f x = search (rules, add-zero)

sum_more : (f : Share → ℕ) (xs : List Share) (k : ℕ) (x : Share) → k < length xs → x ≡ get_or xs k x → sum_by f (take (k + 1) xs) ≡ sum_by f (take k xs) + f x
sum_more f xs k x l e = rw (take_more xs k x l, ← e) (sum_by-append f (take k xs) (x ∷ []) ∙ ap (λ n. sum_by f (take k xs) + n) (sum_one f x))

-- the totals after one more share
pub total_more : (old new : List (TotalKey × ℕ)) (xs : List Share) (k : ℕ) (share : Share) → k < length xs → share ≡ get_or xs k share → ((q : TotalKey) → total_under_key new q ≡ with_share share old q)
    → ((q : TotalKey) → total_under_key old q ≡ sum_by (counted_at q) (take k xs)) → (q : TotalKey) → total_under_key new q ≡ sum_by (counted_at q) (take (k + 1) xs)
total_more old new xs k share l e wrote told q =
    wrote q ∙ elim (eq_by_cmp total_key_cmp (total_key_of share) q) as (λ b. eq_by_cmp total_key_cmp (total_key_of share) q ≡ b
    → (if b then total_under_key old (total_key_of share) + share.amount else total_under_key old q) ≡ sum_by (counted_at q) (take k xs) + (if b then share.amount else 0)) [
      | true ↦ λ t. ap (λ n. n + share.amount) (ap (total_under_key old) (key_same (total_key_of share) q t) ∙ told q)
      | false ↦ λ t. told q ∙ nothing_more (sum_by (counted_at q) (take k xs))
    ] refl
    ∙ sym (sum_more (counted_at q) xs k share l e)
  where
    nothing_more : (n : ℕ) → n ≡ n + 0
    nothing_more n = omega arith

-- a refusal at a share, out of memory or by its total
pub stops_at : (stop : Stop) (shares : List Share) (fault : NetworkFault) → (stop ≡ stops.Memory) ⊎ ((stop ≡ stops.Fault fault) × (sums_in [] shares ≡ Err fault)) → FailsWith stop (sums_in [] shares)
stops_at stop shares fault (inl e) = subst (λ s. FailsWith s (sums_in [] shares)) (sym e) tt
stops_at stop shares fault (inr e) = subst (λ s. FailsWith s (sums_in [] shares)) (sym e.0) e.1
