-- Of no asset do the accounts of a valid network hold too much, all chains together.
use Rattle.std.specs.Prelude.{ℕ, ◌+◌, List, [], ◌∷◌, map, sum_by, Bool, true, false, ◌&&◌, ◌||◌, Some, None}
use Rattle.std.specs.List.{list_any, list_all, AllByRecursion}
use Rattle.std.proofs.Common.{◌≡◌, ◌∙◌, refl, sym, ap, subst, arith}
use Rattle.std.proofs.lemmas.Bool.{and_parts, cond-true, false≢true}
use Rattle.std.proofs.lemmas.List.Sums.{sum_by-cons}
use Rattle.amounts.specs.Rows.{amount_if}
use Rattle.amounts.specs.Amounts.{total, empty}
use Rattle.amounts.proofs.Lemmas.AmountLaws.{total-empty}
use Rattle.amounts.proofs.Lemmas.{total-merge}
use Rattle.locations.specs.declared.grammar.Junction.{Junction}
use Rattle.locations.specs.Chains.{path_of}
use Rattle.asset_lists.specs.declared.units.Asset.{Asset}
use Rattle.asset_lists.specs.declared.units.AssetId.{AssetId}
use Rattle.asset_lists.specs.declared.units.AssetId.TheVariants.{Concrete}
use Rattle.asset_lists.specs.Units.{Unit, unit_of, amount_of, instance_in}
use Rattle.asset_lists.specs.Listed.{kind_of, same_kind}
use Rattle.asset_bundles.specs.Bundles.{bundle_of}
use Rattle.asset_bundles.proofs.Lemmas.BundleLaws.{total-bundle_of}
use Rattle.ledgers.specs.Ledgers.{Holder, Held, held_by}
use Rattle.ledgers.proofs.Lemmas.{holder_keys, held_by_total}
use Rattle.trust_tables.specs.declared.rows.AssetRow.{AssetRow}
use Rattle.trust_tables.specs.Chains.{path_of_site}
use Rattle.trust_tables.specs.Trust.{is_row_of}
use Rattle.trust_tables.proofs.Lemmas.TrustLaws.{is_row_of_says}
use Rattle.law_coherence.specs.UniversalAssets as universal
use Rattle.law_coherence.specs.UniversalAssets.{UniversalAsset, every, is_unit_at}
use Rattle.law_coherence.specs.Causes.{amount_at}
use Rattle.network_spec.specs.declared.chain.Balance.{Balance}
use Rattle.network_spec.specs.declared.chain.ChainSpec.{ChainSpec}
use Rattle.network_spec.specs.declared.network.NetworkSpec.{NetworkSpec}
use Rattle.network_config.specs.Sums.{path_at}
use Rattle.network_config.proofs.Lemmas.Summed.{part_at, part_of_id, part_of, part_in}
use Rattle.network_steps.specs.Tests.{has_path, have_paths, is_balance}
use Rattle.network_steps.specs.Genesis.{with_balance, with_balances, entry_of}
use Rattle.network_steps.specs.Openable.{IsOpenableChain}
use Rattle.plain_lists.proofs.Lemmas.Facts.{and_true}

-- ---- what a chain's accounts hold of an asset

module _ (context : List Junction) (a : UniversalAsset) where
  abbrev holds : Unit → Bool
  holds = is_unit_at context a every

  abbrev counted : Balance → ℕ
  counted b = amount_if (holds (unit_of b.asset)) (amount_of b.asset)

  one_counted : (b : Balance) → total (λ (h : Holder). holds h.1) (held_by b.who (bundle_of (b.asset ∷ []))) ≡ counted b + 0
  one_counted b = held_by_total (λ (h : Holder). holds h.1) b.who (bundle_of (b.asset ∷ [])) ∙ total-bundle_of holds (b.asset ∷ [])

  all_counted : (held : Held) (bs : List Balance) → total (λ (h : Holder). holds h.1) (with_balances held bs) ≡ total (λ (h : Holder). holds h.1) held + sum_by counted bs
  all_counted held [] = omega arith
  all_counted held (b ∷ bs) =
      let rest = all_counted (with_balance held b) bs in
      let merged = total-merge holder_keys (λ (h : Holder). holds h.1) held (held_by b.who (bundle_of (b.asset ∷ []))) in
      omega (arith, rest, merged, one_counted b, sum_by-cons counted b bs)

-- ---- a balance counts for what its share does

module _ {X : Type 0} (p q : X → Bool) where
  found : (xs : List X) → list_any p xs ≡ true → list_all q xs ≡ true → (x : X) × (p x ≡ true) × (q x ≡ true)
  found [] h k = absurd (false≢true h)
  found (x ∷ xs) h k =
      let rest : list_any p xs ≡ true → (y : X) × (p y ≡ true) × (q y ≡ true) = λ g. found xs g (and_parts (q x) (list_all q xs) k).1 in
      elim (p x) as (λ b. p x ≡ b → (b || list_any p xs) ≡ true → (y : X) × (p y ≡ true) × (q y ≡ true)) [
        | true ↦ λ e g. (x, e, (and_parts (q x) (list_all q xs) k).0)
        | false ↦ λ e g. rest g
      ] refl h

module _ (context : List Junction) (a : UniversalAsset) where
  counts_as : Asset → AssetId → Type 0
  counts_as asset id = amount_if ((universal.leads_to_path context a.0 id && same_kind (kind_of (instance_in asset.fun)) a.1) && true) (amount_of asset) ≡ part_of_id context a.0 a.1 asset id

  of_row : (asset : Asset) (row : AssetRow) → has_path context row ≡ true → counts_as asset (Concrete row.id)
  unfolding counts_as
  of_row asset row h =
      let placed : path_at context row.id ≡ Some (path_of context row.id) = cond-true _ (Some (path_of context row.id)) None h in
      ap (λ b. amount_if b (amount_of asset)) (and_true (universal.leads_to_path context a.0 (Concrete row.id) && same_kind (kind_of (instance_in asset.fun)) a.1))
      ∙ ap (part_at a.0 a.1 asset) (sym placed)

  of_balance : (rows : List AssetRow) (b : Balance) → have_paths context rows ≡ true → list_any (is_row_of b.asset) rows ≡ true → counted context a b ≡ part_of context a.0 a.1 b
  unfolding counts_as
  of_balance rows b paths listed =
      let at = found (is_row_of b.asset) (has_path context) rows listed paths in
      let id : b.asset.id ≡ Concrete at.0.id = ((is_row_of_says b.asset at.0).0 at.1).0 in
      subst (counts_as b.asset) (sym id) (of_row b.asset at.0 at.2)

  of_balances : (rows : List AssetRow) (bs : List Balance) → have_paths context rows ≡ true → list_all (is_balance rows) bs ≡ true → sum_by (counted context a) bs ≡ sum_by (part_of context a.0 a.1) bs
  of_balances rows [] paths h = refl
  of_balances rows (b ∷ bs) paths h =
      let parts = and_parts (is_balance rows b) (list_all (is_balance rows) bs) h in
      let here = of_balance rows b paths (and_parts (list_any (is_row_of b.asset) rows) _ parts.0).0 in
      let rest = of_balances rows bs paths parts.1 in
      omega (arith, sum_by-cons (counted context a) b bs, sum_by-cons (part_of context a.0 a.1) b bs, here, rest)

-- ---- a chain, and all chains

of_chain : (spec : NetworkSpec) (a : UniversalAsset) (c : ChainSpec) → IsOpenableChain spec.network c → amount_at a every (entry_of spec c) ≡ part_in spec.network a.0 a.1 c
of_chain spec a c opens =
    let context : List Junction = path_of_site (record { network = spec.network; chain = c.chain }) in
    all_counted context a empty c.accounts
    ∙ ap (λ n. n + sum_by (counted context a) c.accounts) (total-empty holder_keys (λ (h : Holder). holds context a h.1))
    ∙ zero_more (sum_by (counted context a) c.accounts)
    ∙ of_balances context a c.assets c.accounts opens.paths opens.balances
  where
    zero_more : (n : ℕ) → 0 + n ≡ n
    zero_more n = omega arith

pub of_chains : (spec : NetworkSpec) (a : UniversalAsset) (cs : List ChainSpec) → AllByRecursion (IsOpenableChain spec.network) cs
    → sum_by (amount_at a every) (map (entry_of spec) cs) ≡ sum_by (part_in spec.network a.0 a.1) cs
of_chains spec a [] h = refl
of_chains spec a (c ∷ cs) h =
    sum_by-cons (amount_at a every) (entry_of spec c) (map (entry_of spec) cs)
    ∙ (λ i. of_chain spec a c h.0 i + of_chains spec a cs h.1 i)
    ∙ sym (sum_by-cons (part_in spec.network a.0 a.1) c cs)
