-- One instruction as a move: a caller's assets go from an account to the holding, by the definitions of the landed crates.
use Rattle.std.specs.Prelude.{◌≡◌, ◌≢◌, ℕ, ◌+◌, ◌&&◌, List, refl}
use Rattle.std.specs.Ordering.{eq_by_cmp}
use Rattle.std.proofs.Common.{sym, ap, ◌∙◌, arith}
use Rattle.amounts.specs.Amounts.{total, merge, difference, IsWithin}
use Rattle.amounts.proofs.Lemmas.AmountLaws.{total_alike}
use Rattle.amounts.proofs.Lemmas.Keys.{number_keys, list_keys}
use Rattle.amounts.proofs.Lemmas.{key_same, total-merge, total-difference}
use Rattle.asset_lists.specs.declared.units.Asset.{Asset}
use Rattle.asset_bundles.specs.Bundles.{bundle_of}
use Rattle.asset_bundles.proofs.Lemmas.Bundles.{unit_keys}
use Rattle.asset_bundles.specs.Books.{given_up}
use Rattle.asset_lists.specs.Listed.{listed_of}
use Rattle.asset_bundles.specs.Joins.{Joined, Excess}
use Rattle.asset_bundles.proofs.Lemmas.{burn_keys, joined_total, given_up_total}
use Rattle.ledgers.specs.Ledgers.{Holder, account_cmp, is_account, held_by}
use Rattle.chain_ids.specs.declared.chain.ChainId.{ChainId}
use Rattle.trust_tables.specs.Accounts.{IsChain, sovereign_account}
use Rattle.amounts.proofs.Lemmas.{total_none}
use Rattle.law_coherence.specs.UniversalAssets.{UniversalAsset, Choice, every, is_asset_at, is_unit_at, is_burn_at}
use Rattle.law_coherence.specs.Networks.{context_of}
use Rattle.law_coherence.specs.Parts.{Part, chain_of_part, choice_of, stock, account_amount, burned}
use Rattle.law_coherence.specs.Moves.{IsInternal}
use Rattle.ledgers.proofs.Lemmas.{holder_keys, held_by_total}
use Rattle.plain_lists.proofs.Lemmas.Facts.{and_true as every_or, false_where_not_true as not_true}

-- the part after a withdrawal
abbrev pub Taken : List ℕ → List Asset → Part → Part
Taken who assets p = record p {
  held = difference p.held (held_by who (bundle_of assets));
  holding = Joined p.holding (bundle_of assets);
  burns = merge p.burns (given_up p.holding (bundle_of assets));
}

pub withdrawal_internal : (p : Part) (who : List ℕ) (assets : List Asset) → IsWithin (held_by who (bundle_of assets)) p.held
    → ((chain : ChainId) → IsChain chain → chain ≢ chain_of_part p → who ≢ sovereign_account (chain_of_part p) chain) → IsInternal p (Taken who assets p)
unfolding stock burned account_amount
withdrawal_internal p who assets within user =
    let given : (a : UniversalAsset) (choice : Choice) → total (λ (h : Holder). is_unit_at (context_of p.table) a choice h.1) (difference p.held (held_by who (bundle_of assets))) + total (is_unit_at (context_of p.table) a choice) (bundle_of assets)
    ≡ total (λ (h : Holder). is_unit_at (context_of p.table) a choice h.1) p.held = λ a choice.
    ap (λ k. total (λ (h : Holder). is_unit_at (context_of p.table) a choice h.1) (difference p.held (held_by who (bundle_of assets))) + k) (sym (held_by_total (λ (h : Holder). is_unit_at (context_of p.table) a choice h.1) who (bundle_of assets)))
    ∙ total-difference holder_keys (λ (h : Holder). is_unit_at (context_of p.table) a choice h.1) p.held (held_by who (bundle_of assets)) within in
    record {
      table = refl;
      checking = refl;
      outgoing = refl;
      kept = λ a.
          let gone = given a every in
          let got = joined_total (is_unit_at (context_of p.table) a every) p.holding (bundle_of assets) in
          let same : total (is_unit_at (context_of p.table) a every) (Excess p.holding (bundle_of assets)) ≡ total (λ u. is_asset_at (context_of p.table) a (listed_of u)) (Excess p.holding (bundle_of assets)) =
          total_alike (is_unit_at (context_of p.table) a every) (λ u. is_asset_at (context_of p.table) a (listed_of u)) (Excess p.holding (bundle_of assets)) (λ u. every_or (is_asset_at (context_of p.table) a (listed_of u))) in
          let books = given_up_total (is_asset_at (context_of p.table) a) p.holding (bundle_of assets) in
          let all = total-merge burn_keys (is_burn_at (context_of p.table) a) p.burns (given_up p.holding (bundle_of assets)) in
          omega (arith, gone, got, same, books, all);
      less = λ a choice.
          let gone = given a choice in
          let got = joined_total (is_unit_at (context_of p.table) a choice) p.holding (bundle_of assets) in
          omega (arith, gone, got);
      covered = λ chain a count number foreign.
          let cut = total-difference holder_keys (λ (h : Holder). is_account (sovereign_account (chain_of_part p) chain) h && is_unit_at (context_of p.table) a (choice_of count) h.1) p.held (held_by who (bundle_of assets)) within in
          let none : total (λ (h : Holder). is_account (sovereign_account (chain_of_part p) chain) h && is_unit_at (context_of p.table) a (choice_of count) h.1) (held_by who (bundle_of assets)) ≡ 0 =
          held_by_total (λ (h : Holder). is_account (sovereign_account (chain_of_part p) chain) h && is_unit_at (context_of p.table) a (choice_of count) h.1) who (bundle_of assets)
          ∙ total_none unit_keys (λ u. eq_by_cmp account_cmp (sovereign_account (chain_of_part p) chain) who && is_unit_at (context_of p.table) a (choice_of count) u) (bundle_of assets) (λ u some.
          ap (λ b. b && is_unit_at (context_of p.table) a (choice_of count) u) (not_true (eq_by_cmp account_cmp (sovereign_account (chain_of_part p) chain) who) (λ t. user chain number foreign (sym (key_same (list_keys number_keys) (sovereign_account (chain_of_part p) chain) who t))))) in
          omega (arith, cut, none);
    }
