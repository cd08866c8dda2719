-- The two moves of a sovereign account: a deposit goes into it when it is sent, and a withdrawal is paid from it.
use Rattle.std.specs.Prelude.{◌≡◌, ◌≢◌, ℕ, ◌+◌, ◌≤◌, true, false, ◌&&◌, if◌then◌else◌, List, Some, refl}
use Rattle.std.specs.Ordering.{eq_by_cmp}
use Rattle.std.proofs.Common.{sym, ap, ◌∙◌, subst, arith}
use Rattle.amounts.specs.Amounts.{total, merge, difference, IsWithin}
use Rattle.amounts.proofs.Lemmas.AmountLaws.{total_alike}
use Rattle.amounts.proofs.Lemmas.Keys.{number_keys, list_keys}
use Rattle.amounts.proofs.Lemmas.{key_same, same_key, total-merge, total-difference}
use Rattle.asset_lists.specs.declared.units.Asset.{Asset}
use Rattle.asset_bundles.specs.Bundles.{Bundle, bundle_of}
use Rattle.asset_bundles.proofs.Lemmas.Bundles.{unit_keys}
use Rattle.asset_bundles.specs.Books.{given_up}
use Rattle.asset_lists.specs.Listed.{listed_of}
use Rattle.asset_bundles.specs.Joins.{Joined, Excess}
use Rattle.asset_bundles.proofs.Lemmas.{burn_keys, joined_total, given_up_total}
use Rattle.ledgers.specs.Ledgers.{Holder, account_cmp, is_account, held_by}
use Rattle.chain_ids.specs.declared.chain.ChainId.{ChainId}
use Rattle.trust_tables.specs.Accounts.{IsChain, sovereign_account}
use Rattle.trust_tables.proofs.Lemmas.ChainLaws.{sovereign_account_of_one}
use Rattle.amounts.proofs.Lemmas.{total_none}
use Rattle.chain_ids.specs.Chains.{same_chain}
use Rattle.law_coherence.specs.UniversalAssets.{UniversalAsset, Choice, every, is_asset_at, is_unit_at, is_burn_at}
use Rattle.law_coherence.specs.Networks.{context_of}
use Rattle.law_coherence.specs.Parts.{Deposit, Withdrawal, Part, chain_of_part, choice_of, stock, account_amount, held_for, burned}
use Rattle.chain_ids.proofs.Lemmas.{same_chain_told, same_chain_itself}
use Rattle.law_coherence.specs.Channels.{has_channel, cargo_pushed, front}
use Rattle.law_coherence.specs.Checking.{checking_at}
use Rattle.law_coherence.proofs.Lemmas.Checking.{risen_by_none}
use Rattle.law_coherence.specs.Moves.{IsSent, IsReceived}
use Rattle.ledgers.proofs.Lemmas.{holder_keys, held_by_total}
use Rattle.law_coherence.proofs.Lemmas.Landings.{WithoutFront}
use Rattle.plain_lists.proofs.Lemmas.Facts.{and_true as every_or, false_where_not_true as not_true}

true_false : false ≡ true → ⊥
true_false e = absurd (cc)

-- what a list adds to the account of a chain when it goes to that of another, or the same
account_share : (p : Part) (who other : List ℕ) (a : UniversalAsset) (choice : Choice) (assets : List Asset)
    → total (λ (h : Holder). is_account other h && is_unit_at (context_of p.table) a choice h.1) (held_by who (bundle_of assets)) ≡ total (λ u. eq_by_cmp account_cmp other who && is_unit_at (context_of p.table) a choice u) (bundle_of assets)
account_share p who other a choice assets = held_by_total (λ (h : Holder). is_account other h && is_unit_at (context_of p.table) a choice h.1) who (bundle_of assets)

same_share : (p : Part) (who other : List ℕ) (a : UniversalAsset) (choice : Choice) (assets : List Asset) → other ≡ who
    → total (λ u. eq_by_cmp account_cmp other who && is_unit_at (context_of p.table) a choice u) (bundle_of assets) ≡ total (is_unit_at (context_of p.table) a choice) (bundle_of assets)
same_share p who other a choice assets same =
    let one : eq_by_cmp account_cmp other who ≡ true = subst (λ x. eq_by_cmp account_cmp other x ≡ true) same (same_key (list_keys number_keys) other) in
    total_alike (λ u. eq_by_cmp account_cmp other who && is_unit_at (context_of p.table) a choice u) (is_unit_at (context_of p.table) a choice) (bundle_of assets) (λ u. ap (λ b. b && is_unit_at (context_of p.table) a choice u) one)

no_share : (p : Part) (who other : List ℕ) (a : UniversalAsset) (choice : Choice) (assets : List Asset) → (other ≡ who → ⊥)
    → total (λ u. eq_by_cmp account_cmp other who && is_unit_at (context_of p.table) a choice u) (bundle_of assets) ≡ 0
no_share p who other a choice assets differ =
    let none : eq_by_cmp account_cmp other who ≡ false = not_true (eq_by_cmp account_cmp other who) (λ t. differ (key_same (list_keys number_keys) other who t)) in
    total_none unit_keys (λ u. eq_by_cmp account_cmp other who && is_unit_at (context_of p.table) a choice u) (bundle_of assets) (λ u some. ap (λ b. b && is_unit_at (context_of p.table) a choice u) none)

-- DepositReserveAsset: a list goes from the holding to the account of the chain, and the message says so
abbrev pub DepositSent : ChainId → List Asset → Bundle → Part → Part
DepositSent to assets left p = record p {
  held = merge p.held (held_by (sovereign_account (chain_of_part p) to) (bundle_of assets));
  holding = left;
  outgoing = cargo_pushed to (Deposit (bundle_of assets)) p.outgoing;
}

pub deposit_sent : (to : ChainId) (assets : List Asset) (left : Bundle) (p : Part) → has_channel to p.outgoing ≡ true → p.holding ≡ merge left (bundle_of assets) → IsSent to (Deposit (bundle_of assets)) p (DepositSent to assets left p)
unfolding stock burned account_amount
deposit_sent to assets left p linked whole =
    let given : (a : UniversalAsset) (choice : Choice) → total (is_unit_at (context_of p.table) a choice) p.holding ≡ total (is_unit_at (context_of p.table) a choice) left + total (is_unit_at (context_of p.table) a choice) (bundle_of assets) = λ a choice.
    ap (total (is_unit_at (context_of p.table) a choice)) whole ∙ total-merge unit_keys (is_unit_at (context_of p.table) a choice) left (bundle_of assets) in
    let got : (a : UniversalAsset) (choice : Choice) → total (λ (h : Holder). is_unit_at (context_of p.table) a choice h.1) (merge p.held (held_by (sovereign_account (chain_of_part p) to) (bundle_of assets)))
    ≡ total (λ (h : Holder). is_unit_at (context_of p.table) a choice h.1) p.held + total (is_unit_at (context_of p.table) a choice) (bundle_of assets) = λ a choice.
    total-merge holder_keys (λ (h : Holder). is_unit_at (context_of p.table) a choice h.1) p.held (held_by (sovereign_account (chain_of_part p) to) (bundle_of assets))
    ∙ ap (λ k. total (λ (h : Holder). is_unit_at (context_of p.table) a choice h.1) p.held + k) (held_by_total (λ (h : Holder). is_unit_at (context_of p.table) a choice h.1) (sovereign_account (chain_of_part p) to) (bundle_of assets)) in
    record {
      table = refl;
      linked = linked;
      outgoing = refl;
      kept = λ a. let x = given a every in let y = got a every in omega (arith, x, y);
      less = λ a choice. let x = given a choice in let y = got a choice in omega (arith, x, y);
      covered = λ chain a count number foreign_chain.
          let all = total-merge holder_keys (λ (h : Holder). is_account (sovereign_account (chain_of_part p) chain) h && is_unit_at (context_of p.table) a (choice_of count) h.1) p.held (held_by (sovereign_account (chain_of_part p) to) (bundle_of assets)) in
          let share = account_share p (sovereign_account (chain_of_part p) to) (sovereign_account (chain_of_part p) chain) a (choice_of count) assets in
          elim (same_chain to chain) as (λ b. same_chain to chain ≡ b → held_for chain a count p + (if b then total (is_unit_at (context_of p.table) a (choice_of count)) (bundle_of assets) else 0) ≤ held_for chain a count (DepositSent to assets left p)) [
            | true ↦ λ t.
                let same = same_share p (sovereign_account (chain_of_part p) to) (sovereign_account (chain_of_part p) chain) a (choice_of count) assets (ap (sovereign_account (chain_of_part p)) (sym (same_chain_told to chain t))) in
                omega (arith, all, share, same)
            | false ↦ λ t. omega (arith, all)
          ] refl;
      raised = λ a. sym (risen_by_none (checking_at a p));
      foreign = λ a home. refl;
    }

-- WithdrawAsset of a delivered withdrawal: the list goes from the sender's account to the holding
abbrev pub Paid : Part → List Asset → Part → Part
Paid p assets q = record q {
  held = difference q.held (held_by (sovereign_account (chain_of_part q) (chain_of_part p)) (bundle_of assets));
  holding = Joined q.holding (bundle_of assets);
  burns = merge q.burns (given_up q.holding (bundle_of assets));
}

pub paid_received : (goods : Bundle) (assets : List Asset) (p q : Part) → front (chain_of_part q) p.outgoing ≡ Some (Withdrawal goods) → IsChain (chain_of_part p) → chain_of_part p ≢ chain_of_part q
    → IsWithin (held_by (sovereign_account (chain_of_part q) (chain_of_part p)) (bundle_of assets)) q.held
    → ((a : UniversalAsset) (choice : Choice) → total (is_unit_at (context_of q.table) a choice) (bundle_of assets) ≡ total (is_unit_at (context_of p.table) a choice) goods)
    → IsReceived (Withdrawal goods) p (WithoutFront q p) q (Paid p assets q)
unfolding stock burned account_amount
paid_received goods assets p q first number_p apart within same_goods =
    let gone : (a : UniversalAsset) (choice : Choice) → total (λ (h : Holder). is_unit_at (context_of q.table) a choice h.1) (difference q.held (held_by (sovereign_account (chain_of_part q) (chain_of_part p)) (bundle_of assets))) + total (is_unit_at (context_of q.table) a choice) (bundle_of assets)
    ≡ total (λ (h : Holder). is_unit_at (context_of q.table) a choice h.1) q.held = λ a choice.
    ap (λ k. total (λ (h : Holder). is_unit_at (context_of q.table) a choice h.1) (difference q.held (held_by (sovereign_account (chain_of_part q) (chain_of_part p)) (bundle_of assets))) + k) (sym (held_by_total (λ (h : Holder). is_unit_at (context_of q.table) a choice h.1) (sovereign_account (chain_of_part q) (chain_of_part p)) (bundle_of assets)))
    ∙ total-difference holder_keys (λ (h : Holder). is_unit_at (context_of q.table) a choice h.1) q.held (held_by (sovereign_account (chain_of_part q) (chain_of_part p)) (bundle_of assets)) within in
    record {
      table = refl;
      checking = refl;
      first = first;
      outgoing = refl;
      burns_now = λ a. refl;
      stock_same = λ a choice. refl;
      held_same = λ chain a count. refl;
      there = refl;
      there_outgoing = refl;
      kept = λ a.
          let x = gone a every in
          let got = joined_total (is_unit_at (context_of q.table) a every) q.holding (bundle_of assets) in
          let rest : total (is_unit_at (context_of q.table) a every) (Excess q.holding (bundle_of assets)) ≡ total (λ u. is_asset_at (context_of q.table) a (listed_of u)) (Excess q.holding (bundle_of assets)) =
          total_alike (is_unit_at (context_of q.table) a every) (λ u. is_asset_at (context_of q.table) a (listed_of u)) (Excess q.holding (bundle_of assets)) (λ u. every_or (is_asset_at (context_of q.table) a (listed_of u))) in
          let books = given_up_total (is_asset_at (context_of q.table) a) q.holding (bundle_of assets) in
          let all = total-merge burn_keys (is_burn_at (context_of q.table) a) q.burns (given_up q.holding (bundle_of assets)) in
          omega (arith, x, got, rest, books, all);
      more = λ a choice.
          let x = gone a choice in
          let got = joined_total (is_unit_at (context_of q.table) a choice) q.holding (bundle_of assets) in
          omega (arith, x, got);
      covered = λ chain a count number foreign_chain.
          let cut = total-difference holder_keys (λ (h : Holder). is_account (sovereign_account (chain_of_part q) chain) h && is_unit_at (context_of q.table) a (choice_of count) h.1) q.held (held_by (sovereign_account (chain_of_part q) (chain_of_part p)) (bundle_of assets)) within in
          let share = account_share q (sovereign_account (chain_of_part q) (chain_of_part p)) (sovereign_account (chain_of_part q) chain) a (choice_of count) assets in
          let list = same_goods a (choice_of count) in
          elim (same_chain (chain_of_part p) chain) as (λ b. same_chain (chain_of_part p) chain ≡ b → held_for chain a count q ≤ held_for chain a count (Paid p assets q) + (if b then total (is_unit_at (context_of p.table) a (choice_of count)) goods else 0)) [
            | true ↦ λ t.
                let same = same_share q (sovereign_account (chain_of_part q) (chain_of_part p)) (sovereign_account (chain_of_part q) chain) a (choice_of count) assets (ap (sovereign_account (chain_of_part q)) (sym (same_chain_told (chain_of_part p) chain t))) in
                omega (arith, cut, share, same, list)
            | false ↦ λ t.
                let none = no_share q (sovereign_account (chain_of_part q) (chain_of_part p)) (sovereign_account (chain_of_part q) chain) a (choice_of count) assets
                (λ e. true_false (sym t ∙ ap (λ c. same_chain c chain) (sym (sovereign_account_of_one (chain_of_part q) chain (chain_of_part p) number number_p foreign_chain apart e)) ∙ same_chain_itself chain)) in
                omega (arith, cut, share, none)
          ] refl;
      lowered = λ a. sym (risen_by_none (checking_at a q));
    }
