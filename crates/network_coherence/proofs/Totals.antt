-- What the balances of a document add up to.
use Rattle.std.specs.Prelude.{◌≡◌, ℕ, zero, suc, ◌+◌, ◌<◌, nat_lt, Bool, true, false, ◌&&◌, ◌||◌, List, [], ◌∷◌, ◌++◌, length, take, None, Some, refl}
use Rattle.std.specs.List.{list_any}
use Rattle.std.proofs.Common.{get_or, sym, ap, ◌∙◌, arith, zero-add}
use Rattle.std.proofs.lemmas.Bool.{lt-ltb}
use Rattle.std.proofs.lemmas.List.{take_more}
use Rattle.amounts.specs.Rows.{IsPositive, amount_if, sum_where}
use Rattle.amounts.specs.Amounts.{empty, rows, total}
use Rattle.amounts.proofs.Lemmas.AmountLaws.{total-empty, total-rows, rows_positive}
use Rattle.amounts.proofs.Lemmas.{total-merge, total-from_rows}
use Rattle.asset_lists.specs.declared.units.Asset.{Asset}
use Rattle.asset_lists.specs.Units.{Unit, unit_of, amount_of}
use Rattle.asset_bundles.specs.Bundles.{bundle_of, rows_of}
use Rattle.asset_bundles.proofs.Lemmas.Bundles.{unit_keys}
use Rattle.ledgers.specs.Ledgers.{Holder, Held, held_by, is_account}
use Rattle.ledgers.proofs.Lemmas.{holder_keys, held_by_total}
use Rattle.locations.specs.declared.grammar.Junction.{Junction}
use Rattle.chain_ids.specs.declared.chain.ChainId.{ChainId}
use Rattle.trust_tables.specs.Accounts.{sovereign_account}
use Rattle.law_coherence.specs.UniversalAssets.{UniversalAsset, Choice, is_unit_at}
use Rattle.law_coherence.specs.Networks.{context_of}
use Rattle.law_coherence.specs.Causes.{amount_at, amount_for}
use Rattle.network_spec.specs.declared.chain.Balance.{Balance}
use Rattle.network_spec.specs.declared.chain.ChainSpec.{ChainSpec}
use Rattle.network_spec.specs.declared.network.NetworkSpec.{NetworkSpec}
use Rattle.network_steps.specs.Genesis.{with_balance, with_balances, entry_of}
use Rattle.network_coherence.specs.Answers.{document_table}
use Rattle.network_coherence.specs.Balances.{holder_of, balance_rows, is_held_unit_of, some_balance}

-- ---- totals of what accounts hold
module _ (p : Holder → Bool) where
  one_balance : (who : List ℕ) (a : Asset) → total p (held_by who (bundle_of (a ∷ []))) ≡ amount_if (p (who, unit_of a)) (amount_of a)
  unfolding bundle_of
  one_balance who a =
      let goods = held_by_total p who (bundle_of (a ∷ [])) in
      let listed = total-from_rows unit_keys (λ (u : Unit). p (who, u)) (rows_of (a ∷ [])) in
      omega (arith, goods, listed)

  more_balances : (held : Held) (bs : List Balance) → total p (with_balances held bs) ≡ total p held + sum_where p (balance_rows bs)
  more_balances held [] = omega arith
  more_balances held (b ∷ bs) =
      let later = more_balances (with_balance held b) bs in
      let both = total-merge holder_keys p held (held_by b.who (bundle_of (b.asset ∷ []))) in
      let one = one_balance b.who b.asset in
      omega (arith, later, both, one)

  pub total_balances : (bs : List Balance) → total p (with_balances empty bs) ≡ sum_where p (balance_rows bs)
  total_balances bs = let all = more_balances empty bs in let none = total-empty holder_keys p in omega (arith, all, none)

  -- ---- tests that some holder passes
  pub some_row : {K : Type 0} (q : K → Bool) (es : List (K × ℕ)) → IsPositive es → list_any (λ (e : K × ℕ). q e.0) es ≡ nat_lt 0 (sum_where q es)
  some_row q [] positive = refl
  some_row q (e ∷ es) positive =
      elim (q e.0) as (λ b. (b || list_any (λ (e : _ × ℕ). q e.0) es) ≡ nat_lt 0 (amount_if b e.1 + sum_where q es)) [
        | true ↦ sym (lt-ltb 0 (e.1 + sum_where q es) (let some = positive.0 in omega (arith, some)))
        | false ↦ some_row q es positive.1 ∙ ap (nat_lt 0) (sym (zero-add (sum_where q es)))
      ]

  above : (n : ℕ) (b : Bool) (rest : ℕ) (later : Bool) → later ≡ nat_lt 0 rest → (((nat_lt 0 n) && b) || later) ≡ nat_lt 0 (amount_if b n + rest)
  above zero true rest later e = e ∙ ap (nat_lt 0) (sym (zero-add rest))
  above zero false rest later e = e ∙ ap (nat_lt 0) (sym (zero-add rest))
  above (suc n) true rest later e = ap (λ b. (b && true) || later) (lt-ltb 0 (suc n) (omega arith)) ∙ sym (lt-ltb 0 (suc n + rest) (omega arith))
  above (suc n) false rest later e = ap (λ b. (b && false) || later) (lt-ltb 0 (suc n) (omega arith)) ∙ e ∙ ap (nat_lt 0) (sym (zero-add rest))

  pub some_balance_says : (bs : List Balance) → some_balance p bs ≡ nat_lt 0 (sum_where p (balance_rows bs))
  some_balance_says [] = refl
  some_balance_says (b ∷ bs) = above (amount_of b.asset) (p (holder_of b)) (sum_where p (balance_rows bs)) (some_balance p bs) (some_balance_says bs)

  -- some balance passes where the total of those that pass isn't 0
  pub some_total : (bs : List Balance) → some_balance p bs ≡ nat_lt 0 (total p (with_balances empty bs))
  some_total bs = some_balance_says bs ∙ ap (nat_lt 0) (sym (total_balances bs))

  -- some row passes where some balance does
  pub some_held : (bs : List Balance) → some_balance p bs ≡ list_any (λ (row : Holder × ℕ). p row.0) (rows (with_balances empty bs))
  some_held bs =
      some_total bs ∙ ap (nat_lt 0) (sym (total-rows p (with_balances empty bs)))
      ∙ sym (some_row p (rows (with_balances empty bs)) (rows_positive (with_balances empty bs)))

  -- ---- a sum in a loop
  rows-append : (bs cs : List Balance) → sum_where p (balance_rows (bs ++ cs)) ≡ sum_where p (balance_rows bs) + sum_where p (balance_rows cs)
  rows-append [] cs = sym (zero-add (sum_where p (balance_rows cs)))
  rows-append (b ∷ bs) cs = let rest = rows-append bs cs in omega (arith, rest)

  pub sum_more : (bs : List Balance) (i : ℕ) (b : Balance) → i < length bs → b ≡ get_or bs i b
      → sum_where p (balance_rows (take (i + 1) bs)) ≡ sum_where p (balance_rows (take i bs)) + amount_if (p (holder_of b)) (amount_of b.asset)
  sum_more bs i b inside is =
      let front : take (i + 1) bs ≡ take i bs ++ b ∷ [] = take_more bs i b inside ∙ ap (λ (c : Balance). take i bs ++ c ∷ []) (sym is) in
      let sum = rows-append (take i bs) (b ∷ []) in
      ap (λ cs. sum_where p (balance_rows cs)) front ∙ omega (arith, sum)

  -- where a loop adds what passes
  pub sum_passed : (bs : List Balance) (i : ℕ) (b : Balance) (so_far now : ℕ) → i < length bs → b ≡ get_or bs i b
      → so_far ≡ sum_where p (balance_rows (take i bs)) → now ≡ so_far + amount_if (p (holder_of b)) (amount_of b.asset)
      → now ≡ sum_where p (balance_rows (take (i + 1) bs))
  sum_passed bs i b so_far now inside is before adds = let more = sum_more bs i b inside is in omega (arith, before, adds, more)

-- ---- what a chain's accounts hold
module _ (spec : NetworkSpec) (c : ChainSpec) (a : UniversalAsset) (choice : Choice) where
  pub amount_there : (context : List Junction) (bs : List Balance) → context ≡ context_of (document_table spec c) → bs ≡ c.accounts
      → sum_where (is_held_unit_of None context a choice) (balance_rows bs) ≡ amount_at a choice (entry_of spec c)
  amount_there context bs is_context is_bs =
      (λ i. sum_where (is_held_unit_of None (is_context i) a choice) (balance_rows (is_bs i)))
      ∙ sym (total_balances (λ (h : Holder). is_unit_at (context_of (document_table spec c)) a choice h.1) c.accounts)

  pub amount_for_there : (chain : ChainId) (who : List ℕ) (context : List Junction) (bs : List Balance) → who ≡ sovereign_account c.chain chain → context ≡ context_of (document_table spec c) → bs ≡ c.accounts
      → sum_where (is_held_unit_of (Some who) context a choice) (balance_rows bs) ≡ amount_for chain a choice (entry_of spec c)
  amount_for_there chain who context bs is_who is_context is_bs =
      (λ i. sum_where (is_held_unit_of (Some (is_who i)) (is_context i) a choice) (balance_rows (is_bs i)))
      ∙ sym (total_balances (λ (h : Holder). is_account (sovereign_account c.chain chain) h && is_unit_at (context_of (document_table spec c)) a choice h.1) c.accounts)

  pub owner_there : (context : List Junction) (bs : List Balance) → context ≡ context_of (document_table spec c) → bs ≡ c.accounts
      → some_balance (is_held_unit_of None context a choice) bs ≡ nat_lt 0 (amount_at a choice (entry_of spec c))
  owner_there context bs is_context is_bs = some_balance_says (is_held_unit_of None context a choice) bs ∙ ap (nat_lt 0) (amount_there context bs is_context is_bs)

  pub account_there : (chain : ChainId) (who : List ℕ) (context : List Junction) (bs : List Balance) → who ≡ sovereign_account c.chain chain → context ≡ context_of (document_table spec c) → bs ≡ c.accounts
      → some_balance (is_held_unit_of (Some who) context a choice) bs ≡ nat_lt 0 (amount_for chain a choice (entry_of spec c))
  account_there chain who context bs is_who is_context is_bs =
      some_balance_says (is_held_unit_of (Some who) context a choice) bs ∙ ap (nat_lt 0) (amount_for_there chain who context bs is_who is_context is_bs)
