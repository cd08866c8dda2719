-- What the tests on balances say of what accounts hold.
use Rattle.std.specs.Prelude.{◌≡◌, ℕ, nat_lt, nat_eq, Bool, true, false, ◌&&◌, ◌||◌, List, Option, Some}
use Rattle.asset_lists.specs.declared.units.Instance.{Instance}
use Rattle.std.proofs.Common.{sym, ap, ◌∙◌, arith}
use Rattle.std.proofs.lemmas.Bool.{ltb-false}
use Rattle.locations.specs.declared.grammar.Junction.{Junction}
use Rattle.locations.specs.Chains.{path_of}
use Rattle.trust_tables.specs.declared.rows.AssetRow.{AssetRow}
use Rattle.law_coherence.specs.UniversalAssets.{UniversalAsset, every, just}
use Rattle.asset_lists.specs.declared.units.Kind.TheVariants.{Fungible}
use Rattle.asset_lists.specs.Listed.{same_kind}
use Rattle.law_coherence.specs.Networks.{context_of, path_of_row, asset_of_row, is_home}
use Rattle.law_coherence.specs.Causes.{amount_at, amount_for, any_instance, is_class_instance, shares_instance, is_short}
use Rattle.network_spec.specs.declared.chain.Balance.{Balance}
use Rattle.network_spec.specs.declared.chain.ChainSpec.{ChainSpec}
use Rattle.network_spec.specs.declared.network.NetworkSpec.{NetworkSpec}
use Rattle.network_steps.specs.Genesis.{entry_of}
use Rattle.network_coherence.specs.Answers.{document_table}
use Rattle.network_coherence.specs.Balances.{some_balance, is_shared, is_uncovered}
use Rattle.network_coherence.proofs.Totals.{some_held}
use Rattle.network_coherence.proofs.Coins.{fungible_told, nothing_short, all_covered}

module _ (spec : NetworkSpec) (here : ChainSpec) (row : AssetRow) (context : List Junction) (bs : List Balance) (is_context : context ≡ context_of (document_table spec here)) (is_bs : bs ≡ here.accounts) where
  abbrev pub named : List Junction → UniversalAsset
  named c = (path_of c row.id, row.kind)

  abbrev pub asset : UniversalAsset
  asset = asset_of_row (document_table spec here) row

  -- the chain is a home, and a balance is shared there
  pub shared_there : (at : ChainSpec) (home : Bool) → home ≡ is_home (named context) (document_table spec at) → home ≡ true
      → some_balance (is_shared context (named context) (entry_of spec at)) bs ≡ shares_instance asset (entry_of spec here) (entry_of spec at)
  shared_there at home says so =
      let is_true : true ≡ is_home asset (document_table spec at) = sym so ∙ says ∙ ap (λ c. is_home (named c) (document_table spec at)) is_context in
      let test : Option Instance → Bool = λ instance. is_class_instance instance && nat_lt 0 (amount_at asset (just instance) (entry_of spec at)) in
      (λ i. some_balance (is_shared (is_context i) (named (is_context i)) (entry_of spec at)) (is_bs i))
      ∙ some_held (is_shared (context_of (document_table spec here)) asset (entry_of spec at)) here.accounts
      ∙ ap (λ b. b && any_instance asset (entry_of spec here) test) is_true

  -- the account has enough in all, and a balance's unit may be missing
  pub uncovered_there : (reserve : ChainSpec) (kept owed : ℕ) (below : Bool) → kept ≡ amount_for here.chain (named context) every (entry_of spec reserve) → owed ≡ amount_at (named context) every (entry_of spec here)
      → below ≡ nat_lt kept owed → below ≡ false
      → some_balance (is_uncovered context (named context) here.chain (entry_of spec reserve)) bs ≡ is_short asset (entry_of spec here) (Some (entry_of spec reserve))
  uncovered_there reserve kept owed below is_kept is_owed says not_so =
      let is_false : false ≡ nat_lt (amount_for here.chain asset every (entry_of spec reserve)) (amount_at asset every (entry_of spec here)) =
      sym not_so ∙ says ∙ (λ i. nat_lt (is_kept i) (is_owed i)) ∙ ap (λ c. nat_lt (amount_for here.chain (named c) every (entry_of spec reserve)) (amount_at (named c) every (entry_of spec here))) is_context in
      let test : Option Instance → Bool = λ instance. nat_eq (amount_for here.chain asset (just instance) (entry_of spec reserve)) 0 in
      (λ i. some_balance (is_uncovered (is_context i) (named (is_context i)) here.chain (entry_of spec reserve)) (is_bs i))
      ∙ some_held (is_uncovered (context_of (document_table spec here)) asset here.chain (entry_of spec reserve)) here.accounts
      ∙ ap (λ b. b || any_instance asset (entry_of spec here) test) is_false

  -- what is held of the asset as it is named here
  owed_here : (owed : ℕ) → owed ≡ amount_at (named context) every (entry_of spec here) → owed ≡ amount_at asset every (entry_of spec here)
  owed_here owed is_owed = is_owed ∙ ap (λ c. amount_at (named c) every (entry_of spec here)) is_context

  kept_there : (reserve : ChainSpec) (kept : ℕ) → kept ≡ amount_for here.chain (named context) every (entry_of spec reserve) → kept ≡ amount_for here.chain asset every (entry_of spec reserve)
  kept_there reserve kept is_kept = is_kept ∙ ap (λ c. amount_for here.chain (named c) every (entry_of spec reserve)) is_context

  -- nothing is owed
  pub nothing_owed : (reserve : ChainSpec) (owed : ℕ) → owed ≡ amount_at (named context) every (entry_of spec here) → owed ≡ 0 → false ≡ is_short asset (entry_of spec here) (Some (entry_of spec reserve))
  nothing_owed reserve owed is_owed none = sym (nothing_short asset (entry_of spec here) (entry_of spec reserve) (sym (owed_here owed is_owed) ∙ none))

  -- something is owed of what has amounts, and the account has as much
  pub amount_covered : (reserve : ChainSpec) (kept owed : ℕ) (below : Bool) → kept ≡ amount_for here.chain (named context) every (entry_of spec reserve) → owed ≡ amount_at (named context) every (entry_of spec here)
      → (owed ≡ 0 → ⊥) → below ≡ nat_lt kept owed → below ≡ false → same_kind row.kind Fungible ≡ true → false ≡ is_short asset (entry_of spec here) (Some (entry_of spec reserve))
  amount_covered reserve kept owed below is_kept is_owed some says not_so told =
      let coins : row.kind ≡ Fungible = fungible_told row.kind told in
      let path : List Junction = path_of_row (document_table spec here) row in
      let there = kept_there reserve kept is_kept ∙ ap (λ k. amount_for here.chain (path, k) every (entry_of spec reserve)) coins in
      let here_is = owed_here owed is_owed ∙ ap (λ k. amount_at (path, k) every (entry_of spec here)) coins in
      let enough : nat_lt kept owed ≡ false = sym says ∙ not_so in
      let within = ltb-false kept owed enough in
      sym (ap (λ k. is_short (path, k) (entry_of spec here) (Some (entry_of spec reserve))) coins
      ∙ all_covered path (entry_of spec here) (entry_of spec reserve)
      (λ none. some (let kept_none : kept ≡ 0 = there ∙ none in omega (arith, kept_none, within)))
      (sym (λ i. nat_lt (there i) (here_is i)) ∙ enough))
