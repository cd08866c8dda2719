-- What is found over a list of chains that is seen as another list.
use Rattle.std.specs.Prelude.{◌≡◌, Bool, true, false, ◌||◌, List, [], ◌∷◌, map, find, Option, None, Some, option_map, refl}
use Rattle.std.specs.List.{list_any}
use Rattle.std.proofs.Common.{sym, ap, ◌∙◌, cond}
use Rattle.chain_ids.specs.declared.chain.ChainId.{ChainId}
use Rattle.chain_ids.specs.Chains.{same_chain}
use Rattle.law_coherence.specs.UniversalAssets.{UniversalAsset}
use Rattle.law_coherence.specs.Networks.{Table}
use Rattle.law_coherence.specs.Causes.{ChainEntry, chain_of_entry, entry_tables, is_short, entry_at}
use Rattle.network_spec.specs.declared.chain.ChainSpec.{ChainSpec}
use Rattle.network_spec.specs.declared.network.NetworkSpec.{NetworkSpec}
use Rattle.network_steps.specs.Genesis.{entry_of, entries_of}
use Rattle.network_coherence.specs.Answers.{document_table, entries_in}
use Rattle.plain_lists.proofs.Lemmas.Facts.{find_mapped as find-map}

-- some table passes where some chain's table does
pub any_table : (spec : NetworkSpec) (p : Table → Bool) (cs : List ChainSpec) → list_any p (entry_tables (entries_in spec cs)) ≡ list_any (λ c. p (document_table spec c)) cs
any_table spec p [] = refl
any_table spec p (c ∷ cs) = ap (λ b. p (document_table spec c) || b) (any_table spec p cs)

-- the reserve of this name, if it is there
module _ (spec : NetworkSpec) (a : UniversalAsset) (e : ChainEntry) (chain : ChainId) where
  found_entry : (found : Option ChainSpec) → found ≡ find (λ (c : ChainSpec). same_chain c.chain chain) spec.chains → option_map (entry_of spec) found ≡ entry_at (entries_of spec) chain
  found_entry found is = ap (option_map (entry_of spec)) is ∙ sym (find-map (entry_of spec) (λ (d : ChainEntry). same_chain (chain_of_entry d) chain) spec.chains)

  pub not_there : None ≡ find (λ (c : ChainSpec). same_chain c.chain chain) spec.chains → false ≡ is_short a e (entry_at (entries_of spec) chain)
  not_there is = ap (is_short a e) (found_entry None is)

  pub there : (c : ChainSpec) → Some c ≡ find (λ (d : ChainSpec). same_chain d.chain chain) spec.chains → is_short a e (Some (entry_of spec c)) ≡ is_short a e (entry_at (entries_of spec) chain)
  there c is = ap (is_short a e) (found_entry (Some c) is)
