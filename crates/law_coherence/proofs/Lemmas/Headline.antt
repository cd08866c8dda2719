-- Lemmas on the definitions of `specs/Headline.antt`: what proofs cite.
use Rattle.std.specs.Prelude.{◌≡◌, ℕ, ◌<◌, ◌^◌, List, Some, None, slice_get}
use Rattle.std.proofs.Common.{sym, subst, arith}
use Rattle.chain_ids.specs.declared.chain.ChainId.{ChainId}
use Rattle.law_coherence.specs.UniversalAssets.{UniversalAsset, just}
use Rattle.law_coherence.specs.Networks.{asset_of_row, IsNetwork, Agrees}
use Rattle.law_coherence.specs.Causes.{ChainEntry, first_cause}
use Rattle.law_coherence.specs.Causes as causes
use Rattle.law_coherence.specs.Parts.{WorldView, supply}
use Rattle.law_coherence.proofs.Lemmas.Checking.{first_within}
use Rattle.law_coherence.proofs.Lemmas.CheckingLaws.{all_bounded}
use Rattle.law_coherence.specs.Steps.{tables_of}
use Rattle.law_coherence.proofs.Lemmas.Bounds.{instances_at_most}
use Rattle.law_coherence.specs.Genesis.{HasInstancesOnce, HasLowAccounts, first_world_view}
use Rattle.law_coherence.proofs.Lemmas.Genesis.{sound_first, first_low}
use Rattle.law_coherence.specs.Histories.{History}
use Rattle.law_coherence.proofs.Lemmas.Histories.{safe_history, never_passes}
use Rattle.law_coherence.specs.Headline.{IsKept}

pub headline : (links : ChainEntry → List ChainId) (n : List ChainEntry) → IsNetwork (causes.entry_tables n) → ((k : ℕ) (e : ChainEntry) → slice_get n k ≡ Some e → HasInstancesOnce e)
    → ((a : UniversalAsset) → supply a (first_world_view links n) < 2 ^ 127) → ((k : ℕ) (e : ChainEntry) → slice_get n k ≡ Some e → HasLowAccounts e) → first_cause n ≡ None → (w : WorldView) → History (first_world_view links n) w → IsKept (first_world_view links n) w
headline links n network once small low none w history =
    let first = sound_first links n network once none in
    let safe = safe_history (first_world_view links n) w first.agrees history in
    let agrees : Agrees (tables_of w) = subst Agrees (sym safe.tables) first.agrees in
    let within = safe.within (first_world_view links n) (first_within (first_world_view links n)) in
    record {
      agrees = agrees;
      conserved = safe.supplied;
      below = λ a. let same = safe.supplied a in let few = small a in omega (arith, same, few);
      backed = safe.backed first.backed;
      cover = safe.cover;
      small = never_passes (first_world_view links n) w first.agrees first.backed small history;
      once = λ k p row instance at inside.
          let le = instances_at_most w agrees (safe.backed first.backed) k p row instance at inside in
          let less = safe.rare (asset_of_row p.table row) (just (Some instance)) in
          let few = first.once (asset_of_row p.table row) instance in
          omega (arith, le, less, few);
      rare = safe.rare;
      single = λ a instance. let less = safe.rare a (just (Some instance)) in let few = first.once a instance in omega (arith, less, few);
      checked = safe.checked first.checked;
      within = within;
      bounded = all_bounded (first_world_view links n) w first.agrees safe.tables small (first_low links n low) within;
    }
