-- The accounts of whole chains.
use Rattle.std.proofs.Common.{◌≡◌, ℕ, ◌≤◌, Bool, true, false, true≢false, ⊎_elim, List, Option, Some, None, inl, inr, refl, sym, ap, ◌∙◌, subst, arith, ltb-true, ltb-false}
use Rattle.std.specs.Prelude.{if◌then◌else◌, nat_lt, slice_get}
use Rattle.std.specs.Option.{option_map_or}
use Rattle.std.proofs.lemmas.Bool.{cases_Bool}
use Rattle.amounts.specs.Amounts.{amount}
use Rattle.chain_ids.specs.declared.chain.ChainId.{ChainId}
use Rattle.locations.specs.declared.relative.Location.{Location}
use Rattle.asset_lists.specs.Units.{Unit}
use Rattle.trust_tables.specs.declared.chains.Site.{Site}
use Rattle.trust_tables.specs.Chains.{location_of}
use Rattle.trust_tables.specs.Accounts.{account_of, sovereign_account}
use Rattle.asset_pools.specs.Exchanges.{pool_account}
use Rattle.asset_pools.specs.Spending.{IsPoolAccount}
use Rattle.versioned_xcm.specs.Reading.{message_of}
use Rattle.network_steps.specs.declared.step_result.StepResult.{StepResult}
use Rattle.network_steps.specs.Worlds.{Member, chain_of, World, place_of, unchanged}
use Rattle.network_steps.specs.Steps.{is_sovereign, exec_by, exec_at, exec, nowhere, name_at, Exec, Deliver}
use Rattle.network_steps.proofs.Lemmas.StepLaws.{same_one, place_says}
use Rattle.law_authority.specs.Speakers.{SpeaksFor}
use Rattle.law_authority.proofs.Steps.{exec_authority}

-- ---- no caller has one
refused_still : (w : World) (o : Option ℕ) (account bytes : List ℕ) → is_sovereign account ≡ true → (exec_at w o account bytes).world ≡ w
refused_still w None account bytes e = refl
refused_still w (Some place) account bytes e =
    ap (λ (b : Bool). (if b then unchanged StepResult.SovereignCaller w else option_map_or (λ (m : Member). exec_by w place m account (message_of bytes)) (slice_get w place) (unchanged StepResult.NoSuchChain w)).world) e

exec_still : (w : World) (chain : ChainId) (account bytes : List ℕ) → is_sovereign account ≡ true → (exec w chain account bytes).world ≡ w
unfolding exec
exec_still w chain account bytes e = refused_still w (place_of w chain) account bytes e

-- no pool's account is a whole chain's
pool_plain : (place : ℕ) → is_sovereign (pool_account place) ≡ false
pool_plain place = refl

no_pool : (place : ℕ) → is_sovereign (pool_account place) ≡ true → ⊥
no_pool place h = true≢false (sym h ∙ pool_plain place)

pub exec_spares : (w : World) (chain : ChainId) (account bytes : List ℕ) (place : ℕ) (before now : Member) (who : List ℕ) (unit : Unit) → is_sovereign who ≡ true → slice_get w place ≡ Some before
    → slice_get (exec w chain account bytes).world place ≡ Some now → amount before.part.held (who, unit) ≤ amount now.part.held (who, unit)
exec_spares w chain account bytes place before now who unit whole at there =
    elim (cases_Bool (nat_lt (amount now.part.held (who, unit)) (amount before.part.held (who, unit)))) [
      | inl lower ↦ absurd (let less = ltb-true _ _ lower in
          ⊎_elim
          (λ (speaks : SpeaksFor w (Exec chain account bytes) place before who).
          let same : (exec w chain account bytes).world ≡ w = exec_still w chain account bytes (subst (λ (a : List ℕ). is_sovereign a ≡ true) speaks.1 whole) in
          let alike : now ≡ before = same_one (slice_get w place) now before (sym (ap (λ (v : World). slice_get v place) same) ∙ there) at in
          let e = ap (λ (m : Member). amount m.part.held (who, unit)) alike in
          omega (arith, less, e))
          (λ (pool : IsPoolAccount before.part.pools who). no_pool pool.0 (subst (λ (a : List ℕ). is_sovereign a ≡ true) pool.2 whole))
          ((exec_authority w chain account bytes place before now at there).spends.lowers who unit less))
      | inr higher ↦ let most = ltb-false _ _ higher in omega (arith, most)
    ]

-- ---- a delivery speaks for the sending chain's
abbrev pub Named : Type 0
Named = (site : Site) (chain : ChainId) (l : Location) → location_of site.chain chain ≡ Some l → account_of l site ≡ Some (sovereign_account site.chain chain)

same_account : (a b : List ℕ) → Some a ≡ Some b → b ≡ a
same_account a b e = cc

named_account : Named → (site : Site) (from : ChainId) (who : List ℕ) (o : Option Location) → location_of site.chain from ≡ o → account_of (option_map_or (λ (l : Location). l) o nowhere) site ≡ Some who → who ≡ sovereign_account site.chain from
named_account named site from who None e h = absurd cc
named_account named site from who (Some l) e h = same_account (sovereign_account site.chain from) who (sym (named site from l e) ∙ h)

pub deliver_speaks : Named → (w : World) (from to : ChainId) (place : ℕ) (member : Member) (who : List ℕ) → slice_get w place ≡ Some member → SpeaksFor w (Deliver from to) place member who → who ≡ sovereign_account to from
deliver_speaks named w from to place member who at speaks =
    let here : chain_of member ≡ to = place_says w to place member speaks.0 at in
    subst (λ (c : ChainId). who ≡ sovereign_account c from) here
    (named_account named member.part.site from who (location_of member.part.site.chain from) refl (subst (λ (c : ChainId). account_of (name_at c from) member.part.site ≡ Some who) (sym here) speaks.1))
