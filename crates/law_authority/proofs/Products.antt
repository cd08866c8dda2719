-- No step lowers the product of a pool's reserves: nobody speaks for a pool's account.
use Rattle.std.proofs.Common.{◌≡◌, ℕ, ◌≤◌, Bool, true, false, true≢false, List, get_or, Option, Some, None, inl, inr, refl, sym, ap, ◌∙◌, arith}
use Rattle.std.specs.Prelude.{if◌then◌else◌, slice_get}
use Rattle.std.specs.Option.{option_map_or}
use Rattle.std.proofs.lemmas.Bool.{cases_Bool, cases_eq}
use Rattle.std.proofs.lemmas.Option.{slice_get_within}
use Rattle.chain_ids.specs.declared.chain.ChainId.{ChainId}
use Rattle.chain_ids.specs.declared.chain.ChainId.TheVariants.{Relay, Para}
use Rattle.trust_tables.specs.Accounts.{sovereign_account}
use Rattle.asset_pools.specs.declared.pool.Pool.{Pool}
use Rattle.asset_pools.specs.Exchanges.{pool_account, is_pool_account, reserve_product}
use Rattle.asset_pools.proofs.Lemmas.Keeping.{pool_found}
use Rattle.versioned_xcm.specs.Reading.{message_of}
use Rattle.network_steps.specs.declared.step_result.StepResult.{StepResult}
use Rattle.network_steps.specs.Worlds.{Member, World, place_of, unchanged}
use Rattle.network_steps.specs.Steps.{is_sovereign, exec_read, exec_by, exec_at, exec, deliver, claim, Exec, Deliver, Claim}
use Rattle.law_steps.specs.Shapes.{AllShaped}
use Rattle.network_steps.proofs.Lemmas.StepLaws.{same_one}
use Rattle.law_authority.specs.Origins.{SpendsOf}
use Rattle.law_authority.specs.Speakers.{SpeaksFor, HasAuthority}
use Rattle.law_authority.specs.Products.{NoProductFalls, HaveFewPools}
use Rattle.law_authority.proofs.Steps.{exec_authority, claim_authority}
use Rattle.law_authority.proofs.Sovereigns.{Named, deliver_speaks}
use Rattle.plain_lists.proofs.Lemmas.Facts.{same_some_number as some_is}

-- ---- no chain's account is a pool's
pub not_of_chain : (n : ℕ) (here there : ChainId) → pool_account n ≡ sovereign_account here there → ⊥
not_of_chain n Relay Relay e = let no : 112 ≡ 80 = ap (λ (xs : List ℕ). get_or xs 0 0) e in absurd (omega (arith, no))
not_of_chain n Relay (Para number) e = let no : 111 ≡ 97 = ap (λ (xs : List ℕ). get_or xs 1 0) e in absurd (omega (arith, no))
not_of_chain n (Para own) Relay e = let no : 112 ≡ 80 = ap (λ (xs : List ℕ). get_or xs 0 0) e in absurd (omega (arith, no))
not_of_chain n (Para own) (Para number) e = let no : 112 ≡ 115 = ap (λ (xs : List ℕ). get_or xs 0 0) e in absurd (omega (arith, no))

-- ---- nobody's execution is a pool's
pools_still : (w : World) (place : ℕ) (m : Member) (account bytes : List ℕ) (sovereign : Bool) → slice_get w place ≡ Some m → is_pool_account m.part.pools account ≡ true
    → (if sovereign then unchanged StepResult.SovereignCaller w else option_map_or (λ (m : Member). exec_by w place m account (message_of bytes)) (slice_get w place) (unchanged StepResult.NoSuchChain w)).world ≡ w
pools_still w place m account bytes true is pool = refl
pools_still w place m account bytes false is pool =
    ap (λ (o : Option Member). (option_map_or (λ (m : Member). exec_by w place m account (message_of bytes)) o (unchanged StepResult.NoSuchChain w)).world) is
    ∙ ap (λ (b : Bool). (if b then unchanged StepResult.SovereignCaller w else exec_read w place m account (message_of bytes)).world) pool

exec_still : (w : World) (chain : ChainId) (account bytes : List ℕ) (place : ℕ) (m : Member) → place_of w chain ≡ Some place → slice_get w place ≡ Some m → is_pool_account m.part.pools account ≡ true → (exec w chain account bytes).world ≡ w
unfolding exec
exec_still w chain account bytes place m at is pool = ap (λ (o : Option ℕ). (exec_at w o account bytes).world) at ∙ pools_still w place m account bytes (is_sovereign account) is pool

same_product : (n : ℕ) (pool : Pool) (before now : Member) → now ≡ before → reserve_product before.part.held n pool ≤ reserve_product now.part.held n pool
same_product n pool before now same = let e = ap (λ (m : Member). reserve_product m.part.held n pool) same in omega (arith, e)

module _ (w : World) (few : HaveFewPools w) (place : ℕ) (before : Member) (at : slice_get w place ≡ Some before) (n : ℕ) (pool : Pool) (is : slice_get before.part.pools n ≡ Some pool) where
  found : is_pool_account before.part.pools (pool_account n) ≡ true
  found = pool_found before.part.pools n (slice_get_within before.part.pools n pool is)

  -- where the step speaks for the pool's account at no chain, its product stays
  by_authority : (may : List ℕ → Type 0) (now : Member) → SpendsOf may before.part now.part → (may (pool_account n) → ⊥) → reserve_product before.part.held n pool ≤ reserve_product now.part.held n pool
  by_authority may now spent other = spent.spends.products (few place before at) n pool is other

  module _ (chain : ChainId) (account bytes : List ℕ) (now : Member) (there : slice_get (exec w chain account bytes).world place ≡ Some now) where
    abbrev may : List ℕ → Type 0
    may = SpeaksFor w (Exec chain account bytes) place before

    spoken : (may (pool_account n) → ⊥) → reserve_product before.part.held n pool ≤ reserve_product now.part.held n pool
    spoken other = by_authority may now (exec_authority w chain account bytes place before now at there) other

    unmoved : place_of w chain ≡ Some place → is_pool_account before.part.pools account ≡ true → reserve_product before.part.held n pool ≤ reserve_product now.part.held n pool
    unmoved found_at own =
        let still : (exec w chain account bytes).world ≡ w = exec_still w chain account bytes place before found_at at own in
        same_product n pool before now (same_one (slice_get w place) now before (ap (λ (v : World). slice_get v place) (sym still) ∙ there) at)

    elsewhere : (o : Option ℕ) → place_of w chain ≡ o → is_pool_account before.part.pools account ≡ true → reserve_product before.part.held n pool ≤ reserve_product now.part.held n pool
    elsewhere None none own = spoken (λ speaks. let no : None ≡ Some place = sym none ∙ speaks.0 in cc)
    elsewhere (Some i) some own = elim (cases_eq i place) [
      | inl same ↦ unmoved (some ∙ ap Some same) own
      | inr other ↦ spoken (λ speaks. other (some_is i place (sym some ∙ speaks.0)))
    ]

    exec_product : reserve_product before.part.held n pool ≤ reserve_product now.part.held n pool
    exec_product = elim (cases_Bool (is_pool_account before.part.pools account)) [
      | inl own ↦ elsewhere (place_of w chain) refl own
      | inr other ↦ spoken (λ speaks. true≢false (sym found ∙ ap (is_pool_account before.part.pools) speaks.1 ∙ other))
    ]

pub exec_products : (w : World) (chain : ChainId) (account bytes : List ℕ) → HaveFewPools w → NoProductFalls w (exec w chain account bytes).world
exec_products w chain account bytes few = λ place before now at there n pool is. exec_product w few place before at n pool is chain account bytes now there

pub claim_products : (w : World) (from to : ChainId) (bytes : List ℕ) → HaveFewPools w → NoProductFalls w (claim w from to bytes).world
claim_products w from to bytes few = λ place before now at there n pool is.
    by_authority w few place before at n pool is (SpeaksFor w (Claim from to bytes) place before) now (claim_authority w from to bytes place before now at there) (λ speaks. absurd speaks)

pub deliver_products : Named → ((w : World) (from to : ChainId) → AllShaped w → HasAuthority w (Deliver from to) (deliver w from to).world) → (w : World) (from to : ChainId) → AllShaped w → HaveFewPools w → NoProductFalls w (deliver w from to).world
deliver_products named authority w from to all few = λ place before now at there n pool is.
    by_authority w few place before at n pool is (SpeaksFor w (Deliver from to) place before) now (authority w from to all place before now at there)
    (λ speaks. not_of_chain n to from (deliver_speaks named w from to place before (pool_account n) at speaks))
