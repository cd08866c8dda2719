-- No pool's product falls over any steps: their settings stay, so each pool stays where it is.
use Rattle.std.proofs.Common.{◌≡◌, ℕ, zero, suc, ◌≤◌, ◌^◌, List, [], ◌∷◌, length, Some, refl, sym, ap, ◌∙◌, subst, arith}
use Rattle.std.specs.Prelude.{⊤, slice_get, map}
use Rattle.std.specs.List.{AllByRecursion}
use Rattle.chain_ids.specs.declared.chain.ChainId.{ChainId}
use Rattle.asset_pools.specs.Exchanges.{reserve_product}
use Rattle.exec_base.specs.declared.settings.Settings.{Settings}
use Rattle.exec_rules.specs.declared.rules.ChainRules.{ChainRules}
use Rattle.network_steps.specs.Worlds.{Member, World}
use Rattle.network_steps.specs.Fixed.{Fixed, fixed_of, all_settings}
use Rattle.network_steps.specs.Steps.{exec, deliver, claim, Link, Step, worlds}
use Rattle.law_steps.specs.Shapes.{AllShaped}
use Rattle.network_steps.proofs.Lemmas.StepLaws.{same_one}
use Rattle.law_authority.specs.Products.{NoProductFalls, HaveFewPools}
use Rattle.law_authority.proofs.Passing.{PassesOn, worlds_pass}
use Rattle.law_authority.proofs.Products.{exec_products, claim_products}

-- ---- members whose settings stay
abbrev says : Member → ChainRules × Fixed
says m = (m.rules, fixed_of m.part)

first_same : (x y : Member) (xs ys : World) → says y ∷ map says ys ≡ says x ∷ map says xs → x.part.settings ≡ y.part.settings
first_same x y xs ys e = let same : says y ≡ says x = cc in sym (ap (λ (s : ChainRules × Fixed). s.1.settings) same)

rest_same : (x y : Member) (xs ys : World) → says y ∷ map says ys ≡ says x ∷ map says xs → map says ys ≡ map says xs
rest_same x y xs ys e = cc

some_member : (y now : Member) → Some y ≡ Some now → y ≡ now
some_member y now e = cc

-- the member before, which has the settings that it has now
pub member_before : (old new : World) → all_settings new ≡ all_settings old → (place : ℕ) (now : Member) → slice_get new place ≡ Some now
    → (before : Member) × (slice_get old place ≡ Some before) × (before.part.settings ≡ now.part.settings)
member_before old [] e place now at = absurd cc
member_before [] (y ∷ ys) e place now at = absurd cc
member_before (x ∷ xs) (y ∷ ys) e zero now at = (x, refl, first_same x y xs ys e ∙ ap (λ (m : Member). m.part.settings) (some_member y now at))
member_before (x ∷ xs) (y ∷ ys) e (suc place) now at = member_before xs ys (rest_same x y xs ys e) place now at

-- ---- what comes one after another
abbrev Keeps : World → World → Type 0
Keeps old new = (all_settings new ≡ all_settings old) × NoProductFalls old new

same_keeps : (w : World) → Keeps w w
same_keeps w = (
  refl,
  λ place before now at there n pool is.
      let same = ap (λ (m : Member). reserve_product m.part.held n pool) (same_one (slice_get w place) now before there at) in
      omega (arith, same),
)

few_stays : (old new : World) → all_settings new ≡ all_settings old → HaveFewPools old → HaveFewPools new
few_stays old new e few place now at =
    let before = member_before old new e place now at in
    subst (λ (s : Settings). length s.pools ≤ 2 ^ 32) before.2 (few place before.0 before.1)

then_keeps : (a b c : World) → Keeps a b → Keeps b c → Keeps a c
then_keeps a b c first second = (
  second.0 ∙ first.0,
  λ place before now at there n pool is.
      let mid = member_before b c second.0 place now there in
      let start = member_before a b first.0 place mid.0 mid.1 in
      let same : before.part.settings ≡ mid.0.part.settings = ap (λ (m : Member). m.part.settings) (same_one (slice_get a place) before start.0 at start.1) ∙ start.2 in
      let one = first.1 place before mid.0 at mid.1 n pool is in
      let two = second.1 place mid.0 now mid.1 there n pool (subst (λ (s : Settings). slice_get s.pools n ≡ Some pool) same is) in
      omega (arith, one, two),
)

-- ---- all steps
abbrev Ready : World → Type 0
Ready w = AllShaped w × HaveFewPools w

abbrev AnyAccount : ChainId → List ℕ → Type 0
AnyAccount chain account = ⊤

module _ (exec_says : (w : World) (chain : ChainId) (account bytes : List ℕ) → all_settings (exec w chain account bytes).world ≡ all_settings w)
    (deliver_says : (w : World) (from to : ChainId) → all_settings (deliver w from to).world ≡ all_settings w)
    (claim_says : (w : World) (from to : ChainId) (bytes : List ℕ) → all_settings (claim w from to bytes).world ≡ all_settings w)
    (deliver_falls : (w : World) (from to : ChainId) → AllShaped w → HaveFewPools w → NoProductFalls w (deliver w from to).world)
    (exec_shaped : (w : World) (chain : ChainId) (account bytes : List ℕ) → AllShaped w → AllShaped (exec w chain account bytes).world)
    (deliver_shaped : (w : World) (from to : ChainId) → AllShaped w → AllShaped (deliver w from to).world)
    (claim_shaped : (w : World) (from to : ChainId) (bytes : List ℕ) → AllShaped w → AllShaped (claim w from to bytes).world) where
  products_pass : PassesOn Keeps Ready AnyAccount
  products_pass = record {
    same = same_keeps;
    later = then_keeps;
    executes = λ w chain account bytes any r.
        let settings = exec_says w chain account bytes in
        ((settings, exec_products w chain account bytes r.1), (exec_shaped w chain account bytes r.0, few_stays w (exec w chain account bytes).world settings r.1));
    delivers = λ w from to r.
        let settings = deliver_says w from to in
        ((settings, deliver_falls w from to r.0 r.1), (deliver_shaped w from to r.0, few_stays w (deliver w from to).world settings r.1));
    claims = λ w from to bytes r.
        let settings = claim_says w from to bytes in
        ((settings, claim_products w from to bytes r.1), (claim_shaped w from to bytes r.0, few_stays w (claim w from to bytes).world settings r.1));
  }

  products_only : (start : World) (ws : List World) → AllByRecursion (Keeps start) ws → AllByRecursion (NoProductFalls start) ws
  products_only start [] all = tt
  products_only start (w ∷ ws) all = (all.0.1, products_only start ws all.1)

  pub worlds_products : (order : List Link) (start : World) (steps : List Step) → AllShaped start → HaveFewPools start → AllByRecursion (NoProductFalls start) (worlds order start steps)
  worlds_products order start steps shaped few =
      products_only start (worlds order start steps) (worlds_pass Keeps Ready AnyAccount products_pass order start steps (λ n chain account bytes at. tt) (shaped, few))
