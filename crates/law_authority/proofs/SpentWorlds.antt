-- Who may have less over many steps: those for whom messages are executed, other chains, and pools; and no burn is undone.
use Rattle.std.proofs.Common.{◌≡◌, ◌⊎◌, ⊎_elim, inl, inr, ℕ, List, [], ◌∷◌, Some, refl, sym, ap, ◌∙◌, subst, arith, ltb-true, ltb-false}
use Rattle.std.specs.Prelude.{⊤, nat_lt, slice_get}
use Rattle.std.specs.List.{AllByRecursion, AllPairs}
use Rattle.std.proofs.lemmas.Bool.{cases_Bool}
use Rattle.amounts.specs.Amounts.{amount}
use Rattle.chain_ids.specs.declared.chain.ChainId.{ChainId}
use Rattle.trust_tables.specs.Accounts.{sovereign_account}
use Rattle.asset_pools.specs.Spending.{IsPoolAccount}
use Rattle.exec_base.specs.declared.settings.Settings.{Settings}
use Rattle.network_steps.specs.Worlds.{Member, chain_of, World}
use Rattle.network_steps.specs.Fixed.{all_settings}
use Rattle.network_steps.specs.Steps.{exec, deliver, claim, Link, Step, Exec, Deliver, Claim, worlds}
use Rattle.law_steps.specs.Shapes.{AllShaped}
use Rattle.network_steps.proofs.Lemmas.StepLaws.{same_one, place_says}
use Rattle.law_authority.specs.Origins.{SpendsOf}
use Rattle.law_authority.specs.Speakers.{SpeaksFor, HasAuthority}
use Rattle.law_authority.specs.Burns.{NoBurnFalls}
use Rattle.law_authority.specs.Alone.{IsLeftAlone, NoneAloneLoses}
use Rattle.law_authority.proofs.Lemmas.SpendingLaws.{then_spends, spends_more, OnlySpends, none_spent}
use Rattle.law_authority.proofs.Steps.{exec_authority, claim_authority}
use Rattle.law_authority.proofs.Sovereigns.{Named, deliver_speaks}
use Rattle.law_authority.proofs.ProductWorlds.{member_before}
use Rattle.law_authority.proofs.Passing.{PassesOn, worlds_pass, pairs_pass}

-- ---- one world after another
module _ (May : ChainId → List ℕ → Type 0) where
  abbrev pub AtChain : ℕ → Member → List ℕ → Type 0
  AtChain place m who = May (chain_of m) who

  abbrev pub Spent : World → World → Type 0
  Spent old new = (all_settings new ≡ all_settings old) × OnlySpends old new AtChain

  same_spent : (w : World) → Spent w w
  same_spent w = (refl, none_spent w AtChain)

  then_spent : (a b c : World) → Spent a b → Spent b c → Spent a c
  then_spent a b c first second = (
    second.0 ∙ first.0,
    λ place before now at there.
        let mid = member_before b c second.0 place now there in
        let start = member_before a b first.0 place mid.0 mid.1 in
        let same : before.part.settings ≡ mid.0.part.settings = ap (λ (m : Member). m.part.settings) (same_one (slice_get a place) before start.0 at start.1) ∙ start.2 in
        then_spends (May (chain_of before)) before.part mid.0.part now.part (first.1 place before mid.0 at mid.1)
        (subst (λ (s : Settings). SpendsOf (May s.site.chain) mid.0.part now.part) (sym same) (second.1 place mid.0 now mid.1 there)),
  )

  exec_spent : (w : World) (chain : ChainId) (account bytes : List ℕ) → May chain account → OnlySpends w (exec w chain account bytes).world AtChain
  exec_spent w chain account bytes may = λ place before now at there.
      spends_more (SpeaksFor w (Exec chain account bytes) place before) (May (chain_of before)) before.part now.part
      (λ who speaks. subst (λ (a : List ℕ). May (chain_of before) a) (sym speaks.1) (subst (λ (c : ChainId). May c account) (sym (place_says w chain place before speaks.0 at)) may))
      (exec_authority w chain account bytes place before now at there)

  claim_spent : (w : World) (from to : ChainId) (bytes : List ℕ) → OnlySpends w (claim w from to bytes).world AtChain
  claim_spent w from to bytes = λ place before now at there.
      spends_more (SpeaksFor w (Claim from to bytes) place before) (May (chain_of before)) before.part now.part (λ who speaks. absurd speaks) (claim_authority w from to bytes place before now at there)

  module _ (named : Named) (chains : (here there : ChainId) → May here (sovereign_account here there)) (authority : (w : World) (from to : ChainId) → AllShaped w → HasAuthority w (Deliver from to) (deliver w from to).world) where
    deliver_spent : (w : World) (from to : ChainId) → AllShaped w → OnlySpends w (deliver w from to).world AtChain
    deliver_spent w from to shaped = λ place before now at there.
        spends_more (SpeaksFor w (Deliver from to) place before) (May (chain_of before)) before.part now.part
        (λ who speaks.
        let here : chain_of before ≡ to = place_says w to place before speaks.0 at in
        let is : who ≡ sovereign_account (chain_of before) from = deliver_speaks named w from to place before who at speaks ∙ ap (λ (c : ChainId). sovereign_account c from) (sym here) in
        subst (λ (a : List ℕ). May (chain_of before) a) (sym is) (chains (chain_of before) from))
        (authority w from to shaped place before now at there)

    pub spent_pass : ((w : World) (chain : ChainId) (account bytes : List ℕ) → all_settings (exec w chain account bytes).world ≡ all_settings w)
        → ((w : World) (from to : ChainId) → all_settings (deliver w from to).world ≡ all_settings w)
        → ((w : World) (from to : ChainId) (bytes : List ℕ) → all_settings (claim w from to bytes).world ≡ all_settings w)
        → ((w : World) (chain : ChainId) (account bytes : List ℕ) → AllShaped w → AllShaped (exec w chain account bytes).world)
        → ((w : World) (from to : ChainId) → AllShaped w → AllShaped (deliver w from to).world)
        → ((w : World) (from to : ChainId) (bytes : List ℕ) → AllShaped w → AllShaped (claim w from to bytes).world)
        → PassesOn Spent AllShaped May
    spent_pass exec_says deliver_says claim_says exec_shaped deliver_shaped claim_shaped = record {
      same = same_spent;
      later = then_spent;
      executes = λ w chain account bytes may shaped. ((exec_says w chain account bytes, exec_spent w chain account bytes may), exec_shaped w chain account bytes shaped);
      delivers = λ w from to shaped. ((deliver_says w from to, deliver_spent w from to shaped), deliver_shaped w from to shaped);
      claims = λ w from to bytes shaped. ((claim_says w from to bytes, claim_spent w from to bytes), claim_shaped w from to bytes shaped);
    }

-- ---- burns
abbrev pub Anyone : ChainId → List ℕ → Type 0
Anyone chain account = ⊤

pub worlds_burns : PassesOn (Spent Anyone) AllShaped Anyone → (order : List Link) (w : World) (steps : List Step) → AllShaped w → AllPairs NoBurnFalls (worlds order w steps)
worlds_burns passes order w steps shaped =
    let pairs = pairs_pass (Spent Anyone) AllShaped Anyone passes order w steps (λ n chain account bytes at. tt) shaped in
    λ i j d less lt place before now at there burn. ((pairs i j d less lt).1 place before now at there).burns burn

-- ---- an account that is left alone
abbrev pub AskedFor : List Step → ChainId → List ℕ → Type 0
AskedFor steps chain account =
    ((n : ℕ) × (bytes : List ℕ) × (slice_get steps n ≡ Some (Exec chain account bytes)))
    ⊎ ((sender : ChainId) × (account ≡ sovereign_account chain sender))

pub of_chains : (steps : List Step) (here there : ChainId) → AskedFor steps here (sovereign_account here there)
of_chains steps here there = inr (there, refl)

not_alone : (steps : List Step) (m : Member) (account : List ℕ) → IsLeftAlone steps m account → AskedFor steps (chain_of m) account ⊎ IsPoolAccount m.part.pools account → ⊥
not_alone steps m account alone why =
    ⊎_elim
    (λ (asked : AskedFor steps (chain_of m) account). ⊎_elim
    (λ (step : (n : ℕ) × (bytes : List ℕ) × (slice_get steps n ≡ Some (Exec (chain_of m) account bytes))). alone.unnamed step.0 step.1 step.2)
    (λ (chain : (sender : ChainId) × (account ≡ sovereign_account (chain_of m) sender)). alone.no_chains chain.0 chain.1) asked)
    (λ (pool : IsPoolAccount m.part.pools account). alone.no_pools pool) why

alone_keeps : (steps : List Step) (old new : World) → Spent (AskedFor steps) old new → NoneAloneLoses steps old new
alone_keeps steps old new spent place before now at there account alone unit =
    elim (cases_Bool (nat_lt (amount now.part.held (account, unit)) (amount before.part.held (account, unit)))) [
      | inl lower ↦ absurd (not_alone steps before account alone ((spent.1 place before now at there).spends.lowers account unit (ltb-true _ _ lower)))
      | inr higher ↦ let most = ltb-false _ _ higher in omega (arith, most)
    ]

all_alone : (steps : List Step) (start : World) (ws : List World) → AllByRecursion (Spent (AskedFor steps) start) ws → AllByRecursion (NoneAloneLoses steps start) ws
all_alone steps start [] all = tt
all_alone steps start (w ∷ ws) all = (alone_keeps steps start w all.0, all_alone steps start ws all.1)

pub worlds_alone : (steps : List Step) → PassesOn (Spent (AskedFor steps)) AllShaped (AskedFor steps) → (order : List Link) (w : World) → AllShaped w → AllByRecursion (NoneAloneLoses steps w) (worlds order w steps)
worlds_alone steps passes order w shaped =
    all_alone steps w (worlds order w steps)
    (worlds_pass (Spent (AskedFor steps)) AllShaped (AskedFor steps) passes order w steps (λ n chain account bytes at. inl (n, bytes, at)) shaped)
