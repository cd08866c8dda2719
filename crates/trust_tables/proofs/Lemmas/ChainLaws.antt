-- For proofs alone: a reader may skip this file. The location of a chain names that chain alone, and has the account
-- that is the chain's. The laws of `laws.rt` say it.
use Rattle.std.specs.Prelude.{◌≡◌, ◌≢◌, ℕ, ◌<◌, ◌≤◌, ◌^◌, Bool, true, false, if◌then◌else◌, ◌==◌, List, [], ◌∷◌, length, get_or, Option, Some, None, is_none, refl}
use Rattle.std.proofs.Common.{sym, ap, ◌∙◌, subst, inl, inr, arith, eq-eqb, T, take, drop, rules}
use Rattle.std.specs.List.{All}
use Rattle.std.proofs.lemmas.Nat.{from_le_bytes-to_le_bytes_4}
use Rattle.std.specs.Int.{from_le_bytes, w32}
use Rattle.locations.specs.declared.grammar.NetworkId.{NetworkId}
use Rattle.locations.specs.declared.grammar.NetworkId.TheVariants.{Polkadot}
use Rattle.locations.specs.declared.grammar.Junction.{Junction}
use Rattle.locations.specs.declared.grammar.Junction.TheVariants.{Parachain, GlobalConsensus, OnlyChild}
use Rattle.locations.specs.declared.relative.Location.{Location}
use Rattle.locations.specs.Chains.{path_of, IsNear}
use Rattle.chain_ids.specs.declared.chain.ChainId.{ChainId}
use Rattle.chain_ids.specs.declared.chain.ChainId.TheVariants.{Relay, Para}
use Rattle.trust_tables.specs.declared.chains.Site.{Site}
use Rattle.trust_tables.specs.Chains.{below_relay, path_of_site, location_of}
use Rattle.trust_tables.specs.Accounts.{account_of, labelled, sibling_account, parent_account, child_at, sibling_at, parent_at, sovereign_account, IsSovereign, IsChain}
use Rattle.plain_lists.proofs.Lemmas.Facts.{same_some as some_same}

-- ---- locations
own_branch : (b : Bool) (l m : Location) → (if b then None else Some l) ≡ Some m → (b ≡ false) × (l ≡ m)
own_branch true l m e = absurd (subst (λ (o : Option Location). T (is_none o)) e tt)
own_branch false l m e = (refl, some_same l m e)

pub no_location_of_self : (chain : ChainId) → location_of chain chain ≡ None
no_location_of_self Relay = refl
no_location_of_self (Para number) = ap (λ b. if b then None else Some (record { parents = 1; interior = Parachain number ∷ [] })) (eq-eqb number number refl)

-- the location leads to the chain
pub path_of-location_of : (network : NetworkId) (from to : ChainId) (l : Location) → location_of from to ≡ Some l
    → path_of (path_of_site (record { network = network; chain = from })) l ≡ path_of_site (record { network = network; chain = to })
path_of-location_of network Relay Relay l is = absurd (subst (λ (o : Option Location). T (is_none o)) is tt)
path_of-location_of network Relay (Para number) l is = ap (path_of (GlobalConsensus network ∷ [])) (sym (some_same _ l is))
path_of-location_of network (Para own) Relay l is = ap (path_of (GlobalConsensus network ∷ Parachain own ∷ [])) (sym (some_same _ l is))
path_of-location_of network (Para own) (Para number) l is = ap (path_of (GlobalConsensus network ∷ Parachain own ∷ [])) (sym (own_branch (own == number) _ l is).1)

-- a chain lies at most one level up and one junction down from another
pub near_location : (network : NetworkId) (from to : ChainId) (l : Location) → location_of from to ≡ Some l
    → IsNear (path_of_site (record { network = network; chain = from })) l
near_location network Relay Relay l is = absurd (subst (λ (o : Option Location). T (is_none o)) is tt)
near_location network Relay (Para number) l is = subst (IsNear (GlobalConsensus network ∷ [])) (some_same _ l is) (record { placed = omega arith; few_parents = omega arith; few_junctions = omega arith })
near_location network (Para own) Relay l is = subst (IsNear (GlobalConsensus network ∷ Parachain own ∷ [])) (some_same _ l is) (record { placed = omega arith; few_parents = omega arith; few_junctions = omega arith })
near_location network (Para own) (Para number) l is = subst (IsNear (GlobalConsensus network ∷ Parachain own ∷ [])) (own_branch (own == number) _ l is).1 (record { placed = omega arith; few_parents = omega arith; few_junctions = omega arith })

-- the path of a chain is short, and names each of its junctions
pub short_path : (site : Site) → length (path_of_site site) ≤ 2
short_path site = elim site.chain as (λ c. length (GlobalConsensus site.network ∷ below_relay c) ≤ 2) [ Relay ↦ omega arith | Para number ↦ omega arith ]

pub no_only_child : (network : NetworkId) (chain : ChainId) → All (λ j. j ≢ OnlyChild) (path_of_site (record { network = network; chain = chain }))
no_only_child network Relay = search rules
no_only_child network (Para number) = search rules

-- ---- accounts
account_by : (site : Site) (here chain : ChainId) (l : Location) → site.chain ≡ here → location_of here chain ≡ Some l → account_of l site ≡ Some (sovereign_account here chain)
account_by site Relay Relay l at is = absurd (subst (λ (o : Option Location). T (is_none o)) is tt)
account_by site Relay (Para number) l at is = ap (λ m. account_of m site) (sym (some_same _ l is)) ∙ ap (λ c. child_at c number) at
account_by site (Para own) Relay l at is = ap (λ m. account_of m site) (sym (some_same _ l is)) ∙ ap parent_at at
account_by site (Para own) (Para number) l at is = ap (λ m. account_of m site) (sym (own_branch (own == number) _ l is).1) ∙ ap (λ c. sibling_at c number) at

pub account_of-location_of : (site : Site) (chain : ChainId) (l : Location) → location_of site.chain chain ≡ Some l → account_of l site ≡ Some (sovereign_account site.chain chain)
account_of-location_of site chain l is = account_by site site.chain chain l refl is

-- the number in the four bytes after a label of four letters
abbrev number_in : List ℕ → ℕ
number_in account = from_le_bytes w32 (take 4 (drop 4 account))

number_in-labelled : (a b c d n : ℕ) → n < 2 ^ 32 → number_in (labelled (a ∷ b ∷ c ∷ d ∷ []) n) ≡ n
number_in-labelled a b c d n small = from_le_bytes-to_le_bytes_4 n small

number_told : (a b c d m n : ℕ) → m < 2 ^ 32 → n < 2 ^ 32 → labelled (a ∷ b ∷ c ∷ d ∷ []) m ≡ labelled (a ∷ b ∷ c ∷ d ∷ []) n → m ≡ n
number_told a b c d m n small_m small_n same = sym (number_in-labelled a b c d m small_m) ∙ ap number_in same ∙ number_in-labelled a b c d n small_n

-- `Parent` and `sibl` differ in the first letter
first_letter : (n : ℕ) → parent_account ≡ sibling_account n → ⊥
first_letter n same = let e : 80 ≡ 115 = ap (λ (xs : List ℕ). get_or xs 0 0) same in absurd (omega (arith, e))

pub IsSovereign-sovereign_account : (here chain : ChainId) → IsChain chain → IsSovereign (sovereign_account here chain)
IsSovereign-sovereign_account here Relay small = inr (inr refl)
IsSovereign-sovereign_account Relay (Para number) small = inl (number, small, refl)
IsSovereign-sovereign_account (Para own) (Para number) small = inr (inl (number, small, refl))

-- two chains have two accounts
pub sovereign_account_of_one : (here a b : ChainId) → IsChain a → IsChain b → a ≢ here → b ≢ here → sovereign_account here a ≡ sovereign_account here b → a ≡ b
sovereign_account_of_one here Relay Relay p q x y same = refl
sovereign_account_of_one Relay Relay (Para n) p q x y same = absurd (x refl)
sovereign_account_of_one Relay (Para m) Relay p q x y same = absurd (y refl)
sovereign_account_of_one Relay (Para m) (Para n) p q x y same = ap Para (number_told 112 97 114 97 m n p q same)
sovereign_account_of_one (Para own) Relay (Para n) p q x y same = absurd (first_letter n same)
sovereign_account_of_one (Para own) (Para m) Relay p q x y same = absurd (first_letter m (sym same))
sovereign_account_of_one (Para own) (Para m) (Para n) p q x y same = ap Para (number_told 115 105 98 108 m n p q same)

-- the chain at the end of its junctions
chain_below : List Junction → ChainId
chain_below (Parachain number ∷ rest) = Para number
chain_below _ = Relay

chain_below-below_relay : (chain : ChainId) → chain_below (below_relay chain) ≡ chain
unfolding chain_below
chain_below-below_relay Relay = refl
chain_below-below_relay (Para number) = refl

-- one location names one chain
pub chain_of_one : (from a b : ChainId) (l : Location) → location_of from a ≡ Some l → location_of from b ≡ Some l → a ≡ b
chain_of_one from a b l is_a is_b =
    sym (chain_below-below_relay a) ∙ ap (λ junctions. chain_below (drop 1 junctions)) (sym (path_of-location_of Polkadot from a l is_a) ∙ path_of-location_of Polkadot from b l is_b) ∙ chain_below-below_relay b
