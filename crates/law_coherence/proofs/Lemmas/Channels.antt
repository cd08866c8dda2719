-- Lemmas on the definitions of `specs/Channels.antt`: what proofs cite.
use Rattle.std.specs.Prelude.{◌≡◌, ℕ, ◌+◌, ◌||◌, Bool, true, false, if◌then◌else◌, List, [], ◌∷◌, ◌++◌, Some, sum_by, refl}
use Rattle.std.proofs.Common.{sym, ap, ◌∙◌, arith}
use Rattle.std.proofs.lemmas.List.Sums.{sum_by-cons, sum_by_push}
use Rattle.chain_ids.specs.declared.chain.ChainId.{ChainId}
use Rattle.chain_ids.specs.Chains.{same_chain}
use Rattle.chain_ids.proofs.Lemmas.{same_chain_told}
use Rattle.law_coherence.specs.Parts.{Cargo, Channel, in_channels, in_channels_to}
use Rattle.law_coherence.specs.Channels.{has_channel, with_last, cargo_pushed, oldest_cargo, behind_first, front, cargo_popped}

-- a sum over each channel that a weight of the channel counts
weighed : (ChainId → ℕ → ℕ) → (Cargo → ℕ) → List Channel → ℕ
weighed g f [] = 0
weighed g f (c ∷ rest) = g c.to (sum_by f c.queue) + weighed g f rest

-- what a weight must be: it adds
record IsAdding (g : ChainId → ℕ → ℕ) : Type 0 where
  adds : (chain : ChainId) (m n : ℕ) → g chain (m + n) ≡ g chain m + g chain n

weighed-pushed : (g : ChainId → ℕ → ℕ) (f : Cargo → ℕ) (chain : ChainId) (cargo : Cargo) (channels : List Channel) → IsAdding g → has_channel chain channels ≡ true
    → weighed g f (cargo_pushed chain cargo channels) ≡ weighed g f channels + g chain (f cargo)
unfolding weighed
weighed-pushed g f chain cargo [] adding has = absurd (cc)
weighed-pushed g f chain cargo (c ∷ rest) adding has =
    elim (same_chain c.to chain) as (λ b. same_chain c.to chain ≡ b → (b || has_channel chain rest) ≡ true
    → weighed g f (if b then with_last cargo c ∷ rest else c ∷ cargo_pushed chain cargo rest) ≡ (g c.to (sum_by f c.queue) + weighed g f rest) + g chain (f cargo)) [
      | true ↦ λ t h.
          let last : g c.to (sum_by f (c.queue ++ cargo ∷ [])) ≡ g c.to (sum_by f c.queue) + g c.to (f cargo) = ap (g c.to) (sum_by_push f c.queue cargo) ∙ adding.adds c.to (sum_by f c.queue) (f cargo) in
          let same : g c.to (f cargo) ≡ g chain (f cargo) = ap (λ x. g x (f cargo)) (same_chain_told c.to chain t) in
          omega (arith, last, same)
      | false ↦ λ t h. let others : weighed g f (cargo_pushed chain cargo rest) ≡ weighed g f rest + g chain (f cargo) = weighed-pushed g f chain cargo rest adding h in omega (arith, others)
    ] refl has

sum_taken : (f : Cargo → ℕ) (queue : List Cargo) (cargo : Cargo) → oldest_cargo queue ≡ Some cargo → sum_by f queue ≡ sum_by f (behind_first queue) + f cargo
sum_taken f [] cargo h = absurd (cc)
sum_taken f (x ∷ xs) cargo h = let same : x ≡ cargo = cc in let front : f x ≡ f cargo = ap f same in let all = sum_by-cons f x xs in omega (arith, front, all)

weighed-popped : (g : ChainId → ℕ → ℕ) (f : Cargo → ℕ) (chain : ChainId) (cargo : Cargo) (channels : List Channel) → IsAdding g → front chain channels ≡ Some cargo
    → weighed g f (cargo_popped chain channels) + g chain (f cargo) ≡ weighed g f channels
unfolding weighed
weighed-popped g f chain cargo [] adding has = absurd (cc)
weighed-popped g f chain cargo (c ∷ rest) adding has =
    elim (same_chain c.to chain) as (λ b. same_chain c.to chain ≡ b → (if b then oldest_cargo c.queue else front chain rest) ≡ Some cargo
    → weighed g f (if b then record { to = c.to; queue = behind_first c.queue } ∷ rest else c ∷ cargo_popped chain rest) + g chain (f cargo) ≡ g c.to (sum_by f c.queue) + weighed g f rest) [
      | true ↦ λ t h.
          let taken : sum_by f c.queue ≡ sum_by f (behind_first c.queue) + f cargo = sum_taken f c.queue cargo h in
          let parts : g c.to (sum_by f c.queue) ≡ g c.to (sum_by f (behind_first c.queue)) + g c.to (f cargo) = ap (g c.to) taken ∙ adding.adds c.to (sum_by f (behind_first c.queue)) (f cargo) in
          let same : g c.to (f cargo) ≡ g chain (f cargo) = ap (λ x. g x (f cargo)) (same_chain_told c.to chain t) in
          omega (arith, parts, same)
      | false ↦ λ t h. let others : weighed g f (cargo_popped chain rest) + g chain (f cargo) ≡ weighed g f rest = weighed-popped g f chain cargo rest adding h in omega (arith, others)
    ] refl has

all_channels : ChainId → ℕ → ℕ
all_channels chain n = n

channels_to : ChainId → ChainId → ℕ → ℕ
channels_to to chain n = if same_chain chain to then n else 0

all_adding : IsAdding all_channels
unfolding all_channels
all_adding = record { adds = λ chain m n. refl }

counted_adds : (b : Bool) (m n : ℕ) → (if b then m + n else 0) ≡ (if b then m else 0) + (if b then n else 0)
counted_adds true m n = refl
counted_adds false m n = omega arith

to_adding : (to : ChainId) → IsAdding (channels_to to)
unfolding channels_to
to_adding to = record { adds = λ chain m n. counted_adds (same_chain chain to) m n }

in_all : (f : Cargo → ℕ) (channels : List Channel) → in_channels f channels ≡ weighed all_channels f channels
unfolding in_channels weighed all_channels
in_all f [] = refl
in_all f (c ∷ rest) = sum_by-cons (λ (c : Channel). sum_by f c.queue) c rest ∙ ap (λ n. sum_by f c.queue + n) (in_all f rest)

in_some : (to : ChainId) (f : Cargo → ℕ) (channels : List Channel) → in_channels_to to f channels ≡ weighed (channels_to to) f channels
unfolding in_channels_to weighed channels_to
in_some to f [] = refl
in_some to f (c ∷ rest) = sum_by-cons (λ (c : Channel). if same_chain c.to to then sum_by f c.queue else 0) c rest ∙ ap (λ n. (if same_chain c.to to then sum_by f c.queue else 0) + n) (in_some to f rest)

pub in_channels-pushed : (f : Cargo → ℕ) (chain : ChainId) (cargo : Cargo) (channels : List Channel) → has_channel chain channels ≡ true
    → in_channels f (cargo_pushed chain cargo channels) ≡ in_channels f channels + f cargo
unfolding all_channels
in_channels-pushed f chain cargo channels has = in_all f (cargo_pushed chain cargo channels) ∙ weighed-pushed all_channels f chain cargo channels all_adding has ∙ ap (λ n. n + f cargo) (sym (in_all f channels))

pub in_channels_to-pushed : (to : ChainId) (f : Cargo → ℕ) (chain : ChainId) (cargo : Cargo) (channels : List Channel) → has_channel chain channels ≡ true
    → in_channels_to to f (cargo_pushed chain cargo channels) ≡ in_channels_to to f channels + (if same_chain chain to then f cargo else 0)
unfolding channels_to
in_channels_to-pushed to f chain cargo channels has = in_some to f (cargo_pushed chain cargo channels) ∙ weighed-pushed (channels_to to) f chain cargo channels (to_adding to) has ∙ ap (λ n. n + channels_to to chain (f cargo)) (sym (in_some to f channels))

pub in_channels-popped : (f : Cargo → ℕ) (chain : ChainId) (cargo : Cargo) (channels : List Channel) → front chain channels ≡ Some cargo
    → in_channels f (cargo_popped chain channels) + f cargo ≡ in_channels f channels
unfolding all_channels
in_channels-popped f chain cargo channels has = ap (λ n. n + f cargo) (in_all f (cargo_popped chain channels)) ∙ weighed-popped all_channels f chain cargo channels all_adding has ∙ sym (in_all f channels)

pub in_channels_to-popped : (to : ChainId) (f : Cargo → ℕ) (chain : ChainId) (cargo : Cargo) (channels : List Channel) → front chain channels ≡ Some cargo
    → in_channels_to to f (cargo_popped chain channels) + (if same_chain chain to then f cargo else 0) ≡ in_channels_to to f channels
unfolding channels_to
in_channels_to-popped to f chain cargo channels has = ap (λ n. n + channels_to to chain (f cargo)) (in_some to f (cargo_popped chain channels)) ∙ weighed-popped (channels_to to) f chain cargo channels (to_adding to) has ∙ sym (in_some to f channels)
