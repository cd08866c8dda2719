-- Lemmas that proofs cite, in this crate and above it: what steps that take two chains come to, and what is read of a list in which a
-- member was written. A reader of the contracts may skip this file.
use Rattle.std.proofs.Common.{◌≡◌, ◌⊎◌, ℕ, zero, suc, [], ◌∷◌, Option, Some, None, ⊎_elim, inl, inr, refl, sym, ap, ◌∙◌, get_or}
use Rattle.std.specs.Prelude.{slice_get, slice_set}
use Rattle.std.specs.Option.{option_map_or}
use Rattle.std.proofs.lemmas.List.Quantifiers.{position-Some}
use Rattle.std.proofs.lemmas.Option.{get_or_from_slice_get}
use Rattle.chain_ids.specs.declared.chain.ChainId.{ChainId}
use Rattle.chain_ids.specs.Chains.{same_chain}
use Rattle.chain_ids.proofs.Lemmas.{same_chain_told}
use Rattle.network_steps.specs.Worlds.{Member, chain_of, World, place_of}
use Rattle.network_steps.specs.Steps.{with_both_members}

pub same_one : {A : Type 0} (o : Option A) (a b : A) → o ≡ Some a → o ≡ Some b → a ≡ b
same_one o a b h k = let e : Some a ≡ Some b = sym h ∙ k in cc

-- ---- two chains

-- what holds of each way through two chains holds of the whole
pub between_says : {A : Type 0} (w : World) (from to : ChainId) (none : A) (f : ℕ → ℕ → Member → Member → A) (P : A → Type 0) → P none
    → ((i j : ℕ) (s r : Member) → place_of w from ≡ Some i → place_of w to ≡ Some j → slice_get w i ≡ Some s → slice_get w j ≡ Some r → P (f i j s r)) → P (with_both_members w from to none f)
between_says w from to none f P p h =
    elim (place_of w from) as (λ o. place_of w from ≡ o → P (option_map_or (λ (i : ℕ). option_map_or (λ (j : ℕ). option_map_or (λ (s : Member). option_map_or (λ (r : Member). f i j s r) (slice_get w j) none) (slice_get w i) none) (place_of w to) none) o none)) [
      | None ↦ λ e. p
      | Some i ↦ λ at_i. elim (place_of w to) as (λ o. place_of w to ≡ o → P (option_map_or (λ (j : ℕ). option_map_or (λ (s : Member). option_map_or (λ (r : Member). f i j s r) (slice_get w j) none) (slice_get w i) none) o none)) [
        | None ↦ λ e. p
        | Some j ↦ λ at_j. elim (slice_get w i) as (λ o. slice_get w i ≡ o → P (option_map_or (λ (s : Member). option_map_or (λ (r : Member). f i j s r) (slice_get w j) none) o none)) [
          | None ↦ λ e. p
          | Some s ↦ λ is_s. elim (slice_get w j) as (λ o. slice_get w j ≡ o → P (option_map_or (λ (r : Member). f i j s r) o none)) [
            | None ↦ λ e. p
            | Some r ↦ λ is_r. h i j s r at_i at_j is_s is_r
          ] refl
        ] refl
      ] refl
    ] refl

-- two chains that are there
pub between_at : {A : Type 0} (w : World) (from to : ChainId) (none : A) (f : ℕ → ℕ → Member → Member → A) (i j : ℕ) (s r : Member) → place_of w from ≡ Some i → place_of w to ≡ Some j → slice_get w i ≡ Some s → slice_get w j ≡ Some r
    → with_both_members w from to none f ≡ f i j s r
between_at w from to none f i j s r at_i at_j is_s is_r =
    ap (λ o. option_map_or (λ (i : ℕ). option_map_or (λ (j : ℕ). option_map_or (λ (s : Member). option_map_or (λ (r : Member). f i j s r) (slice_get w j) none) (slice_get w i) none) (place_of w to) none) o none) at_i
    ∙ ap (λ o. option_map_or (λ (j : ℕ). option_map_or (λ (s : Member). option_map_or (λ (r : Member). f i j s r) (slice_get w j) none) (slice_get w i) none) o none) at_j
    ∙ ap (λ o. option_map_or (λ (s : Member). option_map_or (λ (r : Member). f i j s r) (slice_get w j) none) o none) is_s
    ∙ ap (λ o. option_map_or (λ (r : Member). f i j s r) o none) is_r

-- the chain at an index is the one that was looked for
pub place_says : (w : World) (chain : ChainId) (i : ℕ) (m : Member) → place_of w chain ≡ Some i → slice_get w i ≡ Some m → chain_of m ≡ chain
place_says w chain i m at is =
    let found = position-Some (λ (m : Member). same_chain (chain_of m) chain) w i m at in
    let here : get_or w i m ≡ m = get_or_from_slice_get w i m m is in
    same_chain_told (chain_of m) chain (sym (ap (λ (m : Member). same_chain (chain_of m) chain) here) ∙ found.1)

-- ---- a member that was written
shifted : {A : Type 0} (c d : ℕ) (y z : A) (Q : Type 0) → ((d ≡ c) × (z ≡ y)) ⊎ Q → ((suc d ≡ suc c) × (z ≡ y)) ⊎ Q
shifted {A} c d y z Q h = ⊎_elim (λ (e : (d ≡ c) × (z ≡ y)). inl (ap suc e.0, e.1)) (λ (q : Q). inr q) h

pub set_read : (w : World) (c d : ℕ) (y z : Member) → slice_get (slice_set w c y) d ≡ Some z → ((d ≡ c) × (z ≡ y)) ⊎ (slice_get w d ≡ Some z)
set_read [] c d y z e = inr e
set_read (x ∷ xs) zero zero y z e = inl (refl, same_one (Some y) z y e refl)
set_read (x ∷ xs) zero (suc d) y z e = inr e
set_read (x ∷ xs) (suc c) zero y z e = inr e
set_read (x ∷ xs) (suc c) (suc d) y z e = shifted c d y z (slice_get xs d ≡ Some z) (set_read xs c d y z e)
