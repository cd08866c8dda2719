-- The first index of a name tells which of the first chains have it.
use Rattle.std.proofs.Common.{◌≡◌, ◌∙◌, ℕ, zero, suc, ◌+◌, ◌≤◌, List, [], ◌∷◌, take, refl, ap, Bool, true, false, cond, Option, Some, None, arith}
use Rattle.std.specs.Prelude.{nat_lt, ◌||◌, is_some}
use Rattle.std.specs.List.{list_any, position_from}
use Rattle.std.specs.Map.{lookup}
use Rattle.std.proofs.lemmas.Bool.{lt-ltb, le-ltb}
use Rattle.chain_ids.specs.declared.chain.ChainId.{ChainId}
use Rattle.chain_ids.specs.declared.chain.ChainId.TheVariants.{Relay, Para}
use Rattle.chain_ids.specs.contracts.chain.ChainIdPartialEq.TheImpl as derived
use Rattle.chain_ids.specs.Chains.{same_chain}
use Rattle.network_config.specs.Names.{named_place}

-- whether the index, if there is one, is before this one
abbrev pub lies_before : ℕ → Option ℕ → Bool
lies_before at None = false
lies_before at (Some place) = nat_lt place at

module _ {X : Type 0} (p : X → Bool) where
  pub found : (xs : List X) (i : ℕ) → is_some (position_from p i xs) ≡ list_any p xs
  found [] i = refl
  found (x ∷ xs) i = elim (p x) as (λ b. is_some (cond b (Some i) (position_from p (i + 1) xs)) ≡ (b || list_any p xs)) [ true ↦ refl | false ↦ found xs (i + 1) ]

  none_before : (xs : List X) (i j : ℕ) → i ≤ j → lies_before i (position_from p j xs) ≡ false
  none_before [] i j h = refl
  none_before (x ∷ xs) i j h = elim (p x) as (λ b. lies_before i (cond b (Some j) (position_from p (j + 1) xs)) ≡ false) [ true ↦ le-ltb j i h | false ↦ none_before xs i (j + 1) (omega (arith, h)) ]

  told : (xs : List X) (n i : ℕ) → lies_before (n + i) (position_from p i xs) ≡ list_any p (take n xs)
  told [] zero i = refl
  told [] (suc n) i = refl
  told (x ∷ xs) zero i = none_before (x ∷ xs) (0 + i) i (omega arith)
  told (x ∷ xs) (suc n) i =
      elim (p x) as (λ b. lies_before (suc n + i) (cond b (Some i) (position_from p (i + 1) xs)) ≡ (b || list_any p (take n xs))) [
        | true ↦ lt-ltb i (suc n + i) (omega arith)
        | false ↦ (let e : suc n + i ≡ n + (i + 1) = omega arith in ap (λ m. lies_before m (position_from p (i + 1) xs)) e ∙ told xs n (i + 1))
      ]

  pub told_first : (xs : List X) (n : ℕ) → lies_before n (position_from p 0 xs) ≡ list_any p (take n xs)
  told_first xs n = let e : n ≡ n + 0 = omega arith in ap (λ m. lies_before m (position_from p 0 xs)) e ∙ told xs n 0

-- ---- names that are looked up

pub names_alike : (a b : ChainId) → derived.ghosts.eq a b ≡ same_chain a b
names_alike Relay Relay = refl
names_alike Relay (Para n) = refl
names_alike (Para m) Relay = refl
names_alike (Para m) (Para n) = refl

pub place_same : (places : List (ChainId × ℕ)) (chain : ChainId) → lookup (derived.ghosts.eq chain) places ≡ named_place places chain
place_same places chain = λ i. lookup (λ name. names_alike chain name i) places
