-- What a search among chains that rise finds.
use Rattle.std.proofs.Common.{◌≡◌, ℕ, zero, suc, ◌+◌, ◌<◌, ◌≤◌, Bool, true, false, List, [], ◌∷◌, length, get_or, Some, None, Ok, Err, refl, sym, ap, ◌∙◌, subst, arith}
use Rattle.std.specs.Prelude.{IsTrue, ◌&&◌}
use Rattle.std.specs.List.{position, position_or_len}
use Rattle.std.specs.List.Sorted.{IsSearchInRange, IsBinarySearchResult, IsNonDecreasingBy}
use Rattle.std.specs.Ordering.{nat_cmp, ordering_index}
use Rattle.std.proofs.lemmas.Cmp.{ranked}
use Rattle.std.proofs.lemmas.List.Sums.{position_or_len_is}
use Rattle.std.proofs.lemmas.List.Sorted.{IsNonDecreasingBy-from_default}
use Rattle.std.proofs.lemmas.Bool.Decides.{nat_tests}
use Rattle.std.proofs.lemmas.Grind.{common_steps}
use Rattle.chain_ids.specs.declared.chain.ChainId.{ChainId}
use Rattle.chain_ids.specs.declared.chain.ChainId.TheVariants.{Relay, Para}
use Rattle.chain_ids.specs.Chains.{same_chain}
use Rattle.chain_ids.proofs.Lemmas.{same_chain_itself, different_chains}
use Rattle.chain_ids.specs.contracts.chain.ChainIdOrd.TheImpl as derived
use Rattle.network_steps.specs.Tests.{comes_before}
use Rattle.chain_net.specs.Order.{rise, are_in_order}

-- a number that rises with the order
abbrev pub number : ChainId → ℕ
number Relay = 0
number (Para n) = n + 1

more_by_one : (m n : ℕ) → nat_cmp m n ≡ nat_cmp (m + 1) (n + 1)
more_by_one m n = grind (arith, nat_tests)

by_number : (a b : ChainId) → derived.ghosts.cmp a b ≡ nat_cmp (number a) (number b)
by_number Relay Relay = refl
by_number Relay (Para n) = grind (arith, nat_tests)
by_number (Para m) Relay = grind (arith, nat_tests)
by_number (Para m) (Para n) = more_by_one m n

pub above : (a b : ChainId) → comes_before a b ≡ true → number a < number b
above Relay Relay h = absurd cc
above Relay (Para n) h = omega arith
above (Para m) Relay h = absurd cc
above (Para m) (Para n) h = grind (arith, nat_tests)

same_number : (a b : ChainId) → number a ≡ number b → a ≡ b
same_number Relay Relay h = refl
same_number Relay (Para n) h = absurd (omega (arith, h))
same_number (Para m) Relay h = absurd (omega (arith, h))
same_number (Para m) (Para n) h = ap Para (omega (arith, h))

pub both : (a b : Bool) → IsTrue (a && b) → IsTrue a × IsTrue b
both true b h = (refl, h)
both false b h = absurd cc

-- all chains after one are above it
above_all : (a : ChainId) (xs : List ChainId) → IsTrue (rise a xs) → (j : ℕ) (d : ChainId) → j < length xs → number a < number (get_or xs j d)
above_all a [] h j d lt = absurd (omega (arith, lt))
above_all a (x ∷ xs) h zero d lt = above a x (both (comes_before a x) (rise x xs) h).0
above_all a (x ∷ xs) h (suc j) d lt =
    let parts = both (comes_before a x) (rise x xs) h in
    let first = above a x parts.0 in
    let rest = above_all x xs parts.1 j d (omega (arith, lt)) in
    omega (arith, first, rest)

rising : (a : ChainId) (xs : List ChainId) → IsTrue (rise a xs) → (i j : ℕ) (d : ChainId) → i < j → j < length (a ∷ xs) → number (get_or (a ∷ xs) i d) < number (get_or (a ∷ xs) j d)
rising a xs h zero zero d lt within = absurd (omega (arith, lt))
rising a xs h (suc i) zero d lt within = absurd (omega (arith, lt))
rising a xs h zero (suc j) d lt within = above_all a xs h j d (omega (arith, within))
rising a [] h (suc i) (suc j) d lt within = absurd (omega (arith, within))
rising a (x ∷ xs) h (suc i) (suc j) d lt within = rising x xs (both (comes_before a x) (rise x xs) h).1 i j d (omega (arith, lt)) (omega (arith, within))

in_order : (xs : List ChainId) → IsTrue (are_in_order xs) → (i j : ℕ) (d : ChainId) → i < j → j < length xs → number (get_or xs i d) < number (get_or xs j d)
in_order [] h i j d lt within = absurd (omega (arith, within))
in_order (a ∷ xs) h i j d lt within = rising a xs h i j d lt within

module _ (xs : List ChainId) (order : IsTrue (are_in_order xs)) (chain : ChainId) where
  abbrev is_it : ChainId → Bool
  is_it x = same_chain x chain

  other : (x : ChainId) → (number x ≡ number chain → ⊥) → is_it x ≡ false
  other x apart = different_chains x chain (λ same. apart (ap number same))

  compared : (d : ChainId) (i : ℕ) → derived.ghosts.cmp (get_or xs i d) chain ≡ nat_cmp (number (get_or xs i d)) (number chain)
  compared d i = by_number (get_or xs i d) chain

  comparisons_rise : IsNonDecreasingBy (λ y. ordering_index (derived.ghosts.cmp y chain)) xs
  comparisons_rise = IsNonDecreasingBy-from_default (λ y. ordering_index (derived.ghosts.cmp y chain)) xs chain (λ i j le within.
      let numbers_rise : number (get_or xs i chain) ≤ number (get_or xs j chain) = grind (arith, in_order xs order i j chain, λ (same : i ≡ j). ap (λ k. number (get_or xs k chain)) same) in
      subst (λ o. ordering_index o ≤ ordering_index (derived.ghosts.cmp (get_or xs j chain) chain)) (sym (compared chain i))
      (subst (λ o. ordering_index (nat_cmp (number (get_or xs i chain)) (number chain)) ≤ ordering_index o) (sym (compared chain j)) (grind (arith, nat_tests))))

  pub found : (i : ℕ) → IsSearchInRange (Ok i) (length xs) → IsBinarySearchResult (λ y. derived.ghosts.cmp y chain) xs (Ok i) → Some i ≡ position is_it xs
  found i within equal =
      let at : number (get_or xs i chain) ≡ number chain = ranked (number (get_or xs i chain)) (number chain) _ (sym (sym (compared chain i) ∙ equal chain)) in
      let here : is_it (get_or xs i chain) ≡ true = ap is_it (same_number (get_or xs i chain) chain at) ∙ same_chain_itself chain in
      let place : position_or_len is_it xs ≡ i = position_or_len_is is_it xs i chain (omega (arith, within))
      (λ k lt. other (get_or xs k chain) (λ same. let less = in_order xs order k i chain lt within in omega (arith, less, at, same))) (λ h. here) in
      grind (arith, common_steps)

  pub absent : (i : ℕ) → IsSearchInRange (Err i) (length xs) → IsBinarySearchResult (λ y. derived.ghosts.cmp y chain) xs (Err i) → None ≡ position is_it xs
  absent i within parted =
      let halves = parted comparisons_rise in
      let below : (k : ℕ) → k < i → number (get_or xs k chain) < number chain = λ k lt. ranked _ (number chain) _ (sym (sym (compared chain k) ∙ halves.0 k chain (omega arith) lt)) in
      let higher : (k : ℕ) → i ≤ k → k < length xs → number chain < number (get_or xs k chain) = λ k le lt. ranked _ (number chain) _ (sym (sym (compared chain k) ∙ halves.1 k chain le lt)) in
      let place : position_or_len is_it xs ≡ length xs = position_or_len_is is_it xs (length xs) chain (omega arith)
      (λ k lt. other (get_or xs k chain) (λ same. grind (arith, below k, higher k))) (λ h. absurd (omega (arith, h))) in
      grind (arith, common_steps)
