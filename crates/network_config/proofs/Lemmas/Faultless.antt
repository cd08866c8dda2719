-- For proofs alone: a reader may skip this file. What the checks of `References` say of a network in which they find no fault: each
-- entry passes on its own, and no two entries say the same.
-- ---- no fault, as a test
use Rattle.std.specs.Prelude.{ℕ, List, [], ◌∷◌, ◌++◌, Bool, true, false, not, ◌&&◌, ◌||◌, Option, Some, None, Result, Ok, Err, is_ok}
use Rattle.std.specs.List.{list_any, list_all, AllByRecursion, IsDistinct}
use Rattle.std.proofs.Common.{◌≡◌, ◌∙◌, refl, ap, append_assoc}
use Rattle.std.proofs.lemmas.Bool.{and_parts, and_from, or_parts, not-true, not_from_false}
use Rattle.locations.specs.declared.grammar.NetworkId.{NetworkId}
use Rattle.network_spec.specs.declared.chain.ChainSpec.{ChainSpec}
use Rattle.network_spec.specs.declared.network.NetworkSpec.{NetworkSpec}
use Rattle.document_entries.specs.declared.fault.NetworkFault.{NetworkFault}
use Rattle.document_entries.specs.declared.fault.Place.{Place}
use Rattle.document_entries.specs.declared.fault.Section.{Section}
use Rattle.document_entries.specs.declared.fault.Section.TheVariants.{Fields, Rates, Assets, Accounts, Pallets, Queries, Pools, Channels}
use Rattle.document_entries.specs.Forms.{◌>>◌, next_index}
use Rattle.network_config.specs.declared.checks.Flaws.{Flaws}
use Rattle.network_config.specs.References.{flaw_at, document_place, each_in, rate_flaws, asset_flaws, account_flaws, pallet_flaws, query_flaws, pool_flaws, channel_flaws, chain_flaws, chain_references, chains_references, references}

abbrev pub is_sound : Flaws → Bool
is_sound flaws = not flaws.repeated && (not flaws.bad && not flaws.past)

-- each entry beside the earlier ones
unfoldable pub all_sound : {X : Type 0} → (List X → X → Flaws) → List X → List X → Bool
all_sound flaws earlier [] = true
all_sound flaws earlier (x ∷ xs) = is_sound (flaws earlier x) && all_sound flaws (earlier ++ x ∷ []) xs

ok_flaws : (place : Place) (repeated bad past : Bool) → is_ok (flaw_at place (record { repeated = repeated; bad = bad; past = past })) ≡ (not repeated && (not bad && not past))
ok_flaws place true bad past = refl
ok_flaws place false true past = refl
ok_flaws place false false true = refl
ok_flaws place false false false = refl

pub ok_flaw : (place : Place) (flaws : Flaws) → is_ok (flaw_at place flaws) ≡ is_sound flaws
ok_flaw place flaws = ok_flaws place flaws.repeated flaws.bad flaws.past

pub ok_both : {A B : Type 0} (r : Result A NetworkFault) (s : Result B NetworkFault) → is_ok (r >> s) ≡ (is_ok r && is_ok s)
ok_both (Ok x) s = refl
ok_both (Err fault) s = refl

pub ok_each : {X : Type 0} (flaws : List X → X → Flaws) (chain : Option ℕ) (section : Section) (i : ℕ) (earlier xs : List X) → is_ok (each_in flaws chain section i earlier xs) ≡ all_sound flaws earlier xs
unfolding each_in all_sound
ok_each flaws chain section i earlier [] = refl
ok_each flaws chain section i earlier (x ∷ xs) =
    ok_both (flaw_at (document_place chain section i) (flaws earlier x)) (each_in flaws chain section (next_index i) (earlier ++ x ∷ []) xs)
    ∙ (λ j. ok_flaw (document_place chain section i) (flaws earlier x) j && ok_each flaws chain section (next_index i) (earlier ++ x ∷ []) xs j)

-- ---- entries that are the same as an earlier one, or wrong on their own

-- the flaws of an entry by which other entries say the same, and what is wrong with it alone
abbrev pub flaws_by : {X : Type 0} → (X → X → Bool) → (X → Bool) → (X → Bool) → List X → X → Flaws
flaws_by same bad past earlier x = record { repeated = list_any (λ other. same other x) earlier; bad = bad x; past = past x }

module _ {X : Type 0} (same : X → X → Bool) (bad past : X → Bool) where
  pub alone : (earlier xs : List X) → all_sound (flaws_by same bad past) earlier xs ≡ true → AllByRecursion (λ x. (bad x ≡ false) × (past x ≡ false)) xs
  unfolding all_sound
  alone earlier [] h = tt
  alone earlier (x ∷ xs) h =
      let parts = and_parts _ _ h in
      let here = and_parts _ _ (and_parts _ _ parts.0).1 in
      ((not-true _ here.0, not-true _ here.1), alone (earlier ++ x ∷ []) xs parts.1)

  not_in : (before after : List X) (e x : X) → list_any (λ other. same other x) (before ++ e ∷ after) ≡ false → same e x ≡ false
  not_in [] after e x h = (or_parts _ _ h).0
  not_in (b ∷ before) after e x h = not_in before after e x (or_parts _ _ h).1

  other_than : (before after xs : List X) (e : X) → all_sound (flaws_by same bad past) (before ++ e ∷ after) xs ≡ true → AllByRecursion (λ y. same e y ≡ false) xs
  unfolding all_sound
  other_than before after [] e h = tt
  other_than before after (x ∷ xs) e h =
      let parts = and_parts _ _ h in
      let here = not-true _ (and_parts _ _ parts.0).0 in
      (not_in before after e x here, other_than before (after ++ x ∷ []) xs e (rw (append_assoc before (e ∷ after) (x ∷ [])) at parts.1))

  pub apart : (earlier xs : List X) → all_sound (flaws_by same bad past) earlier xs ≡ true → IsDistinct same xs
  unfolding all_sound IsDistinct
  apart earlier [] h = tt
  apart earlier (x ∷ xs) h =
      let rest = (and_parts _ _ h).1 in
      (other_than earlier [] xs x rest, apart (earlier ++ x ∷ []) xs rest)

  -- the other way
  none_more : (earlier xs : List X) (x : X) → AllByRecursion (λ y. list_any (λ other. same other y) earlier ≡ false) xs → AllByRecursion (λ y. same x y ≡ false) xs
      → AllByRecursion (λ y. list_any (λ other. same other y) (earlier ++ x ∷ []) ≡ false) xs
  none_more earlier [] x h k = tt
  none_more earlier (y ∷ ys) x h k = (none_at earlier x y h.0 k.0, none_more earlier ys x h.1 k.1)
    where
      none_at : (es : List X) (x y : X) → list_any (λ other. same other y) es ≡ false → same x y ≡ false → list_any (λ other. same other y) (es ++ x ∷ []) ≡ false
      none_at [] x y h k = ap (λ b. b || false) k
      none_at (e ∷ es) x y h k = let parts = or_parts _ _ h in (λ i. parts.0 i || none_at es x y parts.1 k i)

  pub sound_from : (earlier xs : List X) → AllByRecursion (λ y. list_any (λ other. same other y) earlier ≡ false) xs → IsDistinct same xs → AllByRecursion (λ x. (bad x ≡ false) × (past x ≡ false)) xs
      → all_sound (flaws_by same bad past) earlier xs ≡ true
  unfolding all_sound IsDistinct
  sound_from earlier [] h d a = refl
  sound_from earlier (x ∷ xs) h d a =
      and_from _ _ (and_from _ _ (not_from_false _ h.0) (and_from _ _ (not_from_false _ a.0.0) (not_from_false _ a.0.1)))
      (sound_from (earlier ++ x ∷ []) xs (none_more earlier xs x h.1 d.0) d.1 a.1)

-- ---- a chain and the network

-- what is listed at a chain, beside these chains
unfoldable pub chain_sound : List ChainSpec → NetworkId → ChainSpec → Bool
chain_sound chains network c = all_sound (rate_flaws c.assets) [] c.rates
    && (all_sound (asset_flaws chains network c.chain) [] c.assets
    && (all_sound (account_flaws c.assets) [] c.accounts
    && (all_sound pallet_flaws [] c.pallets
    && (all_sound (query_flaws chains c.chain) [] c.queries && all_sound (pool_flaws c.assets) [] c.pools))))

pub ok_more : {A B : Type 0} (r : Result A NetworkFault) (s : Result B NetworkFault) (a b : Bool) → is_ok r ≡ a → is_ok s ≡ b → is_ok (r >> s) ≡ (a && b)
ok_more r s a b e f = ok_both r s ∙ (λ j. e j && f j)

pub ok_chain : (chains : List ChainSpec) (network : NetworkId) (i : ℕ) (earlier : List ChainSpec) (c : ChainSpec)
    → is_ok (chain_references chains network i earlier c) ≡ (is_sound (chain_flaws earlier c) && chain_sound chains network c)
unfolding chain_references chain_sound
ok_chain chains network i earlier c =
    ok_more _ _ _ _ (ok_flaw (document_place (Some i) Fields 0) (chain_flaws earlier c))
    (ok_more _ _ _ _ (ok_each (rate_flaws c.assets) (Some i) Rates 0 [] c.rates)
    (ok_more _ _ _ _ (ok_each (asset_flaws chains network c.chain) (Some i) Assets 0 [] c.assets)
    (ok_more _ _ _ _ (ok_each (account_flaws c.assets) (Some i) Accounts 0 [] c.accounts)
    (ok_more _ _ _ _ (ok_each pallet_flaws (Some i) Pallets 0 [] c.pallets)
    (ok_more _ _ _ _ (ok_each (query_flaws chains c.chain) (Some i) Queries 0 [] c.queries) (ok_each (pool_flaws c.assets) (Some i) Pools 0 [] c.pools))))))

shuffled : (a b c d : Bool) → ((a && b) && (c && d)) ≡ ((a && c) && (b && d))
shuffled true true c d = refl
shuffled true false true d = refl
shuffled true false false d = refl
shuffled false b c d = refl

pub ok_chains : (chains : List ChainSpec) (network : NetworkId) (i : ℕ) (earlier cs : List ChainSpec)
    → is_ok (chains_references chains network i earlier cs) ≡ (all_sound chain_flaws earlier cs && list_all (chain_sound chains network) cs)
unfolding chains_references all_sound
ok_chains chains network i earlier [] = refl
ok_chains chains network i earlier (c ∷ cs) =
    ok_more _ _ _ _ (ok_chain chains network i earlier c) (ok_chains chains network (next_index i) (earlier ++ c ∷ []) cs)
    ∙ shuffled (is_sound (chain_flaws earlier c)) (chain_sound chains network c) (all_sound chain_flaws (earlier ++ c ∷ []) cs) (list_all (chain_sound chains network) cs)

-- no two chains are the same, each is sound, and so is each channel
pub ok_references : (spec : NetworkSpec)
    → is_ok (references spec) ≡ ((all_sound chain_flaws [] spec.chains && list_all (chain_sound spec.chains spec.network) spec.chains) && all_sound (channel_flaws spec.chains) [] spec.channels)
unfolding references
ok_references spec =
    ok_more _ _ _ _ (ok_chains spec.chains spec.network 0 [] spec.chains) (ok_each (channel_flaws spec.chains) None Channels 0 [] spec.channels)
