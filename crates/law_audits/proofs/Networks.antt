-- What is printed of a network is what is conserved in it.
use Rattle.std.specs.Prelude.{◌≡◌, ℕ, zero, suc, ◌+◌, ◌^◌, ◌<◌, ◌≤◌, Bool, true, false, if◌then◌else◌, List, [], ◌∷◌, map, find, Option, Some, None, slice_get, refl}
use Rattle.std.specs.List.{All, IsDistinct, AllByRecursion}
use Rattle.std.specs.Ordering.{eq_by_cmp}
use Rattle.std.proofs.Common.{sym, ap, ◌∙◌, subst, arith}
use Rattle.std.proofs.lemmas.List.Sums.{sum_by-cons}
use Rattle.amounts.specs.Amounts.{empty}
use Rattle.amounts.proofs.Lemmas.AmountLaws.{total-empty}
use Rattle.asset_lists.specs.Listed.{listed_cmp}
use Rattle.asset_lists.specs.declared.units.Instance.{Instance}
use Rattle.asset_bundles.proofs.Lemmas.Bundles.{unit_keys}
use Rattle.chain_ids.specs.declared.chain.ChainId.{ChainId}
use Rattle.chain_ids.specs.Chains.{same_chain}
use Rattle.chain_ids.proofs.Lemmas.{same_chain_told}
use Rattle.trust_tables.specs.declared.rows.AssetRow.{AssetRow}
use Rattle.trust_tables.specs.declared.rows.AssetRole.{AssetRole}
use Rattle.trust_tables.specs.declared.rows.AssetRole.TheVariants.{Native, Derivative}
use Rattle.trust_tables.specs.Chains.{path_of_site}
use Rattle.trust_tables.specs.Accounts.{sovereign_account}
use Rattle.trust_tables.specs.Trust.{listing}
use Rattle.exec_base.specs.Part.{ChainPart}
use Rattle.law_coherence.specs.UniversalAssets.{UniversalAsset, every, just, is_unit_at}
use Rattle.law_coherence.specs.Networks.{Table, asset_of_row, is_home, Agrees}
use Rattle.law_coherence.specs.Parts as sums
use Rattle.law_coherence.specs.Parts.{Whole, stock, own, supply, Backed}
use Rattle.law_coherence.proofs.Lemmas.Bounds.{account_at_most, home_at_most, reserve_of}
use Rattle.law_coherence.specs.Steps.{tables_of}
use Rattle.law_coherence.proofs.Lemmas.Steps.{table_at}
use Rattle.law_coherence.proofs.Lemmas.Histories.{safe_history}
use Rattle.network_spec.specs.declared.chain.ChainSpec.{ChainSpec}
use Rattle.network_spec.specs.declared.network.NetworkSpec.{NetworkSpec}
use Rattle.network_steps.specs.Genesis.{member_of, first_world}
use Rattle.network_steps.specs.Openable.{IsOpenableChain, IsOpenable}
use Rattle.network_steps.specs.Worlds.{Member, World, parts_of}
use Rattle.law_runs.specs.Views.{table_of, seen}
use Rattle.law_runs.proofs.Lemmas.Safety.{stock_of, burned_of, held_of}
use Rattle.law_steps.specs.Views.{views}
use Rattle.law_steps.specs.Bounds.{IsSoundGenesis}
use Rattle.law_steps.proofs.Lemmas.Stepping.{kept_by}
use Rattle.law_steps.specs.Worlds.{AreSoundParts}
use Rattle.law_steps.proofs.Lemmas.Worlds.{IsReached}
use Rattle.supply_audit.specs.Places.{placed_at, burned_at, account_balance, teleports_at}
use Rattle.supply_audit.specs.Supply.{Debt, if_home, supply_at_homes, teleports_in_flight, burned_at_homes, chain_at, debt_between, debt_by, debt_of_row, debt_of_chain, debt_at, held_at_reserve, owed_by, of_debt}
use Rattle.law_audits.specs.Printed.{IsPrinted}
use Rattle.law_audits.proofs.Places.{placed_same, burned_same, account_same}
use Rattle.law_audits.proofs.Messages.{IsTold, flight_is, deposits_are, withdrawals_are}

-- ---- one chain
module _ (p : ChainPart) (told : IsTold p) (a : UniversalAsset) where
  stock_is : stock a every (seen empty p) ≡ placed_at a p
  stock_is =
      let stands = stock_of a every empty p p.site refl in
      let z = total-empty unit_keys (is_unit_at (path_of_site p.site) a every) in
      let same = placed_same p told.once told.sound.listed a in
      omega (arith, stands, z, same)

  burned_is : sums.burned a (seen empty p) ≡ burned_at a p
  burned_is = burned_of a empty p p.site refl ∙ sym (burned_same p told.once told.sound.listed a)

  held_is : (chain : ChainId) → sums.held_for chain a Whole (seen empty p) ≡ account_balance (sovereign_account p.site.chain chain) a p
  held_is chain = held_of chain a Whole empty p p.site refl ∙ sym (account_same p told.once told.sound.listed a (sovereign_account p.site.chain chain))

  home_is : if_home (placed_at a) a p + if_home (teleports_at a) a p + if_home (burned_at a) a p ≡ sums.home a (seen empty p)
  unfolding sums.home
  home_is =
      let one = stock_is in
      let two = flight_is p told a in
      let three = burned_is in
      let all : placed_at a p + teleports_at a p + burned_at a p ≡ own a (seen empty p) = omega (arith, one, two, three) in
      elim (is_home a (table_of p)) as (λ b. (if b then placed_at a p else 0) + (if b then teleports_at a p else 0) + (if b then burned_at a p else 0) ≡ (if b then own a (seen empty p) else 0)) [ true ↦ all | false ↦ refl ]

-- ---- all chains
abbrev AreTold : World → Type 0
AreTold w = AllByRecursion (λ (m : Member). IsTold m.part) w

supply_is : (a : UniversalAsset) (w : World) → AreTold w → supply_at_homes a (parts_of w) + teleports_in_flight a (parts_of w) + burned_at_homes a (parts_of w) ≡ supply a (views w)
unfolding supply
supply_is a [] told = refl
supply_is a (m ∷ w) told =
    let here = home_is m.part told.0 a in
    let rest = supply_is a w told.1 in
    let x = sum_by-cons (if_home (placed_at a) a) m.part (parts_of w) in
    let y = sum_by-cons (if_home (teleports_at a) a) m.part (parts_of w) in
    let z = sum_by-cons (if_home (burned_at a) a) m.part (parts_of w) in
    let all = sum_by-cons (sums.home a) (seen empty m.part) (views w) in
    omega (arith, here, rest, x, y, z, all)

-- ---- backing
found_at : (test : ChainPart → Bool) (w : World) (p : ChainPart) → find test (parts_of w) ≡ Some p → (k : ℕ) × (slice_get (parts_of w) k ≡ Some p) × (test p ≡ true)
found_at test [] p e = absurd cc
found_at test (m ∷ w) p e =
    elim (test m.part) as (λ b. test m.part ≡ b → (if b then Some m.part else find test (parts_of w)) ≡ Some p → (k : ℕ) × (slice_get (parts_of (m ∷ w)) k ≡ Some p) × (test p ≡ true)) [
      | true ↦ λ t h. let same : m.part ≡ p = cc in (0, h, ap test (sym same) ∙ t)
      | false ↦ λ t h. let rest = found_at test w p h in (suc rest.0, rest.1, rest.2)
    ] refl e

seen_at : (w : World) (k : ℕ) (p : ChainPart) → slice_get (parts_of w) k ≡ Some p → slice_get (views w) k ≡ Some (seen empty p)
seen_at [] k p at = absurd cc
seen_at (m ∷ w) zero p at = let same : m.part ≡ p = cc in ap (λ (q : ChainPart). Some (seen empty q)) same
seen_at (m ∷ w) (suc k) p at = seen_at w k p at

told_at : (w : World) (k : ℕ) (p : ChainPart) → AreTold w → slice_get (parts_of w) k ≡ Some p → IsTold p
told_at [] k p told at = absurd cc
told_at (m ∷ w) zero p told at = let same : m.part ≡ p = cc in subst IsTold same told.0
told_at (m ∷ w) (suc k) p told at = told_at w k p told.1 at

same_part : (x y : sums.Part) → Some x ≡ Some y → x ≡ y
same_part x y e = cc

same_reserve : (x y : ChainId) → Derivative x ≡ Derivative y → x ≡ y
same_reserve x y e = cc

module _ (w : World) (told : AreTold w) (agrees : Agrees (tables_of (views w))) (backed : Backed (views w)) (below : (a : UniversalAsset) → supply a (views w) < 2 ^ 127) where
  -- the reserve is a home of the asset
  reserve_is_home : (here there : ChainPart) (row : AssetRow) (i j n : ℕ) → slice_get (parts_of w) i ≡ Some here → slice_get (parts_of w) j ≡ Some there → slice_get here.rows n ≡ Some row → row.role ≡ Derivative there.site.chain
      → is_home (asset_of_row (table_of here) row) (table_of there) ≡ true
  reserve_is_home here there row i j n at_i at_j at role =
      let r = reserve_of (views w) agrees i (seen empty here) row there.site.chain (seen_at w i here at_i) (n, at) role in
      let at_there = seen_at w j there at_j in
      let chain : sums.chain_of_part r.part ≡ there.site.chain = same_reserve (sums.chain_of_part r.part) there.site.chain (sym r.role ∙ role) in
      let place : r.place ≡ j = agrees.network.apart r.place j r.part.table (table_of there) (table_at (views w) r.place r.part r.at) (table_at (views w) j (seen empty there) at_there) chain in
      let same : r.part ≡ seen empty there = same_part r.part (seen empty there) (sym r.at ∙ ap (slice_get (views w)) place ∙ at_there) in
      ap (λ (p : sums.Part). is_home (asset_of_row (table_of here) row) p.table) (sym same) ∙ r.native

  abbrev IsCovered : Option Debt → Type 0
  IsCovered d = (of_debt owed_by d ≤ of_debt held_at_reserve d) × (of_debt held_at_reserve d < 2 ^ 127)

  no_debt : IsCovered None
  no_debt = (omega arith, omega arith)

  between_covered : (here there : ChainPart) (row : AssetRow) (i j n : ℕ) → slice_get (parts_of w) i ≡ Some here → slice_get (parts_of w) j ≡ Some there → slice_get here.rows n ≡ Some row → row.role ≡ Derivative there.site.chain
      → IsCovered (Some (record { here = here; there = there; row = row }))
  between_covered here there row i j n at_i at_j at role =
      let a = asset_of_row (table_of here) row in
      let told_here = told_at w i here told at_i in
      let told_there = told_at w j there told at_j in
      let le = backed i j (seen empty here) (seen empty there) row Whole (seen_at w i here at_i) (seen_at w j there at_j) (n, at) role in
      let stands = stock_is here told_here a in
      let back = withdrawals_are here told_here a there.site.chain in
      let comes = deposits_are there told_there a here.site.chain in
      let holds = held_is there told_there a here.site.chain in
      let some = account_at_most (sovereign_account there.site.chain here.site.chain) a every (seen empty there) in
      let all = home_at_most (views w) agrees a j (seen empty there) (seen_at w j there at_j) (reserve_is_home here there row i j n at_i at_j at role) in
      let few = below a in
      (omega (arith, le, stands, back, comes, holds), omega (arith, holds, some, all, few))

  reserve_covered : (here : ChainPart) (row : AssetRow) (reserve : ChainId) (i n : ℕ) → slice_get (parts_of w) i ≡ Some here → slice_get here.rows n ≡ Some row → row.role ≡ Derivative reserve
      → (o : Option ChainPart) → chain_at (parts_of w) reserve ≡ o → IsCovered (debt_between here row o)
  reserve_covered here row reserve i n at_i at role None e = no_debt
  reserve_covered here row reserve i n at_i at role (Some there) e =
      let found = found_at (λ (p : ChainPart). same_chain p.site.chain reserve) w there e in
      between_covered here there row i found.0 n at_i found.1 at (role ∙ ap Derivative (sym (same_chain_told there.site.chain reserve found.2)))

  role_covered : (here : ChainPart) (row : AssetRow) (i n : ℕ) → slice_get (parts_of w) i ≡ Some here → slice_get here.rows n ≡ Some row → (role : AssetRole) → row.role ≡ role → IsCovered (debt_by (parts_of w) here row role)
  role_covered here row i n at_i at (Native partners checking) e = no_debt
  role_covered here row i n at_i at (Derivative reserve) e = reserve_covered here row reserve i n at_i at e (chain_at (parts_of w) reserve) refl

  row_covered : (here : ChainPart) (i n : ℕ) → slice_get (parts_of w) i ≡ Some here → (o : Option AssetRow) → slice_get here.rows n ≡ o → IsCovered (debt_of_row (parts_of w) here o)
  row_covered here i n at_i None e = no_debt
  row_covered here i n at_i (Some row) e = role_covered here row i n at_i e row.role refl

  chain_covered : (chain : ChainId) (n : ℕ) (o : Option ChainPart) → chain_at (parts_of w) chain ≡ o → IsCovered (debt_of_chain (parts_of w) n o)
  chain_covered chain n None e = no_debt
  chain_covered chain n (Some here) e =
      let found = found_at (λ (p : ChainPart). same_chain p.site.chain chain) w here e in
      row_covered here found.0 n found.1 (slice_get here.rows n) refl

  all_covered : (chain : ChainId) (row : ℕ) → IsCovered (debt_at (parts_of w) chain row)
  all_covered chain row = chain_covered chain row (chain_at (parts_of w) chain) refl

-- ---- each asset is listed once
abbrev pub IsListedOnce : Table → Type 0
IsListedOnce t = IsDistinct (eq_by_cmp listed_cmp) (listing t.rows)

first_once : (spec : NetworkSpec) (cs : List ChainSpec) → All (IsOpenableChain spec.network) cs → AllByRecursion IsListedOnce (tables_of (views (map (member_of spec) cs)))
first_once spec [] all = tt
first_once spec (c ∷ cs) all =
    ((all 0 c (omega arith)).listed_once, first_once spec cs (λ i d few. all (suc i) d (omega (arith, few))))

are_told : (w : World) → AllByRecursion IsListedOnce (tables_of (views w)) → AreSoundParts w → AreTold w
are_told [] once sound = tt
are_told (m ∷ w) once sound = (record { once = once.0; sound = sound 0 m refl }, are_told w once.1 (λ k n at. sound (suc k) n at))

-- ---- every world
module _ (first : World) (once : AllByRecursion IsListedOnce (tables_of (views first))) (parts : AreSoundParts first) (genesis : IsSoundGenesis (views first))
    (single : (a : UniversalAsset) (instance : Instance) → sums.population a (just (Some instance)) (views first) ≤ 1) where
  reached_printed : (w : World) → IsReached (views first) w → IsPrinted first w
  reached_printed w reached =
      let kept = kept_by (views first) genesis single (views w) reached.history in
      let same = (safe_history (views first) (views w) genesis.agrees reached.history).tables in
      let told = are_told w (subst (AllByRecursion IsListedOnce) (sym same) once) reached.parts in
      let told_first = are_told first once parts in
      record {
        conserved = λ a. supply_is a w told ∙ kept.conserved a ∙ sym (supply_is a first told_first);
        below = λ a. let few = kept.below a in let all = supply_is a w told in omega (arith, few, all);
        covered = λ chain row. (all_covered w told kept.agrees kept.backed kept.below chain row).0;
        small = λ chain row. (all_covered w told kept.agrees kept.backed kept.below chain row).1;
      }

  pub all_printed : (ws : List World) → AllByRecursion (IsReached (views first)) ws → AllByRecursion (IsPrinted first) ws
  all_printed [] all = tt
  all_printed (w ∷ ws) all = (reached_printed w all.0, all_printed ws all.1)

pub openable_once : (spec : NetworkSpec) → IsOpenable spec → AllByRecursion IsListedOnce (tables_of (views (first_world spec)))
openable_once spec openable = first_once spec spec.chains openable.chains
