-- From the trust that a rule tests to what the moves need: a taken unit is shared, a deposited unit is owed, and what
-- one end trusts the other end trusts too.
use Rattle.std.specs.Prelude.{◌≡◌, ℕ, zero, suc, ◌+◌, ◌<◌, Bool, true, false, IsTrue, if◌then◌else◌, List, [], ◌∷◌, Some, find, slice_get, IsSomeAnd, refl}
use Rattle.std.specs.Ordering.{eq_by_cmp}
use Rattle.std.proofs.Common.{sym, ap, ◌∙◌, subst, arith}
use Rattle.std.proofs.lemmas.Option.{slice_get_within, get_or_from_slice_get}
use Rattle.amounts.specs.Rows.{amount_if, sum_where}
use Rattle.amounts.specs.Amounts.{amount, total}
use Rattle.amounts.proofs.Lemmas.{key_same, same_key, amount-map_keys, amount_at_most}
use Rattle.locations.specs.declared.relative.Location.{Location}
use Rattle.locations.specs.Chains.{path_of}
use Rattle.asset_lists.specs.declared.units.AssetId.TheVariants.{Concrete}
use Rattle.asset_lists.specs.declared.units.Asset.{Asset}
use Rattle.asset_lists.specs.Units.{Unit, unit_of, amount_of, unit_cmp}
use Rattle.asset_lists.specs.Moves.{all_reanchored}
use Rattle.asset_lists.specs.Listed.{kind_of}
use Rattle.asset_bundles.specs.Bundles.{bundle_of, rows_of}
use Rattle.asset_bundles.proofs.Lemmas.Bundles.{unit_keys}
use Rattle.asset_bundles.proofs.Lemmas.BundleLaws.{amount-bundle_of}
use Rattle.asset_bundles.specs.Landing.{renamed, Renamed}
use Rattle.trust_tables.specs.declared.rows.AssetRow.{AssetRow}
use Rattle.trust_tables.specs.declared.rows.AssetRole.TheVariants.{Derivative}
use Rattle.trust_tables.specs.Chains.{location_of}
use Rattle.trust_tables.proofs.Lemmas.ChainLaws.{chain_of_one}
use Rattle.trust_tables.specs.Trust.{is_row_of, is_reserve, is_partner, IsRowOf, IsPartnerRole}
use Rattle.trust_tables.proofs.Lemmas.TrustLaws.{is_row_of_says, is_partner_says}
use Rattle.law_coherence.specs.UniversalAssets.{UniversalAsset, Choice, is_unit_at, IsPlaced}
use Rattle.law_coherence.specs.Renaming.{HasReanchorableUnits}
use Rattle.law_coherence.proofs.Lemmas.Renaming.{unit_kept, moved_amount, all_named}
use Rattle.law_coherence.specs.Networks.{Table, context_of, IsIn, Agrees, IsUnitOf}
use Rattle.law_coherence.proofs.Lemmas.Twins.{leads_to, near}
use Rattle.law_coherence.specs.Trusting.{IsShared}
use Rattle.law_coherence.proofs.Lemmas.Trusting.{IsOwed, of_partner, of_reserve}
use Rattle.law_coherence.specs.Cargoes.{IsDepositFor}

table_same : (x y : Table) → Some x ≡ Some y → x ≡ y
table_same x y e = cc

-- an asset of the unit is in the list
asset_of_unit : (xs : List Asset) (v : Unit) → 0 < sum_where (eq_by_cmp unit_cmp v) (rows_of xs) → (a : Asset) × IsIn xs a × (unit_of a ≡ v)
asset_of_unit [] v some = absurd (omega (arith, some))
asset_of_unit (a ∷ xs) v some =
    elim (eq_by_cmp unit_cmp v (unit_of a)) as (λ b. eq_by_cmp unit_cmp v (unit_of a) ≡ b → (x : Asset) × IsIn (a ∷ xs) x × (unit_of x ≡ v)) [
      | true ↦ λ t. (a, (0, refl), sym (key_same unit_keys v (unit_of a) t))
      | false ↦ λ t.
          let rest : 0 < amount_if false (amount_of a) + sum_where (eq_by_cmp unit_cmp v) (rows_of xs) = subst (λ b. 0 < amount_if b (amount_of a) + sum_where (eq_by_cmp unit_cmp v) (rows_of xs)) t some in
          let found = asset_of_unit xs v (omega (arith, rest)) in
          (found.0, (suc found.1.0, found.1.1), found.2)
    ] refl

location_same : (a b : Location) → Concrete a ≡ Concrete b → a ≡ b
location_same a b e = cc

pub finds : {A : Type 0} (p : A → Bool) (xs : List A) (k : ℕ) (x : A) → slice_get xs k ≡ Some x → p x ≡ true → (y : A) × (find p xs ≡ Some y) × IsIn xs y × (p y ≡ true)
finds p [] k x at passes = absurd (cc)
finds p (z ∷ zs) zero x at passes =
    let same : z ≡ x = cc in
    let here : p z ≡ true = ap p same ∙ passes in
    (z, ap (λ b. if b then Some z else find p zs) here, (0, refl), here)
finds p (z ∷ zs) (suc k) x at passes =
    let rest = finds p zs k x at passes in
    elim (p z) as (λ b. p z ≡ b → (y : _) × ((if b then Some z else find p zs) ≡ Some y) × IsIn (z ∷ zs) y × (p y ≡ true)) [
      | true ↦ λ t. (z, refl, (0, refl), t)
      | false ↦ λ t. (rest.0, rest.1, (suc rest.2.0, rest.2.1), rest.3)
    ] refl

module _ (n : List Table) (agrees : Agrees n) (s t : Table) (s_in : IsIn n s) (t_in : IsIn n t) (l m : Location) (leads : location_of s.site.chain t.site.chain ≡ Some l) (back : location_of t.site.chain s.site.chain ≡ Some m) where
  one_table : (x y : Table) → IsIn n x → IsIn n y → x.site.chain ≡ y.site.chain → x ≡ y
  one_table x y x_in y_in same =
      let place : x_in.0 ≡ y_in.0 = agrees.network.apart x_in.0 y_in.0 x y x_in.1 y_in.1 same in
      table_same x y (sym x_in.1 ∙ ap (slice_get n) place ∙ y_in.1)

  -- a partner at the location is that table
  pub shared_there : (a : Asset) → IsTrue (is_partner s.rows s.site a l) → IsShared s t (unit_of a)
  shared_there a trusted =
      let found = of_partner n agrees s s_in a l trusted in
      let chain : found.0.site.chain ≡ t.site.chain = chain_of_one s.site.chain found.0.site.chain t.site.chain l found.1.leads leads in
      subst (λ x. IsShared s x (unit_of a)) (one_table found.0 t found.1.listed t_in chain) found.2

  pub owed_there : (a : Asset) → IsTrue (is_reserve s.rows s.site a l) → IsOwed s t (unit_of a)
  owed_there a trusted =
      let found = of_reserve n agrees s s_in a l trusted in
      let chain : found.0.site.chain ≡ t.site.chain = chain_of_one s.site.chain found.0.site.chain t.site.chain l found.1.leads leads in
      subst (λ x. IsOwed s x (unit_of a)) (one_table found.0 t found.1.listed t_in chain) found.2

  -- a deposit whose list the receiver trusts is owed by the receiver, unit by unit
  pub deposit_for : (xs new all : List Asset) → all_reanchored l (context_of s) xs ≡ Some all → bundle_of new ≡ Renamed l (context_of s) (bundle_of xs)
      → ((a : Asset) → IsIn new a → IsTrue (is_reserve t.rows t.site a m)) → (u : Unit) → 0 < amount (bundle_of xs) u → IsPlaced (context_of s) u.0 → IsDepositFor s t u
  unfolding Renamed
  deposit_for xs new all moved lands trusted u held placed =
      let v : Unit = renamed l (context_of s) u in
      let place = leads_to n agrees s t s_in t_in l leads in
      let named = all_named l (context_of s) xs all moved u (subst (λ k. 0 < k) (amount-bundle_of xs u) held) in
      let counted = amount_at_most unit_keys (λ w. eq_by_cmp unit_cmp v (renamed l (context_of s) w)) (bundle_of xs) u (same_key unit_keys v) in
      let there : amount (bundle_of new) v ≡ total (λ w. eq_by_cmp unit_cmp v (renamed l (context_of s) w)) (bundle_of xs) = ap (λ b. amount b v) lands ∙ amount-map_keys {S = unit_cmp} unit_keys (renamed l (context_of s)) (bundle_of xs) v in
      let rows = amount-bundle_of new v in
      let found = asset_of_unit new v (omega (arith, held, counted, there, rows)) in
      let owed = of_reserve n agrees t t_in found.0 m (trusted found.0 found.1) in
      let chain : owed.0.site.chain ≡ s.site.chain = chain_of_one t.site.chain owed.0.site.chain s.site.chain m owed.1.leads back in
      record {
        unit = v;
        alike = λ a choice. sym (subst (λ c. is_unit_at c a choice v ≡ is_unit_at (context_of s) a choice u) place (unit_kept l (context_of s) a choice u (near n agrees s t s_in t_in l leads).placed placed named));
        row = owed.2.twin.row;
        listed = owed.2.twin.listed;
        of = subst (λ w. IsUnitOf w owed.2.twin.row) found.2 owed.2.twin.unit;
        derivative = owed.2.here ∙ ap Derivative chain;
      }

  -- the message's list has at the receiver what the cargo has at the sender, of each asset and of each instance
  pub landed_amount : (xs new all : List Asset) → all_reanchored l (context_of s) xs ≡ Some all → bundle_of new ≡ Renamed l (context_of s) (bundle_of xs) → ((u : Unit) → 0 < amount (bundle_of xs) u → IsPlaced (context_of s) u.0)
      → (a : UniversalAsset) (choice : Choice) → total (is_unit_at (context_of t) a choice) (bundle_of new) ≡ total (is_unit_at (context_of s) a choice) (bundle_of xs)
  landed_amount xs new all moved lands placed a choice =
      let named : HasReanchorableUnits l (context_of s) (bundle_of xs) = record { placed = placed; named = λ u held. all_named l (context_of s) xs all moved u (subst (λ k. 0 < k) (amount-bundle_of xs u) held) } in
      ap (total (is_unit_at (context_of t) a choice)) lands
      ∙ subst (λ c. total (is_unit_at c a choice) (Renamed l (context_of s) (bundle_of xs)) ≡ total (is_unit_at (context_of s) a choice) (bundle_of xs)) (leads_to n agrees s t s_in t_in l leads)
      (moved_amount l (context_of s) a choice (bundle_of xs) (near n agrees s t s_in t_in l leads).placed named)

  -- what the sender teleports there, the receiver trusts
  pub partner_there : (u : Unit) (a : Asset) → (h : IsShared s t u) → unit_of a ≡ (Concrete h.twin.twin.id, u.1) → IsTrue (is_partner t.rows t.site a m)
  partner_there u a h same =
      let y = h.twin.twin in
      let of : IsRowOf a y = (ap (λ (w : Unit). w.0) same, ap (λ (w : Unit). kind_of w.1) same ∙ h.twin.unit.kind ∙ sym h.twin.twins.kind) in
      let found = finds (is_row_of a) t.rows h.twin.twins.there.0 y h.twin.twins.there.1 ((is_row_of_says a y).1 of) in
      let says = (is_row_of_says a found.0).0 found.3 in
      let ids : found.0.id ≡ y.id = location_same found.0.id y.id (sym says.0 ∙ of.0) in
      let row : found.0 ≡ y = agrees.paths_apart t found.0 y t_in found.2 h.twin.twins.there (ap (path_of (context_of t)) ids) in
      let role : IsPartnerRole t.site.chain m found.0.role = subst (IsPartnerRole t.site.chain m) (sym h.there.2 ∙ ap (λ (r : AssetRow). r.role) (sym row))
      (h.there.3.0, s.site.chain, slice_get_within h.there.0 h.there.3.0 s.site.chain h.there.3.1, get_or_from_slice_get h.there.0 h.there.3.0 s.site.chain s.site.chain h.there.3.1, back) in
      (is_partner_says t.rows t.site a m).1 (subst (λ o. IsSomeAnd o (λ r. IsPartnerRole t.site.chain m r.role)) (sym found.1) role)
