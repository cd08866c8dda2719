-- An instance that a chain has at most once by its id, it has at most once by its path.
use Rattle.std.specs.Prelude.{◌≡◌, ℕ, ◌+◌, ◌<◌, ◌≤◌, Bool, true, false, List, [], ◌∷◌, Option, Some, None, refl}
use Rattle.std.specs.Ordering.{eq_by_cmp}
use Rattle.std.specs.Option.{option_cmp}
use Rattle.std.specs.declared.cmp.Ordering.{Ordering}
use Rattle.std.proofs.Common.{sym, ap, ◌∙◌, subst, arith, inl, inr}
use Rattle.std.proofs.lemmas.Bool.{cases_lt, and_parts}
use Rattle.amounts.specs.Rows.{amount_if, sum_where}
use Rattle.amounts.proofs.Lemmas.Rows.{IsKeyOrder}
use Rattle.amounts.specs.Amounts.{Amounts, amount, total, rows}
use Rattle.amounts.proofs.Lemmas.AmountLaws.{total-rows, amount-total}
use Rattle.amounts.proofs.Lemmas.{same_key, key_same}
use Rattle.asset_lists.specs.declared.units.AssetId.TheVariants.{Concrete}
use Rattle.asset_lists.specs.declared.units.Instance.{Instance}
use Rattle.asset_lists.specs.Units.{Unit, unit_cmp, instance_cmp}
use Rattle.asset_lists.specs.UnitLaws.{instance_total}
use Rattle.asset_lists.proofs.Lemmas.UnitLaws.{instance_exact}
use Rattle.asset_lists.specs.Listed.{kind_of, listed_of}
use Rattle.ledgers.specs.Ledgers.{Holder, owners_of}
use Rattle.amounts.proofs.Lemmas.{total_alike_held}
use Rattle.law_coherence.specs.UniversalAssets.{UniversalAsset, just, is_asset_at, is_unit_at}
use Rattle.law_coherence.specs.Networks.{Table, context_of, IsIn, asset_of_row, Agrees}
use Rattle.law_coherence.specs.Causes.{ChainEntry, amount_at}
use Rattle.law_coherence.proofs.Lemmas.Cargoes.{IsRowAsset, row_told}
use Rattle.law_coherence.specs.Payments.{AreHeldListed, IsJust}
use Rattle.law_coherence.proofs.Lemmas.Payments.{only_unit}
use Rattle.ledgers.proofs.Lemmas.{holder_keys}
use Rattle.law_coherence.specs.Genesis.{HasInstancesOnce}

option_told : (a b : Option Instance) → eq_by_cmp (option_cmp instance_cmp) a b ≡ true → a ≡ b
option_told None None e = refl
option_told None (Some j) e = absurd (cc)
option_told (Some i) None e = absurd (cc)
option_told (Some i) (Some j) e = ap Some (key_same (record { total = instance_total; exact = instance_exact }) i j e)

instance_itself : (i : Instance) → eq_by_cmp (option_cmp instance_cmp) (Some i) (Some i) ≡ true
instance_itself i = same_key {R = instance_cmp} (record { total = instance_total; exact = instance_exact }) i

module _ {K : Type 0} {R : K → K → Ordering} (o : IsKeyOrder R) where
  -- where a total isn't 0, the map has something that passes
  some_held : (p : K → Bool) (es : List (K × ℕ)) → 0 < sum_where p es → (k : K) × (p k ≡ true) × (0 < sum_where (eq_by_cmp R k) es)
  some_held p [] some = absurd (omega (arith, some))
  some_held p (e ∷ es) some =
      let counted : amount_if (eq_by_cmp R e.0 e.0) e.1 ≡ e.1 = ap (λ b. amount_if b e.1) (same_key o e.0) in
      elim (cases_lt 0 (sum_where p es)) [
        | inl later ↦ let rest = some_held p es later in (rest.0, rest.1, let more = rest.2 in omega (arith, more))
        | inr none ↦ elim (p e.0) as (λ b. p e.0 ≡ b → (k : K) × (p k ≡ true) × (0 < sum_where (eq_by_cmp R k) (e ∷ es))) [
          | true ↦ λ t.
              let here : 0 < amount_if true e.1 + sum_where p es = subst (λ b. 0 < amount_if b e.1 + sum_where p es) t some in
              (e.0, t, omega (arith, here, none, counted))
          | false ↦ λ t.
              let here : 0 < amount_if false e.1 + sum_where p es = subst (λ b. 0 < amount_if b e.1 + sum_where p es) t some in
              absurd (omega (arith, here, none))
        ] refl
      ]

  pub some_key : (p : K → Bool) (m : Amounts R) → 0 < total p m → (k : K) × (p k ≡ true) × (0 < amount m k)
  some_key p m some =
      let found = some_held p (rows m) (subst (λ n. 0 < n) (sym (total-rows p m)) some) in
      (found.0, found.1, subst (λ n. 0 < n) (total-rows (eq_by_cmp R found.0) m ∙ sym (amount-total o m found.0)) found.2)

pub instances_once : (n : List Table) → Agrees n → (e : ChainEntry) → IsIn n e.table → AreHeldListed e.table e.held → ((unit : Unit) (i : Instance) → unit.1 ≡ Some i → owners_of unit e.held ≤ 1) → HasInstancesOnce e
instances_once n agrees e e_in listed once a i = elim (cases_lt 0 (amount_at a (just (Some i)) e)) [
  | inr none ↦ omega (arith, none)
  | inl some ↦
      let found = some_key holder_keys (λ (h : Holder). is_unit_at (context_of e.table) a (just (Some i)) h.1) e.held some in
      let row = listed found.0 found.2 in
      let of : IsRowAsset e.table row.0 a = row_told e.table a (just (Some i)) found.0.1 row.0 row.2 found.1 in
      let asset : ◌≡◌ {A = UniversalAsset} (asset_of_row e.table row.0) a = λ k. (of.path k, of.kind k) in
      let parts = and_parts (is_asset_at (context_of e.table) a (listed_of found.0.1)) (just (Some i) found.0.1.1) found.1 in
      let instance : Some i ≡ found.0.1.1 = option_told (Some i) found.0.1.1 parts.1 in
      let picks : IsJust row.0.kind (just (Some i)) (Some i) = record { kind = ap kind_of instance ∙ row.2.kind; taken = instance_itself i; only = λ other kinds passes. option_told (Some i) other passes } in
      let alike : total (λ (h : Holder). is_unit_at (context_of e.table) (asset_of_row e.table row.0) (just (Some i)) h.1) e.held ≡ owners_of (Concrete row.0.id, Some i) e.held =
      total_alike_held holder_keys (λ (h : Holder). is_unit_at (context_of e.table) (asset_of_row e.table row.0) (just (Some i)) h.1) (λ (h : Holder). eq_by_cmp unit_cmp (Concrete row.0.id, Some i) h.1) e.held
      (λ h some. let other = listed h some in only_unit n agrees e.table e_in row.0 row.1 (just (Some i)) (Some i) picks h.1 other.0 other.1 other.2) in
      let few = once (Concrete row.0.id, Some i) i refl in
      subst (λ b. total (λ (h : Holder). is_unit_at (context_of e.table) b (just (Some i)) h.1) e.held ≤ 1) asset (omega (arith, alike, few))
]
