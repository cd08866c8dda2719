-- A list that isn't refused leaves each account its floors.
use Rattle.std.proofs.Common.{◌≡◌, ◌⊎◌, ℕ, ◌+◌, ◌≤◌, false, if◌then◌else◌, List, [], ◌∷◌, ⊎_elim, inl, inr, refl, sym, ap, ◌∙◌, subst, arith, true≢false}
use Rattle.std.specs.Prelude.{Option, None, Some, nat_lt, unwrap_or}
use Rattle.std.specs.FinMap.{find}
use Rattle.std.specs.Ordering.{eq_by_cmp}
use Rattle.std.specs.declared.cmp.Ordering.{Ordering}
use Rattle.std.proofs.lemmas.Bool.{cases_Bool}
use Rattle.amounts.proofs.Lemmas.Rows.{IsKeyOrder}
use Rattle.amounts.specs.Amounts.{amount, difference}
use Rattle.amounts.proofs.Lemmas.AmountLaws.{total_alike, amount-total}
use Rattle.amounts.proofs.Lemmas.{same_key, key_same, amount-merge, amount-difference}
use Rattle.asset_lists.specs.declared.units.Asset.{Asset}
use Rattle.asset_lists.specs.Units.{Unit, unit_of, unit_cmp, amount_of}
use Rattle.asset_bundles.specs.Bundles.{Bundle, rows_of, bundle_of, IsHolding, found}
use Rattle.asset_bundles.proofs.Lemmas.Bundles.{unit_keys}
use Rattle.asset_bundles.proofs.Lemmas.BundleLaws.{found-holding}
use Rattle.ledgers.specs.Ledgers.{Holder, account_cmp, holder_cmp, Held, Accounts, held_by}
use Rattle.ledgers.proofs.Lemmas.{account_keys, holder_keys, held_by_total, less_other}
use Rattle.trust_tables.specs.declared.rows.AssetRow.{AssetRow}
use Rattle.transactors.specs.Floors.{UnitFloors, KeepsFloors}
use Rattle.transactors.specs.Checks.{check_out}
use Rattle.transactors.specs.Moves.{first_move_fault, after_withdrawal, after_deposit, after_transfer, withdraw_fault, transfer_fault}
use Rattle.transactors.proofs.Moving.{both_none, nothing_lacked}

-- ---- what an account has of goods
apart : {K : Type 0} {R : K → K → Ordering} (o : IsKeyOrder R) (j k : K) → (j ≡ k → ⊥) → eq_by_cmp R j k ≡ false
apart {R = R} o j k other = elim (cases_Bool (eq_by_cmp R j k)) [ inl t ↦ absurd (other (key_same o j k t)) | inr f ↦ f ]

same_test : (who : List ℕ) (u v : Unit) → eq_by_cmp holder_cmp (who, u) (who, v) ≡ eq_by_cmp unit_cmp u v
same_test who u v = elim (cases_Bool (eq_by_cmp unit_cmp u v)) [
  | inl t ↦ ap (λ (w : Unit). eq_by_cmp holder_cmp (who, u) (who, w)) (sym (key_same unit_keys u v t)) ∙ same_key holder_keys (who, u) ∙ sym t
  | inr f ↦ apart holder_keys (who, u) (who, v) (λ e. true≢false (sym (same_key unit_keys u) ∙ ap (λ (h : Holder). eq_by_cmp unit_cmp u h.1) e ∙ f)) ∙ sym f
]

held_here : (who : List ℕ) (goods : Bundle) (u : Unit) → amount (held_by who goods) (who, u) ≡ amount goods u
held_here who goods u =
    amount-total holder_keys (held_by who goods) (who, u)
    ∙ held_by_total (eq_by_cmp holder_cmp (who, u)) who goods
    ∙ total_alike (λ v. eq_by_cmp holder_cmp (who, u) (who, v)) (eq_by_cmp unit_cmp u) goods (same_test who u)
    ∙ sym (amount-total unit_keys goods u)

at_most : (have n floor : ℕ) → nat_lt have (n + floor) ≡ false → n + floor ≤ have
at_most have n floor h = grind (arith, h)

-- ---- what may be given
module _ (rows : List AssetRow) (floors : UnitFloors) (held : Held) (from : Option (List ℕ)) (who : List ℕ) (is : from ≡ Some who) where
  covered : (list : List Asset) (u : Unit) → first_move_fault (check_out rows floors held from) list ≡ None → (found u list ≡ 0) ⊎ (found u list + floors who u ≤ amount held (who, u))
  covered [] u ok = inl refl
  covered (a ∷ rest) u ok =
      let parts = both_none _ _ ok in
      elim (cases_Bool (eq_by_cmp unit_cmp u (unit_of a))) [
        | inl t ↦ (
            let same : u ≡ unit_of a = key_same unit_keys u (unit_of a) t in
            let enough = at_most (amount held (who, unit_of a)) (amount_of a) (floors who (unit_of a)) (nothing_lacked rows floors held from who a is parts.0) in
            let here : amount_of a + floors who u ≤ amount held (who, u) = subst (λ (v : Unit). amount_of a + floors who v ≤ amount held (who, v)) (sym same) enough in
            inr (subst (λ b. unwrap_or (if b then Some (amount_of a) else find unit_cmp u (rows_of rest)) 0 + floors who u ≤ amount held (who, u)) (sym t) here))
        | inr f ↦ subst (λ b. (unwrap_or (if b then Some (amount_of a) else find unit_cmp u (rows_of rest)) 0 ≡ 0)
            ⊎ (unwrap_or (if b then Some (amount_of a) else find unit_cmp u (rows_of rest)) 0 + floors who u ≤ amount held (who, u))) (sym f)
            (covered rest u parts.1)
      ]

  left_to : (list : List Asset) (u : Unit) → IsHolding list → first_move_fault (check_out rows floors held from) list ≡ None → floors who u ≤ amount held (who, u)
      → floors who u ≤ amount (difference held (held_by who (bundle_of list))) (who, u)
  left_to list u once ok had =
      let left = amount-difference holder_keys held (held_by who (bundle_of list)) (who, u) in
      let here = held_here who (bundle_of list) u in
      let all = found-holding list u once in
      ⊎_elim (λ (none : found u list ≡ 0). omega (arith, left, here, all, none, had)) (λ (some : found u list + floors who u ≤ amount held (who, u)). omega (arith, left, here, all, some)) (covered list u ok)

  out_kept : (list : List Asset) → IsHolding list → first_move_fault (check_out rows floors held from) list ≡ None → KeepsFloors floors held → KeepsFloors floors (difference held (held_by who (bundle_of list)))
  out_kept list once ok keeps one u =
      elim (cases_Bool (eq_by_cmp account_cmp who one)) [
        | inl same ↦ (
            let the_same : who ≡ one = key_same account_keys who one same in
            subst (λ (w : List ℕ). floors w u ≤ amount (difference held (held_by who (bundle_of list))) (w, u)) the_same (left_to list u once ok (keeps who u)))
        | inr other ↦ (
            let kept = less_other held who (bundle_of list) (one, u) (λ e. absurd (true≢false (sym (same_key account_keys who) ∙ ap (eq_by_cmp account_cmp who) e ∙ other))) in
            let had = keeps one u in
            omega (arith, kept, had))
      ]

-- ---- moves
pub given_keeps : (rows : List AssetRow) (floors : UnitFloors) (ledger : Accounts) (list : List Asset) (from : Option (List ℕ)) → IsHolding list
    → withdraw_fault rows floors ledger list from ≡ None → KeepsFloors floors ledger.held → KeepsFloors floors (after_withdrawal list from ledger).held
given_keeps rows floors ledger list None once ok keeps = keeps
given_keeps rows floors ledger list (Some who) once ok keeps = out_kept rows floors ledger.held (Some who) who refl list once ok keeps

pub got_keeps : (floors : UnitFloors) (ledger : Accounts) (goods : Bundle) (to : Option (List ℕ)) → KeepsFloors floors ledger.held → KeepsFloors floors (after_deposit goods to ledger).held
got_keeps floors ledger goods None keeps = keeps
got_keeps floors ledger goods (Some to) keeps =
    λ who u. let had = keeps who u in let more = amount-merge holder_keys ledger.held (held_by to goods) (who, u) in omega (arith, had, more)

pub moved_keeps : (rows : List AssetRow) (floors : UnitFloors) (ledger : Accounts) (list : List Asset) (from to : Option (List ℕ)) → IsHolding list
    → transfer_fault rows floors ledger list from to ≡ None → KeepsFloors floors ledger.held → KeepsFloors floors (after_transfer list from to ledger).held
moved_keeps rows floors ledger list from to once ok keeps =
    got_keeps floors (after_withdrawal list from ledger) (bundle_of list) to (given_keeps rows floors ledger list from once (both_none _ _ ok).0 keeps)
