-- Lemmas that proofs cite. A reader of the definitions may skip this file.
pub mod HoldingLaws
pub mod RowLaws
pub mod Shown
use Rattle.std.proofs.Common.{◌≡◌, ℕ, ◌<◌, Bool, false, List, inl, inr, sym, ap, ◌∙◌, arith}
use Rattle.std.specs.Ordering.{eq_by_cmp}
use Rattle.std.proofs.lemmas.Bool.{cases_Bool}
use Rattle.amounts.proofs.Lemmas.Rows.{IsKeyOrder}
use Rattle.amounts.proofs.Lemmas.Keys.{number_keys, list_keys, pair_keys}
use Rattle.amounts.specs.Amounts.{amount, total, merge, difference}
use Rattle.amounts.proofs.Lemmas.{key_same, total_none, total-map_keys, amount-map_keys, amount-merge, amount-difference}
use Rattle.asset_lists.specs.Units.{Unit, unit_cmp}
use Rattle.asset_bundles.specs.Bundles.{Bundle}
use Rattle.asset_bundles.proofs.Lemmas.Bundles.{unit_keys}
use Rattle.ledgers.specs.Ledgers.{Holder, account_cmp, holder_cmp, Held, IsOther, held_by}

pub account_keys : IsKeyOrder account_cmp
account_keys = list_keys number_keys

pub holder_keys : IsKeyOrder holder_cmp
holder_keys = pair_keys account_keys unit_keys

-- ---- goods as what an account holds
pub held_by_total : (p : Holder → Bool) (who : List ℕ) (goods : Bundle) → total p (held_by who goods) ≡ total (λ unit. p (who, unit)) goods
unfolding held_by
held_by_total p who goods = total-map_keys {S = unit_cmp} holder_keys p (λ (unit : Unit). (who, unit)) goods

not_here : (who : List ℕ) (goods : Bundle) (q : Holder) → IsOther who goods q → (u : Unit) → 0 < amount goods u → eq_by_cmp holder_cmp q (who, u) ≡ false
not_here who goods q other u some =
    elim (cases_Bool (eq_by_cmp holder_cmp q (who, u))) [
      | inl same ↦ (let e : q ≡ (who, u) = key_same holder_keys q (who, u) same in
          let none : amount goods q.1 ≡ 0 = other (sym (ap (λ (h : Holder). h.0) e)) in
          let unit : amount goods u ≡ amount goods q.1 = ap (λ (h : Holder). amount goods h.1) (sym e) in
          absurd (omega (arith, some, none, unit)))
      | inr apart ↦ apart
    ]

-- another holder has nothing of them
pub held_by_other : (who : List ℕ) (goods : Bundle) (q : Holder) → IsOther who goods q → amount (held_by who goods) q ≡ 0
unfolding held_by
held_by_other who goods q other =
    amount-map_keys {S = unit_cmp} holder_keys (λ (unit : Unit). (who, unit)) goods q
    ∙ total_none unit_keys (λ (u : Unit). eq_by_cmp holder_cmp q (who, u)) goods (not_here who goods q other)

pub less_other : (held : Held) (who : List ℕ) (goods : Bundle) (q : Holder) → IsOther who goods q → amount (difference held (held_by who goods)) q ≡ amount held q
less_other held who goods q other =
    let left = amount-difference holder_keys held (held_by who goods) q in
    let none = held_by_other who goods q other in
    omega (arith, left, none)

pub more_other : (held : Held) (who : List ℕ) (goods : Bundle) (q : Holder) → IsOther who goods q → amount (merge held (held_by who goods)) q ≡ amount held q
more_other held who goods q other =
    let sum = amount-merge holder_keys held (held_by who goods) q in
    let none = held_by_other who goods q other in
    omega (arith, sum, none)
