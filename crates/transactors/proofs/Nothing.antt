-- A move of nothing.
use Rattle.std.proofs.Common.{◌≡◌, ℕ, List, [], refl, sym, ap, ◌∙◌, arith}
use Rattle.std.specs.Prelude.{Option, None, Some}
use Rattle.amounts.specs.Rows.{rows_at}
use Rattle.amounts.specs.Amounts.{empty, rows, from_rows, plus_all, merge, difference, map_keys}
use Rattle.amounts.proofs.Lemmas.AmountLaws.{amount-empty, same_amounts}
use Rattle.amounts.proofs.Lemmas.{rows-from_rows, merge-empty, amount-difference}
use Rattle.asset_lists.specs.Units.{Unit, unit_cmp}
use Rattle.asset_bundles.specs.Bundles.{bundle_of}
use Rattle.asset_bundles.proofs.Lemmas.Bundles.{unit_keys}
use Rattle.asset_bundles.proofs.Lemmas.BundleLaws.{bundle_of-none}
use Rattle.ledgers.specs.Ledgers.{Held, Accounts, held_by, Withdrawn, Deposited}
use Rattle.ledgers.proofs.Lemmas.{holder_keys}
use Rattle.transactors.specs.Moves.{ledger_at_account, after_transfer}

-- the rows of nothing
rows-nothing : rows (empty {R = unit_cmp}) ≡ []
unfolding from_rows plus_all
rows-nothing = rows-from_rows unit_keys [] tt tt

no_goods : (who : List ℕ) → held_by who (bundle_of []) ≡ empty
unfolding held_by map_keys from_rows plus_all
no_goods who = ap (map_keys (λ (unit : Unit). (who, unit))) bundle_of-none ∙ ap (λ es. from_rows (rows_at (λ (unit : Unit). (who, unit)) es)) rows-nothing

none_less : (held : Held) → difference held empty ≡ held
none_less held = same_amounts holder_keys _ _ (λ h.
    let left = amount-difference holder_keys held empty h in
    let none = amount-empty holder_keys h in
    omega (arith, left, none))

nothing_given : (ledger : Accounts) (o : Option (List ℕ)) → ledger_at_account o (λ who. Withdrawn who [] ledger) ledger ≡ ledger
nothing_given ledger None = refl
nothing_given ledger (Some who) = λ i. record { listed = ledger.listed; held = (ap (difference ledger.held) (no_goods who) ∙ none_less ledger.held) i }

nothing_got : (ledger : Accounts) (o : Option (List ℕ)) → ledger_at_account o (λ who. Deposited who (bundle_of []) ledger) ledger ≡ ledger
nothing_got ledger None = refl
nothing_got ledger (Some who) = λ i. record { listed = ledger.listed; held = (ap (merge ledger.held) (no_goods who) ∙ merge-empty holder_keys ledger.held) i }

pub nothing_moved : (ledger : Accounts) (from to : Option (List ℕ)) → ledger ≡ after_transfer [] from to ledger
nothing_moved ledger from to =
    sym (ap (λ l. ledger_at_account to (λ who. Deposited who (bundle_of []) l) l) (nothing_given ledger from) ∙ nothing_got ledger to)
