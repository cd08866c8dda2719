-- What the two transactors handle is listed, and a deposit changes no listing.
use Rattle.std.proofs.Common.{◌≡◌, ◌++◌, ℕ, List, [], ◌∷◌, refl, ap, ◌∙◌}
use Rattle.std.specs.Prelude.{Option, None, Some, Result, Ok, Err}
use Rattle.asset_lists.specs.declared.units.Kind.{Kind}
use Rattle.asset_bundles.specs.Bundles.{Bundle}
use Rattle.ledgers.specs.Ledgers.{Accounts, Deposited}
use Rattle.trust_tables.specs.declared.rows.AssetRow.{AssetRow}
use Rattle.transactors.specs.declared.faults.MoveFault.{MoveFault}
use Rattle.transactors.specs.declared.faults.MoveFault.TheVariants.{NotHandled, NoAccount, Refused, Memory}
use Rattle.transactors.specs.Checks.{rows_of_kind}
use Rattle.transactors.specs.Moves.{are_listed, ledger_at_account, after_deposit, MovesIn}
use Rattle.test_execution.specs.Rows.{own_location, fixture_listing, AreHandled}

pub both_handled : (a b : AssetRow) → a.id ≡ own_location → a.kind ≡ Kind.Fungible → b.id ≡ own_location → b.kind ≡ Kind.Class → AreHandled (a ∷ b ∷ [])
both_handled a b first fungible second class =
    (λ i. are_listed fixture_listing (
    rows_of_kind Kind.Fungible (record { id = first i; kind = fungible i; role = a.role } ∷ record { id = second i; kind = class i; role = b.role } ∷ [])
    ++ rows_of_kind Kind.Class (record { id = first i; kind = fungible i; role = a.role } ∷ record { id = second i; kind = class i; role = b.role } ∷ []))) ∙ refl

same_listing : (o : Option (List ℕ)) (goods : Bundle) (ledger : Accounts) → (ledger_at_account o (λ account. Deposited account goods ledger) ledger).listed ≡ ledger.listed
same_listing None goods ledger = refl
same_listing (Some who) goods ledger = refl

pub listing_kept : (fault : Option MoveFault) (goods : Bundle) (to : Option (List ℕ)) (ledger now : Accounts) (r : Result (Unit {0}) (Bundle × MoveFault)) → MovesIn fault goods (after_deposit goods to ledger) ledger r now → now.listed ≡ ledger.listed
listing_kept fault goods to ledger now (Ok done) h = ap (λ (l : Accounts). l.listed) h.1 ∙ same_listing to goods ledger
listing_kept fault goods to ledger now (Err (back, NotHandled)) h = ap (λ (l : Accounts). l.listed) h.2
listing_kept fault goods to ledger now (Err (back, NoAccount)) h = ap (λ (l : Accounts). l.listed) h.2
listing_kept fault goods to ledger now (Err (back, Refused)) h = ap (λ (l : Accounts). l.listed) h.2
listing_kept fault goods to ledger now (Err (back, Memory)) h = ap (λ (l : Accounts). l.listed) h.1
