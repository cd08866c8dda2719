-- What an account gives is listed.
use Rattle.std.proofs.Common.{◌≡◌, ℕ, Bool, true, false, List, [], ◌∷◌, refl, sym, ap, ◌∙◌, subst}
use Rattle.std.specs.Prelude.{Option, None, Some, Result, Ok, Err, IfOk, is_some}
use Rattle.std.specs.List.{list_all}
use Rattle.std.proofs.lemmas.Bool.{and_from}
use Rattle.locations.specs.declared.relative.Location.{Location}
use Rattle.operands.specs.declared.error.XcmError.{XcmError}
use Rattle.operands.specs.declared.error.XcmError.TheVariants as error
use Rattle.asset_lists.specs.declared.units.Asset.{Asset}
use Rattle.asset_lists.specs.Units.{unit_of}
use Rattle.asset_lists.specs.Listed.{listed_of, lists}
use Rattle.asset_bundles.specs.Bundles.{Bundle, bundle_of}
use Rattle.asset_bundles.specs.Books.{AreListed}
use Rattle.asset_bundles.proofs.Lemmas.{listed_list}
use Rattle.trust_tables.specs.declared.rows.AssetRow.{AssetRow}
use Rattle.trust_tables.specs.Accounts.{account_of}
use Rattle.trust_tables.specs.Trust.{row_of, listing}
use Rattle.trust_tables.proofs.Lemmas.TrustLaws.{listing_says}
use Rattle.exec_base.specs.declared.faults.HostFault.{HostFault}
use Rattle.exec_base.specs.Answers.{AnswersOrRefuses}
use Rattle.exec_base.specs.Part.{ChainPart}
use Rattle.exec_base.specs.Sending.{unless, or_else}
use Rattle.exec_base.specs.Host.{first_fault, debit_fault, withdraw_refusal, withdrawn}

passes : (b : Bool) (e : XcmError) (next : Option XcmError) → unless b e next ≡ None → b ≡ true
passes true e next h = refl
passes false e next h = absurd (cc)

both_none : (x rest : Option XcmError) → or_else x rest ≡ None → (x ≡ None) × (rest ≡ None)
both_none None rest h = (refl, h)
both_none (Some e) rest h = absurd (cc)

rows_given : (p : ChainPart) (account : Option (List ℕ)) (list : List Asset) → first_fault (debit_fault p account) list ≡ None → list_all (λ a. lists (listing p.rows) (listed_of (unit_of a))) list ≡ true
rows_given p account [] h = refl
rows_given p account (a ∷ rest) h =
    let parts = both_none (debit_fault p account a) (first_fault (debit_fault p account) rest) h in
    and_from _ _ (listing_says p.rows a ∙ passes (is_some (row_of p.rows a)) error.AssetNotFound _ parts.0) (rows_given p account rest parts.1)

pub taken_listed : (p now : ChainPart) (list : List Asset) (who : Location) (r : Result Bundle HostFault) → AnswersOrRefuses (withdraw_refusal p list who) (bundle_of list) (withdrawn p list who) p r now → IfOk r (λ goods. AreListed (listing now.rows) goods)
unfolding withdraw_refusal withdrawn
taken_listed p now list who (Ok goods) h =
    subst (λ b. AreListed (listing now.rows) b) (sym h.1)
    (subst (λ (rows : List AssetRow). AreListed (listing rows) (bundle_of list)) (sym (ap (λ (q : ChainPart). q.rows) h.2))
    (listed_list (listing p.rows) list (rows_given p (account_of who p.site) list h.0)))
taken_listed p now list who (Err fault) h = tt
