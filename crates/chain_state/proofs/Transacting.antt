-- A host's refusals and moves are those of the chain's transactors.
use Rattle.std.proofs.Common.{◌≡◌, ℕ, ◌+◌, Bool, true, false, if◌then◌else◌, List, [], ◌∷◌, ◌++◌, refl, sym, ap, ◌∙◌, arith}
use Rattle.std.specs.Prelude.{Option, None, Some, is_some, not, nat_le, nat_lt, max}
use Rattle.std.specs.Option.{option_map}
use Rattle.std.proofs.lemmas.Bool.Decides.{nat_tests}
use Rattle.amounts.specs.Amounts.{amount}
use Rattle.locations.specs.declared.relative.Location.{Location}
use Rattle.operands.specs.declared.error.XcmError.{XcmError}
use Rattle.operands.specs.declared.error.XcmError.TheVariants as error
use Rattle.asset_lists.specs.declared.units.Asset.{Asset}
use Rattle.asset_lists.specs.declared.units.Kind.{Kind}
use Rattle.asset_lists.specs.Units.{unit_of, amount_of}
use Rattle.asset_bundles.specs.Bundles.{Bundle, bundle_of, held_assets}
use Rattle.trust_tables.specs.declared.rows.AssetRow.{AssetRow}
use Rattle.trust_tables.specs.Trust.{row_of}
use Rattle.trust_tables.specs.Accounts.{account_of}
use Rattle.ledgers.specs.Ledgers.{Held, Accounts, is_barred, Withdrawn, Deposited}
use Rattle.transactors.specs.declared.faults.MoveFault.{MoveFault}
use Rattle.transactors.specs.declared.faults.MoveFault.TheVariants.{Refused}
use Rattle.transactors.specs.Checks.{rows_of_kind, is_short_of, move_fault, check_in, check_out}
use Rattle.transactors.specs.Moves as moves
use Rattle.transactors.specs.Moves.{earlier_fault, withdraw_fault, deposit_fault, transfer_fault}
use Rattle.exec_base.specs.Part.{ChainPart, accounts_of}
use Rattle.exec_base.specs.Sending.{unless, or_else}
use Rattle.exec_base.specs.Host.{at_account, first_fault, with_account, floor_of, debit_fault, credit_fault, given, got, withdraw_refusal, deposit_refusal, deposited, transfer_refusal, transferred}
use Rattle.chain_state.specs.Transacting.{error_of, handled_rows, kept_floors}

-- ---- one asset
has_enough : (have n f : ℕ) → nat_le (n + f) have ≡ not (nat_lt have (n + max 0 f))
has_enough have n f = grind (arith, nat_tests)

refused_if : (lacking : Bool) → unless (not lacking) error.FailedToTransactAsset None ≡ option_map error_of (if lacking then Some Refused else None)
refused_if true = refl
refused_if false = refl

-- the host's tests of an account are the transactor's
told : (handled : Bool) (account : Option (List ℕ)) (rule : List ℕ → Option XcmError) (refused : List ℕ → Bool)
    → ((who : List ℕ) → rule who ≡ option_map error_of (if refused who then Some Refused else None))
    → unless handled error.AssetNotFound (with_account account rule) ≡ option_map error_of (move_fault handled account refused)
told false account rule refused same = refl
told true None rule refused same = refl
told true (Some who) rule refused same = same who

joined : (x next : Option MoveFault) → or_else (option_map error_of x) (option_map error_of next) ≡ option_map error_of (earlier_fault x next)
joined None next = refl
joined (Some x) next = refl

-- the host's first refusal of a list is the transactor's
first_told : (fault : Asset → Option XcmError) (check : Asset → Option MoveFault) (list : List Asset) → ((a : Asset) → fault a ≡ option_map error_of (check a))
    → first_fault fault list ≡ option_map error_of (moves.first_move_fault check list)
first_told fault check [] same = refl
first_told fault check (a ∷ rest) same = (λ i. or_else (same a i) (first_told fault check rest same i)) ∙ joined (check a) (moves.first_move_fault check rest)

module _ (kinds : (rows : List AssetRow) (a : Asset) → is_some (row_of (rows_of_kind Kind.Fungible rows ++ rows_of_kind Kind.Class rows) a) ≡ is_some (row_of rows a)) where
  give_told : (p : ChainPart) (from : Option (List ℕ)) (a : Asset) → debit_fault p from a ≡ option_map error_of (check_out (handled_rows p) (kept_floors p) p.held from a)
  give_told p from a =
      told (is_some (row_of p.rows a)) from
      (λ w. unless (nat_le (amount_of a + floor_of p w (unit_of a)) (amount p.held (w, unit_of a))) error.FailedToTransactAsset None)
      (λ w. is_short_of (kept_floors p) p.held w a)
      (λ w. ap (λ b. unless b error.FailedToTransactAsset None) (has_enough (amount p.held (w, unit_of a)) (amount_of a) (floor_of p w (unit_of a))) ∙ refused_if (is_short_of (kept_floors p) p.held w a))
      ∙ ap (λ b. option_map error_of (move_fault b from (λ w. is_short_of (kept_floors p) p.held w a))) (sym (kinds p.rows a))

  take_told : (p : ChainPart) (held : Held) (to : Option (List ℕ)) (a : Asset) → credit_fault (record p { held = held }) to a ≡ option_map error_of (check_in (handled_rows p) held to a)
  take_told p held to a =
      told (is_some (row_of p.rows a)) to
      (λ w. unless (not (is_barred held w a)) error.FailedToTransactAsset None)
      (λ w. is_barred held w a)
      (λ w. refused_if (is_barred held w a))
      ∙ ap (λ b. option_map error_of (move_fault b to (λ w. is_barred held w a))) (sym (kinds p.rows a))

  -- ---- lists
  pub withdraw_told : (p : ChainPart) (list : List Asset) (who : Location) → withdraw_refusal p list who ≡ option_map error_of (withdraw_fault (handled_rows p) (kept_floors p) (accounts_of p) list (account_of who p.site))
  unfolding withdraw_refusal
  withdraw_told p list who = first_told (debit_fault p (account_of who p.site)) (check_out (handled_rows p) (kept_floors p) p.held (account_of who p.site)) list (give_told p (account_of who p.site))

  pub deposit_told : (p : ChainPart) (goods : Bundle) (who : Location) → deposit_refusal p goods who ≡ option_map error_of (deposit_fault (handled_rows p) (accounts_of p) goods (account_of who p.site))
  unfolding deposit_refusal
  deposit_told p goods who = first_told (credit_fault p (account_of who p.site)) (check_in (handled_rows p) p.held (account_of who p.site)) (held_assets goods) (take_told p p.held (account_of who p.site))

-- ---- what is left
at_held : (o : Option (List ℕ)) (change : List ℕ → Accounts) (l : Accounts) → at_account o (λ who. (change who).held) l.held ≡ (moves.ledger_at_account o change l).held
at_held None change l = refl
at_held (Some who) change l = refl

pub given_left : (p : ChainPart) (list : List Asset) (who : Location) → given p list who ≡ record p { held = (moves.after_withdrawal list (account_of who p.site) (accounts_of p)).held }
given_left p list who = λ i. record p { held = at_held (account_of who p.site) (λ account. Withdrawn account list (accounts_of p)) (accounts_of p) i }

pub deposited_left : (p : ChainPart) (goods : Bundle) (who : Location) → deposited p goods who ≡ record p { held = (moves.after_deposit goods (account_of who p.site) (accounts_of p)).held }
unfolding deposited
deposited_left p goods who = λ i. record p { held = at_held (account_of who p.site) (λ account. Deposited account goods (accounts_of p)) (accounts_of p) i }

pub transferred_left : (p : ChainPart) (list : List Asset) (from to : Location) → transferred p list from to ≡ record p { held = (moves.after_transfer list (account_of from p.site) (account_of to p.site) (accounts_of p)).held }
unfolding transferred
transferred_left p list from to =
    let l = moves.after_withdrawal list (account_of from p.site) (accounts_of p) in
    (λ i. got (given_left p list from i) (bundle_of list) to)
    ∙ (λ i. record p { held = at_held (account_of to p.site) (λ account. Deposited account (bundle_of list) l) l i })

module _ (kinds : (rows : List AssetRow) (a : Asset) → is_some (row_of (rows_of_kind Kind.Fungible rows ++ rows_of_kind Kind.Class rows) a) ≡ is_some (row_of rows a)) where
  pub transfer_told : (p : ChainPart) (list : List Asset) (from to : Location) → transfer_refusal p list from to ≡ option_map error_of (transfer_fault (handled_rows p) (kept_floors p) (accounts_of p) list (account_of from p.site) (account_of to p.site))
  unfolding transfer_refusal withdraw_refusal
  transfer_told p list from to =
      let left = (moves.after_withdrawal list (account_of from p.site) (accounts_of p)).held in
      (λ i. or_else (withdraw_told kinds p list from i) (first_fault (credit_fault (given_left p list from i) (account_of to p.site)) list))
      ∙ ap (or_else (option_map error_of (withdraw_fault (handled_rows p) (kept_floors p) (accounts_of p) list (account_of from p.site))))
      (first_told (credit_fault (record p { held = left }) (account_of to p.site)) (check_in (handled_rows p) left (account_of to p.site)) list (take_told kinds p left (account_of to p.site)))
      ∙ joined (withdraw_fault (handled_rows p) (kept_floors p) (accounts_of p) list (account_of from p.site)) (moves.first_move_fault (check_in (handled_rows p) left (account_of to p.site)) list)
