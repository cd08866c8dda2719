use Rattle.std.proofs.Common.{◌≡◌, ◌∙◌, length, take, sym, ap, arith}
use Rattle.std.proofs.lemmas.Result.{err_from_is_err_and}
use Rattle.std.specs.Prelude.{◌||◌}
use Rattle.document_entries.specs.declared.fault.Section.TheVariants.{Accounts}
use Rattle.document_entries.specs.Forms.{next_index}
use Rattle.network_config.specs.References.{flaw_at, document_place, account_flaws}
use Rattle.network_config.specs.Holdings.{is_held, is_of_holding, flaws_beside, listed_number}
use Rattle.network_config.proofs.Lemmas.Holdings.{row_number}
use Rattle.network_config.proofs.Checking.{checked, refused, all_checked}
use Rattle.network_config.proofs.Holding.{flaws_same, held_more, listed_more, listed_of, stops_with}
use Rattle.network_config.proofs.RowTables.{number_same}
use Rattle.network_config.proofs.holdings.check_accounts.Goals as goal

pub returns-in_err-add_account : goal.returns-in_err-add_account
returns-in_err-add_account c =
    let xs = c.args.accounts.now in
    let k = c.loop-balance.balance-index in
    let same : flaws_beside (listed_number c.in_ok-table.table c.balance-item.result) c.loop-balance.held.keys c.balance-item.result ≡ account_flaws c.args.rows.now (take k xs) c.balance-item.result =
    ap (λ n. flaws_beside n c.loop-balance.held.keys c.balance-item.result) (number_same c.in_ok-table.table c.args.rows.now c.balance-item.result c.in_ok-table.ensures)
    ∙ flaws_same c.args.rows.now (take k xs) c.balance-item.result c.loop-balance.held.keys c.loop-balance.invariant.listed c.loop-balance.invariant.held in
    let p = err_from_is_err_and c.from_residual-in_err-add_account.result c.from_residual-in_err-add_account.ensures.1 in
    rw (p.1, p.2) (stops_with c.in_err-add_account.field-0.0 _ _ c.in_err-add_account.ensures.flaws (λ fault e.
    c.loop-balance.invariant.entries
    ∙ refused (account_flaws c.args.rows.now) c.args.chain Accounts xs k c.loop-balance.index c.balance-item.result fault c.loop-balance-test.true c.balance-item.is
    (ap (flaw_at (document_place c.args.chain Accounts c.loop-balance.index)) (sym same) ∙ e)))

pub loop-balance-preserved : goal.loop-balance-preserved
loop-balance-preserved c =
    let xs = c.args.accounts.now in
    let k = c.loop-balance.balance-index in
    let keys = c.loop-balance.held.keys in
    let index : c.saturating_add-index.result ≡ next_index c.loop-balance.index = c.saturating_add-index.ensures in
    let number : listed_number c.in_ok-table.table c.balance-item.result ≡ row_number c.args.rows.now c.balance-item.result =
    number_same c.in_ok-table.table c.args.rows.now c.balance-item.result c.in_ok-table.ensures in
    let same : flaws_beside (row_number c.args.rows.now c.balance-item.result) keys c.balance-item.result ≡ account_flaws c.args.rows.now (take k xs) c.balance-item.result =
    flaws_same c.args.rows.now (take k xs) c.balance-item.result keys c.loop-balance.invariant.listed c.loop-balance.invariant.held in
    let sound = ap (λ n. flaw_at (document_place c.args.chain Accounts c.loop-balance.index) (flaws_beside n keys c.balance-item.result)) (sym number) ∙ c.in_ok-add_account.ensures.flaws in
    record {
      entries = rw index (c.loop-balance.invariant.entries
          ∙ checked (account_flaws c.args.rows.now) c.args.chain Accounts xs k c.loop-balance.index c.balance-item.result c.loop-balance-test.true c.balance-item.is
          (ap (flaw_at (document_place c.args.chain Accounts c.loop-balance.index)) (sym same) ∙ sound));
      listed = listed_more c.args.rows.now xs k c.balance-item.result c.loop-balance-test.true c.balance-item.is c.loop-balance.invariant.listed
          (listed_of c.args.rows.now (document_place c.args.chain Accounts c.loop-balance.index) keys c.balance-item.result sound);
      held = held_more c.args.rows.now keys c.add_account.new.held.keys xs k c.balance-item.result c.loop-balance-test.true c.balance-item.is
          (λ q. c.in_ok-add_account.ensures.added q ∙ ap (λ n. is_of_holding n c.balance-item.result q || is_held keys q) number) c.loop-balance.invariant.held;
    }

pub returns : goal.returns
returns c =
    let all : length c.args.accounts.now ≡ c.loop-balance.balance-index = omega arith in
    c.loop-balance.invariant.entries ∙ all_checked (account_flaws c.args.rows.now) c.args.chain Accounts c.args.accounts.now c.loop-balance.balance-index c.loop-balance.index _ all
