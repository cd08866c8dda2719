use Rattle.std.proofs.Common.{◌≡◌, take, drop, []}
use Rattle.std.specs.List.{list_any, AllByRecursion}
use Rattle.document_entries.specs.declared.fault.Section.TheVariants.{Accounts}
use Rattle.network_config.specs.References.{each_in, account_flaws}
use Rattle.network_config.specs.Holdings.{HoldingKey, is_held}
use Rattle.network_config.proofs.Holding.{IsListed, of_holding}
use Rattle.network_config.proofs.holdings.check_accounts.Given as goal

abbrev pub invariant-loop-balance : goal.invariant-loop-balance
invariant-loop-balance l = record {
  entries : each_in (account_flaws l.rows) l.chain Accounts 0 [] l.accounts ≡ each_in (account_flaws l.rows) l.chain Accounts l.index (take l.balance-index l.accounts) (drop l.balance-index l.accounts);
  listed : AllByRecursion (IsListed l.rows) (take l.balance-index l.accounts);
  held : (q : HoldingKey) → is_held l.held.keys q ≡ list_any (of_holding l.rows q) (take l.balance-index l.accounts);
}
