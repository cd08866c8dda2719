-- Accounts are ordered by their bytes, and that order is total.
use Rattle.std.specs.Cmp.{IsTotalOrder}
use Rattle.std.specs.Cmp.Lexicographic.{nat_list_cmp_total}
use Rattle.ledgers.specs.Ledgers.{account_cmp}

pub accounts_total : IsTotalOrder account_cmp
accounts_total = nat_list_cmp_total
