use Rattle.std.proofs.Common.{◌≡◌, true, sym, subst}
use Rattle.std.specs.Ordering.{eq_by_cmp}
use Rattle.std.specs.List.{IsDistinct, list_all}
use Rattle.asset_lists.specs.Listed.{listed_cmp}
use Rattle.network_spec.specs.Networks.{same_holding}
use Rattle.network_steps.specs.Tests.{is_placeable}
use Rattle.test_execution.proofs.Listings.{each_once, each_held_once}
use Rattle.test_execution.proofs.Resting.{if_opened}
use Rattle.test_execution.proofs.fake_chain.opened.Goals as goal

pub new-requires-clause-distinct : goal.new-requires-clause-distinct
new-requires-clause-distinct c = subst (λ l. IsDistinct (eq_by_cmp listed_cmp) l) (sym c.in_ok-rows.ensures.listed) each_once

pub new-requires-clause-balances : goal.new-requires-clause-balances
new-requires-clause-balances c = subst (λ bs. list_all (is_placeable c.in_ok-rows.rows.items) bs ≡ true) (sym c.in_ok-accounts.ensures) c.in_ok-rows.ensures.balances

pub new-requires-clause-once : goal.new-requires-clause-once
new-requires-clause-once c = subst (λ bs. IsDistinct same_holding bs) (sym c.in_ok-accounts.ensures) each_held_once

pub returns : goal.returns
returns c = record { rests = if_opened _ _ c.in_ok-accounts.accounts.items c.in_ok-queries.queries.items c.new.result c.new.ensures.opened }
