use Rattle.std.proofs.Common.{◌∙◌, ap, map}
use Rattle.ledgers.specs.Holdings.{all_holdings, holding_at}
use Rattle.ledgers.proofs.Lemmas.HoldingLaws.{rows_fewer, whole_shown, next_as, none_as}
use Rattle.ledgers.proofs.NextListed.{next_listed, nothing_listed}
use Rattle.ledgers.proofs.listing.all_holdings.Goals as goal

pub loop-who-init : goal.loop-who-init
loop-who-init c = c.new-list.ensures.items ∙ nothing_listed c.args.ledger.now.held

pub loop-who-smaller : goal.loop-who-smaller
loop-who-smaller c = rows_fewer c.loop-who.after c.in-Some.who c.args.ledger.now.held (next_as _ _ c.args.ledger.now.held c.in-Some.who c.as_ref.ensures.value c.in-Some.ensures.next)

pub loop-who-preserved : goal.loop-who-preserved
loop-who-preserved c = next_listed c.loop-who.after c.in-Some.who _ _ c.args.ledger.now.held (next_as _ _ c.args.ledger.now.held c.in-Some.who c.as_ref.ensures.value c.in-Some.ensures.next) c.loop-who.invariant c.in_ok-push_account.ensures

pub returns : goal.returns
unfolding all_holdings
returns c = c.loop-who.invariant ∙ ap (map holding_at) (whole_shown c.loop-who.after c.args.ledger.now.held (none_as _ _ c.args.ledger.now.held c.as_ref.ensures.value c.in_default.ensures.next))
