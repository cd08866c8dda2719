use Rattle.std.proofs.Common.{◌∙◌, ap, flat_map}
use Rattle.step_text.specs.Blocks.{accounts_text, holder_line}
use Rattle.ledgers.proofs.Lemmas.HoldingLaws.{rows_fewer, whole_shown, next_as, none_as}
use Rattle.step_text.proofs.Balances.{nothing_shown, lines_next}
use Rattle.step_text.proofs.blocks.accounts_text.Goals as goal

pub loop-who-init : goal.loop-who-init
loop-who-init c = c.new-text.ensures.bytes ∙ nothing_shown c.args.chain c.args.ledger.now.held

pub loop-who-smaller : goal.loop-who-smaller
loop-who-smaller c = rows_fewer c.loop-who.after c.in-Some.who c.args.ledger.now.held (next_as _ _ c.args.ledger.now.held c.in-Some.who c.as_ref.ensures.value c.in-Some.ensures.next)

pub loop-who-preserved : goal.loop-who-preserved
loop-who-preserved c = lines_next c.args.chain c.loop-who.after c.in-Some.who _ _ c.args.ledger.now.held (next_as _ _ c.args.ledger.now.held c.in-Some.who c.as_ref.ensures.value c.in-Some.ensures.next) c.loop-who.invariant c.in_ok-push_account.ensures

pub returns : goal.returns
unfolding accounts_text
returns c = c.loop-who.invariant ∙ ap (flat_map (holder_line c.args.chain)) (whole_shown c.loop-who.after c.args.ledger.now.held (none_as _ _ c.args.ledger.now.held c.as_ref.ensures.value c.in_default.ensures.next))
