use Rattle.std.proofs.Common.{sym, ap, ◌∙◌, Some}
use Rattle.asset_lists.proofs.Lemmas.UnitLaws.{asset_decides}
use Rattle.chain_state.proofs.send.naming.is_seen_as.Goals as goal

pub returns-then-reanchor_into : goal.returns-then-reanchor_into
returns-then-reanchor_into c =
    λ same. c.reanchor_into.ensures.named c.if-reanchor_into.true
    ∙ ap Some ((asset_decides c.reanchor_into.new.seen c.args.named.now).0 (sym c.eq.ensures ∙ same))
