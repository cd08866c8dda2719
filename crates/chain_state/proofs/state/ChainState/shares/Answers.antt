use Rattle.std.proofs.Common.{[], ap, ◌∙◌, arith}
use Rattle.asset_bundles.specs.Bundles.{rows_of}
use Rattle.chain_state.specs.PartOf.{part_of}
use Rattle.chain_state.proofs.Settled.{none_within, none_above}
use Rattle.chain_state.proofs.state.ChainState.shares.Goals as goal

pub returns-then-not-is_paid-clause-within : goal.returns-then-not-is_paid-clause-within
returns-then-not-is_paid-clause-within c =
    ap rows_of c.new.ensures.items ∙ none_within (part_of c.args.self.now) [] (omega arith) (c.is_paid.ensures.none c.if-not-is_paid.true) (c.is_clear.ensures c.if-is_clear.true)

pub returns-then-not-is_paid-clause-above : goal.returns-then-not-is_paid-clause-above
returns-then-not-is_paid-clause-above c =
    c.new-then-not-is_paid.ensures.items ∙ none_above (part_of c.args.self.now) [] (omega arith) (c.is_paid.ensures.none c.if-not-is_paid.true) (c.is_clear.ensures c.if-is_clear.true)
