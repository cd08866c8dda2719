use Rattle.std.proofs.Common.{◌∙◌, sym}
use Rattle.network_steps.specs.Genesis.{entry_of}
use Rattle.network_coherence.specs.Answers.{entries_in}
use Rattle.network_coherence.proofs.Coins.{none_sharing}
use Rattle.network_coherence.proofs.holdings.row_sharing.Goals as goal

pub returns-then-same_kind : goal.returns-then-same_kind
returns-then-same_kind c = none_sharing (entry_of c.args.spec.now c.args.here.now) (entries_in c.args.spec.now c.args.later.now) c.args.row.now (sym c.same_kind.ensures ∙ c.if-same_kind.true)
