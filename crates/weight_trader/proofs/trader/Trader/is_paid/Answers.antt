use Rattle.std.proofs.Common.{[], sym, ap, ◌∙◌}
use Rattle.std.specs.List.{list_any}
use Rattle.weight_trader.specs.Closing.{is_paid}
use Rattle.weight_trader.proofs.Bundles.{paid_bundle}
use Rattle.weight_trader.proofs.Lone.{none_paid}
use Rattle.weight_trader.proofs.trader.Trader.is_paid.Goals as goal

pub returns-clause-none : goal.returns-clause-none
returns-clause-none c = λ no.
    paid_bundle c.args.self.now [] (sym (none_paid c.args.self.now (ap (list_any is_paid) (sym (c.as_slice.ensures.value ∙ c.self.view_is)) ∙ sym c.is_any_paid.ensures ∙ no)))
