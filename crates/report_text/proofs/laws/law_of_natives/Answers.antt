use Rattle.std.proofs.Common.{[], flat_map}
use Rattle.report_text.specs.Natives.{natives_of}
use Rattle.report_text.proofs.Order.{in_order, none_in_order}
use Rattle.report_text.proofs.Homes.{homes_are}
use Rattle.report_text.proofs.laws.law_of_natives.Goals as goal

pub returns-clause-in_order : goal.returns-clause-in_order
returns-clause-in_order c = λ parts. in_order [] (flat_map natives_of parts) none_in_order

pub returns-clause-homes : goal.returns-clause-homes
returns-clause-homes c = λ parts a. homes_are parts a
