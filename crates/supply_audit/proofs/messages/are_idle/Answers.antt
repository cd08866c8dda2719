use Rattle.std.proofs.Common.{◌∙◌, ap, sym}
use Rattle.std.specs.List.{list_all}
use Rattle.std.proofs.lemmas.List.Folds.{list_all-map}
use Rattle.chain_queues.specs.Queues.{outgoing_of}
use Rattle.supply_audit.specs.Places.{is_idle}
use Rattle.supply_audit.proofs.messages.are_idle.Goals as goal

pub returns : goal.returns
returns c = c.all_idle.ensures ∙ sym (list_all-map (is_idle c.args.to) outgoing_of c.channels.result.now) ∙ ap (list_all (is_idle c.args.to)) c.channels.ensures
