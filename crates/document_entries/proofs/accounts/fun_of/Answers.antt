use Rattle.serde_json.specs.View.{view}
use Rattle.std.specs.Prelude.{codes}
use Rattle.asset_lists.specs.declared.units.Fun.TheVariants.{Fungible, NonFungible}
use Rattle.document_entries.specs.Entries.{positive_amount_form, instance_form}
use Rattle.document_entries.proofs.BothFields.{both}
use Rattle.document_entries.proofs.accounts.fun_of.Goals as goal

pub returns-in-Some-get : goal.returns-in-Some-get
returns-in-Some-get c = both c.args.place Fungible NonFungible positive_amount_form instance_form (codes "amount") (codes "instance") (view c.args.value.now) _ _ _ c.in-Some.ensures c.in-Some-get.ensures (c.both_there.ensures _ _ c.amount_of.ensures c.instance_of.ensures)
