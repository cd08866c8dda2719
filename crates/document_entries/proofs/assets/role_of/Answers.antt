use Rattle.serde_json.specs.View.{view}
use Rattle.std.specs.Prelude.{codes}
use Rattle.trust_tables.specs.declared.rows.AssetRole.TheVariants.{Derivative}
use Rattle.document_entries.specs.Forms.{chain, each, is_chain_kind}
use Rattle.document_entries.specs.Entries.{native}
use Rattle.document_entries.proofs.BothFields.{both}
use Rattle.document_entries.proofs.assets.role_of.Goals as goal

pub returns-in-Some-get : goal.returns-in-Some-get
returns-in-Some-get c = both c.args.place native Derivative (each is_chain_kind chain) chain (codes "native") (codes "reserve") (view c.args.value.now) _ _ _ c.in-Some.ensures c.in-Some-get.ensures (c.both_there.ensures _ _ c.chains_of.ensures c.chain_of.ensures)
