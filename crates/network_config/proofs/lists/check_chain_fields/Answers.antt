use Rattle.std.proofs.Common.{sym, subst}
use Rattle.serde_json.specs.View.{view}
use Rattle.document_entries.specs.Answers.{Answers}
use Rattle.document_entries.specs.Forms.{fields}
use Rattle.network_config.specs.Chains.{chain_fields}
use Rattle.network_config.proofs.lists.check_chain_fields.Goals as goal

pub returns-then-more : goal.returns-then-more
returns-then-more c =
    subst (λ more. Answers c.check_fields.result (fields (chain_fields more) c.args.place (view c.args.value.now))) (sym c.if-more.true) c.check_fields.ensures

pub returns : goal.returns
returns c =
    subst (λ more. Answers c.check_fields-2.result (fields (chain_fields more) c.args.place (view c.args.value.now))) (sym c.if-more.false) c.check_fields-2.ensures
