use Rattle.std.proofs.Common.{◌∙◌, ap}
use Rattle.document_entries.specs.Forms.{where_true}
use Rattle.document_entries.specs.declared.fault.NetworkFault.TheVariants.{UnknownField}
use Rattle.document_entries.proofs.Objects.{known}
use Rattle.document_entries.proofs.fields.check_fields.Goals as goal

pub returns-then-not-are_known : goal.returns-then-not-are_known
returns-then-not-are_known c =
    known (λ name. name.now) c.args.names.now c.args.place _ _ _ c.in-Some.ensures c.are_known.ensures
    ∙ ap (λ b. where_true (UnknownField c.args.place) b tt) c.if-not-are_known.true

pub returns : goal.returns
returns c =
    known (λ name. name.now) c.args.names.now c.args.place _ _ _ c.in-Some.ensures c.are_known.ensures
    ∙ ap (λ b. where_true (UnknownField c.args.place) b tt) c.if-not-are_known.false
