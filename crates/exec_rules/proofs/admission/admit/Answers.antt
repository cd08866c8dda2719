use Rattle.std.proofs.Common.{rules, ◌≡◌, Ok}
use Rattle.exec_rules.specs.declared.admission.Admitted.{Admitted}
use Rattle.exec_rules.specs.Admission.{admitted}
use Rattle.exec_rules.proofs.Weighed.{admitted_weighed}
use Rattle.exec_rules.proofs.admission.admit.Goals as goal

pub returns-clause-weighed : goal.returns-clause-weighed
returns-clause-weighed c =
    let a : Admitted = record { program = c.allow.new.program; weight = c.in-Ok.weight } in
    let e : admitted c.args.rules.now c.args.origin.now c.args.credit c.args.queries.now c.args.program ≡ Ok a = search rules in
    admitted_weighed c.args.rules.now c.args.origin.now c.args.credit c.args.queries.now c.args.program c.requires.few a e
