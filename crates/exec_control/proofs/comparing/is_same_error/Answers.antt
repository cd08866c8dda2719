use Rattle.std.proofs.Common.{sym, ◌∙◌}
use Rattle.exec_control.proofs.Errors.{errors_told, errors_same}
use Rattle.exec_control.proofs.comparing.is_same_error.Goals as goal

pub returns-clause-told : goal.returns-clause-told
returns-clause-told c h = errors_told c.args.a.now c.args.b.now (sym c.eq.ensures ∙ h)

pub returns-clause-same : goal.returns-clause-same
returns-clause-same c e = c.eq.ensures ∙ errors_same c.args.a.now c.args.b.now e
