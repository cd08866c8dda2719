use Rattle.std.proofs.Common.{ℕ, List, ap, ◌∙◌}
use Rattle.std.specs.Str.{bytes_eq}
use Rattle.exec_control.proofs.Spellings.{bytes_tested}
use Rattle.exec_control.proofs.comparing.same_bytes.Goals as goal

pub returns : goal.returns
returns c = bytes_tested c.eq.result c.args.a.now c.args.b.now c.items.ensures.few c.items-2.ensures.few
    (c.eq.ensures ∙ ap (λ (s : List ℕ). bytes_eq s c.items-2.result.now) c.items.ensures.same ∙ ap (bytes_eq c.args.a.now) c.items-2.ensures.same)
