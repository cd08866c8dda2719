-- What is known of a message that is admitted, by its shape. This project's own rule.
use Rattle.std.proofs.Common.{◌≡◌, List, Ok}
use Rattle.locations.specs.declared.relative.Location.{Location}
use Rattle.operands.specs.declared.query.OpenQuery.{OpenQuery}
use Rattle.operands.specs.declared.weight.Weight.{Weight}
use Rattle.chain_ids.specs.declared.chain.ChainId.{ChainId}
use Rattle.trust_tables.specs.declared.chains.Site.{Site}
use Rattle.xcm_program.specs.declared.instruction.Instruction.{Instruction}
use Rattle.channel_parts.specs.declared.cargo.Cargo as carried
use Rattle.exec_rules.specs.declared.rules.ChainRules.{ChainRules}
use Rattle.exec_rules.specs.declared.admission.Admitted.{Admitted}
use Rattle.exec_rules.specs.Admission.{admitted}
use Rattle.law_steps.specs.Shapes.{IsShape}

-- barriers leave a message its shape
abbrev pub KeepsShapes : Type 0
KeepsShapes = (here : Site) (there : ChainId) (program : List Instruction) (cargo : carried.Cargo) (rules : ChainRules) (origin : Location) (credit : Weight) (queries : List OpenQuery) (a : Admitted)
    → IsShape here there program cargo → admitted rules origin credit queries program ≡ Ok a → IsShape here there a.program cargo
