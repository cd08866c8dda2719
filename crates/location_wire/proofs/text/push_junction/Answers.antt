use Rattle.location_wire.specs.Texts.{junction_text}
use Rattle.location_wire.proofs.text.push_junction.Goals as goal

pub returns-in-Parachain : goal.returns-in-Parachain
unfolding junction_text
returns-in-Parachain c = rw c.in-Parachain.is (rw c.from.ensures at c.push_numbered.ensures)

pub returns-in-PalletInstance : goal.returns-in-PalletInstance
unfolding junction_text
returns-in-PalletInstance c = rw c.in-PalletInstance.is (rw c.from-in-PalletInstance.ensures at c.push_numbered-in-PalletInstance.ensures)
