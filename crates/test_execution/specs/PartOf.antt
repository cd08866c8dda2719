-- The chain's part of the world: that of its state. This project's own.
use Rattle.exec_base.specs.Part.{ChainPart}
use Rattle.chain_state.specs.PartOf as state
use Rattle.test_execution.specs.declared.fake.FakeHost.{FakeHost}

abbrev pub fake_part_of : FakeHost → ChainPart
fake_part_of f = state.part_of f.chain
