use Rattle.location_wire.proofs.Lemmas.FieldLaws.{network_reads, junction_reads, junctions_reads, location_reads}
use Rattle.location_wire.proofs.laws.law_of_readers.Goals as goal

pub returns : goal.returns
returns c = record {
  network = network_reads;
  junction = junction_reads;
  junctions = junctions_reads;
  location = location_reads;
}
