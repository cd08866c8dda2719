use Rattle.scale_codec.proofs.Lemmas.ReadLaws.{prefix_free}
use Rattle.location_wire.specs.Spelling.{network, junction, junctions, location}
use Rattle.location_wire.proofs.Lemmas.FieldLaws.{network_reads, junction_reads, junctions_reads, location_reads}
use Rattle.location_wire.proofs.laws.law_of_no_prefix.Goals as goal

pub returns : goal.returns
returns c = record {
  network = prefix_free network _ _ network_reads;
  junction = prefix_free junction _ _ junction_reads;
  junctions = prefix_free junctions _ _ junctions_reads;
  location = prefix_free location _ _ location_reads;
}
