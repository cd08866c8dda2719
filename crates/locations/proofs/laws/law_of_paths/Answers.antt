use Rattle.locations.proofs.Lemmas.{keeps_path, keeps_normal, has_one_name}
use Rattle.locations.proofs.laws.law_of_paths.Goals as goal

pub returns : goal.returns
returns c = record { keeps_path = keeps_path; keeps_normal = keeps_normal; has_one_name = has_one_name }
