use Rattle.call_dispatch.proofs.Lemmas.DispatchLaws.{interrupted_sums, interrupted_others, interrupted_floors, interrupted_unnamed, interrupted_numbers}
use Rattle.call_dispatch.proofs.laws.law_of_interruptions.Goals as goal

pub returns : goal.returns
returns c = record {
  sums = λ m now floors rows who call h. interrupted_sums m floors rows who call now h;
  others = λ m now floors rows who call h. interrupted_others m floors rows who call now h;
  floors = λ m now floors rows who call h. interrupted_floors m floors rows who call now h;
  unnamed = λ m now floors rows who call h. interrupted_unnamed m floors rows who call now h;
  numbers = λ m now floors rows who call h. interrupted_numbers m floors rows who call now h;
}
