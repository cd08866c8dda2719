use Rattle.call_dispatch.proofs.Lemmas.DispatchLaws.{sums_stay, others_stay, floors_stay, unnamed_stay, numbers_stay_so, error_stays}
use Rattle.call_dispatch.proofs.laws.law_of_dispatches.Goals as goal

pub returns : goal.returns
returns c = record {
  sums = sums_stay;
  others = others_stay;
  floors = floors_stay;
  unnamed = unnamed_stay;
  numbers = numbers_stay_so;
  error = λ m floors rows who call code. error_stays floors rows who m call code;
}
