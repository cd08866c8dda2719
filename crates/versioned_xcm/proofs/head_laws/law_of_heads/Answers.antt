use Rattle.versioned_xcm.proofs.Lemmas.HeadLaws.HeadLaws.{head_takes, head_again, head_empty}
use Rattle.versioned_xcm.proofs.head_laws.law_of_heads.Goals as goal

pub returns : goal.returns
returns c = record {
  takes = head_takes;
  again = head_again;
  empty = head_empty;
}
