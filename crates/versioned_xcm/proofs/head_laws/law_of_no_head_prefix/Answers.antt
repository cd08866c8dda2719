use Rattle.versioned_xcm.proofs.Lemmas.HeadLaws.HeadLaws.{head_no_prefix}
use Rattle.versioned_xcm.proofs.head_laws.law_of_no_head_prefix.Goals as goal

pub returns : goal.returns
returns c = head_no_prefix
