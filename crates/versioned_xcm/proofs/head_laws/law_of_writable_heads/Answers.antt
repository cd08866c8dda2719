use Rattle.versioned_xcm.proofs.Lemmas.HeadLaws.Written.{head_named, head_amount}
use Rattle.versioned_xcm.proofs.head_laws.law_of_writable_heads.Goals as goal

pub returns : goal.returns
returns c = record {
  named = λ v l. head_named v l;
  amount = λ v l. head_amount v l;
}
