use Rattle.xcm_format.proofs.Lemmas.{named_in}
use Rattle.xcm_format.proofs.laws.law_of_writable.Goals as goal

pub returns : goal.returns
returns c = λ v program few convertible amounts. record { few = few; named = named_in v program convertible; amounts = amounts }
