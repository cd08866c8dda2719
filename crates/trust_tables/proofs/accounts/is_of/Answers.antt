use Rattle.trust_tables.proofs.Answers.{same_network}
use Rattle.trust_tables.proofs.accounts.is_of.Goals as goal

pub returns-in-Some : goal.returns-in-Some
returns-in-Some c = rw c.in-Some.is (same_network c.is_same.result c.in-Some.network c.args.site.now.network c.is_same.ensures)
