-- Lemmas on the definitions of `specs/Laws.antt`: what proofs cite.
pub mod Promise
use Rattle.std.proofs.Common.{◌≡◌, ℕ, ◌≤◌, length, false, subst, Global}
use Rattle.std.specs.Prelude.{Vec}
use Rattle.chain_net.specs.declared.net.Net.{Net}
use Rattle.chain_net.specs.Nets.{is_stopped}
use Rattle.line_serving.specs.Replies.{max_input}
use Rattle.xcm_cli.specs.declared.phase.Session.{Session}
use Rattle.xcm_cli.specs.declared.phase.Phase.{Phase}
use Rattle.xcm_cli.specs.declared.phase.Phase.TheVariants.{Network, Steps}
use Rattle.xcm_cli.specs.Report.{max_network}
use Rattle.xcm_cli.specs.Session.{HoldsPart, IsReadySession}

pub part_size : (s : Session) (part : Vec ℕ Global) → s.phase ≡ Network part → IsReadySession s → (length part.items ≡ s.taken) × (s.taken ≤ max_network)
part_size s part e r = let P : Phase → Type 0 = λ p. HoldsPart p s.taken in subst P e r.part

pub steps_size : (s : Session) (net : Net) (done : ℕ) → s.phase ≡ Steps net done → IsReadySession s → (s.taken ≤ max_input) × (is_stopped net ≡ false)
steps_size s net done e r = let P : Phase → Type 0 = λ p. HoldsPart p s.taken in subst P e r.part
