-- For proofs; a reader of the definitions can leave it out. Where a session is, and that nothing is written where no line comes.
use Rattle.std.proofs.Common.{◌≡◌, ◌∙◌, ℕ, ◌+◌, ◌≤◌, List, [], ◌++◌, length, Bool, false, refl, ap, Global, append-nil, arith}
use Rattle.std.proofs.lemmas.Bool.{cond-true}
use Rattle.std.proofs.lemmas.Bool.Decides.{nat_tests}
use Rattle.std.specs.Prelude.{Vec, nat_le, ◌||◌}
use Rattle.input_lines.specs.Lines.{network_part, later_lines, lines_through, bytes_through, has_mark}
use Rattle.network_spec.specs.declared.network.NetworkSpec.{NetworkSpec}
use Rattle.network_steps.specs.Worlds.{World}
use Rattle.chain_net.specs.declared.net.Net.{Net}
use Rattle.chain_net.specs.Nets.{world_of, spec_of}
use Rattle.line_serving.specs.Replies.{ends, max_input}
use Rattle.line_serving.specs.declared.status.Status.TheVariants.{Done}
use Rattle.xcm_cli.specs.declared.phase.Session.{Session}
use Rattle.xcm_cli.specs.declared.phase.Phase.{Phase}
use Rattle.xcm_cli.specs.declared.phase.Phase.TheVariants.{Network, Steps}
use Rattle.xcm_cli.specs.Report.{steps_reply, part_reply, max_network, IsWithinInputLimits}
use Rattle.xcm_cli.specs.Session.{reply_at, phase_reply, session_rooms, runs_steps, HoldsPart, IsReadySession}

-- a part within its limit that goes on
pub part_goes_on : (audit : Bool) (part : List ℕ) (before taken : ℕ) (lines : List (List ℕ)) → length part ≤ max_network → part_reply audit false part before taken lines ≡ ends [] Done
part_goes_on audit part before taken lines l = cond-true (nat_le (length part) max_network) _ _ (grind (arith, nat_tests))

pub at_steps : (s : Session) (net : Net) (done : ℕ) (at_end : Bool) (lines : List (List ℕ)) → s.phase ≡ Steps net done → reply_at s at_end lines ≡ steps_reply s.audit (spec_of net) (world_of net) done s.lines s.taken lines
unfolding reply_at
at_steps s net done at_end lines e = ap (λ p. phase_reply s.audit p s.lines s.taken at_end lines) e

pub at_network : (s : Session) (part : Vec ℕ Global) (at_end : Bool) (lines : List (List ℕ)) → s.phase ≡ Network part
    → reply_at s at_end lines ≡ part_reply s.audit (has_mark lines || at_end) (part.items ++ network_part lines) (s.lines + lines_through lines) (s.taken + bytes_through lines) (later_lines lines)
unfolding reply_at
at_network s part at_end lines e = ap (λ p. phase_reply s.audit p s.lines s.taken at_end lines) e

pub no_steps : (audit : Bool) (spec : NetworkSpec) (w : World) (done before taken : ℕ) → steps_reply audit spec w done before taken [] ≡ ends [] Done
unfolding steps_reply
no_steps audit spec w done before taken = refl

nothing_at : (s : Session) (phase : Phase) → s.phase ≡ phase → HoldsPart phase s.taken → reply_at s false [] ≡ ends [] Done
nothing_at s (Network part) e h = at_network s part false [] e ∙ rw append-nil (part_goes_on s.audit part.items s.lines s.taken [] (omega (arith, h.0, h.1)))
nothing_at s (Steps net done) e h = at_steps s net done false [] e ∙ no_steps s.audit (spec_of net) (world_of net) done s.lines s.taken

-- where no line comes, nothing is reported
pub nothing_yet : (s : Session) → IsReadySession s → reply_at s false [] ≡ ends [] Done
nothing_yet s r = nothing_at s s.phase refl r.part

room_at : (s : Session) (phase : Phase) → s.phase ≡ phase → HoldsPart phase s.taken → IsWithinInputLimits (runs_steps phase || false) (s.taken + 0 + 0) 0
room_at s (Network part) e h = let few : s.taken ≤ max_network = h.1 in omega arith
room_at s (Steps net done) e h = let few : s.taken ≤ max_input = h.0 in (omega arith, omega arith)

-- there is room for a line that isn't begun
pub room_at_first : (s : Session) → IsReadySession s → session_rooms s [] 0
room_at_first s r = room_at s s.phase refl r.part
