-- What is still to come in a run, from where it is.
use Rattle.std.specs.Prelude.{◌≡◌, ◌⊎◌, ◌||◌, ℕ, ◌+◌, ◌≤◌, List, [], ◌++◌, length, Bool, true, false, Option, Result, Ok, Err}
use Rattle.std.specs.List.{concat}
use Rattle.std.specs.Io.KnownBytes.{Appends}
use Rattle.xcm_io.specs.Bytes.{IsProperFront}
use Rattle.input_lines.specs.Lines.{has_mark, network_part, later_lines, lines_through, bytes_through}
use Rattle.document_entries.specs.declared.fault.NetworkFault.{NetworkFault}
use Rattle.network_spec.specs.declared.network.NetworkSpec.{NetworkSpec}
use Rattle.network_config.specs.Network.{network_of}
use Rattle.network_steps.specs.Genesis.{first_world}
use Rattle.chain_net.specs.declared.net.Net.{Net}
use Rattle.chain_net.specs.Nets.{world_of, spec_of, is_stopped}
use Rattle.step_text.specs.Lines.{network_refused_line}
use Rattle.report_blocks.specs.Blocks.{opening_text}
use Rattle.line_serving.specs.Replies.{Reply, max_input}
use Rattle.xcm_cli.specs.Report.{part_reply, steps_reply, max_network, IsWithinInputLimits}
use Rattle.xcm_cli.specs.declared.phase.Session.{Session}
use Rattle.xcm_cli.specs.declared.phase.Phase.{Phase}
use Rattle.xcm_cli.specs.declared.phase.Phase.TheVariants.{Network, Steps}
use Rattle.xcm_cli.specs.declared.phase.Opened.{Opened}
use Rattle.xcm_cli.specs.declared.phase.Opened.TheVariants.{Runs, Over}
use Rattle.line_serving.specs.declared.status.Status.{Status}
use Rattle.line_serving.specs.declared.status.Status.TheVariants.{WriteFault, NetworkRefused}

abbrev pub phase_reply : Bool → Phase → ℕ → ℕ → Bool → List (List ℕ) → Reply
phase_reply audit (Network part) before taken at_end lines =
    part_reply audit (has_mark lines || at_end) (part.items ++ network_part lines)
    (before + lines_through lines) (taken + bytes_through lines) (later_lines lines)
phase_reply audit (Steps net done) before taken at_end lines =
    steps_reply audit (spec_of net) (world_of net) done before taken lines

-- what is written from here on where these lines come, at whose end the input ends or not, and the answer
unfoldable pub reply_at : Session → Bool → List (List ℕ) → Reply
reply_at session at_end lines =
    phase_reply session.audit session.phase session.lines session.taken at_end lines

-- the network as it opens, with nothing that happened in it
pub record IsFreshNetwork (part : List ℕ) (net : Net) : Type 0 where
  pub read : network_of part ≡ Ok (spec_of net)
  pub first : world_of net ≡ first_world (spec_of net)
  pub running : is_stopped net ≡ false

-- what is written first: the opening, or the line that refuses the network
abbrev pub head_of : Result NetworkSpec NetworkFault → List ℕ
head_of (Ok spec) = opening_text spec
head_of (Err fault) = network_refused_line fault

-- A network part was read, and this text written: the opening of the network that runs from now on, or the line that refuses it, or a
-- proper prefix of it where the write failed. Where memory was refused nothing was written.
pub record Opens {E : Type 0} (part : List ℕ) (old new : Option (List ℕ))
    (result : Result Opened E) : Type 0 where
  pub text : List ℕ
  pub appends : Appends old new text
  pub runs : (net : Net) → result ≡ Ok (Runs net)
      → IsFreshNetwork part net × (text ≡ opening_text (spec_of net))
  pub over : (status : Status) → result ≡ Ok (Over status)
      → ((status ≡ NetworkRefused)
      × ((fault : NetworkFault)
      × ((network_of part ≡ Err fault) × (text ≡ network_refused_line fault))))
      ⊎ ((status ≡ WriteFault) × IsProperFront text (head_of (network_of part)))
  pub none : (refused : E) → result ≡ Err refused → text ≡ []

abbrev pub phase_steps : Phase → ℕ
phase_steps (Network part) = 0
phase_steps (Steps net done) = done

-- while the network is read, its part is all that was taken, and within its limit; later no call was refused memory
abbrev pub HoldsPart : Phase → ℕ → Type 0
HoldsPart (Network part) taken = (length part.items ≡ taken) × (taken ≤ max_network)
HoldsPart (Steps net done) taken = (taken ≤ max_input) × (is_stopped net ≡ false)

-- a session as its calls leave it: no more steps than lines, no more lines than bytes
pub record IsReadySession (session : Session) : Type 0 where
  pub steps : phase_steps session.phase ≤ session.lines
  pub lines : session.lines ≤ session.taken
  pub part : HoldsPart session.phase session.taken

-- the network is read, and its steps are run
abbrev pub runs_steps : Phase → Bool
runs_steps (Network part) = false
runs_steps (Steps net done) = true

-- a line of which so many bytes have come, after these lines, may still be within the limits
abbrev pub session_rooms : Session → List (List ℕ) → ℕ → Type 0
session_rooms session lines begun =
    IsWithinInputLimits (runs_steps session.phase || has_mark lines)
    (session.taken + length (concat lines) + begun) begun
