-- The report of an input is the opening, and then the blocks of its steps, each in the world to which those before it lead.
use Rattle.std.proofs.Common.{◌≡◌, ◌∙◌, inl, inr, ℕ, ◌+◌, ◌≤◌, List, [], ◌∷◌, ◌++◌, length, Bool, true, false, refl, sym, ap, subst, Ok, append_assoc, arith}
use Rattle.std.proofs.lemmas.Bool.Decides.{nat_tests}
use Rattle.std.specs.Prelude.{nat_le, ◌||◌}
use Rattle.input_lines.specs.Lines.{lines_of, text_of, has_mark, later_lines, lines_through, bytes_through}
use Rattle.input_lines.specs.Step.{read_line}
use Rattle.network_config.specs.Network.{network_of}
use Rattle.network_spec.specs.declared.network.NetworkSpec.{NetworkSpec}
use Rattle.network_steps.specs.Genesis.{order_of, first_world}
use Rattle.network_steps.specs.Worlds.{World}
use Rattle.network_steps.specs.Steps.{Step, next_world}
use Rattle.step_text.specs.Lines.{line_refused_line}
use Rattle.report_blocks.specs.Asked.{Asked, asked_of, Nothing, Asks, Unknown}
use Rattle.report_blocks.specs.Blocks.{opening_text, step_block}
use Rattle.line_serving.specs.declared.status.Status.TheVariants.{LineRefused, TooLong}
use Rattle.line_serving.specs.Replies.{Reply, ends, then_on, bytes_reply, fits_limits}
use Rattle.xcm_cli.specs.Report.{steps_reply, lines_reply, max_network, steps_in, steps_of, network_bytes}
use Rattle.xcm_cli.specs.Told.{blocks_of, opening_and_blocks, TellsOf}
use Rattle.xcm_cli.proofs.Advance.{nothing_here, block_here, refused_step, long_step}

tells_as : (reply same : Reply) (told text : List ℕ) → reply ≡ same → told ≡ text → TellsOf same text → TellsOf reply told
tells_as reply same told text r t tells = subst (λ (x : Reply). TellsOf x told) (sym r) (subst (TellsOf same) (sym t) tells)

tells_on : (front told : List ℕ) (reply : Reply) → TellsOf reply told → TellsOf (then_on front reply) (front ++ told)
tells_on front told reply t = record {
  behind = t.behind;
  text = ap (λ x. front ++ x) t.text ∙ sym (append_assoc front told t.behind);
  last = t.last;
}

-- ---- the steps of lines
none_in : (taken : ℕ) (line : List ℕ) (lines : List (List ℕ)) → fits_limits taken line ≡ true → asked_of (read_line (text_of line)) ≡ Nothing
    → steps_in taken (line ∷ lines) ≡ steps_in (taken + length line) lines
unfolding steps_in
none_in taken line lines within asked = rw (within, asked, steps_in) refl

one_in : (taken : ℕ) (step : Step) (line : List ℕ) (lines : List (List ℕ)) → fits_limits taken line ≡ true → asked_of (read_line (text_of line)) ≡ Asks step
    → steps_in taken (line ∷ lines) ≡ step ∷ steps_in (taken + length line) lines
unfolding steps_in
one_in taken step line lines within asked = rw (within, asked, steps_in) refl

refused_in : (taken : ℕ) (line : List ℕ) (lines : List (List ℕ)) → fits_limits taken line ≡ true → asked_of (read_line (text_of line)) ≡ Unknown → steps_in taken (line ∷ lines) ≡ []
unfolding steps_in
refused_in taken line lines within asked = rw (within, asked, steps_in) refl

long_in : (taken : ℕ) (line : List ℕ) (lines : List (List ℕ)) → fits_limits taken line ≡ false → steps_in taken (line ∷ lines) ≡ []
unfolding steps_in
long_in taken line lines past = rw (past, steps_in) refl

-- ---- lines after the network
module _ (audit : Bool) (spec : NetworkSpec) where
  abbrev Tells : World → ℕ → ℕ → ℕ → List (List ℕ) → Type 0
  Tells w done before taken lines = TellsOf (steps_reply audit spec w done before taken lines) (blocks_of audit spec w done (steps_in taken lines))

  line_tells : (w : World) (done before taken : ℕ) (line : List ℕ) (lines : List (List ℕ)) → ((v : World) (n : ℕ) → Tells v n (before + 1) (taken + length line) lines)
      → (fits : Bool) → fits_limits taken line ≡ fits → (asked : Asked) → asked_of (read_line (text_of line)) ≡ asked → Tells w done before taken (line ∷ lines)
  line_tells w done before taken line lines rest false past asked is =
      tells_as _ (ends [] TooLong) _ [] (long_step audit spec w done before taken line lines past) (ap (blocks_of audit spec w done) (long_in taken line lines past))
      (record { behind = []; text = refl; last = inl refl })
  line_tells w done before taken line lines rest true within Nothing is =
      tells_as _ _ _ _ (nothing_here audit spec w done before taken line lines within is) (ap (blocks_of audit spec w done) (none_in taken line lines within is)) (rest w done)
  line_tells w done before taken line lines rest true within (Asks step) is =
      tells_as _ _ _ _ (block_here audit spec w done before taken step line lines within is) (ap (blocks_of audit spec w done) (one_in taken step line lines within is))
      (tells_on (step_block audit spec w (done + 1) step) _ _ (rest (next_world (order_of spec) w step) (done + 1)))
  line_tells w done before taken line lines rest true within Unknown is =
      tells_as _ (ends (line_refused_line (before + 1)) LineRefused) _ [] (refused_step audit spec w done before taken line (line_refused_line (before + 1)) lines within is refl)
      (ap (blocks_of audit spec w done) (refused_in taken line lines within is))
      (record { behind = line_refused_line (before + 1); text = refl; last = inr (before + 1, (refl, refl)) })

  lines_tell : (lines : List (List ℕ)) (w : World) (done before taken : ℕ) → Tells w done before taken lines
  unfolding steps_reply steps_in
  lines_tell [] w done before taken = record { behind = []; text = refl; last = inl refl }
  lines_tell (line ∷ lines) w done before taken =
      line_tells w done before taken line lines (λ v n. lines_tell lines v n (before + 1) (taken + length line)) (fits_limits taken line) refl (asked_of (read_line (text_of line))) refl

-- ---- an input
or_true : (b : Bool) → (b || true) ≡ true
or_true true = refl
or_true false = refl

pub input_tells : (audit : Bool) (bytes : List ℕ) (spec : NetworkSpec) → network_of (network_bytes bytes) ≡ Ok spec → length (network_bytes bytes) ≤ max_network
    → TellsOf (bytes_reply (lines_reply audit) bytes) (opening_and_blocks audit spec (steps_of bytes))
unfolding lines_reply
input_tells audit bytes spec read few =
    let lines = lines_of bytes in
    let fits : nat_le (length (network_bytes bytes)) max_network ≡ true = grind (arith, nat_tests, few) in
    let whole : bytes_reply (lines_reply audit) bytes ≡ then_on (opening_text spec) (steps_reply audit spec (first_world spec) 0 (lines_through lines) (bytes_through lines) (later_lines lines)) =
    rw (fits, or_true (has_mark lines), read) refl in
    tells_as _ _ _ _ whole refl
    (tells_on (opening_text spec) _ _ (lines_tell audit spec (later_lines lines) (first_world spec) 0 (lines_through lines) (bytes_through lines)))
