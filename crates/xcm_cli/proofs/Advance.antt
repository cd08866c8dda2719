-- How a call that writes a text goes on with the run.
use Rattle.std.proofs.Common.{◌≡◌, ◌≢◌, ◌∙◌, ◌⊎◌, inl, inr, ℕ, ◌+◌, ◌<◌, ◌≤◌, List, [], ◌∷◌, ◌++◌, length, length-append, Bool, true, false, refl, sym, ap, subst, Option, Some, None, Result, Ok, Err, Global, append_assoc, append-nil, zero-add, add-zero, arith}
use Rattle.std.proofs.KnownBytes.{Appends-nil}
use Rattle.std.proofs.lemmas.Bool.{cond-true, cond-false}
use Rattle.std.proofs.lemmas.Bool.Decides.{nat_tests}
use Rattle.std.specs.Prelude.{Vec, nat_le, ◌||◌, String, string_bytes}
use Rattle.xcm_io.specs.Bytes.{IsProperFront}
use Rattle.input_lines.specs.Lines.{text_of, network_part, later_lines, lines_through, bytes_through, ends_network, has_mark}
use Rattle.input_lines.specs.Step.{read_line}
use Rattle.document_entries.specs.declared.fault.NetworkFault.{NetworkFault}
use Rattle.network_spec.specs.declared.network.NetworkSpec.{NetworkSpec}
use Rattle.network_config.specs.Network.{network_of}
use Rattle.network_steps.specs.Worlds.{World}
use Rattle.network_steps.specs.Steps.{Step, next_world}
use Rattle.network_steps.specs.Genesis.{order_of, first_world}
use Rattle.chain_net.specs.declared.net.Net.{Net}
use Rattle.chain_net.specs.Nets.{world_of, spec_of, is_stopped}
use Rattle.step_text.specs.Lines.{network_refused_line, line_refused_line}
use Rattle.report_blocks.specs.declared.line_outcome.LineOutcome.{LineOutcome}
use Rattle.report_blocks.specs.declared.line_outcome.LineOutcome.TheVariants as served
use Rattle.report_blocks.specs.Serving.{IsServed}
use Rattle.report_blocks.specs.Asked.{Asked, asked_of, Nothing, Asks, Unknown}
use Rattle.report_blocks.specs.Blocks.{opening_text, step_block}
use Rattle.xcm_cli.specs.declared.phase.Session.{Session}
use Rattle.xcm_cli.specs.declared.phase.Phase.{Phase}
use Rattle.xcm_cli.specs.declared.phase.Phase.TheVariants.{Network, Steps}
use Rattle.xcm_cli.specs.declared.phase.Opened.{Opened}
use Rattle.xcm_cli.specs.declared.phase.Opened.TheVariants.{Runs, Over}
use Rattle.line_serving.specs.declared.status.Status.{Status}
use Rattle.line_serving.specs.declared.status.Status.TheVariants.{Done, ReadFault, WriteFault, NetworkRefused, LineRefused, TooLong}
use Rattle.line_serving.specs.Replies.{Reply, ends, then_on, fits_limits, max_input}
use Rattle.line_serving.specs.Calls.{Writes, Advances, Finishes}
use Rattle.line_serving.proofs.Lemmas.{proper_on, proper_whole}
use Rattle.xcm_cli.specs.Report.{steps_reply, network_reply, part_reply, lines_reply, max_network}
use Rattle.xcm_cli.specs.Session.{Opens, IsFreshNetwork, head_of, reply_at, runs_steps, session_rooms, IsReadySession}
use Rattle.std.specs.List.{concat}
use Rattle.line_serving.specs.Replies.{Replies, Rooms, max_line}
use Rattle.line_serving.specs.Serving.{Serves}
use Rattle.xcm_cli.specs.Report.{IsWithinInputLimits, lines_room}
use Rattle.xcm_cli.specs.Laws.{at_steps, at_network, no_steps}
use Rattle.xcm_cli.proofs.Lemmas.{part_size}
use Rattle.plain_lists.proofs.Lemmas.Facts.{or_associative as or_assoc}

-- ---- a line after the network

-- the same network and world by other names
same_rest : (audit : Bool) (spec now : NetworkSpec) (w next : World) (done before taken : ℕ) (lines : List (List ℕ)) → next ≡ w → now ≡ spec
    → steps_reply audit spec w done before taken lines ≡ steps_reply audit now next done before taken lines
same_rest audit spec now w next done before taken lines n s = λ i. steps_reply audit (sym s i) (sym n i) done before taken lines

pub nothing_here : (audit : Bool) (spec : NetworkSpec) (w : World) (done before taken : ℕ) (line : List ℕ) (lines : List (List ℕ)) → fits_limits taken line ≡ true → asked_of (read_line (text_of line)) ≡ Nothing
    → steps_reply audit spec w done before taken (line ∷ lines) ≡ steps_reply audit spec w done (before + 1) (taken + length line) lines
unfolding steps_reply
nothing_here audit spec w done before taken line lines within asked = rw (within, asked, steps_reply) refl

pub block_here : (audit : Bool) (spec : NetworkSpec) (w : World) (done before taken : ℕ) (step : Step) (line : List ℕ) (lines : List (List ℕ)) → fits_limits taken line ≡ true → asked_of (read_line (text_of line)) ≡ Asks step
    → steps_reply audit spec w done before taken (line ∷ lines)
    ≡ then_on (step_block audit spec w (done + 1) step) (steps_reply audit spec (next_world (order_of spec) w step) (done + 1) (before + 1) (taken + length line) lines)
unfolding steps_reply
block_here audit spec w done before taken step line lines within asked = rw (within, asked, steps_reply) refl

pub no_step : (audit : Bool) (spec now : NetworkSpec) (w next : World) (done before taken : ℕ) (line : List ℕ) (lines : List (List ℕ)) → fits_limits taken line ≡ true → asked_of (read_line (text_of line)) ≡ Nothing
    → next ≡ w → now ≡ spec
    → steps_reply audit spec w done before taken (line ∷ lines) ≡ steps_reply audit now next done (before + 1) (taken + length line) lines
no_step audit spec now w next done before taken line lines within asked n s =
    nothing_here audit spec w done before taken line lines within asked ∙ same_rest audit spec now w next done (before + 1) (taken + length line) lines n s

pub block_step : (audit : Bool) (spec now : NetworkSpec) (w next : World) (done before taken : ℕ) (step : Step) (line text : List ℕ) (lines : List (List ℕ)) → fits_limits taken line ≡ true
    → asked_of (read_line (text_of line)) ≡ Asks step → text ≡ step_block audit spec w (done + 1) step → next ≡ next_world (order_of spec) w step → now ≡ spec
    → steps_reply audit spec w done before taken (line ∷ lines) ≡ then_on text (steps_reply audit now next (done + 1) (before + 1) (taken + length line) lines)
block_step audit spec now w next done before taken step line text lines within asked t n s =
    block_here audit spec w done before taken step line lines within asked
    ∙ (λ i. then_on (sym t i) (same_rest audit spec now (next_world (order_of spec) w step) next (done + 1) (before + 1) (taken + length line) lines n s i))

pub refused_step : (audit : Bool) (spec : NetworkSpec) (w : World) (done before taken : ℕ) (line text : List ℕ) (lines : List (List ℕ)) → fits_limits taken line ≡ true → asked_of (read_line (text_of line)) ≡ Unknown
    → text ≡ line_refused_line (before + 1) → steps_reply audit spec w done before taken (line ∷ lines) ≡ ends text LineRefused
unfolding steps_reply
refused_step audit spec w done before taken line text lines within asked t = rw (t, within, asked, steps_reply) refl

pub long_step : (audit : Bool) (spec : NetworkSpec) (w : World) (done before taken : ℕ) (line : List ℕ) (lines : List (List ℕ)) → fits_limits taken line ≡ false
    → steps_reply audit spec w done before taken (line ∷ lines) ≡ ends [] TooLong
unfolding steps_reply
long_step audit spec w done before taken line lines past = rw (past, steps_reply) refl

-- ---- what came of a line

pub served_nothing : (audit : Bool) (spec : NetworkSpec) (w : World) (number : ℕ) (asked : Asked) (came : LineOutcome) (now : World) → came ≡ served.Nothing → IsServed audit spec w number asked came now → (asked ≡ Nothing) × (now ≡ w)
served_nothing audit spec w number asked came now e s = rw e at s

pub served_unknown : (audit : Bool) (spec : NetworkSpec) (w : World) (number : ℕ) (asked : Asked) (came : LineOutcome) (now : World) → came ≡ served.Unknown → IsServed audit spec w number asked came now → (asked ≡ Unknown) × (now ≡ w)
served_unknown audit spec w number asked came now e s = rw e at s

pub served_block : (audit : Bool) (spec : NetworkSpec) (w : World) (number : ℕ) (asked : Asked) (came : LineOutcome) (text : String Global) (now : World) → came ≡ served.Block text → IsServed audit spec w number asked came now
    → (step : Step) × (asked ≡ Asks step) × (string_bytes text ≡ step_block audit spec w number step) × (now ≡ next_world (order_of spec) w step)
served_block audit spec w number asked came text now e s = rw e at s

-- ---- the network

network_runs : (audit : Bool) (part : List ℕ) (net : Net) (text : List ℕ) (before taken : ℕ) (lines : List (List ℕ)) → IsFreshNetwork part net → text ≡ opening_text (spec_of net)
    → network_reply audit (network_of part) before taken lines ≡ then_on text (steps_reply audit (spec_of net) (world_of net) 0 before taken lines)
network_runs audit part net text before taken lines b t = rw (b.read, b.first, t) refl

network_refused : (audit : Bool) (network : Result NetworkSpec NetworkFault) (fault : NetworkFault) (text : List ℕ) (before taken : ℕ) (lines : List (List ℕ)) → network ≡ Err fault → text ≡ network_refused_line fault
    → network_reply audit network before taken lines ≡ ends text NetworkRefused
network_refused audit network fault text before taken lines n t = rw (n, t) refl

-- what is written first is at the front of what is written
head_proper : (audit : Bool) (network : Result NetworkSpec NetworkFault) (part : List ℕ) (before taken : ℕ) (lines : List (List ℕ)) → IsProperFront part (head_of network)
    → IsProperFront part (network_reply audit network before taken lines).text
head_proper audit (Ok spec) part before taken lines f = proper_on part (opening_text spec) (steps_reply audit spec (first_world spec) 0 before taken lines).text _ f refl
head_proper audit (Err fault) part before taken lines f = f

-- a run is over in two ways when its network is read
pub over_status : {E : Type 0} (part : List ℕ) (old new : Option (List ℕ)) (result : Result Opened E) (status : Status) → Opens part old new result → result ≡ Ok (Over status) → (status ≡ NetworkRefused) ⊎ (status ≡ WriteFault)
over_status part old new result status o e = elim (o.over status e) [ inl h ↦ inl h.0 | inr h ↦ inr h.0 ]

module _ {E : Type 0} (audit : Bool) (part : List ℕ) (old new : Option (List ℕ)) (result : Result Opened E) (o : Opens part old new result) {X : Type 0} (lines : X → List (List ℕ)) (before taken : ℕ) (first then : X → Reply)
    (same : (x : X) → first x ≡ network_reply audit (network_of part) before taken (lines x)) where
  -- the network runs
  pub opens_runs : {F : Type 0} (net : Net) (due : List ℕ) → result ≡ Ok (Runs net) → ((x : X) → then x ≡ steps_reply audit (spec_of net) (world_of net) 0 before taken (lines x))
      → Advances {E = F} first then due old new (Ok None)
  opens_runs net due e next =
      let r = o.runs net e in
      let goes : (x : X) → first x ≡ then_on o.text (then x) = λ x. same x ∙ network_runs audit part net o.text before taken (lines x) r.0 r.1 ∙ ap (then_on o.text) (sym (next x)) in
      record {
        text = o.text;
        appends = o.appends;
        front = λ x. ((then x).text, ap (λ p. p.text) (goes x));
        goes_on = λ k x. goes x;
        ended = λ status k n x. cc;
        short = λ k. absurd cc;
        long = λ k. absurd cc;
      }

  refused_over : {F : Type 0} (none : X) (status : Status) (fault : NetworkFault) → status ≡ NetworkRefused → network_of part ≡ Err fault → o.text ≡ network_refused_line fault
      → Advances {E = F} first then (first none).text old new (Ok (Some status))
  refused_over none status fault s n t =
      let whole : (x : X) → first x ≡ ends o.text status = λ x. same x ∙ network_refused audit (network_of part) fault o.text before taken (lines x) n t ∙ ap (ends o.text) (sym s) in
      record {
        text = o.text;
        appends = o.appends;
        front = λ x. ([], ap (λ p. p.text) (whole x) ∙ sym (append-nil o.text));
        goes_on = λ k x. cc;
        ended = λ other k m x. whole x ∙ ap (ends o.text) cc;
        short = λ k. absurd cc;
        long = λ k. absurd cc;
      }

  failed_over : {F : Type 0} (none : X) (status : Status) → status ≡ WriteFault → IsProperFront o.text (head_of (network_of part)) → Advances {E = F} first then (first none).text old new (Ok (Some status))
  failed_over none status s f =
      let proper : (x : X) → IsProperFront o.text (first x).text = λ x. rw (same x) (head_proper audit (network_of part) o.text before taken (lines x) f) in
      record {
        text = o.text;
        appends = o.appends;
        front = λ x. ((proper x).0, (proper x).1);
        goes_on = λ k x. cc;
        ended = λ other k m x. absurd (m cc);
        short = λ k. proper none;
        long = λ k. absurd cc;
      }

  -- the run is over
  pub opens_over : {F : Type 0} (none : X) (status : Status) → result ≡ Ok (Over status) → Advances {E = F} first then (first none).text old new (Ok (Some status))
  opens_over none status e = elim (o.over status e) [ inl h ↦ refused_over none status h.1.0 h.0 h.1.1.0 h.1.1.1 | inr h ↦ failed_over none status h.0 h.1 ]

  -- memory was refused
  pub opens_err : {F : Type 0} (due : List ℕ) (refused : E) (gone : F) → result ≡ Err refused → Advances {E = F} first then due old new (Err gone)
  opens_err due refused gone e = record {
    text = o.text;
    appends = o.appends;
    front = λ x. ((first x).text, ap (λ t. t ++ (first x).text) (sym (o.none refused e)));
    goes_on = λ k x. cc;
    ended = λ status k n x. cc;
    short = λ k. absurd cc;
    long = λ k. absurd cc;
  }

-- ---- reading the network part

-- the opening was written whole
pub opens_run : {E : Type 0} (part text : List ℕ) (net : Net) (old new : Option (List ℕ)) (result : Option Status) → Writes text None old new result → result ≡ None → IsFreshNetwork part net → text ≡ opening_text (spec_of net)
    → Opens {E = E} part old new (Ok (Runs net))
opens_run part text net old new result w n b t =
    let whole : w.part ≡ opening_text (spec_of net) = elim w.whole [ inl h ↦ h.1 ∙ t | inr h ↦ absurd cc ] in
    record {
      text = w.part;
      appends = w.appends;
      runs = λ other e. let same : other ≡ net = cc in rw same (b, whole);
      over = λ status e. absurd cc;
      none = λ refused e. absurd cc;
    }

-- the opening was not
pub opens_short : {E : Type 0} (part text : List ℕ) (status : Status) (old new : Option (List ℕ)) (result : Option Status) → Writes text None old new result → result ≡ Some status → head_of (network_of part) ≡ text
    → Opens {E = E} part old new (Ok (Over status))
opens_short part text status old new result w s h = record {
  text = w.part;
  appends = w.appends;
  runs = λ net e. absurd cc;
  over = λ other e. elim w.whole [ inl x ↦ absurd cc | inr x ↦ inr (cc, proper_whole w.part text (head_of (network_of part)) x.1 h) ];
  none = λ refused e. absurd cc;
}

-- the network was refused
pub opens_refused : {E : Type 0} (part text : List ℕ) (fault : NetworkFault) (status : Status) (old new : Option (List ℕ)) (result : Option Status) → Writes text (Some NetworkRefused) old new result → result ≡ Some status
    → network_of part ≡ Err fault → text ≡ network_refused_line fault → Opens {E = E} part old new (Ok (Over status))
opens_refused part text fault status old new result w s f t =
    let head : head_of (network_of part) ≡ text = rw f (sym t) in
    record {
      text = w.part;
      appends = w.appends;
      runs = λ net e. absurd cc;
      over = λ other e. elim w.whole [ inl x ↦ inl (cc, (fault, (f, x.1 ∙ t))) | inr x ↦ inr (cc, proper_whole w.part text (head_of (network_of part)) x.1 head) ];
      none = λ refused e. absurd cc;
    }

-- memory was refused before anything was written
pub opens_none : {E : Type 0} (part : List ℕ) (known : Option (List ℕ)) (gone : E) → Opens part known known (Err gone)
opens_none part known gone = record {
  text = [];
  appends = Appends-nil known;
  runs = λ net e. absurd cc;
  over = λ status e. absurd cc;
  none = λ refused e. refl;
}

-- a part within its limit that is closed
pub part_fits : (audit : Bool) (part : List ℕ) (before taken : ℕ) (closed : Bool) (lines : List (List ℕ)) → closed ≡ true → length part ≤ max_network
    → part_reply audit closed part before taken lines ≡ network_reply audit (network_of part) before taken lines
part_fits audit part before taken closed lines c l = rw c (cond-true (nat_le (length part) max_network) _ _ (grind (arith, nat_tests)))

pub part_long : (audit : Bool) (part : List ℕ) (before taken : ℕ) (closed : Bool) (lines : List (List ℕ)) → max_network < length part → part_reply audit closed part before taken lines ≡ ends [] TooLong
part_long audit part before taken closed lines l = cond-false (nat_le (length part) max_network) _ _ (grind (arith, nat_tests))

-- ---- where a session is

pub at_start : (s : Session) (part : Vec ℕ Global) (at_end : Bool) (lines : List (List ℕ)) → s.phase ≡ Network part → part.items ≡ [] → s.lines ≡ 0 → s.taken ≡ 0
    → reply_at s at_end lines ≡ lines_reply s.audit at_end lines
unfolding lines_reply
at_start s part at_end lines e n z t = at_network s part at_end lines e ∙ rw (n, z, t, zero-add, zero-add) refl

part_of : (line : List ℕ) (lines : List (List ℕ)) → ends_network line ≡ false → network_part (line ∷ lines) ≡ line ++ network_part lines
part_of line lines e = cond-false (ends_network line) _ _ e

through_of : (line : List ℕ) (lines : List (List ℕ)) → ends_network line ≡ false → lines_through (line ∷ lines) ≡ lines_through lines + 1
through_of line lines e = cond-false (ends_network line) _ _ e

bytes_of : (line : List ℕ) (lines : List (List ℕ)) → ends_network line ≡ false → bytes_through (line ∷ lines) ≡ bytes_through lines + length line
bytes_of line lines e = cond-false (ends_network line) _ _ e

later_of : (line : List ℕ) (lines : List (List ℕ)) → ends_network line ≡ false → later_lines (line ∷ lines) ≡ later_lines lines
later_of line lines e = cond-false (ends_network line) _ _ e

mark_of : (line : List ℕ) (lines : List (List ℕ)) → ends_network line ≡ false → has_mark (line ∷ lines) ≡ has_mark lines
mark_of line lines e = rw e refl

-- a line of the network is kept
pub line_kept : (old new : Session) (part more : Vec ℕ Global) (line : List ℕ) (at_end : Bool) (lines : List (List ℕ)) → old.phase ≡ Network part → new.phase ≡ Network more
    → more.items ≡ part.items ++ line → new.audit ≡ old.audit → new.lines ≡ old.lines + 1 → new.taken ≡ old.taken + length line → ends_network line ≡ false → reply_at old at_end (line ∷ lines) ≡ reply_at new at_end lines
line_kept old new part more line at_end lines eo en k a n t m =
    let bytes : part.items ++ network_part (line ∷ lines) ≡ more.items ++ network_part lines =
    ap (λ t. part.items ++ t) (part_of line lines m) ∙ sym (append_assoc part.items line (network_part lines)) ∙ ap (λ t. t ++ network_part lines) (sym k) in
    let count : old.lines + lines_through (line ∷ lines) ≡ new.lines + lines_through lines = omega (arith, through_of line lines m) in
    let size : old.taken + bytes_through (line ∷ lines) ≡ new.taken + bytes_through lines = omega (arith, bytes_of line lines m) in
    at_network old part at_end (line ∷ lines) eo ∙ rw (← a, bytes, count, size, later_of line lines m, mark_of line lines m) (sym (at_network new more at_end lines en))

-- a line that takes the network past its limit
pub line_over : (old : Session) (part : Vec ℕ Global) (line : List ℕ) (at_end : Bool) (lines : List (List ℕ)) → old.phase ≡ Network part → ends_network line ≡ false → max_network < length part.items + length line
    → reply_at old at_end (line ∷ lines) ≡ ends [] TooLong
line_over old part line at_end lines e m l =
    let size : length (part.items ++ network_part (line ∷ lines)) ≡ length part.items + (length line + length (network_part lines)) =
    rw (part_of line lines m) (length-append part.items (line ++ network_part lines) ∙ ap (λ n. length part.items + n) (length-append line (network_part lines))) in
    at_network old part at_end (line ∷ lines) e ∙ part_long old.audit (part.items ++ network_part (line ∷ lines)) _ _ _ _ (omega arith)

-- the line that ends the network
pub line_ends : (old : Session) (part : Vec ℕ Global) (line : List ℕ) (at_end : Bool) (lines : List (List ℕ)) → old.phase ≡ Network part → length part.items ≤ max_network → ends_network line ≡ true
    → reply_at old at_end (line ∷ lines) ≡ network_reply old.audit (network_of part.items) (old.lines + 1) (old.taken + length line) lines
line_ends old part line at_end lines e l m =
    at_network old part at_end (line ∷ lines) e ∙ rw (m, network_part, later_lines, lines_through, bytes_through, append-nil) (part_fits old.audit part.items (old.lines + 1) (old.taken + length line) true lines refl l)

-- ---- the end of the lines

pub at_end : (s : Session) (part : Vec ℕ Global) → s.phase ≡ Network part → length part.items ≤ max_network → reply_at s true [] ≡ network_reply s.audit (network_of part.items) s.lines s.taken []
at_end s part e l = at_network s part true [] e ∙ rw (append-nil, add-zero, add-zero) (part_fits s.audit part.items s.lines s.taken true [] refl l)

pub finishes_steps : {E : Type 0} (s : Session) (net : Net) (done : ℕ) (known : Option (List ℕ)) → s.phase ≡ Steps net done → Finishes {E = E} (reply_at s true []) known known (Ok Done)
finishes_steps s net done known e =
    let whole : reply_at s true [] ≡ ends [] Done = at_steps s net done true [] e ∙ no_steps s.audit (spec_of net) (world_of net) done s.lines s.taken in
    record {
      text = [];
      appends = Appends-nil known;
      front = ((reply_at s true []).text, refl);
      ended = λ status r n. whole ∙ ap (λ x. ends [] x) cc;
      short = λ r. absurd cc;
      long = λ r. cc;
      no_read = λ r. cc;
    }

pub finishes_some : {E : Type 0} (rest : Reply) (before next_world : List (List ℕ) → Reply) (old new : Option (List ℕ)) (answer : Status) (result : Result (Option Status) E)
    → result ≡ Ok (Some answer) → rest ≡ before [] → result ≢ Ok (Some ReadFault) → result ≢ Ok (Some TooLong) → Advances before next_world (before []).text old new result → Finishes {E = E} rest old new (Ok answer)
finishes_some rest before next_world old new answer result is e n m a = record {
  text = a.text;
  appends = a.appends;
  front = ((a.front []).0, ap (λ o. o.text) e ∙ (a.front []).1);
  ended = λ status r w. e ∙ a.ended status (is ∙ ap (λ x. Ok (Some x)) cc) w [];
  short = λ r. proper_whole a.text (before []).text rest.text (a.short (is ∙ ap (λ x. Ok (Some x)) cc)) (ap (λ o. o.text) e);
  long = λ r. m (is ∙ ap (λ x. Ok (Some x)) cc);
  no_read = λ r. n (is ∙ ap (λ x. Ok (Some x)) cc);
}

pub finishes_none : {E : Type 0} (rest : Reply) (before : List (List ℕ) → Reply) (audit : Bool) (spec : NetworkSpec) (w : World) (done lines taken : ℕ) (due : List ℕ) (old new : Option (List ℕ)) (result : Result (Option Status) E)
    → result ≡ Ok None → rest ≡ before [] → Advances before (steps_reply audit spec w done lines taken) due old new result → Finishes {E = E} rest old new (Ok Done)
finishes_none rest before audit spec w done lines taken due old new result is e a =
    let whole : rest ≡ ends a.text Done = e ∙ a.goes_on is [] ∙ ap (then_on a.text) (no_steps audit spec w done lines taken) ∙ ap (λ t. ends t Done) (append-nil a.text) in
    record {
      text = a.text;
      appends = a.appends;
      front = ((a.front []).0, ap (λ o. o.text) e ∙ (a.front []).1);
      ended = λ status r w. whole ∙ ap (λ x. ends a.text x) cc;
      short = λ r. absurd cc;
      long = λ r. cc;
      no_read = λ r. cc;
    }

pub finishes_err : {E F : Type 0} (rest : Reply) (before next_world : List (List ℕ) → Reply) (due : List ℕ) (old new : Option (List ℕ)) (refused : F) (result : Result (Option Status) E)
    → rest ≡ before [] → Advances before next_world due old new result → Finishes {E = F} rest old new (Err refused)
finishes_err rest before next_world due old new refused result e a = record {
  text = a.text;
  appends = a.appends;
  front = ((a.front []).0, ap (λ o. o.text) e ∙ (a.front []).1);
  ended = λ status r w. cc;
  short = λ r. absurd cc;
  long = λ r. cc;
  no_read = λ r. cc;
}

-- ---- what a ready session says of its part

pub part_within : (s : Session) (part : Vec ℕ Global) → s.phase ≡ Network part → IsReadySession s → length part.items ≤ max_network
part_within s part e r = let h : (length part.items ≡ s.taken) × (s.taken ≤ max_network) = part_size s part e r in omega arith

pub ready_steps : (s : Session) (part : Vec ℕ Global) (net : Net) (line : List ℕ) → s.phase ≡ Network part → IsReadySession s → is_stopped net ≡ false → 0 < length line → length line ≤ 5
    → IsReadySession (record { audit = s.audit; phase = Steps net 0; lines = s.lines + 1; taken = s.taken + length line })
ready_steps s part net line e r running l m =
    let h : (length part.items ≡ s.taken) × (s.taken ≤ max_network) = part_size s part e r in
    record { steps = omega arith; lines = omega (arith, r.lines); part = (omega (arith, h.1), running) }

-- ---- room for more of a line

-- a line that is taken leaves the same room after it
pub room_behind : (old new : Session) (line : List ℕ) (lines : List (List ℕ)) (begun : ℕ) → runs_steps new.phase ≡ (runs_steps old.phase || ends_network line) → new.taken ≡ old.taken + length line
    → session_rooms new lines begun → session_rooms old (line ∷ lines) begun
room_behind old new line lines begun p t r =
    let size : new.taken + length (concat lines) + begun ≡ old.taken + length (line ++ concat lines) + begun = omega (arith, length-append line (concat lines)) in
    let mark : (runs_steps new.phase || has_mark lines) ≡ (runs_steps old.phase || (ends_network line || has_mark lines)) =
    ap (λ b. b || has_mark lines) p ∙ or_assoc (runs_steps old.phase) (ends_network line) (has_mark lines) in
    subst (λ (b : Bool). IsWithinInputLimits b (old.taken + length (line ++ concat lines) + begun) begun) mark
    (subst (λ (n : ℕ). IsWithinInputLimits (runs_steps new.phase || has_mark lines) n begun) size r)

-- what has come of a line is within the limits so far
pub room_steps : (s : Session) (net : Net) (done begun : ℕ) → s.phase ≡ Steps net done → begun ≤ max_line → s.taken + begun ≤ max_input → session_rooms s [] begun
room_steps s net done begun e line total = let P : Phase → Type 0 = λ p. IsWithinInputLimits (runs_steps p || false) (s.taken + 0 + begun) begun in subst P (sym e) (line, omega arith)

pub room_network : (s : Session) (part : Vec ℕ Global) (begun : ℕ) → s.phase ≡ Network part → s.taken + begun ≤ max_network + 4 → session_rooms s [] begun
room_network s part begun e size = let P : Phase → Type 0 = λ p. IsWithinInputLimits (runs_steps p || false) (s.taken + 0 + begun) begun in subst P (sym e) (omega arith)

-- a run at its start has all of its report to write
pub serves_first : {E : Type 0} (audit : Bool) (s : Session) (left rest old new : Option (List ℕ)) (result : Result Status E) → ((at_end : Bool) (lines : List (List ℕ)) → reply_at s at_end lines ≡ lines_reply audit at_end lines)
    → runs_steps s.phase ≡ false → s.taken ≡ 0 → Serves (reply_at s) (session_rooms s) left rest old new result → Serves (lines_reply audit) lines_room left rest old new result
serves_first audit s left rest old new result start phase none served =
    let size : (lines : List (List ℕ)) (begun : ℕ) → s.taken + length (concat lines) + begun ≡ length (concat lines) + begun = λ lines begun. omega arith in
    let replies : reply_at s ≡ lines_reply audit = λ i at_end lines. start at_end lines i in
    let rooms : session_rooms s ≡ lines_room = λ i lines begun. IsWithinInputLimits (phase i || has_mark lines) (size lines begun i) begun in
    subst (λ (f : Rooms). Serves (lines_reply audit) f left rest old new result) rooms (subst (λ (f : Replies). Serves f (session_rooms s) left rest old new result) replies served)
