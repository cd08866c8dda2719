-- Texts that are written in pieces, one after the other.
use Rattle.std.proofs.Common.{◌≡◌, ◌≢◌, ◌∙◌, ◌⊎◌, inl, inr, ℕ, ◌+◌, ◌<◌, ◌≤◌, Bool, List, [], ◌∷◌, ◌++◌, length, take, drop, get_or, map, refl, sym, ap, subst, Option, Some, None, Result, Ok, Err, append_assoc, append-nil, arith}
use Rattle.std.proofs.lemmas.Grind.{flat_map-append}
use Rattle.std.specs.Prelude.{flat_map, MatchOption, ⊤}
use Rattle.std.proofs.lemmas.List.{take_more, take-append-drop}
use Rattle.std.proofs.KnownBytes.{Appends-nil, Appends-trans}
use Rattle.xcm_io.specs.Bytes.{IsFront, IsProperFront}
use Rattle.xcm_io.specs.Causes.{Rose}
use Rattle.exec_base.specs.Part.{ChainPart}
use Rattle.network_spec.specs.declared.network.NetworkSpec.{NetworkSpec}
use Rattle.network_steps.specs.Genesis.{order_of}
use Rattle.network_steps.specs.Worlds.{World, parts_of}
use Rattle.network_steps.specs.Steps.{Link, next_world}
use Rattle.input_lines.specs.declared.step.Step.{Step as LineStep}
use Rattle.chain_state.specs.declared.state.ChainState.{ChainState}
use Rattle.chain_state.specs.PartOf.{part_of}
use Rattle.input_lines.specs.declared.line.Line.{Line}
use Rattle.input_lines.specs.declared.line.Line.TheVariants as lines
use Rattle.step_text.specs.Steps.{heading}
use Rattle.step_text.specs.Blocks.{balances_of, chain_traps_text, link_text}
use Rattle.report_blocks.specs.Asked.{Asks, asked_of, world_step, line_step}
use Rattle.report_blocks.specs.Reads.{balances_block, traps_block, queues_block}
use Rattle.report_blocks.specs.Blocks.{audit_lines, step_block, step_lines}
use Rattle.line_serving.specs.Replies.{Reply, then_on}
use Rattle.line_serving.specs.Calls.{Writes, Advances, HasWriteCause}
use Rattle.line_serving.specs.declared.status.Status.{Status}
use Rattle.line_serving.specs.declared.status.Status.TheVariants.{Done, Usage, ReadFault, WriteFault, TooLong}
use Rattle.line_serving.proofs.Lemmas.{wrote_front, front_on, proper_on}
use Rattle.xcm_cli.specs.Pieces.{WritesInPieces, step_of_block}
use Rattle.xcm_cli.specs.declared.long_blocks.LongBlock.{LongBlock}
use Rattle.xcm_cli.specs.declared.long_blocks.LongBlock.TheVariants as blocks

-- nothing, where there is nothing to write
pub none_written : {E : Type 0} (known : Option (List ℕ)) (count : ℕ) → WritesInPieces {E = E} [] known known count count (Ok None)
none_written known count = record {
  part = [];
  appends = Appends-nil known;
  front = ([], refl);
  whole = λ e. refl;
  failed = λ status e. absurd cc;
  later = omega arith;
}

-- memory was refused before anything was written
pub none_for : {E : Type 0} (text : List ℕ) (known : Option (List ℕ)) (count : ℕ) (refused : E) → WritesInPieces text known known count count (Err refused)
none_for text known count refused = record {
  part = [];
  appends = Appends-nil known;
  front = (text, refl);
  whole = λ e. cc;
  failed = λ status e. absurd cc;
  later = omega arith;
}

-- a text that is written as one piece
pub one_piece : {E : Type 0} (text : List ℕ) (old new : Option (List ℕ)) (before now : ℕ) (result : Option Status) → Writes text None old new result → before ≤ now
    → ((result ≡ None) ⊎ ((result ≡ Some WriteFault) × Rose before now)) → WritesInPieces {E = E} text old new before now (Ok result)
one_piece text old new before now result w later cause = record {
  part = w.part;
  appends = w.appends;
  front = wrote_front text None old new result w;
  whole = λ e. elim w.whole [ inl h ↦ h.1 | inr h ↦ cc ];
  failed = λ status e. elim w.whole [ inl h ↦ absurd cc | inr h ↦ elim cause [ inl k ↦ absurd cc | inr k ↦ (let same : status ≡ WriteFault = cc in (same, h.1, k.1)) ] ];
  later = later;
}

-- what comes before a text that is written in pieces
front_then : (first part second : List ℕ) → IsFront part second → IsFront (first ++ part) (first ++ second)
front_then first part second f = (f.0, ap (λ t. first ++ t) f.1 ∙ sym (append_assoc first part f.0))

proper_then : (first part second : List ℕ) → IsProperFront part second → IsProperFront (first ++ part) (first ++ second)
proper_then first part second f = (f.0, ap (λ t. first ++ t) f.1 ∙ sym (append_assoc first part f.0), f.2)

rose_later : (before mid now : ℕ) → before ≤ mid → Rose mid now → Rose before now
rose_later before mid now l r = omega arith

later_still : (before mid now : ℕ) → before ≤ mid → mid ≤ now → before ≤ now
later_still before mid now l m = omega arith

-- by other words for the text
pub pieces_as : {E : Type 0} (text other : List ℕ) (old new : Option (List ℕ)) (before now : ℕ) (result : Result (Option Status) E) → text ≡ other
    → WritesInPieces text old new before now result → WritesInPieces other old new before now result
pieces_as text other old new before now result e w = subst (λ (t : List ℕ). WritesInPieces t old new before now result) e w

-- a text was written, and then a second one in pieces
pub then_pieces : {E F : Type 0} (first second : List ℕ) (old between new : Option (List ℕ)) (before mid now : ℕ) (went : Result (Option Status) E) (result : Result (Option Status) F)
    → WritesInPieces first old between before mid went → went ≡ Ok None → WritesInPieces second between new mid now result → WritesInPieces (first ++ second) old new before now result
then_pieces first second old between new before mid now went result a e b =
    let whole : a.part ≡ first = a.whole e in
    record {
      part = a.part ++ b.part;
      appends = Appends-trans old between new a.part b.part a.appends b.appends;
      front = rw whole (front_then first b.part second b.front);
      whole = λ r. rw (whole, b.whole r) refl;
      failed = λ status r. let f = b.failed status r in (f.0, rw whole (proper_then first b.part second f.1), rose_later before mid now a.later f.2);
      later = later_still before mid now a.later b.later;
    }

-- a write of the first text failed, and nothing of the second was written
pub fails_there : {E F : Type 0} (first second : List ℕ) (old new : Option (List ℕ)) (before now : ℕ) (went : Result (Option Status) E) (status : Status)
    → WritesInPieces first old new before now went → went ≡ Ok (Some status) → WritesInPieces {E = F} (first ++ second) old new before now (Ok (Some status))
fails_there first second old new before now went status a e =
    let f = a.failed status e in
    record {
      part = a.part;
      appends = a.appends;
      front = (a.front.0 ++ second, ap (λ t. t ++ second) a.front.1 ∙ append_assoc a.part a.front.0 second);
      whole = λ r. cc;
      failed = λ other r. let same : status ≡ other = cc in (sym same ∙ f.0, proper_on a.part first second (first ++ second) f.1 refl, f.2);
      later = a.later;
    }

-- memory was refused in the first text, and nothing of the second was written
pub refused_there : {E F : Type 0} (first second : List ℕ) (old new : Option (List ℕ)) (before now : ℕ) (went : Result (Option Status) E) (refused : F)
    → WritesInPieces first old new before now went → WritesInPieces (first ++ second) old new before now (Err refused)
refused_there first second old new before now went refused a = record {
  part = a.part;
  appends = a.appends;
  front = (a.front.0 ++ second, ap (λ t. t ++ second) a.front.1 ∙ append_assoc a.part a.front.0 second);
  whole = λ r. cc;
  failed = λ other r. absurd cc;
  later = a.later;
}

-- ---- the texts of a list, one after the other

module _ {A : Type 0} (f : A → List ℕ) (items : List A) (k : ℕ) (x : A) (inside : k < length items) (is : x ≡ get_or items k x) where
  one_more : flat_map f (take (k + 1) items) ≡ flat_map f (take k items) ++ f x
  one_more =
      ap (flat_map f) (take_more items k x inside) ∙ flat_map-append f (take k items) (get_or items k x ∷ [])
      ∙ ap (λ y. flat_map f (take k items) ++ (f y ++ [])) (sym is) ∙ ap (λ t. flat_map f (take k items) ++ t) (append-nil (f x))

  with_rest : (flat_map f (take k items) ++ f x) ++ flat_map f (drop (k + 1) items) ≡ flat_map f items
  with_rest =
      ap (λ t. t ++ flat_map f (drop (k + 1) items)) (sym one_more)
      ∙ sym (flat_map-append f (take (k + 1) items) (drop (k + 1) items)) ∙ ap (flat_map f) (take-append-drop (k + 1) items)

  module _ {E : Type 0} (old between new : Option (List ℕ)) (before mid now : ℕ) (so_far : WritesInPieces {E = E} (flat_map f (take k items)) old between before mid (Ok None)) (went : Result (Option Status) E)
      (wrote : WritesInPieces (f x) between new mid now went) where
    both : WritesInPieces (flat_map f (take k items) ++ f x) old new before now went
    both = then_pieces (flat_map f (take k items)) (f x) old between new before mid now (Ok None) went so_far refl wrote

    -- one text more was written
    pub next_piece : went ≡ Ok None → WritesInPieces {E = E} (flat_map f (take (k + 1) items)) old new before now (Ok None)
    next_piece e = pieces_as _ _ old new before now (Ok None) (sym one_more) (subst (λ (r : Result (Option Status) E). WritesInPieces (flat_map f (take k items) ++ f x) old new before now r) e both)

    -- a write of it failed
    pub fails_at : (status : Status) → went ≡ Ok (Some status) → WritesInPieces {E = E} (flat_map f items) old new before now (Ok (Some status))
    fails_at status e =
        pieces_as _ _ old new before now (Ok (Some status)) with_rest
        (fails_there (flat_map f (take k items) ++ f x) (flat_map f (drop (k + 1) items)) old new before now went status both e)

    -- memory was refused for it
    pub refused_at : (refused : E) → WritesInPieces {E = E} (flat_map f items) old new before now (Err refused)
    refused_at refused =
        pieces_as _ _ old new before now (Err refused) with_rest
        (refused_there (flat_map f (take k items) ++ f x) (flat_map f (drop (k + 1) items)) old new before now went refused both)

-- ---- the blocks that are written in pieces

flat_map_map : {A B : Type 0} (f : B → List ℕ) (g : A → B) (xs : List A) → flat_map (λ x. f (g x)) xs ≡ flat_map f (map g xs)
flat_map_map f g [] = refl
flat_map_map f g (x ∷ xs) = ap (λ t. f (g x) ++ t) (flat_map_map f g xs)

pub queues_are : {A : Type 0} (link : A → Link) (channels : List A) (parts : List ChainPart) (w : World) → parts ≡ parts_of w → flat_map (λ x. link_text parts (link x)) channels ≡ queues_block (map link channels) w
unfolding queues_block
queues_are link channels parts w same = flat_map_map (link_text parts) link channels ∙ ap (λ ps. flat_map (link_text ps) (map link channels)) same

pub balances_are : (chains : List ChainState) (w : World) → map part_of chains ≡ parts_of w → flat_map (λ c. balances_of (part_of c)) chains ≡ balances_block w
unfolding balances_block
balances_are chains w same = flat_map_map balances_of part_of chains ∙ ap (flat_map balances_of) same

pub traps_are : (chains : List ChainState) (w : World) → map part_of chains ≡ parts_of w → flat_map (λ c. chain_traps_text (part_of c)) chains ≡ traps_block w
unfolding traps_block
traps_are chains w same = flat_map_map chain_traps_text part_of chains ∙ ap (flat_map chain_traps_text) same

pub balances_lines : (spec : NetworkSpec) (w : World) (block : LongBlock) → block ≡ blocks.Balances → balances_block w ≡ step_lines spec w (step_of_block block)
unfolding step_lines
balances_lines spec w block e = ap (λ b. step_lines spec w (step_of_block b)) (sym e)

pub traps_lines : (spec : NetworkSpec) (w : World) (block : LongBlock) → block ≡ blocks.Traps → traps_block w ≡ step_lines spec w (step_of_block block)
unfolding step_lines
traps_lines spec w block e = ap (λ b. step_lines spec w (step_of_block b)) (sym e)

pub queues_lines : (spec : NetworkSpec) (w : World) (block : LongBlock) → block ≡ blocks.Queues → queues_block (order_of spec) w ≡ step_lines spec w (step_of_block block)
unfolding step_lines
queues_lines spec w block e = ap (λ b. step_lines spec w (step_of_block b)) (sym e)

-- such a step changes nothing
pub block_stays : (order : List Link) (w : World) (block : LongBlock) → w ≡ next_world order w (step_of_block block)
block_stays order w blocks.Balances = refl
block_stays order w blocks.Traps = refl
block_stays order w blocks.Queues = refl

pub block_is : (audit : Bool) (spec : NetworkSpec) (w : World) (number : ℕ) (block : LongBlock)
    → heading number (line_step (step_of_block block)) ++ (step_lines spec w (step_of_block block) ++ audit_lines audit w) ≡ step_block audit spec w number (step_of_block block)
unfolding step_block
block_is audit spec w number block =
    ap (λ next. heading number (line_step (step_of_block block)) ++ (step_lines spec w (step_of_block block) ++ audit_lines audit next)) (block_stays (order_of spec) w block)

step_asked : (line : Line) (step : LineStep) (block : LongBlock) → line ≡ lines.Step step → world_step step ≡ step_of_block block → asked_of line ≡ Asks (step_of_block block)
unfolding asked_of
step_asked line step block e s = ap asked_of e ∙ ap Asks s

pub block_asked : (line : Line) (step : LineStep) (found : Option LongBlock) → line ≡ lines.Step step → MatchOption found ⊤ (λ block. world_step step ≡ step_of_block block)
    → MatchOption found ⊤ (λ block. asked_of line ≡ Asks (step_of_block block))
block_asked line step None e found = found
block_asked line step (Some block) e found = step_asked line step block e found

-- ---- how a call that writes in pieces goes on with the run

not_long : TooLong ≢ WriteFault
not_long e = cc

not_read : ReadFault ≢ WriteFault
not_read e = cc

not_usage : Usage ≢ WriteFault
not_usage e = cc

not_done : Done ≢ WriteFault
not_done e = cc

pub pieces_on : {X E : Type 0} (first then : X → Reply) (text : List ℕ) (none : X) (old new : Option (List ℕ)) (before now : ℕ) (result : Result (Option Status) E)
    → WritesInPieces text old new before now result → ((lines : X) → first lines ≡ then_on text (then lines)) → Advances first then (first none).text old new result
pieces_on first then text none old new before now result w same = record {
  text = w.part;
  appends = w.appends;
  front = λ lines. front_on w.part text (then lines) (first lines) w.front (same lines);
  goes_on = λ e lines. rw (w.whole e) (same lines);
  ended = λ status e n lines. absurd (n (w.failed status e).0);
  short = λ e. proper_on w.part text (then none).text (first none).text (w.failed WriteFault e).1 (ap (λ o. o.text) (same none));
  long = λ e. absurd (not_long (w.failed TooLong e).0);
}

pub pieces_cause : {E : Type 0} (text : List ℕ) (old new : Option (List ℕ)) (before now : ℕ) (result : Result (Option Status) E) → WritesInPieces text old new before now result
    → HasWriteCause before now result
pieces_cause text old new before now result w = record {
  later = w.later;
  failed = λ e. (w.failed WriteFault e).2;
  no_read = λ e. not_read (w.failed ReadFault e).0;
  no_usage = λ e. not_usage (w.failed Usage e).0;
  no_done = λ e. not_done (w.failed Done e).0;
}
