-- What each act comes to, in a world and in every other one that is like it: it is refused and nothing changes, or it is a move.
use Rattle.std.proofs.Common.{◌≡◌, ◌⊎◌, ℕ, suc, ◌+◌, Bool, true, false, List, [], ◌∷◌, ◌++◌, Option, Some, None, Result, Ok, Err, inl, inr, refl, sym, ap, ◌∙◌, map}
use Rattle.std.specs.Prelude.{if◌then◌else◌, cond, not, ◌||◌, nat_lt, position, length, slice_get, slice_set}
use Rattle.std.specs.List.{position_or_len}
use Rattle.std.specs.Option.{option_and_then, option_map, option_map_or}
use Rattle.std.proofs.Common.{get_or}
use Rattle.std.proofs.lemmas.List.Quantifiers.{position-Some}
use Rattle.std.proofs.lemmas.Option.{slice_get-get_or, slice_get-map}
use Rattle.amounts.specs.Amounts.{empty}
use Rattle.chain_ids.specs.declared.chain.ChainId.{ChainId}
use Rattle.chain_ids.specs.Chains.{same_chain}
use Rattle.chain_ids.proofs.Lemmas.{same_chain_told}
use Rattle.operands.specs.declared.error.XcmError.{XcmError}
use Rattle.operands.specs.declared.error.XcmError.TheVariants as error
use Rattle.asset_bundles.specs.Bundles.{Bundle}
use Rattle.asset_bundles.specs.declared.book.Cause.{Cause}
use Rattle.trust_tables.specs.declared.chains.Site.{Site}
use Rattle.weight_trader.specs.Purchases.{no_weight}
use Rattle.xcm_program.specs.declared.instruction.Instruction.{Instruction}
use Rattle.versioned_xcm.specs.declared.faults.MessageFault.{MessageFault}
use Rattle.versioned_xcm.specs.Reading.{message_of}
use Rattle.channel_parts.specs.declared.cargo.Cargo.TheVariants.{Nothing}
use Rattle.channel_parts.specs.declared.channel.Channel.{Channel}
use Rattle.channel_parts.specs.Channels.{Waiting, Outgoing}
use Rattle.chain_queues.specs.Queues.{channel_to, oldest, popped}
use Rattle.exec_base.specs.declared.event.Event.{Event}
use Rattle.exec_base.specs.Part.{ChainPart}
use Rattle.exec_base.specs.Sending.{channel_refusal}
use Rattle.exec_base.specs.Host.{told}
use Rattle.exec_rules.specs.declared.rules.ChainRules.{ChainRules}
use Rattle.network_steps.specs.declared.step_result.StepResult.{StepResult}
use Rattle.network_steps.specs.Worlds.{Member, chain_of, World, place_of, with_part, Stepped, unchanged}
use Rattle.network_steps.specs.Fixed.{Fixed, fixed_of, all_settings}
use Rattle.network_steps.specs.Acting.{begun, Acted, acted, caller, lost_of, lost_lines}
use Rattle.network_steps.specs.Steps.{is_sovereign, exec_read, exec_by, exec_at, exec, name_at, run_for, receiver_after, delivered, delivery_of, deliver, waiting, is_claim, posted, posting, claim_by, claim_on, claim, Link}
use Rattle.asset_pools.specs.Exchanges.{is_pool_account}
use Rattle.network_steps.proofs.Lemmas.StepLaws.{between_at, place_says}
use Rattle.law_independence.specs.Acts.{Act, acts_at, takes_from, stepped_by, member_named}
use Rattle.law_independence.specs.Freedom.{RunsCalmly, SendsCalmly}
use Rattle.law_independence.proofs.Channels.{found_to, IsThere, IsNoTransport, read_popped, sent_swap, found_sent, refused_popped}
use Rattle.law_independence.proofs.Calls.{framed, lines_same}
use Rattle.law_independence.proofs.Runs.{acted_framed, acted_finds}
use Rattle.law_independence.proofs.Moves.{Source, set_back, framed_member, Left, Move, moved, IsSteady}
use Rattle.plain_lists.proofs.Lemmas.Facts.{first_false as neither}

-- ---- worlds with the same settings
abbrev Said : Type 0
Said = ChainRules × Fixed

abbrev said : Member → Said
said m = (m.rules, fixed_of m.part)

abbrev is_chain : ChainId → Said → Bool
is_chain chain s = same_chain s.1.site.chain chain

mapped_place : (chain : ChainId) (w : World) → position_or_len (λ (m : Member). same_chain (chain_of m) chain) w ≡ position_or_len (is_chain chain) (map said w)
mapped_place chain [] = refl
mapped_place chain (m ∷ w) = ap (λ (n : ℕ). cond (not (same_chain (chain_of m) chain)) (1 + n) 0) (mapped_place chain w)

mapped_length : (w : World) → length w ≡ length (map said w)
mapped_length [] = refl
mapped_length (m ∷ w) = ap suc (mapped_length w)

place_by_settings : (chain : ChainId) (w : World) → place_of w chain ≡ position (is_chain chain) (all_settings w)
place_by_settings chain w =
    ap (λ (n : ℕ). if nat_lt n (length w) then Some n else None) (mapped_place chain w)
    ∙ ap (λ (k : ℕ). if nat_lt (position_or_len (is_chain chain) (map said w)) k then Some (position_or_len (is_chain chain) (map said w)) else None) (mapped_length w)

pub same_places : (v w : World) → all_settings v ≡ all_settings w → (chain : ChainId) → place_of v chain ≡ place_of w chain
same_places v w same chain = place_by_settings chain v ∙ ap (position (is_chain chain)) same ∙ sym (place_by_settings chain w)

same_said : (v w : World) → all_settings v ≡ all_settings w → (p : ℕ) → option_map said (slice_get v p) ≡ option_map said (slice_get w p)
same_said v w same p = sym (slice_get-map said v p) ∙ ap (λ xs. slice_get xs p) same ∙ slice_get-map said w p

said_one : (a b : Member) → Some (said a) ≡ Some (said b) → said a ≡ said b
said_one a b e = cc

pub same_site : (v w : World) → all_settings v ≡ all_settings w → (p : ℕ) (a b : Member) → slice_get v p ≡ Some a → slice_get w p ≡ Some b → a.part.site ≡ b.part.site
same_site v w same p a b at_a at_b = ap (λ (s : Said). s.1.site) (said_one a b (sym (ap (option_map said) at_a) ∙ same_said v w same p ∙ ap (option_map said) at_b))

pub member_there : (v w : World) → all_settings v ≡ all_settings w → (p : ℕ) (b : Member) → slice_get w p ≡ Some b → (a : Member) × (slice_get v p ≡ Some a)
member_there v w same p b at_b =
    elim (slice_get v p) as (λ o. option_map said o ≡ option_map said (slice_get w p) → (a : Member) × (o ≡ Some a)) [
      | None ↦ λ e. absurd (let no_way : None ≡ Some (said b) = e ∙ ap (option_map said) at_b in cc)
      | Some a ↦ λ e. (a, refl)
    ] (same_said v w same p)

-- an index that is found has a member
pub member_at : (w : World) (chain : ChainId) (i : ℕ) → place_of w chain ≡ Some i → (m : Member) × (slice_get w i ≡ Some m)
member_at [] chain i at = absurd cc
member_at (x ∷ xs) chain i at = let found = position-Some (λ (m : Member). same_chain (chain_of m) chain) (x ∷ xs) i x at in (get_or (x ∷ xs) i x, slice_get-get_or (x ∷ xs) i x found.0)

-- ---- alike for an act: its document is the same, and it finds the same message where it takes one
pub record IsAlike (w v : World) (t : Act) : Type 0 where
  pub settings : all_settings v ≡ all_settings w
  pub found : (from to : ChainId) (k j : ℕ) (s r s' : Member) → takes_from t ≡ Some (from, to) → place_of w from ≡ Some k → place_of w to ≡ Some j → slice_get w k ≡ Some s → slice_get w j ≡ Some r → slice_get v k ≡ Some s'
      → found_to to s'.part.channels ≡ found_to to s.part.channels

abbrev pub source_of : World → Option Link → Source
source_of w None = None
source_of w (Some link) = option_map (λ (k : ℕ). (k, link.1)) (place_of w link.0)

-- it is refused, and nothing changes
pub record Refused (w : World) (t : Act) : Type 0 where
  pub answer : StepResult
  pub does : (v : World) → IsAlike w v t → stepped_by v t ≡ unchanged answer v

-- it is a move
pub record Moves (w : World) (t : Act) : Type 0 where
  pub move : Move
  pub member : Member
  pub there : slice_get w move.place ≡ Some member
  pub place : place_of w (acts_at t) ≡ Some move.place
  pub source : move.source ≡ source_of w (takes_from t)
  pub does : (v : World) (m : Member) → IsAlike w v t → slice_get v move.place ≡ Some m → stepped_by v t ≡ moved move v m
  -- it doesn't depend on a frame of its member
  pub steady : (to : ChainId) (lost : Bundle) → IsThere to member.part.channels → SendsCalmly w t to → IsSteady move.run (framed_member to lost) member
  -- and leaves what is found on its member's channels
  pub finds : (to : ChainId) → IsThere to member.part.channels → (let after = move.run member in found_to to after.part.channels) ≡ found_to to member.part.channels

abbrev pub Plan : World → Act → Type 0
Plan w t = Refused w t ⊎ Moves w t

-- ---- refusals
abbrev refused_left : StepResult → Member → Left
refused_left answer m = record { answer = answer; trace = []; part = m.part; lost = empty }

stays : (place : ℕ) (run : Member → Left) (answer : StepResult) (v : World) (m : Member) → run m ≡ refused_left answer m → slice_get v place ≡ Some m → unchanged answer v ≡ moved (record { place = place; run = run; source = None }) v m
stays place run answer v m same e =
    ap (λ (w : World). unchanged answer w) (sym (set_back v place m e))
    ∙ ap (λ (l : Left). let s : Stepped = record { answer = l.answer; trace = l.trace; world = slice_set v place (with_part l.part m) } in s) (sym same)

-- ---- local executions
abbrev exec_run : List ℕ → Bool → Result (List Instruction) MessageFault → Member → Left
exec_run account true read m = refused_left StepResult.SovereignCaller m
exec_run account false (Err fault) m = refused_left (StepResult.Message fault) m
exec_run account false (Ok program) m =
    let a = acted m.rules (caller account) m.rules.limit program (begun (chain_of m) Nothing m.part) in
    record { answer = StepResult.Ran a.outcome; trace = a.part.events; part = a.part; lost = empty }

-- no chain's account, and none of its pools'
abbrev is_refused : List ℕ → Member → Bool
is_refused account m = is_sovereign account || is_pool_account m.part.pools account

abbrev exec_move : ℕ → List ℕ → List ℕ → Move
exec_move place account bytes = record { place = place; run = λ m. exec_run account (is_refused account m) (message_of bytes) m; source = None }

exec_read_does : (v : World) (place : ℕ) (m : Member) (account : List ℕ) (read : Result (List Instruction) MessageFault) → slice_get v place ≡ Some m
    → exec_read v place m account read ≡ moved (record { place = place; run = exec_run account false read; source = None }) v m
exec_read_does v place m account (Err fault) e = stays place (exec_run account false (Err fault)) (StepResult.Message fault) v m refl e
exec_read_does v place m account (Ok program) e = refl

exec_own_does : (v : World) (place : ℕ) (m : Member) (account : List ℕ) (read : Result (List Instruction) MessageFault) (pool : Bool) → slice_get v place ≡ Some m
    → (if pool then unchanged StepResult.SovereignCaller v else exec_read v place m account read) ≡ moved (record { place = place; run = exec_run account pool read; source = None }) v m
exec_own_does v place m account read true e = stays place (exec_run account true read) StepResult.SovereignCaller v m refl e
exec_own_does v place m account read false e = exec_read_does v place m account read e

exec_if_does : (v : World) (place : ℕ) (m : Member) (account bytes : List ℕ) (sovereign : Bool) → slice_get v place ≡ Some m
    → (if sovereign then unchanged StepResult.SovereignCaller v else option_map_or (λ (m : Member). exec_by v place m account (message_of bytes)) (slice_get v place) (unchanged StepResult.NoSuchChain v))
    ≡ moved (record { place = place; run = exec_run account (sovereign || is_pool_account m.part.pools account) (message_of bytes); source = None }) v m
exec_if_does v place m account bytes true e = stays place (exec_run account true (message_of bytes)) StepResult.SovereignCaller v m refl e
exec_if_does v place m account bytes false e =
    ap (λ o. option_map_or (λ (m : Member). exec_by v place m account (message_of bytes)) o (unchanged StepResult.NoSuchChain v)) e
    ∙ exec_own_does v place m account (message_of bytes) (is_pool_account m.part.pools account) e

exec_does : (v : World) (chain : ChainId) (account bytes : List ℕ) (i : ℕ) (m : Member) → place_of v chain ≡ Some i → slice_get v i ≡ Some m → exec v chain account bytes ≡ moved (exec_move i account bytes) v m
unfolding exec
exec_does v chain account bytes i m at e = ap (λ o. exec_at v o account bytes) at ∙ exec_if_does v i m account bytes (is_sovereign account) e

exec_nowhere : (v : World) (chain : ChainId) (account bytes : List ℕ) → place_of v chain ≡ None → exec v chain account bytes ≡ unchanged StepResult.NoSuchChain v
unfolding exec
exec_nowhere v chain account bytes at = ap (λ o. exec_at v o account bytes) at

exec_steady : (to : ChainId) (lost : Bundle) (account : List ℕ) (sovereign : Bool) (read : Result (List Instruction) MessageFault) (m : Member) → IsThere to m.part.channels
    → ((program : List Instruction) → sovereign ≡ false → read ≡ Ok program → RunsCalmly to m.rules (caller account) m.rules.limit program (begun (chain_of m) Nothing m.part))
    → IsSteady (exec_run account sovereign read) (framed_member to lost) m
exec_steady to lost account true read m there calm = record { answer = refl; trace = refl; lost = refl; part = refl }
exec_steady to lost account false (Err fault) m there calm = record { answer = refl; trace = refl; lost = refl; part = refl }
exec_steady to lost account false (Ok program) m there calm =
    let f = acted_framed to lost m.rules (caller account) m.rules.limit program (begun (chain_of m) Nothing m.part) there (calm program refl refl) in
    record { answer = ap StepResult.Ran f.outcome; trace = ap (λ (p : ChainPart). p.events) f.part; lost = refl; part = ap (λ (p : ChainPart). with_part p m) f.part }

exec_finds : (to : ChainId) (account : List ℕ) (sovereign : Bool) (read : Result (List Instruction) MessageFault) (m : Member) → IsThere to m.part.channels
    → (let after = exec_run account sovereign read m in found_to to after.part.channels) ≡ found_to to m.part.channels
exec_finds to account true read m there = refl
exec_finds to account false (Err fault) m there = refl
exec_finds to account false (Ok program) m there = acted_finds to m.rules (caller account) m.rules.limit program (begun (chain_of m) Nothing m.part) there

member_found : (w : World) (chain : ChainId) (i : ℕ) (m : Member) → place_of w chain ≡ Some i → slice_get w i ≡ Some m → member_named w chain ≡ Some m
member_found w chain i m at e = ap (option_and_then (slice_get w)) at ∙ e

exec_plan : (w : World) (chain : ChainId) (account bytes : List ℕ) → Plan w (Act.Exec chain account bytes)
exec_plan w chain account bytes = elim (place_of w chain) as (λ o. place_of w chain ≡ o → Plan w (Act.Exec chain account bytes)) [
  | None ↦ λ at. inl (record { answer = StepResult.NoSuchChain; does = λ v like. exec_nowhere v chain account bytes (same_places v w like.settings chain ∙ at) })
  | Some i ↦ λ at.
      let m = member_at w chain i at in
      inr (record {
        move = exec_move i account bytes;
        member = m.0;
        there = m.1;
        place = at;
        source = refl;
        does = λ v n like e. exec_does v chain account bytes i n (same_places v w like.settings chain ∙ at) e;
        steady = λ to lost there calm.
            let s = exec_steady to lost account (is_refused account m.0) (message_of bytes) m.0 there
            (λ program local read. calm m.0 program (member_found w chain i m.0 at m.1) (neither (is_sovereign account) (is_pool_account m.0.part.pools account) local) read) in
            record { answer = s.answer; trace = s.trace; lost = s.lost; part = s.part };
        finds = λ to there. exec_finds to account (is_refused account m.0) (message_of bytes) m.0 there;
      })
] refl

-- ---- deliveries
abbrev deliver_run : Member → Waiting → Member → Left
deliver_run s x r = let a = run_for s r x in record { answer = StepResult.Ran a.outcome; trace = a.part.events ++ lost_lines (lost_of a.left) s.part; part = receiver_after s.part a; lost = lost_of a.left }

abbrev deliver_move : ℕ → ℕ → ChainId → Member → Waiting → Move
deliver_move k j to s x = record { place = j; run = deliver_run s x; source = Some (k, to) }

-- by what it finds
abbrev delivery_by : World → ℕ → ℕ → Member → Member → Option (Option Waiting) → Stepped
delivery_by v k j s r None = unchanged StepResult.NoSuchChannel v
delivery_by v k j s r (Some None) = unchanged StepResult.Empty v
delivery_by v k j s r (Some (Some x)) = delivered v k j s r x

delivery_found : (v : World) (k j : ℕ) (s r : Member) (o : Option Outgoing) → delivery_of v k j s r o ≡ delivery_by v k j s r (option_map oldest o)
delivery_found v k j s r None = refl
delivery_found v k j s r (Some c) = elim (oldest c) as (λ x. option_map_or (λ (message : Waiting). delivered v k j s r message) x (unchanged StepResult.Empty v) ≡ delivery_by v k j s r (Some x)) [
  | None ↦ refl
  | Some x ↦ refl
]

deliver_at : (v : World) (from to : ChainId) (k j : ℕ) (s r : Member) → place_of v from ≡ Some k → place_of v to ≡ Some j → slice_get v k ≡ Some s → slice_get v j ≡ Some r
    → deliver v from to ≡ delivery_by v k j s r (found_to to s.part.channels)
unfolding deliver
deliver_at v from to k j s r at_k at_j is_s is_r =
    between_at v from to (unchanged StepResult.NoSuchChain v) (λ i j s r. delivery_of v i j s r (channel_to (chain_of r) s.part.channels)) k j s r at_k at_j is_s is_r
    ∙ ap (λ (c : ChainId). delivery_of v k j s r (channel_to c s.part.channels)) (place_says v to j r at_j is_r)
    ∙ delivery_found v k j s r (channel_to to s.part.channels)

-- where one of the chains isn't there
between_none : {A : Type 0} (v : World) (from to : ChainId) (none : A) (f : ℕ → ℕ → Member → Member → A) → place_of v from ≡ None
    → option_map_or (λ (i : ℕ). option_map_or (λ (j : ℕ). option_map_or (λ (s : Member). option_map_or (λ (r : Member). f i j s r) (slice_get v j) none) (slice_get v i) none) (place_of v to) none) (place_of v from) none ≡ none
between_none v from to none f at =
    ap (λ o. option_map_or (λ (i : ℕ). option_map_or (λ (j : ℕ). option_map_or (λ (s : Member). option_map_or (λ (r : Member). f i j s r) (slice_get v j) none) (slice_get v i) none) (place_of v to) none) o none) at

between_nowhere : {A : Type 0} (v : World) (from to : ChainId) (none : A) (f : ℕ → ℕ → Member → Member → A) → place_of v to ≡ None
    → option_map_or (λ (i : ℕ). option_map_or (λ (j : ℕ). option_map_or (λ (s : Member). option_map_or (λ (r : Member). f i j s r) (slice_get v j) none) (slice_get v i) none) (place_of v to) none) (place_of v from) none ≡ none
between_nowhere v from to none f at =
    ap (λ p. option_map_or (λ (i : ℕ). option_map_or (λ (j : ℕ). option_map_or (λ (s : Member). option_map_or (λ (r : Member). f i j s r) (slice_get v j) none) (slice_get v i) none) p none) (place_of v from) none) at
    ∙ same (place_of v from)
  where
    same : (o : Option ℕ) → option_map_or (λ (i : ℕ). none) o none ≡ none
    same None = refl
    same (Some i) = refl

deliver_none : (v : World) (from to : ChainId) → place_of v from ≡ None → deliver v from to ≡ unchanged StepResult.NoSuchChain v
unfolding deliver
deliver_none v from to at = between_none v from to (unchanged StepResult.NoSuchChain v) (λ i j s r. delivery_of v i j s r (channel_to (chain_of r) s.part.channels)) at

deliver_nowhere : (v : World) (from to : ChainId) → place_of v to ≡ None → deliver v from to ≡ unchanged StepResult.NoSuchChain v
unfolding deliver
deliver_nowhere v from to at = between_nowhere v from to (unchanged StepResult.NoSuchChain v) (λ i j s r. delivery_of v i j s r (channel_to (chain_of r) s.part.channels)) at

run_same : (s s' r : Member) (x : Waiting) → s'.part.site ≡ s.part.site → run_for s' r x ≡ run_for s r x
run_same s s' r x same =
    ap (λ (site : Site). acted r.rules (name_at (chain_of r) site.chain) no_weight x.program (told (begun site.chain x.cargo r.part) (Event.Message site.chain (chain_of r) x.number))) same

module _ (v : World) (k j : ℕ) (to : ChainId) (s s' r : Member) (x : Waiting) where
  abbrev ran : Acted
  ran = run_for s r x

  -- a delivery by its run, and the name of its receiver
  abbrev delivered_by : Acted → ChainId → Stepped
  delivered_by a c =
      let q : ChainPart = receiver_after s'.part a in
      record { answer = StepResult.Ran a.outcome; trace = q.events; world = slice_set (slice_set v k (framed_member c (lost_of a.left) s')) j (with_part q r) }

  -- by the lines of what is lost
  abbrev with_lines : List Event → Stepped
  with_lines lines =
      let q : ChainPart = record ran.part { events = ran.part.events ++ lines } in
      record { answer = StepResult.Ran ran.outcome; trace = q.events; world = slice_set (slice_set v k (framed_member to (lost_of ran.left) s')) j (with_part q r) }

  -- by the world in which the sender was framed
  abbrev in_world : World → Stepped
  in_world u = let l : Left = deliver_run s x r in record { answer = l.answer; trace = l.trace; world = slice_set u j (with_part l.part r) }

  delivered_does : s'.part.site ≡ s.part.site → chain_of r ≡ to → slice_get v k ≡ Some s' → delivered v k j s' r x ≡ moved (deliver_move k j to s x) v r
  delivered_does same is_to is_s =
      ap (λ (a : Acted). delivered_by a (chain_of r)) (run_same s s' r x same)
      ∙ ap (delivered_by ran) is_to
      ∙ ap with_lines (lines_same s'.part s.part same (λ unit. Cause.LostTeleport) (lost_of ran.left))
      ∙ ap in_world (sym (ap (λ o. option_map_or (λ (m : Member). slice_set v k (framed_member to (lost_of ran.left) m)) o v) is_s))

deliver_steady : (to : ChainId) (lost : Bundle) (s : Member) (x : Waiting) (r : Member) → IsThere to r.part.channels
    → RunsCalmly to r.rules (name_at (chain_of r) (chain_of s)) no_weight x.program (told (begun (chain_of s) x.cargo r.part) (Event.Message (chain_of s) (chain_of r) x.number))
    → IsSteady (deliver_run s x) (framed_member to lost) r
unfolding told
deliver_steady to lost s x r there calm =
    let f = acted_framed to lost r.rules (name_at (chain_of r) (chain_of s)) no_weight x.program (told (begun (chain_of s) x.cargo r.part) (Event.Message (chain_of s) (chain_of r) x.number)) there calm in
    let a = run_for s r x in
    let b = run_for s (framed_member to lost r) x in
    let lost_same : lost_of b.left ≡ lost_of a.left = ap lost_of f.left in
    record {
      answer = ap StepResult.Ran f.outcome;
      trace = ap (λ (p : ChainPart). p.events ++ lost_lines (lost_of b.left) s.part) f.part ∙ ap (λ (goods : Bundle). a.part.events ++ lost_lines goods s.part) lost_same;
      lost = lost_same;
      part = ap (λ (p : ChainPart). with_part (record p { events = p.events ++ lost_lines (lost_of b.left) s.part }) r) f.part
          ∙ ap (λ (goods : Bundle). with_part (framed to lost (record a.part { events = a.part.events ++ lost_lines goods s.part })) r) lost_same;
    }

deliver_finds : (to : ChainId) (s : Member) (x : Waiting) (r : Member) → IsThere to r.part.channels → (let after = deliver_run s x r in found_to to after.part.channels) ≡ found_to to r.part.channels
unfolding told
deliver_finds to s x r there = acted_finds to r.rules (name_at (chain_of r) (chain_of s)) no_weight x.program (told (begun (chain_of s) x.cargo r.part) (Event.Message (chain_of s) (chain_of r) x.number)) there

waiting_found : (o : Option Outgoing) (x : Waiting) → option_map oldest o ≡ Some (Some x) → option_and_then oldest o ≡ Some x
waiting_found None x e = absurd cc
waiting_found (Some c) x e = same (oldest c) x e
  where
    same : (o : Option Waiting) (x : Waiting) → Some o ≡ Some (Some x) → o ≡ Some x
    same o x e = cc

waiting_at : (w : World) (from to : ChainId) (k j : ℕ) (s r : Member) (x : Waiting) → place_of w from ≡ Some k → place_of w to ≡ Some j → slice_get w k ≡ Some s → slice_get w j ≡ Some r → found_to to s.part.channels ≡ Some (Some x)
    → waiting w from to ≡ Some x
waiting_at w from to k j s r x at_k at_j is_s is_r found =
    between_at w from to None (λ i j s r. option_and_then oldest (channel_to (chain_of r) s.part.channels)) k j s r at_k at_j is_s is_r
    ∙ ap (λ (c : ChainId). option_and_then oldest (channel_to c s.part.channels)) (place_says w to j r at_j is_r)
    ∙ waiting_found (channel_to to s.part.channels) x found

-- in a world that is alike
module _ (w : World) (from to : ChainId) (k j : ℕ) (s r : Member) (at_k : place_of w from ≡ Some k) (at_j : place_of w to ≡ Some j) (is_s : slice_get w k ≡ Some s) (is_r : slice_get w j ≡ Some r) where
  deliver_alike : (v : World) (s' r' : Member) → IsAlike w v (Act.Deliver from to) → slice_get v k ≡ Some s' → slice_get v j ≡ Some r' → deliver v from to ≡ delivery_by v k j s' r' (found_to to s.part.channels)
  deliver_alike v s' r' like is_s' is_r' =
      deliver_at v from to k j s' r' (same_places v w like.settings from ∙ at_k) (same_places v w like.settings to ∙ at_j) is_s' is_r'
      ∙ ap (delivery_by v k j s' r') (like.found from to k j s r s' refl at_k at_j is_s is_r is_s')

  deliver_refused : (found : Option (Option Waiting)) (answer : StepResult) → found_to to s.part.channels ≡ found → ((v : World) (s' r' : Member) → delivery_by v k j s' r' found ≡ unchanged answer v) → Refused w (Act.Deliver from to)
  deliver_refused found answer is so = record {
    answer = answer;
    does = λ v like.
        let s' = member_there v w like.settings k s is_s in
        let r' = member_there v w like.settings j r is_r in
        deliver_alike v s'.0 r'.0 like s'.1 r'.1 ∙ ap (delivery_by v k j s'.0 r'.0) is ∙ so v s'.0 r'.0;
  }

  deliver_moves : (x : Waiting) → found_to to s.part.channels ≡ Some (Some x) → Moves w (Act.Deliver from to)
  deliver_moves x is = record {
    move = deliver_move k j to s x;
    member = r;
    there = is_r;
    place = at_j;
    source = sym (ap (option_map (λ (k : ℕ). (k, to))) at_k);
    does = λ v r' like is_r'.
        let s' = member_there v w like.settings k s is_s in
        deliver_alike v s'.0 r' like s'.1 is_r' ∙ ap (delivery_by v k j s'.0 r') is
        ∙ delivered_does v k j to s s'.0 r' x (same_site v w like.settings k s'.0 s s'.1 is_s) (place_says v to j r' (same_places v w like.settings to ∙ at_j) is_r') s'.1;
    steady = λ other lost there calm. deliver_steady other lost s x r there
        (calm s r x (member_found w from k s at_k is_s) (member_found w to j r at_j is_r) (waiting_at w from to k j s r x at_k at_j is_s is_r is));
    finds = λ other there. deliver_finds other s x r there;
  }

  deliver_by : (found : Option (Option Waiting)) → found_to to s.part.channels ≡ found → Plan w (Act.Deliver from to)
  deliver_by None is = inl (deliver_refused None StepResult.NoSuchChannel is (λ v s' r'. refl))
  deliver_by (Some None) is = inl (deliver_refused (Some None) StepResult.Empty is (λ v s' r'. refl))
  deliver_by (Some (Some x)) is = inr (deliver_moves x is)

deliver_plan : (w : World) (from to : ChainId) → Plan w (Act.Deliver from to)
deliver_plan w from to = elim (place_of w from) as (λ o. place_of w from ≡ o → Plan w (Act.Deliver from to)) [
  | None ↦ λ at. inl (record { answer = StepResult.NoSuchChain; does = λ v like. deliver_none v from to (same_places v w like.settings from ∙ at) })
  | Some k ↦ λ at_k. elim (place_of w to) as (λ o. place_of w to ≡ o → Plan w (Act.Deliver from to)) [
    | None ↦ λ at. inl (record { answer = StepResult.NoSuchChain; does = λ v like. deliver_nowhere v from to (same_places v w like.settings to ∙ at) })
    | Some j ↦ λ at_j.
        let s = member_at w from k at_k in
        let r = member_at w to j at_j in
        deliver_by w from to k j s.0 r.0 at_k at_j s.1 r.1 (found_to to s.0.part.channels) refl
  ] refl
] refl

-- a delivery that finds a channel empty says so
pub found_empty : (w : World) (t : Act) (from to : ChainId) (k j : ℕ) (s : Member) → takes_from t ≡ Some (from, to) → place_of w from ≡ Some k → place_of w (acts_at t) ≡ Some j → slice_get w k ≡ Some s → found_to to s.part.channels ≡ Some None
    → (stepped_by w t).answer ≡ StepResult.Empty
found_empty w (Act.Exec chain account bytes) from to k j s takes at_k at_j is_s empty = absurd cc
found_empty w (Act.Claim a b bytes) from to k j s takes at_k at_j is_s empty = absurd cc
found_empty w (Act.Deliver a b) from to k j s takes at_k at_j is_s empty =
    let link : (a, b) ≡ (from, to) = same_link (a, b) (from, to) takes in
    let r = member_at w b j at_j in
    ap (λ (x : Stepped). x.answer)
    (deliver_at w a b k j s r.0 (ap (λ (l : Link). place_of w l.0) link ∙ at_k) at_j is_s r.1
    ∙ ap (delivery_by w k j s r.0) (ap (λ (l : Link). found_to l.1 s.part.channels) link ∙ empty))
  where
    same_link : (x y : Link) → Some x ≡ Some y → x ≡ y
    same_link x y e = cc

-- ---- claims
-- by the channel's next number, and why it refuses a program
abbrev posting_run : ChainId → List Instruction → ℕ → Option XcmError → Member → Left
posting_run to program next None m = record { answer = StepResult.Sent next; trace = []; part = posted to program m.part; lost = empty }
posting_run to program next (Some e) m = refused_left (StepResult.Unsent e) m

abbrev claim_left : ChainId → Option ℕ → (List Instruction → Option XcmError) → Result (List Instruction) MessageFault → Member → Left
claim_left to None refusal read m = refused_left StepResult.NoSuchChannel m
claim_left to (Some next) refusal (Err fault) m = refused_left (StepResult.Message fault) m
claim_left to (Some next) refusal (Ok program) m = if is_claim program then posting_run to program next (refusal program) m else refused_left StepResult.NotAClaim m

abbrev next_of : Option Outgoing → Option ℕ
next_of o = option_map (λ (c : Outgoing). c.next) o

abbrev why : Option Outgoing → List Instruction → Option XcmError
why o program = channel_refusal o true program

abbrev claim_run : ChainId → List ℕ → Member → Left
claim_run to bytes m = claim_left to (next_of (channel_to to m.part.channels)) (why (channel_to to m.part.channels)) (message_of bytes) m

abbrev claim_move : ℕ → ChainId → List ℕ → Move
claim_move i to bytes = record { place = i; run = claim_run to bytes; source = None }

abbrev put_at : World → ℕ → Member → Left → Stepped
put_at v i m l = record { answer = l.answer; trace = l.trace; world = slice_set v i (with_part l.part m) }

put_back : (v : World) (i : ℕ) (m : Member) (answer : StepResult) → slice_get v i ≡ Some m → unchanged answer v ≡ put_at v i m (refused_left answer m)
put_back v i m answer e = ap (λ (w : World). unchanged answer w) (sym (set_back v i m e))

posting_does : (v : World) (i : ℕ) (m : Member) (to : ChainId) (c : Outgoing) (program : List Instruction) (o : Option XcmError) → slice_get v i ≡ Some m → posting v i m to c program o ≡ put_at v i m (posting_run to program c.next o m)
posting_does v i m to c program None e = refl
posting_does v i m to c program (Some x) e = put_back v i m (StepResult.Unsent x) e

claiming_does : (v : World) (i : ℕ) (m : Member) (to : ChainId) (c : Outgoing) (program : List Instruction) (b : Bool) → slice_get v i ≡ Some m
    → (if b then posting v i m to c program (why (Some c) program) else unchanged StepResult.NotAClaim v) ≡ put_at v i m (if b then posting_run to program c.next (why (Some c) program) m else refused_left StepResult.NotAClaim m)
claiming_does v i m to c program true e = posting_does v i m to c program (why (Some c) program) e
claiming_does v i m to c program false e = put_back v i m StepResult.NotAClaim e

claim_by_does : (v : World) (i : ℕ) (m : Member) (to : ChainId) (c : Outgoing) (read : Result (List Instruction) MessageFault) → slice_get v i ≡ Some m → claim_by v i m to c read ≡ put_at v i m (claim_left to (Some c.next) (why (Some c)) read m)
claim_by_does v i m to c (Err fault) e = put_back v i m (StepResult.Message fault) e
claim_by_does v i m to c (Ok program) e = claiming_does v i m to c program (is_claim program) e

claim_on_does : (v : World) (i : ℕ) (m : Member) (to : ChainId) (o : Option Outgoing) (bytes : List ℕ) → slice_get v i ≡ Some m → claim_on v i m to o bytes ≡ put_at v i m (claim_left to (next_of o) (why o) (message_of bytes) m)
claim_on_does v i m to None bytes e = put_back v i m StepResult.NoSuchChannel e
claim_on_does v i m to (Some c) bytes e = claim_by_does v i m to c (message_of bytes) e

claim_does : (v : World) (from to : ChainId) (bytes : List ℕ) (i j : ℕ) (m r : Member) → place_of v from ≡ Some i → place_of v to ≡ Some j → slice_get v i ≡ Some m → slice_get v j ≡ Some r
    → claim v from to bytes ≡ moved (claim_move i to bytes) v m
unfolding claim
claim_does v from to bytes i j m r at_i at_j is_m is_r =
    between_at v from to (unchanged StepResult.NoSuchChain v) (λ i j s r. claim_on v i s (chain_of r) (channel_to (chain_of r) s.part.channels) bytes) i j m r at_i at_j is_m is_r
    ∙ ap (λ (c : ChainId). claim_on v i m c (channel_to c m.part.channels) bytes) (place_says v to j r at_j is_r)
    ∙ claim_on_does v i m to (channel_to to m.part.channels) bytes is_m

claim_none : (v : World) (from to : ChainId) (bytes : List ℕ) → place_of v from ≡ None → claim v from to bytes ≡ unchanged StepResult.NoSuchChain v
unfolding claim
claim_none v from to bytes at = between_none v from to (unchanged StepResult.NoSuchChain v) (λ i j s r. claim_on v i s (chain_of r) (channel_to (chain_of r) s.part.channels) bytes) at

claim_nowhere : (v : World) (from to : ChainId) (bytes : List ℕ) → place_of v to ≡ None → claim v from to bytes ≡ unchanged StepResult.NoSuchChain v
unfolding claim
claim_nowhere v from to bytes at = between_nowhere v from to (unchanged StepResult.NoSuchChain v) (λ i j s r. claim_on v i s (chain_of r) (channel_to (chain_of r) s.part.channels) bytes) at

-- with a frame: what the channel says is the same, or it is full
module _ (to : ChainId) (lost : Bundle) (there : ChainId) (m : Member) (some : IsThere to m.part.channels) where
  abbrev leads : Channel → Bool
  leads c = same_chain c.to there

  posting_steady : (program : List Instruction) (next : ℕ) (o : Option XcmError) → IsSteady (posting_run there program next o) (framed_member to lost) m
  posting_steady program next None = record {
    answer = refl;
    trace = refl;
    lost = refl;
    part = ap (λ (cs : List Outgoing). with_part (record (framed to lost m.part) { channels = cs }) m) (sent_swap leads to program Nothing m.part.channels some);
  }
  posting_steady program next (Some e) = record { answer = refl; trace = refl; lost = refl; part = refl }

  claiming_steady : (program : List Instruction) (next : ℕ) (o : Option XcmError) (b : Bool)
      → IsSteady (λ (m : Member). if b then posting_run there program next o m else refused_left StepResult.NotAClaim m) (framed_member to lost) m
  claiming_steady program next o true = posting_steady program next o
  claiming_steady program next o false = record { answer = refl; trace = refl; lost = refl; part = refl }

  left_steady : (next : Option ℕ) (refusal : List Instruction → Option XcmError) (read : Result (List Instruction) MessageFault) → IsSteady (claim_left there next refusal read) (framed_member to lost) m
  left_steady None refusal read = record { answer = refl; trace = refl; lost = refl; part = refl }
  left_steady (Some next) refusal (Err fault) = record { answer = refl; trace = refl; lost = refl; part = refl }
  left_steady (Some next) refusal (Ok program) = claiming_steady program next (refusal program) (is_claim program)

  abbrev here : Option Outgoing
  here = channel_to there m.part.channels

  abbrev popped_here : Option Outgoing
  popped_here = channel_to there (popped to m.part.channels)

  next_same : next_of popped_here ≡ next_of here
  next_same = read_popped leads to next_of (λ c. refl) m.part.channels

  why_same : (program : List Instruction) → IsNoTransport (same_chain there to) (why here program) → why popped_here program ≡ why here program
  why_same program no_transport =
      refused_popped leads to (same_chain there to) (λ c is_to is_there. ap (λ (d : ChainId). same_chain d to) (sym (same_chain_told c.to there is_there)) ∙ is_to) true program m.part.channels no_transport

  posting_no_transport : (program : List Instruction) (next : ℕ) (refusal again : Option XcmError) (n : Member) → ((same_chain there to ≡ true → refusal ≡ Some error.Transport → ⊥) → again ≡ refusal)
      → (same_chain there to ≡ true → (let l = posting_run there program next refusal m in l.answer) ≡ StepResult.Unsent error.Transport → ⊥) → posting_run there program next again n ≡ posting_run there program next refusal n
  posting_no_transport program next refusal again n same calm =
      ap (λ o. posting_run there program next o n) (same (λ on e. calm on (ap (λ o. let l = posting_run there program next o m in l.answer) e)))

  claiming_no_transport : (program : List Instruction) (next : ℕ) (refusal again : Option XcmError) (n : Member) (b : Bool) → ((same_chain there to ≡ true → refusal ≡ Some error.Transport → ⊥) → again ≡ refusal)
      → (same_chain there to ≡ true → (let l = if b then posting_run there program next refusal m else refused_left StepResult.NotAClaim m in l.answer) ≡ StepResult.Unsent error.Transport → ⊥)
      → (if b then posting_run there program next again n else refused_left StepResult.NotAClaim n) ≡ (if b then posting_run there program next refusal n else refused_left StepResult.NotAClaim n)
  claiming_no_transport program next refusal again n true same calm = posting_no_transport program next refusal again n same calm
  claiming_no_transport program next refusal again n false same calm = refl

  left_no_transport : (next : Option ℕ) (refusal again : List Instruction → Option XcmError) (read : Result (List Instruction) MessageFault) (n : Member)
      → ((program : List Instruction) → (same_chain there to ≡ true → refusal program ≡ Some error.Transport → ⊥) → again program ≡ refusal program)
      → (same_chain there to ≡ true → (let l = claim_left there next refusal read m in l.answer) ≡ StepResult.Unsent error.Transport → ⊥) → claim_left there next again read n ≡ claim_left there next refusal read n
  left_no_transport None refusal again read n same calm = refl
  left_no_transport (Some next) refusal again (Err fault) n same calm = refl
  left_no_transport (Some next) refusal again (Ok program) n same calm = claiming_no_transport program next (refusal program) (again program) n (is_claim program) (same program) calm

  claim_steady : (bytes : List ℕ) → (there ≡ to → (let l = claim_run there bytes m in l.answer) ≡ StepResult.Unsent error.Transport → ⊥) → IsSteady (claim_run there bytes) (framed_member to lost) m
  claim_steady bytes calm =
      let n = framed_member to lost m in
      let same : claim_run there bytes n ≡ claim_left there (next_of here) (why here) (message_of bytes) n =
      ap (λ next. claim_left there next (why popped_here) (message_of bytes) n) next_same
      ∙ left_no_transport (next_of here) (why here) (why popped_here) (message_of bytes) n why_same (λ on e. calm (same_chain_told there to on) e) in
      let s = left_steady (next_of here) (why here) (message_of bytes) in
      record {
        answer = ap (λ (l : Left). l.answer) same ∙ s.answer;
        trace = ap (λ (l : Left). l.trace) same ∙ s.trace;
        lost = ap (λ (l : Left). l.lost) same ∙ s.lost;
        part = ap (λ (l : Left). with_part l.part n) same ∙ s.part;
      }

  posting_finds : (program : List Instruction) (next : ℕ) (o : Option XcmError) → (let l = posting_run there program next o m in found_to to l.part.channels) ≡ found_to to m.part.channels
  posting_finds program next None = found_sent leads to program Nothing m.part.channels some
  posting_finds program next (Some e) = refl

  claiming_finds : (program : List Instruction) (next : ℕ) (o : Option XcmError) (b : Bool)
      → (let l = if b then posting_run there program next o m else refused_left StepResult.NotAClaim m in found_to to l.part.channels) ≡ found_to to m.part.channels
  claiming_finds program next o true = posting_finds program next o
  claiming_finds program next o false = refl

  claim_finds : (next : Option ℕ) (refusal : List Instruction → Option XcmError) (read : Result (List Instruction) MessageFault) → (let l = claim_left there next refusal read m in found_to to l.part.channels) ≡ found_to to m.part.channels
  claim_finds None refusal read = refl
  claim_finds (Some next) refusal (Err fault) = refl
  claim_finds (Some next) refusal (Ok program) = claiming_finds program next (refusal program) (is_claim program)

claim_plan : (w : World) (from to : ChainId) (bytes : List ℕ) → Plan w (Act.Claim from to bytes)
claim_plan w from to bytes = elim (place_of w from) as (λ o. place_of w from ≡ o → Plan w (Act.Claim from to bytes)) [
  | None ↦ λ at. inl (record { answer = StepResult.NoSuchChain; does = λ v like. claim_none v from to bytes (same_places v w like.settings from ∙ at) })
  | Some i ↦ λ at_i. elim (place_of w to) as (λ o. place_of w to ≡ o → Plan w (Act.Claim from to bytes)) [
    | None ↦ λ at. inl (record { answer = StepResult.NoSuchChain; does = λ v like. claim_nowhere v from to bytes (same_places v w like.settings to ∙ at) })
    | Some j ↦ λ at_j.
        let m = member_at w from i at_i in
        let r = member_at w to j at_j in
        inr (record {
          move = claim_move i to bytes;
          member = m.0;
          there = m.1;
          place = at_i;
          source = refl;
          does = λ v n like e.
              let r' = member_there v w like.settings j r.0 r.1 in
              claim_does v from to bytes i j n r'.0 (same_places v w like.settings from ∙ at_i) (same_places v w like.settings to ∙ at_j) e r'.1;
          steady = λ other lost there calm. claim_steady other lost to m.0 there bytes (λ same e. calm same (ap (λ (s : Stepped). s.answer) (claim_does w from to bytes i j m.0 r.0 at_i at_j m.1 r.1) ∙ e));
          finds = λ other there. claim_finds other empty to m.0 there (next_of (channel_to to m.0.part.channels)) (why (channel_to to m.0.part.channels)) (message_of bytes);
        })
  ] refl
] refl

pub plan : (w : World) (t : Act) → Plan w t
plan w (Act.Exec chain account bytes) = exec_plan w chain account bytes
plan w (Act.Deliver from to) = deliver_plan w from to
plan w (Act.Claim from to bytes) = claim_plan w from to bytes
