-- What the positions of channels say: where a message waits, and which channel is the next.
use Rattle.std.proofs.Common.{◌≡◌, ℕ, zero, suc, ◌+◌, ◌<◌, Bool, true, false, cond, List, [], ◌∷◌, ◌++◌, length, drop, get_or, map, Option, Some, None, refl, sym, ap, ◌∙◌, arith}
use Rattle.std.specs.Prelude.{if◌then◌else◌, nat_lt, not, is_some, slice_get, find, option_map}
use Rattle.std.specs.Option.{option_map_or, option_and_then}
use Rattle.std.specs.List.{position, position_or_len, filter_map, cons_option}
use Rattle.std.proofs.lemmas.List.{length-map}
use Rattle.std.proofs.lemmas.List.Folds.{find_at}
use Rattle.std.proofs.lemmas.Option.{slice_get-map, option_and_then_some}
use Rattle.plain_lists.proofs.Lemmas.Firsts.{found_nowhere}
use Rattle.chain_ids.specs.declared.chain.ChainId.{ChainId}
use Rattle.chain_ids.specs.Chains.{same_chain}
use Rattle.channel_parts.specs.declared.channel.Channel.{Channel}
use Rattle.channel_parts.specs.Channels.{Outgoing}
use Rattle.chain_queues.specs.Queues.{leads_to, channel_to, oldest}
use Rattle.network_spec.specs.declared.network.ChannelSpec.{ChannelSpec}
use Rattle.exec_rules.specs.declared.rules.ChainRules.{ChainRules}
use Rattle.network_steps.specs.Worlds.{World, place_of}
use Rattle.network_steps.specs.Steps.{waits}
use Rattle.chain_state.specs.declared.state.ChainState.{ChainState}
use Rattle.chain_state.specs.PartOf.{part_of}
use Rattle.chain_net.specs.Chains.{member_in, world_in, names_of}
use Rattle.chain_net.specs.declared.links.Link.{Link}
use Rattle.chain_net.specs.Links.{channels_of_state, place_among, place_towards, link_at, link_of, found_links, waits_at}
use Rattle.chain_net.proofs.Members.{member_at, something, somebody, members_within, place_named}
use Rattle.chain_net.proofs.Drains.{waits_nowhere, waits_to_nowhere, waiting_at}
use Rattle.plain_lists.proofs.Lemmas.Facts.{same_some}

-- ---- indices in lists
module _ {X Y : Type 0} (f : X → Y) (p : Y → Bool) where
  far_mapped : (xs : List X) → position_or_len p (map f xs) ≡ position_or_len (λ x. p (f x)) xs
  far_mapped [] = refl
  far_mapped (x ∷ xs) = ap (λ (n : ℕ). cond (not (p (f x))) (1 + n) 0) (far_mapped xs)

  -- the first index in a list of what elements give
  pub place_mapped : (xs : List X) → position p (map f xs) ≡ position (λ x. p (f x)) xs
  place_mapped xs =
      ap (λ (n : ℕ). cond (nat_lt n (length (map f xs))) (Some n) None) (far_mapped xs)
      ∙ ap (λ (l : ℕ). cond (nat_lt (position_or_len (λ x. p (f x)) xs) l) (Some (position_or_len (λ x. p (f x)) xs)) None) (length-map xs f)

its_place : {X : Type 0} (p : X → Bool) (xs : List X) (k : ℕ) → position p xs ≡ Some k → position_or_len p xs ≡ k
its_place p xs k e =
    elim (nat_lt (position_or_len p xs) (length xs)) as (λ b. cond b (Some (position_or_len p xs)) None ≡ Some k → position_or_len p xs ≡ k) [
      | true ↦ λ h. same_some (position_or_len p xs) k h
      | false ↦ λ h. absurd cc
    ] e

-- one element more is asked for what it gives
module _ {X Y : Type 0} (f : X → Option Y) where
  next_given : (xs : List X) (i : ℕ) (d : X) → i < length xs → filter_map f (drop i xs) ≡ cons_option (f (get_or xs i d)) (filter_map f (drop (suc i) xs))
  next_given [] i d lt = absurd (omega (arith, lt))
  next_given (x ∷ xs) zero d lt = refl
  next_given (x ∷ xs) (suc i) d lt = next_given xs i d (omega (arith, lt))

  joined : (all : List Y) (y : Y) (rest : List Y) → (all ++ y ∷ []) ++ rest ≡ all ++ y ∷ rest
  joined [] y rest = refl
  joined (a ∷ all) y rest = ap (λ ys. a ∷ ys) (joined all y rest)

  module _ (xs : List X) (i : ℕ) (lt : i < length xs) (all now : List Y) (so_far : all ++ filter_map f (drop i xs) ≡ filter_map f xs) where
    next_at : (d : X) (o : Option Y) → o ≡ f (get_or xs i d) → filter_map f (drop i xs) ≡ cons_option o (filter_map f (drop (i + 1) xs))
    next_at d o e =
        let more : suc i ≡ i + 1 = omega arith in
        next_given xs i d lt ∙ ap (λ (k : ℕ). cons_option (f (get_or xs i d)) (filter_map f (drop k xs))) more ∙ ap (λ (p : Option Y). cons_option p (filter_map f (drop (i + 1) xs))) (sym e)

    pub given_none : (d : X) → now ≡ all → None ≡ f (get_or xs i d) → now ++ filter_map f (drop (i + 1) xs) ≡ filter_map f xs
    given_none d is e = ap (λ ys. ys ++ filter_map f (drop (i + 1) xs)) is ∙ ap (λ ys. all ++ ys) (sym (next_at d None e)) ∙ so_far

    pub given_one : (d : X) (y : Y) → now ≡ all ++ y ∷ [] → Some y ≡ f (get_or xs i d) → now ++ filter_map f (drop (i + 1) xs) ≡ filter_map f xs
    given_one d y is e =
        ap (λ ys. ys ++ filter_map f (drop (i + 1) xs)) is ∙ joined all y (filter_map f (drop (i + 1) xs)) ∙ ap (λ ys. all ++ ys) (sym (next_at d (Some y) e)) ∙ so_far

-- ---- the same channels, the same positions
abbrev link_by : List ChainId → List (List Channel) → ChannelSpec → Option Link
link_by names lists entry =
    option_and_then (λ (sender : ℕ). option_and_then (λ (receiver : ℕ). option_and_then (link_at entry sender) (slice_get lists sender)) (place_among names entry.channel.to))
    (place_among names entry.from)

through : {X Y Z : Type 0} (g : X → Y) (f : Y → Option Z) (o : Option X) → option_and_then (λ x. f (g x)) o ≡ option_and_then f (option_map g o)
through g f None = refl
through g f (Some x) = refl

link_is_by : (names : List ChainId) (xs : List ChainState) (entry : ChannelSpec) → link_of names xs entry ≡ link_by names (map channels_of_state xs) entry
link_is_by names xs entry = λ k. option_and_then (λ (sender : ℕ). option_and_then (λ (receiver : ℕ). there sender k) (place_among names entry.channel.to)) (place_among names entry.from)
  where
    there : (sender : ℕ) → option_and_then (λ (state : ChainState). link_at entry sender (channels_of_state state)) (slice_get xs sender) ≡ option_and_then (link_at entry sender) (slice_get (map channels_of_state xs) sender)
    there sender = through channels_of_state (link_at entry sender) (slice_get xs sender) ∙ ap (option_and_then (link_at entry sender)) (sym (slice_get-map channels_of_state xs sender))

pub links_stay : (names : List ChainId) (xs ys : List ChainState) (entries : List ChannelSpec) → map channels_of_state ys ≡ map channels_of_state xs → found_links names ys entries ≡ found_links names xs entries
links_stay names xs ys [] same = refl
links_stay names xs ys (e ∷ es) same =
    let one : link_of names ys e ≡ link_of names xs e = link_is_by names ys e ∙ ap (λ lists. link_by names lists e) same ∙ sym (link_is_by names xs e) in
    let rest = links_stay names xs ys es same in
    λ k. cons_option (one k) (rest k)

-- ---- a message waits where the channel is
seen_oldest : (o : Option Outgoing) → is_some (option_and_then oldest o) ≡ option_map_or (λ (c : Outgoing). is_some (oldest c)) o false
seen_oldest None = refl
seen_oldest (Some c) = refl

abbrev ends_of : Link → ChainId × ChainId
ends_of l = (l.from, l.to)

found_more : (b : Bool) (l : Link) (ends : ChainId × ChainId) (rest : Option (ChainId × ChainId)) (found : Option Link) → ends_of l ≡ ends → rest ≡ option_map (λ (x : Link). (x.from, x.to)) found
    → (if b then Some ends else rest) ≡ option_map (λ (x : Link). (x.from, x.to)) (if b then Some l else found)
found_more true l ends rest found same h = ap Some (sym same)
found_more false l ends rest found same h = h

module _ (rs : List ChainRules) (xs : List ChainState) (names : List ChainId) (ruled : length rs ≡ length xs) (named : names_of xs ≡ names) where
  abbrev w : World
  w = world_in rs xs

  place_is : (chain : ChainId) → place_among names chain ≡ place_of w chain
  place_is chain = place_named rs xs names chain ruled named

  module _ (entry : ChannelSpec) where
    abbrev to : ChainId
    to = entry.channel.to

    at_place : (i : ℕ) (s : ChainState) → slice_get xs i ≡ Some s → (o : Option ℕ) → position (leads_to to) (part_of s).channels ≡ o
        → is_some (option_and_then oldest (channel_to to (part_of s).channels)) ≡ option_map_or (waits_at xs) (option_map (λ (k : ℕ). record { from = entry.from; to = to; sender = i; channel = k }) o) false
    at_place i s is None e = ap (λ o. is_some (option_and_then oldest o)) (found_nowhere (leads_to to) (part_of s).channels e)
    at_place i s is (Some k) e =
        ap (λ o. is_some (option_and_then oldest o)) (find_at (leads_to to) (part_of s).channels ∙ ap (slice_get (part_of s).channels) (its_place (leads_to to) (part_of s).channels k e))
        ∙ seen_oldest (slice_get (part_of s).channels k)
        ∙ ap (λ o. option_map_or (λ (t : ChainState). option_map_or (λ (c : Outgoing). is_some (oldest c)) (slice_get (part_of t).channels k) false) o false) (sym is)

    at_sender : (i : ℕ) (s : ChainState) → slice_get xs i ≡ Some s → is_some (option_and_then oldest (channel_to to (part_of s).channels)) ≡ option_map_or (waits_at xs) (link_at entry i (channels_of_state s)) false
    at_sender i s is =
        at_place i s is (place_towards to (channels_of_state s)) (sym (place_mapped (λ (c : Outgoing). c.channel) (λ (c : Channel). same_chain c.to to) (part_of s).channels))

    at_both : (i j : ℕ) → place_of w entry.from ≡ Some i → place_of w to ≡ Some j → waits w (entry.from, to) ≡ option_map_or (waits_at xs) (option_and_then (λ (t : ChainState). link_at entry i (channels_of_state t)) (slice_get xs i)) false
    at_both i j at_i at_j =
        let within = members_within rs xs ruled entry.from i at_i in
        let r = something rs i (omega (arith, within, ruled)) in
        let s = something xs i within in
        let there = somebody rs xs j ruled (members_within rs xs ruled to j at_j) in
        ap is_some (waiting_at w entry.from to i j (member_in r.0 s.0) there.0 at_i at_j (member_at rs xs i r.0 s.0 r.1 s.1) there.1)
        ∙ at_sender i s.0 s.1
        ∙ ap (λ o. option_map_or (waits_at xs) (option_and_then (λ (t : ChainState). link_at entry i (channels_of_state t)) o) false) (sym s.1)

    at_from : (i : ℕ) → place_of w entry.from ≡ Some i
        → waits w (entry.from, to) ≡ option_map_or (waits_at xs) (option_and_then (λ (receiver : ℕ). option_and_then (λ (t : ChainState). link_at entry i (channels_of_state t)) (slice_get xs i)) (place_among names to)) false
    at_from i at_i =
        elim (place_among names to) as (λ o. place_among names to ≡ o → waits w (entry.from, to) ≡ option_map_or (waits_at xs) (option_and_then (λ (receiver : ℕ). option_and_then (λ (t : ChainState). link_at entry i (channels_of_state t)) (slice_get xs i)) o) false) [
          | None ↦ λ e. sym (waits_to_nowhere w entry.from to i at_i (sym (place_is to) ∙ e))
          | Some j ↦ λ e. at_both i j at_i (sym (place_is to) ∙ e)
        ] refl

    waits_by : waits w (entry.from, to) ≡ option_map_or (waits_at xs) (link_of names xs entry) false
    waits_by =
        elim (place_among names entry.from) as (λ o. place_among names entry.from ≡ o → waits w (entry.from, to)
        ≡ option_map_or (waits_at xs) (option_and_then (λ (sender : ℕ). option_and_then (λ (receiver : ℕ). option_and_then (λ (t : ChainState). link_at entry sender (channels_of_state t)) (slice_get xs sender)) (place_among names to)) o) false) [
          | None ↦ λ e. sym (waits_nowhere w entry.from to (sym (place_is entry.from) ∙ e))
          | Some i ↦ λ e. at_from i (sym (place_is entry.from) ∙ e)
        ] refl

    ends_by : (i : ℕ) (o : Option ℕ) (l : Link) → option_map (λ (k : ℕ). record { from = entry.from; to = to; sender = i; channel = k }) o ≡ Some l → ends_of l ≡ (entry.from, to)
    ends_by i None l e = absurd cc
    ends_by i (Some k) l e = ap (λ (x : Link). (x.from, x.to)) (sym (same_some (record { from = entry.from; to = to; sender = i; channel = k }) l e))

    ends_are : (l : Link) → link_of names xs entry ≡ Some l → ends_of l ≡ (entry.from, to)
    ends_are l e =
        option_and_then_some (λ (sender : ℕ). option_and_then (λ (receiver : ℕ). option_and_then (λ (t : ChainState). link_at entry sender (channels_of_state t)) (slice_get xs sender)) (place_among names to)) (place_among names entry.from) l e (λ i at_i e1.
        option_and_then_some (λ (receiver : ℕ). option_and_then (λ (t : ChainState). link_at entry i (channels_of_state t)) (slice_get xs i)) (place_among names to) l e1 (λ j at_j e2.
        option_and_then_some (λ (t : ChainState). link_at entry i (channels_of_state t)) (slice_get xs i) l e2 (λ s at_s e3. ends_by i (place_towards to (channels_of_state s)) l e3)))

  -- the first of the links is the next channel
  pub found_link : (cs : List ChannelSpec) → find (waits w) (map (λ (c : ChannelSpec). (c.from, c.channel.to)) cs) ≡ option_map (λ (x : Link). (x.from, x.to)) (find (waits_at xs) (found_links names xs cs))
  found_link [] = refl
  found_link (c ∷ cs) =
      elim (link_of names xs c) as (λ o. link_of names xs c ≡ o → (if waits w (c.from, c.channel.to) then Some (c.from, c.channel.to) else find (waits w) (map (λ (c : ChannelSpec). (c.from, c.channel.to)) cs))
      ≡ option_map (λ (x : Link). (x.from, x.to)) (find (waits_at xs) (cons_option o (found_links names xs cs)))) [
        | None ↦ λ e.
            let none : waits w (c.from, c.channel.to) ≡ false = waits_by c ∙ ap (λ o. option_map_or (waits_at xs) o false) e in
            ap (λ (b : Bool). if b then Some (c.from, c.channel.to) else find (waits w) (map (λ (c : ChannelSpec). (c.from, c.channel.to)) cs)) none ∙ found_link cs
        | Some l ↦ λ e.
            let same : waits w (c.from, c.channel.to) ≡ waits_at xs l = waits_by c ∙ ap (λ o. option_map_or (waits_at xs) o false) e in
            ap (λ (b : Bool). if b then Some (c.from, c.channel.to) else find (waits w) (map (λ (c : ChannelSpec). (c.from, c.channel.to)) cs)) same
            ∙ found_more (waits_at xs l) l (c.from, c.channel.to) (find (waits w) (map (λ (c : ChannelSpec). (c.from, c.channel.to)) cs)) (find (waits_at xs) (found_links names xs cs)) (ends_are c l e) (found_link cs)
      ] refl
