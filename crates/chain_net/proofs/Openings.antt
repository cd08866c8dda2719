-- A network as it opens.
use Rattle.std.proofs.Common.{◌≡◌, ℕ, zero, suc, ◌+◌, ◌<◌, true, false, List, [], ◌∷◌, ◌++◌, length, get_or, drop, Option, Some, None, refl, sym, ap, ◌∙◌, subst, arith, map}
use Rattle.std.specs.Option.{IsSomeAnd}
use Rattle.std.specs.Prelude.{IsTrue, ◌&&◌, if◌then◌else◌, is_some, find}
use Rattle.std.specs.List.{All, AllByRecursion}
use Rattle.chain_ids.specs.declared.chain.ChainId.{ChainId}
use Rattle.chain_ids.specs.Chains.{same_chain}
use Rattle.chain_ids.proofs.Lemmas.{same_chain_itself, different_chains}
use Rattle.asset_lists.specs.Listed.{Listed}
use Rattle.trust_tables.specs.Trust.{listing}
use Rattle.weight_trader.specs.declared.rate.Rate.{Rate}
use Rattle.weight_trader.specs.Purchases.{Line, new_lines, AreRatesListed, AreWithinEnd}
use Rattle.channel_parts.specs.declared.channel.Channel.{Channel}
use Rattle.channel_parts.specs.Channels.{opened}
use Rattle.chain_queues.specs.Queues.{leads_to, channel_to}
use Rattle.network_spec.specs.declared.chain.ChainSpec.{ChainSpec}
use Rattle.network_spec.specs.declared.network.ChannelSpec.{ChannelSpec}
use Rattle.network_spec.specs.declared.network.NetworkSpec.{NetworkSpec}
use Rattle.network_steps.specs.Tests.{comes_before, rises, is_in_order, is_rate_listed, are_rates_listed}
use Rattle.network_steps.specs.Genesis.{channels_from, rules_of, part_at, member_of}
use Rattle.network_steps.specs.Openable.{IsOpenable, IsOpenableChain}
use Rattle.exec_base.specs.Part.{ChainPart}
use Rattle.exec_rules.specs.declared.rules.ChainRules.{ChainRules}
use Rattle.chain_state.specs.declared.state.ChainState.{ChainState}
use Rattle.chain_state.specs.PartOf.{part_of}
use Rattle.chain_net.specs.Order.{rise, are_in_order}
use Rattle.chain_net.specs.Chains.{world_in, name_of, names_of}
use Rattle.chain_net.specs.Sound.{AreListedIn, IsBetweenSteps, AreBetweenSteps}
use Rattle.chain_net.proofs.Searches.{number, above, both}
use Rattle.plain_lists.proofs.Lemmas.Facts.{same_some}

abbrev chain_named : ChainSpec → ChainId
chain_named c = c.chain

-- ---- the order
rises_by : (a : ChainId) (cs : List ChainSpec) → rises a cs ≡ rise a (map chain_named cs)
rises_by a [] = refl
rises_by a (c ∷ cs) = ap (λ b. comes_before a c.chain && b) (rises_by c.chain cs)

pub in_order_by : (cs : List ChainSpec) → IsTrue (is_in_order cs) → IsTrue (are_in_order (map (λ (c : ChainSpec). c.chain) cs))
in_order_by [] h = refl
in_order_by (c ∷ cs) h = sym (rises_by c.chain cs) ∙ (both (same_chain c.chain _) (rises c.chain cs) h).1

above_entry : (a : ChainId) (cs : List ChainSpec) → IsTrue (rise a (map chain_named cs)) → (j : ℕ) (d : ChainSpec) → j < length cs → number a < number (get_or cs j d).chain
above_entry a [] h j d lt = absurd (omega (arith, lt))
above_entry a (c ∷ cs) h zero d lt = above a c.chain (both (comes_before a c.chain) (rise c.chain (map chain_named cs)) h).0
above_entry a (c ∷ cs) h (suc j) d lt =
    let parts = both (comes_before a c.chain) (rise c.chain (map chain_named cs)) h in
    let first = above a c.chain parts.0 in
    let rest = above_entry c.chain cs parts.1 j d (omega (arith, lt)) in
    omega (arith, first, rest)

tail_order : (c : ChainSpec) (cs : List ChainSpec) → IsTrue (are_in_order (map chain_named (c ∷ cs))) → IsTrue (are_in_order (map chain_named cs))
tail_order c [] h = refl
tail_order c (x ∷ xs) h = (both (comes_before c.chain x.chain) (rise x.chain (map chain_named xs)) h).1

-- an entry is the first of its name
pub found_itself : (cs : List ChainSpec) → IsTrue (are_in_order (map (λ (c : ChainSpec). c.chain) cs)) → (i : ℕ) (d : ChainSpec) → i < length cs → find (λ (c : ChainSpec). same_chain c.chain (get_or cs i d).chain) cs ≡ Some (get_or cs i d)
found_itself [] h i d lt = absurd (omega (arith, lt))
found_itself (c ∷ cs) h zero d lt = ap (λ b. if b then Some c else find (λ (x : ChainSpec). same_chain x.chain c.chain) cs) (same_chain_itself c.chain)
found_itself (c ∷ cs) h (suc i) d lt =
    let e = get_or cs i d in
    let less = above_entry c.chain cs h i d (omega (arith, lt)) in
    let differ = different_chains c.chain e.chain (λ same. let equal = ap number same in absurd (omega (arith, less, equal))) in
    ap (λ b. if b then Some c else find (λ (x : ChainSpec). same_chain x.chain e.chain) cs) differ ∙ found_itself cs (tail_order c cs h) i d (omega (arith, lt))

-- the first of its name, by what a search told
pub opened_as : (spec : NetworkSpec) (p : ChainPart) (o : Option ChainSpec) (e : ChainSpec) → o ≡ Some e → IsSomeAnd o (λ c. p ≡ part_at spec c) → p ≡ part_at spec e
opened_as spec p None e is h = absurd cc
opened_as spec p (Some c) e is h = h ∙ ap (part_at spec) (same_some c e is)

-- ---- one chain more
more_mapped : (xs : List ChainState) (s : ChainState) (rest : List ChainPart) → map part_of (xs ++ s ∷ []) ++ rest ≡ map part_of xs ++ (part_of s ∷ rest)
more_mapped [] s rest = refl
more_mapped (x ∷ xs) s rest = ap (λ ps. part_of x ∷ ps) (more_mapped xs s rest)

next_entry : (g : ChainSpec → ChainPart) (cs : List ChainSpec) (i : ℕ) (d : ChainSpec) → i < length cs → map g (drop i cs) ≡ g (get_or cs i d) ∷ map g (drop (suc i) cs)
next_entry g [] i d lt = absurd (omega (arith, lt))
next_entry g (c ∷ cs) zero d lt = refl
next_entry g (c ∷ cs) (suc i) d lt = next_entry g cs i d (omega (arith, lt))

pub one_more : (spec : NetworkSpec) (xs now : List ChainState) (s : ChainState) (cs : List ChainSpec) (i : ℕ) (e : ChainSpec) → i < length cs → e ≡ get_or cs i e → now ≡ xs ++ s ∷ [] → part_of s ≡ part_at spec e
    → map part_of xs ++ map (part_at spec) (drop i cs) ≡ map (part_at spec) cs → map part_of now ++ map (part_at spec) (drop (i + 1) cs) ≡ map (part_at spec) cs
one_more spec xs now s cs i e lt at is part h =
    ap (λ ys. map part_of ys ++ map (part_at spec) (drop (i + 1) cs)) is ∙ more_mapped xs s (map (part_at spec) (drop (i + 1) cs))
    ∙ ap (λ p. map part_of xs ++ (p ∷ map (part_at spec) (drop (i + 1) cs))) (part ∙ ap (part_at spec) at)
    ∙ subst (λ (n : ℕ). map part_of xs ++ (part_at spec (get_or cs i e) ∷ map (part_at spec) (drop n cs)) ≡ map part_of xs ++ map (part_at spec) (drop i cs)) {x = suc i} (omega arith) (ap (λ ps. map part_of xs ++ ps) (sym (next_entry (part_at spec) cs i e lt)))
    ∙ h

-- ---- all chains
pub first_is : (spec : NetworkSpec) (cs : List ChainSpec) (rs : List ChainRules) (ss : List ChainState) → rs ≡ map rules_of cs → map part_of ss ≡ map (part_at spec) cs → world_in rs ss ≡ map (member_of spec) cs
first_is spec cs rs ss rules parts = ap (λ xs. world_in xs ss) rules ∙ by_parts cs ss parts
  where
    same_head : (x y : ChainPart) (xs ys : List ChainPart) → x ∷ xs ≡ y ∷ ys → (x ≡ y) × (xs ≡ ys)
    same_head x y xs ys e = (cc, cc)

    by_parts : (cs : List ChainSpec) (ss : List ChainState) → map part_of ss ≡ map (part_at spec) cs → world_in (map rules_of cs) ss ≡ map (member_of spec) cs
    by_parts [] ss h = refl
    by_parts (c ∷ cs) [] h = absurd cc
    by_parts (c ∷ cs) (s ∷ ss) h =
        let parts = same_head (part_of s) (part_at spec c) (map part_of ss) (map (part_at spec) cs) h in
        λ i. record { rules = rules_of c; part = parts.0 i } ∷ by_parts cs ss parts.1 i

pub names_are : (spec : NetworkSpec) (cs : List ChainSpec) (ss : List ChainState) → map part_of ss ≡ map (part_at spec) cs → names_of ss ≡ map (λ (c : ChainSpec). c.chain) cs
names_are spec cs ss h = names_parts ss ∙ ap (map (λ (p : ChainPart). p.site.chain)) h ∙ parts_names cs
  where
    names_parts : (ss : List ChainState) → names_of ss ≡ map (λ (p : ChainPart). p.site.chain) (map part_of ss)
    names_parts [] = refl
    names_parts (s ∷ ss) = ap (λ (ns : List ChainId). name_of s ∷ ns) (names_parts ss)

    parts_names : (cs : List ChainSpec) → map (λ (p : ChainPart). p.site.chain) (map (part_at spec) cs) ≡ map (λ (c : ChainSpec). c.chain) cs
    parts_names [] = refl
    parts_names (c ∷ cs) = ap (λ (ns : List ChainId). c.chain ∷ ns) (parts_names cs)

many_mapped : {A B : Type 0} (f : A → B) (xs : List A) → length (map f xs) ≡ length xs
many_mapped f [] = refl
many_mapped f (x ∷ xs) = ap suc (many_mapped f xs)

pub as_many : (spec : NetworkSpec) (cs : List ChainSpec) (rs : List ChainRules) (ss : List ChainState) → rs ≡ map rules_of cs → map part_of ss ≡ map (part_at spec) cs → length rs ≡ length ss
as_many spec cs rs ss rules parts = ap length rules ∙ many_mapped rules_of cs ∙ sym (many_mapped (part_at spec) cs) ∙ sym (ap length parts) ∙ many_mapped part_of ss

-- ---- between two steps
all_apart : {X : Type 0} (P : X → Type 0) (xs : List X) → All P xs → AllByRecursion P xs
all_apart P [] h = tt
all_apart P (x ∷ xs) h = (h 0 x (omega arith), all_apart P xs (λ i d lt. h (suc i) d (omega (arith, lt))))

none_leads : (from : ChainId) (cs : List ChannelSpec) → AllByRecursion (λ (c : ChannelSpec). same_chain c.from c.channel.to ≡ false) cs → is_some (channel_to from (map opened (channels_from from cs))) ≡ false
none_leads from [] h = refl
none_leads from (c ∷ cs) h =
    elim (same_chain c.from from) as (λ b. same_chain c.from from ≡ b → is_some (channel_to from (map opened (if b then c.channel ∷ channels_from from cs else channels_from from cs))) ≡ false) [
      | true ↦ λ e.
          let away : same_chain c.channel.to from ≡ false = different_chains c.channel.to from (λ to_it.
          let both_same : same_chain c.from c.channel.to ≡ true = ap (λ (x : ChainId). same_chain c.from x) to_it ∙ e in
          let wrong : false ≡ true = sym h.0 ∙ both_same in cc) in
          ap (λ b. is_some (if b then Some (opened c.channel) else find (leads_to from) (map opened (channels_from from cs)))) away ∙ none_leads from cs h.1
      | false ↦ λ e. none_leads from cs h.1
    ] refl

nothing_shipped : (listed : List Listed) (channels : List Channel) → AreListedIn listed (map opened channels)
nothing_shipped listed [] = tt
nothing_shipped listed (c ∷ cs) = (tt, nothing_shipped listed cs)

rates_listed : (listed : List Listed) (lines : List Line) → IsTrue (are_rates_listed listed lines) → AreRatesListed listed lines
rates_listed listed [] h = tt
rates_listed listed (x ∷ xs) h = let parts = both (is_rate_listed listed x) (are_rates_listed listed xs) h in (parts.0, rates_listed listed xs parts.1)

nothing_paid : (rates : List Rate) → AreWithinEnd (new_lines rates)
nothing_paid [] = tt
nothing_paid (r ∷ rs) = (omega arith, nothing_paid rs)

pub between_first : (spec : NetworkSpec) (c : ChainSpec) → IsOpenable spec → IsOpenableChain spec.network c → IsBetweenSteps (part_at spec c)
between_first spec c openable chain = record {
  rest = record { order = record { traps = tt; rates = rates_listed (listing c.assets) (new_lines c.rates) chain.rates; paid = nothing_paid c.rates; pools = chain.pools; unparked = refl }; slot = refl };
  landed = refl;
  told = refl;
  shipped = nothing_shipped (listing c.assets) (channels_from c.chain spec.channels);
  apart = none_leads c.chain spec.channels (all_apart (λ (d : ChannelSpec). same_chain d.from d.channel.to ≡ false) spec.channels (λ i d lt. (openable.channels i d lt).apart));
}

pub all_between : (spec : NetworkSpec) (cs : List ChainSpec) (ss : List ChainState) → IsOpenable spec → AllByRecursion (IsOpenableChain spec.network) cs → map part_of ss ≡ map (part_at spec) cs → AreBetweenSteps ss
all_between spec [] [] openable all h place state at = absurd (none_at state at)
  where
    none_at : {X : Type 0} (x : X) → ◌≡◌ {A = Option X} None (Some x) → ⊥
    none_at x e = cc
all_between spec [] (s ∷ ss) openable all h place state at = absurd cc
all_between spec (c ∷ cs) [] openable all h place state at = absurd cc
all_between spec (c ∷ cs) (s ∷ ss) openable all h zero state at =
    subst (λ (x : ChainState). IsBetweenSteps (part_of x)) (same_some s state at) (subst IsBetweenSteps (sym (head_is (part_of s) (part_at spec c) _ _ h)) (between_first spec c openable all.0))
  where
    head_is : (x y : ChainPart) (xs ys : List ChainPart) → x ∷ xs ≡ y ∷ ys → x ≡ y
    head_is x y xs ys e = cc
all_between spec (c ∷ cs) (s ∷ ss) openable all h (suc place) state at = all_between spec cs ss openable all.1 (tail_is (part_of s) (part_at spec c) _ _ h) place state at
  where
    tail_is : (x y : ChainPart) (xs ys : List ChainPart) → x ∷ xs ≡ y ∷ ys → xs ≡ ys
    tail_is x y xs ys e = cc

pub openable_chains : (spec : NetworkSpec) → IsOpenable spec → AllByRecursion (IsOpenableChain spec.network) spec.chains
openable_chains spec openable = all_apart (IsOpenableChain spec.network) spec.chains openable.chains

pub entry_found : (whole cs : List ChainSpec) → cs ≡ whole → IsTrue (is_in_order whole) → (i : ℕ) (e : ChainSpec) → i < length cs → e ≡ get_or cs i e → find (λ (c : ChainSpec). same_chain c.chain e.chain) whole ≡ Some e
entry_found whole cs same order i e lt at =
    let order_too = subst (λ (ys : List ChainSpec). IsTrue (are_in_order (map (λ (c : ChainSpec). c.chain) ys))) (sym same) (in_order_by whole order) in
    subst (λ (ys : List ChainSpec). find (λ (c : ChainSpec). same_chain c.chain e.chain) ys ≡ Some e) same
    (subst (λ (x : ChainSpec). find (λ (c : ChainSpec). same_chain c.chain x.chain) cs ≡ Some x) (sym at) (found_itself cs order_too i e lt))
