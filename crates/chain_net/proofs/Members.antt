-- The world of some chains, index by index.
use Rattle.std.proofs.Common.{◌≡◌, ℕ, zero, suc, ◌+◌, ◌<◌, Bool, true, false, List, [], ◌∷◌, length, get_or, map, Option, Some, None, refl, sym, ap, ◌∙◌, subst, arith}
use Rattle.std.specs.Prelude.{slice_get, slice_set, cond, not, nat_lt, nat_eq, IfSome}
use Rattle.std.specs.List.{position, position_or_len}
use Rattle.std.proofs.lemmas.Option.{slice_get-get_or}
use Rattle.std.proofs.lemmas.Grind.{common_steps}
use Rattle.std.proofs.lemmas.Bool.Decides.{nat_tests}
use Rattle.chain_ids.specs.declared.chain.ChainId.{ChainId}
use Rattle.chain_ids.specs.Chains.{same_chain}
use Rattle.exec_rules.specs.declared.rules.ChainRules.{ChainRules}
use Rattle.chain_state.specs.declared.state.ChainState.{ChainState}
use Rattle.chain_state.specs.PartOf.{part_of}
use Rattle.network_steps.specs.Worlds.{Member, chain_of, place_of, parts_of}
use Rattle.chain_net.specs.Nets.{told_at}
use Rattle.chain_net.specs.Sound.{IsBetweenSteps, AreBetweenSteps}
use Rattle.chain_net.specs.Chains.{member_in, world_in, name_of, names_of}
use Rattle.plain_lists.proofs.Lemmas.Facts.{same_some}

nothing_some : {X : Type 0} (x : X) → ◌≡◌ {A = Option X} None (Some x) → ⊥
nothing_some x e = cc

-- ---- as many members as chains, with their parts and names
pub members : (rs : List ChainRules) (ss : List ChainState) → length rs ≡ length ss → length (world_in rs ss) ≡ length ss
members [] [] same = refl
members [] (s ∷ ss) same = absurd (omega (arith, same))
members (r ∷ rs) [] same = refl
members (r ∷ rs) (s ∷ ss) same = ap suc (members rs ss (omega (arith, same)))

pub parts : (rs : List ChainRules) (ss : List ChainState) → length rs ≡ length ss → map part_of ss ≡ parts_of (world_in rs ss)
parts [] [] same = refl
parts [] (s ∷ ss) same = absurd (omega (arith, same))
parts (r ∷ rs) [] same = refl
parts (r ∷ rs) (s ∷ ss) same = ap (λ ps. part_of s ∷ ps) (parts rs ss (omega (arith, same)))

place_by_name : (rs : List ChainRules) (ss : List ChainState) (chain : ChainId) → length rs ≡ length ss
    → position_or_len (λ (m : Member). same_chain (chain_of m) chain) (world_in rs ss) ≡ position_or_len (λ (n : ChainId). same_chain n chain) (names_of ss)
place_by_name [] [] chain same = refl
place_by_name [] (s ∷ ss) chain same = absurd (omega (arith, same))
place_by_name (r ∷ rs) [] chain same = refl
place_by_name (r ∷ rs) (s ∷ ss) chain same = ap (λ (n : ℕ). cond (not (same_chain (name_of s) chain)) (1 + n) 0) (place_by_name rs ss chain (omega (arith, same)))

names_many : (ss : List ChainState) → length (names_of ss) ≡ length ss
names_many [] = refl
names_many (s ∷ ss) = ap suc (names_many ss)

-- the index of a chain, by the names alone
pub place_named : (rs : List ChainRules) (ss : List ChainState) (names : List ChainId) (chain : ChainId) → length rs ≡ length ss → names_of ss ≡ names
    → position (λ (n : ChainId). same_chain n chain) names ≡ place_of (world_in rs ss) chain
place_named rs ss names chain same named =
    let by_name = place_by_name rs ss chain same in
    let many = members rs ss same in
    let all_named = names_many ss in
    subst (λ (ns : List ChainId). position (λ (n : ChainId). same_chain n chain) ns ≡ place_of (world_in rs ss) chain) named
    (ap (λ (k : ℕ). cond (nat_lt k (length (names_of ss))) (Some k) None) (sym by_name)
    ∙ ap (λ (n : ℕ). cond (nat_lt (position_or_len (λ (m : Member). same_chain (chain_of m) chain) (world_in rs ss)) n) (Some (position_or_len (λ (m : Member). same_chain (chain_of m) chain) (world_in rs ss))) None) (all_named ∙ sym many))

place_within : {X : Type 0} (p : X → Bool) (xs : List X) (o : Option ℕ) → o ≡ position p xs → IfSome o (λ place. place < length xs)
place_within p xs None e = tt
place_within p xs (Some k) e = grind (arith, common_steps)

pub place_there : (ss : List ChainState) (names : List ChainId) (chain : ChainId) (o : Option ℕ) → names_of ss ≡ names → o ≡ position (λ (n : ChainId). same_chain n chain) names → IfSome o (λ place. place < length ss)
place_there ss names chain o named e =
    let many = names_many ss in
    subst (λ (n : ℕ). IfSome o (λ place. place < n)) (ap length (sym named) ∙ many) (place_within (λ (n : ChainId). same_chain n chain) names o e)

-- ---- one index
pub member_at : (rs : List ChainRules) (ss : List ChainState) (i : ℕ) (r : ChainRules) (s : ChainState) → slice_get rs i ≡ Some r → slice_get ss i ≡ Some s → slice_get (world_in rs ss) i ≡ Some (member_in r s)
member_at [] ss i r s at_r at_s = absurd (nothing_some r at_r)
member_at (x ∷ rs) [] i r s at_r at_s = absurd (nothing_some s at_s)
member_at (x ∷ rs) (y ∷ ss) zero r s at_r at_s = both_same x r y s at_r at_s
  where
    both_same : (x r : ChainRules) (y s : ChainState) → Some x ≡ Some r → Some y ≡ Some s → Some (member_in x y) ≡ Some (member_in r s)
    both_same x r y s e f =
        let same_rules = same_some x r e in
        let same_state = same_some y s f in
        ap (λ (m : ChainRules). Some (member_in m y)) same_rules ∙ ap (λ (t : ChainState). Some (member_in r t)) same_state
member_at (x ∷ rs) (y ∷ ss) (suc i) r s at_r at_s = member_at rs ss i r s at_r at_s

pub told_some : (rs : List ChainRules) (ss : List ChainState) (i : ℕ) (s : ChainState) → length rs ≡ length ss → slice_get ss i ≡ Some s → (part_of s).events ≡ told_at (Some i) (world_in rs ss)
told_some [] [] i s same at = absurd (nothing_some s at)
told_some [] (y ∷ ss) i s same at = absurd (omega (arith, same))
told_some (r ∷ rs) [] i s same at = absurd (nothing_some s at)
told_some (r ∷ rs) (y ∷ ss) zero s same at = ap (λ (t : ChainState). (part_of t).events) (sym (same_some y s at))
told_some (r ∷ rs) (y ∷ ss) (suc i) s same at = told_some rs ss i s (omega (arith, same)) at

pub told_none : (rs : List ChainRules) (ss : List ChainState) (i : ℕ) → length rs ≡ length ss → nat_lt i (length ss) ≡ false → [] ≡ told_at (Some i) (world_in rs ss)
told_none [] ss i same past = refl
told_none (r ∷ rs) [] i same past = refl
told_none (r ∷ rs) (y ∷ ss) zero same past = absurd (grind (arith, nat_tests))
told_none (r ∷ rs) (y ∷ ss) (suc i) same past = told_none rs ss i (omega (arith, same)) (grind (arith, nat_tests))

-- a chain is changed: its member is
pub set_member : (rs : List ChainRules) (ss : List ChainState) (i : ℕ) (r : ChainRules) (s : ChainState) → slice_get rs i ≡ Some r → world_in rs (slice_set ss i s) ≡ slice_set (world_in rs ss) i (member_in r s)
set_member [] ss i r s at = absurd (nothing_some r at)
set_member (x ∷ rs) [] i r s at = refl
set_member (x ∷ rs) (y ∷ ss) zero r s at = ap (λ (m : ChainRules). member_in m s ∷ world_in rs ss) (same_some x r at)
set_member (x ∷ rs) (y ∷ ss) (suc i) r s at = ap (λ w. member_in x y ∷ w) (set_member rs ss i r s at)

pub at_place : {X : Type 0} (xs : List X) (i : ℕ) (x : X) → x ≡ get_or xs i x → i < length xs → slice_get xs i ≡ Some x
at_place xs i x at lt = slice_get-get_or xs i x lt ∙ ap Some (sym at)

pub got_set : {X : Type 0} (xs : List X) (i : ℕ) (x y : X) → slice_get xs i ≡ Some x → slice_get (slice_set xs i y) i ≡ Some y
got_set [] i x y at = absurd cc
got_set (z ∷ zs) zero x y at = refl
got_set (z ∷ zs) (suc i) x y at = got_set zs i x y at

pub got_other : {X : Type 0} (xs : List X) (i k : ℕ) (y : X) → (k ≡ i → ⊥) → slice_get (slice_set xs i y) k ≡ slice_get xs k
got_other [] i k y apart = refl
got_other (z ∷ zs) zero zero y apart = absurd (apart refl)
got_other (z ∷ zs) zero (suc k) y apart = refl
got_other (z ∷ zs) (suc i) zero y apart = refl
got_other (z ∷ zs) (suc i) (suc k) y apart = got_other zs i k y (λ e. apart (ap suc e))

-- ---- what a network keeps as one chain changes
pub set_many : {X : Type 0} (xs : List X) (i : ℕ) (y : X) → length (slice_set xs i y) ≡ length xs
set_many [] i y = refl
set_many (z ∷ zs) zero y = refl
set_many (z ∷ zs) (suc i) y = ap suc (set_many zs i y)

pub set_names : (ss : List ChainState) (i : ℕ) (s new : ChainState) → slice_get ss i ≡ Some s → name_of new ≡ name_of s → names_of (slice_set ss i new) ≡ names_of ss
set_names [] i s new at same = refl
set_names (z ∷ zs) zero s new at same = ap (λ (n : ChainId). n ∷ names_of zs) (same ∙ ap name_of (sym (same_some z s at)))
set_names (z ∷ zs) (suc i) s new at same = ap (λ (ns : List ChainId). name_of z ∷ ns) (set_names zs i s new at same)

pub set_between : (ss : List ChainState) (i : ℕ) (s new : ChainState) → slice_get ss i ≡ Some s → AreBetweenSteps ss → IsBetweenSteps (part_of new) → AreBetweenSteps (slice_set ss i new)
set_between ss i s new at all here k state is =
    elim (nat_eq k i) as (λ b. nat_eq k i ≡ b → IsBetweenSteps (part_of state)) [
      | true ↦ λ e.
          let same : k ≡ i = grind (arith, nat_tests) in
          let found : Some new ≡ Some state = sym (got_set ss i s new at) ∙ ap (slice_get (slice_set ss i new)) (sym same) ∙ is in
          subst (λ (x : ChainState). IsBetweenSteps (part_of x)) (same_some new state found) here
      | false ↦ λ e. all k state (sym (got_other ss i k new (λ same. grind (arith, nat_tests))) ∙ is)
    ] refl

pub something : {X : Type 0} (xs : List X) (i : ℕ) → i < length xs → (x : X) × (slice_get xs i ≡ Some x)
something [] i lt = absurd (omega (arith, lt))
something (x ∷ xs) zero lt = (x, refl)
something (x ∷ xs) (suc i) lt = something xs i (omega (arith, lt))

pub somebody : (rs : List ChainRules) (ss : List ChainState) (i : ℕ) → length rs ≡ length ss → i < length ss → (m : Member) × (slice_get (world_in rs ss) i ≡ Some m)
somebody rs ss i same lt =
    let r = something rs i (omega (arith, same, lt)) in
    let s = something ss i lt in
    (member_in r.0 s.0, member_at rs ss i r.0 s.0 r.1 s.1)

within_by : {X : Type 0} (p : X → Bool) (xs : List X) (i : ℕ) → position p xs ≡ Some i → i < length xs
within_by p xs i e = grind (arith, common_steps)

pub members_within : (rs : List ChainRules) (ss : List ChainState) → length rs ≡ length ss → (chain : ChainId) (i : ℕ) → place_of (world_in rs ss) chain ≡ Some i → i < length ss
members_within rs ss same chain i at =
    let many = members rs ss same in
    let lt = within_by (λ (m : Member). same_chain (chain_of m) chain) (world_in rs ss) i at in
    omega (arith, many, lt)
