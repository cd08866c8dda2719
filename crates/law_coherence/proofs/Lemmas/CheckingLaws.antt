-- Lemmas: what follows of a checking account that covers what there is elsewhere. A reader may skip this file.
use Rattle.std.specs.Prelude.{◌≡◌, ℕ, zero, suc, ◌+◌, ◌-◌, ◌^◌, ◌<◌, ◌≤◌, true, List, [], ◌∷◌, Option, Some, None, slice_get, sum_by, refl}
use Rattle.std.proofs.lemmas.List.Sums.{sum_by-cons}
use Rattle.std.proofs.Common.{sym, ap, ◌∙◌, arith}
use Rattle.law_coherence.specs.UniversalAssets.{UniversalAsset, every}
use Rattle.law_coherence.specs.Networks.{Table, Agrees, is_home}
use Rattle.law_coherence.specs.Parts.{Cargo, Part, WorldView, chain_of_part, stock, teleported, alive, population, supply}
use Rattle.law_coherence.specs.Channels.{front}
use Rattle.law_coherence.proofs.Lemmas.Channels.{in_channels-popped}
use Rattle.law_coherence.proofs.Lemmas.Bounds.{sum_at, home_at_most}
use Rattle.law_coherence.specs.Checking.{checking_at, AllChecked, AllWithin, AllBounded, IsWithinStart, NeverKept, KeptWithin}
use Rattle.law_coherence.proofs.Lemmas.Checking.{AllLow, home_of_account}
use Rattle.law_coherence.specs.Steps.{tables_of}
use Rattle.law_coherence.proofs.Lemmas.Steps.{table_at, part_at, alive_here}
use Rattle.plain_lists.proofs.Lemmas.Facts.{same_some_number as some_number}

-- two chains have no more than all
two_at_most : (f : Part → ℕ) (w : WorldView) (i j : ℕ) (p q : Part) → slice_get w i ≡ Some p → slice_get w j ≡ Some q → (i ≡ j → ⊥) → f p + f q ≤ sum_by f w
two_at_most f [] i j p q at_i at_j apart = absurd (cc)
two_at_most f (x ∷ xs) zero zero p q at_i at_j apart = absurd (apart refl)
two_at_most f (x ∷ xs) zero (suc j) p q at_i at_j apart = let same : x ≡ p = cc in let here : f x ≡ f p = ap f same in let rest = sum_at f xs j q at_j in let all = sum_by-cons f x xs in omega (arith, here, rest, all)
two_at_most f (x ∷ xs) (suc i) zero p q at_i at_j apart = let same : x ≡ q = cc in let here : f x ≡ f q = ap f same in let rest = sum_at f xs i p at_i in let all = sum_by-cons f x xs in omega (arith, here, rest, all)
two_at_most f (x ∷ xs) (suc i) (suc j) p q at_i at_j apart = let rest = two_at_most f xs i j p q at_i at_j (λ e. apart (ap suc e)) in let all = sum_by-cons f x xs in omega (arith, rest, all)

all_alive : (a : UniversalAsset) (w : WorldView) → sum_by (alive a every) w ≡ population a every w
unfolding population
all_alive a w = refl

-- a teleport from another home is covered by the account: so the message isn't refused for it
pub covers_teleport : (w : WorldView) (i j : ℕ) (p q : Part) (a : UniversalAsset) (amount : ℕ) (cargo : Cargo) → slice_get w i ≡ Some p → slice_get w j ≡ Some q → (i ≡ j → ⊥) → is_home a p.table ≡ true
    → front (chain_of_part q) p.outgoing ≡ Some cargo → AllChecked w → checking_at a q ≡ Some amount → teleported p.table a every cargo ≤ amount
covers_teleport w i j p q a amount cargo at_i at_j apart home_p first checked is =
    let two = two_at_most (alive a every) w i j p q at_i at_j apart in
    let here = alive_here a p home_p in
    let there = alive_here a q (home_of_account a q amount is) in
    let queued = in_channels-popped (teleported p.table a every) (chain_of_part q) cargo p.outgoing first in
    let all = all_alive a w in
    let covered = checked j q a amount at_j is in
    omega (arith, two, here, there, queued, covered, all)

-- accounts that are below 2^127 at first, as all that there is of each asset, don't come to their end
account_bounded : (start now : Option ℕ) (here_first here amount : ℕ) → IsWithinStart start now here_first here → now ≡ Some amount → ((first : ℕ) → start ≡ Some first → first < 2 ^ 127) → here_first < 2 ^ 127 → amount + here < 2 ^ 128 - 1
account_bounded start now here_first here amount (NeverKept x y) is low few = absurd (let e : None ≡ Some amount = sym y ∙ is in cc)
account_bounded start now here_first here amount (KeptWithin m n x y le) is low few =
    let same = some_number n amount (sym y ∙ is) in
    let first = low m x in
    omega (arith, same, le, first, few)

pub all_bounded : (first w : WorldView) → Agrees (tables_of first) → tables_of w ≡ tables_of first → ((a : UniversalAsset) → supply a first < 2 ^ 127) → AllLow first → AllWithin first w → AllBounded w
all_bounded first w agrees tables small low within k q a amount at is =
    let was = part_at first k q.table (ap (λ (ts : List Table). slice_get ts k) (sym tables) ∙ table_at w k q at) in
    let p = was.0 in
    let home : is_home a p.table ≡ true = ap (is_home a) was.2 ∙ home_of_account a q amount is in
    let all = home_at_most first agrees a k p was.1 home in
    let few = small a in
    account_bounded (checking_at a p) (checking_at a q) (stock a every p) (stock a every q) amount (within k p q a was.1 at) is (λ m stands. low k p a m was.1 stands) (omega (arith, all, few))

-- and what doesn't come to its end with what its chain has at first, doesn't later
bounded_within : (start now : Option ℕ) (here_first here amount : ℕ) → IsWithinStart start now here_first here → now ≡ Some amount → ((first : ℕ) → start ≡ Some first → first + here_first < 2 ^ 128 - 1) → amount + here < 2 ^ 128 - 1
bounded_within start now here_first here amount (NeverKept x y) is below = absurd (let e : None ≡ Some amount = sym y ∙ is in cc)
bounded_within start now here_first here amount (KeptWithin m n x y le) is below =
    let same = some_number n amount (sym y ∙ is) in
    let first = below m x in
    omega (arith, same, le, first)

pub still_bounded : (first w : WorldView) → tables_of w ≡ tables_of first → AllBounded first → AllWithin first w → AllBounded w
still_bounded first w tables bounded within k q a amount at is =
    let was = part_at first k q.table (ap (λ (ts : List Table). slice_get ts k) (sym tables) ∙ table_at w k q at) in
    bounded_within (checking_at a was.0) (checking_at a q) (stock a every was.0) (stock a every q) amount (within k was.0 q a was.1 at) is (λ m stands. bounded k was.0 a m was.1 stands)
