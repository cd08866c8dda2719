-- Lists whose entries are looked at beside one another, entry by entry.
use Rattle.std.proofs.Common.{◌≡◌, ℕ, ◌+◌, ◌<◌, List, length, get_or, take, drop, refl, arith, Option, Ok, Err}
use Rattle.std.proofs.lemmas.List.{drop_more, drop_all, take_more}
use Rattle.document_entries.specs.declared.fault.NetworkFault.{NetworkFault}
use Rattle.document_entries.specs.declared.fault.Section.{Section}
use Rattle.document_entries.specs.Forms.{next_index}
use Rattle.network_config.specs.declared.checks.Flaws.{Flaws}
use Rattle.network_config.specs.References.{each_in, flaw_at, document_place}

pub checked : {X : Type 0} (flaws : List X → X → Flaws) (chain : Option ℕ) (section : Section) (xs : List X) (k i : ℕ) (x : X) → k < length xs → x ≡ get_or xs k x → flaw_at (document_place chain section i) (flaws (take k xs) x) ≡ Ok tt
    → each_in flaws chain section i (take k xs) (drop k xs) ≡ each_in flaws chain section (next_index i) (take (k + 1) xs) (drop (k + 1) xs)
unfolding each_in
checked flaws chain section xs k i x l e r = rw (drop_more xs k x l, take_more xs k x l, ← e, r) refl

pub refused : {X : Type 0} (flaws : List X → X → Flaws) (chain : Option ℕ) (section : Section) (xs : List X) (k i : ℕ) (x : X) (fault : NetworkFault) → k < length xs → x ≡ get_or xs k x → flaw_at (document_place chain section i) (flaws (take k xs) x) ≡ Err fault
    → each_in flaws chain section i (take k xs) (drop k xs) ≡ Err fault
unfolding each_in
refused flaws chain section xs k i x fault l e r = rw (drop_more xs k x l, ← e, r) refl

pub all_checked : {X : Type 0} (flaws : List X → X → Flaws) (chain : Option ℕ) (section : Section) (xs : List X) (k i : ℕ) (earlier : List X) → length xs ≡ k → each_in flaws chain section i earlier (drop k xs) ≡ Ok tt
unfolding each_in
all_checked flaws chain section xs k i earlier e = rw (drop_all k xs (omega arith)) refl
