-- Lemmas on the definitions of `specs/Checking.antt`: what proofs cite.
use Rattle.std.specs.Prelude.{◌≡◌, ℕ, ◌+◌, ◌^◌, ◌<◌, ◌≤◌, true, false, if◌then◌else◌, ◌||◌, List, [], ◌∷◌, Option, Some, None, slice_get, refl}
use Rattle.std.specs.List.{list_any}
use Rattle.std.proofs.Common.{sym, ap, ◌∙◌, subst, arith}
use Rattle.trust_tables.specs.declared.rows.AssetRow.{AssetRow}
use Rattle.law_coherence.specs.UniversalAssets.{UniversalAsset, every}
use Rattle.law_coherence.specs.Networks.{Table, is_native_row, is_home}
use Rattle.law_coherence.specs.Parts.{Part, WorldView, stock}
use Rattle.law_coherence.specs.Checking.{account_in, checking_at, risen, NeverKept, KeptWithin, IsWithinStart, AllWithin, NoAccount, Accounted, IsAccounted}
use Rattle.plain_lists.proofs.Lemmas.Facts.{same_some_number as some_number}

-- at first it is below 2^127, as is each amount of a network document
abbrev pub AllLow : WorldView → Type 0
AllLow w = (k : ℕ) (p : Part) (a : UniversalAsset) (amount : ℕ) → slice_get w k ≡ Some p → checking_at a p ≡ Some amount → amount < 2 ^ 127

-- ---- lemmas; a reader may skip them
-- an account is at a home of its asset
home_in : (t : Table) (a : UniversalAsset) (amount : ℕ) (rows : List AssetRow) (checking : List (Option ℕ)) → account_in t a rows checking ≡ Some amount → list_any (is_native_row t a) rows ≡ true
home_in t a amount [] checking e = absurd (cc)
home_in t a amount (row ∷ rows) [] e = absurd (cc)
home_in t a amount (row ∷ rows) (account ∷ checking) e =
    elim (is_native_row t a row) as (λ b. (if b then account else account_in t a rows checking) ≡ Some amount → (b || list_any (is_native_row t a) rows) ≡ true) [
      | true ↦ λ h. refl
      | false ↦ λ h. home_in t a amount rows checking h
    ] e

pub home_of_account : (a : UniversalAsset) (p : Part) (amount : ℕ) → checking_at a p ≡ Some amount → is_home a p.table ≡ true
home_of_account a p amount e = home_in p.table a amount p.table.rows p.checking e

pub same_accounts : (a : UniversalAsset) (p q : Part) → q.table ≡ p.table → q.checking ≡ p.checking → checking_at a q ≡ checking_at a p
same_accounts a p q table checking = λ i. account_in (table i) a (table i).rows (checking i)

pub risen_by_none : (o : Option ℕ) → risen 0 o ≡ o
risen_by_none None = refl
risen_by_none (Some amount) = ap Some (let e : amount + 0 ≡ amount = omega arith in e)

-- what leaves an account's chain is put into it
pub account_rises : (more : ℕ) (before now : Option ℕ) (away_before away here_before here : ℕ) → now ≡ risen more before → away ≤ away_before + more → here + more ≤ here_before → IsAccounted before now away_before away here_before here
account_rises more None now away_before away here_before here e gone left = NoAccount refl e
account_rises more (Some m) now away_before away here_before here e gone left = Accounted m (m + more) refl e (omega (arith, gone)) (omega (arith, left))

pub account_stays : (before now : Option ℕ) (away_before away here_before here : ℕ) → now ≡ before → away ≤ away_before → here ≤ here_before → IsAccounted before now away_before away here_before here
account_stays before now away_before away here_before here e gone left = account_rises 0 before now away_before away here_before here (e ∙ sym (risen_by_none before)) (omega (arith, gone)) (omega (arith, left))

-- what comes in is taken out of it
pub account_falls : (less : ℕ) (before now : Option ℕ) (away_before away here_before here : ℕ) → before ≡ risen less now → away + less ≤ away_before → ((n : ℕ) → now ≡ Some n → here ≤ here_before + less) → IsAccounted before now away_before away here_before here
account_falls less before None away_before away here_before here e gone came = NoAccount e refl
account_falls less before (Some n) away_before away here_before here e gone came = Accounted (n + less) n e refl (omega (arith, gone)) (let in_all = came n refl in omega (arith, in_all))

-- where no other chain changes
pub accounted_alone : (before now : Option ℕ) (away_before away here_before here : ℕ) → IsAccounted before now away_before away here_before here → IsAccounted before now (away_before + 0) (away + 0) here_before here
accounted_alone before now away_before away here_before here (NoAccount x y) = NoAccount x y
accounted_alone before now away_before away here_before here (Accounted m n x y out in_all) = Accounted m n x y (omega (arith, out)) in_all

-- one change after another
pub accounted_then : (a b c : Option ℕ) (away_a away_b away_c here_a here_b here_c : ℕ) → IsAccounted a b away_a away_b here_a here_b → IsAccounted b c away_b away_c here_b here_c → IsAccounted a c away_a away_c here_a here_c
accounted_then a b c away_a away_b away_c here_a here_b here_c (NoAccount x y) (NoAccount z u) = NoAccount x u
accounted_then a b c away_a away_b away_c here_a here_b here_c (NoAccount x y) (Accounted m n z u out in_all) = absurd (let e : None ≡ Some m = sym y ∙ z in cc)
accounted_then a b c away_a away_b away_c here_a here_b here_c (Accounted m n x y out in_all) (NoAccount z u) = absurd (let e : Some n ≡ None = sym y ∙ z in cc)
accounted_then a b c away_a away_b away_c here_a here_b here_c (Accounted m n x y out in_all) (Accounted k l z u more less) =
    let same = some_number n k (sym y ∙ z) in
    Accounted m l x u (omega (arith, same, out, more)) (omega (arith, same, in_all, less))

pub within_then : (a b c : Option ℕ) (away_b away_c here_a here_b here_c : ℕ) → IsWithinStart a b here_a here_b → IsAccounted b c away_b away_c here_b here_c → IsWithinStart a c here_a here_c
within_then a b c away_b away_c here_a here_b here_c (NeverKept x y) (NoAccount z u) = NeverKept x u
within_then a b c away_b away_c here_a here_b here_c (NeverKept x y) (Accounted m n z u out in_all) = absurd (let e : None ≡ Some m = sym y ∙ z in cc)
within_then a b c away_b away_c here_a here_b here_c (KeptWithin m n x y le) (NoAccount z u) = absurd (let e : Some n ≡ None = sym y ∙ z in cc)
within_then a b c away_b away_c here_a here_b here_c (KeptWithin m n x y le) (Accounted k l z u more less) =
    let same = some_number n k (sym y ∙ z) in
    KeptWithin m l x u (omega (arith, same, le, less))

within_same : (o : Option ℕ) (here : ℕ) → IsWithinStart o o here here
within_same None here = NeverKept refl refl
within_same (Some m) here = KeptWithin m m refl refl (omega arith)

some_part : (p q : Part) → Some p ≡ Some q → p ≡ q
some_part p q e = cc

-- so it is at first
pub first_within : (w : WorldView) → AllWithin w w
first_within w k p q a at_p at_q =
    let same : p ≡ q = some_part p q (sym at_p ∙ at_q) in
    subst (λ (x : Part). IsWithinStart (checking_at a p) (checking_at a x) (stock a every p) (stock a every x)) same (within_same (checking_at a p) (stock a every p))
