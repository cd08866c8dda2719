-- Lemmas on the definitions of `specs/Reading.antt`: what proofs cite.
use Rattle.std.proofs.Common.{◌≡◌, ⊎_elim, ℕ, ◌^◌, ◌<◌, Bool, true, false, List, [], ◌∷◌, Option, Some, Ok, sym, ap, ◌∙◌, subst, arith, take, drop}
use Rattle.std.specs.Prelude.{◌||◌, MatchResult}
use Rattle.std.specs.Int.{from_le_bytes, w32}
use Rattle.std.specs.Str.{bytes_eq}
use Rattle.std.specs.List.{AllByRecursion}
use Rattle.std.proofs.lemmas.Nat.{from_le_bytes-to_le_bytes_4}
use Rattle.operands.specs.declared.version.Version.{Version}
use Rattle.trust_tables.specs.Accounts.{labelled, child_account, sibling_account, parent_account, IsSovereign}
use Rattle.xcm_program.specs.declared.instruction.Instruction.{Instruction, out-Instruction}
use Rattle.xcm_program.specs.declared.instruction.Instruction.TheOpen.{Instruction-F}
use Rattle.xcm_program.specs.Measure.{inner_of}
use Rattle.xcm_program.proofs.Lemmas.{everywhere_by}
use Rattle.xcm_format.specs.Programs.{FitsHead, FitsInstruction}
use Rattle.xcm_format.proofs.Lemmas.{Inside, fits_open}
use Rattle.versioned_xcm.specs.Message.{IsDecoded, IsCause}
use Rattle.versioned_xcm.specs.Reading.{message_of}
use Rattle.network_steps.specs.Steps.{is_sovereign}
use Rattle.law_runs.specs.Safety.{HasList, AreLists, IsRunnable}
use Rattle.law_runs.proofs.Lemmas.Shipping.{HasList-IsOfLayer}
use Rattle.law_steps.specs.Reading.{Decodes}
use Rattle.plain_lists.proofs.Lemmas.Facts.{bytes_themselves as itself, either_second as or_second, false_not_true as not_both}

-- ---- what is read
head_list : (v : Version) (l : Instruction-F Instruction) → FitsHead v l → HasList Instruction l
head_list v (Instruction-F.WithdrawAsset list) h = h.0
head_list v (Instruction-F.ReceiveTeleportedAsset list) h = h.0
head_list v (Instruction-F.TransferAsset list who) h = h.0.0
head_list v (Instruction-F.TransferReserveAsset list dest xcm) h = h.0.0
head_list v _ h = tt

abbrev Fit : Version → List Instruction → Type 0
Fit v p = AllByRecursion (FitsInstruction v) p

inside_fits : (v : Version) (i : Instruction) (rest p : List Instruction) → inner_of i ≡ Some p → Fit v (i ∷ rest) → Fit v p
inside_fits v i rest p is fits = (subst (λ (o : Option (List Instruction)). Inside v o) is (fits_open v i fits.0).1).1

fits_lists : (v : Version) (p : List Instruction) → Fit v p → AllByRecursion AreLists p
fits_lists v p fits = everywhere_by HasList HasList-IsOfLayer (Fit v) (λ i rest h. head_list v (out-Instruction i) (fits_open v i h.0).0) (inside_fits v) (λ i rest h. h.1) p fits

pub decoded_runs : Decodes → (bytes : List ℕ) (program : List Instruction) → message_of bytes ≡ Ok program → IsRunnable program
decoded_runs law bytes program e =
    let decoded : IsDecoded bytes program = subst (λ r. MatchResult r (IsDecoded bytes) (IsCause bytes)) e (law bytes) in
    let readable = decoded.message.1.readable in
    let few = readable.small.few in
    record { few = omega (arith, few); lists = fits_lists decoded.message.0 program readable.fits.1 }

-- ---- callers
abbrev number_in : List ℕ → ℕ
number_in account = from_le_bytes w32 (take 4 (drop 4 account))

number_in-labelled : (a b c d n : ℕ) → n < 2 ^ 32 → number_in (labelled (a ∷ b ∷ c ∷ d ∷ []) n) ≡ n
number_in-labelled a b c d n small = from_le_bytes-to_le_bytes_4 n small

-- three tests, one of which passes
any_first : (a b c : Bool) → a ≡ true → (a || b || c) ≡ true
any_first a b c h = ap (λ (x : Bool). x || b || c) h

any_second : (a b c : Bool) → b ≡ true → (a || b || c) ≡ true
any_second a b c h = ap (λ (x : Bool). x || c) (or_second a b h)

any_third : (a b c : Bool) → c ≡ true → (a || b || c) ≡ true
any_third a b c h = or_second (a || b) c h

child_found : (account : List ℕ) (n : ℕ) → n < 2 ^ 32 → account ≡ child_account n → is_sovereign account ≡ true
child_found account n small is =
    let number : number_in account ≡ n = ap number_in is ∙ number_in-labelled 112 97 114 97 n small in
    let same : account ≡ child_account (number_in account) = is ∙ ap child_account (sym number) in
    any_first (bytes_eq account (child_account (number_in account))) (bytes_eq account (sibling_account (number_in account))) (bytes_eq account parent_account) (subst (λ (x : List ℕ). bytes_eq account x ≡ true) same (itself account))

sibling_found : (account : List ℕ) (n : ℕ) → n < 2 ^ 32 → account ≡ sibling_account n → is_sovereign account ≡ true
sibling_found account n small is =
    let number : number_in account ≡ n = ap number_in is ∙ number_in-labelled 115 105 98 108 n small in
    let same : account ≡ sibling_account (number_in account) = is ∙ ap sibling_account (sym number) in
    any_second (bytes_eq account (child_account (number_in account))) (bytes_eq account (sibling_account (number_in account))) (bytes_eq account parent_account) (subst (λ (x : List ℕ). bytes_eq account x ≡ true) same (itself account))

parent_found : (account : List ℕ) → account ≡ parent_account → is_sovereign account ≡ true
parent_found account is =
    any_third (bytes_eq account (child_account (number_in account))) (bytes_eq account (sibling_account (number_in account))) (bytes_eq account parent_account) (subst (λ (x : List ℕ). bytes_eq account x ≡ true) is (itself account))

pub not_sovereign : (account : List ℕ) → is_sovereign account ≡ false → IsSovereign account → ⊥
not_sovereign account own whole = not_both (is_sovereign account) own (⊎_elim (λ c. child_found account c.0 c.1 c.2) (λ rest. ⊎_elim (λ s. sibling_found account s.0 s.1 s.2) (λ p. parent_found account p) rest) whole)
