-- Accounts of whole chains.
use Rattle.std.proofs.Common.{◌≡◌, ℕ, zero, suc, ◌+◌, ◌*◌, ◌<◌, ◌^◌, Bool, true, false, List, [], ◌∷◌, get_or, refl, sym, ap, ◌∙◌, inl, inr, ⊎_elim, arith}
use Rattle.std.specs.Prelude.{◌⊎◌, ◌↔◌, ◌||◌, IsTrue, take, drop}
use Rattle.std.specs.Int.{from_le_bytes, w32}
use Rattle.std.specs.Str.{bytes_eq}
use Rattle.std.proofs.lemmas.Nat.{from_le_bytes-to_le_bytes_4}
use Rattle.std.proofs.lemmas.Slice.Eq.{bytes_eq-Decides}
use Rattle.trust_tables.specs.Accounts.{IsSovereign, child_account, sibling_account, parent_account}
use Rattle.network_steps.specs.Steps.{is_sovereign}
use Rattle.plain_lists.proofs.Lemmas.Facts.{either_first as either_left, either_second as either_right, one_of_either as one_of}

abbrev number_in : List ℕ → ℕ
number_in account = from_le_bytes w32 (take 4 (drop 4 account))

-- an account is itself
equal_told : (xs ys : List ℕ) → xs ≡ ys → bytes_eq xs ys ≡ true
equal_told xs ys same = (bytes_eq-Decides xs ys).1 same

small_drop : (n : ℕ) (xs : List ℕ) → ((i : ℕ) → get_or xs i 0 < 256) → (i : ℕ) → get_or (drop n xs) i 0 < 256
small_drop zero xs small i = small i
small_drop (suc n) [] small i = small i
small_drop (suc n) (x ∷ xs) small i = small_drop n xs (λ j. small (suc j)) i

small_take : (n : ℕ) (xs : List ℕ) → ((i : ℕ) → get_or xs i 0 < 256) → (i : ℕ) → get_or (take n xs) i 0 < 256
small_take zero xs small i = omega arith
small_take (suc n) [] small i = omega arith
small_take (suc n) (x ∷ xs) small zero = small 0
small_take (suc n) (x ∷ xs) small (suc i) = small_take n xs (λ j. small (suc j)) i

number_small : (xs : List ℕ) → ((i : ℕ) → get_or xs i 0 < 256) → number_in xs < 2 ^ 32
number_small xs small =
    let ys = take 4 (drop 4 xs) in
    let each = small_take 4 (drop 4 xs) (small_drop 4 xs small) in
    let sum : number_in xs ≡ get_or ys 0 0 + get_or ys 1 0 * 256 + get_or ys 2 0 * 65536 + get_or ys 3 0 * 16777216 = refl in
    omega (arith, sum, each 0, each 1, each 2, each 3)

-- the test of the rules says what the accounts' own definition says
told : (account : List ℕ) → IsSovereign account → is_sovereign account ≡ true
told account s =
    let child = bytes_eq account (child_account (number_in account)) in
    let sibling = bytes_eq account (sibling_account (number_in account)) in
    let parent = bytes_eq account parent_account in
    ⊎_elim
    (λ e. either_left (child || sibling) parent (either_left child sibling (equal_told account (child_account (number_in account)) (e.2 ∙ ap child_account (sym (ap number_in e.2 ∙ from_le_bytes-to_le_bytes_4 e.0 e.1))))))
    (⊎_elim
    (λ e. either_left (child || sibling) parent (either_right child sibling (equal_told account (sibling_account (number_in account)) (e.2 ∙ ap sibling_account (sym (ap number_in e.2 ∙ from_le_bytes-to_le_bytes_4 e.0 e.1))))))
    (λ e. either_right (child || sibling) parent (equal_told account parent_account e))) s

says : (account : List ℕ) → ((i : ℕ) → get_or account i 0 < 256) → is_sovereign account ≡ true → IsSovereign account
says account small h =
    let child = bytes_eq account (child_account (number_in account)) in
    let sibling = bytes_eq account (sibling_account (number_in account)) in
    let parent = bytes_eq account parent_account in
    ⊎_elim
    (λ both. ⊎_elim
    (λ e. inl (number_in account, number_small account small, (bytes_eq-Decides account (child_account (number_in account))).0 e))
    (λ e. inr (inl (number_in account, number_small account small, (bytes_eq-Decides account (sibling_account (number_in account))).0 e)))
    (one_of child sibling both))
    (λ e. inr (inr ((bytes_eq-Decides account parent_account).0 e)))
    (one_of (child || sibling) parent h)

pub is_it : (account : List ℕ) (b : Bool) → ((i : ℕ) → get_or account i 0 < 256) → (IsTrue b ↔ IsSovereign account) → b ≡ is_sovereign account
is_it account true small h = sym (told account (h.0 refl))
is_it account false small h =
    elim (is_sovereign account) as (λ x. is_sovereign account ≡ x → false ≡ x) [
      | true ↦ λ e. h.1 (says account small e)
      | false ↦ λ e. refl
    ] refl
