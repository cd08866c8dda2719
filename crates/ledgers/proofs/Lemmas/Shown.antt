-- What proofs that go from account to account speak of; a reader of the contracts may skip this file. The rows of what accounts hold that are
-- shown when all accounts up to one were.
use Rattle.std.specs.Prelude.{ℕ, Bool, false, not, List, Option, Some, None, filter}
use Rattle.std.specs.Ordering.{is_lt}
use Rattle.ledgers.specs.Ledgers.{Holder, account_cmp, is_account}

-- no account after this one; none at all where no account is given
abbrev pub is_upto : Option (List ℕ) → List ℕ → Bool
is_upto None who = false
is_upto (Some a) who = not (is_lt (account_cmp a who))

-- the rows of the accounts up to this one
abbrev pub shown : Option (List ℕ) → List (Holder × ℕ) → List (Holder × ℕ)
shown after es = filter (λ (e : Holder × ℕ). is_upto after e.0.0) es

-- the rows of an account
abbrev pub rows_of_account : List ℕ → List (Holder × ℕ) → List (Holder × ℕ)
rows_of_account who es = filter (λ (e : Holder × ℕ). is_account who e.0) es
