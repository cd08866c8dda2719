-- A floor above another.
use Rattle.std.proofs.Common.{◌≡◌, ℕ, ◌+◌, Bool, true, false, ◌||◌, if◌then◌else◌, List, ap, ◌∙◌, arith}
use Rattle.std.specs.Prelude.{max, Option, None, Some, nat_lt}
use Rattle.transactors.specs.declared.faults.MoveFault.{MoveFault}
use Rattle.transactors.specs.declared.faults.MoveFault.TheVariants.{Refused}
use Rattle.transactors.specs.Checks.{move_fault}

-- what doesn't keep one of two floors doesn't keep the higher
pub higher_lacks : (have n f g : ℕ) → nat_lt have (n + max f g) ≡ (nat_lt have (n + f) || nat_lt have (n + g))
higher_lacks have n f g = grind arith

either_refuses : (first second both : Bool) (fault : MoveFault) → both ≡ (first || second) → (if first then Some Refused else None) ≡ Some fault → (if both then Some Refused else None) ≡ Some fault
either_refuses true second both fault join h = ap (λ t. if t then Some Refused else None) join ∙ h
either_refuses false second both fault join h = absurd (cc)

-- what is refused by the first floor is refused by both
pub first_refuses : (handled : Bool) (account : Option (List ℕ)) (first second both : List ℕ → Bool) (fault : MoveFault) → ((who : List ℕ) → both who ≡ (first who || second who))
    → move_fault handled account first ≡ Some fault → move_fault handled account both ≡ Some fault
first_refuses false account first second both fault join h = h
first_refuses true None first second both fault join h = h
first_refuses true (Some who) first second both fault join h = either_refuses (first who) (second who) (both who) fault (join who) h
