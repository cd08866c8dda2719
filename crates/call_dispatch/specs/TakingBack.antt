-- One call of a batch moved back: what that leaves, and when nothing but running out of memory can refuse it. For the code's own contracts.
use Rattle.std.specs.Prelude.{◌≡◌, ℕ, List, None, ⊤}
use Rattle.call_dispatch.specs.declared.call.Call.TheVariants.{Remark, Transfer, Fail, Batch}
use Rattle.call_dispatch.specs.Spelling.{Item}
use Rattle.call_dispatch.specs.Shifts.{RowAmounts, Floors, shift_fault, shifted, IsNumberAt}

-- what an item moved, moved back
abbrev pub taken_back : RowAmounts → List ℕ → Item → RowAmounts
taken_back m who (Remark bytes) = m
taken_back m who (Transfer row dest n) = shifted m row dest who n
taken_back m who (Fail code) = m
taken_back m who (Batch none) = m

-- only running out of memory can refuse that
abbrev pub CanTakeBack : RowAmounts → Floors → List ℕ → List ℕ → Item → Type 0
CanTakeBack m floors rows who (Remark bytes) = ⊤
CanTakeBack m floors rows who (Transfer row dest n) =
    shift_fault m floors rows row dest who n ≡ None
CanTakeBack m floors rows who (Fail code) = ⊤
CanTakeBack m floors rows who (Batch none) = ⊤

-- what the giver had is an amount of 128 bits
abbrev pub HadNumber : RowAmounts → List ℕ → Item → Type 0
HadNumber m who (Remark bytes) = ⊤
HadNumber m who (Transfer row dest n) = IsNumberAt m (who, row)
HadNumber m who (Fail code) = ⊤
HadNumber m who (Batch none) = ⊤
