-- The one spelling of a call, and which calls have one. The set of calls is this project's own, in the SCALE codec: an enum is its
-- index and then its fields in order.
--     Item      a call that is no batch
--     AnyCall      any call: a batch holds items
--     item i, call c      what is written for it
--     FitsItem i, FitsCall c      it has a spelling. Every value of the types does
use Rattle.std.specs.Prelude.{◌≡◌, ℕ, ◌<◌, ◌≤◌, ◌^◌, List, [], ◌∷◌, ◌++◌, length}
use Rattle.std.specs.List.{AllByRecursion}
use Rattle.std.specs.declared.convert.Infallible.{Infallible}
use Rattle.scale_codec.specs.Spelling.{byte, compact, measured, counted}
use Rattle.call_dispatch.specs.declared.call.Call.{Call}
use Rattle.call_dispatch.specs.declared.call.Call.TheVariants.{Remark, Transfer, Fail, Batch}

-- a call that is no batch
abbrev pub Item : Type 0
Item = Call Infallible

-- any call: a batch holds items
abbrev pub AnyCall : Type 0
AnyCall = Call (List Item)

-- an amount of 0 has no spelling
abbrev pub FitsPositive : ℕ → Type 0
FitsPositive amount = (amount < 2 ^ 128) × (0 < amount)

-- by what is written for a batch
abbrev pub form : {B : Type 0} → (B → List ℕ) → Call B → List ℕ
form batch (Remark bytes) = 0 ∷ measured compact bytes
form batch (Transfer row dest amount) = 1 ∷ (compact row ++ dest ++ compact amount)
form batch (Fail code) = 2 ∷ byte code
form batch (Batch items) = 3 ∷ batch items

abbrev pub FitsForm : {B : Type 0} → (B → Type 0) → Call B → Type 0
FitsForm FitsBatch (Remark bytes) = length bytes ≤ 1024
FitsForm FitsBatch (Transfer row dest amount) =
    (row < 2 ^ 32) × (length dest ≡ 32) × FitsPositive amount
FitsForm FitsBatch (Fail code) = code < 2 ^ 8
FitsForm FitsBatch (Batch items) = FitsBatch items

-- there is no batch in an item
abbrev pub item : Item → List ℕ
item = form (λ none. [])

abbrev pub FitsItem : Item → Type 0
FitsItem = FitsForm (λ none. ⊥)

-- at most 8 items, after their number
abbrev pub FitsItems : List Item → Type 0
FitsItems items = (length items ≤ 8) × AllByRecursion FitsItem items

abbrev pub call : AnyCall → List ℕ
call = form (counted compact item)

abbrev pub FitsCall : AnyCall → Type 0
FitsCall = FitsForm FitsItems
