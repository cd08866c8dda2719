-- Reading a call from left to right: a list of forms, in the order of the index.
use Rattle.std.specs.Prelude.{ℕ, ◌^◌, List, [], ◌∷◌, ◌++◌, Option, Some, None, Result, Ok, Err, nat_le, nat_lt}
use Rattle.scale_codec.specs.Reading.{Reader, u8_at, below_at, take_at, made1, made3, guarded_at, indexed_at, counted_at, measured_at}
use Rattle.call_dispatch.specs.declared.call.Call.{Call}
use Rattle.call_dispatch.specs.declared.call.Call.TheVariants.{Remark, Transfer, Fail, Batch}
use Rattle.call_dispatch.specs.declared.faults.CallFault.{CallFault}
use Rattle.call_dispatch.specs.declared.faults.CallFault.TheVariants.{NotACall}
use Rattle.call_dispatch.specs.Spelling.{Item, AnyCall}

-- a number of at most so many
abbrev pub at_most_at : ℕ → Reader ℕ
at_most_at most = guarded_at (λ n. nat_le n most) (below_at (2 ^ 32))

-- at most 1,024 bytes
unfoldable pub remark_at : Reader (List ℕ)
remark_at = measured_at (at_most_at 1024)

-- not 0
abbrev pub positive_at : Reader ℕ
positive_at = guarded_at (λ n. nat_lt 0 n) (below_at (2 ^ 128))

-- the forms of a call that is no batch
abbrev pub item_forms : {B : Type 0} → List (Reader (Call B))
item_forms =
    made1 remark_at Remark
    ∷ made3 (below_at (2 ^ 32)) (take_at 32) positive_at Transfer
    ∷ made1 u8_at Fail
    ∷ []

unfoldable pub item_at : Reader Item
item_at = indexed_at item_forms

-- at most 8
unfoldable pub batch_at : Reader (List Item)
batch_at = counted_at (at_most_at 8) item_at

abbrev pub call_forms : List (Reader AnyCall)
call_forms = item_forms ++ made1 batch_at Batch ∷ []

unfoldable pub call_at : Reader AnyCall
call_at = indexed_at call_forms

-- a call with nothing after it
abbrev pub alone : Option (AnyCall × List ℕ) → Result AnyCall CallFault
alone None = Err NotACall
alone (Some (call, [])) = Ok call
alone (Some (call, byte ∷ bytes)) = Err NotACall

-- the call that the bytes are
unfoldable pub call_of : List ℕ → Result AnyCall CallFault
call_of bytes = alone (call_at bytes)
