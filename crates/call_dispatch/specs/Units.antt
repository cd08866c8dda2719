-- How many unit weights a call takes. This project's own rule.
use Rattle.std.specs.Prelude.{ℕ, ◌+◌, length}
use Rattle.call_dispatch.specs.declared.call.Call.TheVariants.{Remark, Transfer, Fail, Batch}
use Rattle.call_dispatch.specs.Spelling.{AnyCall}

abbrev pub units_of : AnyCall → ℕ
units_of (Remark bytes) = 1
units_of (Transfer row dest amount) = 1
units_of (Fail code) = 1
units_of (Batch items) = 1 + length items
