use Rattle.std.proofs.Common.{◌∙◌, sym, arith}
use Rattle.document_entries.proofs.Decimals.{unread}
use Rattle.document_entries.proofs.numbers.decimal_of.Goals as goal

pub returns-in_default-clause-form : goal.returns-in_default-clause-form
returns-in_default-clause-form c = unread c.args.place c.args.limit _ _ _ _ c.in_ok-digits.ensures (sym c.is_decimal.ensures ∙ c.if-not-is_decimal.false) c.parse.ensures.value.0 c.in_default.is (omega (arith, c.ranges.limit.fits))
