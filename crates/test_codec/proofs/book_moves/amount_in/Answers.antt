use Rattle.std.proofs.Common.{ℕ, sym, ap, ◌∙◌}
use Rattle.std.specs.Prelude.{Option, unwrap_or}
use Rattle.test_codec.proofs.Lemmas.{amount_is}
use Rattle.test_codec.proofs.book_moves.amount_in.Goals as goal

pub returns : goal.returns
returns c = c.unwrap_or.ensures ∙ ap (λ (o : Option ℕ). unwrap_or o 0) (c.copied.ensures ∙ c.get.ensures.value) ∙ sym (amount_is _ (c.args.who.now, c.args.row))
