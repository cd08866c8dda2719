use Rattle.std.proofs.Common.{◌≡◌, ◌∙◌, ◌+◌, ◌++◌, ◌∷◌, List, ℕ, take, drop, length, Some, sym, ap, length-append, arith}
use Rattle.std.specs.Prelude.{◌==◌, position}
use Rattle.tree_reading.proofs.RowLaws.{feed_before, feed_cuts, cut_parts, slice_rest}
use Rattle.tree_reading.proofs.rows.first_row.Goals as goal

pub returns-in_err-at-clause-found : goal.returns-in_err-at-clause-found
returns-in_err-at-clause-found c = λ row rest h e.
    let at = feed_before c.args.text.now row rest h e in
    absurd (cc (at, c.feed_at.ensures, c.in_err-at.was))

pub returns-clause-cut : goal.returns-clause-cut
returns-clause-cut c =
    let is : position (λ b. b == 10) c.args.text.now ≡ Some c.in_ok-at.at = sym c.feed_at.ensures ∙ c.in_ok-at.was in
    feed_cuts c.args.text.now c.in_ok-at.at is ∙ ap (λ t. take c.in_ok-at.at c.args.text.now ++ 10 ∷ t) (sym (slice_rest (c.in_ok-at.at + 1) c.args.text.now))

pub returns-clause-found : goal.returns-clause-found
returns-clause-found c = λ row rest h e.
    let is : position (λ b. b == 10) c.args.text.now ≡ Some c.in_ok-at.at = sym c.feed_at.ensures ∙ c.in_ok-at.was in
    let p = cut_parts c.args.text.now row rest c.in_ok-at.at h e is in
    (p.0, slice_rest (c.in_ok-at.at + 1) c.args.text.now ∙ p.1)
