use Rattle.tree_reading.specs.Trees.{heading_words}
use Rattle.tree_reading.proofs.Headings.{heading_is_words}
use Rattle.tree_reading.proofs.trees.take_heading.Goals as goal

pub returns-in_err-words : goal.returns-in_err-words
returns-in_err-words c = λ n v rest lt e. absurd (c.in_err-words.ensures.found (heading_words n v) rest (heading_is_words n v lt) e)

pub returns-in-Some : goal.returns-in-Some
returns-in-Some c = λ n v rest lt e.
    let p = c.in_ok-words.ensures.found (heading_words n v) rest (heading_is_words n v lt) e in
    let same = c.in-Some.ensures n v lt p.0 in
    (cc same, p.1)

pub returns-in-None : goal.returns-in-None
returns-in-None c = λ n v rest lt e.
    let p = c.in_ok-words.ensures.found (heading_words n v) rest (heading_is_words n v lt) e in
    absurd (cc (c.in-None.ensures n v lt p.0))
