-- Texts that are pushed piece by piece: what proofs cite.
use Rattle.std.proofs.Common.{◌≡◌, ℕ, Result, Ok, Err, OnOk, List, ◌++◌, cond, append_assoc, ◌∙◌}
use Rattle.std.specs.Prelude.{is_ok}

-- the text where the last piece was pushed
pub when_pushed : {A E : Type 0} (r : Result A E) (new pushed whole other : List ℕ) → new ≡ cond (is_ok r) pushed other → pushed ≡ whole → OnOk r (new ≡ whole)
when_pushed (Ok a) new pushed whole other e same = e ∙ same
when_pushed (Err fault) new pushed whole other e same = tt

-- the text that another function pushed the rest of
pub when_written : {A E : Type 0} (r : Result A E) (new pushed whole : List ℕ) → OnOk r (new ≡ pushed) → pushed ≡ whole → OnOk r (new ≡ whole)
when_written (Ok a) new pushed whole e same = e ∙ same
when_written (Err fault) new pushed whole e same = tt

pub three_pieces : (t a b c : List ℕ) → ((t ++ a) ++ b) ++ c ≡ t ++ (a ++ (b ++ c))
three_pieces t a b c = simp append_assoc

pub five_pieces : (t a b c d e : List ℕ) → ((((t ++ a) ++ b) ++ c) ++ d) ++ e ≡ t ++ (a ++ (b ++ (c ++ (d ++ e))))
five_pieces t a b c d e = simp append_assoc
