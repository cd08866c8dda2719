use Rattle.std.proofs.Common.{◌≡◌, ◌∙◌, ℕ, List, sym, ap, subst}
use Rattle.std.proofs.lemmas.Result.{err_from_is_err_and}
use Rattle.operands.specs.declared.version.Version.{Version}
use Rattle.xcm_format.specs.Messages.{message}
use Rattle.message_text.specs.Messages.{program_text}
use Rattle.tree_reading.specs.Programs.{HasTree}
use Rattle.tree_reading.proofs.trees.bytes_of_tree.Goals as goal

parts : (x y : ℕ × Version) → x ≡ y → (x.0 ≡ y.0) × (x.1 ≡ y.1)
parts x y e = (ap (λ (p : ℕ × Version). p.0) e, ap (λ (p : ℕ × Version). p.1) e)

pub returns-in_err-number : goal.returns-in_err-number
returns-in_err-number c = λ n v program lt tree small e. absurd (c.in_err-number.ensures n v (program_text 1 program) lt e)

pub returns-in_err-bytes : goal.returns-in_err-bytes
returns-in_err-bytes c = λ n v program lt tree small e.
    let h = c.in_ok-number.ensures n v (program_text 1 program) lt e in
    let same = parts (c.in_ok-number.number, c.in_ok-number.version) (n, v) h.0 in
    let stop = c.in_err-bytes.ensures program (subst (λ (w : Version). HasTree w program) (sym same.1) tree) small h.1 in
    let p = err_from_is_err_and c.from_residual-in_err-bytes.result c.from_residual-in_err-bytes.ensures.1 in
    rw p.1 (cc (p.2, stop))

pub returns : goal.returns
returns c = λ n v program lt tree small e.
    let h = c.in_ok-number.ensures n v (program_text 1 program) lt e in
    let same = parts (c.in_ok-number.number, c.in_ok-number.version) (n, v) h.0 in
    let made = c.in_ok-bytes.ensures program (subst (λ (w : Version). HasTree w program) (sym same.1) tree) small h.1 in
    record { number = same.0; bytes = made ∙ ap (λ (w : Version). message w program) same.1 }
