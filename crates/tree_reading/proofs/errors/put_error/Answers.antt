use Rattle.std.proofs.Common.{◌≡◌, ◌∙◌, ℕ, ◌<◌, ◌^◌, List, [], ◌∷◌, ◌++◌, refl, sym, ap, subst, append_assoc, ◌⊎◌, inl, inr}
use Rattle.std.specs.Prelude.{codes, decimal}
use Rattle.std.proofs.lemmas.List.{append-nil, append_cancel_left}
use Rattle.scale_codec.specs.Spelling.{fixed}
use Rattle.operands.specs.Texts.{error_text}
use Rattle.operands.specs.declared.error.XcmError.{XcmError}
use Rattle.operands.specs.declared.error.XcmError.TheVariants.{Trap}
use Rattle.xcm_format.specs.Parts.{xcm_error, FitsError}
use Rattle.tree_reading.specs.Puts.{AreBytes}
use Rattle.tree_reading.specs.Errors.{FitsPlainError, trap_code_text}
use Rattle.tree_reading.proofs.Behind.{unlike, IsEnd, put_behind}
use Rattle.tree_reading.proofs.ErrorPlaces.{no_trap}
use Rattle.tree_reading.proofs.errors.put_error.Goals as goal

-- a trap, or another error
abbrev Either : XcmError → Type 0
Either x = ((code : ℕ) × (x ≡ Trap code)) ⊎ FitsPlainError x

either : (x : XcmError) → Either x
either (Trap code) = inl (code, refl)
either _ = inr tt

trap_is : (code : ℕ) (text inner : List ℕ) → text ≡ codes "Trap(" ++ inner → text ≡ error_text (Trap code) → inner ≡ trap_code_text code
trap_is code text inner is e = append_cancel_left (codes "Trap(") inner (trap_code_text code) (sym is ∙ e ∙ append_assoc (codes "Trap(") (decimal code) (codes ")"))

with_trap : (text inner old : List ℕ) → text ≡ codes "Trap(" ++ inner → (x : XcmError) → FitsError x → AreBytes (xcm_error x) → text ≡ error_text x → Either x → IsEnd (λ n. n < 2 ^ 64) trap_code_text (λ n. 21 ∷ fixed 8 n) xcm_error x inner old old
with_trap text inner old is x fits bytes e (inl (code, same)) =
    let f = subst FitsError same fits in
    let b = subst (λ (y : XcmError). AreBytes (xcm_error y)) same bytes in
    record { value = code; fits = f; bytes = b; words = trap_is code text inner is (e ∙ ap error_text same); front = []; put = sym (append-nil old); spelled = ap xcm_error same }
with_trap text inner old is x fits bytes e (inr plain) = absurd (unlike (codes "Trap(" ++ inner) (error_text x) 4 (sym is ∙ e) (no_trap x plain))

of_trap : (text inner old : List ℕ) → text ≡ codes "Trap(" ++ inner → (x : XcmError) → FitsError x → AreBytes (xcm_error x) → text ≡ error_text x → IsEnd (λ n. n < 2 ^ 64) trap_code_text (λ n. 21 ∷ fixed 8 n) xcm_error x inner old old
of_trap text inner old is x fits bytes e = with_trap text inner old is x fits bytes e (either x)

with_other : (text old : List ℕ) → ((rest : List ℕ) → text ≡ codes "Trap(" ++ rest → ⊥) → (x : XcmError) → AreBytes (xcm_error x) → text ≡ error_text x → Either x → IsEnd FitsPlainError error_text xcm_error xcm_error x text old old
with_other text old none x bytes e (inl (code, same)) = absurd (none (trap_code_text code) (e ∙ ap error_text same ∙ append_assoc (codes "Trap(") (decimal code) (codes ")")))
with_other text old none x bytes e (inr plain) = record { value = x; fits = plain; bytes = bytes; words = e; front = []; put = sym (append-nil old); spelled = refl }

of_other : (text old : List ℕ) → ((rest : List ℕ) → text ≡ codes "Trap(" ++ rest → ⊥) → (x : XcmError) → FitsError x → AreBytes (xcm_error x) → text ≡ error_text x → IsEnd FitsPlainError error_text xcm_error xcm_error x text old old
of_other text old none x fits bytes e = with_other text old none x bytes e (either x)

pub returns-in-Some : goal.returns-in-Some
returns-in-Some c =
    put_behind FitsError error_text xcm_error (λ n. n < 2 ^ 64) trap_code_text (λ n. 21 ∷ fixed 8 n) c.args.text.now c.in-Some.code.now c.put_trap.result c.args.out.now c.args.out.now c.put_trap.new.out
    (of_trap c.args.text.now c.in-Some.code.now c.args.out.now c.in-Some.ensures)
    c.put_trap.ensures

pub returns-in-None : goal.returns-in-None
returns-in-None c =
    put_behind FitsError error_text xcm_error FitsPlainError error_text xcm_error c.args.text.now c.args.text.now c.put_named.result c.args.out.now c.args.out.now c.put_named.new.out
    (of_other c.args.text.now c.args.out.now c.in-None.ensures)
    c.put_named.ensures
