use Rattle.std.proofs.Common.{◌≡◌, ◌∙◌, sym, refl, List, ℕ, ◌∷◌, []}
use Rattle.std.specs.Prelude.{codes}
use Rattle.operands.specs.declared.origin.OriginKind.{OriginKind}
use Rattle.operands.specs.declared.origin.OriginKind.TheVariants.{Native, SovereignAccount, Superuser, Xcm}
use Rattle.xcm_format.specs.Parts.{origin_kind}
use Rattle.message_text.specs.Words.{origin_kind_text}
use Rattle.tree_reading.proofs.numbers.origin_kind_index.Goals as goal

native : (k : OriginKind) → codes "Native" ≡ origin_kind_text k → origin_kind k ≡ 0 ∷ []
unfolding origin_kind_text
native Native e = refl
native _ e = absurd (cc e)

sovereign : (k : OriginKind) → codes "SovereignAccount" ≡ origin_kind_text k → origin_kind k ≡ 1 ∷ []
unfolding origin_kind_text
sovereign SovereignAccount e = refl
sovereign _ e = absurd (cc e)

superuser : (k : OriginKind) → codes "Superuser" ≡ origin_kind_text k → origin_kind k ≡ 2 ∷ []
unfolding origin_kind_text
superuser Superuser e = refl
superuser _ e = absurd (cc e)

xcm : (k : OriginKind) → codes "Xcm" ≡ origin_kind_text k → origin_kind k ≡ 3 ∷ []
unfolding origin_kind_text
xcm Xcm e = refl
xcm _ e = absurd (cc e)

other : (text : List ℕ) (k : OriginKind) → (text ≡ codes "Native" → ⊥) → (text ≡ codes "SovereignAccount" → ⊥) → (text ≡ codes "Superuser" → ⊥) → (text ≡ codes "Xcm" → ⊥) → text ≡ origin_kind_text k → ⊥
unfolding origin_kind_text
other text Native a b c d e = a e
other text SovereignAccount a b c d e = b e
other text Superuser a b c d e = c e
other text Xcm a b c d e = d e

pub returns-in-Native : goal.returns-in-Native
returns-in-Native c = λ k e. native k (sym c.in-Native.is ∙ e)

pub returns-in-SovereignAccount : goal.returns-in-SovereignAccount
returns-in-SovereignAccount c = λ k e. sovereign k (sym c.in-SovereignAccount.is ∙ e)

pub returns-in-Superuser : goal.returns-in-Superuser
returns-in-Superuser c = λ k e. superuser k (sym c.in-Superuser.is ∙ e)

pub returns-in-Xcm : goal.returns-in-Xcm
returns-in-Xcm c = λ k e. xcm k (sym c.in-Xcm.is ∙ e)

pub returns-in_default : goal.returns-in_default
returns-in_default c = λ k e. other c.args.text.now k c.in_default.not-Native c.in_default.not-SovereignAccount c.in_default.not-Superuser c.in_default.not-Xcm e
