-- For proofs alone: a reader may skip this file. The test of two names says that they are equal.
use Rattle.std.specs.Prelude.{◌≡◌, ◌↔◌, true, false, IsTrue, refl}
use Rattle.std.proofs.Common.{ap, subst, eq-eqb}
use Rattle.std.proofs.lemmas.Bool.{eqb-true}
use Rattle.chain_ids.specs.declared.chain.ChainId.{ChainId}
use Rattle.chain_ids.specs.declared.chain.ChainId.TheVariants.{Relay, Para}
use Rattle.chain_ids.specs.Chains.{same_chain}

pub same_chain_told : (a b : ChainId) → same_chain a b ≡ true → a ≡ b
same_chain_told Relay Relay h = refl
same_chain_told Relay (Para n) h = absurd (cc)
same_chain_told (Para m) Relay h = absurd (cc)
same_chain_told (Para m) (Para n) h = ap Para (eqb-true m n h)

pub same_chain_itself : (a : ChainId) → same_chain a a ≡ true
same_chain_itself Relay = refl
same_chain_itself (Para n) = eq-eqb n n refl

pub same_chain_says : (a b : ChainId) → IsTrue (same_chain a b) ↔ (a ≡ b)
same_chain_says a b = (same_chain_told a b, λ same. subst (λ c. same_chain a c ≡ true) same (same_chain_itself a))

pub different_chains : (a b : ChainId) → (a ≡ b → ⊥) → same_chain a b ≡ false
different_chains a b apart =
    elim (same_chain a b) as (λ x. same_chain a b ≡ x → x ≡ false) [ true ↦ λ t. absurd (apart (same_chain_told a b t)) | false ↦ λ t. refl ] refl
