-- What is read of a network, by what its chains and document are.
use Rattle.std.proofs.Common.{◌≡◌, ◌∙◌, ◌++◌, ℕ, List, [], ◌∷◌, map, Some, None, refl, sym, ap}
use Rattle.std.specs.Prelude.{flat_map}
use Rattle.std.specs.Option.{option_map}
use Rattle.law_coherence.specs.Causes.{first_cause}
use Rattle.network_spec.specs.declared.network.NetworkSpec.{NetworkSpec}
use Rattle.exec_base.specs.Part.{ChainPart}
use Rattle.network_steps.specs.Worlds.{World, parts_of}
use Rattle.network_steps.specs.Steps.{Link}
use Rattle.network_steps.specs.Genesis.{entries_of}
use Rattle.network_coherence.specs.declared.faults.Incoherent.{Incoherent}
use Rattle.network_coherence.specs.declared.faults.IncoherentCause.{IncoherentCause}
use Rattle.network_coherence.specs.declared.faults.IncoherentCause.TheVariants.{PathTwice, IdNotNormal, PartnerUnlisted, ReserveUnlisted, InstanceTwice, NotBacked, CheckingShort}
use Rattle.network_coherence.specs.Answers.{cause_of, incoherent_of}
use Rattle.step_text.specs.Lines.{opening_line}
use Rattle.step_text.specs.Blocks.{balances_of, chain_traps_text, link_text}
use Rattle.report_text.specs.Block as supply
use Rattle.report_blocks.specs.Reads.{incoherent_cause, told_of, coherence_line, balances_block, traps_block, queues_block, world_supply_block}

named_cause : (c : IncoherentCause) → incoherent_cause (cause_of c) ≡ c
named_cause PathTwice = refl
named_cause IdNotNormal = refl
named_cause PartnerUnlisted = refl
named_cause ReserveUnlisted = refl
named_cause InstanceTwice = refl
named_cause NotBacked = refl
named_cause CheckingShort = refl

told : (x : Incoherent) → told_of (incoherent_of x) ≡ x
told x = ap (λ (c : IncoherentCause). record { cause = c; first = x.first; second = x.second }) (named_cause x.cause)

pub line_coherent : (spec : NetworkSpec) → first_cause (entries_of spec) ≡ None → opening_line None ≡ coherence_line spec
unfolding coherence_line
line_coherent spec e = sym (ap (λ c. opening_line (option_map told_of c)) e)

pub line_found : (spec : NetworkSpec) (x : Incoherent) → first_cause (entries_of spec) ≡ Some (incoherent_of x) → opening_line (Some x) ≡ coherence_line spec
unfolding coherence_line
line_found spec x e = sym (ap (λ c. opening_line (option_map told_of c)) e ∙ ap (λ (y : Incoherent). opening_line (Some y)) (told x))

flat_map_map : {A B : Type 0} (f : B → List ℕ) (g : A → B) (xs : List A) → flat_map (λ x. f (g x)) xs ≡ flat_map f (map g xs)
flat_map_map f g [] = refl
flat_map_map f g (x ∷ xs) = ap (λ t. f (g x) ++ t) (flat_map_map f g xs)

module _ {A : Type 0} (part : A → ChainPart) (states : List A) (w : World) (same : map part states ≡ parts_of w) where
  pub balances_are : flat_map (λ x. balances_of (part x)) states ≡ balances_block w
  unfolding balances_block
  balances_are = flat_map_map balances_of part states ∙ ap (flat_map balances_of) same

  pub traps_are : flat_map (λ x. chain_traps_text (part x)) states ≡ traps_block w
  unfolding traps_block
  traps_are = flat_map_map chain_traps_text part states ∙ ap (flat_map chain_traps_text) same

pub supply_is : (parts : List ChainPart) (w : World) → parts ≡ parts_of w → supply.supply_block parts ≡ world_supply_block w
unfolding world_supply_block
supply_is parts w same = ap supply.supply_block same

pub queues_are : {A : Type 0} (link : A → Link) (channels : List A) (parts : List ChainPart) (w : World) → parts ≡ parts_of w → flat_map (λ x. link_text parts (link x)) channels ≡ queues_block (map link channels) w
unfolding queues_block
queues_are link channels parts w same = flat_map_map (link_text parts) link channels ∙ ap (λ ps. flat_map (link_text ps) (map link channels)) same
