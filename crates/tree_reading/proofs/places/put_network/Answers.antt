use Rattle.std.proofs.Common.{◌≡◌, ◌∙◌, ℕ, Bool, true, List, [], ◌∷◌, ◌++◌, Result, Ok, Err, lit<}
use Rattle.std.specs.Prelude.{IfOk}
use Rattle.locations.specs.declared.grammar.NetworkId.{NetworkId}
use Rattle.locations.specs.declared.grammar.Junction.{Junction}
use Rattle.locations.specs.declared.grammar.Junction.TheVariants.{GlobalConsensus}
use Rattle.location_wire.specs.Spelling.{network, FitsNetwork, junction}
use Rattle.message_text.specs.Words.{network_text}
use Rattle.tree_reading.specs.Puts.{AreBytes, PutsWords}
use Rattle.tree_reading.proofs.Paths.{one_fits, one_bytes}
use Rattle.tree_reading.proofs.places.put_network.Goals as goal

spelled : (net : NetworkId) → AreBytes (network net) → AreBytes (junction (GlobalConsensus net))
unfolding junction
spelled net bytes = (lit< tt, bytes)

named : {E : Type 0} (result : Result Bool E) (j : Junction) (words old new : List ℕ) → ((net : NetworkId) → FitsNetwork net → AreBytes (network net) → words ≡ network_text net → j ≡ GlobalConsensus net)
    → IfOk result (λ done. (net : NetworkId) → j ≡ GlobalConsensus net → (done ≡ true) × (new ≡ old ++ network net)) → PutsWords FitsNetwork network_text network words result old new
named (Ok done) j words old new is h = λ net fits bytes e. h net (is net fits bytes e)
named (Err fault) j words old new is h = tt

pub returns-in_default : goal.returns-in_default
returns-in_default c = λ net fits bytes e. absurd (rw c.in_default.is at (c.in_ok-place.ensures (GlobalConsensus net ∷ []) (one_fits (GlobalConsensus net) fits) (one_bytes (GlobalConsensus net) (spelled net bytes)) e))

pub returns-in_default-only_one : goal.returns-in_default-only_one
returns-in_default-only_one c = λ net fits bytes e.
    let led = rw c.in-Some.is at (c.in_ok-place.ensures (GlobalConsensus net ∷ []) (one_fits (GlobalConsensus net) fits) (one_bytes (GlobalConsensus net) (spelled net bytes)) e) in
    absurd (rw c.in_default-only_one.is at (c.only_one.ensures (GlobalConsensus net) (c.items.ensures.value ∙ led)))

pub returns : goal.returns
returns c =
    named c.put_network_of.result c.in-Some-only_one.junction.now c.args.text.now c.args.out.now c.put_network_of.new.out
    (λ net fits bytes e.
    let led = rw c.in-Some.is at (c.in_ok-place.ensures (GlobalConsensus net ∷ []) (one_fits (GlobalConsensus net) fits) (one_bytes (GlobalConsensus net) (spelled net bytes)) e) in
    rw c.in-Some-only_one.is at (c.only_one.ensures (GlobalConsensus net) (c.items.ensures.value ∙ led)))
    c.put_network_of.ensures
