use Rattle.std.proofs.lemmas.List.Elements.{All-from_recursion}
use Rattle.trust_tables.specs.Accounts.{IsChain}
use Rattle.network_spec.specs.declared.chain.ChainSpec.{ChainSpec}
use Rattle.network_config.proofs.Reading.{document_gives}
use Rattle.network_config.proofs.laws.law_of_documents.Goals as goal

pub returns : goal.returns
returns c = record {
  valid = λ bytes spec read. ((document_gives bytes).given spec read).valid;
  named = λ bytes spec read. All-from_recursion (λ (d : ChainSpec). IsChain d.chain) spec.chains ((document_gives bytes).given spec read).named;
}
