use Rattle.std.proofs.Common.{◌∙◌, ap, sym, length, Some}
use Rattle.std.proofs.lemmas.Option.{slice_get-get_or}
use Rattle.std.specs.Prelude.{nat_lt, slice_get}
use Rattle.chain_net.specs.Nets.{told_at, world_of}
use Rattle.chain_net.proofs.Members.{told_none, told_some}
use Rattle.chain_net.proofs.net.Net.trace.Goals as goal

pub returns-in-None : goal.returns-in-None
returns-in-None c =
    told_none c.args.self.now.rules.items c.args.self.now.chains.items c.in-Some.place c.args.self.now.ruled (sym (c.in-None.ensures.lookup.0 ∙ ap (λ ss. nat_lt c.in-Some.place (length ss)) c.deref.ensures.value))
    ∙ ap (λ acted. told_at acted (world_of c.args.self.now)) (sym c.in-Some.is)

pub returns-in-Some-get : goal.returns-in-Some-get
returns-in-Some-get c =
    c.trace.ensures.events
    ∙ told_some c.args.self.now.rules.items c.args.self.now.chains.items c.in-Some.place c.in-Some-get.chain.now c.args.self.now.ruled
    (ap (λ ss. slice_get ss c.in-Some.place) (sym c.deref.ensures.value) ∙ slice_get-get_or c.deref.result.now c.in-Some.place c.in-Some-get.chain.now c.in-Some-get.ensures.lookup.3.0 ∙ ap Some (sym c.in-Some-get.ensures.lookup.1))
    ∙ ap (λ acted. told_at acted (world_of c.args.self.now)) (sym c.in-Some.is)
