use Rattle.std.proofs.Common.{◌∙◌, sym, cond, Option, Some, ℕ}
use Rattle.network_config.proofs.Naming.{names_alike, place_same}
use Rattle.network_config.proofs.names.put_name.Goals as goal

pub returns : goal.returns
returns c = λ q.
    sym (place_same c.insert.new.self.entries q) ∙ c.in_ok-insert.ensures.updates.0 q
    ∙ (λ i. cond {A = Option ℕ} (names_alike c.args.chain q i) (Some c.args.at) (place_same c.args.places.now.entries q i))
