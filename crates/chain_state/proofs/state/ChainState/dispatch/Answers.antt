use Rattle.std.proofs.Common.{◌≡◌, ℕ, true, Ok, [], ◌∷◌, ◌++◌, ap, ◌∙◌}
use Rattle.std.proofs.lemmas.Result.{err_from_is_err_and}
use Rattle.exec_base.specs.declared.event.Event.{Event}
use Rattle.exec_base.specs.Part.{ChainPart}
use Rattle.chain_state.specs.PartOf.{part_of}
use Rattle.chain_state.proofs.Called.{by_served, stopped_at, before_all, on_the_way, all_done}
use Rattle.chain_state.proofs.state.ChainState.dispatch.Goals as goal

-- src/dispatching.rt:89:9
pub returns-in_err-reserve : goal.returns-in_err-reserve
returns-in_err-reserve c =
    let p = part_of c.args.self.now in
    let served = c.if-not-self.false in
    let serves : p.calls ≡ true = cc in
    let e = err_from_is_err_and c.from_residual.result c.from_residual.ensures.1 in
    record {
      step = by_served p.calls p c.args.who.now c.args.call.now _ _ serves
          (stopped_at p c.args.who.now c.args.call.now _ _ e.1 (before_all p c.reserve.new.self.items c.args.who.now c.args.call.now c.reserve.ensures.items));
    }

-- src/dispatching.rt:90:19
pub returns-in_err-end : goal.returns-in_err-end
returns-in_err-end c =
    let p = part_of c.args.self.now in
    let served = c.if-not-self.false in
    let serves : p.calls ≡ true = cc in
    let beside = ap (λ (x : ChainPart × ℕ). x.0) c.in_err-end.ensures.beside.other in
    let e = err_from_is_err_and c.from_residual-in_err-end.result c.from_residual-in_err-end.ensures.1 in
    record {
      step = by_served p.calls p c.args.who.now c.args.call.now _ _ serves
          (stopped_at p c.args.who.now c.args.call.now _ _ e.1 (on_the_way p c.reserve.new.self.items (part_of c.dispatch.new.m) c.args.who.now c.args.call.now c.reserve.ensures.items beside c.in_err-end.ensures.err));
    }

-- src/dispatching.rt:78:5
pub returns : goal.returns
returns c =
    let p = part_of c.args.self.now in
    let q = part_of c.dispatch.new.m in
    let served = c.if-not-self.false in
    let serves : p.calls ≡ true = cc in
    let beside = ap (λ (x : ChainPart × ℕ). x.0) c.in_ok-end.ensures.beside.other in
    let told = c.push_reserved.ensures.items ∙ ap (λ (e : Event). q.pending_events ++ e ∷ []) c.line_of.ensures in
    record {
      step = by_served p.calls p c.args.who.now c.args.call.now (Ok c.in_ok-end.end) _ serves
          (all_done p c.reserve.new.self.items q c.push_reserved.new.self.items c.args.who.now c.args.call.now c.in_ok-end.end c.reserve.ensures.items beside c.in_ok-end.ensures.ok told);
    }
