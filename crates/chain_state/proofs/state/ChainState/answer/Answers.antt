use Rattle.std.proofs.Common.{◌≡◌, ℕ, [], ◌∷◌, ◌++◌, sym, ap, ◌∙◌}
use Rattle.std.specs.Prelude.{None, Some, is_some, remove, position}
use Rattle.std.specs.Option.{option_map_or}
use Rattle.exec_base.specs.declared.event.Event.{Event}
use Rattle.exec_base.specs.Host.{is_query, has_open_query, answered}
use Rattle.chain_state.specs.PartOf.{part_of}
use Rattle.chain_state.proofs.Queries.{any_at}
use Rattle.chain_state.proofs.state.ChainState.answer.Goals as goal

pub returns-in_default : goal.returns-in_default
unfolding has_open_query answered
returns-in_default c =
    let p = part_of c.args.self.now in
    let query = c.args.query in
    let test = is_query query c.args.from.now in
    let at : position test p.queries ≡ None = sym (c.place_of.ensures ∙ ap (position test) c.as_slice.ensures.value) ∙ c.in_default.is in
    let told = c.push_reserved.ensures.items ∙ ap (λ es. es ++ Event.Ignored query ∷ []) c.reserve.ensures.items in
    record {
      step = (
        sym (any_at test p.queries ∙ ap is_some at),
        (λ i. record p { pending_events = told i })
            ∙ sym (ap (λ o. option_map_or (λ (place : ℕ). record p { queries = remove p.queries place; pending_events = p.pending_events ++ Event.Answered query ∷ [] }) o (record p { pending_events = p.pending_events ++ Event.Ignored query ∷ [] })) at),
      );
    }

pub returns : goal.returns
unfolding has_open_query answered
returns c =
    let p = part_of c.args.self.now in
    let query = c.args.query in
    let test = is_query query c.args.from.now in
    let at : position test p.queries ≡ Some c.in-Some.place = sym (c.place_of.ensures ∙ ap (position test) c.as_slice.ensures.value) ∙ c.in-Some.is in
    let told = c.push_reserved-2.ensures.items ∙ ap (λ es. es ++ Event.Answered query ∷ []) c.reserve.ensures.items in
    record {
      step = (
        sym (any_at test p.queries ∙ ap is_some at),
        (λ i. record p { queries = c.remove.ensures.items i; pending_events = told i })
            ∙ sym (ap (λ o. option_map_or (λ (place : ℕ). record p { queries = remove p.queries place; pending_events = p.pending_events ++ Event.Answered query ∷ [] }) o (record p { pending_events = p.pending_events ++ Event.Ignored query ∷ [] })) at),
      );
    }
