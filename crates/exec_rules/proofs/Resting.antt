-- An execution from a chain at rest leaves it at rest.
use Rattle.std.proofs.Common.{◌≡◌, Bool, true, false, length, Option, Some, None, refl, sym, ◌∙◌, subst}
use Rattle.std.specs.Prelude.{nat_eq, if◌then◌else◌}
use Rattle.amounts.specs.Amounts.{rows}
use Rattle.locations.specs.declared.relative.Location.{Location}
use Rattle.operands.specs.declared.error.XcmError.{XcmError}
use Rattle.asset_bundles.specs.Bundles.{Bundle}
use Rattle.asset_bundles.specs.Books.{AreListed}
use Rattle.trust_tables.specs.Trust.{listing}
use Rattle.weight_trader.proofs.Lemmas.ListedLaws.{closed_listed}
use Rattle.xcm_program.specs.declared.instruction.Instruction.{Instruction}
use Rattle.exec_base.specs.declared.event.Event.{Event}
use Rattle.exec_base.specs.Part.{ChainPart}
use Rattle.exec_base.specs.Host.{told, settled, trapped}
use Rattle.exec_rules.specs.Machine.{Machine}
use Rattle.exec_rules.specs.Run.{left_after}
use Rattle.exec_rules.specs.Outcome.{owner_of, end_event, end_told, rest_trapped, refund_surplus, refunded_last, finished}
use Rattle.exec_rules.specs.Instructions.{refusal_of, xcm}
use Rattle.exec_rules.specs.Readiness.{IsAtRest, IsSteady}
use Rattle.exec_rules.proofs.Lemmas.ListingLaws.{trapped_listed, closed_within}

-- ---- what is trapped is listed
trapped_rests : (p : ChainPart) (goods : Bundle) (origin : Location) → IsAtRest p → AreListed (listing p.rows) goods → IsAtRest (trapped p goods origin)
unfolding trapped
trapped_rests p goods origin rest all = record {
  order = record {
    traps = trapped_listed (listing p.rows) p goods origin rest.order.traps all;
    rates = rest.order.rates;
    paid = rest.order.paid;
    pools = rest.order.pools;
    unparked = rest.order.unparked;
  };
  slot = rest.slot;
}

-- ---- the line of the end, and settlement
told_rests : (p : ChainPart) (e : Event) → IsAtRest p → IsAtRest (told p e)
unfolding told
told_rests p e rest = record { order = record { traps = rest.order.traps; rates = rest.order.rates; paid = rest.order.paid; pools = rest.order.pools; unparked = rest.order.unparked }; slot = rest.slot }

told_rows : (p : ChainPart) (e : Event) → (told p e).rows ≡ p.rows
unfolding told
told_rows p e = refl

settled_rests : (p : ChainPart) → IsAtRest p → IsAtRest (settled p)
unfolding settled
settled_rests p rest = record {
  order = record { traps = rest.order.traps; rates = closed_listed p.lines (listing p.rows) rest.order.rates; paid = closed_within p.lines; pools = rest.order.pools; unparked = rest.order.unparked };
  slot = rest.slot;
}

settled_rows : (p : ChainPart) → (settled p).rows ≡ p.rows
unfolding settled
settled_rows p = refl

-- ---- the end
refund_steady : (m : Machine) (o : Option XcmError) → refusal_of refund_surplus m ≡ o → ((x : Instruction) (m : Machine) → IsSteady m → refusal_of x m ≡ None → IsSteady (xcm.done x m)) → IsSteady m → IsSteady (left_after xcm refund_surplus m o)
refund_steady m None e done steady = done refund_surplus m steady e
refund_steady m (Some error) e done steady = steady

either_rests : (b : Bool) (p q : ChainPart) → IsAtRest p → IsAtRest q → IsAtRest (if b then p else q)
either_rests true p q h k = h
either_rests false p q h k = k

end_rests : (m : Machine) → IsSteady m → IsAtRest (rest_trapped m.regs (settled (end_told m)))
end_rests m steady =
    let p = end_told m in
    let rest = settled_rests p (told_rests m.part (end_event m.regs) steady.rest) in
    let rows_are : (settled p).rows ≡ m.part.rows = settled_rows p ∙ told_rows m.part (end_event m.regs) in
    either_rests (nat_eq (length (rows m.regs.holding)) 0) (settled p) (trapped (settled p) m.regs.holding (owner_of m.regs)) rest
    (trapped_rests (settled p) m.regs.holding (owner_of m.regs) rest (subst (λ table. AreListed (listing table) m.regs.holding) (sym rows_are) steady.holding))

pub finished_rests : ((x : Instruction) (m : Machine) → IsSteady m → refusal_of x m ≡ None → IsSteady (xcm.done x m)) → (m : Machine) → IsSteady m → IsAtRest (finished xcm m)
finished_rests done m steady = end_rests (refunded_last xcm m) (refund_steady m (refusal_of refund_surplus m) refl done steady)
