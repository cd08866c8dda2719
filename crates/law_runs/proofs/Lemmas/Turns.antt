-- Lemmas: goods that move inside a chain. A reader may skip this file.
use Rattle.std.proofs.Common.{◌≡◌, ℕ, ◌+◌, Bool, true, List, refl, sym, subst, arith}
use Rattle.amounts.specs.Amounts.{total, difference}
use Rattle.amounts.proofs.Lemmas.{total-difference}
use Rattle.asset_lists.specs.declared.units.Asset.{Asset}
use Rattle.asset_lists.specs.Units.{Unit}
use Rattle.asset_bundles.specs.Bundles.{Bundle}
use Rattle.asset_bundles.proofs.Lemmas.Bundles.{unit_keys}
use Rattle.asset_bundles.specs.Joins.{Joined}
use Rattle.exec_base.specs.Part.{ChainPart}
use Rattle.exec_base.specs.Host.{bundles_joined}
use Rattle.exec_rules.specs.Machine.{Machine, machine}
use Rattle.exec_rules.specs.Holdings.{holds_asset, holding_more, payment_of}
use Rattle.exec_rules.proofs.Lemmas.HoldingLaws.{payment_within}
use Rattle.law_runs.specs.Sums.{none, HasRoom}
use Rattle.law_runs.proofs.Lemmas.Sums.{sum_of, with, nobody, Call}
use Rattle.law_runs.proofs.Lemmas.Calls.{call_then, call_with, call_by, still, room_kept, joining}
use Rattle.law_runs.specs.Safety.{origins, hold}
use Rattle.law_runs.proofs.Lemmas.Safety.{Turn}

-- ---- whom an instruction may charge
pub by_nobody : (m : Machine) (account : List ℕ) → nobody account → origins m account
by_nobody m account h = absurd h

-- ---- turns
pub same_turn : (m n : Machine) → n.part ≡ m.part → n.regs.holding ≡ m.regs.holding → Turn m n
same_turn m n part holding =
    subst (λ (p : ChainPart). Call (origins m) (hold m) (hold n) m.part p) (sym part)
    (subst (λ (b : Bundle). Call (origins m) (hold m) (sum_of b) m.part m.part) (sym holding)
    (call_with (origins m) none none (hold m) (hold m) m.part m.part (call_by nobody (origins m) none none m.part m.part (still m.part m.part refl) (by_nobody m)) (λ t. omega arith)))

pub part_turn : (m : Machine) (p : ChainPart) → Call (origins m) none none m.part p → Turn m (machine m.regs p)
part_turn m p x = call_with (origins m) none none (hold m) (hold m) m.part p x (λ t. omega arith)

-- goods came, and are joined to what is held
pub more_call : (may : List ℕ → Type 0) (m : Machine) (p : ChainPart) (goods : Bundle) → Call may none (sum_of goods) m.part p → HasRoom (hold m) m.part → Call may (hold m) (hold (holding_more m p goods)) m.part (holding_more m p goods).part
more_call may m p goods x room =
    let came : Call may (hold m) (with (hold m) (sum_of goods)) m.part p = call_with may none (sum_of goods) (hold m) (with (hold m) (sum_of goods)) m.part p x (λ t. omega arith) in
    call_then may (hold m) (with (hold m) (sum_of goods)) (sum_of (Joined m.regs.holding goods)) m.part p (bundles_joined p m.regs.holding goods) came
    (call_by nobody may (with (hold m) (sum_of goods)) (sum_of (Joined m.regs.holding goods)) p (bundles_joined p m.regs.holding goods)
    (joining p m.regs.holding goods (room_kept may (hold m) (with (hold m) (sum_of goods)) m.part p came room)) (λ who h. absurd h))

pub paid_parts : (m : Machine) (a : Asset) → holds_asset m a ≡ true → (t : Unit → Bool) → total t (difference m.regs.holding (payment_of a)) + total t (payment_of a) ≡ total t m.regs.holding
paid_parts m a held t = total-difference unit_keys t m.regs.holding (payment_of a) (payment_within m a held)
