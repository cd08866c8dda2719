-- A call moves amounts between accounts.
use Rattle.std.proofs.Common.{◌≡◌, ℕ, Bool, List, refl, ap, ◌∙◌, arith}
use Rattle.amounts.specs.Amounts.{total, empty}
use Rattle.asset_lists.specs.Listed.{Listed}
use Rattle.asset_bundles.specs.Books.{is_unit_where}
use Rattle.ledgers.specs.Ledgers.{Holder, Held}
use Rattle.call_dispatch.specs.Spelling.{AnyCall}
use Rattle.row_ledger.proofs.Lemmas.AccountLaws.{total_called, total_in_part}
use Rattle.exec_base.specs.Part.{ChainPart}
use Rattle.exec_base.specs.Calls.{floors_of, held_dispatched, dispatched, IsDispatchedInPart}
use Rattle.law_hosts.specs.Wholes.{on_chain, whole, Conserves}

-- where accounts hold as much, the chain does
held_whole : (p : ChainPart) (held : Held) (test : Listed → Bool) → total (λ (h : Holder). is_unit_where test h.1) held ≡ total (λ (h : Holder). is_unit_where test h.1) p.held → whole test (record p { held = held }) ≡ whole test p
unfolding on_chain
held_whole p held test same = omega (arith, same)

pub conserves_moves : (p : ChainPart) (who : List ℕ) (c : AnyCall) → Conserves empty empty p (record p { held = held_dispatched p who c })
conserves_moves p who c test =
    let same = held_whole p (held_dispatched p who c) test (total_called p.rows p.held (floors_of p) who c (λ (h : Holder). is_unit_where test h.1) (λ a b u. refl)) in
    omega (arith, same)

pub conserves_dispatch : (p : ChainPart) (who : List ℕ) (c : AnyCall) → Conserves empty empty p (dispatched p who c)
unfolding dispatched on_chain
conserves_dispatch p who c test =
    let same = total_called p.rows p.held (floors_of p) who c (λ (h : Holder). is_unit_where test h.1) (λ a b u. refl) in
    omega (arith, same)

pub conserves_dispatch_in_part : (p : ChainPart) (who : List ℕ) (c : AnyCall) (now : ChainPart) → IsDispatchedInPart p who c now → Conserves empty empty p now
conserves_dispatch_in_part p who c now h test =
    let same : whole test now ≡ whole test p = ap (whole test) h.is ∙ held_whole p h.held test (total_in_part p.rows p.held (floors_of p) who c h.held h.in_part (λ (h : Holder). is_unit_where test h.1) (λ a b u. refl)) in
    omega (arith, same)
