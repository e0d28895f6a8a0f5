-- `run_by_steps` keeps the promise of any run: on refusal (`kept_refused`) and on accepted input (`kept_accepted`), where the start
-- registers can be made (`startable`), and so the steps.
-- Assumes nothing.
use Rattle.std.proofs.Common.{◌≡◌, length, sym, arith, rules}
use Rattle.std.specs.Prelude.{Err}
use Rattle.registers.proofs.Ran.{asked, startable, begins, kept_refused, kept_accepted}
use Rattle.registers.proofs.runs.run_by_steps.Goals as goal

pub start_registers-requires : goal.start_registers-requires
start_registers-requires g c = rw c.new-m.ensures (startable (asked (sym c.in_ok-run_refusal.ensures)) (λ i. omega (arith, c.type_inv.elements i)))

pub steps-end-requires : goal.steps-end-requires
steps-end-requires g c =
    let nine : length c.start_registers.result.words ≡ 9 = search (c.start_registers.type_inv, rules) in
    rw c.new-m.ensures
    (c.requires (sym c.in_ok-run_refusal.ensures) _
    (begins (asked (sym c.in_ok-run_refusal.ensures)) (λ i. omega (arith, c.type_inv.elements i)) _ nine
    (rw c.new-m.ensures at c.start_registers.ensures)))

pub returns-in_err-run_refusal : goal.returns-in_err-run_refusal
returns-in_err-run_refusal g c wanted ends =
    let same : c.from_residual.result ≡ Err c.in_err-run_refusal.field-0.0 = search rules in
    rw same (kept_refused _ _ _ wanted _ c.in_err-run_refusal.ensures)

pub returns : goal.returns
returns g c wanted ends =
    let nine : length c.start_registers.result.words ≡ 9 = search (c.start_registers.type_inv, rules) in
    let ok = asked (sym c.in_ok-run_refusal.ensures) in
    rw c.copy_from_slice.ensures.after
    (kept_accepted ok.plan.plan _ c.in_ok-run_refusal.ensures
    (ends (sym c.in_ok-run_refusal.ensures) _ _
    (begins ok (λ i. omega (arith, c.type_inv.elements i)) _ nine (rw c.new-m.ensures at c.start_registers.ensures))
    (rw c.new-m.ensures at c.steps-end.ensures)))
