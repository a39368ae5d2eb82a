use Rattle.std.proofs.Common.{◌≤◌, length, Some, sym, ap, ◌∙◌, arith}
use Rattle.std.specs.Option.{option_map}
use Rattle.deck_definitions.specs.Tests.{number_fault_from}
use Rattle.named_problem.proofs.NumbersReported.{reported_value, reported_fault, bad_place}
use Rattle.named_problem.proofs.pairs.number_in.Goals as goal

pub fault_from-requires-clause-in_field : goal.fault_from-requires-clause-in_field
fault_from-requires-clause-in_field c =
    λ place e.
    let inside : place ≤ length c.args.field.now =
    bad_place c.args.field.now place (reported_fault c.args.field.now c.in-Err.fault (sym c.in-Err.ensures) ∙ ap (λ f. Some f) e) in
    omega (arith, c.requires.short)

pub returns-in-Ok-clause-value : goal.returns-in-Ok-clause-value
returns-in-Ok-clause-value c = (reported_value c.args.field.now c.in-Ok.value (sym c.in-Ok.ensures)).1

pub returns-in-Ok-clause-no_fault : goal.returns-in-Ok-clause-no_fault
returns-in-Ok-clause-no_fault c = ap (option_map (number_fault_from c.args.column)) (reported_value c.args.field.now c.in-Ok.value (sym c.in-Ok.ensures)).0

pub returns-in-Err-clause-fault : goal.returns-in-Err-clause-fault
returns-in-Err-clause-fault c =
    ap (option_map (number_fault_from c.args.column)) (reported_fault c.args.field.now c.in-Err.fault (sym c.in-Err.ensures))
    ∙ ap (λ kind. Some kind) (sym c.fault_from.ensures)
