-- A job's fault, or its program.
use Rattle.std.proofs.Common.{◌≡◌, ap, sym, ◌∙◌, arith}
use Rattle.std.specs.Prelude.{Result, Ok, Err, IfOk}
use Rattle.std.proofs.lemmas.Result.{err_from_is_err_and}
use Rattle.control_definitions.specs.declared.ControlFault.{ControlFault}
use Rattle.control_definitions.specs.Program.{Program}
use Rattle.control_definitions.specs.Compiled.{compiled}
use Rattle.card_reader.specs.declared.stop.CardStop.{CardStop}
use Rattle.control_compiler.proofs.Ends.{stopped, pend_within, ends_at, refused, whole_program, compiled_is}
use Rattle.control_compiler.proofs.compiler.compile.Goals as goal

-- a job's program is what settling gave
program_given : (outcome : Result Program ControlFault) (program : Program) (result : Result Program (CardStop ControlFault)) → outcome ≡ Ok program →
    IfOk result (λ given. given ≡ program) → IfOk result (λ given. outcome ≡ Ok given)
program_given outcome program (Ok given) is same = is ∙ ap Ok (sym same)
program_given outcome program (Err stop) is same = tt

pub returns-in_err-reading-clause-fault : goal.returns-in_err-reading-clause-fault
returns-in_err-reading-clause-fault c =
    let p = err_from_is_err_and c.from_residual.result c.from_residual.ensures.1 in
    rw (p.1, p.2) (stopped c.args.cards.now c.in_err-reading.field-0.0 c.in_err-reading.ensures)

pub returns-in-Err-clause-fault : goal.returns-in-Err-clause-fault
returns-in-Err-clause-fault c =
    refused c.args.cards.now c.in_ok-reading.reading c.in_ok-reading.ensures c.in-Err.fault
    (ends_at c.args.cards.now c.in_ok-reading.reading c.in_ok-reading.ensures c.count.result c.missing.result
    (Err c.in-Err.fault) c.count.ensures.count c.missing.ensures c.in-Err.ensures)

pub overflow_add-pend : goal.overflow_add-pend
overflow_add-pend c =
    let ends =
    ends_at c.args.cards.now c.in_ok-reading.reading c.in_ok-reading.ensures c.count.result c.missing.result
    (Ok c.in-Ok.pend) c.count.ensures.count c.missing.ensures c.in-Ok.ensures in
    let is = c.in_ok-reading.ensures in
    let within = pend_within c.in_ok-reading.reading.end c.in-Ok.pend _ ends.0 is.within in
    let len = c.count.ensures.count in
    let few = c.count.ensures.few in
    omega arith

pub settle-requires : goal.settle-requires
settle-requires c = whole_program c.args.cards.now c.in_ok-reading.reading c.in_ok-reading.ensures c.in-Ok.pend
    (ends_at c.args.cards.now c.in_ok-reading.reading c.in_ok-reading.ensures c.count.result c.missing.result
    (Ok c.in-Ok.pend) c.count.ensures.count c.missing.ensures c.in-Ok.ensures)

pub returns-in-Ok-clause-program : goal.returns-in-Ok-clause-program
returns-in-Ok-clause-program c = program_given (compiled c.args.cards.now) _ c.settle.result
    (compiled_is c.args.cards.now c.in_ok-reading.reading c.in_ok-reading.ensures c.in-Ok.pend
    (ends_at c.args.cards.now c.in_ok-reading.reading c.in_ok-reading.ensures c.count.result c.missing.result
    (Ok c.in-Ok.pend) c.count.ensures.count c.missing.ensures c.in-Ok.ensures))
    c.settle.ensures.ok
