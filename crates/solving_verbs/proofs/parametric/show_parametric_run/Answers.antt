-- What is found decides what follows.
use Rattle.std.proofs.Common.{None, Some}
use Rattle.std.proofs.lemmas.Result.{err_from_is_err_and}
use Rattle.solving_verbs.proofs.Keeping.{sound_cleared, sound_run_through}
use Rattle.setup_verbs.proofs.Present.{ready_of}
use Rattle.solving_verbs.proofs.ParametricComes.{parametric_run_no_setup, parametric_run_found, parametric_run_cut}
use Rattle.solving_verbs.proofs.parametric.show_parametric_run.Goals as goal

pub returns-in_default-clause-acts : goal.returns-in_default-clause-acts
returns-in_default-clause-acts g c =
    λ cards. rw c.act.ensures (parametric_run_no_setup c.args.verb c.args.card cards c.args.machine.now (g.P.Sink.taken c.args.print.now) c.in_default.is)

pub returns-in_err-finding-clause-acts : goal.returns-in_err-finding-clause-acts
returns-in_err-finding-clause-acts g c = λ cards.
    let p = err_from_is_err_and c.from_residual.result c.from_residual.ensures.1 in
    let ready = ready_of c.args.machine.now.file c.args.machine.now.setup c.in-Some.setup c.in-Some.is c.requires.ready in
    rw (p.1, p.2)
    (parametric_run_cut c.args.verb c.args.card (g.P.Sink.taken c.args.print.now)
    (g.P.Sink.taken c.find.new.print) cards c.args.machine.now c.in-Some.setup c.find.new.setup c.in-Some.is ready c.requires.demands
    (record (c.args.machine.now) { setup = Some c.find.new.setup; mark = None }) c.in_err-finding.field-0.0
    (c.in_err-finding.ensures.tells ready.problem ready.on_file))

pub returns-in_err-finding-clause-sound : goal.returns-in_err-finding-clause-sound
returns-in_err-finding-clause-sound g c = λ cards sound.
    sound_cleared cards c.args.machine.now c.in-Some.setup c.find.new.setup c.find.ensures.ready sound

pub returns-clause-acts : goal.returns-clause-acts
returns-clause-acts g c = λ cards.
    let ready = ready_of c.args.machine.now.file c.args.machine.now.setup c.in-Some.setup c.in-Some.is c.requires.ready in
    parametric_run_found c.args.verb c.args.card (g.P.Sink.taken c.args.print.now)
    (g.P.Sink.taken c.find.new.print) cards c.args.machine.now c.in-Some.setup c.find.new.setup c.in-Some.is ready c.requires.demands
    c.in_ok-finding.finding c.leave_value.new.cells c.act_of.result c.leave_value.ensures c.act_of.ensures
    (c.in_ok-finding.ensures.tells ready.problem ready.on_file)

pub returns-clause-sound : goal.returns-clause-sound
returns-clause-sound g c = λ cards sound.
    sound_run_through cards c.args.machine.now c.in-Some.setup c.find.new.setup c.find.ensures.ready sound c.in_ok-finding.finding c.leave_value.new.cells
    c.leave_value.ensures
