-- What is shown decides what follows.
use Rattle.std.proofs.Common.{Some, refl, sym}
use Rattle.std.proofs.lemmas.Result.{err_from_is_err_and}
use Rattle.listing_definitions.specs.declared.Mark.TheVariants.{Optimal}
use Rattle.showing_verbs.proofs.Staying.{solved_of, sound_kept}
use Rattle.setup_verbs.proofs.Present.{ready_of}
use Rattle.showing_verbs.proofs.Showing.{still_solved}
use Rattle.showing_verbs.proofs.Viewing.{viewed_by, own_mark, is_optimal, showing_no_setup, showing_refused, showing_found, showing_cut}
use Rattle.showing_verbs.proofs.present.show_present.Goals as goal

pub returns-in_default-clause-acts : goal.returns-in_default-clause-acts
returns-in_default-clause-acts g c =
    λ cards. rw c.act.ensures (showing_no_setup c.args.verb c.args.card cards c.args.machine.now (g.P.Sink.taken c.args.print.now) c.in_default.is)

pub returns-in-Err-clause-acts : goal.returns-in-Err-clause-acts
returns-in-Err-clause-acts g c = λ cards.
    let ready = ready_of c.args.machine.now.file c.args.machine.now.setup c.in-Some.setup c.in-Some.is c.requires.ready in
    rw c.act-in-Err.ensures
    (showing_refused c.args.card cards c.args.machine.now c.in-Some.setup c.in-Some.is ready.problem ready.on_file c.args.verb c.in-Err.fault
    (g.P.Sink.taken c.args.print.now) (record (c.args.machine.now) { setup = Some c.in-Some.setup }) (sym c.in-Err.ensures))

pub show_setup-requires-clause-optimal : goal.show_setup-requires-clause-optimal
show_setup-requires-clause-optimal g c = λ is.
    let marked = is_optimal (viewed_by c.args.verb c.args.machine.now.mark c.in-Ok.view (sym c.in-Ok.ensures)) is in
    let solved =
    solved_of c.args.machine.now.cells c.args.machine.now.file c.args.machine.now.mark c.args.machine.now.setup Optimal c.in-Some.setup marked c.in-Some.is
    c.requires.solved in
    solved.optimal refl

pub returns-in_err-finding-clause-acts : goal.returns-in_err-finding-clause-acts
returns-in_err-finding-clause-acts g c = λ cards.
    let p = err_from_is_err_and c.from_residual.result c.from_residual.ensures.1 in
    let ready = ready_of c.args.machine.now.file c.args.machine.now.setup c.in-Some.setup c.in-Some.is c.requires.ready in
    let shown = viewed_by c.args.verb c.args.machine.now.mark c.in-Ok.view (sym c.in-Ok.ensures) in
    let own = own_mark shown in
    let solved =
    solved_of c.args.machine.now.cells c.args.machine.now.file c.args.machine.now.mark c.args.machine.now.setup own.0 c.in-Some.setup own.1 c.in-Some.is
    c.requires.solved in
    rw (p.1, p.2)
    (showing_cut c.args.card cards c.args.machine.now c.in-Some.setup c.in-Some.is ready.problem ready.on_file shown (g.P.Sink.taken c.args.print.now)
    (g.P.Sink.taken c.show_setup.new.print) c.show_setup.new.setup (solved.is_selected ready.problem ready.on_file) c.show_setup.ensures.same
    (record (c.args.machine.now) { setup = Some c.show_setup.new.setup }) c.in_err-finding.field-0.0
    (c.in_err-finding.ensures.tells ready.problem ready.on_file))

pub returns-in_err-finding-clause-sound : goal.returns-in_err-finding-clause-sound
returns-in_err-finding-clause-sound g c = λ cards sound.
    sound_kept cards c.args.machine.now c.in-Some.setup c.show_setup.new.setup c.show_setup.ensures.ready sound c.in-Some.is
    (λ mark. still_solved c.args.machine.now.cells c.args.machine.now.file c.in-Some.setup c.show_setup.new.setup mark c.show_setup.ensures.same)

pub returns-clause-acts : goal.returns-clause-acts
returns-clause-acts g c = λ cards.
    let ready = ready_of c.args.machine.now.file c.args.machine.now.setup c.in-Some.setup c.in-Some.is c.requires.ready in
    let shown = viewed_by c.args.verb c.args.machine.now.mark c.in-Ok.view (sym c.in-Ok.ensures) in
    let own = own_mark shown in
    let solved =
    solved_of c.args.machine.now.cells c.args.machine.now.file c.args.machine.now.mark c.args.machine.now.setup own.0 c.in-Some.setup own.1 c.in-Some.is
    c.requires.solved in
    showing_found c.args.card cards c.args.machine.now c.in-Some.setup c.in-Some.is ready.problem ready.on_file shown (g.P.Sink.taken c.args.print.now)
    (g.P.Sink.taken c.show_setup.new.print) c.show_setup.new.setup (solved.is_selected ready.problem ready.on_file) c.show_setup.ensures.same
    c.in_ok-finding.finding c.act_of.result c.act_of.ensures
    (c.in_ok-finding.ensures.tells ready.problem ready.on_file)

pub returns-clause-sound : goal.returns-clause-sound
returns-clause-sound g c = λ cards sound.
    sound_kept cards c.args.machine.now c.in-Some.setup c.show_setup.new.setup c.show_setup.ensures.ready sound c.in-Some.is
    (λ mark. still_solved c.args.machine.now.cells c.args.machine.now.file c.in-Some.setup c.show_setup.new.setup mark c.show_setup.ensures.same)
