use Rattle.std.proofs.Common.{sym, subst}
use Rattle.lp_definitions.specs.Basis.{IsOptimalBasis}
use Rattle.setup_verbs.specs.Kept.{Setup}
use Rattle.setup_verbs.specs.Standing.{IsReady}
use Rattle.showing_verbs.proofs.Showing.{shown_at, same_setup}
use Rattle.showing_verbs.proofs.present.show_setup.Goals as goal
use Rattle.setup_verbs.proofs.Present.{ready_columns, ready_rows, ready_unchanged, stays_on_file}

pub problem_on_file-problem-requires : goal.problem_on_file-problem-requires
problem_on_file-problem-requires g c = stays_on_file c.args.file.now _ (subst (IsReady c.args.file.now) (sym c.setup.view_is) c.requires.ready)

pub show_basis-requires-clause-sheet : goal.show_basis-requires-clause-sheet
show_basis-requires-clause-sheet g c =
    let ready = subst (IsReady c.args.file.now) (sym c.setup.view_is) c.requires.ready in
    record {
      rows = ready_rows c.args.file.now _ ready c.problem_on_file-problem.result.now c.problem_on_file-problem.ensures;
      columns = ready_columns c.args.file.now _ ready c.problem_on_file-problem.result.now c.problem_on_file-problem.ensures;
    }

pub show_basis-requires-clause-no_change : goal.show_basis-requires-clause-no_change
show_basis-requires-clause-no_change g c =
    ready_unchanged c.args.file.now _
    (subst (IsReady c.args.file.now) (sym c.setup.view_is) c.requires.ready) c.problem_on_file-problem.result.now c.problem_on_file-problem.ensures

pub show_basis-requires-clause-optimal : goal.show_basis-requires-clause-optimal
show_basis-requires-clause-optimal g c = λ is. subst (λ (s : Setup). IsOptimalBasis s.lp s.basis) (sym c.setup.view_is) (c.requires.optimal is)

pub returns-clause-tells : goal.returns-clause-tells
returns-clause-tells g c =
    shown_at c.args.file.now c.setup.view_is c.args.view c.problem_on_file-problem.result.now c.problem_on_file-problem.ensures
    (g.P.Sink.taken c.args.print.now) (g.P.Sink.taken c.show_basis.new.print) c.show_basis.result
    c.show_basis.ensures.tells

pub returns-clause-same : goal.returns-clause-same
returns-clause-same g c = same_setup c.setup.view_is (g.E.Rates.state c.show_basis.new.rates) c.show_basis.ensures.rates.1
