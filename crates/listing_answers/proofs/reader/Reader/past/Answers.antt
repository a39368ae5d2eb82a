use Rattle.std.proofs.Common.{sym, subst}
use Rattle.listing_definitions.specs.declared.Solver.{Solver}
use Rattle.listing_answers.specs.Readers.{IsRead}
use Rattle.listing_answers.specs.Closings.{Closes, past_in}
use Rattle.listing_answers.proofs.reader.Reader.past.Goals as goal

pub returns-in-Paraobj : goal.returns-in-Paraobj
returns-in-Paraobj g c =
    subst (λ (solver : Solver). IsRead Closes (λ of sheet. past_in of sheet solver) g.T.Checks.checker c.args.self.now c.args.cursor.now
    c.unbounded_past.new.cursor c.unbounded_past.result) (sym c.in-Paraobj.is) c.unbounded_past.ensures

pub returns-in-Pararhs : goal.returns-in-Pararhs
returns-in-Pararhs g c =
    subst (λ (solver : Solver). IsRead Closes (λ of sheet. past_in of sheet solver) g.T.Checks.checker c.args.self.now c.args.cursor.now
    c.infeasible_past.new.cursor c.infeasible_past.result) (sym c.in-Pararhs.is) c.infeasible_past.ensures
