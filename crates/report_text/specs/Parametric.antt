-- What the borrowed data of a parametric run prints.
--     IsParametric sheet run                  the run can be printed
--     interval_view sheet part                an interval, with a line for each variable
--     end_view sheet to end                   how the run ends
--     chain_view sheet change from to run     all of it
use Rattle.std.specs.Prelude.{map}
use Rattle.std.specs.List.{All}
use Rattle.exact_values.specs.Rational.{ℚ}
use Rattle.lp_definitions.specs.LinearProgram.{variables}
use Rattle.lp_model.specs.declared.reports.ParaPart.{ParaPart}
use Rattle.lp_model.specs.declared.reports.ParaEnd.{ParaEnd}
use Rattle.lp_model.specs.declared.reports.ParaEnd.TheVariants.{AtMax, Unbounded, Infeasible}
use Rattle.lp_model.specs.declared.reports.ParaRun.{ParaRun}
use Rattle.problem_definitions.specs.Names.{Name}
use Rattle.listing_definitions.specs.Report.{ParametricInterval, ChainEnd, EndsAt, UnboundedPast, InfeasiblePast, Chain}
use Rattle.listing_tables.specs.declared.sheet.Sheet.{Sheet}
use Rattle.listing_tables.specs.Sheets.{IsSheet}
use Rattle.listing_tables.specs.Tables.{IsPart}
use Rattle.listing_tables.specs.Lines.{lines_of, part_values, pair_lines, ray_lines}
use Rattle.report_text.specs.Verdicts.{IsFull}

-- the lists of an end have a place for each variable
abbrev pub AreEndLists : Sheet → ParaEnd → Type 0
AreEndLists sheet AtMax = Unit {0}
AreEndLists sheet (Unbounded past point direction) = IsFull sheet point × IsFull sheet direction
AreEndLists sheet (Infeasible past ray) = IsFull sheet ray

-- an end that can be printed: the sheet names each row and column, and the lists have their lengths
pub record IsRunEnd (sheet : Sheet) (end : ParaEnd) : Type 0 where
  pub is_sheet : IsSheet sheet
  pub lists : AreEndLists sheet end

-- a run that can be printed: each of its intervals and its end can
pub record IsParametric (sheet : Sheet) (run : ParaRun) : Type 0 where
  pub is_sheet : IsSheet sheet
  pub parts : All (IsPart sheet) run.parts
  pub end : AreEndLists sheet run.end

-- from one value to another, with a line for each row, and then for each column
abbrev pub interval_view : Sheet → ParaPart → ParametricInterval
interval_view sheet part = record {
  from = part.from;
  to = part.to;
  lines = lines_of sheet.problem.now (part_values sheet.lp.now part) (variables sheet.lp.now.matrix);
}

-- At the greatest value asked for, where the run has come so far. Past a value where all is unbounded, with the point and the
-- direction of each variable; or past one where all is infeasible, with each multiplier that isn't 0.
abbrev pub end_view : Sheet → ℚ → ParaEnd → ChainEnd
end_view sheet to AtMax = EndsAt to
end_view sheet to (Unbounded past point direction) = UnboundedPast past (pair_lines sheet.problem.now sheet.lp.now point direction)
end_view sheet to (Infeasible past ray) = InfeasiblePast past (ray_lines sheet.problem.now sheet.lp.now ray)

-- the run from its first value, of the row or set that changes
abbrev pub chain_view : Sheet → Name → ℚ → ℚ → ParaRun → Chain
chain_view sheet change from to run = record {
  from = from;
  change = change;
  intervals = map (interval_view sheet) run.parts;
  end = end_view sheet to run.end;
}
