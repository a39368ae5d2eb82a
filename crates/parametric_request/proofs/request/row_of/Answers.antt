use Rattle.std.proofs.Common.{refl, sym, ◌∙◌}
use Rattle.parametric_request.specs.declared.request.ParametricVerb.TheVariants.{Paraobj}
use Rattle.parametric_request.proofs.Asked.{no_name, no_row, row_changes}
use Rattle.parametric_request.proofs.request.row_of.Goals as goal

pub returns-in_default-clause-refused : goal.returns-in_default-clause-refused
returns-in_default-clause-refused c = (no_name c.args.problem.now c.args.cells.now Paraobj (sym c.name.ensures ∙ c.in_default.is), refl)

pub returns-in_default-free_row-clause-refused : goal.returns-in_default-free_row-clause-refused
returns-in_default-free_row-clause-refused c = (
  no_row c.args.problem.now c.args.cells.now c.in-Some.name c.free_row.result
      (sym c.name.ensures ∙ c.in-Some.is) c.free_row.ensures.number c.in_default-free_row.is,
  refl,
)

pub returns-clause-changes : goal.returns-clause-changes
returns-clause-changes c =
    (row_changes c.args.problem.now c.args.cells.now c.in-Some.name c.free_row.result c.in-Some-free_row.row
    (sym c.name.ensures ∙ c.in-Some.is) c.free_row.ensures.number c.in-Some-free_row.is).0

pub returns-clause-of : goal.returns-clause-of
returns-clause-of c = (
  (row_changes c.args.problem.now c.args.cells.now c.in-Some.name c.free_row.result c.in-Some-free_row.row
      (sym c.name.ensures ∙ c.in-Some.is) c.free_row.ensures.number c.in-Some-free_row.is).1,
  c.in-Some-free_row.ensures.free,
)
