use Rattle.std.proofs.Common.{refl, sym, ap, ◌∙◌, option_map}
use Rattle.parametric_request.specs.declared.request.ParametricVerb.TheVariants.{Pararhs}
use Rattle.parametric_request.proofs.Asked.{no_name, no_set, set_changes}
use Rattle.parametric_request.proofs.request.set_of.Goals as goal

pub returns-in_default-clause-refused : goal.returns-in_default-clause-refused
returns-in_default-clause-refused c = (no_name c.args.problem.now c.args.cells.now Pararhs (sym c.name.ensures ∙ c.in_default.is), refl)

pub returns-in_default-values-clause-refused : goal.returns-in_default-values-clause-refused
returns-in_default-values-clause-refused c = (
  no_set c.args.problem.now c.args.cells.now c.in-Some.name _ (sym c.name.ensures ∙ c.in-Some.is) c.in-Ok.ensures
      (ap (option_map (λ values. values.items)) c.in_default-values.is),
  refl,
)

pub returns-clause-changes : goal.returns-clause-changes
returns-clause-changes c =
    (set_changes c.args.problem.now c.args.cells.now c.in-Some.name _ c.in-Some-values.shift.items (sym c.name.ensures ∙ c.in-Some.is) c.in-Ok.ensures
    (ap (option_map (λ values. values.items)) c.in-Some-values.is)).0

pub returns-clause-of : goal.returns-clause-of
returns-clause-of c =
    (set_changes c.args.problem.now c.args.cells.now c.in-Some.name _ c.in-Some-values.shift.items (sym c.name.ensures ∙ c.in-Some.is) c.in-Ok.ensures
    (ap (option_map (λ values. values.items)) c.in-Some-values.is)).1
