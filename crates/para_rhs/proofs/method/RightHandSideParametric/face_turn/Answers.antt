use Rattle.std.proofs.Common.{◌≡◌, ◌≢◌, refl, sym, subst, ◌∙◌, arith}
use Rattle.std.specs.Prelude.{Option, Some}
use Rattle.std.proofs.lemmas.Result.{err_from_is_err_and}
use Rattle.exact_values.specs.Rational.{zero_ℚ}
use Rattle.lp_definitions.specs.Basis.{IsOptimalBasis}
use Rattle.lp_definitions.specs.LinearProgram.{value_at}
use Rattle.lp_model.specs.declared.reports.ParaEnd.{ParaEnd}
use Rattle.simplex_definitions.specs.Path.{after}
use Rattle.simplex_definitions.specs.Chain.{FaceEnds, FaceMoves}
use Rattle.simplex_definitions.specs.RhsRun.{rhs_family, IsRhsFace}
use Rattle.simplex_laws.specs.Laws.{IsNonsingularBasis}
use Rattle.basis_values.proofs.Kept.{kept_same, kept_then}
use Rattle.bounded_primal.specs.Moves.{IsStepBy, move_by, return_by}
use Rattle.bounded_primal.specs.declared.moves.BlockingVariable.{BlockingVariable}
use Rattle.bounded_primal.proofs.StepFacts.{step_reaches, limit_apart}
use Rattle.parametric_run.specs.Calls.{end_of}
use Rattle.parametric_run.proofs.Workspaces.{row_kept, direction_kept}
use Rattle.para_rhs.specs.Breaks.{IsFaceLeaver}
use Rattle.para_rhs.specs.Method.{rhs_problem}
use Rattle.para_rhs.specs.Turns.{goes_to}
use Rattle.para_rhs.specs.declared.breaks.Leaver.{Leaver}
use Rattle.para_rhs.proofs.FaceEvidence.{entry_stops, return_stops, of_step}
use Rattle.para_rhs.proofs.FaceFacts.{face_done, basic, face_ends, face_moves, face_enters, face_pivot, face_limit, face_step, face_keeps}
use Rattle.para_rhs.proofs.method.RightHandSideParametric.face_turn.Goals as goal

pub returns-in-Err-clause-turn : goal.returns-in-Err-clause-turn
returns-in-Err-clause-turn g c =
    λ from. c.in-Err.ensures.overflow (g.R.Rates.state c.args.rates.now).waypoints (g.R.Rates.state c.args.rates.now).waypoints from
    (Some c.args.theta) c.args.left

pub returns-in-Err-clause-rates : goal.returns-in-Err-clause-rates
returns-in-Err-clause-rates g c =
    kept_same (g.R.Rates.state c.args.rates.now).waypoints c.requires.rates

pub returns-in_default-clause-turn : goal.returns-in_default-clause-turn
returns-in_default-clause-turn g c =
    let at : IsNonsingularBasis c.args.self.now.lp.now c.args.basis.now =
    record { is_basis = c.requires.rates.is_basis; nonsingular = c.requires.rates.nonsingular } in
    face_done c.args.self.now.lp.now c.args.self.now.shift.now c.requires.fits.lawful c.requires.fits.no_change c.args.theta c.args.basis.now at
    (value_at c.args.workspace.now.point.items) (value_at c.args.workspace.now.change.items) c.requires.workspace.point c.requires.workspace.change
    (subst (λ (o : Option Leaver). IsFaceLeaver c.args.self.now.lp.now c.args.self.now.shift.now c.args.theta c.args.basis.now o) c.in_default.is
    c.in-Ok.ensures.leaver)

pub returns-in_default-clause-rates : goal.returns-in_default-clause-rates
returns-in_default-clause-rates g c =
    kept_same (g.R.Rates.state c.args.rates.now).waypoints c.requires.rates

pub entering-requires-clause-basic : goal.entering-requires-clause-basic
entering-requires-clause-basic g c =
    let at : IsNonsingularBasis c.args.self.now.lp.now c.args.basis.now =
    record { is_basis = c.requires.rates.is_basis; nonsingular = c.requires.rates.nonsingular } in
    let found : IsFaceLeaver c.args.self.now.lp.now c.args.self.now.shift.now c.args.theta c.args.basis.now (Some c.in-Some.leaver)
    = subst (λ (o : Option Leaver). IsFaceLeaver c.args.self.now.lp.now c.args.self.now.shift.now c.args.theta c.args.basis.now o) c.in-Some.is
    c.in-Ok.ensures.leaver in
    basic c.args.self.now.lp.now c.args.self.now.shift.now c.requires.fits.lawful c.requires.fits.no_change c.args.theta c.args.basis.now at
    (value_at c.args.workspace.now.point.items)
    (value_at c.args.workspace.now.change.items) c.requires.workspace.point c.requires.workspace.change c.in-Some.leaver found

pub returns-in_err-chosen-clause-turn : goal.returns-in_err-chosen-clause-turn
returns-in_err-chosen-clause-turn g c =
    let at : IsNonsingularBasis c.args.self.now.lp.now c.args.basis.now =
    record { is_basis = c.requires.rates.is_basis; nonsingular = c.requires.rates.nonsingular } in
    let found : IsFaceLeaver c.args.self.now.lp.now c.args.self.now.shift.now c.args.theta c.args.basis.now (Some c.in-Some.leaver)
    = subst (λ (o : Option Leaver). IsFaceLeaver c.args.self.now.lp.now c.args.self.now.shift.now c.args.theta c.args.basis.now o) c.in-Some.is
    c.in-Ok.ensures.leaver in
    let p = err_from_is_err_and c.from_residual.result c.from_residual.ensures.1 in
    rw (p.1, p.2)
    (λ from. entry_stops c.args.self.now.lp.now c.args.self.now.shift.now c.requires.fits.lawful c.requires.fits.no_change c.args.theta c.args.basis.now at
    (value_at c.args.workspace.now.point.items)
    (value_at c.args.workspace.now.change.items) c.requires.workspace.point c.requires.workspace.change from c.args.left
    (g.R.Rates.state c.args.rates.now).waypoints (g.R.Rates.state c.entering.new.rates).waypoints c.in-Some.leaver found
    (value_at c.args.workspace.now.prices.items) c.requires.workspace.prices c.in_err-chosen.field-0.0 c.in_err-chosen.ensures.overflow)

pub returns-in_default-chosen-clause-turn : goal.returns-in_default-chosen-clause-turn
returns-in_default-chosen-clause-turn g c =
    let at : IsNonsingularBasis c.args.self.now.lp.now c.args.basis.now =
    record { is_basis = c.requires.rates.is_basis; nonsingular = c.requires.rates.nonsingular } in
    let found : IsFaceLeaver c.args.self.now.lp.now c.args.self.now.shift.now c.args.theta c.args.basis.now (Some c.in-Some.leaver)
    = subst (λ (o : Option Leaver). IsFaceLeaver c.args.self.now.lp.now c.args.self.now.shift.now c.args.theta c.args.basis.now o) c.in-Some.is
    c.in-Ok.ensures.leaver in
    let read =
    row_kept (rhs_problem c.args.self.now.lp.now c.args.self.now.shift.now) c.args.basis.now c.args.workspace.now c.entering.new.workspace
    c.requires.workspace c.in_ok-chosen.ensures.others c.in_ok-chosen.ensures.places in
    let is = c.in_ok-end.ensures in
    subst (λ (e : ParaEnd). IsRhsFace c.args.self.now.lp.now c.args.self.now.shift.now c.args.theta c.args.basis.now (FaceEnds (end_of e))) (sym is.is_end)
    (face_ends c.args.self.now.lp.now c.args.self.now.shift.now c.requires.fits.lawful c.requires.fits.no_change c.args.theta c.args.basis.now at
    (value_at c.args.workspace.now.point.items)
    (value_at c.args.workspace.now.change.items) c.requires.workspace.point c.requires.workspace.change c.in-Some.leaver found
    (value_at c.entering.new.workspace.prices.items) (value_at c.entering.new.workspace.row.items) read.prices c.in_ok-chosen.ensures.row
    (sym c.in_ok-chosen.ensures.chosen ∙ c.in_default-chosen.is) is.ws is.counted is.multipliers)

pub returns-then-left-eq0-clause-turn : goal.returns-then-left-eq0-clause-turn
returns-then-left-eq0-clause-turn g c =
    let at : IsNonsingularBasis c.args.self.now.lp.now c.args.basis.now =
    record { is_basis = c.requires.rates.is_basis; nonsingular = c.requires.rates.nonsingular } in
    let found : IsFaceLeaver c.args.self.now.lp.now c.args.self.now.shift.now c.args.theta c.args.basis.now (Some c.in-Some.leaver)
    = subst (λ (o : Option Leaver). IsFaceLeaver c.args.self.now.lp.now c.args.self.now.shift.now c.args.theta c.args.basis.now o) c.in-Some.is
    c.in-Ok.ensures.leaver in
    let read =
    row_kept (rhs_problem c.args.self.now.lp.now c.args.self.now.shift.now) c.args.basis.now c.args.workspace.now c.entering.new.workspace
    c.requires.workspace c.in_ok-chosen.ensures.others c.in_ok-chosen.ensures.places in
    λ from. (
      c.if-left-eq0.true,
      (
        after c.args.basis.now (record { enters = c.in-Some-chosen.q; leaves = c.in-Some.leaver.r; to = goes_to c.in-Some.leaver }),
        (
          record { enters = c.in-Some-chosen.q; leaves = c.in-Some.leaver.r; to = goes_to c.in-Some.leaver },
          face_moves c.args.self.now.lp.now
              c.args.self.now.shift.now c.requires.fits.lawful c.requires.fits.no_change c.args.theta c.args.basis.now at
              (value_at c.args.workspace.now.point.items) (value_at c.args.workspace.now.change.items) c.requires.workspace.point c.requires.workspace.change
              c.in-Some.leaver found (value_at c.entering.new.workspace.prices.items) (value_at c.entering.new.workspace.row.items) read.prices
              c.in_ok-chosen.ensures.row c.in-Some-chosen.q (sym c.in_ok-chosen.ensures.chosen ∙ c.in-Some-chosen.is),
          refl,
        ),
      ),
    )

pub return_of-requires-clause-nonbasic : goal.return_of-requires-clause-nonbasic
return_of-requires-clause-nonbasic g c =
    let at : IsNonsingularBasis c.args.self.now.lp.now c.args.basis.now =
    record { is_basis = c.requires.rates.is_basis; nonsingular = c.requires.rates.nonsingular } in
    let found : IsFaceLeaver c.args.self.now.lp.now c.args.self.now.shift.now c.args.theta c.args.basis.now (Some c.in-Some.leaver)
    = subst (λ (o : Option Leaver). IsFaceLeaver c.args.self.now.lp.now c.args.self.now.shift.now c.args.theta c.args.basis.now o) c.in-Some.is
    c.in-Ok.ensures.leaver in
    let read =
    row_kept (rhs_problem c.args.self.now.lp.now c.args.self.now.shift.now) c.args.basis.now c.args.workspace.now c.entering.new.workspace
    c.requires.workspace c.in_ok-chosen.ensures.others c.in_ok-chosen.ensures.places in
    face_enters c.args.self.now.lp.now c.args.self.now.shift.now c.requires.fits.lawful c.requires.fits.no_change c.args.theta c.args.basis.now at
    (value_at c.args.workspace.now.point.items)
    (value_at c.args.workspace.now.change.items) c.requires.workspace.point c.requires.workspace.change c.in-Some.leaver found
    (value_at c.entering.new.workspace.prices.items)
    (value_at c.entering.new.workspace.row.items) read.prices c.in_ok-chosen.ensures.row c.in-Some-chosen.q
    (sym c.in_ok-chosen.ensures.chosen ∙ c.in-Some-chosen.is) c.requires.optimal

pub return_of-requires-clause-basic : goal.return_of-requires-clause-basic
return_of-requires-clause-basic g c =
    let at : IsNonsingularBasis c.args.self.now.lp.now c.args.basis.now =
    record { is_basis = c.requires.rates.is_basis; nonsingular = c.requires.rates.nonsingular } in
    let found : IsFaceLeaver c.args.self.now.lp.now c.args.self.now.shift.now c.args.theta c.args.basis.now (Some c.in-Some.leaver)
    = subst (λ (o : Option Leaver). IsFaceLeaver c.args.self.now.lp.now c.args.self.now.shift.now c.args.theta c.args.basis.now o) c.in-Some.is
    c.in-Ok.ensures.leaver in
    basic c.args.self.now.lp.now c.args.self.now.shift.now c.requires.fits.lawful c.requires.fits.no_change c.args.theta c.args.basis.now at
    (value_at c.args.workspace.now.point.items)
    (value_at c.args.workspace.now.change.items) c.requires.workspace.point c.requires.workspace.change c.in-Some.leaver found

pub return_of-requires-clause-limit : goal.return_of-requires-clause-limit
return_of-requires-clause-limit g c =
    let at : IsNonsingularBasis c.args.self.now.lp.now c.args.basis.now =
    record { is_basis = c.requires.rates.is_basis; nonsingular = c.requires.rates.nonsingular } in
    let found : IsFaceLeaver c.args.self.now.lp.now c.args.self.now.shift.now c.args.theta c.args.basis.now (Some c.in-Some.leaver)
    = subst (λ (o : Option Leaver). IsFaceLeaver c.args.self.now.lp.now c.args.self.now.shift.now c.args.theta c.args.basis.now o) c.in-Some.is
    c.in-Ok.ensures.leaver in
    let read =
    row_kept (rhs_problem c.args.self.now.lp.now c.args.self.now.shift.now) c.args.basis.now c.args.workspace.now c.entering.new.workspace
    c.requires.workspace c.in_ok-chosen.ensures.others c.in_ok-chosen.ensures.places in
    let limit =
    face_limit c.args.self.now.lp.now c.args.self.now.shift.now c.requires.fits.lawful c.requires.fits.no_change c.args.theta c.args.basis.now at
    (value_at c.args.workspace.now.point.items)
    (value_at c.args.workspace.now.change.items) c.requires.workspace.point c.requires.workspace.change c.in-Some.leaver found
    (value_at c.entering.new.workspace.prices.items)
    (value_at c.entering.new.workspace.row.items) read.prices c.in_ok-chosen.ensures.row c.in-Some-chosen.q
    (sym c.in_ok-chosen.ensures.chosen ∙ c.in-Some-chosen.is) c.requires.optimal in
    rw limit.1 refl

pub return_of-requires-clause-pivot : goal.return_of-requires-clause-pivot
return_of-requires-clause-pivot g c =
    let at : IsNonsingularBasis c.args.self.now.lp.now c.args.basis.now =
    record { is_basis = c.requires.rates.is_basis; nonsingular = c.requires.rates.nonsingular } in
    let found : IsFaceLeaver c.args.self.now.lp.now c.args.self.now.shift.now c.args.theta c.args.basis.now (Some c.in-Some.leaver)
    = subst (λ (o : Option Leaver). IsFaceLeaver c.args.self.now.lp.now c.args.self.now.shift.now c.args.theta c.args.basis.now o) c.in-Some.is
    c.in-Ok.ensures.leaver in
    let read =
    row_kept (rhs_problem c.args.self.now.lp.now c.args.self.now.shift.now) c.args.basis.now c.args.workspace.now c.entering.new.workspace
    c.requires.workspace c.in_ok-chosen.ensures.others c.in_ok-chosen.ensures.places in
    face_pivot c.args.self.now.lp.now c.args.self.now.shift.now c.requires.fits.lawful c.requires.fits.no_change c.args.theta c.args.basis.now at
    (value_at c.args.workspace.now.point.items)
    (value_at c.args.workspace.now.change.items) c.requires.workspace.point c.requires.workspace.change c.in-Some.leaver found
    (value_at c.entering.new.workspace.prices.items)
    (value_at c.entering.new.workspace.row.items) read.prices c.in_ok-chosen.ensures.row c.in-Some-chosen.q
    (sym c.in_ok-chosen.ensures.chosen ∙ c.in-Some-chosen.is) c.requires.optimal

pub returns-in_err-by-clause-turn : goal.returns-in_err-by-clause-turn
returns-in_err-by-clause-turn g c =
    let at : IsNonsingularBasis c.args.self.now.lp.now c.args.basis.now =
    record { is_basis = c.requires.rates.is_basis; nonsingular = c.requires.rates.nonsingular } in
    let found : IsFaceLeaver c.args.self.now.lp.now c.args.self.now.shift.now c.args.theta c.args.basis.now (Some c.in-Some.leaver)
    = subst (λ (o : Option Leaver). IsFaceLeaver c.args.self.now.lp.now c.args.self.now.shift.now c.args.theta c.args.basis.now o) c.in-Some.is
    c.in-Ok.ensures.leaver in
    let read =
    row_kept (rhs_problem c.args.self.now.lp.now c.args.self.now.shift.now) c.args.basis.now c.args.workspace.now c.entering.new.workspace
    c.requires.workspace c.in_ok-chosen.ensures.others c.in_ok-chosen.ensures.places in
    let p = err_from_is_err_and c.from_residual-in_err-by.result c.from_residual-in_err-by.ensures.1 in
    rw (p.1, p.2)
    (λ from. return_stops c.args.self.now.lp.now c.args.self.now.shift.now c.requires.fits.lawful c.requires.fits.no_change c.args.theta c.args.basis.now from
    c.args.left (g.R.Rates.state c.args.rates.now).waypoints (g.R.Rates.state c.return_of.new.rates).waypoints at
    (value_at c.entering.new.workspace.point.items) (value_at c.entering.new.workspace.change.items) read.point read.change
    (g.R.Rates.state c.entering.new.rates).waypoints c.in_ok-chosen.ensures.rates.1
    c.in-Some-chosen.q c.in-Some.leaver.r (goes_to c.in-Some.leaver)
    (basic c.args.self.now.lp.now c.args.self.now.shift.now c.requires.fits.lawful c.requires.fits.no_change c.args.theta c.args.basis.now at
    (value_at c.args.workspace.now.point.items)
    (value_at c.args.workspace.now.change.items) c.requires.workspace.point c.requires.workspace.change c.in-Some.leaver found)
    (face_enters c.args.self.now.lp.now c.args.self.now.shift.now c.requires.fits.lawful c.requires.fits.no_change c.args.theta c.args.basis.now at
    (value_at c.args.workspace.now.point.items) (value_at c.args.workspace.now.change.items) c.requires.workspace.point c.requires.workspace.change
    c.in-Some.leaver found (value_at c.entering.new.workspace.prices.items) (value_at c.entering.new.workspace.row.items) read.prices
    c.in_ok-chosen.ensures.row c.in-Some-chosen.q (sym c.in_ok-chosen.ensures.chosen ∙ c.in-Some-chosen.is) c.requires.optimal)
    (face_moves c.args.self.now.lp.now c.args.self.now.shift.now c.requires.fits.lawful c.requires.fits.no_change c.args.theta c.args.basis.now at
    (value_at c.args.workspace.now.point.items)
    (value_at c.args.workspace.now.change.items) c.requires.workspace.point c.requires.workspace.change c.in-Some.leaver found
    (value_at c.entering.new.workspace.prices.items)
    (value_at c.entering.new.workspace.row.items) read.prices c.in_ok-chosen.ensures.row c.in-Some-chosen.q
    (sym c.in_ok-chosen.ensures.chosen ∙ c.in-Some-chosen.is))
    (face_pivot c.args.self.now.lp.now c.args.self.now.shift.now c.requires.fits.lawful c.requires.fits.no_change c.args.theta c.args.basis.now at
    (value_at c.args.workspace.now.point.items) (value_at c.args.workspace.now.change.items) c.requires.workspace.point c.requires.workspace.change
    c.in-Some.leaver found (value_at c.entering.new.workspace.prices.items) (value_at c.entering.new.workspace.row.items) read.prices
    c.in_ok-chosen.ensures.row c.in-Some-chosen.q (sym c.in_ok-chosen.ensures.chosen ∙ c.in-Some-chosen.is) c.requires.optimal)
    c.in_err-by.field-0.0 c.in_err-by.ensures.overflow)

pub returns-in_err-by-clause-rates : goal.returns-in_err-by-clause-rates
returns-in_err-by-clause-rates g c =
    kept_then c.in_ok-chosen.ensures.rates c.in_err-by.ensures.rates

pub returns-clause-turn : goal.returns-clause-turn
returns-clause-turn g c =
    let at : IsNonsingularBasis c.args.self.now.lp.now c.args.basis.now =
    record { is_basis = c.requires.rates.is_basis; nonsingular = c.requires.rates.nonsingular } in
    let found : IsFaceLeaver c.args.self.now.lp.now c.args.self.now.shift.now c.args.theta c.args.basis.now (Some c.in-Some.leaver)
    = subst (λ (o : Option Leaver). IsFaceLeaver c.args.self.now.lp.now c.args.self.now.shift.now c.args.theta c.args.basis.now o) c.in-Some.is
    c.in-Ok.ensures.leaver in
    let read =
    row_kept (rhs_problem c.args.self.now.lp.now c.args.self.now.shift.now) c.args.basis.now c.args.workspace.now c.entering.new.workspace
    c.requires.workspace c.in_ok-chosen.ensures.others c.in_ok-chosen.ensures.places in
    let last =
    direction_kept
    (rhs_problem c.args.self.now.lp.now c.args.self.now.shift.now) c.args.basis.now c.entering.new.workspace c.return_of.new.workspace read
    c.in_ok-by.ensures.others c.in_ok-by.ensures.places in
    let left = c.if-left-eq0.false in
    let by_is : c.in_ok-by.by ≡ return_by c.args.self.now.lp.now (value_at c.return_of.new.workspace.point.items)
    (value_at c.return_of.new.workspace.direction) c.in-Some.leaver.r (goes_to c.in-Some.leaver) = c.in_ok-by.ensures.blocking_variable in
    let moves : IsRhsFace c.args.self.now.lp.now c.args.self.now.shift.now c.args.theta c.args.basis.now (FaceMoves (move_by c.in-Some-chosen.q c.in_ok-by.by))
    = subst (λ (b : BlockingVariable). IsRhsFace c.args.self.now.lp.now c.args.self.now.shift.now c.args.theta c.args.basis.now
    (FaceMoves (move_by c.in-Some-chosen.q b))) (sym by_is)
    (face_moves c.args.self.now.lp.now c.args.self.now.shift.now c.requires.fits.lawful c.requires.fits.no_change c.args.theta c.args.basis.now at
    (value_at c.return_of.new.workspace.point.items) (value_at c.return_of.new.workspace.change.items) last.point last.change c.in-Some.leaver found
    (value_at c.entering.new.workspace.prices.items)
    (value_at c.entering.new.workspace.row.items) read.prices c.in_ok-chosen.ensures.row c.in-Some-chosen.q
    (sym c.in_ok-chosen.ensures.chosen ∙ c.in-Some-chosen.is)) in
    let pivot : value_at c.return_of.new.workspace.direction c.in_ok-by.by.p ≢ zero_ℚ
    = subst (λ (b : BlockingVariable). value_at c.return_of.new.workspace.direction b.p ≢ zero_ℚ) (sym by_is)
    (face_pivot c.args.self.now.lp.now c.args.self.now.shift.now c.requires.fits.lawful c.requires.fits.no_change c.args.theta c.args.basis.now at
    (value_at c.return_of.new.workspace.point.items) (value_at c.return_of.new.workspace.change.items) last.point last.change c.in-Some.leaver found
    (value_at c.entering.new.workspace.prices.items)
    (value_at c.entering.new.workspace.row.items) read.prices c.in_ok-chosen.ensures.row c.in-Some-chosen.q
    (sym c.in_ok-chosen.ensures.chosen ∙ c.in-Some-chosen.is) c.requires.optimal
    (value_at c.return_of.new.workspace.direction) c.in_ok-by.ensures.direction) in
    let step : IsStepBy c.args.self.now.lp.now c.args.basis.now (value_at c.return_of.new.workspace.point.items)
    (value_at c.return_of.new.workspace.direction) c.in-Some-chosen.q c.in_ok-by.by
    = subst (λ (b : BlockingVariable). IsStepBy c.args.self.now.lp.now c.args.basis.now (value_at c.return_of.new.workspace.point.items)
    (value_at c.return_of.new.workspace.direction) c.in-Some-chosen.q b) (sym by_is)
    (face_step c.args.self.now.lp.now c.args.self.now.shift.now c.requires.fits.lawful c.requires.fits.no_change c.args.theta c.args.basis.now at
    (value_at c.return_of.new.workspace.point.items) (value_at c.return_of.new.workspace.change.items) last.point last.change c.in-Some.leaver found
    (value_at c.entering.new.workspace.prices.items)
    (value_at c.entering.new.workspace.row.items) read.prices c.in_ok-chosen.ensures.row c.in-Some-chosen.q
    (sym c.in_ok-chosen.ensures.chosen ∙ c.in-Some-chosen.is) c.requires.optimal (value_at c.return_of.new.workspace.direction)) in
    let reach =
    step_reaches c.args.self.now.lp.now c.args.basis.now (value_at c.return_of.new.workspace.point.items)
    (value_at c.return_of.new.workspace.direction) c.in-Some-chosen.q c.in_ok-by.by step pivot in
    record {
      moves = moves;
      keeps =
          subst (λ (b : BlockingVariable). IsOptimalBasis (rhs_family c.args.self.now.lp.now c.args.self.now.shift.now c.args.theta)
          (after c.args.basis.now (move_by c.in-Some-chosen.q b))) (sym by_is)
          (face_keeps c.args.self.now.lp.now c.args.self.now.shift.now c.requires.fits.lawful c.requires.fits.no_change c.args.theta c.args.basis.now at
          (value_at c.return_of.new.workspace.point.items)
          (value_at c.return_of.new.workspace.change.items) last.point last.change c.in-Some.leaver found
          (value_at c.entering.new.workspace.prices.items)
          (value_at c.entering.new.workspace.row.items) read.prices c.in_ok-chosen.ensures.row c.in-Some-chosen.q
          (sym c.in_ok-chosen.ensures.chosen ∙ c.in-Some-chosen.is) c.requires.optimal);
      ready =
          record {
            nonbasic = face_enters c.args.self.now.lp.now c.args.self.now.shift.now c.requires.fits.lawful c.requires.fits.no_change c.args.theta
                c.args.basis.now at (value_at c.return_of.new.workspace.point.items) (value_at c.return_of.new.workspace.change.items) last.point last.change
                c.in-Some.leaver found (value_at c.entering.new.workspace.prices.items) (value_at c.entering.new.workspace.row.items) read.prices
                c.in_ok-chosen.ensures.row c.in-Some-chosen.q (sym c.in_ok-chosen.ensures.chosen ∙ c.in-Some-chosen.is) c.requires.optimal;
            direction =
                c.in_ok-by.ensures.direction;
            pivot = pivot;
            step = step;
          };
      is_left = omega (arith, left);
      refused = λ from before now e h.
          of_step c.args.self.now.lp.now c.args.self.now.shift.now c.requires.fits.lawful c.requires.fits.no_change c.args.theta c.args.basis.now at
          (value_at c.return_of.new.workspace.point.items)
          (value_at c.return_of.new.workspace.change.items) last.point last.change from c.args.left before now e c.in-Some-chosen.q c.in_ok-by.by moves
          (limit_apart c.args.self.now.lp.now c.in_ok-by.by.p c.in_ok-by.by.to reach.limit reach.is_limit).0 (omega (arith, left)) h;
    }

pub returns-clause-workspace : goal.returns-clause-workspace
returns-clause-workspace g c =
    let read =
    row_kept (rhs_problem c.args.self.now.lp.now c.args.self.now.shift.now) c.args.basis.now c.args.workspace.now c.entering.new.workspace
    c.requires.workspace c.in_ok-chosen.ensures.others c.in_ok-chosen.ensures.places in
    direction_kept
    (rhs_problem c.args.self.now.lp.now c.args.self.now.shift.now) c.args.basis.now c.entering.new.workspace c.return_of.new.workspace read
    c.in_ok-by.ensures.others c.in_ok-by.ensures.places

pub returns-in_default-chosen-clause-workspace : goal.returns-in_default-chosen-clause-workspace
returns-in_default-chosen-clause-workspace g c =
    row_kept (rhs_problem c.args.self.now.lp.now c.args.self.now.shift.now) c.args.basis.now c.args.workspace.now c.entering.new.workspace
    c.requires.workspace c.in_ok-chosen.ensures.others c.in_ok-chosen.ensures.places

pub returns-clause-rates : goal.returns-clause-rates
returns-clause-rates g c =
    kept_then c.in_ok-chosen.ensures.rates c.in_ok-by.ensures.rates
