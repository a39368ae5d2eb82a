use Rattle.std.proofs.Common.{◌≡◌, ◌∙◌, sym, ap, ap₂, subst, subst₂, rules, arith}
use Rattle.exact_values.specs.Rational.{◌-ℚ◌}
use Rattle.frac128.specs.declared.Op.TheVariants.{Sub}
use Rattle.lp_definitions.specs.LinearProgram.{value_at}
use Rattle.basis_values.specs.Formulas.{IsRefusal}
use Rattle.basis_values.specs.declared.formula.Formula.{Formula}
use Rattle.basis_values.proofs.TermLaws.{IfErr-map}
use Rattle.ranging.proofs.Results.{IfOk-map}
use Rattle.verb_answers.proofs.slack.slack_of.Goals as goal
use Rattle.lp_laws.proofs.Places.{value_read}

pub returns-clause-value : goal.returns-clause-value
returns-clause-value c =
    let sides : c.args.lp.now.rhs ≡ c.lp.inside.rhs.items = search rules in
    let rows : c.args.lp.now.matrix.rows ≡ c.lp.inside.rows = search rules in
    let side =
    value_read c.lp.inside.rhs.items c.args.i c.index-side.result.now
    (omega (arith, c.requires.row.0, c.requires.row.1, rows, c.lp.invariant.rhs_counted)) c.index-side.ensures in
    let activity =
    value_read c.args.point.now c.args.i c.index-point-i.result (omega (arith, c.requires.row.0, c.requires.row.1, c.requires.places)) c.index-point-i.is in
    IfOk-map c.difference.result (λ slack is. is ∙ ap₂ ◌-ℚ◌ (side ∙ sym (ap (λ xs. value_at xs c.args.i) sides)) activity) c.difference.ensures.value

pub returns-clause-refused : goal.returns-clause-refused
returns-clause-refused c =
    let sides : c.args.lp.now.rhs ≡ c.lp.inside.rhs.items = search rules in
    let rows : c.args.lp.now.matrix.rows ≡ c.lp.inside.rows = search rules in
    let side =
    value_read c.lp.inside.rhs.items c.args.i c.index-side.result.now
    (omega (arith, c.requires.row.0, c.requires.row.1, rows, c.lp.invariant.rhs_counted)) c.index-side.ensures in
    let activity =
    value_read c.args.point.now c.args.i c.index-point-i.result (omega (arith, c.requires.row.0, c.requires.row.1, c.requires.places)) c.index-point-i.is in
    IfErr-map c.difference.result
    (λ e h. subst (λ (f : Formula). IsRefusal f Sub (value_at c.args.lp.now.rhs c.args.i) (value_at c.args.point.now c.args.i) e) c.distance_formula.ensures
    (subst₂ (λ a b. IsRefusal c.distance_formula.result Sub a b e)
    (side ∙ sym (ap (λ xs. value_at xs c.args.i) sides)) activity h)) c.difference.ensures.refused
