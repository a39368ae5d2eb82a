use Rattle.std.proofs.Common.{rules, ◌≡◌, Err, inl, inr, sym, ◌∙◌, ap, subst}
use Rattle.exact_values.specs.Rational.{◌-ℚ◌}
use Rattle.frac128.specs.declared.Op.TheVariants.{Sub}
use Rattle.simplex_definitions.specs.RhsRun.{shift_of}
use Rattle.basis_values.specs.Formulas.{IsRefusal}
use Rattle.basis_values.specs.declared.formula.Formula.{Formula}
use Rattle.para_rhs.specs.Limits.{number_of}
use Rattle.para_rhs.specs.Reach.{side_ahead, of_distance, basic_formula}
use Rattle.para_rhs.proofs.Narrowing.{apart_if_ahead}
use Rattle.para_rhs.proofs.reaching.approach_of.Goals as goal

pub returns-in_default-clause-approach : goal.returns-in_default-clause-approach
returns-in_default-clause-approach c = inl (ap (side_ahead c.args.slope) (sym c.shift_of-by.ensures) ∙ sym c.side_ahead.ensures ∙ c.in_default.is)

pub returns-in_default-limit_on-clause-approach : goal.returns-in_default-limit_on-clause-approach
returns-in_default-limit_on-clause-approach c =
    inr (
      c.in-Some.side,
      (ap (side_ahead c.args.slope) (sym c.shift_of-by.ensures) ∙ sym c.side_ahead.ensures ∙ c.in-Some.is, sym c.limit_on.ensures ∙ c.in_default-limit_on.is),
    )

pub returns-in_err-closing-clause-moves : goal.returns-in_err-closing-clause-moves
returns-in_err-closing-clause-moves c =
    let is_err : c.from_residual.result ≡ Err c.in_err-closing.field-0.0 = search rules in
    rw is_err
    (apart_if_ahead c.args.slope (shift_of c.args.lp.now.matrix c.args.shift.now c.args.k) c.in-Some.side
    (ap (side_ahead c.args.slope) (sym c.shift_of-by.ensures) ∙ sym c.side_ahead.ensures ∙ c.in-Some.is))

pub returns-in_err-distance-clause-moves : goal.returns-in_err-distance-clause-moves
returns-in_err-distance-clause-moves c =
    let is_err : c.from_residual-in_err-distance.result ≡ Err c.in_err-distance.field-0.0 = search rules in
    rw is_err
    (apart_if_ahead c.args.slope (shift_of c.args.lp.now.matrix c.args.shift.now c.args.k) c.in-Some.side
    (ap (side_ahead c.args.slope) (sym c.shift_of-by.ensures) ∙ sym c.side_ahead.ensures ∙ c.in-Some.is))

pub returns-in_err-distance-clause-refused : goal.returns-in_err-distance-clause-refused
returns-in_err-distance-clause-refused c =
    let is_err : c.from_residual-in_err-distance.result ≡ Err c.in_err-distance.field-0.0 = search rules in
    let named : c.formula-2.result ≡ basic_formula 6 c.args.k (number_of c.in-Some.side) =
    c.formula-2.ensures ∙ ap (λ n. basic_formula 6 c.args.k n) c.number_of.ensures in
    rw is_err
    (of_distance c.in-Some.side c.in-Some-limit_on.limit (sym c.limit_on.ensures ∙ c.in-Some-limit_on.is)
    (subst (λ (f : Formula). IsRefusal f Sub c.in-Some-limit_on.limit c.args.value c.in_err-distance.field-0.0) named c.in_err-distance.ensures.refused))

pub returns-clause-approach : goal.returns-clause-approach
returns-clause-approach c = record {
  limit = c.in-Some-limit_on.limit;
  is_ahead = ap (side_ahead c.args.slope) (sym c.shift_of-by.ensures) ∙ sym c.side_ahead.ensures ∙ c.in-Some.is;
  is_limit = sym c.limit_on.ensures ∙ c.in-Some-limit_on.is;
  is_closing = c.in_ok-closing.ensures.value ∙ ap (λ x. c.args.slope -ℚ x) c.shift_of-by.ensures;
  is_distance = c.in_ok-distance.ensures.value;
}
