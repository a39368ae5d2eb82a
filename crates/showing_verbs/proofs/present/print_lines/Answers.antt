use Rattle.std.proofs.Common.{List, length, ap, subst, ◌∙◌}
use Rattle.std.proofs.lemmas.Result.{err_from_is_err_and}
use Rattle.exact_values.specs.Rational.{ℚ}
use Rattle.listing_tables.specs.Lines.{solution_lines}
use Rattle.fitting_answers.specs.Fitting.{SolutionFits}
use Rattle.showing_verbs.proofs.Showing.{lines_reported, lines_cut}
use Rattle.showing_verbs.proofs.present.print_lines.Goals as goal

pub text_of-requires : goal.text_of-requires
text_of-requires g c = record {
  is_sheet = c.requires.sheet;
  is_standing = record {
    basis = c.requires.listed.basis;
    point = c.requires.listed.point;
    prices = c.requires.listed.prices;
    slack = ap length c.deref-2.ensures.value ∙ c.requires.listed.slack;
    no_change = c.requires.no_change;
  };
}

pub returns-in_err-text_of : goal.returns-in_err-text_of
returns-in_err-text_of g c = λ before.
    let fit =
    subst (λ (slack : List ℚ). SolutionFits
    (solution_lines c.args.sheet.problem.now c.args.sheet.lp.now c.args.basis.now c.args.viewed.now.point c.args.viewed.now.prices slack))
    c.deref.ensures.value c.recall_solution.ensures in
    let p = err_from_is_err_and c.from_residual.result c.from_residual.ensures.1 in
    rw (p.1, p.2)
    (lines_cut c.args.sheet c.args.basis.now before c.args.mark c.args.viewed.now.point c.args.viewed.now.prices c.args.viewed.now.slack.items
    c.deref-2.result.now c.deref-2.ensures.value
    c.requires.viewed fit _ c.in_err-text_of.ensures)

pub returns : goal.returns
returns g c = λ before.
    let fit =
    subst (λ (slack : List ℚ). SolutionFits
    (solution_lines c.args.sheet.problem.now c.args.sheet.lp.now c.args.basis.now c.args.viewed.now.point c.args.viewed.now.prices slack))
    c.deref.ensures.value c.recall_solution.ensures in
    lines_reported c.args.sheet c.args.basis.now before c.args.mark c.args.viewed.now.point c.args.viewed.now.prices c.args.viewed.now.slack.items
    c.deref-2.result.now c.deref-2.ensures.value
    c.requires.viewed fit c.in_ok-text_of.ensures
