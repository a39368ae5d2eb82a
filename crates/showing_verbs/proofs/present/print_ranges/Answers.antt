use Rattle.std.proofs.lemmas.Result.{err_from_is_err_and}
use Rattle.showing_verbs.proofs.Ranging.{ranges_reported, ranges_cut}
use Rattle.showing_verbs.proofs.present.print_ranges.Goals as goal

pub text_of-requires : goal.text_of-requires
text_of-requires g c = record {
  is_sheet = c.requires.sheet;
  is_ranging = record {
    basis = c.requires.listed.basis;
    point = c.requires.listed.point;
    no_change = c.requires.no_change;
  };
}

pub returns-in_err-text_of : goal.returns-in_err-text_of
returns-in_err-text_of g c = λ before.
    let p = err_from_is_err_and c.from_residual.result c.from_residual.ensures.1 in
    rw (p.1, p.2)
    (ranges_cut c.args.sheet c.args.basis.now before c.args.ranged.now.point c.args.ranged.now.report c.requires.ranged _ c.in_err-text_of.ensures)

pub returns : goal.returns
returns g c = λ before.
    ranges_reported c.args.sheet c.args.basis.now before c.args.ranged.now.point c.args.ranged.now.report c.requires.ranged c.in_ok-text_of.ensures
