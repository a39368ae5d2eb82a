use Rattle.std.proofs.Common.{◌≡◌, Some, None, rules}
use Rattle.affine_laws.proofs.Bounds.{first_end, kept_end, kept_before, made_end}
use Rattle.affine_laws.proofs.tightening.nearer.Goals as goal

pub returns-in_default-clause-nearer : goal.returns-in_default-clause-nearer
returns-in_default-clause-nearer c =
    let none : c.args.kept ≡ None = search rules in
    first_end c.args.high c.args.bound.now c.requires.slope c.requires.side c.args.kept none c.in_ok-made.made c.in_ok-made.ensures.value

pub returns-then-holds_at-clause-nearer : goal.returns-then-holds_at-clause-nearer
returns-then-holds_at-clause-nearer c =
    let is : c.args.kept ≡ Some c.in-Some.present = cc in
    kept_end c.args.high c.args.bound.now c.requires.slope c.requires.side c.args.kept c.in-Some.present is (c.holds_at.ensures c.if-holds_at.true)

pub returns-then-is_within-clause-nearer : goal.returns-then-is_within-clause-nearer
returns-then-is_within-clause-nearer c =
    let is : c.args.kept ≡ Some c.in-Some.present = cc in
    kept_before c.args.high c.args.bound.now c.requires.slope c.requires.side c.args.kept c.in-Some.present is c.in_ok-made-2.made c.in_ok-made-2.ensures.value
    (c.is_within.ensures.0 c.if-is_within.true)

pub returns-clause-nearer : goal.returns-clause-nearer
returns-clause-nearer c =
    let is : c.args.kept ≡ Some c.in-Some.present = cc in
    made_end c.args.high c.args.bound.now c.requires.slope c.requires.side c.args.kept c.in-Some.present is c.in_ok-made-2.made c.in_ok-made-2.ensures.value
    c.is_within.result c.if-is_within.false c.is_within.ensures.1
