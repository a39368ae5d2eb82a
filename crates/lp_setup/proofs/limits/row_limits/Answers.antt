-- A refused sum is that of the row's range, by the operation that its type asks for.
use Rattle.std.proofs.Common.{◌≡◌, Some, refl, sym, ◌∙◌, true, false}
use Rattle.exact_values.specs.Rational.{zero_ℚ}
use Rattle.exact_values.specs.Tests.{lt_ℚ}
use Rattle.frac128.specs.declared.Op.TheVariants.{Add, Sub}
use Rattle.selection_definitions.specs.Limits.{range_operation}
use Rattle.lp_setup.proofs.Refusals.{range_refused, range_made, downward, upward}
use Rattle.lp_setup.proofs.limits.row_limits.Goals as goal

pub returns-in-G-clause-made : goal.returns-in-G-clause-made
returns-in-G-clause-made c =
    let asked : range_operation c.args.kind c.in-Some.range ≡ Some Add = rw c.in-G.is refl in
    range_made c.args.kind c.args.side c.args.range c.in-Some.range c.magnitude-size.result Add c.up_from.result c.in-Some.is c.magnitude-size.ensures asked
    c.up_from.ensures.made

pub returns-in-G-clause-refused : goal.returns-in-G-clause-refused
returns-in-G-clause-refused c =
    let asked : range_operation c.args.kind c.in-Some.range ≡ Some Add = rw c.in-G.is refl in
    range_refused c.args.kind c.args.side c.args.range c.in-Some.range c.magnitude-size.result Add c.up_from.result c.in-Some.is c.magnitude-size.ensures
    asked c.up_from.ensures.refused

pub returns-in-L-clause-made : goal.returns-in-L-clause-made
returns-in-L-clause-made c =
    let asked : range_operation c.args.kind c.in-Some.range ≡ Some Sub = rw c.in-L.is refl in
    range_made c.args.kind c.args.side c.args.range c.in-Some.range c.magnitude-size.result Sub c.down_from.result c.in-Some.is c.magnitude-size.ensures asked
    c.down_from.ensures.made

pub returns-in-L-clause-refused : goal.returns-in-L-clause-refused
returns-in-L-clause-refused c =
    let asked : range_operation c.args.kind c.in-Some.range ≡ Some Sub = rw c.in-L.is refl in
    range_refused c.args.kind c.args.side c.args.range c.in-Some.range c.magnitude-size.result Sub c.down_from.result c.in-Some.is c.magnitude-size.ensures
    asked c.down_from.ensures.refused

pub returns-then-is_negative-clause-refused : goal.returns-then-is_negative-clause-refused
returns-then-is_negative-clause-refused c =
    let negative : lt_ℚ c.in-Some.range zero_ℚ ≡ true = sym c.is_negative.ensures ∙ c.if-is_negative.true in
    range_refused c.args.kind c.args.side c.args.range c.in-Some.range c.magnitude-size.result Sub c.down_from-then-is_negative.result c.in-Some.is
    c.magnitude-size.ensures
    (downward c.args.kind c.in-Some.range c.in-E.is negative) c.down_from-then-is_negative.ensures.refused

pub returns-else-is_negative-clause-refused : goal.returns-else-is_negative-clause-refused
returns-else-is_negative-clause-refused c =
    let positive : lt_ℚ c.in-Some.range zero_ℚ ≡ false = sym c.is_negative.ensures ∙ c.if-is_negative.false in
    range_refused c.args.kind c.args.side c.args.range c.in-Some.range c.magnitude-size.result Add c.up_from-in-E.result c.in-Some.is c.magnitude-size.ensures
    (upward c.args.kind c.in-Some.range c.in-E.is positive) c.up_from-in-E.ensures.refused

pub returns-then-is_negative-clause-made : goal.returns-then-is_negative-clause-made
returns-then-is_negative-clause-made c =
    let negative : lt_ℚ c.in-Some.range zero_ℚ ≡ true = sym c.is_negative.ensures ∙ c.if-is_negative.true in
    range_made c.args.kind c.args.side c.args.range c.in-Some.range c.magnitude-size.result Sub c.down_from-then-is_negative.result c.in-Some.is
    c.magnitude-size.ensures
    (downward c.args.kind c.in-Some.range c.in-E.is negative) c.down_from-then-is_negative.ensures.made

pub returns-else-is_negative-clause-made : goal.returns-else-is_negative-clause-made
returns-else-is_negative-clause-made c =
    let positive : lt_ℚ c.in-Some.range zero_ℚ ≡ false = sym c.is_negative.ensures ∙ c.if-is_negative.false in
    range_made c.args.kind c.args.side c.args.range c.in-Some.range c.magnitude-size.result Add c.up_from-in-E.result c.in-Some.is c.magnitude-size.ensures
    (upward c.args.kind c.in-Some.range c.in-E.is positive) c.up_from-in-E.ensures.made
