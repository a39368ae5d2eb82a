use Rattle.std.proofs.Common.{rules, ◌≡◌, None, sym, ◌∙◌, to_z, of_z, w8}
use Rattle.std.proofs.lemmas.Int.{to_z-of_z}
use Rattle.simplex_definitions.specs.Moves.{signed}
use Rattle.basis_values.proofs.Lengths.{ahead_of_rising, ahead_of_falling, none_ahead_of_falling, none_ahead_at_rest}
use Rattle.basis_values.proofs.reach.limit_before.Goals as goal

pub returns-in_ok-upper : goal.returns-in_ok-upper
returns-in_ok-upper c =
    ahead_of_rising c.args.lp.now c.args.k (signed c.args.up c.args.rate.now) (to_z w8 (of_z w8 c.counted_sign-sign.result))
    (to_z-of_z w8 c.counted_sign-sign.result (search rules) ∙ c.counted_sign-sign.ensures) c.in_ok-upper.upper c.if-sign-gt0.true
    (sym c.upper_limit.ensures ∙ c.in_ok-upper.was)

pub returns-in_ok-lower : goal.returns-in_ok-lower
returns-in_ok-lower c =
    ahead_of_falling c.args.lp.now c.args.k (signed c.args.up c.args.rate.now) (to_z w8 (of_z w8 c.counted_sign-sign.result))
    (to_z-of_z w8 c.counted_sign-sign.result (search rules) ∙ c.counted_sign-sign.ensures) c.in_ok-lower.lower c.if-sign-lt0.true
    (sym c.lower_limit.ensures ∙ c.in_ok-lower.was)

pub returns-in_err-lower : goal.returns-in_err-lower
returns-in_err-lower c =
    let is_none : c.from_residual-in_err-lower.result ≡ None = search rules in
    rw is_none
    (none_ahead_of_falling c.args.lp.now c.args.k (signed c.args.up c.args.rate.now) (to_z w8 (of_z w8 c.counted_sign-sign.result))
    (to_z-of_z w8 c.counted_sign-sign.result (search rules) ∙ c.counted_sign-sign.ensures) c.if-sign-lt0.true
    (sym c.lower_limit.ensures ∙ c.in_err-lower.was))

pub returns-else-sign-lt0 : goal.returns-else-sign-lt0
returns-else-sign-lt0 c =
    none_ahead_at_rest c.args.lp.now c.args.k (signed c.args.up c.args.rate.now) (to_z w8 (of_z w8 c.counted_sign-sign.result))
    (to_z-of_z w8 c.counted_sign-sign.result (search rules) ∙ c.counted_sign-sign.ensures) c.if-sign-gt0.false c.if-sign-lt0.false
