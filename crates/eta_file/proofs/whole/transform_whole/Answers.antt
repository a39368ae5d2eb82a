use Rattle.std.proofs.Common.{rules, ◌≡◌, ◌∙◌, sym, ap, length, All, subst, IfSome, to_z}
use Rattle.std.specs.Int.{w128}
use Rattle.std.proofs.lemmas.Int.{to_z-of_z}
use Rattle.exact_values.specs.Rational.{ℚ, whole, zero_ℚ, ◌*ℚ◌, ◌/ℚ◌}
use Rattle.lp_definitions.specs.LinearProgram.{value_at}
use Rattle.whole_vectors.specs.Quotients.{quotients, Represent}
use Rattle.eta_file.proofs.FileLaws.{some_map}
use Rattle.eta_file.specs.Entries.{IsEntryWithin, IsWholeOf}
use Rattle.eta_file.specs.Transformations.{IsTransformed}
use Rattle.eta_file.proofs.WholeSteps.{whole_within, whole_pivot_apart, transformed_whole, untouched_whole}
use Rattle.eta_file.proofs.whole.transform_whole.Goals as goal

pub returns-then-lead-eq0-clause-transformed : goal.returns-then-lead-eq0-clause-transformed
returns-then-lead-eq0-clause-transformed c =
    let eta = c.args.eta.now in
    let nought : value_at c.args.out.now eta.p ≡ zero_ℚ =
    ap (λ xs. value_at xs eta.p) (sym c.numbers.ensures.numbers) ∙ sym c.whole_at-lead.ensures.value
    ∙ ap whole (sym (to_z-of_z w128 c.whole_at-lead.result (search rules)) ∙ ap (to_z w128) c.if-lead-eq0.true) in
    untouched_whole eta c.args.denominator c.args.out.now c.requires.apart nought

pub whole_quotient-requires-clause-apart : goal.whole_quotient-requires-clause-apart
whole_quotient-requires-clause-apart c =
    let eta = c.args.eta.now in
    let is_whole : IsWholeOf eta.pivot eta.entries.items c.in-Some.whole =
    subst (λ o. IfSome o (IsWholeOf eta.pivot eta.entries.items)) c.in-Some.is c.requires.whole in
    whole_pivot_apart eta.pivot eta.entries.items c.in-Some.whole is_whole c.requires.places.apart

pub exchange_whole-requires-clause-entries : goal.exchange_whole-requires-clause-entries
exchange_whole-requires-clause-entries c =
    let eta = c.args.eta.now in
    let is_whole : IsWholeOf eta.pivot eta.entries.items c.in-Some.whole =
    subst (λ o. IfSome o (IsWholeOf eta.pivot eta.entries.items)) c.in-Some.is c.requires.whole in
    subst (λ n. All (IsEntryWithin n) c.in-Some.whole.entries.items) (sym (c.multiply.ensures.places ∙ c.reduce_from.ensures.places))
    (whole_within eta.pivot eta.entries.items c.in-Some.whole is_whole (length c.args.out.now) c.requires.places.entries)

pub returns-clause-transformed : goal.returns-clause-transformed
returns-clause-transformed c =
    let eta = c.args.eta.now in
    let w = c.in-Some.whole in
    let e = c.in_ok-denominator.denominator in
    let by : ℚ = c.terms-multiple.result.1 in
    let is_whole : IsWholeOf eta.pivot eta.entries.items w = subst (λ o. IfSome o (IsWholeOf eta.pivot eta.entries.items)) c.in-Some.is c.requires.whole in
    let ratio : c.in_ok-ratio.ratio ≡ value_at c.reduce_from.new.self eta.p /ℚ w.pivot =
    c.in_ok-ratio.ensures
    ∙ ap (λ x. x /ℚ w.pivot)
    (ap whole (to_z-of_z w128 c.whole_at-lead-2.result (search rules)) ∙ c.whole_at-lead-2.ensures.value
    ∙ ap (λ xs. value_at xs eta.p) c.numbers-2.ensures.numbers) in
    some_map c.product.result (λ v. v ≡ e *ℚ by) (λ v. Represent (IsTransformed eta (quotients c.args.denominator c.args.out.now)) v c.exchange_whole.new.out)
    (λ v is_v.
    transformed_whole eta w is_whole c.requires.places.apart c.args.denominator e by c.in_ok-ratio.ratio c.terms-multiple.result.0 c.args.out.now
    c.reduce_from.new.self c.multiply.new.self c.exchange_whole.new.out
    c.in_ok-denominator.ensures.same ratio c.terms-multiple.ensures.product c.terms-multiple.ensures.apart
    c.in_ok-multiply.ensures.products (c.multiply.ensures.places ∙ c.reduce_from.ensures.places) c.in_ok-exchange_whole.ensures.exchanged v is_v)
    c.product.ensures
