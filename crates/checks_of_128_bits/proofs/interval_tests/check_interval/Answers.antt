use Rattle.std.proofs.Common.{◌||◌, ◌&&◌, [], ◌∷◌, refl, ap, subst}
use Rattle.exact_values.specs.Tests.{lt_ℚ, le_ℚ, eq_ℚ}
use Rattle.check_definitions.specs.declared.Verdict.{Verdict}
use Rattle.check_definitions.specs.Steps.{verdict_of, in_turn}
use Rattle.parametric_request.specs.Asking.{changing_of}
use Rattle.walk_definitions.specs.Tests.{asked, keeping_steps}
use Rattle.listing_words.specs.Read.{sheet_view}
use Rattle.listing_claims.specs.Passing.{Judges}
use Rattle.checks_of_128_bits.specs.Intervals.{end_verdict}
use Rattle.listing_claims.proofs.Passing.{then_by, last_by}
use Rattle.checks_of_128_bits.proofs.Ends.{are_ends, kept_is}
use Rattle.checks_of_128_bits.proofs.interval_tests.check_interval.Goals as goal

pub check_kept-requires : goal.check_kept-requires
check_kept-requires c =
    let sheet = sheet_view c.args.run.now.sheet in
    let changing = changing_of c.args.run.now.request.now.name c.args.run.now.request.now.change in
    are_ends sheet changing c.args.interval.now.from c.args.interval.now.to c.args.interval.now.columns c.requires.counted c.in_ok-start.start c.in_ok-end.end
    c.in_ok-start.ensures.1 c.in_ok-end.ensures.1

pub returns : goal.returns
returns c =
    let sheet = sheet_view c.args.run.now.sheet in
    let changing = changing_of c.args.run.now.request.now.name c.args.run.now.request.now.change in
    let from = c.args.interval.now.from in
    let to = c.args.interval.now.to in
    let columns = c.args.interval.now.columns in
    let max = c.args.run.now.request.now.to in
    let goes = asked (lt_ℚ from to || (c.args.is_first && eq_ℚ from to)) in
    let within = asked (le_ℚ to max) in
    let first = end_verdict sheet changing from columns in
    let last = end_verdict sheet changing to columns in
    let keeping = verdict_of (keeping_steps sheet changing from to columns.value.items columns.value_rate.items columns.price.items columns.price_rate.items) in
    let result = c.check_kept.result in
    let kept = kept_is sheet changing from to columns c.requires.counted c.in_ok-start.start c.in_ok-end.end c.in_ok-start.ensures.1 c.in_ok-end.ensures.1 in
    then_by (asked c.goes_on.result) goes (in_turn (within ∷ first ∷ last ∷ keeping ∷ [])) result (ap asked c.goes_on.ensures) c.in_ok-ask.ensures
    (then_by (asked c.is_at_most.result) within (in_turn (first ∷ last ∷ keeping ∷ [])) result (ap asked c.is_at_most.ensures) c.in_ok-ask-2.ensures
    (then_by first first (in_turn (last ∷ keeping ∷ [])) result refl c.in_ok-start.ensures.0
    (then_by last last (in_turn (keeping ∷ [])) result refl c.in_ok-end.ensures.0
    (last_by keeping keeping result refl (subst (λ (v : Verdict). Judges v result) kept c.check_kept.ensures)))))
