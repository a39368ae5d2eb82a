use Rattle.std.proofs.Common.{◌≡◌, [], ◌∷◌, length, refl, ap, sym, subst, ◌∙◌}
use Rattle.lp_definitions.specs.LinearProgram.{LinearProgram, size}
use Rattle.check_definitions.specs.declared.Verdict.{Verdict}
use Rattle.check_definitions.specs.declared.Verdict.TheVariants.{Checked}
use Rattle.check_definitions.specs.Steps.{verdict_of, in_turn}
use Rattle.check_definitions.specs.Checks.{optimal_check}
use Rattle.simplex_definitions.specs.Chain.{along}
use Rattle.answer_definitions.specs.ParametricRuns.{family_of}
use Rattle.parametric_request.specs.Asking.{changing_of}
use Rattle.walk_definitions.specs.Tests.{making_steps, along_steps}
use Rattle.listing_words.specs.Read.{sheet_view}
use Rattle.listing_claims.specs.Passing.{Stops}
use Rattle.checks_of_128_bits.specs.Intervals.{IsEnd, end_verdict}
use Rattle.listing_claims.proofs.Passing.{stops_first, stops_next, both_pass}
use Rattle.checks_of_128_bits.proofs.Passing.{made_handed}
use Rattle.checks_of_128_bits.proofs.Ends.{along_given, along_counted, best_given}
use Rattle.checks_of_128_bits.proofs.Carried.{family_matrix}
use Rattle.checks_of_128_bits.proofs.interval_tests.check_end.Goals as goal

pub check_optimal-requires-clause-point_places : goal.check_optimal-requires-clause-point_places
check_optimal-requires-clause-point_places c =
    let sheet = sheet_view c.args.run.now.sheet in
    let changing = changing_of c.args.run.now.request.now.name c.args.run.now.request.now.change in
    ap length c.deref-5.ensures.value
    ∙ along_counted sheet.lp (along c.args.theta c.deref.result.now c.deref-2.result.now) c.in_ok-point.point.items c.in_ok-point.ensures.1
    ∙ sym (ap size (ap (λ (p : LinearProgram). p.matrix) c.in_ok-program.ensures.1 ∙ family_matrix sheet changing c.args.theta))

pub check_optimal-requires-clause-price_places : goal.check_optimal-requires-clause-price_places
check_optimal-requires-clause-price_places c =
    let sheet = sheet_view c.args.run.now.sheet in
    let changing = changing_of c.args.run.now.request.now.name c.args.run.now.request.now.change in
    ap length c.deref-6.ensures.value
    ∙ along_counted sheet.lp (along c.args.theta c.deref-3.result.now c.deref-4.result.now) c.in_ok-prices.prices.items c.in_ok-prices.ensures.1
    ∙ sym (ap size (ap (λ (p : LinearProgram). p.matrix) c.in_ok-program.ensures.1 ∙ family_matrix sheet changing c.args.theta))

pub returns-in_err-judge : goal.returns-in_err-judge
returns-in_err-judge c =
    let sheet = sheet_view c.args.run.now.sheet in
    let changing = changing_of c.args.run.now.request.now.name c.args.run.now.request.now.change in
    let theta = c.args.theta in
    let columns = c.args.columns.now in
    let making = verdict_of (making_steps sheet changing theta) in
    let values = verdict_of (along_steps sheet theta columns.value.items columns.value_rate.items) in
    let prices = verdict_of (along_steps sheet theta columns.price.items columns.price_rate.items) in
    let best =
    optimal_check (family_of sheet changing theta) (along theta columns.value.items columns.value_rate.items)
    (along theta columns.price.items columns.price_rate.items) in
    let point_made =
    along_given sheet theta c.deref.result.now c.deref-2.result.now columns.value.items columns.value_rate.items c.in_ok-point.point.items
    c.deref.ensures.value c.deref-2.ensures.value c.in_ok-point.ensures.0 c.in_ok-point.ensures.1 in
    let prices_made =
    along_given sheet theta c.deref-3.result.now c.deref-4.result.now columns.price.items columns.price_rate.items c.in_ok-prices.prices.items
    c.deref-3.ensures.value c.deref-4.ensures.value c.in_ok-prices.ensures.0 c.in_ok-prices.ensures.1 in
    let is : c.check_optimal.result ≡ best =
    c.check_optimal.ensures.exact
    ∙ best_given sheet changing theta columns c.requires.counted c.in_ok-program.program c.deref-5.result.now c.deref-6.result.now c.in_ok-point.point.items
    c.in_ok-prices.prices.items c.in_ok-program.ensures.1 c.deref-5.ensures.value c.deref-6.ensures.value
    point_made.1 prices_made.1 in
    let stop = c.in_err-judge.field-0.0 in
    made_handed (IsEnd sheet changing theta columns) (end_verdict sheet changing theta columns) c.from_residual-in_err-judge.result stop
    (stops_next stop making (in_turn (values ∷ prices ∷ best ∷ [])) c.in_ok-program.ensures.0
    (stops_next stop values (in_turn (prices ∷ best ∷ [])) point_made.0
    (stops_next stop prices (in_turn (best ∷ [])) prices_made.0
    (stops_first stop best Checked (subst (λ (v : Verdict). Stops stop v) is c.in_err-judge.ensures)))))
    c.from_residual-in_err-judge.ensures.1

pub returns : goal.returns
returns c =
    let sheet = sheet_view c.args.run.now.sheet in
    let changing = changing_of c.args.run.now.request.now.name c.args.run.now.request.now.change in
    let theta = c.args.theta in
    let columns = c.args.columns.now in
    let making = verdict_of (making_steps sheet changing theta) in
    let values = verdict_of (along_steps sheet theta columns.value.items columns.value_rate.items) in
    let prices = verdict_of (along_steps sheet theta columns.price.items columns.price_rate.items) in
    let best =
    optimal_check (family_of sheet changing theta) (along theta columns.value.items columns.value_rate.items)
    (along theta columns.price.items columns.price_rate.items) in
    let point_made =
    along_given sheet theta c.deref.result.now c.deref-2.result.now columns.value.items columns.value_rate.items c.in_ok-point.point.items
    c.deref.ensures.value c.deref-2.ensures.value c.in_ok-point.ensures.0 c.in_ok-point.ensures.1 in
    let prices_made =
    along_given sheet theta c.deref-3.result.now c.deref-4.result.now columns.price.items columns.price_rate.items c.in_ok-prices.prices.items
    c.deref-3.ensures.value c.deref-4.ensures.value c.in_ok-prices.ensures.0 c.in_ok-prices.ensures.1 in
    let is : c.check_optimal.result ≡ best =
    c.check_optimal.ensures.exact
    ∙ best_given sheet changing theta columns c.requires.counted c.in_ok-program.program c.deref-5.result.now c.deref-6.result.now c.in_ok-point.point.items
    c.in_ok-prices.prices.items c.in_ok-program.ensures.1 c.deref-5.ensures.value c.deref-6.ensures.value
    point_made.1 prices_made.1 in (
      both_pass making (in_turn (values ∷ prices ∷ best ∷ [])) c.in_ok-program.ensures.0
          (both_pass values (in_turn (prices ∷ best ∷ [])) point_made.0
          (both_pass prices (in_turn (best ∷ [])) prices_made.0 (both_pass best Checked (sym is ∙ c.in_ok-judge.ensures) refl))),
      record { program = c.in_ok-program.ensures.1; point = point_made.1; prices = prices_made.1 },
    )
