use Rattle.std.proofs.Common.{[], ◌∷◌, refl, ap, ap₂, ◌∙◌}
use Rattle.exact_values.specs.Tests.{le_ℚ, lt_ℚ}
use Rattle.lp_definitions.specs.LinearProgram.{value_at}
use Rattle.check_definitions.specs.Steps.{in_turn}
use Rattle.parametric_request.specs.Asking.{changing_of}
use Rattle.walk_definitions.specs.Tests.{asked}
use Rattle.listing_words.specs.Read.{sheet_view}
use Rattle.listing_claims.proofs.Passing.{exit_by, then_by, last_by}
use Rattle.checks_of_128_bits.proofs.PastFacts as facts
use Rattle.checks_of_128_bits.proofs.PastFacts.{past_is}
use Rattle.checks_of_128_bits.proofs.closing_tests.check_infeasible_past.Goals as goal

pub returns-in_err-judge : goal.returns-in_err-judge
returns-in_err-judge c =
    let sheet = sheet_view c.args.run.now.sheet in
    let changing = changing_of c.args.run.now.request.now.name c.args.run.now.request.now.change in
    let shift = c.args.shift.now in
    let t = c.args.value in
    let w = value_at c.args.ray.now in
    let q = c.in_ok-program.program in
    let making = facts.making sheet changing shift t w in
    let combined = facts.combined sheet changing shift t w q in
    let met = facts.met sheet changing shift t w q in
    let low = facts.low sheet changing shift t w q in
    let falling = facts.falling sheet changing shift t w in
    let fallen = facts.fallen sheet changing shift t w in
    let result = c.from_residual-in_err-judge.result in
    past_is sheet changing shift t w q result c.in_ok-program.ensures.1
    (then_by making making (in_turn (combined ∷ met ∷ low ∷ falling ∷ fallen ∷ [])) result refl c.in_ok-program.ensures.0
    (exit_by c.check_combination.result combined
    (in_turn (met ∷ low ∷ falling ∷ fallen ∷ [])) result c.in_err-judge.field-0.0 c.check_combination.ensures.exact c.in_err-judge.ensures
    c.from_residual-in_err-judge.ensures.1))

pub returns-in_err-sum : goal.returns-in_err-sum
returns-in_err-sum c =
    let sheet = sheet_view c.args.run.now.sheet in
    let changing = changing_of c.args.run.now.request.now.name c.args.run.now.request.now.change in
    let shift = c.args.shift.now in
    let t = c.args.value in
    let w = value_at c.args.ray.now in
    let q = c.in_ok-program.program in
    let making = facts.making sheet changing shift t w in
    let combined = facts.combined sheet changing shift t w q in
    let met = facts.met sheet changing shift t w q in
    let low = facts.low sheet changing shift t w q in
    let falling = facts.falling sheet changing shift t w in
    let fallen = facts.fallen sheet changing shift t w in
    let result = c.from_residual-in_err-sum.result in
    past_is sheet changing shift t w q result c.in_ok-program.ensures.1
    (then_by making making (in_turn (combined ∷ met ∷ low ∷ falling ∷ fallen ∷ [])) result refl c.in_ok-program.ensures.0
    (then_by c.check_combination.result combined (in_turn (met ∷ low ∷ falling ∷ fallen ∷ [])) result c.check_combination.ensures.exact c.in_ok-judge.ensures
    (exit_by met met (in_turn (low ∷ falling ∷ fallen ∷ [])) result c.in_err-sum.field-0.0 refl c.in_err-sum.ensures c.from_residual-in_err-sum.ensures.1)))

pub returns-in_err-ask : goal.returns-in_err-ask
returns-in_err-ask c =
    let sheet = sheet_view c.args.run.now.sheet in
    let changing = changing_of c.args.run.now.request.now.name c.args.run.now.request.now.change in
    let shift = c.args.shift.now in
    let t = c.args.value in
    let w = value_at c.args.ray.now in
    let q = c.in_ok-program.program in
    let making = facts.making sheet changing shift t w in
    let combined = facts.combined sheet changing shift t w q in
    let met = facts.met sheet changing shift t w q in
    let low = facts.low sheet changing shift t w q in
    let falling = facts.falling sheet changing shift t w in
    let fallen = facts.fallen sheet changing shift t w in
    let result = c.from_residual-in_err-ask.result in
    past_is sheet changing shift t w q result c.in_ok-program.ensures.1
    (then_by making making (in_turn (combined ∷ met ∷ low ∷ falling ∷ fallen ∷ [])) result refl c.in_ok-program.ensures.0
    (then_by c.check_combination.result combined (in_turn (met ∷ low ∷ falling ∷ fallen ∷ [])) result c.check_combination.ensures.exact c.in_ok-judge.ensures
    (then_by met met (in_turn (low ∷ falling ∷ fallen ∷ [])) result refl c.in_ok-sum.ensures.0
    (exit_by (asked c.is_at_most.result) low (in_turn (falling ∷ fallen ∷ [])) result c.in_err-ask.field-0.0
    (ap asked (c.is_at_most.ensures ∙ ap₂ le_ℚ c.in_ok-sum.ensures.1 c.whole.ensures)) c.in_err-ask.ensures c.from_residual-in_err-ask.ensures.1))))

pub returns-in_err-fall : goal.returns-in_err-fall
returns-in_err-fall c =
    let sheet = sheet_view c.args.run.now.sheet in
    let changing = changing_of c.args.run.now.request.now.name c.args.run.now.request.now.change in
    let shift = c.args.shift.now in
    let t = c.args.value in
    let w = value_at c.args.ray.now in
    let q = c.in_ok-program.program in
    let making = facts.making sheet changing shift t w in
    let combined = facts.combined sheet changing shift t w q in
    let met = facts.met sheet changing shift t w q in
    let low = facts.low sheet changing shift t w q in
    let falling = facts.falling sheet changing shift t w in
    let fallen = facts.fallen sheet changing shift t w in
    let result = c.from_residual-in_err-fall.result in
    past_is sheet changing shift t w q result c.in_ok-program.ensures.1
    (then_by making making (in_turn (combined ∷ met ∷ low ∷ falling ∷ fallen ∷ [])) result refl c.in_ok-program.ensures.0
    (then_by c.check_combination.result combined (in_turn (met ∷ low ∷ falling ∷ fallen ∷ [])) result c.check_combination.ensures.exact c.in_ok-judge.ensures
    (then_by met met (in_turn (low ∷ falling ∷ fallen ∷ [])) result refl c.in_ok-sum.ensures.0
    (then_by (asked c.is_at_most.result) low (in_turn (falling ∷ fallen ∷ [])) result
    (ap asked (c.is_at_most.ensures ∙ ap₂ le_ℚ c.in_ok-sum.ensures.1 c.whole.ensures)) c.in_ok-ask.ensures
    (exit_by falling falling (in_turn (fallen ∷ [])) result c.in_err-fall.field-0.0 refl
    (c.in_err-fall.ensures changing) c.from_residual-in_err-fall.ensures.1)))))

pub returns : goal.returns
returns c =
    let sheet = sheet_view c.args.run.now.sheet in
    let changing = changing_of c.args.run.now.request.now.name c.args.run.now.request.now.change in
    let shift = c.args.shift.now in
    let t = c.args.value in
    let w = value_at c.args.ray.now in
    let q = c.in_ok-program.program in
    let making = facts.making sheet changing shift t w in
    let combined = facts.combined sheet changing shift t w q in
    let met = facts.met sheet changing shift t w q in
    let low = facts.low sheet changing shift t w q in
    let falling = facts.falling sheet changing shift t w in
    let fallen = facts.fallen sheet changing shift t w in
    let result = c.ask-2.result in
    past_is sheet changing shift t w q result c.in_ok-program.ensures.1
    (then_by making making (in_turn (combined ∷ met ∷ low ∷ falling ∷ fallen ∷ [])) result refl c.in_ok-program.ensures.0
    (then_by c.check_combination.result combined (in_turn (met ∷ low ∷ falling ∷ fallen ∷ [])) result c.check_combination.ensures.exact c.in_ok-judge.ensures
    (then_by met met (in_turn (low ∷ falling ∷ fallen ∷ [])) result refl c.in_ok-sum.ensures.0
    (then_by (asked c.is_at_most.result) low (in_turn (falling ∷ fallen ∷ [])) result
    (ap asked (c.is_at_most.ensures ∙ ap₂ le_ℚ c.in_ok-sum.ensures.1 c.whole.ensures)) c.in_ok-ask.ensures
    (then_by falling falling (in_turn (fallen ∷ [])) result refl (c.in_ok-fall.ensures changing).0
    (last_by (asked c.is_less.result) fallen result
    (ap asked (c.is_less.ensures ∙ ap₂ lt_ℚ (c.in_ok-fall.ensures changing).1 c.whole-2.ensures)) c.ask-2.ensures))))))
