use Rattle.parametric_request.specs.Asking.{changing_of}
use Rattle.walk_definitions.specs.Checkers.{checker_of_128_bits}
use Rattle.listing_words.specs.Read.{sheet_view}
use Rattle.listing_claims.specs.Intervals.{part_verdict}
use Rattle.listing_claims.proofs.Passing.{judges_same}
use Rattle.checks_of_128_bits.specs.Intervals.{interval_verdict}
use Rattle.checks_of_128_bits.proofs.Ends.{part_is}
use Rattle.checks_of_128_bits.proofs.checker.Of128BitsChecks.test_interval.Goals as goal

pub returns : goal.returns
returns c =
    let sheet = sheet_view c.args.sheet in
    let changing = changing_of c.args.request.now.name c.args.request.now.change in
    let from = c.args.from.now in
    let part = c.args.part.now in
    let interval = c.in_ok-interval.interval in
    let max = c.args.request.now.to in
    judges_same (interval_verdict sheet changing interval c.args.is_first max)
    (part_verdict checker_of_128_bits sheet changing from part.to part.columns c.args.is_first max) c.check_interval.result
    (part_is sheet changing from part interval c.args.is_first max c.in_ok-interval.ensures) c.check_interval.ensures
