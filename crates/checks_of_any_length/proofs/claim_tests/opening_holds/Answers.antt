use Rattle.parametric_request.specs.Asking.{changing_of}
use Rattle.listing_words.specs.Read.{sheet_view}
use Rattle.long_programs.specs.Programs.{program_of}
use Rattle.checks_of_any_length.proofs.Claiming.{opening_shown}
use Rattle.checks_of_any_length.proofs.claim_tests.opening_holds.Goals as goal

pub invariant_of-at : goal.invariant_of-at
invariant_of-at c =
    let run = c.args.run.now in
    record { change = c.change_at.ensures.change run.sheet.problem.now run.sheet.lp.now run.request.now.name c.requires.asked.serves }

pub claim_holds-requires-clause-number : goal.claim_holds-requires-clause-number
claim_holds-requires-clause-number c = record { number = c.args.run.now.request.now.from; is = c.in_ok-theta.ensures }

pub returns : goal.returns
returns c =
    let sheet = sheet_view c.args.run.now.sheet in
    let request = c.args.run.now.request.now in
    let from = request.from in
    opening_shown sheet (changing_of request.name request.change) from
    (program_of c.args.run.now.sheet.lp.now c.change_at.result from) c.args.claim.now c.in_ok-holds.holds
    (c.change_at.ensures.family sheet c.args.run.now.request.now.name c.requires.asked.serves from) (c.in_ok-holds.ensures from c.in_ok-theta.ensures)
