use Rattle.std.proofs.Common.{◌+◌, ℕ, drop}
use Rattle.walk_definitions.specs.Reading.{run_in}
use Rattle.listing_words.specs.Read.{sheet_view}
use Rattle.listing_claims.specs.Asked.{parametric_run_of}
use Rattle.listing_answers.proofs.Runs.{IsRunSoFar}
use Rattle.listing_answers.proofs.parametric_runs.read_run.Given as goal

-- what is left decides the whole; each interval has taken a byte of room
abbrev pub invariant-loop-index : goal.invariant-loop-index
invariant-loop-index g l =
    (limit : ℕ) →
    IsRunSoFar g.T.Checks.checker (sheet_view l.fn.sheet) (parametric_run_of limit l.fn.request)
    (run_in g.T.Checks.checker (sheet_view l.fn.sheet) (parametric_run_of limit l.fn.request) l.fn.cursor 1 l.fn.request.from l.fn.cursor)
    (drop l.index l.fn.cursor) (l.index + 1) l.last l.cursor
