use Rattle.std.proofs.Common.{◌≡◌, codes, Option, List, ℕ, Some, ap, sym, subst, ◌∙◌}
use Rattle.walk_definitions.specs.Words.{left_after}
use Rattle.listing_words.specs.Read.{taken, sheet_view}
use Rattle.listing_claims.specs.Asked.{parametric_run_of}
use Rattle.listing_answers.specs.Intervals.{first_by}
use Rattle.listing_answers.specs.Taken.{Taken}
use Rattle.listing_answers.proofs.Runs.{EndsPart}
use Rattle.listing_answers.proofs.parametric_runs.first_part.Goals as goal

pub returns-then-not-begins_interval : goal.returns-then-not-begins_interval
returns-then-not-begins_interval g c limit =
    let begins = c.begins_interval.ensures in
    ap (first_by g.T.Checks.checker (sheet_view c.args.sheet) (parametric_run_of limit c.args.request.now) c.args.cursor.now)
    (begins.1 ∙ ap (λ b. taken b begins.0) c.if-not-begins_interval.true)

pub returns : goal.returns
returns g c limit =
    let C = g.T.Checks.checker in
    let sheet = sheet_view c.args.sheet in
    let old = c.args.cursor.now in
    let begins = c.begins_interval.ensures in
    let stands : left_after (codes "INTERVAL ") old ≡ Some begins.0 = begins.1 ∙ ap (λ b. taken b begins.0) c.if-not-begins_interval.false in
    subst (λ (o : Option (List ℕ)). Taken EndsPart
    (first_by C sheet (parametric_run_of limit c.args.request.now) old o) c.read_part.new.cursor c.read_part.result) (sym stands) c.read_part.ensures
