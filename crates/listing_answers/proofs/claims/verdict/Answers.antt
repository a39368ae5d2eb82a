use Rattle.std.proofs.Common.{sym, subst, ◌∙◌, List, ℕ}
use Rattle.walk_definitions.specs.Words.{form_in}
use Rattle.listing_words.specs.Read.{sheet_view}
use Rattle.walk_definitions.specs.Reading.{verdict_in}
use Rattle.listing_answers.specs.Claims.{IsStated}
use Rattle.listing_answers.specs.Words.{Found}
use Rattle.listing_answers.proofs.Judging.{without_limit, with_limit}
use Rattle.listing_answers.proofs.claims.verdict.Goals as goal

pub returns-then-not-has_limit : goal.returns-then-not-has_limit
returns-then-not-has_limit g c =
    let sheet = sheet_view c.args.sheet in
    without_limit g.T.Checks.checker (λ of. verdict_in of sheet c.args.solver) c.args.cursor.now (rw c.in_default.is at c.in_ok-stated.ensures)
    (sym c.has_limit.ensures ∙ c.if-not-has_limit.true)

pub returns : goal.returns
returns g c =
    let sheet = sheet_view c.args.sheet in
    with_limit g.T.Checks.checker (λ of. verdict_in of sheet c.args.solver) c.args.cursor.now (rw c.in_default.is at c.in_ok-stated.ensures)
    (IsStated sheet) c.read_verdict-2.new.cursor c.in_ok-form.form c.is_some.result c.stop_unread.result (sym c.has_limit.ensures ∙ c.if-not-has_limit.false)
    (subst (λ (at : List ℕ). Found (IsStated sheet)
    (verdict_in (form_in g.T.Checks.checker) sheet c.args.solver at) c.read_verdict-2.new.cursor c.in_ok-form.form) c.again-start.ensures c.in_ok-form.ensures)
    c.is_some.ensures c.stop_unread.ensures
