use Rattle.std.proofs.Common.{◌≡◌, Some, ap, sym, subst, ◌∙◌}
use Rattle.std.specs.Prelude.{IfOk}
use Rattle.listing_definitions.specs.Text.{solver_text}
use Rattle.walk_definitions.specs.Words.{left_after}
use Rattle.listing_words.specs.Read.{taken, sheet_view}
use Rattle.listing_claims.specs.Numbers.{number_in}
use Rattle.listing_answers.specs.Words.{Found}
use Rattle.listing_answers.specs.Closings.{Closes}
use Rattle.listing_answers.proofs.ClosingFacts.{close_taken}
use Rattle.listing_answers.proofs.reader.Reader.run_close.Goals as goal

pub returns : goal.returns
returns g c =
    let of = number_in g.T.Checks.checker c.args.self.now.by in
    let sheet = sheet_view c.args.self.now.sheet in
    let old = c.args.cursor.now in
    let left = c.take.new.self in
    let head : left_after (solver_text c.args.solver) old ≡ Some left =
    ap (λ t. left_after t old) (sym c.solver_word.ensures) ∙ c.take.ensures.taken ∙ ap (λ b. taken b left) c.if-not-take.false in
    subst (λ o. IfOk c.ending.result (Found (Closes sheet) o c.ending.new.cursor)) (sym (close_taken of sheet c.args.solver old left head)) c.ending.ensures
