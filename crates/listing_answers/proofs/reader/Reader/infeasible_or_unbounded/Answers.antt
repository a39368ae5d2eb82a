use Rattle.std.proofs.Common.{List, ℕ, IfOk, subst}
use Rattle.walk_definitions.specs.Reading.{infeasible_in, unbounded_in}
use Rattle.listing_words.specs.Read.{sheet_view}
use Rattle.listing_claims.specs.Numbers.{number_in}
use Rattle.listing_answers.specs.Claims.{IsStated}
use Rattle.listing_answers.specs.Words.{Found}
use Rattle.listing_answers.proofs.Choices.{found_first, found_second}
use Rattle.listing_answers.proofs.reader.Reader.infeasible_or_unbounded.Goals as goal

pub returns-in-Some : goal.returns-in-Some
returns-in-Some g c =
    let of = number_in g.T.Checks.checker c.args.self.now.by in
    let sheet = sheet_view c.args.self.now.sheet in
    let old = c.args.cursor.now in
    found_first (IsStated sheet) (infeasible_in of sheet old) (unbounded_in of sheet old) c.infeasible.new.cursor c.in-Some.stated
    (rw c.in-Some.is at c.in_ok-stated.ensures)

pub returns : goal.returns
returns g c =
    let of = number_in g.T.Checks.checker c.args.self.now.by in
    let sheet = sheet_view c.args.self.now.sheet in
    let old = c.args.cursor.now in
    found_second (IsStated sheet) (infeasible_in of sheet old) (unbounded_in of sheet old) c.unbounded.new.cursor
    (rw c.in_default.is at c.in_ok-stated.ensures) c.unbounded.result
    (subst (λ (at : List ℕ). IfOk c.unbounded.result (Found (IsStated sheet) (unbounded_in of sheet at) c.unbounded.new.cursor)) c.again-start.ensures
    c.unbounded.ensures)
