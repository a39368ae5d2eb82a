use Rattle.std.proofs.Common.{List, ℕ, Ok, Some, IfOk, ap, sym, subst, ◌∙◌}
use Rattle.walk_definitions.specs.Reading.{crossed_in}
use Rattle.listing_words.specs.Read.{sheet_view}
use Rattle.listing_claims.specs.Numbers.{number_in}
use Rattle.listing_answers.specs.Claims.{IsStated, shown_in}
use Rattle.listing_answers.specs.Words.{IsFound, Found}
use Rattle.listing_answers.proofs.Choices.{found_first, found_second, optimum_found, other_found}
use Rattle.listing_answers.proofs.reader.Reader.read_claim.Goals as goal

pub returns-in-Some : goal.returns-in-Some
returns-in-Some g c =
    optimum_found (number_in g.T.Checks.checker c.args.self.now.by) (sheet_view c.args.self.now.sheet) c.args.solver c.args.cursor.now
    c.optimum.new.cursor c.in-Some.stated (rw c.in-Some.is at c.in_ok-stated.ensures)

pub returns-in-Some-crossed : goal.returns-in-Some-crossed
returns-in-Some-crossed g c =
    let of = number_in g.T.Checks.checker c.args.self.now.by in
    let sheet = sheet_view c.args.self.now.sheet in
    let old = c.args.cursor.now in
    let new = c.crossed.new.cursor in
    let stated = c.in-Some-crossed.stated in
    other_found of sheet c.args.solver old new (rw c.in_default.is at c.in_ok-stated.ensures) (Ok (Some stated))
    (found_first (IsStated sheet) (crossed_in sheet old) (shown_in of sheet c.args.solver old) new stated
    (subst (λ (at : List ℕ). IsFound (IsStated sheet) (crossed_in sheet at) new stated) (c.again.ensures ∙ c.again-start.ensures) c.in-Some-crossed.ensures))

pub returns : goal.returns
returns g c =
    let of = number_in g.T.Checks.checker c.args.self.now.by in
    let sheet = sheet_view c.args.self.now.sheet in
    let old = c.args.cursor.now in
    let new = c.shown.new.cursor in
    let shown = shown_in of sheet c.args.solver in
    other_found of sheet c.args.solver old new (rw c.in_default.is at c.in_ok-stated.ensures) c.shown.result
    (found_second (IsStated sheet) (crossed_in sheet old) (shown old) new
    (ap (crossed_in sheet) (sym (c.again.ensures ∙ c.again-start.ensures)) ∙ c.in_default-crossed.ensures) c.shown.result
    (subst (λ (at : List ℕ). IfOk c.shown.result (Found (IsStated sheet) (shown at) new)) c.again-start.ensures c.shown.ensures))
