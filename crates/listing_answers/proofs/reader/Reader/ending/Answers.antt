use Rattle.std.proofs.Common.{List, ℕ, Some, IfOk, refl, subst}
use Rattle.listing_definitions.specs.Report.{EndsAt}
use Rattle.listing_words.specs.Read.{sheet_view}
use Rattle.listing_claims.specs.declared.claims.Closing.TheVariants as closings
use Rattle.listing_claims.specs.Numbers.{number_in}
use Rattle.listing_answers.specs.Words.{Found}
use Rattle.listing_answers.specs.Closings.{end_in, past_in, Closes}
use Rattle.listing_answers.proofs.Choices.{found_first, found_second}
use Rattle.listing_answers.proofs.reader.Reader.ending.Goals as goal

pub returns-in-Some : goal.returns-in-Some
returns-in-Some g c =
    let of = number_in g.T.Checks.checker c.args.self.now.by in
    let sheet = sheet_view c.args.self.now.sheet in
    let old = c.args.cursor.now in
    let read = (rw c.in-Some.is at c.in_ok-value.ensures) (λ t after. Some (EndsAt t, after)) in
    found_first (Closes sheet) (end_in of old) (past_in of sheet c.args.solver old) c.value_line.new.cursor
    (closings.At c.in-Some.value) (record { answer = EndsAt c.in-Some.value; is_found = read; shows = refl })

pub returns : goal.returns
returns g c =
    let of = number_in g.T.Checks.checker c.args.self.now.by in
    let sheet = sheet_view c.args.self.now.sheet in
    let old = c.args.cursor.now in
    let past = past_in of sheet c.args.solver in
    found_second (Closes sheet) (end_in of old) (past old) c.past.new.cursor ((rw c.in_default.is at c.in_ok-value.ensures) (λ t after. Some (EndsAt t, after)))
    c.past.result (subst (λ (at : List ℕ). IfOk c.past.result (Found (Closes sheet) (past at) c.past.new.cursor)) c.again-start.ensures c.past.ensures)
