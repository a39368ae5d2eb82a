-- What is read of a listing is what stands there.
--     reported question answer     what the verb that asks this question prints of an answer
--     ReadingLaw                   an answer that is judged right was read of the text of its report
use Rattle.std.specs.Prelude.{◌≡◌, ℕ, List, [], ◌∷◌, ◌++◌}
use Rattle.listing_definitions.specs.Report.{Report, Solved, Solution, Ranges, Parametric}
use Rattle.listing_definitions.specs.Listing.{reports_text}
use Rattle.question_definitions.specs.Answers.{Sheet, changing_name, parametric_solver, Question, OfPath, OfSolution, OfRanges, OfParametricRun, OfPunch}
use Rattle.question_definitions.specs.Answers.{OfInstall, AnswerTo, Reached, Opening, Chained}
use Rattle.walk_definitions.specs.Checkers.{Checker}
use Rattle.walk_definitions.specs.Reading.{Right, judged}

abbrev pub reported : (question : Question) → AnswerTo question → List Report
reported (OfPath solver limit) (Reached bases verdict check) = Solved solver verdict check ∷ []
reported (OfPath solver limit) _ = []
reported (OfSolution mark) lines = Solution mark lines ∷ []
reported OfRanges lines = Ranges lines ∷ []
reported (OfParametricRun parametric_run) (Opening bases verdict check) = Solved (parametric_solver parametric_run.changing) verdict check ∷ []
reported (OfParametricRun parametric_run) (Chained bases intervals end) =
    Parametric (parametric_solver parametric_run.changing)
    (record { from = parametric_run.from; change = changing_name parametric_run.changing; intervals = intervals; end = end }) ∷ []
reported (OfParametricRun parametric_run) _ = []
reported OfPunch cards = []
reported (OfInstall basis) end = []

abbrev pub ReadingLaw : Checker → Type 0
ReadingLaw C = (question : Question) (sheet : Sheet) (rest after : List ℕ) (answer : AnswerTo question) → judged C question sheet rest ≡ Right answer after →
    rest ≡ reports_text (reported question answer) ++ after
