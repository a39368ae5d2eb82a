-- What the borrowed data of a report prints, in the words of the definitions of listings.
--     IsReport report          the report can be printed
--     text_view report         its text
use Rattle.std.specs.Prelude.{ℕ, List, [], ◌∷◌, ◌++◌, Option, Some, None, Bool, codes}
use denote.Bor.{Bor}
use Rattle.std.specs.List.{concat, flat_map}
use Rattle.lp_definitions.specs.declared.Evidence.{Evidence}
use Rattle.lp_definitions.specs.declared.Status.{Status}
use Rattle.listing_definitions.specs.Numbers.{digits, rational_text}
use Rattle.listing_definitions.specs.Report as reports
use Rattle.listing_definitions.specs.Ending as endings
use Rattle.listing_definitions.specs.Text.{report_text}
use Rattle.listing_definitions.specs.Listing.{status_letter, basic_letter, ending_text}
use Rattle.listing_tables.specs.Lines.{ray_lines, solution_lines, range_lines}
use Rattle.listing_tables.specs.Sheets.{IsSheet}
use Rattle.report_text.specs.Parametric.{IsParametric, chain_view}
use Rattle.report_text.specs.Ranges.{AreRanges}
use Rattle.report_text.specs.Solutions.{IsSolution}
use Rattle.report_text.specs.Verdicts.{IsFull, IsOutcome, verdict_view, check_view}
use Rattle.report_text.specs.declared.report.Report.{Report}
use Rattle.report_text.specs.declared.report.Report.TheVariants.{Title, Converted, Revised, SetUp, BcdOut, BasisOut, Inserted, Solved, Solution, Ranges}
use Rattle.report_text.specs.declared.report.Report.TheVariants.{Parametric, End}
use Rattle.report_text.specs.declared.report.Ending.{Ending}
use Rattle.report_text.specs.declared.report.Ending.TheVariants.{Code, Words, Control, Verb, Singular as SingularBasis, WrongPrices as PricesWrong, Deck, Card}
use Rattle.report_text.specs.declared.report.Ending.TheVariants.{Limit, Statements, Overflow, ReadFault, PunchFault, Memory}

-- ---- ends

-- a dependency has a coefficient for each variable, and each variable a name
abbrev pub IsEnding : Ending → Type 0
IsEnding (SingularBasis card sheet dependency) = IsSheet sheet × IsFull sheet dependency.now
IsEnding _ = Unit {0}

-- the present basis and the set that the evidence speaks of, where there is a basis
abbrev pub place_view : Option (Bor (List Status)) → List Bool → Option endings.Place
place_view None way = None
place_view (Some basis) way = Some (record { basis = basis.now; way = way })

abbrev pub ending_view : Ending → endings.Ending
ending_view (Code code) = endings.Ended code
ending_view Words = endings.WordsRefused
ending_view (Control fault card) = endings.ControlStop (record { number = fault; card = card })
ending_view (Verb fault card) = endings.VerbStop (record { fault = fault; card = card })
ending_view (SingularBasis card sheet dependency) =
    endings.SingularStop (record { card = card; lines = ray_lines sheet.problem.now sheet.lp.now dependency.now })
ending_view (PricesWrong card variable) = endings.PriceStop (record { card = card; variable = variable })
ending_view (Deck fault card number column) = endings.DeckStop (record { fault = fault; card = card; number = number; column = column })
ending_view (Card fault) = endings.CardStop fault
ending_view (Limit limit card) = endings.LimitStop (record { limit = limit; card = card })
ending_view Statements = endings.StatementLimit
ending_view (Overflow evidence basis way card) = endings.OverflowStop (record { evidence = evidence.now; place = place_view basis way.now; card = card })
ending_view ReadFault = endings.ReadFault
ending_view PunchFault = endings.PunchFault
ending_view Memory = endings.Memory

-- ---- the parts in which an overflow is written

-- the numbers of an evidence
abbrev pub evidence_tail : Evidence → List ℕ
evidence_tail e =
    concat (codes " P " ∷ digits e.p ∷ codes " Q " ∷ digits e.q ∷ codes " I " ∷ digits e.i ∷ codes " J " ∷ digits e.j ∷
    codes " TERM " ∷ digits e.term ∷ codes " THETA " ∷ rational_text e.theta ∷ [])

-- one letter as a text
abbrev pub letters_of : {X : Type 0} → (X → ℕ) → X → List ℕ
letters_of letter x = letter x ∷ []

-- a line of letters, after its word
abbrev pub letter_line : {X : Type 0} → List ℕ → (X → ℕ) → List X → List ℕ
letter_line word letter items = concat (word ∷ flat_map (letters_of letter) items ∷ codes "\n" ∷ [])

-- the two lines of letters
abbrev pub place_text : Option endings.Place → List ℕ
place_text None = codes "BASIS NONE\nWAY NONE\n"
place_text (Some place) = letter_line (codes "BASIS ") status_letter place.basis ++ letter_line (codes "WAY ") basic_letter place.way

-- ---- reports

-- What is borrowed can be printed: the sheet names each row and column, and all lists have their lengths.
abbrev pub IsReport : Report → Type 0
IsReport (Solved by sheet outcome refused) = IsOutcome sheet outcome.now
IsReport (Solution mark sheet basis point prices slack) = IsSolution sheet (record { basis = basis; point = point; prices = prices; slack = slack })
IsReport (Ranges sheet basis point report) = AreRanges sheet (record { basis = basis; point = point; report = report })
IsReport (Parametric by sheet change from to run) = IsParametric sheet run.now
IsReport (End ending) = IsEnding ending
IsReport _ = Unit {0}

abbrev pub text_view : Report → List ℕ
text_view (Title text) = report_text (reports.Titled text.now)
text_view (Converted name rows columns entries) = report_text (reports.Converted (record { name = name; rows = rows; columns = columns; entries = entries }))
text_view (Revised name rows columns entries) = report_text (reports.Revised (record { name = name; rows = rows; columns = columns; entries = entries }))
text_view (SetUp name sense) = report_text (reports.SetUp name sense)
text_view (BcdOut name cards) = report_text (reports.BcdOut name cards)
text_view (BasisOut name cards) = report_text (reports.BasisOut name cards)
text_view (Inserted name basic) = report_text (reports.Inserted name basic)
text_view (Solved by sheet outcome refused) = report_text (reports.Solved by (verdict_view sheet outcome.now) (check_view refused))
text_view (Solution mark sheet basis point prices slack) =
    report_text (reports.Solution mark (solution_lines sheet.problem.now sheet.lp.now basis.now point.now prices.now slack.now))
text_view (Ranges sheet basis point report) = report_text (reports.Ranges (range_lines sheet.lp.now basis.now point.now report.now sheet.problem.now))
text_view (Parametric by sheet change from to run) = report_text (reports.Parametric by (chain_view sheet change from to run.now))
text_view (End ending) = ending_text (ending_view ending)
