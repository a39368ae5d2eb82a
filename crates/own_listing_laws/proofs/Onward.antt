-- The walk goes on past what a run prints with the word CHECKED, and past its SOLUTION.
use Rattle.std.proofs.Common.{◌≡◌, ◌⊎◌, inl, inr, ℕ, Bool, true, false, not, ◌||◌, List, [], ◌++◌, length, Option, Some, None, if◌then◌else◌, refl, sym, ap}
use Rattle.std.proofs.Common.{ap₂, ◌∙◌, append-nil}
use Rattle.std.specs.Prelude.{is_none}
use Rattle.std.specs.Option.{option_or}
use Rattle.exact_values.specs.Rational.{ℚ}
use Rattle.problem_definitions.specs.Problem.{Problem}
use Rattle.selection_definitions.specs.Choice.{Choice}
use Rattle.selection_definitions.specs.Making.{is_made}
use Rattle.listing_definitions.specs.declared.Mark.{Mark}
use Rattle.listing_definitions.specs.declared.Mark.TheVariants.{Optimal}
use Rattle.listing_definitions.specs.Ending.{Ending}
use Rattle.listing_definitions.specs.Listing.{ending_text}
use Rattle.listing_definitions.specs.declared.Solver.{Solver}
use Rattle.listing_definitions.specs.declared.Solver.TheVariants.{Primal, Dual, Paraobj, Pararhs}
use Rattle.listing_definitions.specs.Report.{PathVerdict, SolutionLines, Report, Titled, Converted, Revised, SetUp, BcdOut, BasisOut, Inserted, Solved}
use Rattle.listing_definitions.specs.Report.{Solution, Ranges, Parametric}
use Rattle.listing_definitions.specs.Report as reports
use Rattle.listing_definitions.specs.Text.{report_text, verdict_text, solution_text}
use Rattle.question_definitions.specs.Answers.{Basis, Sheet, Question, OfPath, OfSolution, AnswerTo, PathEnd, Reached}
use Rattle.answer_definitions.specs.Verdicts.{IsSolvedBy}
use Rattle.run_definitions.specs.State.{Present}
use Rattle.run_definitions.specs.Moves.{Nothing, Prints, Punches, printed_by, gain_text, gain_of, StatementOutcome, Goes, Ends, InSelection, InAnswer}
use Rattle.run_definitions.specs.Moves.{StatementMove, Does, MayStop, Asks, DecidesAlone}
use Rattle.run_definitions.specs.Verbs.{asks}
use Rattle.walk_definitions.specs.Checkers.{Checker, checker_of_128_bits}
use Rattle.walk_definitions.specs.Words.{left_after}
use Rattle.walk_definitions.proofs.Texts.{stands}
use Rattle.walk_definitions.specs.Forms.{is_open_stop}
use Rattle.walk_definitions.specs.Tables.{begins_table_line}
use Rattle.walk_definitions.specs.Tests.{point_of}
use Rattle.walk_definitions.specs.Reading.{Judged, judged}
use Rattle.walk_definitions.specs.Walker.{Pending, Walker, Found, Attested, Wrong, Unchecked, WalkTurn, Finds, open_if, open_stop, pending_found, open_pending}
use Rattle.walk_definitions.specs.Walker.{open_outcome, open_question, opened, refuses_selection, ended, unless_found, closes, follows, passed, taken}
use Rattle.walk_definitions.specs.Walker.{pending_after, settled, answered, due, walk_move}
use Rattle.fitting_answers.specs.Fitting.{VerdictFits}
use Rattle.own_listing_laws.specs.Laws.{IsShownChecked, KeepsMark, WalksOn}
use Rattle.own_listing_laws.proofs.Rightly.{judged_right}

report_closed : (report : Report) (more : List ℕ) → is_open_stop (report_text report ++ more) ≡ false
unfolding is_open_stop
report_closed (Titled text) more = refl
report_closed (Converted filed) more = refl
report_closed (Revised filed) more = refl
report_closed (SetUp name sense) more = refl
report_closed (BcdOut name cards) more = refl
report_closed (BasisOut name cards) more = refl
report_closed (Inserted name basic) more = refl
report_closed (Solved Primal verdict check) more = refl
report_closed (Solved Dual verdict check) more = refl
report_closed (Solved Paraobj verdict check) more = refl
report_closed (Solved Pararhs verdict check) more = refl
report_closed (Solution mark lines) more = refl
report_closed (Ranges lines) more = refl
report_closed (Parametric Primal chain) more = refl
report_closed (Parametric Dual chain) more = refl
report_closed (Parametric Paraobj chain) more = refl
report_closed (Parametric Pararhs chain) more = refl

-- where nothing is open, the answer that the listing gives is due
pub asked : (C : Checker) (w : Walker) (question : Question) (sheet : Sheet) (present : Present) (go : AnswerTo question → StatementOutcome)
    (j : Judged (AnswerTo question)) → open_question w question sheet go ≡ None → judged C question sheet w.rest ≡ j →
    walk_move C w (asks question sheet present go) ≡ answered C w question sheet go j
asked C w question sheet present go j none is =
    ap (λ (o : Option Found). unless_found o (answered C w question sheet go (judged C question sheet w.rest))) none
    ∙ ap (answered C w question sheet go) is

-- past a verdict and a parametric run, where nothing is pending
pub path_unopened : (w : Walker) → is_open_stop w.rest ≡ false → w.pending ≡ None → option_or (open_stop w) (open_pending w) ≡ None
path_unopened w closed none = ap₂ (λ b (p : Option Pending). option_or (open_if b w) (pending_found p)) closed none

verdict_passed : (w : Walker) (present : Present) (go : PathEnd → StatementOutcome) (solver : Solver) (sheet : Sheet) (s : Basis) (limit : Option ℕ)
    (bases : List Basis) (verdict : PathVerdict) (after : List ℕ) →
    w.pending ≡ None → w.rest ≡ verdict_text solver verdict reports.Checked ++ after → IsSolvedBy solver sheet s limit (Reached bases verdict reports.Checked) →
    VerdictFits verdict → begins_table_line after ≡ false →
    walk_move checker_of_128_bits w (asks (OfPath solver limit) sheet present go) ≡ follows
    (record (passed after 1 w) { pending = pending_after w.rest verdict reports.Checked }) (go (Reached [] verdict reports.Checked))
verdict_passed w present go solver sheet s limit bases verdict after settled text solved fits plain =
    asked checker_of_128_bits w (OfPath solver limit) sheet present go _
    (path_unopened w (ap is_open_stop text ∙ report_closed (Solved solver verdict reports.Checked) after) settled)
    (ap (judged checker_of_128_bits (OfPath solver limit) sheet) text ∙ judged_right.verdict solver sheet s limit bases verdict after solved fits plain)

module _ (w : Walker) (solver : Solver) (sheet : Sheet) (s : Basis) (limit : Option ℕ) (bases : List Basis) (steps : ℕ) (objective : ℚ) (lines : SolutionLines)
    (at : List ℕ)
    (is : IsShownChecked solver sheet s limit bases steps objective lines) (turn : WalkTurn) where
  abbrev shown_objective : ℚ
  shown_objective = point_of sheet lines sheet.lp.objective

  abbrev pending : Pending
  pending = record { rest = at; objective = objective; check = reports.Checked }

  solution_settles : (w.pending ≡ None) ⊎ (w.pending ≡ Some pending) → settled checker_of_128_bits w w.pending shown_objective turn ≡ turn
  solution_settles (inl none) = ap (λ (p : Option Pending). settled checker_of_128_bits w p shown_objective turn) none
  solution_settles (inr some) =
      ap (λ (p : Option Pending). settled checker_of_128_bits w p shown_objective turn) some
      ∙ ap (λ b. if b then turn else Finds (Wrong at)) (judged_right.settled solver sheet s limit bases steps objective lines at is)

solution_passed : (w : Walker) (present : Present) (go : SolutionLines → StatementOutcome) (solver : Solver) (sheet : Sheet) (s : Basis) (limit : Option ℕ)
    (bases : List Basis) (steps : ℕ) (objective : ℚ) (lines : SolutionLines)
    (at after : List ℕ) → (w.pending ≡ None) ⊎ (w.pending ≡ Some (record { rest = at; objective = objective; check = reports.Checked })) →
    w.rest ≡ solution_text Optimal lines ++ after →
    IsShownChecked solver sheet s limit bases steps objective lines →
    walk_move checker_of_128_bits w (asks (OfSolution Optimal) sheet present go) ≡ follows (record (passed after 1 w) { pending = None }) (go lines)
solution_passed w present go solver sheet s limit bases steps objective lines at after waits text is =
    asked checker_of_128_bits w (OfSolution Optimal) sheet present go _
    (ap (λ b. open_if b w) (ap is_open_stop text ∙ report_closed (Solution Optimal lines) after))
    (ap (judged checker_of_128_bits (OfSolution Optimal) sheet) text ∙ judged_right.solution solver sheet s limit bases steps objective lines after is)
    ∙ solution_settles w solver sheet s limit bases steps objective lines at is (follows (record (passed after 1 w) { pending = None }) (go lines)) waits

-- ---- nothing is asked

unmarked : (w : Walker) (pending : Option Pending) (mark : Option Mark) → (pending ≡ None) ⊎ (is_none mark ≡ false) →
    (if is_none mark then pending_found pending else None) ≡ None
unmarked w pending None (inl none) = ap pending_found none
unmarked w pending None (inr stands) = absurd (cc stands)
unmarked w pending (Some mark) kept = refl

module _ (w : Walker) (closed : is_open_stop w.rest ≡ false) where
  nothing_open : (outcome : StatementOutcome) → (w.pending ≡ None) ⊎ KeepsMark outcome → open_outcome w outcome ≡ None
  nothing_open (Ends gain ending) (inl none) = ap₂ (λ b (p : Option Pending). option_or (open_if b w) (pending_found p)) closed none
  nothing_open (Ends gain ending) (inr stands) = absurd stands
  nothing_open (Goes Nothing after) kept = unmarked w w.pending after.mark kept
  nothing_open (Goes (Prints report) after) kept = ap₂ (λ b (o : Option Found). option_or (open_if b w) o) closed (unmarked w w.pending after.mark kept)
  nothing_open (Goes (Punches report cards) after) kept = ap₂ (λ b (o : Option Found). option_or (open_if b w) o) closed (unmarked w w.pending after.mark kept)

does_on : (C : Checker) (w : Walker) (outcome : StatementOutcome) (more : List ℕ) → (w.pending ≡ None) ⊎ KeepsMark outcome →
    w.rest ≡ gain_text (gain_of outcome) ++ more → is_open_stop w.rest ≡ false →
    walk_move C w (Does outcome) ≡ follows (passed more (length (printed_by (gain_of outcome))) w) outcome
does_on C w outcome more kept text closed =
    ap (λ (o : Option Found). unless_found o (taken w outcome (left_after (gain_text (gain_of outcome)) w.rest))) (nothing_open w closed outcome kept)
    ∙ ap (taken w outcome) (ap (left_after (gain_text (gain_of outcome))) text ∙ stands (gain_text (gain_of outcome)) more)

pub both_parts : (a b : Bool) → (not a || b) ≡ false → (a ≡ true) × (b ≡ false)
both_parts true b e = (refl, e)
both_parts false b e = absurd (cc e)

selects_on : (C : Checker) (w : Walker) (problem : Problem ℕ) (choice : Choice) (move : StatementMove) → is_made problem choice ≡ true →
    walk_move C w (MayStop (InSelection problem choice) move) ≡ walk_move C w move
selects_on C w problem choice move made =
    ap (λ b. unless_found (opened w move) (if not b || refuses_selection move then Finds (Unchecked w.rest) else due C w move)) made

settled_on : (C : Checker) (w : Walker) (card : ℕ) (move : StatementMove) (outcome : StatementOutcome) (more : List ℕ) → DecidesAlone card move outcome →
    refuses_selection move ≡ false → (w.pending ≡ None) ⊎ KeepsMark outcome →
    w.rest ≡ gain_text (gain_of outcome) ++ more → is_open_stop w.rest ≡ false →
    walk_move C w move ≡ follows (passed more (length (printed_by (gain_of outcome))) w) outcome
settled_on C w card (Does own) outcome more settled made kept text closed =
    ap (λ (o : StatementOutcome). walk_move C w (Does o)) (sym settled) ∙ does_on C w outcome more kept text closed
settled_on C w card (MayStop (InSelection problem choice) move) outcome more settled made kept text closed =
    let parts = both_parts (is_made problem choice) (refuses_selection move) made in
    selects_on C w problem choice move parts.0 ∙ settled_on C w card move outcome more settled parts.1 kept text closed
settled_on C w card (MayStop (InAnswer question sheet bases) move) outcome more settled made kept text closed =
    settled_on C w card move outcome more settled made kept text closed
settled_on C w card (Asks question sheet s go) outcome more settled made kept text closed = absurd settled

ends_attested : (w : Walker) (ending : Ending) → w.pending ≡ None → w.rest ≡ ending_text ending → is_open_stop w.rest ≡ false →
    closes w ending ≡ Finds (Attested w.reports)
ends_attested w ending none text closed =
    ap (λ (o : Option Found). unless_found o (Finds (ended w (left_after (ending_text ending) w.rest))))
    (ap₂ (λ b (p : Option Pending). option_or (open_if b w) (pending_found p)) closed none)
    ∙ ap (λ (left : Option (List ℕ)). Finds (ended w left))
    (ap (left_after (ending_text ending)) (text ∙ sym (append-nil (ending_text ending))) ∙ stands (ending_text ending) [])

pub walks_on : WalksOn
walks_on =
    record { report = report_closed; verdict = verdict_passed; solution = solution_passed; statement = settled_on; selects = selects_on; end = ends_attested }
