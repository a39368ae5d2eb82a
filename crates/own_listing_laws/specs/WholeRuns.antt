-- The runs whose whole listings the walk of the checker of any length attests: nothing in them is open.
--     waits_after waiting report   whether an optimal verdict is still to be shown after a report
--     MayCome waiting report       the report isn't open, and leaves no optimal verdict open before it
--     ShowsAll waiting reports     no report is open, and each optimal verdict is shown before the next verdict and the end
--     EachSoFar, EachInRun ..      each statement of a run keeps this
--     MakesSelections runs         no operation of a selection is refused of a statement of the run
--     ComesAttestedAtAnyLength     the listing of such a run is attested, where its end can be
use Rattle.std.specs.Prelude.{◌≡◌, ℕ, Bool, true, false, List, [], ◌∷◌, length}
use Rattle.card_definitions.specs.Cards.{Card}
use Rattle.control_definitions.specs.Program.{Program}
use Rattle.listing_definitions.specs.declared.Mark.TheVariants.{Optimal}
use Rattle.listing_definitions.specs.Report.{OptimalAt, BasisOut, Inserted, Report, Solved, Solution, Ranges, Parametric}
use Rattle.listing_definitions.specs.Ending.{Ending}
use Rattle.listing_definitions.specs.Listing.{ending_text, listing}
use Rattle.run_definitions.specs.State.{State}
use Rattle.run_definitions.specs.Moves.{StatementOutcome, Goes, Ends}
use Rattle.run_definitions.specs.Verbs.{verb_move}
use Rattle.run_definitions.specs.Run.{counted, Step, Reaches, begun, stepped, IsRun, is_over, is_ended}
use Rattle.run_definitions.specs.Answer.{IsJobRun, run}
use Rattle.walk_definitions.specs.Checkers.{checker_of_any_length}
use Rattle.walk_definitions.specs.Forms.{is_open_stop}
use Rattle.walk_definitions.specs.Walker.{Attested, refuses_selection}
use Rattle.walk_definitions.specs.Found.{EndsIn}
use Rattle.fitting_answers.specs.Real.{linear_programming_of_128_bits}

-- An optimal verdict waits to be shown, and SOLUTION OPTIMAL shows it.
abbrev pub waits_after : Bool → Report → Bool
waits_after waiting (Solved solver (OptimalAt steps objective) check) = true
waits_after waiting (Solution Optimal lines) = false
waits_after waiting report = waiting

-- RANGE, PUNCH and INSERT print what only a basis shows. A verdict and a parametric run come only where no optimal verdict waits.
abbrev pub MayCome : Bool → Report → Type 0
MayCome waiting (Ranges lines) = ⊥
MayCome waiting (BasisOut name cards) = ⊥
MayCome waiting (Inserted name basic) = ⊥
MayCome waiting (Solved solver verdict check) = waiting ≡ false
MayCome waiting (Parametric solver chain) = waiting ≡ false
MayCome waiting report = Unit {0}

-- each of these reports may come where it stands, and at the end no optimal verdict waits
abbrev pub ShowsAll : Bool → List Report → Type 0
ShowsAll waiting [] = waiting ≡ false
ShowsAll waiting (report ∷ reports) = MayCome waiting report × ShowsAll (waits_after waiting report) reports

module _ (program : Program) (Keeps : (s : State) (outcome : StatementOutcome) → Step linear_programming_of_128_bits program s outcome → Type 0)
    (decks : List (List Card)) where
  -- each statement that a run has executed so far keeps this
  abbrev pub EachSoFar : {reports : List Report} {cards : List (List ℕ)} {s : State} →
      Reaches linear_programming_of_128_bits program decks reports cards s → Type 0
  EachSoFar begun = Unit {0}
  EachSoFar (stepped {reports} {cards} {state} gain after before step) = EachSoFar before × Keeps state (Goes gain after) step

  -- and each that a whole run does
  abbrev pub EachInRun : {reports : List Report} {cards : List (List ℕ)} {ending : Ending} →
      IsRun linear_programming_of_128_bits program decks reports cards ending → Type 0
  EachInRun (is_over before over) = EachSoFar before
  EachInRun {ending = ending} (is_ended {reports} {cards} {state} gain before step) = EachSoFar before × Keeps state (Ends gain ending) step

-- no operation of a selection is refused of a statement
abbrev pub IsMade : (program : Program) (s : State) (outcome : StatementOutcome) → Step linear_programming_of_128_bits program s outcome → Type 0
IsMade program s outcome step = refuses_selection (verb_move step.statement.verb step.statement.card (counted s)) ≡ false

-- nor of any statement of a job's run
abbrev pub MakesSelections : {bytes : List ℕ} {reports : List Report} {cards : List (List ℕ)} {ending : Ending} →
    IsJobRun linear_programming_of_128_bits bytes reports cards ending → Type 0
MakesSelections (run program is_program runs) = EachInRun program (IsMade program) _ runs
MakesSelections _ = Unit {0}

-- The listing of a job's run, where the answers that the run goes by fit 128 bits, is attested, with all its reports: if no operation of a
-- selection is refused, no report is of RANGE, PUNCH or INSERT, each optimal verdict is shown by SOLUTION before the next verdict, the next
-- parametric run and the end, and the end isn't one that can't be attested. A verdict may have either word, and a SOLUTION any mark.
abbrev pub ComesAttestedAtAnyLength : Type 0
ComesAttestedAtAnyLength =
    (bytes : List ℕ) (reports : List Report) (cards : List (List ℕ)) (ending : Ending) →
    (runs : IsJobRun linear_programming_of_128_bits bytes reports cards ending) → MakesSelections runs → ShowsAll false reports →
    is_open_stop (ending_text ending) ≡ false → EndsIn checker_of_any_length bytes (listing reports ending) (Attested (length reports))
