-- The verdict of PRIMAL or DUAL is followed: it is true, or it is pending and owes that.
use Rattle.std.proofs.Common.{◌≡◌, ℕ, List, [], ◌∷◌, refl}
use Rattle.std.specs.Prelude.{All, Option, Some, None, Ok}
use Rattle.lp_definitions.specs.LinearProgram.{LinearProgram}
use Rattle.control_definitions.specs.Cells.{Cells}
use Rattle.selection_definitions.specs.Selection.{selected}
use Rattle.listing_definitions.specs.declared.Mark.{Mark}
use Rattle.listing_definitions.specs.declared.Mark.TheVariants.{Optimal, Infeasible, Unbounded}
use Rattle.listing_definitions.specs.declared.Solver.{Solver}
use Rattle.listing_definitions.specs.declared.Solver.TheVariants.{Primal as ByPrimal, Dual as ByDual, Paraobj as ByParaobj, Pararhs as ByPararhs}
use Rattle.listing_definitions.specs.Report.{PathVerdict, OptimalAt, CrossedAt, InfeasibleBy, UnboundedBy, Check, Report, Solved}
use Rattle.question_definitions.specs.Answers.{Basis, Sheet, OfPath, PathEnd, Reached, PathLimit, PricesWrong}
use Rattle.run_definitions.specs.State.{Present, present_basis, path_of, gone_through, State, choice_of}
use Rattle.run_definitions.specs.Moves.{printed_by, StatementOutcome, gain_of, InAnswer, StatementMove, Asks}
use Rattle.run_definitions.specs.Verbs.{asks, mark_of, demanded, by_verdict, after_path}
use Rattle.run_definitions.specs.Run.{counted}
use Rattle.soundness_laws.specs.Truth.{PresentProgram, sheet_of, IsTrueOf, IsNotUnbounded}
use Rattle.soundness_laws.proofs.Moves.{HasProblem}
use Rattle.selection_laws.proofs.Selected.{selected_is_lawful, selected_without_change}
use Rattle.walk_definitions.specs.Checkers.{Checker}
use Rattle.walk_definitions.specs.Reading.{Judged, Right, Fails, Refuses, judged, judged_map}
use Rattle.walk_definitions.specs.Reading as readings
use Rattle.walk_definitions.specs.Walker.{Pending, Walker, open_stop, open_pending, open_question, follows, passed, pending_after, noted, answered}
use Rattle.walk_laws.specs.Read.{ReadingLaw}
use Rattle.walk_laws.specs.Judged.{IsTrueUnlessOptimal, JudgedLaws}
use Rattle.walk_laws.specs.Proved.{SaysVerdict, Says}
use Rattle.walk_laws.proofs.Rightly.{TakesUnlessOptimal, path_word}
use Rattle.walk_laws.proofs.Owing.{Owes, holds_settled, program_before_path}
use Rattle.walk_laws.proofs.Turns.{never_either, never_stop, never_pending, none_either, nothing_pending, on_unless}
use Rattle.walk_laws.proofs.Followed.{GoesOn, EndsSo, ComesTo, IsFollowed, Pays, follows_on, may_stop, one_says, reads}

-- ---- verdicts

printed_demanded : (position : Option ℕ) (code : ℕ) (report : Report) (state : State) → printed_by (gain_of (demanded position code report state)) ≡ report ∷ []
printed_demanded (Some position) code report state = refl
printed_demanded None code report state = refl

-- a verdict prints its report
pub printed_verdict : (mark : Mark) (report : Report) (state : State) → printed_by (gain_of (by_verdict mark report state)) ≡ report ∷ []
printed_verdict Optimal report state = refl
printed_verdict Infeasible report state = printed_demanded state.cells.xdonfs 1 report state
printed_verdict Unbounded report state = printed_demanded state.cells.xdounb 2 report state

-- what it owes, it owes where the run goes on, and where it ends
module _ (C : Checker) (Holds : Type 0) (w : Walker) (pending : Option Pending) (report : Report) (state : State)
    (owes : Owes C (Holds × All (Says C w.state) (report ∷ [])) pending state.setup state.cells) where
  pays_demanded : (position : Option ℕ) (code : ℕ) → Pays C Holds w pending (demanded position code report state)
  pays_demanded (Some position) code = owes
  pays_demanded None code = λ settled. holds_settled C (Holds × All (Says C w.state) (report ∷ [])) pending state.setup state.cells owes settled

  pub pays_verdict : (mark : Mark) → Pays C Holds w pending (by_verdict mark report state)
  pays_verdict Optimal = owes
  pays_verdict Infeasible = pays_demanded state.cells.xdonfs 1
  pays_verdict Unbounded = pays_demanded state.cells.xdounb 2

-- what the cells select of the setup is lawful
abbrev pub program_of : (setup : Option Present) (cells : Cells) (present : Present) (lp : LinearProgram) → HasProblem setup → setup ≡ Some present →
    selected present.problem (choice_of cells present.options) ≡ Ok lp →
    PresentProgram setup cells
program_of setup cells present lp lawful is_setup is = record {
  present = present;
  is_setup = is_setup;
  lp = lp;
  is_selected = is;
  is_problem = lawful present is_setup;
  is_linear_program = selected_is_lawful present.problem (choice_of cells present.options) lp (lawful present is_setup) is;
}

-- what isn't made of what was read isn't judged right
pub never_made : {X Y : Type 0} (f : X → Y) (y : Y) → ((x : X) → f x ≡ y → ⊥) → (j : Judged X) (after : List ℕ) → judged_map f j ≡ Right y after → ⊥
never_made f y other (Right x rest) after e = let same : f x ≡ y = cc in other x same
never_made f y other Fails after e = cc e
never_made f y other Refuses after e = cc e

-- ---- PRIMAL and DUAL

abbrev pub IsPathSolver : Solver → Type 0
IsPathSolver ByPrimal = Unit {0}
IsPathSolver ByDual = Unit {0}
IsPathSolver solver = ⊥

abbrev IsBounded : Solver → PathVerdict → Type 0
IsBounded ByDual verdict = IsNotUnbounded verdict
IsBounded solver verdict = Unit {0}

says_verdict : (state : State) (solver : Solver) (verdict : PathVerdict) → IsPathSolver solver → (program : PresentProgram state.setup state.cells) →
    IsTrueOf (sheet_of program) verdict →
    IsBounded solver verdict → SaysVerdict state solver verdict
says_verdict state ByPrimal verdict is program holds bounded = (program, holds)
says_verdict state ByDual verdict is program holds bounded = (program, holds, bounded)
says_verdict state ByParaobj verdict is program holds bounded = absurd is
says_verdict state ByPararhs verdict is program holds bounded = absurd is

bounded_verdict : (C : Checker) → JudgedLaws C →
    (solver : Solver) (limit : Option ℕ) (sheet : Sheet) (rest after : List ℕ) (bases : List Basis) (verdict : PathVerdict) (check : Check) →
    judged C (OfPath solver limit) sheet rest ≡ Right (Reached bases verdict check) after → IsBounded solver verdict
bounded_verdict C truth ByPrimal limit sheet rest after bases verdict check e = tt
bounded_verdict C truth ByDual limit sheet rest after bases verdict check e = truth.dual limit sheet rest after bases verdict check e
bounded_verdict C truth ByParaobj limit sheet rest after bases verdict check e = tt
bounded_verdict C truth ByPararhs limit sheet rest after bases verdict check e = tt

module _ (C : Checker) (reading : ReadingLaw C) (truth : JudgedLaws C) (Holds : Type 0) (w : Walker) (owed : Owes C Holds w.pending w.state.setup w.state.cells)
    (lawful : HasProblem w.state.setup) where
  module _ (solver : Solver) (is_path : IsPathSolver solver) (limit : Option ℕ) (card : ℕ) (present : Present) (lp : LinearProgram)
      (set : w.state.setup ≡ Some present)
      (is : selected present.problem (choice_of w.state.cells present.options) ≡ Ok lp) where
    abbrev sheet : Sheet
    sheet = record { problem = present.problem; lp = lp }

    abbrev program : PresentProgram w.state.setup w.state.cells
    program = program_of w.state.setup w.state.cells present lp lawful set is

    abbrev go : PathEnd → StatementOutcome
    go = after_path solver card present (counted w.state)

    abbrev move : StatementMove
    move = Asks (OfPath solver limit) sheet (present_basis present) go

    owes_verdict : (rest : List ℕ) (bases : List Basis) (verdict : PathVerdict) (check : Check) → Holds → IsTrueUnlessOptimal sheet verdict →
        IsBounded solver verdict →
        TakesUnlessOptimal C verdict check →
        Owes C (Holds × All (Says C w.state) (Solved solver verdict check ∷ [])) (pending_after rest verdict check)
        (Some (gone_through bases present)) w.state.cells
    owes_verdict rest bases (OptimalAt steps objective) check holds proved bounded takes = λ proves word. (
      holds,
      one_says C Holds w (Solved solver (OptimalAt steps objective) check) (
        says_verdict w.state solver (OptimalAt steps objective) is_path
            (program_before_path w.state.setup w.state.cells present bases set proves.program) proves.best bounded,
        word,
      ),
    )
    owes_verdict rest bases (CrossedAt k) check holds proved bounded takes =
        (holds, one_says C Holds w (Solved solver (CrossedAt k) check) (says_verdict w.state solver (CrossedAt k) is_path program proved bounded, takes))
    owes_verdict rest bases (InfeasibleBy steps lines) check holds proved bounded takes = (
      holds,
      one_says C Holds w (Solved solver (InfeasibleBy steps lines) check)
          (says_verdict w.state solver (InfeasibleBy steps lines) is_path program proved bounded, takes),
    )
    owes_verdict rest bases (UnboundedBy steps objective lines) check holds proved bounded takes = (
      holds,
      one_says C Holds w (Solved solver (UnboundedBy steps objective lines) check)
          (says_verdict w.state solver (UnboundedBy steps objective lines) is_path program proved bounded, takes),
    )

    path_comes : (answer : PathEnd) (rest : List ℕ) → judged C (OfPath solver limit) sheet w.rest ≡ Right answer rest → Holds →
        ComesTo C Holds w card move (follows (record (passed rest 1 w) { pending = noted w (OfPath solver limit) sheet answer }) (go answer))
    path_comes (Reached bases verdict check) rest e holds =
        let after : State = record (counted w.state) { setup = Some (gone_through bases present); mark = Some (mark_of verdict) } in
        follows_on C Holds w card move (record (passed rest 1 w) { pending = pending_after w.rest verdict check }) (go (Reached bases verdict check))
        (reads C Holds w reading card (OfPath solver limit) sheet (present_basis present) go (Reached bases verdict check) rest (w.rest, rest, e) e
        (printed_verdict (mark_of verdict) (Solved solver verdict check) after) refl
        (pays_verdict C Holds w (pending_after w.rest verdict check) (Solved solver verdict check) after
        (owes_verdict w.rest bases verdict check holds
        (truth.verdict solver limit sheet w.rest rest bases verdict check program.is_linear_program
        (selected_without_change present.problem (choice_of w.state.cells present.options) lp is) e)
        (bounded_verdict C truth solver limit sheet w.rest rest bases verdict check e) (path_word C solver limit sheet w.rest rest bases verdict check e))
        (mark_of verdict)))
    path_comes PathLimit rest e holds = absurd (never_made (λ (claim : readings.Claim). Reached [] claim.0 claim.1) PathLimit (λ claim same. cc same) _ rest e)
    path_comes (PricesWrong j) rest e holds =
        absurd (never_made (λ (claim : readings.Claim). Reached [] claim.0 claim.1) (PricesWrong j) (λ claim same. cc same) _ rest e)

    pub path_followed : IsFollowed C Holds w card (asks (OfPath solver limit) sheet present go)
    path_followed = may_stop C Holds w card (InAnswer (OfPath solver limit) sheet (path_of present)) move (record {
      comes = on_unless (GoesOn C Holds w card move) (EndsSo C Holds w card move) (open_question w (OfPath solver limit) sheet go)
          (answered C w (OfPath solver limit) sheet go (judged C (OfPath solver limit) sheet w.rest))
          (never_either (open_stop w) (open_pending w) (never_stop w) (never_pending w.pending))
          (λ none. by (judged C (OfPath solver limit) sheet w.rest) refl
          (holds_settled C Holds w.pending w.state.setup w.state.cells owed (nothing_pending w.pending (none_either (open_stop w) (open_pending w) none).1)));
    })
      where
        by : (j : Judged PathEnd) → judged C (OfPath solver limit) sheet w.rest ≡ j → Holds →
            ComesTo C Holds w card move (answered C w (OfPath solver limit) sheet go j)
        by (Right answer rest) e holds = path_comes answer rest e holds
        by Fails e holds = tt
        by Refuses e holds = tt
