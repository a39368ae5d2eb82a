-- SOLUTION is followed: under OPTIMAL it shows what is best, and settles what is pending.
use Rattle.std.proofs.Common.{◌≡◌, ℕ, Bool, true, false, List, [], ◌∷◌, ◌++◌, refl, ◌∙◌}
use Rattle.std.specs.Prelude.{All, Option, Some, None, Ok, if◌then◌else◌}
use Rattle.exact_values.specs.Rational.{ℚ}
use Rattle.exact_values.specs.Tests.{eq_ℚ}
use Rattle.exact_values.proofs.TestsLaws.{same_from_test}
use Rattle.lp_definitions.specs.LinearProgram.{LinearProgram}
use Rattle.parametric_laws.specs.Truth.{IsBestBy}
use Rattle.selection_definitions.specs.Selection.{selected}
use Rattle.listing_definitions.specs.declared.Mark.{Mark}
use Rattle.listing_definitions.specs.declared.Mark.TheVariants.{Optimal, Infeasible, Unbounded}
use Rattle.listing_definitions.specs.Report.{SolutionLines, Solution}
use Rattle.question_definitions.specs.Answers.{Sheet, OfSolution}
use Rattle.run_definitions.specs.State.{Present, present_basis, path_of, choice_of}
use Rattle.run_definitions.specs.Moves.{Prints, StatementOutcome, next, InAnswer, StatementMove, Asks}
use Rattle.run_definitions.specs.Verbs.{asks}
use Rattle.run_definitions.specs.Run.{counted}
use Rattle.soundness_laws.specs.Truth.{PresentProgram}
use Rattle.soundness_laws.proofs.Moves.{HasProblem}
use Rattle.soundness_laws.proofs.Selected.{selected_has_no_change}
use Rattle.walk_definitions.specs.Checkers.{Checker}
use Rattle.walk_definitions.specs.Tables.{column_of}
use Rattle.walk_definitions.specs.Tests.{point_of, prices_of}
use Rattle.walk_definitions.specs.Reading.{Judged, Right, Fails, Refuses, judged}
use Rattle.walk_definitions.specs.Walker.{Pending, Walker, Finds, Wrong, open_question, follows, passed, settles, settled, answered}
use Rattle.walk_laws.specs.Read.{ReadingLaw}
use Rattle.walk_laws.specs.Judged.{JudgedLaws}
use Rattle.walk_laws.specs.Proved.{Says}
use Rattle.walk_laws.proofs.Owing.{ProvesObjective, Owes, owes_on}
use Rattle.walk_laws.proofs.Turns.{never_stop, on_unless}
use Rattle.walk_laws.proofs.Followed.{GoesOn, EndsSo, ComesTo, IsFollowed, follows_on, may_stop, one_says, reads}
use Rattle.walk_laws.proofs.Answered.{program_of}

-- what settles a pending verdict has its objective
settled_objective : (C : Checker) (pending : Pending) (objective : ℚ) → settles C pending objective ≡ true → pending.objective ≡ objective
settled_objective C pending objective e = by (eq_ℚ pending.objective objective) refl e
  where
    by : (b : Bool) → eq_ℚ pending.objective objective ≡ b → (if b then C.takes pending.check else false) ≡ true → pending.objective ≡ objective
    by true same e = same_from_test pending.objective objective same
    by false other e = absurd (cc e)

-- and a word that the checker takes
settled_word : (C : Checker) (pending : Pending) (objective : ℚ) → settles C pending objective ≡ true → C.takes pending.check ≡ true
settled_word C pending objective e = by (eq_ℚ pending.objective objective) e
  where
    by : (b : Bool) → (if b then C.takes pending.check else false) ≡ true → C.takes pending.check ≡ true
    by true takes = takes
    by false e = absurd (cc e)

module _ (C : Checker) (reading : ReadingLaw C) (truth : JudgedLaws C) (Holds : Type 0) (w : Walker) (owed : Owes C Holds w.pending w.state.setup w.state.cells)
    (lawful : HasProblem w.state.setup) where
  module _ (card : ℕ) (present : Present) (lp : LinearProgram) (set : w.state.setup ≡ Some present)
      (is : selected present.problem (choice_of w.state.cells present.options) ≡ Ok lp) where
    abbrev sheet : Sheet
    sheet = record { problem = present.problem; lp = lp }

    abbrev program : PresentProgram w.state.setup w.state.cells
    program = program_of w.state.setup w.state.cells present lp lawful set is

    abbrev go : Mark → SolutionLines → StatementOutcome
    go mark = λ lines. next (Prints (Solution mark lines)) (counted w.state)

    abbrev move : Mark → StatementMove
    move mark = Asks (OfSolution mark) sheet (present_basis present) (go mark)

    -- ---- under OPTIMAL

    module _ (lines : SolutionLines) (rest : List ℕ) (e : judged C (OfSolution Optimal) sheet w.rest ≡ Right lines rest) where
      solved : IsBestBy lp (point_of sheet lines) (prices_of sheet lines)
      solved = truth.solution sheet w.rest rest lines program.is_linear_program e

      proves : (pending : Pending) → settles C pending (point_of sheet lines lp.objective) ≡ true →
          ProvesObjective w.state.setup w.state.cells pending.objective
      proves pending viewed = record {
        program = program;
        best = record {
          point = column_of 1 (lines.rows ++ lines.columns);
          prices = column_of 5 (lines.rows ++ lines.columns);
          best = solved.best;
          certificate = solved.certificate;
          is_objective =
              settled_objective C pending (point_of sheet lines lp.objective) viewed
              ∙ selected_has_no_change present.problem (choice_of w.state.cells present.options) lp is (point_of sheet lines);
        };
      }

      shows_on : Holds → ComesTo C Holds w card (move Optimal) (follows (record (passed rest 1 w) { pending = None }) (go Optimal lines))
      shows_on holds =
          follows_on C Holds w card (move Optimal) (record (passed rest 1 w) { pending = None }) (go Optimal lines)
          (reads C Holds w reading card (OfSolution Optimal) sheet (present_basis present) (go Optimal) lines rest (w.rest, rest, e) e refl refl
          (holds, one_says C Holds w (Solution Optimal lines) (record { program = program; best = solved.best; certificate = solved.certificate })))

      settles_on : (pending : Option Pending) → Owes C Holds pending w.state.setup w.state.cells →
          ComesTo C Holds w card (move Optimal)
          (settled C w pending (point_of sheet lines lp.objective) (follows (record (passed rest 1 w) { pending = None }) (go Optimal lines)))
      settles_on None owed = shows_on owed
      settles_on (Some pending) owed = by (settles C pending (point_of sheet lines lp.objective)) refl
        where
          by : (b : Bool) → settles C pending (point_of sheet lines lp.objective) ≡ b →
              ComesTo C Holds w card (move Optimal)
              (if b then follows (record (passed rest 1 w) { pending = None }) (go Optimal lines) else Finds (Wrong pending.rest))
          by true viewed = shows_on (owed (proves pending viewed) (settled_word C pending (point_of sheet lines lp.objective) viewed))
          by false other = tt

    asks_followed : (mark : Mark) →
        ((lines : SolutionLines) (rest : List ℕ) → judged C (OfSolution mark) sheet w.rest ≡ Right lines rest →
        ComesTo C Holds w card (move mark) (answered C w (OfSolution mark) sheet (go mark) (Right lines rest))) →
        IsFollowed C Holds w card (asks (OfSolution mark) sheet present (go mark))
    asks_followed mark right = may_stop C Holds w card (InAnswer (OfSolution mark) sheet (path_of present)) (move mark) (record {
      comes = on_unless (GoesOn C Holds w card (move mark)) (EndsSo C Holds w card (move mark)) (open_question w (OfSolution mark) sheet (go mark))
          (answered C w (OfSolution mark) sheet (go mark) (judged C (OfSolution mark) sheet w.rest)) (never_stop w)
          (λ none. by (judged C (OfSolution mark) sheet w.rest) refl);
    })
      where
        by : (j : Judged SolutionLines) → judged C (OfSolution mark) sheet w.rest ≡ j →
            ComesTo C Holds w card (move mark) (answered C w (OfSolution mark) sheet (go mark) j)
        by (Right lines rest) e = right lines rest e
        by Fails e = tt
        by Refuses e = tt

    -- ---- another mark leaves pending what is pending

    other_on : (mark : Mark) (lines : SolutionLines) → Says C w.state (Solution mark lines) →
        Owes C (Holds × All (Says C w.state) (Solution mark lines ∷ [])) w.pending w.state.setup w.state.cells
    other_on mark lines says =
        owes_on C Holds (All (Says C w.state) (Solution mark lines ∷ [])) w.pending w.state.setup w.state.cells w.state.setup w.state.cells owed
        (one_says C Holds w (Solution mark lines) says)
        (λ p some. record { setups = refl; objectives = refl; rhs = refl })

    pub solution_followed : (mark : Mark) → IsFollowed C Holds w card (asks (OfSolution mark) sheet present (go mark))
    solution_followed Optimal = asks_followed Optimal (λ lines rest e. settles_on lines rest e w.pending owed)
    solution_followed Infeasible = asks_followed Infeasible (λ lines rest e.
        follows_on C Holds w card (move Infeasible) (record (passed rest 1 w) { pending = w.pending }) (go Infeasible lines)
        (reads C Holds w reading card (OfSolution Infeasible) sheet (present_basis present) (go Infeasible) lines rest (w.rest, rest, e) e refl refl
        (other_on Infeasible lines tt)))
    solution_followed Unbounded = asks_followed Unbounded (λ lines rest e.
        follows_on C Holds w card (move Unbounded) (record (passed rest 1 w) { pending = w.pending }) (go Unbounded lines)
        (reads C Holds w reading card (OfSolution Unbounded) sheet (present_basis present) (go Unbounded) lines rest (w.rest, rest, e) e refl refl
        (other_on Unbounded lines tt)))
