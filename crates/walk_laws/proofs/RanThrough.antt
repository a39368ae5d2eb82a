-- A parametric run is followed: its intervals and its end are true, or the verdict of its opening is.
use Rattle.std.proofs.Common.{◌≡◌, ℕ, List, [], refl}
use Rattle.std.specs.Prelude.{Option, Some, None, Ok}
use Rattle.lp_definitions.specs.LinearProgram.{LinearProgram}
use Rattle.selection_definitions.specs.Selection.{selected}
use Rattle.listing_definitions.specs.Report.{PathVerdict, Solved, Parametric}
use Rattle.question_definitions.specs.Answers.{Sheet, Changing, Row, Set, changing_name, parametric_solver, ParametricRun, OfParametricRun, ParametricRunEnd}
use Rattle.question_definitions.specs.Answers.{Opening, Chained, ParametricRunLimit}
use Rattle.answer_definitions.specs.ParametricRuns.{sheet_at}
use Rattle.run_definitions.specs.State.{Present, present_basis, path_of, gone_through, State, choice_of}
use Rattle.run_definitions.specs.Moves.{StatementOutcome, InAnswer, StatementMove, Asks}
use Rattle.run_definitions.specs.Verbs.{asks, mark_of, after_parametric_run}
use Rattle.run_definitions.specs.Run.{counted}
use Rattle.soundness_laws.specs.ParametricRuns.{ChangesFreely}
use Rattle.soundness_laws.specs.Truth.{PresentProgram, ReportsOfRun}
use Rattle.soundness_laws.proofs.ChangeRow.{changes_freely}
use Rattle.soundness_laws.proofs.Moves.{HasProblem}
use Rattle.soundness_laws.proofs.Verbs.{IsAskedFor}
use Rattle.walk_definitions.specs.Checkers.{Checker}
use Rattle.walk_definitions.specs.Reading.{Judged, Right, Fails, Refuses, judged, parametric_run_head, parametric_run_in}
use Rattle.walk_definitions.specs.Reading as readings
use Rattle.walk_definitions.specs.Words.{left_after}
use Rattle.walk_definitions.specs.Walker.{Walker, open_stop, open_pending, open_question, follows, passed, answered}
use Rattle.walk_laws.specs.Read.{ReadingLaw}
use Rattle.walk_laws.specs.Views.{IsTrueAtFirst}
use Rattle.walk_laws.specs.Judged.{JudgedLaws}
use Rattle.walk_laws.specs.Proved.{ShowsProvedChain, SaysVerdict, Says}
use Rattle.walk_laws.proofs.Rightly.{opening_word}
use Rattle.walk_laws.proofs.Owing.{Owes, holds_settled}
use Rattle.walk_laws.proofs.Turns.{never_either, never_stop, never_pending, none_either, nothing_pending, on_unless}
use Rattle.walk_laws.proofs.Followed.{GoesOn, EndsSo, ComesTo, IsFollowed, follows_on, may_stop, one_says, reads}
use Rattle.walk_laws.proofs.Answered.{printed_verdict, pays_verdict, program_of, never_made}

opening_says : (state : State) (changing : Changing) (verdict : PathVerdict) →
    ReportsOfRun state.setup state.cells (parametric_solver changing)
    (λ sheet parametric_run. IsTrueAtFirst (sheet_at sheet parametric_run.changing parametric_run.from) verdict) →
    SaysVerdict state (parametric_solver changing) verdict
opening_says state (Row name) verdict reported = reported
opening_says state (Set name) verdict reported = reported

-- no listing shows that a run was stopped at its limit
never_limited : (C : Checker) (sheet : Sheet) (parametric_run : ParametricRun) (rest after : List ℕ) (left : Option (List ℕ)) →
    parametric_run_in C sheet parametric_run rest left ≡ Right ParametricRunLimit after → ⊥
never_limited C sheet parametric_run rest after None e =
    never_made (λ (claim : readings.Claim). Opening [] claim.0 claim.1) ParametricRunLimit (λ claim same. cc same) _ after e
never_limited C sheet parametric_run rest after (Some left) e =
    never_made (λ (run : readings.Run). Chained [] run.0 run.1) ParametricRunLimit (λ run same. cc same) _ after e

module _ (C : Checker) (reading : ReadingLaw C) (truth : JudgedLaws C) (Holds : Type 0) (w : Walker) (owed : Owes C Holds w.pending w.state.setup w.state.cells)
    (lawful : HasProblem w.state.setup) where
  module _ (card : ℕ) (present : Present) (lp : LinearProgram) (parametric_run : ParametricRun) (set : w.state.setup ≡ Some present)
      (is : selected present.problem (choice_of w.state.cells present.options) ≡ Ok lp) (asked : IsAskedFor w.state present parametric_run) where
    abbrev sheet : Sheet
    sheet = record { problem = present.problem; lp = lp }

    abbrev program : PresentProgram w.state.setup w.state.cells
    program = program_of w.state.setup w.state.cells present lp lawful set is

    abbrev go : ParametricRunEnd → StatementOutcome
    go = after_parametric_run card parametric_run present (counted w.state)

    abbrev move : StatementMove
    move = Asks (OfParametricRun parametric_run) sheet (present_basis present) go

    free : ChangesFreely sheet parametric_run.changing
    free = changes_freely sheet (choice_of w.state.cells present.options) parametric_run.changing program.is_problem is asked.is_part

    reported : (Tells : Sheet → ParametricRun → Type 0) → Tells sheet parametric_run →
        ReportsOfRun w.state.setup w.state.cells (parametric_solver parametric_run.changing) Tells
    reported Tells tells = record {
      program = program;
      parametric_run = parametric_run;
      is_solver = refl;
      is_part = asked.is_part;
      is_named = asked.is_named;
      from_first = asked.from_first;
      to_last = asked.to_last;
      tells = tells;
    }

    parametric_run_comes : (answer : ParametricRunEnd) (rest : List ℕ) → judged C (OfParametricRun parametric_run) sheet w.rest ≡ Right answer rest → Holds →
        ComesTo C Holds w card move (follows (record (passed rest 1 w) { pending = None }) (go answer))
    parametric_run_comes (Opening bases verdict check) rest e holds =
        let after : State = record (counted w.state) { setup = Some (gone_through bases present); mark = None } in
        let at_first = truth.opening parametric_run sheet w.rest rest bases verdict check program.is_linear_program free e in
        let says : Says C w.state (Solved (parametric_solver parametric_run.changing) verdict check) = (
          opening_says w.state parametric_run.changing verdict
              (reported (λ sheet parametric_run. IsTrueAtFirst (sheet_at sheet parametric_run.changing parametric_run.from) verdict) at_first),
          opening_word C sheet parametric_run w.rest rest bases verdict check at_first e,
        ) in
        follows_on C Holds w card move (record (passed rest 1 w) { pending = None }) (go (Opening bases verdict check))
        (reads C Holds w reading card (OfParametricRun parametric_run) sheet (present_basis present) go (Opening bases verdict check) rest (w.rest, rest, e) e
        (printed_verdict (mark_of verdict) (Solved (parametric_solver parametric_run.changing) verdict check) after) refl
        (pays_verdict C Holds w None (Solved (parametric_solver parametric_run.changing) verdict check) after
        (holds, one_says C Holds w (Solved (parametric_solver parametric_run.changing) verdict check) says) (mark_of verdict)))
    parametric_run_comes (Chained bases intervals end) rest e holds =
        follows_on C Holds w card move (record (passed rest 1 w) { pending = None }) (go (Chained bases intervals end))
        (reads C Holds w reading card (OfParametricRun parametric_run) sheet (present_basis present) go (Chained bases intervals end) rest
        (w.rest, rest, e) e refl refl (
          holds,
          one_says C Holds w
              (Parametric (parametric_solver parametric_run.changing)
              (record { from = parametric_run.from; change = changing_name parametric_run.changing; intervals = intervals; end = end }))
              (reported (ShowsProvedChain
              (record { from = parametric_run.from; change = changing_name parametric_run.changing; intervals = intervals; end = end }))
              (record {
                is_from = refl;
                is_change = refl;
                is_true = truth.chain parametric_run sheet w.rest rest bases intervals end program.is_linear_program
                    free e;
              })),
        ))
    parametric_run_comes ParametricRunLimit rest e holds =
        absurd (never_limited C sheet parametric_run w.rest rest (left_after (parametric_run_head parametric_run) w.rest) e)

    pub parametric_run_followed : IsFollowed C Holds w card (asks (OfParametricRun parametric_run) sheet present go)
    parametric_run_followed = may_stop C Holds w card (InAnswer (OfParametricRun parametric_run) sheet (path_of present)) move (record {
      comes = on_unless (GoesOn C Holds w card move) (EndsSo C Holds w card move) (open_question w (OfParametricRun parametric_run) sheet go)
          (answered C w (OfParametricRun parametric_run) sheet go (judged C (OfParametricRun parametric_run) sheet w.rest))
          (never_either (open_stop w) (open_pending w) (never_stop w) (never_pending w.pending))
          (λ none. by (judged C (OfParametricRun parametric_run) sheet w.rest) refl
          (holds_settled C Holds w.pending w.state.setup w.state.cells owed (nothing_pending w.pending (none_either (open_stop w) (open_pending w) none).1)));
    })
      where
        by : (j : Judged ParametricRunEnd) → judged C (OfParametricRun parametric_run) sheet w.rest ≡ j → Holds →
            ComesTo C Holds w card move (answered C w (OfParametricRun parametric_run) sheet go j)
        by (Right answer rest) e holds = parametric_run_comes answer rest e holds
        by Fails e holds = tt
        by Refuses e holds = tt
