-- A run that stops with an overflow has come to a moment at which evidence of one holds.
use Rattle.std.proofs.Common.{◌≡◌, ℕ, List, subst}
use Rattle.listing_definitions.specs.Report.{Report}
use Rattle.listing_definitions.specs.Ending.{Overflow, Ending, OverflowStop}
use Rattle.control_definitions.specs.Program.{Program}
use Rattle.question_definitions.specs.Solving.{Solving}
use Rattle.run_definitions.specs.Moves.{Ends, Gives}
use Rattle.run_definitions.specs.Verbs.{verb_move}
use Rattle.run_definitions.specs.Run.{counted, at_end, at_limit, IsRun, is_over, is_ended}
use Rattle.run_definitions.specs.Answer.{IsProgramOf, job_decks, IsJobRun, card_fault, control_fault, run}
use Rattle.determinism_laws.proofs.Stops.{statement_evidence}
use Rattle.one_run_laws.specs.Laws.{MeetsEvidence}

module _ (S : Solving) (bytes : List ℕ) (overflow : Overflow) where
  stopped_at : (program : Program) (reports : List Report) (cards : List (List ℕ)) (ending : Ending) → IsProgramOf bytes program →
      IsRun S program (job_decks program bytes) reports cards ending →
      ending ≡ OverflowStop overflow → MeetsEvidence S bytes
  stopped_at program _ _ _ is (is_over came (at_end past)) stop = cc
  stopped_at program _ _ _ is (is_over came (at_limit within limit)) stop = cc
  stopped_at program _ _ ending is (is_ended {reports} {cards} {state} gain came step) stop = record {
    program = program;
    reports = reports;
    cards = cards;
    state = state;
    statement = step.statement;
    so_far = record { is_program = is; reaches = came };
    is_next = step.is_at_position;
    within_limit = step.is_within_limit;
    evidence = statement_evidence S step.statement.card gain overflow step.statement.verb (counted state)
        (subst (λ x. Gives S step.statement.card (verb_move step.statement.verb step.statement.card (counted state)) (Ends gain x)) stop step.gives);
  }

  by_run : (reports : List Report) (cards : List (List ℕ)) (ending : Ending) → IsJobRun S bytes reports cards ending → ending ≡ OverflowStop overflow →
      MeetsEvidence S bytes
  by_run _ _ _ (card_fault fault is) stop = cc
  by_run _ _ _ (control_fault fault fine is) stop = cc
  by_run reports cards ending (run program is runs) stop = stopped_at program reports cards ending is runs stop

  pub meets_evidence : (reports : List Report) (cards : List (List ℕ)) → IsJobRun S bytes reports cards (OverflowStop overflow) → MeetsEvidence S bytes
  meets_evidence reports cards runs = by_run reports cards (OverflowStop overflow) runs (λ i. OverflowStop overflow)
