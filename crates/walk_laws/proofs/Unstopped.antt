-- A run whose listing is attested doesn't stop with an overflow: the walk goes past no selection that is refused.
use Rattle.std.proofs.Common.{◌≡◌, inl, inr, ℕ, ◌-◌, Bool, true, false, not, ◌||◌, List, length, refl, subst, arith, ltb-true, ltb-false}
use Rattle.std.specs.Prelude.{Option, Some, None, slice_get, nat_lt, if◌then◌else◌}
use Rattle.std.specs.Option.{option_or}
use Rattle.std.proofs.lemmas.Option.{slice_get_within}
use Rattle.control_definitions.specs.Program.{Statement, Program}
use Rattle.selection_definitions.proofs.Making.{made_iff}
use Rattle.selection_definitions.specs.Making.{is_made}
use Rattle.listing_definitions.specs.Ending.{Ending, Ended, StatementLimit}
use Rattle.question_definitions.specs.Answers.{Sheet, Question, OfPath, OfSolution, OfRanges, OfParametricRun, OfPunch, OfInstall, AnswerTo, Installed}
use Rattle.run_definitions.specs.State.{State}
use Rattle.run_definitions.specs.Moves.{Gain, StatementOutcome, Ends, InSelection, InAnswer, StatementMove, Does, MayStop, Asks, Gives}
use Rattle.run_definitions.specs.Verbs.{verb_move}
use Rattle.run_definitions.specs.Run.{max_executed, counted, Step, IsOver, at_end, at_limit}
use Rattle.determinism_laws.specs.Laws.{IsOverflow, HasEvidence}
use Rattle.determinism_laws.proofs.Stops.{statement_evidence}
use Rattle.walk_definitions.specs.Checkers.{Checker}
use Rattle.walk_definitions.specs.Forms.{is_ranges, is_punched}
use Rattle.walk_definitions.specs.Walker.{Walker, Found, Attested, Unchecked, WalkTurn, Finds, open_if, open_stop, open_pending, is_inserted_by, open_question}
use Rattle.walk_definitions.specs.Walker.{opened, refuses_selection, unless_found, closes, due, walk_move, walk_statement, turn}
use Rattle.walk_laws.specs.Proved.{attested}
use Rattle.walk_laws.proofs.Turns.{NeverAttests, never_either, never_if, never_pending, never_stop, never_outcome}

-- ---- where a selection isn't refused, no evidence holds

both_parts : (a b : Bool) → (not a || b) ≡ false → (a ≡ true) × (b ≡ false)
both_parts true b e = (refl, e)
both_parts false b e = absurd (cc e)

no_evidence : (C : Checker) (move : StatementMove) → refuses_selection move ≡ false → HasEvidence (attested C) move → ⊥
no_evidence C (Does outcome) e evidence = evidence
no_evidence C (MayStop (InSelection problem choice) move) e (inl viewed) =
    (made_iff problem choice).0 (both_parts (is_made problem choice) (refuses_selection move) e).0 viewed.0 viewed.2.0
no_evidence C (MayStop (InSelection problem choice) move) e (inr later) =
    no_evidence C move (both_parts (is_made problem choice) (refuses_selection move) e).1 later
no_evidence C (MayStop (InAnswer question sheet bases) move) e (inl viewed) = viewed.2
no_evidence C (MayStop (InAnswer question sheet bases) move) e (inr later) = no_evidence C move e later
no_evidence C (Asks question sheet s go) e evidence = evidence

-- ---- what is open isn't attested

never_asked : (w : Walker) (question : Question) (sheet : Sheet) (go : AnswerTo question → StatementOutcome) → NeverAttests (open_question w question sheet go)
never_asked w (OfSolution mark) sheet go = never_stop w
never_asked w OfRanges sheet go = never_either (open_stop w) (open_if (is_ranges w.rest) w) (never_stop w) (never_if (is_ranges w.rest) w)
never_asked w OfPunch sheet go =
    never_either (open_stop w) (open_if (is_punched sheet.problem.name w.rest) w) (never_stop w) (never_if (is_punched sheet.problem.name w.rest) w)
never_asked w (OfInstall basis) sheet go =
    never_either (open_stop w) (option_or (open_if (is_inserted_by (go Installed) w.rest) w) (open_pending w)) (never_stop w)
    (never_either (open_if (is_inserted_by (go Installed) w.rest) w) (open_pending w) (never_if (is_inserted_by (go Installed) w.rest) w)
    (never_pending w.pending))
never_asked w (OfPath solver limit) sheet go = never_either (open_stop w) (open_pending w) (never_stop w) (never_pending w.pending)
never_asked w (OfParametricRun parametric_run) sheet go = never_either (open_stop w) (open_pending w) (never_stop w) (never_pending w.pending)

never_opened : (w : Walker) (move : StatementMove) → NeverAttests (opened w move)
never_opened w (Does outcome) = never_outcome w outcome
never_opened w (MayStop refusals move) = never_opened w move
never_opened w (Asks question sheet s go) = never_asked w question sheet go

-- ---- the statement by which a walk ends attested

is_due : (o : Option Found) (refused : Bool) (rest : List ℕ) (turn : WalkTurn) (count : ℕ) → NeverAttests o →
    unless_found o (if refused then Finds (Unchecked rest) else turn) ≡ Finds (Attested count) → refused ≡ false
is_due None false rest turn count never e = refl
is_due None true rest turn count never e = absurd (cc e)
is_due (Some found) refused rest turn count never e =
    let same : found ≡ Attested count = cc in
    absurd (subst (λ (f : Found). NeverAttests (Some f)) same never)

module _ (C : Checker) (program : Program) (w : Walker) (count : ℕ) (outcome : StatementOutcome) (step : Step (attested C) program w.state outcome) where
  abbrev move : StatementMove
  move = verb_move step.statement.verb step.statement.card (counted w.state)

  by_move : walk_move C w move ≡ Finds (Attested count) → refuses_selection move ≡ false
  by_move e = is_due (opened w move) (refuses_selection move) w.rest (due C w move) count (never_opened w move) e

  by_limit : (below : Bool) → nat_lt w.state.executed max_executed ≡ below →
      (if below then walk_statement C w (slice_get program.statements (w.state.position - 1)) else closes w StatementLimit) ≡ Finds (Attested count) →
      refuses_selection move ≡ false
  by_limit true is e = by_move (subst (λ (o : Option (Statement ℕ)). walk_statement C w o ≡ Finds (Attested count)) step.is_at_position e)
  by_limit false is e =
      let limit = ltb-false w.state.executed max_executed is in
      let below = step.is_within_limit in
      absurd (omega (arith, limit, below))

  by_end : (past : Bool) → nat_lt (length program.statements) w.state.position ≡ past →
      (if past then closes w (Ended 0)
      else if nat_lt w.state.executed max_executed then walk_statement C w
      (slice_get program.statements (w.state.position - 1)) else closes w StatementLimit) ≡ Finds (Attested count) →
      refuses_selection move ≡ false
  by_end true is e =
      let after = ltb-true (length program.statements) w.state.position is in
      let within = slice_get_within program.statements (w.state.position - 1) step.statement step.is_at_position in
      absurd (omega (arith, after, within))
  by_end false is e = by_limit (nat_lt w.state.executed max_executed) refl e

  not_refused : turn C program w ≡ Finds (Attested count) → refuses_selection move ≡ false
  unfolding turn
  not_refused e = by_end (nat_lt (length program.statements) w.state.position) refl e

pub ends_unstopped : (C : Checker) (program : Program) (w : Walker) (count : ℕ) (gain : Gain) (ending : Ending) →
    Step (attested C) program w.state (Ends gain ending) → turn C program w ≡ Finds (Attested count) → IsOverflow ending → ⊥
ends_unstopped C program w count gain ending step e stop =
    no_evidence C (verb_move step.statement.verb step.statement.card (counted w.state)) (not_refused C program w count (Ends gain ending) step e)
    (statement_evidence (attested C) step.statement.card gain stop.0 step.statement.verb (counted w.state)
    (subst (λ (x : Ending). Gives (attested C) step.statement.card (verb_move step.statement.verb step.statement.card (counted w.state))
    (Ends gain x)) stop.1 step.gives))

pub over_unstopped : (C : Checker) (program : Program) (state : State) (ending : Ending) → IsOver (attested C) program state ending → IsOverflow ending → ⊥
over_unstopped C program state _ (at_end past) stop = let e = stop.1 in cc e
over_unstopped C program state _ (at_limit within limit) stop = let e = stop.1 in cc e
