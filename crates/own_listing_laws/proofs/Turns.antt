-- What a turn of the walk is: the end, after the last statement; that of the limit of statements; or the statement at the position.
use Rattle.std.proofs.Common.{◌≡◌, ℕ, ◌-◌, true, false, length, Some, if◌then◌else◌, ap, ◌∙◌}
use Rattle.std.specs.Prelude.{slice_get, nat_lt}
use Rattle.control_definitions.specs.Program.{Statement, Program}
use Rattle.listing_definitions.specs.Ending.{Ended, StatementLimit}
use Rattle.run_definitions.specs.Verbs.{verb_move}
use Rattle.run_definitions.specs.Run.{max_executed, counted}
use Rattle.walk_definitions.specs.Checkers.{Checker}
use Rattle.walk_definitions.specs.Walker.{Walker, closes, walk_move, walk_statement, turn}

module _ (C : Checker) (program : Program) (w : Walker) where
  pub turn_at_end : nat_lt (length program.statements) w.state.position ≡ true → turn C program w ≡ closes w (Ended 0)
  unfolding turn
  turn_at_end e =
      ap (λ b. if b then closes w (Ended 0) else if nat_lt w.state.executed max_executed then walk_statement C w
      (slice_get program.statements (w.state.position - 1)) else closes w StatementLimit) e

  turn_before_end : nat_lt (length program.statements) w.state.position ≡ false →
      turn C program w ≡
      (if nat_lt w.state.executed max_executed then walk_statement C w
      (slice_get program.statements (w.state.position - 1)) else closes w StatementLimit)
  unfolding turn
  turn_before_end e =
      ap (λ b. if b then closes w (Ended 0) else if nat_lt w.state.executed max_executed then walk_statement C w
      (slice_get program.statements (w.state.position - 1)) else closes w StatementLimit) e

  pub turn_at_limit : nat_lt (length program.statements) w.state.position ≡ false → nat_lt w.state.executed max_executed ≡ false →
      turn C program w ≡ closes w StatementLimit
  turn_at_limit e f =
      turn_before_end e
      ∙ ap (λ b. if b then walk_statement C w (slice_get program.statements (w.state.position - 1)) else closes w StatementLimit) f

  pub turn_at_statement : (statement : Statement ℕ) → nat_lt (length program.statements) w.state.position ≡ false →
      nat_lt w.state.executed max_executed ≡ true →
      slice_get program.statements (w.state.position - 1) ≡ Some statement →
      turn C program w ≡ walk_move C w (verb_move statement.verb statement.card (counted w.state))
  turn_at_statement statement e f at =
      turn_before_end e
      ∙ ap (λ b. if b then walk_statement C w (slice_get program.statements (w.state.position - 1)) else closes w StatementLimit) f
      ∙ ap (walk_statement C w) at
