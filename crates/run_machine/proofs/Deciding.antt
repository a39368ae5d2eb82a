-- What the statements come to that print nothing.
use Rattle.std.proofs.Common.{◌≡◌, ℕ, ◌≤◌, List, Option, None, refl, sym, ap, ◌∙◌}
use Rattle.problem_file.specs.Filed.{Filed}
use Rattle.exact_values.specs.Rational.{ℚ}
use Rattle.control_definitions.specs.declared.NameCell.{NameCell}
use Rattle.control_definitions.specs.declared.NumberCell.{NumberCell}
use Rattle.control_definitions.specs.declared.Demand.{Demand}
use Rattle.control_definitions.specs.Program.{Initialz, MoveName, MoveNumber, MoveLimit, Mvadr, Goto, Exit}
use Rattle.listing_definitions.specs.declared.Mark.{Mark}
use Rattle.control_definitions.specs.Cells.{Cells, default_cells, move_name, move_number, move_limit, set_demand}
use Rattle.run_definitions.specs.State.{Present, State}
use Rattle.run_definitions.specs.Moves.{DecidesAlone}
use Rattle.run_definitions.specs.Verbs.{mark_after, verb_move}
use Rattle.run_machine.specs.declared.act.Act.TheVariants.{Next, Jump, Ends}
use Rattle.run_machine.specs.declared.end.End.TheVariants.{Done}
use Rattle.run_machine.specs.declared.machine.Machine.{Machine}
use Rattle.run_machine.specs.Standing.{Represents}
use Rattle.run_machine.specs.Statements.{Decides}

module _ {K : Type 0} (Shows : Filed → K → Present → Type 0) where
  -- cells and mark change in the state as they do in the machine
  pub stands_changed : {cards : List (List ℕ)} {old : Machine K} {position executed : ℕ} {state : State} → Represents Shows cards old position executed state →
      (v w : Cells) (m n : Option Mark) → v ≡ w → m ≡ n →
      Represents Shows cards (record old { cells = w; mark = n }) position executed (record state { cells = v; mark = m })
  stands_changed s v w m n e f =
      record { is_position = s.is_position; is_executed = s.is_executed; cells = e; file = s.file; decks = s.decks; setup = s.setup; mark = f }

  pub initialz_decides : (card : ℕ) (old : Machine K) (cells : Cells) → cells ≡ default_cells →
      Decides Shows DecidesAlone Initialz card old (record old { cells = cells; mark = None }) Next
  unfolding verb_move
  initialz_decides card old cells e = λ cards position executed state s.
      (record state { cells = default_cells; mark = None }, refl, stands_changed s default_cells cells None None (sym e) refl)

  pub name_decides : (cell : NameCell) (name : List ℕ) (card : ℕ) (old : Machine K) (cells : Cells) (mark : Option Mark) →
      cells ≡ move_name cell name old.cells → mark ≡ mark_after cell old.mark →
      Decides Shows DecidesAlone (MoveName cell name) card old (record old { cells = cells; mark = mark }) Next
  unfolding verb_move
  name_decides cell name card old cells mark e f = λ cards position executed state s. (
    record state { cells = move_name cell name state.cells; mark = mark_after cell state.mark },
    refl,
    stands_changed s (move_name cell name state.cells) cells (mark_after cell state.mark) mark (ap (move_name cell name) s.cells ∙ sym e)
        (ap (mark_after cell) s.mark ∙ sym f),
  )

  pub number_decides : (cell : NumberCell) (value : ℚ) (card : ℕ) (old : Machine K) (cells : Cells) → cells ≡ move_number cell value old.cells →
      Decides Shows DecidesAlone (MoveNumber cell value) card old (record old { cells = cells }) Next
  unfolding verb_move
  number_decides cell value card old cells e = λ cards position executed state s. (
    record state { cells = move_number cell value state.cells },
    refl,
    stands_changed s (move_number cell value state.cells) cells state.mark old.mark (ap (move_number cell value) s.cells ∙ sym e) s.mark,
  )

  pub limit_decides : (limit : Option ℕ) (card : ℕ) (old : Machine K) (cells : Cells) → cells ≡ move_limit limit old.cells →
      Decides Shows DecidesAlone (MoveLimit limit) card old (record old { cells = cells }) Next
  unfolding verb_move
  limit_decides limit card old cells e = λ cards position executed state s. (
    record state { cells = move_limit limit state.cells },
    refl,
    stands_changed s (move_limit limit state.cells) cells state.mark old.mark
        (ap (move_limit limit) s.cells ∙ sym e) s.mark,
  )

  pub demand_decides : (demand : Demand) (to card : ℕ) (old : Machine K) (cells : Cells) → cells ≡ set_demand demand to old.cells →
      Decides Shows DecidesAlone (Mvadr demand to) card old (record old { cells = cells }) Next
  unfolding verb_move
  demand_decides demand to card old cells e = λ cards position executed state s. (
    record state { cells = set_demand demand to state.cells },
    refl,
    stands_changed s (set_demand demand to state.cells) cells state.mark old.mark (ap (set_demand demand to) s.cells ∙ sym e) s.mark,
  )

  pub goto_decides : (to card : ℕ) (machine : Machine K) → 1 ≤ to → Decides Shows DecidesAlone (Goto to) card machine machine (Jump to)
  unfolding verb_move
  goto_decides to card machine h = λ cards position executed state s. (state, refl, s, h)

  pub exit_decides : (card : ℕ) (machine : Machine K) → Decides Shows DecidesAlone Exit card machine machine (Ends Done)
  unfolding verb_move
  exit_decides card machine = λ cards position executed state s. refl
