-- What a move comes to in the walk that asks nothing of linear programming.
use Rattle.std.proofs.Common.{◌≡◌, ℕ, ◌==◌, Bool, true, false, not, List, [], ◌∷◌, ◌++◌, Option, Some, None, Result, Ok, Err, length, refl, sym, ap, ◌∙◌}
use Rattle.std.proofs.Common.{if◌then◌else◌, arith}
use Rattle.std.specs.Prelude.{is_none}
use Rattle.std.specs.Option.{option_or}
use Rattle.listing_definitions.specs.declared.VerbFault.{VerbFault}
use Rattle.listing_definitions.specs.declared.Solver.{Solver}
use Rattle.listing_definitions.specs.declared.Solver.TheVariants as solvers
use Rattle.listing_definitions.specs.Report.{Report, Titled, Converted, Revised, SetUp, BcdOut, BasisOut, Inserted, Solved, Solution, Ranges, Parametric}
use Rattle.listing_definitions.specs.Text.{report_text, solver_text}
use Rattle.deck_definitions.specs.declared.DeckFault.{DeckFault}
use Rattle.run_definitions.specs.State.{State}
use Rattle.run_definitions.specs.Moves.{Gain, Nothing, Prints, Punches, printed_by, gain_text, StatementOutcome, Goes, gain_of, StatementMove, Does, MayStop}
use Rattle.run_definitions.specs.Moves.{Asks, DecidesAlone, or_fault}
use Rattle.run_definitions.specs.Verbs.{or_deck_fault}
use Rattle.walk_definitions.specs.Checkers.{Checker}
use Rattle.walk_definitions.specs.Words.{left_after}
use Rattle.listing_walk.specs.Walking.{open_by, has_text, one_if}
use Rattle.walk_definitions.specs.Walker.{Walker, Found, Unchecked, WalkTurn, Finds, open_stop, open_pending, open_outcome, opened, refuses_selection}
use Rattle.walk_definitions.specs.Walker.{unless_found, taken, due, walk_move}

-- ---- a move that asks nothing

settled_open : (w : Walker) (card : ℕ) (move : StatementMove) (outcome : StatementOutcome) → DecidesAlone card move outcome →
    opened w move ≡ open_outcome w outcome
settled_open w card (Does given) outcome e = ap (open_outcome w) (sym e)
settled_open w card (MayStop refusals move) outcome e = settled_open w card move outcome e
settled_open w card (Asks question sheet s go) outcome e = absurd e

settled_due : (C : Checker) (w : Walker) (card : ℕ) (move : StatementMove) (outcome : StatementOutcome) → DecidesAlone card move outcome →
    due C w move ≡ taken w outcome (left_after (gain_text (gain_of outcome)) w.rest)
settled_due C w card (Does given) outcome e = ap (λ (o : StatementOutcome). taken w o (left_after (gain_text (gain_of o)) w.rest)) (sym e)
settled_due C w card (MayStop refusals move) outcome e = settled_due C w card move outcome e
settled_due C w card (Asks question sheet s go) outcome e = absurd e

-- what such a move comes to
abbrev pub settled_turn : Walker → StatementOutcome → WalkTurn
settled_turn w outcome = unless_found (open_outcome w outcome) (taken w outcome (left_after (gain_text (gain_of outcome)) w.rest))

abbrev choose : Walker → StatementMove → Option Found → Bool → WalkTurn → WalkTurn
choose w move found refused turn = unless_found found (if refused then Finds (Unchecked w.rest) else turn)

pub settled : (C : Checker) (w : Walker) (card : ℕ) (move : StatementMove) (outcome : StatementOutcome) → DecidesAlone card move outcome →
    refuses_selection move ≡ false → walk_move C w move ≡ settled_turn w outcome
settled C w card move outcome e plain =
    ap (λ (b : Bool). choose w move (opened w move) b (due C w move)) plain
    ∙ ap (λ (found : Option Found). unless_found found (due C w move)) (settled_open w card move outcome e) ∙
    ap (λ (turn : WalkTurn). unless_found (open_outcome w outcome) turn) (settled_due C w card move outcome e)

-- where a selection is refused
pub settled_refused : (C : Checker) (w : Walker) (card : ℕ) (move : StatementMove) (outcome : StatementOutcome) → DecidesAlone card move outcome →
    refuses_selection move ≡ true → walk_move C w move ≡ unless_found (open_outcome w outcome) (Finds (Unchecked w.rest))
settled_refused C w card move outcome e refused =
    ap (λ (b : Bool). choose w move (opened w move) b (due C w move)) refused
    ∙ ap (λ (found : Option Found). unless_found found (Finds (Unchecked w.rest))) (settled_open w card move outcome e)

-- ---- a move without a selection

pub plain_fault : {X : Type 0} (card : ℕ) (fault : VerbFault) (found : Option X) (go : X → StatementMove) → ((x : X) → refuses_selection (go x) ≡ false) →
    refuses_selection (or_fault card fault found go) ≡ false
plain_fault card fault None go h = refl
plain_fault card fault (Some x) go h = h x

pub plain_deck : {X : Type 0} (found : Result X DeckFault) (go : X → StatementMove) → ((x : X) → refuses_selection (go x) ≡ false) →
    refuses_selection (or_deck_fault found go) ≡ false
plain_deck (Err fault) go h = refl
plain_deck (Ok x) go h = h x

-- ---- what is open

pub loud_by_length : (text : List ℕ) → not (length text == 0) ≡ has_text text
loud_by_length [] = refl
loud_by_length (x ∷ xs) = grind arith

loud_solver : (solver : Solver) (rest : List ℕ) → has_text (solver_text solver ++ rest) ≡ true
loud_solver solvers.Primal rest = refl
loud_solver solvers.Dual rest = refl
loud_solver solvers.Paraobj rest = refl
loud_solver solvers.Pararhs rest = refl

pub loud : (report : Report) → has_text (report_text report) ≡ true
loud (Titled text) = refl
loud (Converted filed) = refl
loud (Revised filed) = refl
loud (SetUp name sense) = refl
loud (BcdOut name cards) = refl
loud (BasisOut name cards) = refl
loud (Inserted name basic) = refl
loud (Solved solver verdict check) = loud_solver solver _
loud (Solution mark lines) = refl
loud (Ranges lines) = refl
loud (Parametric solver chain) = loud_solver solver _

-- ---- what is open at an outcome, by what it prints

open_loud : (w : Walker) (report : Report) (b : Bool) →
    option_or (open_stop w) (if b then open_pending w else None) ≡ open_by (has_text (report_text report)) b w
open_loud w report b = ap (λ (looks : Bool). open_by looks b w) (sym (loud report))

pub open_goes : (w : Walker) (gain : Gain) (after : State) → open_outcome w (Goes gain after) ≡ open_by (has_text (gain_text gain)) (is_none after.mark) w
open_goes w Nothing after = refl
open_goes w (Prints report) after = open_loud w report (is_none after.mark)
open_goes w (Punches report cards) after = open_loud w report (is_none after.mark)

pub one_report : (gain : Gain) → length (printed_by gain) ≡ one_if (has_text (gain_text gain))
one_report Nothing = refl
one_report (Prints report) = ap one_if (sym (loud report))
one_report (Punches report cards) = ap one_if (sym (loud report))
