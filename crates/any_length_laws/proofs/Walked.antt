-- Where the walk of the checker of 128 bits goes on, or attests the listing, so does that of any length.
--     IsGood turn                  the walk goes on, or has attested the listing
use Rattle.std.proofs.Common.{◌≡◌, ℕ, ◌-◌, Bool, true, false, List, Option, Some, None, if◌then◌else◌, nat_lt, refl, sym, ap, ◌∙◌, subst}
use Rattle.std.specs.Prelude.{length, slice_get}
use Rattle.exact_values.specs.Rational.{ℚ}
use Rattle.exact_values.specs.Tests.{eq_ℚ}
use Rattle.card_definitions.specs.Cards.{Card}
use Rattle.control_definitions.specs.Program.{Statement, Program}
use Rattle.listing_definitions.specs.declared.Mark.TheVariants.{Optimal, Infeasible, Unbounded}
use Rattle.listing_definitions.specs.Report.{Check}
use Rattle.listing_definitions.specs.Report as reports
use Rattle.listing_definitions.specs.Ending.{Ended, StatementLimit}
use Rattle.question_definitions.specs.Answers.{Sheet, Question, OfPath, OfSolution, OfRanges, OfParametricRun, OfPunch, OfInstall, AnswerTo}
use Rattle.run_definitions.specs.Moves.{StatementOutcome, StatementMove, Does, MayStop, Asks}
use Rattle.run_definitions.specs.Verbs.{verb_move}
use Rattle.run_definitions.specs.Run.{max_executed, counted}
use Rattle.run_definitions.specs.Answer.{job_decks}
use Rattle.walk_definitions.specs.Checkers.{checker_of_128_bits, checker_of_any_length}
use Rattle.walk_definitions.specs.Tests.{point_of}
use Rattle.walk_definitions.specs.Reading.{Judged, Right, Fails, Refuses, judged}
use Rattle.walk_definitions.specs.Walker.{Pending, Walker, Found, Attested, Wrong, Unchecked, WalkTurn, Walks, Finds, opened, refuses_selection, unless_found}
use Rattle.walk_definitions.specs.Walker.{closes, follows, passed, settled, noted, settling, answered, due, walk_move, walk_statement, turn}
use Rattle.walk_definitions.specs.Found.{Reaches, begun, walked, EndsIn, of_cards, of_control, of_walk}
use Rattle.any_length_laws.specs.Laws.{Widens}
use Rattle.any_length_laws.proofs.Judged.{judged_widens}

abbrev IsGood : WalkTurn → Type 0
IsGood (Walks w) = Unit {0}
IsGood (Finds (Attested count)) = Unit {0}
IsGood (Finds found) = ⊥

-- where the first comes to something good, so does the second
record Follows (a b : WalkTurn) : Type 0 where
  by : (turn : WalkTurn) → IsGood turn → a ≡ turn → b ≡ turn

same : (a : WalkTurn) → Follows a a
same a = record { by = λ turn good e. e }

-- what isn't good is followed by anything
not_good : (found : Found) (b : WalkTurn) → (IsGood (Finds found) → ⊥) → Follows (Finds found) b
not_good found b bad = record { by = λ turn good e. absurd (bad (subst_good turn good e)) }
  where
    subst_good : (turn : WalkTurn) → IsGood turn → Finds found ≡ turn → IsGood (Finds found)
    subst_good turn good e = subst IsGood (sym e) good

settled_follows : (w : Walker) (o : Option Pending) (objective : ℚ) (a : WalkTurn) →
    Follows (settled checker_of_128_bits w o objective a) (settled checker_of_any_length w o objective a)
settled_follows w None objective a = same a
settled_follows w (Some pending) objective a = by (eq_ℚ pending.objective objective) pending.check
  where
    by : (b : Bool) (check : Check) →
        Follows (if (if b then checker_of_128_bits.takes check else false) then a else Finds (Wrong pending.rest))
        (if (if b then checker_of_any_length.takes check else false) then a else Finds (Wrong pending.rest))
    by false check = same (Finds (Wrong pending.rest))
    by true reports.Checked = same a
    by true (reports.Unchecked refused) = not_good (Wrong pending.rest) a (λ bad. bad)

settling_follows : (w : Walker) (question : Question) (sheet : Sheet) (answer : AnswerTo question) (a : WalkTurn) →
    Follows (settling checker_of_128_bits w question sheet answer a) (settling checker_of_any_length w question sheet answer a)
settling_follows w (OfSolution Optimal) sheet lines a = settled_follows w w.pending (point_of sheet lines sheet.lp.objective) a
settling_follows w (OfSolution Infeasible) sheet lines a = same a
settling_follows w (OfSolution Unbounded) sheet lines a = same a
settling_follows w (OfPath solver limit) sheet answer a = same a
settling_follows w OfRanges sheet answer a = same a
settling_follows w (OfParametricRun parametric_run) sheet answer a = same a
settling_follows w OfPunch sheet answer a = same a
settling_follows w (OfInstall basis) sheet answer a = same a

answered_follows : (w : Walker) (question : Question) (sheet : Sheet) (go : AnswerTo question → StatementOutcome) →
    Follows (answered checker_of_128_bits w question sheet go (judged checker_of_128_bits question sheet w.rest))
    (answered checker_of_any_length w question sheet go (judged checker_of_any_length question sheet w.rest))
answered_follows w question sheet go = by (judged checker_of_128_bits question sheet w.rest) refl
  where
    by : (j : Judged (AnswerTo question)) → judged checker_of_128_bits question sheet w.rest ≡ j →
        Follows (answered checker_of_128_bits w question sheet go j)
        (answered checker_of_any_length w question sheet go (judged checker_of_any_length question sheet w.rest))
    by Fails is = not_good (Wrong w.rest) _ (λ bad. bad)
    by Refuses is = not_good (Unchecked w.rest) _ (λ bad. bad)
    by (Right answer rest) is = record {
      by = λ turn good e.
          ap (answered checker_of_any_length w question sheet go) (judged_widens question sheet w.rest rest answer is)
          ∙ (settling_follows w question sheet answer
          (follows (record (passed rest 1 w) { pending = noted w question sheet answer }) (go answer))).by turn good e;
    }

due_follows : (w : Walker) (move : StatementMove) → Follows (due checker_of_128_bits w move) (due checker_of_any_length w move)
due_follows w (Does outcome) = same _
due_follows w (MayStop refusals move) = due_follows w move
due_follows w (Asks question sheet s go) = answered_follows w question sheet go

unless_follows : (o : Option Found) (a b : WalkTurn) → Follows a b → Follows (unless_found o a) (unless_found o b)
unless_follows None a b follows = follows
unless_follows (Some found) a b follows = same (Finds found)

move_follows : (w : Walker) (move : StatementMove) → Follows (walk_move checker_of_128_bits w move) (walk_move checker_of_any_length w move)
move_follows w move = unless_follows (opened w move) _ _ (by (refuses_selection move))
  where
    by : (b : Bool) →
        Follows (if b then Finds (Unchecked w.rest) else due checker_of_128_bits w move)
        (if b then Finds (Unchecked w.rest) else due checker_of_any_length w move)
    by true = same _
    by false = due_follows w move

statement_follows : (w : Walker) (o : Option (Statement ℕ)) → Follows (walk_statement checker_of_128_bits w o) (walk_statement checker_of_any_length w o)
statement_follows w None = same _
statement_follows w (Some statement) = move_follows w (verb_move statement.verb statement.card (counted w.state))

turn_follows : (program : Program) (w : Walker) → Follows (turn checker_of_128_bits program w) (turn checker_of_any_length program w)
unfolding turn
turn_follows program w = by (nat_lt (length program.statements) w.state.position) (nat_lt w.state.executed max_executed)
  where
    by : (a b : Bool) → Follows
        (if a then closes w (Ended 0) else if b then walk_statement checker_of_128_bits w
        (slice_get program.statements (w.state.position - 1)) else closes w StatementLimit)
        (if a then closes w (Ended 0) else if b then walk_statement checker_of_any_length w
        (slice_get program.statements (w.state.position - 1)) else closes w StatementLimit)
    by true b = same _
    by false true = statement_follows w (slice_get program.statements (w.state.position - 1))
    by false false = same _

reaches_too : (program : Program) (decks : List (List Card)) (lines : List ℕ) (w : Walker) → Reaches checker_of_128_bits program decks lines w →
    Reaches checker_of_any_length program decks lines w
reaches_too program decks lines _ begun = begun
reaches_too program decks lines _ (walked {w = w} {v = v} before is) =
    walked (reaches_too program decks lines w before) ((turn_follows program w).by (Walks v) tt is)

attested_too : (bytes lines : List ℕ) (count : ℕ) → EndsIn checker_of_128_bits bytes lines (Attested count) →
    EndsIn checker_of_any_length bytes lines (Attested count)
attested_too bytes lines count (of_cards fault is e) = of_cards fault is e
attested_too bytes lines count (of_control fault none is e) = of_control fault none is e
attested_too bytes lines count (of_walk program w is_program reaches e) =
    of_walk program w is_program (reaches_too program (job_decks program bytes) lines w reaches) ((turn_follows program w).by (Finds (Attested count)) tt e)

pub all_widens : Widens
all_widens = record { right = judged_widens; attested = attested_too }
