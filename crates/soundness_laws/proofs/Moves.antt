-- What a run knows at each state, and moves that keep it.
--     HasProblem setup             the setup's problem is lawful
--     Knows state                  where the mark is OPTIMAL, the present basis ends the path optimal, in what the present cells select
--     Keeps at outcome             the outcome's report holds of the state in which it is made, and the next state knows that
--     IsKept S at card move          every outcome of a move keeps it
use Rattle.std.proofs.Common.{◌≡◌, ℕ, List, refl, sym, subst, inl, inr}
use Rattle.std.specs.Prelude.{Option, Some, None, Result, Ok, Err}
use Rattle.exact_values.specs.Rational.{ℚ}
use Rattle.lp_definitions.specs.LinearProgram.{LinearProgram}
use Rattle.problem_definitions.specs.Names.{Name}
use Rattle.problem_definitions.specs.Problem.{Problem}
use Rattle.problem_definitions.specs.Valid.{IsProblem}
use Rattle.deck_definitions.specs.declared.DeckFault.{DeckFault}
use Rattle.simplex_definitions.specs.Path.{EndsOptimal, EndsAt}
use Rattle.selection_definitions.specs.declared.SelectionFault.{SelectionFault}
use Rattle.selection_definitions.specs.Choice.{Choice}
use Rattle.selection_definitions.specs.Selection.{selected}
use Rattle.listing_definitions.specs.declared.Mark.{Mark}
use Rattle.listing_definitions.specs.declared.Mark.TheVariants.{Optimal}
use Rattle.listing_definitions.specs.declared.VerbFault.{VerbFault}
use Rattle.question_definitions.specs.Answers.{Basis, Sheet, Question, AnswerTo}
use Rattle.question_definitions.specs.Solving.{Solving, IsRight}
use Rattle.run_definitions.specs.State.{Present, present_basis, State}
use Rattle.run_definitions.specs.Moves.{Gain, Nothing, Prints, Punches, StatementOutcome, Goes, Ends, Refusals, StatementMove, Does, MayStop, Asks, Gives}
use Rattle.run_definitions.specs.Moves.{or_fault}
use Rattle.run_definitions.specs.Verbs.{or_deck_fault, or_selection_fault, selects}
use Rattle.simplex_laws.specs.Laws.{IsNonsingularBasis}
use Rattle.soundness_laws.specs.Truth.{Holds, HoldsAtEnd}
use Rattle.soundness_laws.proofs.Shapes.{basis_of_either}

pub record EndsOptimally (setup : Option Present) (objective rhs : Option Name) : Type 0 where
  pub present : Present
  pub is_setup : setup ≡ Some present
  pub lp : LinearProgram
  pub is_selected : selected present.problem (record { objective = objective; rhs = rhs; options = present.options }) ≡ Ok lp
  pub point : List ℚ
  pub prices : List ℚ
  pub ends : EndsAt lp (present_basis present) (EndsOptimal point prices)

abbrev pub KnowsMark : Option Mark → Option Present → Option Name → Option Name → Type 0
KnowsMark mark setup objective rhs = mark ≡ Some Optimal → EndsOptimally setup objective rhs

-- whatever the cells select of the setup's problem, the present basis is a nonsingular basis of it
pub record HasBases (present : Present) : Type 0 where
  pub in_each : (objective rhs : Option Name) (lp : LinearProgram) →
      selected present.problem (record { objective = objective; rhs = rhs; options = present.options }) ≡ Ok lp →
      IsNonsingularBasis lp (present_basis present)

abbrev pub KnowsBases : Option Present → Type 0
KnowsBases setup = (present : Present) → setup ≡ Some present → HasBases present

pub record Knows (state : State) : Type 0 where
  pub marked : KnowsMark state.mark state.setup state.cells.xobj state.cells.xrhs
  pub bases : KnowsBases state.setup

-- no mark, nothing to know
pub unmarked : (setup : Option Present) (objective rhs : Option Name) → KnowsMark None setup objective rhs
unmarked setup objective rhs e = absurd (cc e)

-- no setup, no bases
pub without_setup : KnowsBases None
without_setup present e = absurd (cc e)

-- the setup's problem is lawful, if there is a setup
abbrev pub HasProblem : Option Present → Type 0
HasProblem setup = (present : Present) → setup ≡ Some present → IsProblem present.problem

-- a nonsingular basis of what is selected now is one of all that may be selected
pub with_basis : (present : Present) (objective rhs : Option Name) (lp : LinearProgram) →
    selected present.problem (record { objective = objective; rhs = rhs; options = present.options }) ≡ Ok lp →
    IsNonsingularBasis lp (present_basis present) → KnowsBases (Some present)
with_basis present objective rhs lp is at other e = subst HasBases same (record {
  in_each = λ objective' rhs' lp' is'. basis_of_either present.problem present.options objective rhs objective' rhs' lp lp' (present_basis present) is is' at;
})
  where
    same : present ≡ other
    same = cc

abbrev pub HoldsGain : State → Gain → Type 0
HoldsGain at Nothing = Unit {0}
HoldsGain at (Prints report) = Holds at report
HoldsGain at (Punches report cards) = Holds at report

abbrev pub Keeps : State → StatementOutcome → Type 0
Keeps at (Goes gain after) = HoldsGain at gain × Knows after
Keeps at (Ends gain ending) = HoldsGain at gain × HoldsAtEnd at ending

pub record IsKept (S : Solving) (at : State) (card : ℕ) (move : StatementMove) : Type 0 where
  pub by : (outcome : StatementOutcome) → Gives S card move outcome → Keeps at outcome

pub does : (S : Solving) (at : State) (card : ℕ) (outcome : StatementOutcome) → Keeps at outcome → IsKept S at card (Does outcome)
does S at card outcome keeps = record { by = λ given e. subst (Keeps at) (sym e) keeps }

pub may_stop : (S : Solving) (at : State) (card : ℕ) (refusals : Refusals) (move : StatementMove) → IsKept S at card move →
    IsKept S at card (MayStop refusals move)
may_stop S at card refusals move kept = record { by = gives_so }
  where
    gives_so : (given : StatementOutcome) → Gives S card (MayStop refusals move) given → Keeps at given
    gives_so given (inl gives) = kept.by given gives
    gives_so given (inr stop) = subst (Keeps at) (sym stop.3) (tt, tt)

pub answered : (S : Solving) (at : State) (card : ℕ) (question : Question) (sheet : Sheet) (s : Basis) (go : AnswerTo question → StatementOutcome) →
    ((answer : AnswerTo question) → IsRight S question sheet s answer → Keeps at (go answer)) → IsKept S at card (Asks question sheet s go)
answered S at card question sheet s go kept = record { by = λ given a. subst (Keeps at) (sym a.2) (kept a.0 a.1) }

pub unless_fault : {X : Type 0} (S : Solving) (at : State) (card : ℕ) (fault : VerbFault) (o : Option X) (go : X → StatementMove) →
    ((x : X) → o ≡ Some x → IsKept S at card (go x)) → IsKept S at card (or_fault card fault o go)
unless_fault S at card fault None go kept = does S at card _ (tt, tt)
unless_fault S at card fault (Some x) go kept = kept x refl

pub unless_deck_fault : {X : Type 0} (S : Solving) (at : State) (card : ℕ) (r : Result X DeckFault) (go : X → StatementMove) →
    ((x : X) → r ≡ Ok x → IsKept S at card (go x)) → IsKept S at card (or_deck_fault r go)
unless_deck_fault S at card (Err fault) go kept = does S at card _ (tt, tt)
unless_deck_fault S at card (Ok x) go kept = kept x refl

pub unless_selection_fault : (S : Solving) (at : State) (card : ℕ) (r : Result LinearProgram SelectionFault) (go : LinearProgram → StatementMove) →
    ((lp : LinearProgram) → r ≡ Ok lp → IsKept S at card (go lp)) →
    IsKept S at card (or_selection_fault card r go)
unless_selection_fault S at card (Err fault) go kept = does S at card _ (tt, tt)
unless_selection_fault S at card (Ok lp) go kept = kept lp refl

pub selecting : (S : Solving) (at : State) (card : ℕ) (problem : Problem ℕ) (choice : Choice) (go : LinearProgram → StatementMove) →
    ((lp : LinearProgram) → selected problem choice ≡ Ok lp → IsKept S at card (go lp)) →
    IsKept S at card (selects card problem choice go)
selecting S at card problem choice go kept = unless_selection_fault S at card (selected problem choice) _ (λ lp e. may_stop S at card _ (go lp) (kept lp e))
