-- Two runs of one job so far: after as many statements they are in the same state, and one after fewer goes on.
use Rattle.std.proofs.Common.{◌≡◌, ◌⊎◌, inl, inr, ℕ, suc, ◌≤◌, ◌<◌, List, [], ◌++◌, refl, sym, ap, ap₂, subst, ◌∙◌, arith}
use Rattle.std.proofs.Math.Nat.{eq-or-lt_of_le}
use Rattle.std.proofs.lemmas.List.{append-nil, append_assoc}
use Rattle.std.proofs.lemmas.Option.{same_Some}
use Rattle.control_definitions.specs.Program.{Statement, Program}
use Rattle.listing_definitions.specs.Report.{Report}
use Rattle.question_definitions.specs.Solving.{Solving}
use Rattle.run_definitions.specs.State.{State}
use Rattle.run_definitions.specs.Moves.{Gain, printed_by, punched_by, StatementOutcome, Goes, Gives}
use Rattle.run_definitions.specs.Verbs.{verb_move}
use Rattle.run_definitions.specs.Run.{counted, Step, Reaches, begun, stepped}
use Rattle.run_definitions.specs.Answer.{IsProgramOf, job_decks}
use Rattle.soundness_laws.specs.Laws.{KnowsSolving}
use Rattle.soundness_laws.proofs.Moves.{Knows}
use Rattle.soundness_laws.proofs.Runs.{has_problem, known}
use Rattle.determinism_laws.specs.Laws.{AnswersOnce, IsSameOrStop, Continues}
use Rattle.determinism_laws.proofs.Outcomes.{outcomes}
use Rattle.determinism_laws.proofs.Statements.{verb_once}

-- two outcomes with which a run goes on are the same
pub record SameGoing (gain other : Gain) (after another : State) : Type 0 where
  pub gains : gain ≡ other
  pub states : after ≡ another

going : (gain other : Gain) (after another : State) → IsSameOrStop (Goes gain after) (Goes other another) → SameGoing gain other after another
going gain other after another (inl e) = record { gains = cc; states = cc }
going gain other after another (inr (inl stop)) = let e = stop.1 in absurd (cc e)
going gain other after another (inr (inr stop)) = let e = stop.1 in absurd (cc e)

-- to count a statement as executed changes nothing of what a run knows
counted_known : (state : State) → Knows state → Knows (counted state)
counted_known state knows = record { marked = knows.marked; bases = knows.bases }

-- two runs so far are the same
pub record SameSoFar (reports others : List Report) (cards other_cards : List (List ℕ)) (state other : State) : Type 0 where
  pub reports_same : reports ≡ others
  pub cards_same : cards ≡ other_cards
  pub states_same : state ≡ other

module _ (S : Solving) (solving : KnowsSolving S) (answers : AnswersOnce S) (bytes : List ℕ) (program : Program) (is_program : IsProgramOf bytes program) where
  abbrev pub RunReaches : List Report → List (List ℕ) → State → Type 0
  RunReaches reports cards state = Reaches S program (job_decks program bytes) reports cards state

  -- two outcomes of one statement
  pub two_outcomes : (reports : List Report) (cards : List (List ℕ)) (state : State) (a b : StatementOutcome) → RunReaches reports cards state →
      Step S program state a → Step S program state b → IsSameOrStop a b
  two_outcomes reports cards state a b reaches first second =
      outcomes S first.statement.card (verb_move first.statement.verb first.statement.card (counted state)) a b
      (verb_once S answers first.statement.verb first.statement.card (counted state)
      (has_problem S solving bytes program is_program reports cards state reaches)
      (counted_known state (known S solving bytes program is_program reports cards state reaches))).once
      first.gives moved
    where
      same : second.statement ≡ first.statement
      same = same_Some second.statement first.statement (sym second.is_at_position ∙ first.is_at_position)

      moved : Gives S first.statement.card (verb_move first.statement.verb first.statement.card (counted state)) b
      moved = subst (λ (x : Statement ℕ). Gives S x.card (verb_move x.verb x.card (counted state)) b) same second.gives

  -- how many statements a run has executed so far
  abbrev pub steps : {reports : List Report} {cards : List (List ℕ)} {state : State} → RunReaches reports cards state → ℕ
  steps begun = 0
  steps (stepped gain after before step) = suc (steps before)

  -- the run goes on from here
  pub record GoesOn (state : State) : Type 0 where
    pub gain : Gain
    pub after : State
    pub step : Step S program state (Goes gain after)

  one_more : (reports others : List Report) (cards other_cards : List (List ℕ)) (state other : State) (gain another : Gain) (after later : State) →
      RunReaches reports cards state →
      SameSoFar reports others cards other_cards state other → Step S program state (Goes gain after) → Step S program other (Goes another later) →
      SameSoFar (reports ++ printed_by gain) (others ++ printed_by another) (cards ++ punched_by gain) (other_cards ++ punched_by another) after later
  one_more reports others cards other_cards state other gain another after later reaches same step second =
      let moved : Step S program state (Goes another later) = subst (λ x. Step S program x (Goes another later)) (sym same.states_same) second in
      let goes = going gain another after later (two_outcomes reports cards state (Goes gain after) (Goes another later) reaches step moved) in
      record {
        reports_same = ap₂ (λ xs g. xs ++ printed_by g) same.reports_same goes.gains;
        cards_same = ap₂ (λ xs g. xs ++ punched_by g) same.cards_same goes.gains;
        states_same = goes.states;
      }

  -- after as many statements two runs are the same
  pub same_so_far : (reports others : List Report) (cards other_cards : List (List ℕ)) (state other : State) (first : RunReaches reports cards state)
      (second : RunReaches others other_cards other) →
      steps first ≡ steps second → SameSoFar reports others cards other_cards state other
  same_so_far _ _ _ _ _ _ begun begun e = record { reports_same = refl; cards_same = refl; states_same = refl }
  same_so_far _ _ _ _ _ _ begun (stepped gain after before step) e = absurd (omega arith)
  same_so_far _ _ _ _ _ _ (stepped gain after before step) begun e = absurd (omega arith)
  same_so_far _ _ _ _ _ _ (stepped {reports} {cards} {state} gain after before step)
      (stepped {reports = others} {cards = other_cards} {state = other} another later earlier second) e =
      one_more reports others cards other_cards state other gain another after later before
      (same_so_far reports others cards other_cards state other before earlier (omega (arith, e))) step second

  -- a run that has executed fewer statements than another goes on
  pub goes_on : (reports others : List Report) (cards other_cards : List (List ℕ)) (state other : State) (first : RunReaches reports cards state)
      (second : RunReaches others other_cards other) →
      steps first < steps second → GoesOn state
  goes_on _ _ _ _ _ _ first begun e = absurd (omega (arith, e))
  goes_on reports _ cards _ state _ first (stepped {reports = others} {cards = other_cards} {state = other} gain after before step) e =
      by (eq-or-lt_of_le {n = steps first} {m = steps before} (omega (arith, e))) (goes_on reports others cards other_cards state other first before)
    where
      by : (steps first ≡ steps before) ⊎ (steps first < steps before) → (steps first < steps before → GoesOn state) → GoesOn state
      by (inl as_many) earlier = record {
        gain = gain;
        after = after;
        step =
            subst (λ x. Step S program x (Goes gain after))
            (sym (same_so_far reports others cards other_cards state other first before as_many).states_same) step;
      }
      by (inr fewer) earlier = earlier fewer

  -- and the other continues it
  pub continues : (reports others : List Report) (cards other_cards : List (List ℕ)) (state other : State) (first : RunReaches reports cards state)
      (second : RunReaches others other_cards other) →
      steps first ≤ steps second → Continues reports others cards other_cards
  continues _ _ _ _ _ _ begun begun e = record { more_reports = []; more_cards = []; are_reports = refl; are_cards = refl }
  continues _ _ _ _ _ _ (stepped gain after before step) begun e = absurd (omega (arith, e))
  continues reports _ cards _ state _ first (stepped {reports = others} {cards = other_cards} {state = other} gain after before step) e =
      by (eq-or-lt_of_le {n = steps first} {m = suc (steps before)} e) (continues reports others cards other_cards state other first before)
    where
      by : (steps first ≡ suc (steps before)) ⊎ (steps first < suc (steps before)) → (steps first ≤ steps before → Continues reports others cards other_cards) →
          Continues reports (others ++ printed_by gain) cards (other_cards ++ punched_by gain)
      by (inl as_many) earlier =
          let same =
          same_so_far reports (others ++ printed_by gain) cards (other_cards ++ punched_by gain) state after first (stepped gain after before step) as_many in
          record {
            more_reports = [];
            more_cards = [];
            are_reports = sym same.reports_same ∙ sym (append-nil reports);
            are_cards = sym same.cards_same ∙ sym (append-nil cards);
          }
      by (inr fewer) earlier =
          let rest = earlier (omega (arith, fewer)) in
          record {
            more_reports = rest.more_reports ++ printed_by gain;
            more_cards = rest.more_cards ++ punched_by gain;
            are_reports = ap (λ xs. xs ++ printed_by gain) rest.are_reports ∙ append_assoc reports rest.more_reports (printed_by gain);
            are_cards = ap (λ xs. xs ++ punched_by gain) rest.are_cards ∙ append_assoc cards rest.more_cards (punched_by gain);
          }
