-- What follows a statement that asks nothing.
use Rattle.std.proofs.Common.{◌≡◌, ℕ, ◌+◌, Bool, true, false, ◌||◌, List, Option, Some, None, Result, Ok, Err, IfOk, length, refl, sym, ap, subst, ◌∙◌}
use Rattle.std.specs.Prelude.{is_none, is_some, not, option_map}
use denote.Bor.{Bor}
use Rattle.std.specs.declared.alloc.AllocError.{AllocError as NoMemory}
use Rattle.listing_words.specs.Read.{taken}
use Rattle.listing_definitions.specs.declared.Mark.{Mark}
use Rattle.listing_definitions.specs.Ending.{Ending}
use Rattle.run_definitions.specs.State.{State}
use Rattle.run_definitions.specs.Moves.{Gain, printed_by, gain_text, StatementOutcome, Ends, gain_of, next, jump, StatementMove, DecidesAlone}
use Rattle.run_machine.specs.declared.act.Act.{Act}
use Rattle.run_machine.specs.declared.act.Act.TheVariants as acts
use Rattle.run_machine.specs.declared.end.End.{End}
use Rattle.run_machine.specs.declared.machine.Machine.{Machine}
use Rattle.run_machine.specs.Ends.{end_view}
use Rattle.run_machine.specs.Standing as machines
use Rattle.run_machine.specs.Statements.{Follows}
use Rattle.walk_definitions.specs.Checkers.{Checker}
use Rattle.walk_definitions.specs.Words.{left_after}
use Rattle.walk_definitions.specs.Walker as walks
use Rattle.listing_walk.specs.declared.chosen.Chosen.{Chosen}
use Rattle.listing_walk.specs.declared.place.ListingPlace.{ListingPlace}
use Rattle.listing_walk.specs.declared.place.Pending.{Pending}
use Rattle.listing_walk.specs.declared.found.Found.{Found}
use Rattle.listing_walk.specs.declared.found.Found.TheVariants as founds
use Rattle.listing_walk.specs.declared.walk_step.WalkStep.{WalkStep}
use Rattle.listing_walk.specs.declared.walk_step.WalkStep.TheVariants as walk_step
use Rattle.listing_walk.specs.Ended.{found_view}
use Rattle.listing_walk.specs.Standing.{IsView, ShowsPending, Faces}
use Rattle.listing_walk.specs.Walking.{open_by, has_text, one_if, ends_run, TurnsTo, IsOutcome, Finishes, Passes}
use Rattle.listing_walk.proofs.Settled.{settled, open_goes, one_report}

-- ---- once the report is passed

-- the state at another position
pub placed : {cards : List (List ℕ)} {machine : Machine Chosen} {position executed : ℕ} {state : State} (to by : ℕ) →
    machines.Represents IsView cards machine position executed state → by ≡ to →
    machines.Represents IsView cards machine to executed (record state { position = by })
placed to by s e = record {
  is_position = e;
  is_executed = s.is_executed;
  cells = s.cells;
  file = s.file;
  decks = s.decks;
  setup = s.setup;
  mark = s.mark;
}

-- what is left, what is pending and the reports are those of the walker, whatever its state is
pub faces_still : {place : ListingPlace} {w : walks.Walker} (state : State) → Faces place w → Faces place (record w { state = state })
faces_still state f = record { rest = f.rest; pending = f.pending; reports = f.reports }

pub finished_next : (place : ListingPlace) → Finishes place place acts.Next walk_step.Next
finished_next place = λ v outcome cards machine position executed gain f is. (
  record v { state = record (is.0) { position = is.0.position + 1 } },
  ap (walks.follows v) (sym is.1),
  record {
    state = placed (position + 1) (is.0.position + 1) is.2 (ap (λ n. n + 1) is.2.is_position);
    faces = faces_still
        (record (is.0) { position = is.0.position + 1 }) f;
  },
)

pub finished_jump : (place : ListingPlace) (to : ℕ) → Finishes place place (acts.Jump to) (walk_step.Jump to)
finished_jump place to = λ v outcome cards machine position executed gain f is. (
  record v { state = record (is.0) { position = to } },
  ap (walks.follows v) (sym is.1),
  record { state = placed to to is.2 refl; faces = faces_still (record (is.0) { position = to }) f },
  is.3,
)

pub finished_ends : (old new : ListingPlace) (end : End) (ending : Ending) (found : Found) → ending ≡ end_view end →
    ((w : walks.Walker) → Faces old w → walks.closes w ending ≡ walks.Finds (found_view found)) →
    Finishes old new (acts.Ends end) (walk_step.Finds found)
finished_ends old new end ending found same closes = λ v outcome cards machine position executed gain f is.
    ap (walks.follows v) (sym is) ∙ ap (walks.closes v) (sym same) ∙ closes v f

-- ---- from the statement on

module _ (machine : Machine Chosen) (act : Act) (text : List ℕ) where
  -- the outcome of a move that comes to an act
  record IsOf (w : walks.Walker) (card : ℕ) (move : StatementMove) (cards : List (List ℕ)) (position executed : ℕ) (gain : Gain) : Type 0 where
    outcome : StatementOutcome
    settles : DecidesAlone card move outcome
    is_outcome : IsOutcome outcome cards machine position executed gain act
    is_gain : gain_of outcome ≡ gain
    opens : walks.open_outcome w outcome ≡ open_by (ends_run act || has_text text) (ends_run act || is_none machine.mark) w

opens_by : (machine : Machine Chosen) (text : List ℕ) (w : walks.Walker) (gain : Gain) (after : State) → gain_text gain ≡ text → after.mark ≡ machine.mark →
    walks.open_outcome w (next gain after) ≡ open_by (has_text text) (is_none machine.mark) w
opens_by machine text w gain after same mark =
    open_goes w gain (record after { position = after.position + 1 }) ∙ ap (λ (t : List ℕ). open_by (has_text t) (is_none after.mark) w) same
    ∙ ap (λ (m : Option Mark). open_by (has_text text) (is_none m) w) mark

opens_jump : (machine : Machine Chosen) (text : List ℕ) (w : walks.Walker) (gain : Gain) (to : ℕ) (after : State) → gain_text gain ≡ text →
    after.mark ≡ machine.mark →
    walks.open_outcome w (jump gain to after) ≡ open_by (has_text text) (is_none machine.mark) w
opens_jump machine text w gain to after same mark =
    open_goes w gain (record after { position = to }) ∙ ap (λ (t : List ℕ). open_by (has_text t) (is_none after.mark) w) same
    ∙ ap (λ (m : Option Mark). open_by (has_text text) (is_none m) w) mark

outcome_of : (machine : Machine Chosen) (act : Act) (text : List ℕ) (w : walks.Walker) (card : ℕ) (move : StatementMove) (cards : List (List ℕ))
    (position executed : ℕ) (gain : Gain) →
    Follows IsView DecidesAlone card move cards machine position executed gain act → gain_text gain ≡ text →
    IsOf machine act text w card move cards position executed gain
outcome_of machine acts.Next text w card move cards position executed gain f same = record {
  outcome = next gain f.0;
  settles = f.1;
  is_outcome = (f.0, refl, f.2);
  is_gain = refl;
  opens = opens_by machine text w gain f.0 same f.2.mark;
}
outcome_of machine (acts.Jump to) text w card move cards position executed gain f same = record {
  outcome = jump gain to f.0;
  settles = f.1;
  is_outcome = (f.0, refl, f.2, f.3);
  is_gain = refl;
  opens = opens_jump machine text w gain to f.0 same f.2.mark;
}
outcome_of machine (acts.Ends end) text w card move cards position executed gain f same = record {
  outcome = Ends gain (end_view end);
  settles = f;
  is_outcome = refl;
  is_gain = refl;
  opens = refl;
}

module _ (machine : Machine Chosen) (old new : ListingPlace) (act : Act) (text : List ℕ) where
  -- what is open is found
  pub passes_open : (found : Found) →
      ((w : walks.Walker) → Faces old w →
      option_map found_view (Some found) ≡ open_by (ends_run act || has_text text) (ends_run act || is_none machine.mark) w) →
      Passes machine old new act text (walk_step.Finds found)
  passes_open found there_is = λ C w card move cards position executed gain f plain follows same.
      let o = outcome_of machine act text w card move cards position executed gain follows same in
      settled C w card move o.outcome o.settles plain ∙
      ap (λ (x : Option walks.Found). walks.unless_found x (walks.taken w o.outcome (left_after (gain_text (gain_of o.outcome)) w.rest)))
      (o.opens ∙ sym (there_is w f))

  module _ (none : (w : walks.Walker) → Faces old w → None ≡ open_by (ends_run act || has_text text) (ends_run act || is_none machine.mark) w) where
    -- nothing is open
    turn_taken : (C : Checker) (w : walks.Walker) (card : ℕ) (move : StatementMove) (cards : List (List ℕ)) (position executed : ℕ) (gain : Gain) →
        Faces old w → walks.refuses_selection move ≡ false → (o : IsOf machine act text w card move cards position executed gain) →
        gain_text gain ≡ text → walks.walk_move C w move ≡ walks.taken w o.outcome (left_after text old.cursor)
    turn_taken C w card move cards position executed gain f plain o same =
        settled C w card move o.outcome o.settles plain ∙
        ap (λ (x : Option walks.Found). walks.unless_found x (walks.taken w o.outcome (left_after (gain_text (gain_of o.outcome)) w.rest)))
        (o.opens ∙ sym (none w f)) ∙
        ap (λ (g : Gain). walks.taken w o.outcome (left_after (gain_text g) w.rest)) o.is_gain ∙
        ap (λ (t : List ℕ). walks.taken w o.outcome (left_after t w.rest)) same ∙
        ap (λ (rest : List ℕ). walks.taken w o.outcome (left_after text rest)) f.rest

    -- the text doesn't stand here
    pub passes_wrong : (found : Found) → left_after text old.cursor ≡ None → found_view found ≡ walks.Wrong old.cursor →
        Passes machine old new act text (walk_step.Finds found)
    passes_wrong found gone wrong = λ C w card move cards position executed gain f plain follows same.
        let o = outcome_of machine act text w card move cards position executed gain follows same in
        turn_taken C w card move cards position executed gain f plain o same ∙ ap (walks.taken w o.outcome) gone ∙
        ap (λ (rest : List ℕ). walks.Finds (walks.Wrong rest)) f.rest ∙ ap (λ (x : walks.Found). walks.Finds x) (sym wrong)

    -- it does
    pub passes_on : (mid : ListingPlace) (w' : WalkStep) → left_after text old.cursor ≡ Some mid.cursor → mid.pending ≡ old.pending →
        mid.reports ≡ old.reports + one_if (has_text text) → Finishes mid new act w' →
        Passes machine old new act text w'
    passes_on mid w' there kept counted finishes = λ C w card move cards position executed gain f plain follows same.
        let o = outcome_of machine act text w card move cards position executed gain follows same in
        let count : length (printed_by (gain_of o.outcome)) ≡ one_if (has_text text) =
        ap (λ (g : Gain). length (printed_by g)) o.is_gain ∙ one_report gain ∙ ap (λ (t : List ℕ). one_if (has_text t)) same in
        let v : walks.Walker = walks.passed mid.cursor (length (printed_by (gain_of o.outcome))) w in
        let faces : Faces mid v = record {
          rest = refl;
          pending = subst (λ (p : Option Pending). ShowsPending p w.pending) (sym kept) f.pending;
          reports = ap (λ n. w.reports + n) count ∙ ap (λ n. n + one_if (has_text text)) f.reports ∙ sym counted;
        } in
        subst (λ (t : walks.WalkTurn). TurnsTo t cards machine position executed new w')
        (sym (turn_taken C w card move cards position executed gain f plain o same ∙ ap (walks.taken w o.outcome) there))
        (finishes v o.outcome cards machine position executed gain faces o.is_outcome)

-- ---- with the tests by their results

module _ (machine : Machine Chosen) (old : ListingPlace) (act : Act) (text : List ℕ) (looks clears : Bool) (is_looks : looks ≡ (ends_run act || has_text text))
    (is_clears : clears ≡ (ends_run act || is_none machine.mark)) where
  -- what is open, by these tests
  open_so : (x : Option walks.Found) → ((w : walks.Walker) → Faces old w → x ≡ open_by looks clears w) → (w : walks.Walker) → Faces old w →
      x ≡ open_by (ends_run act || has_text text) (ends_run act || is_none machine.mark) w
  open_so x there_is w f = there_is w f ∙ (λ i. open_by (is_looks i) (is_clears i) w)

  pub passes_open_by : (new : ListingPlace) (found : Found) → ((w : walks.Walker) → Faces old w → option_map found_view (Some found) ≡ open_by looks clears w) →
      Passes machine old new act text (walk_step.Finds found)
  passes_open_by new found there_is = passes_open machine old new act text found (open_so (Some (found_view found)) there_is)

  module _ (none : (w : walks.Walker) → Faces old w → None ≡ open_by looks clears w) where
    pub passes_wrong_by : (mid : ListingPlace) (rest : Bor (List ℕ)) → rest.now ≡ old.cursor → (passes : Bool) → passes ≡ false →
        left_after text old.cursor ≡ taken passes mid.cursor → (new : ListingPlace) →
        Passes machine old new act text (walk_step.Finds (founds.Wrong rest))
    passes_wrong_by mid rest here passes gone there new =
        passes_wrong machine old new act text (open_so None none) (founds.Wrong rest) (there ∙ ap (λ (b : Bool). taken b mid.cursor) gone)
        (ap (λ (left : List ℕ). walks.Wrong left) here)

    pub passes_on_by : (mid new : ListingPlace) (passes : Bool) → passes ≡ true → left_after text old.cursor ≡ taken passes mid.cursor →
        mid.pending ≡ old.pending → (passes ≡ true → mid.reports ≡ old.reports + one_if (has_text text)) →
        (result : Result WalkStep NoMemory) → IfOk result (Finishes mid new act) → IfOk result (Passes machine old new act text)
    passes_on_by mid new passes there_is there kept counted (Ok w') finishes =
        passes_on machine old new act text (open_so None none) mid w' (there ∙ ap (λ (b : Bool). taken b mid.cursor) there_is) kept (counted there_is) finishes
    passes_on_by mid new passes there_is there kept counted (Err stop) finishes = tt

pub is_none_by : {X : Type 0} (o : Option X) (b : Bool) → is_some o ≡ not b → b ≡ is_none o
is_none_by None true e = refl
is_none_by None false e = absurd (cc e)
is_none_by (Some x) true e = absurd (cc e)
is_none_by (Some x) false e = refl
