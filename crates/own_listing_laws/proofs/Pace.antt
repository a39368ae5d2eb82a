-- The walk keeps pace with a run: after each statement its state is the run's but for the bases, what is left of the listing is the text of
-- what the run still prints, and what is pending is what the run has found.
--     IsLike v s                   the state of the walk, and that of the run
--     WaitsFor pending s           an optimal verdict that is pending is that of the present basis
--     KeepsPace w s more           the walk keeps pace with a run that has come to a state
--     IsRightly Refused found      what is found isn't wrong, and an operation is refused only where this holds
--     Lands Refused outcome ..     what a turn of the walk may come to, where the run comes to this
--     IsMatched C w card ..        a move of the walk lands so, where this is the move of the run
use Rattle.std.proofs.Common.{◌≡◌, ◌≤◌, ℕ, Bool, true, false, not, ◌||◌, List, [], ◌++◌, length, Option, Some, None, Result, Ok, Err, if◌then◌else◌, refl, sym}
use Rattle.std.proofs.Common.{ap, subst, ◌∙◌, ◌⊎◌, inl, inr, append-nil}
use Rattle.std.specs.Prelude.{is_none}
use Rattle.std.specs.Option.{option_or}
use Rattle.lp_definitions.specs.LinearProgram.{LinearProgram, value_at}
use Rattle.lp_definitions.specs.Basis.{Tableau, IsTableau, basics_of, price_at}
use Rattle.simplex_definitions.specs.Path.{listed}
use Rattle.check_definitions.specs.Checks.{optimal_check}
use Rattle.problem_definitions.specs.Names.{Name}
use Rattle.problem_definitions.specs.Problem.{Problem}
use Rattle.deck_definitions.specs.declared.DeckFault.{DeckFault}
use Rattle.selection_definitions.specs.declared.SelectionFault.{SelectionFault}
use Rattle.selection_definitions.specs.Choice.{Choice}
use Rattle.selection_definitions.specs.Selection.{selected}
use Rattle.selection_definitions.specs.Making.{is_made}
use Rattle.listing_definitions.specs.declared.VerbFault.{VerbFault}
use Rattle.listing_definitions.specs.Report.{Report}
use Rattle.listing_definitions.specs.Ending.{Place, Overflow, Ending, OverflowStop}
use Rattle.listing_definitions.specs.Listing.{ending_text}
use Rattle.question_definitions.specs.Answers.{Basis, Sheet, Question, OfPath, OfSolution, OfRanges, OfParametricRun, OfPunch, OfInstall, AnswerTo, Installed}
use Rattle.question_definitions.specs.Solving.{IsRight}
use Rattle.answer_definitions.specs.Verdicts.{found}
use Rattle.answer_definitions.specs.Real.{linear_programming}
use Rattle.run_definitions.specs.State.{Present, present_basis, State}
use Rattle.run_definitions.specs.Moves.{Gain, Nothing, Prints, Punches, printed_by, gain_text, StatementOutcome, Goes, Ends, gain_of, stops, Refusals}
use Rattle.run_definitions.specs.Moves.{InSelection, InAnswer, StatementMove, Does, MayStop, Asks, Shows, Gives, or_fault}
use Rattle.run_definitions.specs.Verbs.{or_deck_fault, or_selection_fault, selects}
use Rattle.control_definitions.specs.Cells.{steps_allowed}
use Rattle.walk_definitions.specs.Checkers.{Checker}
use Rattle.walk_definitions.specs.Words.{left_after, max_count}
use Rattle.walk_definitions.specs.Forms.{is_open_stop, is_ranges, is_punched}
use Rattle.walk_definitions.specs.Tables.{begins_table_line}
use Rattle.walk_definitions.specs.Reading.{judged}
use Rattle.walk_definitions.specs.Walker.{Pending, Walker, Found, Attested, Wrong, Open, Unchecked, WalkTurn, Walks, Finds, open_if, open_stop, pending_found}
use Rattle.walk_definitions.specs.Walker.{open_pending, open_outcome, is_inserted_by, open_question, opened, refuses_selection, ended, unless_found, closes}
use Rattle.walk_definitions.specs.Walker.{follows, passed, taken, answered, due, walk_move}
use Rattle.walk_definitions.proofs.Texts.{stands}
use Rattle.fitting_answers.specs.Fitting.{GainFits, EvidenceFits}
use Rattle.fitting_answers.specs.Real.{linear_programming_of_128_bits}
use Rattle.fitting_laws.proofs.Runs.{right_too}
use Rattle.selection_definitions.specs.Refusals.{IsSelectionRefusal}
use Rattle.selection_definitions.proofs.Making.{made_iff}
use Rattle.lp_definitions.specs.declared.Evidence.{Evidence}
use Rattle.own_listing_laws.specs.Laws.{IsNotWrong}
use Rattle.own_listing_laws.proofs.Suiting.{CanRefuse}
use Rattle.own_listing_laws.proofs.Stops.{open_overflow}

-- ---- states

-- the setup with other bases
abbrev pub rebased : Basis → List Basis → Option Present → Option Present
rebased opening steps None = None
rebased opening steps (Some present) = Some (record present { opening = opening; steps = steps })

pub record IsLike (v s : State) : Type 0 where
  pub opening : Basis
  pub steps : List Basis
  pub is : v ≡ record s { setup = rebased opening steps s.setup }
  pub limits : steps_allowed s.cells ≤ max_count

-- The verdict is optimal at the present basis of what the cells select, with the objective of its point, and its check has gone so.
pub record Waits (pending : Pending) (setup : Option Present) (objective rhs : Option Name) : Type 0 where
  pub present : Present
  pub is_setup : setup ≡ Some present
  pub lp : LinearProgram
  pub is_selected : selected present.problem (record { objective = objective; rhs = rhs; options = present.options }) ≡ Ok lp
  pub tableau : Tableau
  pub is_tableau : IsTableau lp (present_basis present) tableau
  pub is_objective : pending.objective ≡ value_at (listed lp.matrix tableau.point) lp.objective
  pub is_check : optimal_check lp (value_at (listed lp.matrix tableau.point))
      (value_at (listed lp.matrix (price_at lp (basics_of (present_basis present)) tableau.rate))) ≡ found pending.check

abbrev pub WaitsFor : Option Pending → Option Present → Option Name → Option Name → Type 0
WaitsFor None setup objective rhs = Unit {0}
WaitsFor (Some pending) setup objective rhs = Waits pending setup objective rhs

abbrev pub WaitsAt : Option Pending → State → Type 0
WaitsAt pending s = WaitsFor pending s.setup s.cells.xobj s.cells.xrhs

pub record KeepsPace (w : Walker) (s : State) (more : List ℕ) : Type 0 where
  pub like : IsLike w.state s
  pub is_rest : w.rest ≡ more
  pub waits : WaitsAt w.pending s

-- ---- turns

-- what is found isn't wrong, and that an operation is refused is found only where this holds
abbrev pub IsRightly : (List ℕ → Type 0) → Found → Type 0
IsRightly Refused (Attested count) = Unit {0}
IsRightly Refused (Wrong rest) = ⊥
IsRightly Refused (Open rest) = Unit {0}
IsRightly Refused (Unchecked rest) = Refused rest

pub rightly_more : (Refused More : List ℕ → Type 0) → ((rest : List ℕ) → Refused rest → More rest) → (found : Found) → IsRightly Refused found →
    IsRightly More found
rightly_more Refused More more (Attested count) right = tt
rightly_more Refused More more (Wrong rest) right = right
rightly_more Refused More more (Open rest) right = tt
rightly_more Refused More more (Unchecked rest) right = more rest right

pub rightly_not_wrong : (Refused : List ℕ → Type 0) (found : Found) → IsRightly Refused found → IsNotWrong found
rightly_not_wrong Refused (Attested count) right = tt
rightly_not_wrong Refused (Wrong rest) right = right
rightly_not_wrong Refused (Open rest) right = tt
rightly_not_wrong Refused (Unchecked rest) right = tt

abbrev pub Lands : (List ℕ → Type 0) → StatementOutcome → List ℕ → WalkTurn → Type 0
Lands Refused outcome more (Finds found) = IsRightly Refused found
Lands Refused (Goes gain after) more (Walks v) = KeepsPace v after more
Lands Refused (Ends gain ending) more (Walks v) = ⊥

pub lands_more : (Refused More : List ℕ → Type 0) → ((rest : List ℕ) → Refused rest → More rest) → (outcome : StatementOutcome) (more : List ℕ)
    (turn : WalkTurn) → Lands Refused outcome more turn → Lands More outcome more turn
lands_more Refused More weaker outcome more (Finds found) lands = rightly_more Refused More weaker found lands
lands_more Refused More weaker (Goes gain after) more (Walks v) lands = lands
lands_more Refused More weaker (Ends gain ending) more (Walks v) lands = lands

-- found, and rightly
abbrev pub IsFoundRight : (List ℕ → Type 0) → WalkTurn → Type 0
IsFoundRight Refused (Walks v) = ⊥
IsFoundRight Refused (Finds found) = IsRightly Refused found

pub lands_right : (Refused : List ℕ → Type 0) (outcome : StatementOutcome) (more : List ℕ) (turn : WalkTurn) → IsFoundRight Refused turn →
    Lands Refused outcome more turn
lands_right Refused outcome more (Walks v) right = absurd right
lands_right Refused outcome more (Finds found) right = right

abbrev pub EndsSo : StatementOutcome → List ℕ → Type 0
EndsSo (Goes gain after) more = Unit {0}
EndsSo (Ends gain ending) more = more ≡ ending_text ending

-- what the run still prints after this outcome, as the listing has it
pub record IsDue (w : Walker) (outcome : StatementOutcome) (more : List ℕ) : Type 0 where
  pub text : w.rest ≡ gain_text (gain_of outcome) ++ more
  pub plain : begins_table_line more ≡ false
  pub fits : GainFits (gain_of outcome)
  pub ends : EndsSo outcome more

-- ---- what is found open

abbrev IsOpened : Option Found → Type 0
IsOpened None = Unit {0}
IsOpened (Some (Open rest)) = Unit {0}
IsOpened (Some found) = ⊥

opened_rightly : (Refused : List ℕ → Type 0) (found : Found) → IsOpened (Some found) → IsRightly Refused found
opened_rightly Refused (Attested count) never = tt
opened_rightly Refused (Wrong rest) never = never
opened_rightly Refused (Open rest) never = tt
opened_rightly Refused (Unchecked rest) never = absurd never

never_either : (a b : Option Found) → IsOpened a → IsOpened b → IsOpened (option_or a b)
never_either None b first second = second
never_either (Some found) b first second = first

never_if : (stands : Bool) (w : Walker) → IsOpened (open_if stands w)
never_if true w = tt
never_if false w = tt

never_pending : (pending : Option Pending) → IsOpened (pending_found pending)
never_pending None = tt
never_pending (Some pending) = tt

never_unmarked : (b : Bool) (pending : Option Pending) → IsOpened (if b then pending_found pending else None)
never_unmarked true pending = never_pending pending
never_unmarked false pending = tt

never_stop : (w : Walker) → IsOpened (open_stop w)
never_stop w = never_if (is_open_stop w.rest) w

never_outcome : (w : Walker) (outcome : StatementOutcome) → IsOpened (open_outcome w outcome)
never_outcome w (Ends gain ending) = never_either (open_stop w) (open_pending w) (never_stop w) (never_pending w.pending)
never_outcome w (Goes Nothing after) = never_unmarked (is_none after.mark) w.pending
never_outcome w (Goes (Prints report) after) =
    never_either (open_stop w) (if is_none after.mark then open_pending w else None) (never_stop w) (never_unmarked (is_none after.mark) w.pending)
never_outcome w (Goes (Punches report cards) after) =
    never_either (open_stop w) (if is_none after.mark then open_pending w else None) (never_stop w) (never_unmarked (is_none after.mark) w.pending)

never_question : (w : Walker) (question : Question) (sheet : Sheet) (go : AnswerTo question → StatementOutcome) →
    IsOpened (open_question w question sheet go)
never_question w (OfSolution mark) sheet go = never_stop w
never_question w OfRanges sheet go = never_either (open_stop w) (open_if (is_ranges w.rest) w) (never_stop w) (never_if (is_ranges w.rest) w)
never_question w OfPunch sheet go =
    never_either (open_stop w) (open_if (is_punched sheet.problem.name w.rest) w) (never_stop w) (never_if (is_punched sheet.problem.name w.rest) w)
never_question w (OfInstall basis) sheet go =
    never_either (open_stop w) (option_or (open_if (is_inserted_by (go Installed) w.rest) w) (open_pending w)) (never_stop w)
    (never_either (open_if (is_inserted_by (go Installed) w.rest) w) (open_pending w) (never_if (is_inserted_by (go Installed) w.rest) w)
    (never_pending w.pending))
never_question w (OfPath solver limit) sheet go = never_either (open_stop w) (open_pending w) (never_stop w) (never_pending w.pending)
never_question w (OfParametricRun parametric_run) sheet go = never_either (open_stop w) (open_pending w) (never_stop w) (never_pending w.pending)

never_opened : (w : Walker) (move : StatementMove) → IsOpened (opened w move)
never_opened w (Does outcome) = never_outcome w outcome
never_opened w (MayStop refusals move) = never_opened w move
never_opened w (Asks question sheet s go) = never_question w question sheet go

none_either : (a b : Option Found) → option_or a b ≡ None → (a ≡ None) × (b ≡ None)
none_either None b e = (refl, e)
none_either (Some found) b e = absurd (cc e)

marked : (b : Bool) (pending : Option Pending) (p : Pending) → pending ≡ Some p → (if b then pending_found pending else None) ≡ None → b ≡ false
marked true None p is none = absurd (cc is)
marked true (Some q) p is none = absurd (cc none)
marked false pending p is none = refl

-- while something is pending the mark stands
stays_marked : (w : Walker) (gain : Gain) (after : State) (p : Pending) → w.pending ≡ Some p → open_outcome w (Goes gain after) ≡ None →
    is_none after.mark ≡ false
stays_marked w Nothing after p is none = marked (is_none after.mark) w.pending p is none
stays_marked w (Prints report) after p is none =
    marked (is_none after.mark) w.pending p is (none_either (open_stop w) (if is_none after.mark then open_pending w else None) none).1
stays_marked w (Punches report cards) after p is none =
    marked (is_none after.mark) w.pending p is (none_either (open_stop w) (if is_none after.mark then open_pending w else None) none).1

-- ---- ends and reports

pub closes_right : (Refused : List ℕ → Type 0) (u : Walker) (ending : Ending) → u.rest ≡ ending_text ending → IsFoundRight Refused (closes u ending)
closes_right Refused u ending is =
    by (option_or (open_stop u) (open_pending u)) (never_either (open_stop u) (open_pending u) (never_stop u) (never_pending u.pending))
  where
    whole : left_after (ending_text ending) u.rest ≡ Some []
    whole = ap (left_after (ending_text ending)) (is ∙ sym (append-nil (ending_text ending))) ∙ stands (ending_text ending) []

    by : (o : Option Found) → IsOpened o → IsFoundRight Refused (unless_found o (Finds (ended u (left_after (ending_text ending) u.rest))))
    by (Some found) never = opened_rightly Refused found never
    by None never = subst (λ left. IsFoundRight Refused (Finds (ended u left))) (sym whole) tt

-- the two go on alike, or end so
abbrev pub AreAlike : StatementOutcome → StatementOutcome → Type 0
AreAlike (Goes gain after) (Goes own other) = (gain ≡ own) × IsLike after other
AreAlike (Ends gain ending) (Ends own other) = (gain ≡ own) × (ending ≡ other)
AreAlike outcome other = ⊥

abbrev pub WaitsAfter : Option Pending → StatementOutcome → Type 0
WaitsAfter pending (Goes gain after) = WaitsAt pending after
WaitsAfter pending (Ends gain ending) = Unit {0}

pub follows_lands : (Refused : List ℕ → Type 0) (u : Walker) (walked run : StatementOutcome) (more : List ℕ) → AreAlike walked run → u.rest ≡ more →
    EndsSo run more → WaitsAfter u.pending run → Lands Refused run more (follows u walked)
follows_lands Refused u (Goes gain after) (Goes own other) more alike is ends waits = record { like = alike.1; is_rest = is; waits = waits }
follows_lands Refused u (Ends gain ending) (Ends own other) more alike is ends waits =
    lands_right Refused (Ends own other) more (closes u ending) (closes_right Refused u ending (is ∙ ends ∙ ap ending_text (sym alike.1)))
follows_lands Refused u (Goes gain after) (Ends own other) more alike is ends waits = absurd alike
follows_lands Refused u (Ends gain ending) (Goes own other) more alike is ends waits = absurd alike

gain_alike : (walked run : StatementOutcome) → AreAlike walked run → gain_of walked ≡ gain_of run
gain_alike (Goes gain after) (Goes own other) alike = alike.0
gain_alike (Ends gain ending) (Ends own other) alike = alike.0
gain_alike (Goes gain after) (Ends own other) alike = absurd alike
gain_alike (Ends gain ending) (Goes own other) alike = absurd alike

-- ---- refusals

-- a refused selection is the same of the walk and of the run
abbrev AreAlikeRefused : Refusals → Refusals → Type 0
AreAlikeRefused refusals (InSelection problem choice) = refusals ≡ InSelection problem choice
AreAlikeRefused refusals (InAnswer question sheet bases) = Unit {0}

pub shown_fits : (question : Question) (sheet : Sheet) (bases : List Basis) (e : Evidence) (place : Option Place) →
    linear_programming_of_128_bits.Overflows question sheet bases e place → EvidenceFits e
unfolding linear_programming_of_128_bits
shown_fits question sheet bases e place shown = shown.1

-- ---- moves

or_true : (b : Bool) → (b || true) ≡ true
or_true true = refl
or_true false = refl

module _ (C : Checker) (w : Walker) where
  -- where the walk stands an operation is refused: of a test, or of a selection of the move
  pub record RefusesTest (rest : List ℕ) : Type 0 where
    pub is_rest : w.rest ≡ rest
    pub can : CanRefuse C

  pub record RefusesMove (move : StatementMove) (rest : List ℕ) : Type 0 where
    pub is_rest : w.rest ≡ rest
    pub why : (refuses_selection move ≡ true) ⊎ CanRefuse C

  pub record IsMatched (card : ℕ) (walked run : StatementMove) : Type 0 where
    pub by : (outcome : StatementOutcome) (more : List ℕ) → Gives linear_programming_of_128_bits card run outcome → IsDue w outcome more →
        Lands (RefusesMove walked) outcome more (walk_move C w walked)

  -- and it looks for stop texts first
  pub record IsFollowed (card : ℕ) (walked run : StatementMove) : Type 0 where
    pub matched : card ≤ max_count → IsMatched card walked run
    pub looks : is_open_stop w.rest ≡ true → opened w walked ≡ Some (Open w.rest)

  stop_first : (o : Option Found) → is_open_stop w.rest ≡ true → option_or (open_stop w) o ≡ Some (Open w.rest)
  stop_first o is = ap (λ b. option_or (open_if b w) o) is

  opened_lands : (outcome : StatementOutcome) (more : List ℕ) (walked : StatementMove) → opened w walked ≡ Some (Open w.rest) →
      Lands (RefusesMove walked) outcome more (walk_move C w walked)
  opened_lands outcome more walked is =
      subst (λ (o : Option Found). Lands (RefusesMove walked) outcome more
      (unless_found o (if refuses_selection walked then Finds (Unchecked w.rest) else due C w walked))) (sym is) tt

  -- ---- an operation may be refused

  module _ (card : ℕ) (walked run : StatementMove) (refusals others : Refusals) (alike : AreAlikeRefused refusals others)
      (followed : IsFollowed card walked run) where
    refused_too : (Refused : List ℕ → Type 0) (outcome : StatementOutcome) (more : List ℕ) (o : Option Found) (refused other : Bool) (turn : WalkTurn) →
        (refused ≡ true → Refused w.rest) → Lands Refused outcome more (unless_found o (if other then Finds (Unchecked w.rest) else turn)) →
        Lands Refused outcome more (unless_found o (if refused || other then Finds (Unchecked w.rest) else turn))
    refused_too Refused outcome more (Some found) refused other turn why lands = lands
    refused_too Refused outcome more None true other turn why lands = why refl
    refused_too Refused outcome more None false other turn why lands = lands

    of_selection : (problem : Problem ℕ) (choice : Choice) (b : Bool) → is_made problem choice ≡ b → not b ≡ true →
        RefusesMove (MayStop (InSelection problem choice) walked) w.rest
    of_selection problem choice b is unmade =
        record { is_rest = refl; why = inl (ap (λ c. not c || refuses_selection walked) is ∙ ap (λ c. c || refuses_selection walked) unmade) }

    still_refused : (r : Refusals) (rest : List ℕ) → RefusesMove walked rest → RefusesMove (MayStop r walked) rest
    still_refused (InSelection problem choice) rest refused = record { is_rest = refused.is_rest; why = by refused.why }
      where
        by : (refuses_selection walked ≡ true) ⊎ CanRefuse C → (refuses_selection (MayStop (InSelection problem choice) walked) ≡ true) ⊎ CanRefuse C
        by (inl e) = inl (ap (λ b. not (is_made problem choice) || b) e ∙ or_true (not (is_made problem choice)))
        by (inr can) = inr can
    still_refused (InAnswer question sheet bases) rest refused = record { is_rest = refused.is_rest; why = refused.why }

    stops_too : (outcome : StatementOutcome) (more : List ℕ) → Lands (RefusesMove walked) outcome more (walk_move C w walked) → (r : Refusals) →
        Lands (RefusesMove (MayStop r walked)) outcome more (walk_move C w (MayStop r walked))
    stops_too outcome more lands (InSelection problem choice) =
        refused_too (RefusesMove (MayStop (InSelection problem choice) walked)) outcome more (opened w walked) (not (is_made problem choice))
        (refuses_selection walked) (due C w walked) (of_selection problem choice (is_made problem choice) refl)
        (lands_more (RefusesMove walked) (RefusesMove (MayStop (InSelection problem choice) walked)) (still_refused (InSelection problem choice)) outcome more
        (walk_move C w walked) lands)
    stops_too outcome more lands (InAnswer question sheet bases) =
        lands_more (RefusesMove walked) (RefusesMove (MayStop (InAnswer question sheet bases) walked)) (still_refused (InAnswer question sheet bases))
        outcome more (walk_move C w walked) lands

    -- where an operation of a selection is refused, the walk finds just that
    refused_lands : (problem : Problem ℕ) (choice : Choice) (e : Evidence) → IsSelectionRefusal problem choice e →
        (outcome : StatementOutcome) (more : List ℕ) →
        Lands (RefusesMove (MayStop (InSelection problem choice) walked)) outcome more (walk_move C w (MayStop (InSelection problem choice) walked))
    refused_lands problem choice e refused outcome more =
        by (is_made problem choice) refl (λ is. (made_iff problem choice).0 is e refused) (opened w walked) (never_opened w walked)
      where
        by : (made : Bool) → is_made problem choice ≡ made → (made ≡ true → ⊥) → (o : Option Found) → IsOpened o →
            Lands (RefusesMove (MayStop (InSelection problem choice) walked)) outcome more
            (unless_found o (if not made || refuses_selection walked then Finds (Unchecked w.rest) else due C w walked))
        by true is unmade o never = absurd (unmade refl)
        by false is unmade (Some found) never = opened_rightly (RefusesMove (MayStop (InSelection problem choice) walked)) found never
        by false is unmade None never = of_selection problem choice false is refl

    shown_lands : card ≤ max_count → (outcome : StatementOutcome) (more : List ℕ) (evidence : Evidence) (place : Option Place) →
        outcome ≡ stops (OverflowStop (record { evidence = evidence; place = place; card = card })) → IsDue w outcome more →
        (r : Refusals) → AreAlikeRefused refusals r → Shows linear_programming_of_128_bits r evidence place →
        Lands (RefusesMove (MayStop refusals walked)) outcome more (walk_move C w (MayStop refusals walked))
    shown_lands small outcome more evidence place is given (InSelection problem choice) same shown =
        subst (λ (q : Refusals). Lands (RefusesMove (MayStop q walked)) outcome more (walk_move C w (MayStop q walked))) (sym same)
        (refused_lands problem choice evidence shown.0 outcome more)
    shown_lands small outcome more evidence place is given (InAnswer question sheet bases) same shown =
        let own : Overflow = record { evidence = evidence; place = place; card = card } in
        let due : IsDue w (stops (OverflowStop own)) more = subst (λ (o : StatementOutcome). IsDue w o more) is given in
        opened_lands outcome more (MayStop refusals walked)
        (followed.looks (ap is_open_stop (due.text ∙ due.ends) ∙ open_overflow own (shown_fits question sheet bases evidence place shown) small))

    pub may_stop : IsFollowed card (MayStop refusals walked) (MayStop others run)
    may_stop = record { matched = λ small. record { by = lands small }; looks = followed.looks }
      where
        lands : card ≤ max_count → (outcome : StatementOutcome) (more : List ℕ) → Gives linear_programming_of_128_bits card (MayStop others run) outcome →
            IsDue w outcome more → Lands (RefusesMove (MayStop refusals walked)) outcome more (walk_move C w (MayStop refusals walked))
        lands small outcome more (inl gives) given = stops_too outcome more ((followed.matched small).by outcome more gives given) refusals
        lands small outcome more (inr (evidence, place, shown, is)) given = shown_lands small outcome more evidence place is given others alike shown

  -- ---- nothing is asked

  module _ (card : ℕ) (walked run : StatementOutcome) (alike : AreAlike walked run) (waits : open_outcome w walked ≡ None → WaitsAfter w.pending run) where
    taken_lands : (more : List ℕ) → IsDue w run more → open_outcome w walked ≡ None →
        Lands (RefusesMove (Does walked)) run more (taken w walked (left_after (gain_text (gain_of walked)) w.rest))
    taken_lands more given none =
        let there : left_after (gain_text (gain_of walked)) w.rest ≡ Some more =
        ap (λ (gain : Gain). left_after (gain_text gain) w.rest) (gain_alike walked run alike) ∙ ap (left_after (gain_text (gain_of run))) given.text
        ∙ stands (gain_text (gain_of run)) more in
        subst (λ (left : Option (List ℕ)). Lands (RefusesMove (Does walked)) run more (taken w walked left)) (sym there)
        (follows_lands (RefusesMove (Does walked)) (passed more (length (printed_by (gain_of walked))) w) walked run more alike refl given.ends (waits none))

    does_by : (more : List ℕ) → IsDue w run more → (o : Option Found) → open_outcome w walked ≡ o → IsOpened o →
        Lands (RefusesMove (Does walked)) run more (unless_found o (taken w walked (left_after (gain_text (gain_of walked)) w.rest)))
    does_by more given (Some found) is never = opened_rightly (RefusesMove (Does walked)) found never
    does_by more given None is never = taken_lands more given is

    pub does : IsMatched card (Does walked) (Does run)
    does = record {
      by = λ outcome more gives given.
          subst (λ (o : StatementOutcome). Lands (RefusesMove (Does walked)) o more (walk_move C w (Does walked))) (sym gives)
          (does_by more (subst (λ (o : StatementOutcome). IsDue w o more) gives given) (open_outcome w walked) refl (never_outcome w walked));
    }

  pub does_stop : (card : ℕ) (ending : Ending) → IsFollowed card (Does (stops ending)) (Does (stops ending))
  does_stop card ending = record { matched = λ small. does card (stops ending) (stops ending) (refl, refl) (λ none. tt); looks = stop_first (open_pending w) }

  -- a report is printed, and the run goes on
  pub prints_looks : (report : Report) (after : State) → is_open_stop w.rest ≡ true → opened w (Does (Goes (Prints report) after)) ≡ Some (Open w.rest)
  prints_looks report after is = stop_first (if is_none after.mark then open_pending w else None) is

  pub punches_looks : (report : Report) (cards : List (List ℕ)) (after : State) → is_open_stop w.rest ≡ true →
      opened w (Does (Goes (Punches report cards) after)) ≡ Some (Open w.rest)
  punches_looks report cards after is = stop_first (if is_none after.mark then open_pending w else None) is

  pub waits_on : (gain : Gain) (after : State) (setup : Option Present) (objective rhs : Option Name) (pending : Option Pending) → w.pending ≡ pending →
      open_outcome w (Goes gain after) ≡ None →
      (is_none after.mark ≡ false → WaitsFor pending setup objective rhs) → WaitsFor pending setup objective rhs
  waits_on gain after setup objective rhs None is none waits = tt
  waits_on gain after setup objective rhs (Some p) is none waits = waits (stays_marked w gain after p is none)

  -- ---- faults

  pub unless_fault : {X : Type 0} (card : ℕ) (fault : VerbFault) (o : Option X) (go own : X → StatementMove) →
      ((x : X) → o ≡ Some x → IsFollowed card (go x) (own x)) → IsFollowed card (or_fault card fault o go) (or_fault card fault o own)
  unless_fault card fault None go own followed = does_stop card _
  unless_fault card fault (Some x) go own followed = followed x refl

  -- the setup of the walk has other bases
  pub unless_no_setup : (card : ℕ) (fault : VerbFault) (opening : Basis) (steps : List Basis) (setup : Option Present) (go own : Present → StatementMove) →
      ((present : Present) → setup ≡ Some present → IsFollowed card (go (record present { opening = opening; steps = steps })) (own present)) →
      IsFollowed card (or_fault card fault (rebased opening steps setup) go) (or_fault card fault setup own)
  unless_no_setup card fault opening steps None go own followed = does_stop card _
  unless_no_setup card fault opening steps (Some present) go own followed = followed present refl

  pub unless_deck_fault : {X : Type 0} (card : ℕ) (r : Result X DeckFault) (go own : X → StatementMove) →
      ((x : X) → r ≡ Ok x → IsFollowed card (go x) (own x)) → IsFollowed card (or_deck_fault r go) (or_deck_fault r own)
  unless_deck_fault card (Err fault) go own followed = does_stop card _
  unless_deck_fault card (Ok x) go own followed = followed x refl

  pub unless_selection_fault : (card : ℕ) (r : Result LinearProgram SelectionFault) (go own : LinearProgram → StatementMove) →
      ((lp : LinearProgram) → r ≡ Ok lp → IsFollowed card (go lp) (own lp)) →
      IsFollowed card (or_selection_fault card r go) (or_selection_fault card r own)
  unless_selection_fault card (Err fault) go own followed = does_stop card _
  unless_selection_fault card (Ok lp) go own followed = followed lp refl

  pub selecting : (card : ℕ) (problem : Problem ℕ) (choice : Choice) (go own : LinearProgram → StatementMove) →
      ((lp : LinearProgram) → selected problem choice ≡ Ok lp → IsFollowed card (go lp) (own lp)) →
      IsFollowed card (selects card problem choice go) (selects card problem choice own)
  selecting card problem choice go own followed =
      unless_selection_fault card (selected problem choice) _ _
      (λ lp e. may_stop card (go lp) (own lp) (InSelection problem choice) (InSelection problem choice) refl (followed lp e))

  -- ---- questions

  question_looks : (question : Question) (sheet : Sheet) (go : AnswerTo question → StatementOutcome) → is_open_stop w.rest ≡ true →
      open_question w question sheet go ≡ Some (Open w.rest)
  question_looks (OfSolution mark) sheet go is = ap (λ b. open_if b w) is
  question_looks OfRanges sheet go is = stop_first _ is
  question_looks OfPunch sheet go is = stop_first _ is
  question_looks (OfInstall basis) sheet go is = stop_first _ is
  question_looks (OfPath solver limit) sheet go is = stop_first _ is
  question_looks (OfParametricRun parametric_run) sheet go is = stop_first _ is

  module _ (card : ℕ) (question : Question) (sheet : Sheet) (s t : Basis) (go own : AnswerTo question → StatementOutcome) where
    abbrev pub LandsAnswered : AnswerTo question → List ℕ → Type 0
    LandsAnswered answer more = Lands RefusesTest (own answer) more (answered C w question sheet go (judged C question sheet w.rest))

    pub asked_lands :
        (card ≤ max_count → (answer : AnswerTo question) (more : List ℕ) → IsRight linear_programming question sheet t answer → IsDue w (own answer) more →
        open_question w question sheet go ≡ None → LandsAnswered answer more) →
        IsFollowed card (Asks question sheet s go) (Asks question sheet t own)
    asked_lands lands = record {
      matched = λ small. record {
        by = λ outcome more (answer, right, is) given.
            subst (λ (o : StatementOutcome). Lands (RefusesMove (Asks question sheet s go)) o more (walk_move C w (Asks question sheet s go))) (sym is)
            (by small answer more (right_too question sheet t answer right) (subst (λ (o : StatementOutcome). IsDue w o more) is given)
            (open_question w question sheet go) refl (never_question w question sheet go));
      };
      looks = question_looks question sheet go;
    }
      where
        as_move : (rest : List ℕ) → RefusesTest rest → RefusesMove (Asks question sheet s go) rest
        as_move rest refused = record { is_rest = refused.is_rest; why = inr refused.can }

        by : card ≤ max_count → (answer : AnswerTo question) (more : List ℕ) → IsRight linear_programming question sheet t answer → IsDue w (own answer) more →
            (o : Option Found) → open_question w question sheet go ≡ o → IsOpened o →
            Lands (RefusesMove (Asks question sheet s go)) (own answer) more
            (unless_found o (answered C w question sheet go (judged C question sheet w.rest)))
        by small answer more right given (Some what) is never = opened_rightly (RefusesMove (Asks question sheet s go)) what never
        by small answer more right given None is never =
            lands_more RefusesTest (RefusesMove (Asks question sheet s go)) as_move (own answer) more
            (answered C w question sheet go (judged C question sheet w.rest)) (lands small answer more right given is)

    -- a stop text is open
    pub never_stopped : open_question w question sheet go ≡ None → is_open_stop w.rest ≡ true → ⊥
    never_stopped none is = let stops = question_looks question sheet go is in cc (none, stops)
