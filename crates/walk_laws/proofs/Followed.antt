-- What the walk comes to in a move, as the run goes on or ends by it.
--     GoesOn, EndsSo ..            the run goes on, or ends, by the move; what was left of the listing has the text; and the reports say
--                                  the truth, or do so once what is pending is proved
--     IsFollowed .. card move      the walk comes to that
--     Leads .. u outcome           what is asked of an outcome, and of the walker after its report
use Rattle.std.proofs.Common.{◌≡◌, ℕ, ◌+◌, Bool, true, false, not, ◌||◌, List, [], ◌∷◌, ◌++◌, refl, sym, ap, ◌∙◌, append-nil, inl}
use Rattle.std.specs.Prelude.{All, Option, Some, None, Result, Ok, Err, length, is_none, if◌then◌else◌}
use Rattle.std.proofs.lemmas.List.Elements.{All-nil, All-cons}
use Rattle.lp_definitions.specs.LinearProgram.{LinearProgram}
use Rattle.problem_definitions.specs.Problem.{Problem}
use Rattle.deck_definitions.specs.declared.DeckFault.{DeckFault}
use Rattle.selection_definitions.specs.declared.SelectionFault.{SelectionFault}
use Rattle.selection_definitions.specs.Choice.{Choice}
use Rattle.selection_definitions.specs.Selection.{selected}
use Rattle.selection_definitions.specs.Making.{is_made}
use Rattle.listing_definitions.specs.declared.VerbFault.{VerbFault}
use Rattle.listing_definitions.specs.Report.{Report}
use Rattle.listing_definitions.specs.Ending.{Ending}
use Rattle.listing_definitions.specs.Listing.{ending_text, reports_text}
use Rattle.question_definitions.specs.Answers.{Basis, Sheet, Question, AnswerTo}
use Rattle.question_definitions.specs.Solving.{IsRight}
use Rattle.run_definitions.specs.Moves.{Gain, Nothing, Prints, Punches, printed_by, gain_text, StatementOutcome, Goes, Ends, gain_of, stops, Refusals}
use Rattle.run_definitions.specs.Moves.{InSelection, InAnswer, StatementMove, Does, MayStop, Asks, Gives, or_fault}
use Rattle.run_definitions.specs.Verbs.{or_deck_fault, or_selection_fault, selects}
use Rattle.walk_definitions.specs.Checkers.{Checker}
use Rattle.walk_definitions.specs.Words.{left_after}
use Rattle.walk_definitions.specs.Reading.{Right, judged}
use Rattle.walk_definitions.specs.Walker.{Pending, Walker, Found, WalkTurn, Finds, Unchecked, open_outcome, opened, refuses_selection, unless_found, follows}
use Rattle.walk_definitions.specs.Walker.{passed, taken, noted, due, walk_move}
use Rattle.walk_definitions.proofs.Texts.{is_text}
use Rattle.walk_laws.specs.Read.{ReadingLaw, reported}
use Rattle.walk_laws.specs.Proved.{attested, Says}
use Rattle.walk_laws.proofs.Owing.{Owes, holds_settled, SelectsSame, owes_on}
use Rattle.walk_laws.proofs.Turns.{On, on_map, never_outcome, stays_marked, on_unless, on_closes}

-- the text of a gain is that of its report
pub text_of_gain : (gain : Gain) → gain_text gain ≡ reports_text (printed_by gain)
text_of_gain Nothing = refl
text_of_gain (Prints report) = sym (append-nil _)
text_of_gain (Punches report cards) = sym (append-nil _)

-- What holds of the reports so far, and the walker before the move.
module _ (C : Checker) (Holds : Type 0) (w : Walker) where
  pub record GoesOn (card : ℕ) (move : StatementMove) (v : Walker) : Type 0 where
    pub gain : Gain
    pub gives : Gives (attested C) card move (Goes gain v.state)
    pub text : w.rest ≡ reports_text (printed_by gain) ++ v.rest
    pub counted : v.reports ≡ w.reports + length (printed_by gain)
    pub owes : Owes C (Holds × All (Says C w.state) (printed_by gain)) v.pending v.state.setup v.state.cells

  pub record EndsSo (card : ℕ) (move : StatementMove) (count : ℕ) : Type 0 where
    pub gain : Gain
    pub ending : Ending
    pub gives : Gives (attested C) card move (Ends gain ending)
    pub text : w.rest ≡ reports_text (printed_by gain) ++ ending_text ending
    pub counted : count ≡ w.reports + length (printed_by gain)
    pub holds : Holds × All (Says C w.state) (printed_by gain)

  abbrev pub ComesTo : ℕ → StatementMove → WalkTurn → Type 0
  ComesTo card move turn = On (GoesOn card move) (EndsSo card move) turn

  pub record IsFollowed (card : ℕ) (move : StatementMove) : Type 0 where
    pub comes : ComesTo card move (walk_move C w move)

  -- what the report of an outcome says is true, or is owed
  abbrev pub Pays : Option Pending → StatementOutcome → Type 0
  Pays pending (Goes gain after) = Owes C (Holds × All (Says C w.state) (printed_by gain)) pending after.setup after.cells
  Pays pending (Ends gain ending) = pending ≡ None → Holds × All (Says C w.state) (printed_by gain)

  pub record Leads (card : ℕ) (move : StatementMove) (u : Walker) (outcome : StatementOutcome) : Type 0 where
    pub gives : Gives (attested C) card move outcome
    pub text : w.rest ≡ reports_text (printed_by (gain_of outcome)) ++ u.rest
    pub counted : u.reports ≡ w.reports + length (printed_by (gain_of outcome))
    pub pays : Pays u.pending outcome

  pub follows_on : (card : ℕ) (move : StatementMove) (u : Walker) (outcome : StatementOutcome) → Leads card move u outcome →
      ComesTo card move (follows u outcome)
  follows_on card move u (Goes gain after) leads =
      record { gain = gain; gives = leads.gives; text = leads.text; counted = leads.counted; owes = leads.pays }
  follows_on card move u (Ends gain ending) leads = on_closes (GoesOn card move) (EndsSo card move) u ending (λ settled text. record {
    gain = gain;
    ending = ending;
    gives = leads.gives;
    text = leads.text ∙ ap (λ (rest : List ℕ). reports_text (printed_by gain) ++ rest) text;
    counted = leads.counted;
    holds = leads.pays settled;
  })

  -- ---- an operation may be refused

  refused_too : (card : ℕ) (move : StatementMove) (o : Option Found) (refused other : Bool) (turn : WalkTurn) →
      ComesTo card move (unless_found o (if other then Finds (Unchecked w.rest) else turn)) →
      ComesTo card move (unless_found o (if refused || other then Finds (Unchecked w.rest) else turn))
  refused_too card move (Some found) refused other turn comes = comes
  refused_too card move None true other turn comes = tt
  refused_too card move None false other turn comes = comes

  move_stops : (card : ℕ) (refusals : Refusals) (move : StatementMove) (turn : WalkTurn) → ComesTo card move turn → ComesTo card (MayStop refusals move) turn
  move_stops card refusals move turn comes =
      on_map (GoesOn card move) (GoesOn card (MayStop refusals move)) (EndsSo card move) (EndsSo card (MayStop refusals move))
      (λ v on. record { gain = on.gain; gives = inl on.gives; text = on.text; counted = on.counted; owes = on.owes })
      (λ count so. record { gain = so.gain; ending = so.ending; gives = inl so.gives; text = so.text; counted = so.counted; holds = so.holds }) turn comes

  pub may_stop : (card : ℕ) (refusals : Refusals) (move : StatementMove) → IsFollowed card move → IsFollowed card (MayStop refusals move)
  may_stop card (InSelection problem choice) move followed = record {
    comes = refused_too card (MayStop (InSelection problem choice) move) (opened w move) (not (is_made problem choice)) (refuses_selection move) (due C w move)
        (move_stops card (InSelection problem choice) move (walk_move C w move) followed.comes);
  }
  may_stop card (InAnswer question sheet bases) move followed =
      record { comes = move_stops card (InAnswer question sheet bases) move (walk_move C w move) followed.comes }

  -- ---- nothing is asked

  abbrev pub DoesSo : StatementOutcome → Type 0
  DoesSo (Goes gain after) =
      All (Says C w.state) (printed_by gain) × (is_none after.mark ≡ false → SelectsSame w.state.setup w.state.cells after.setup after.cells)
  DoesSo (Ends gain ending) = All (Says C w.state) (printed_by gain)

  module _ (owed : Owes C Holds w.pending w.state.setup w.state.cells) where
    pays_plain : (outcome : StatementOutcome) → open_outcome w outcome ≡ None → DoesSo outcome → Pays w.pending outcome
    pays_plain (Goes gain after) none so =
        owes_on C Holds (All (Says C w.state) (printed_by gain)) w.pending w.state.setup w.state.cells after.setup after.cells owed so.0
        (λ p is. so.1 (stays_marked w gain after p is none))
    pays_plain (Ends gain ending) none so = λ settled. (holds_settled C Holds w.pending w.state.setup w.state.cells owed settled, so)

    taken_on : (card : ℕ) (outcome : StatementOutcome) → Pays w.pending outcome → (left : Option (List ℕ)) →
        left_after (gain_text (gain_of outcome)) w.rest ≡ left → ComesTo card (Does outcome) (taken w outcome left)
    taken_on card outcome pays None is = tt
    taken_on card outcome pays (Some rest) is = follows_on card (Does outcome) (passed rest (length (printed_by (gain_of outcome))) w) outcome (record {
      gives = refl;
      text = is_text (gain_text (gain_of outcome)) w.rest rest is ∙ ap (λ (text : List ℕ). text ++ rest) (text_of_gain (gain_of outcome));
      counted = refl;
      pays = pays;
    })

    pub does : (card : ℕ) (outcome : StatementOutcome) → DoesSo outcome → IsFollowed card (Does outcome)
    does card outcome so = record {
      comes =
          on_unless (GoesOn card (Does outcome)) (EndsSo card (Does outcome)) (open_outcome w outcome)
          (taken w outcome (left_after (gain_text (gain_of outcome)) w.rest)) (never_outcome w outcome)
          (λ none. taken_on card outcome (pays_plain outcome none so) (left_after (gain_text (gain_of outcome)) w.rest) refl);
    }

    does_stop : (card : ℕ) (ending : Ending) → IsFollowed card (Does (stops ending))
    does_stop card ending = does card (stops ending) (All-nil (Says C w.state))

    pub unless_fault : {X : Type 0} (card : ℕ) (fault : VerbFault) (o : Option X) (go : X → StatementMove) → ((x : X) → o ≡ Some x → IsFollowed card (go x)) →
        IsFollowed card (or_fault card fault o go)
    unless_fault card fault None go followed = does_stop card _
    unless_fault card fault (Some x) go followed = followed x refl

    pub unless_deck_fault : {X : Type 0} (card : ℕ) (r : Result X DeckFault) (go : X → StatementMove) → ((x : X) → r ≡ Ok x → IsFollowed card (go x)) →
        IsFollowed card (or_deck_fault r go)
    unless_deck_fault card (Err fault) go followed = does_stop card _
    unless_deck_fault card (Ok x) go followed = followed x refl

    pub unless_selection_fault : (card : ℕ) (r : Result LinearProgram SelectionFault) (go : LinearProgram → StatementMove) →
        ((lp : LinearProgram) → r ≡ Ok lp → IsFollowed card (go lp)) →
        IsFollowed card (or_selection_fault card r go)
    unless_selection_fault card (Err fault) go followed = does_stop card _
    unless_selection_fault card (Ok lp) go followed = followed lp refl

    pub selecting : (card : ℕ) (problem : Problem ℕ) (choice : Choice) (go : LinearProgram → StatementMove) →
        ((lp : LinearProgram) → selected problem choice ≡ Ok lp → IsFollowed card (go lp)) →
        IsFollowed card (selects card problem choice go)
    selecting card problem choice go followed =
        unless_selection_fault card (selected problem choice) _ (λ lp e. may_stop card (InSelection problem choice) (go lp) (followed lp e))

  -- ---- an answer is read

  -- one report says the truth
  pub one_says : (report : Report) → Says C w.state report → All (Says C w.state) (report ∷ [])
  one_says report says = All-cons (Says C w.state) report [] says (All-nil (Says C w.state))

  -- the listing has the answer's report
  pub reads : ReadingLaw C →
      (card : ℕ) (question : Question) (sheet : Sheet) (s : Basis) (go : AnswerTo question → StatementOutcome) (answer : AnswerTo question) (rest : List ℕ) →
      IsRight (attested C) question sheet s answer → judged C question sheet w.rest ≡ Right answer rest →
      printed_by (gain_of (go answer)) ≡ reported question answer → length (reported question answer) ≡ 1 →
      Pays (noted w question sheet answer) (go answer) →
      Leads card (Asks question sheet s go) (record (passed rest 1 w) { pending = noted w question sheet answer }) (go answer)
  reads reading card question sheet s go answer rest right is prints one pays = record {
    gives = (answer, right, refl);
    text = reading question sheet w.rest rest answer is ∙ ap (λ (reports : List Report). reports_text reports ++ rest) (sym prints);
    counted = ap (λ (n : ℕ). w.reports + n) (sym (ap (λ (reports : List Report). length reports) prints ∙ one));
    pays = pays;
  }
