-- Two runs of one job, of which the second is that of an attested listing: after as many statements they have reported the same, and
-- stand the same but for the bases.
--     steps                        how many statements a run has executed so far
--     AreAlike ..                  two runs so far have reported the same, and stand the same
--     IsAhead, IsBehind ..         the second run goes on from where the first one stands, or the other way round
--     Whole ..                     a whole run, up to its last statement
--     Story ..                     two whole runs tell the same, or the first one is cut off
use Rattle.std.proofs.Common.{◌≡◌, ◌⊎◌, inl, inr, ℕ, suc, ◌-◌, ◌≤◌, ◌<◌, List, [], ◌∷◌, ◌++◌, map, refl, sym, ap, subst, ◌∙◌, arith}
use Rattle.std.specs.Prelude.{All, None}
use Rattle.std.proofs.Math.Nat.{eq-or-lt_of_le}
use Rattle.std.proofs.lemmas.Bool.{cases_lt}
use Rattle.std.proofs.lemmas.List.{append-nil, append_assoc}
use Rattle.std.proofs.lemmas.List.Elements.{All-head, All-tail}
use Rattle.std.proofs.lemmas.Option.{slice_get_within, same_Some}
use Rattle.card_definitions.specs.Cards.{Card}
use Rattle.control_definitions.specs.Program.{Statement, Program}
use Rattle.listing_definitions.specs.Report.{Report}
use Rattle.listing_definitions.specs.Ending.{Ending}
use Rattle.question_definitions.specs.Solving.{Solving}
use Rattle.run_definitions.specs.State.{State, start}
use Rattle.run_definitions.specs.Moves.{Gain, Nothing, printed_by, StatementOutcome, Goes, Ends, gain_of, Gives}
use Rattle.run_definitions.specs.Verbs.{verb_move}
use Rattle.run_definitions.specs.Run.{counted, Step, IsOver, at_end, at_limit, Reaches, begun, stepped, IsRun, is_over, is_ended}
use Rattle.soundness_laws.specs.Headline.{HoldSoFar, HoldInRun}
use Rattle.determinism_laws.specs.Laws.{IsOverflow, IsOverflowStop}
use Rattle.walk_laws.specs.Proved.{attested, Says}
use Rattle.one_story_laws.specs.Story.{ReportsSame, TellSame}
use Rattle.one_story_laws.specs.Views.{made_by, made_so_far, made_in_run, AreBeside}
use Rattle.one_story_laws.proofs.Reported.{SaysEnough}
use Rattle.one_story_laws.proofs.Alike.{no_setup, SameStanding, standing, Alike, CutsOff, IsStopped, AlikeOrStopped}
use Rattle.one_story_laws.proofs.Verbs.{verb_alike}
use Rattle.walk_definitions.specs.Checkers.{Checker}

-- ---- reports

pub tell_append : (reports others more later : List Report) → TellSame reports others → TellSame more later → TellSame (reports ++ more) (others ++ later)
tell_append [] [] more later first second = second
tell_append (report ∷ reports) (other ∷ others) more later first second = (first.0, tell_append reports others more later first.1 second)
tell_append [] (other ∷ others) more later first second = absurd first
tell_append (report ∷ reports) [] more later first second = absurd first

module _ (Same : State → Report → Report → Type 0) where
  pub beside_append : (mades more : List (State × Report)) (others later : List Report) → AreBeside Same mades others → AreBeside Same more later →
      AreBeside Same (mades ++ more) (others ++ later)
  beside_append [] more [] later first second = second
  beside_append (made ∷ mades) more (other ∷ others) later first second = (first.0, beside_append mades more others later first.1 second)
  beside_append [] more (other ∷ others) later first second = absurd first
  beside_append (made ∷ mades) more [] later first second = absurd first

-- ---- states

same_position : (a b : State) → SameStanding a b → a.position ≡ b.position
same_position _ _ (standing state left right setups) = refl

same_executed : (a b : State) → SameStanding a b → a.executed ≡ b.executed
same_executed _ _ (standing state left right setups) = refl

module _ (T U : Solving) (program : Program) where
  -- a run that is over executes no statement
  over_or_step : (a b : State) (ending : Ending) (outcome : StatementOutcome) → a.position ≡ b.position → a.executed ≡ b.executed → IsOver T program a ending →
      Step U program b outcome → ⊥
  over_or_step a b _ outcome positions counts (at_end past) step =
      let within = slice_get_within program.statements (b.position - 1) step.statement step.is_at_position in omega (arith, past, within, positions)
  over_or_step a b _ outcome positions counts (at_limit within limit) step = let below = step.is_within_limit in omega (arith, limit, below, counts)

  one_over : (a b : State) (ending other : Ending) → a.position ≡ b.position → a.executed ≡ b.executed → IsOver T program a ending → IsOver U program b other →
      ending ≡ other
  one_over a b _ _ positions counts (at_end past) (at_end again) = refl
  one_over a b _ _ positions counts (at_end past) (at_limit within limit) = absurd (omega (arith, past, within, positions))
  one_over a b _ _ positions counts (at_limit within limit) (at_end past) = absurd (omega (arith, past, within, positions))
  one_over a b _ _ positions counts (at_limit within limit) (at_limit again other) = refl

module _ (T : Solving) (Tells : State → Report → Type 0) (program : Program) (decks : List (List Card)) where
  abbrev pub steps : {reports : List Report} {cards : List (List ℕ)} {state : State} → Reaches T program decks reports cards state → ℕ
  steps begun = 0
  steps (stepped gain after before step) = suc (steps before)

  -- a run is over, or its last statement ends it
  pub data Last (state : State) : Gain → Ending → Type 0 where
    over : {ending : Ending} → IsOver T program state ending → Last state Nothing ending
    ended : {gain : Gain} {ending : Ending} → Step T program state (Ends gain ending) → All (Tells state) (printed_by gain) → Last state gain ending

  pub record Whole (made : List (State × Report)) (reports : List Report) (ending : Ending) : Type 0 where
    pub before : List Report
    pub cards : List (List ℕ)
    pub state : State
    pub came : Reaches T program decks before cards state
    pub holds : HoldSoFar T Tells program decks came
    pub gain : Gain
    pub last : Last state gain ending
    pub are : reports ≡ before ++ printed_by gain
    pub are_made : made ≡ made_so_far T program decks came ++ made_by state gain

  pub whole_of : (AtEnd : State → Ending → Type 0) (reports : List Report) (cards : List (List ℕ)) (ending : Ending)
      (runs : IsRun T program decks reports cards ending) → HoldInRun T Tells AtEnd program decks runs →
      Whole (made_in_run T program decks runs) reports ending
  whole_of AtEnd reports cards ending (is_over {reports = _} {cards = _} {state} came is) holds = record {
    before = reports;
    cards = cards;
    state = state;
    came = came;
    holds = holds;
    gain = Nothing;
    last = over is;
    are = sym (append-nil reports);
    are_made = sym (append-nil (made_so_far T program decks came));
  }
  whole_of AtEnd _ _ ending (is_ended {reports} {cards} {state} gain came step) holds = record {
    before = reports;
    cards = cards;
    state = state;
    came = came;
    holds = holds.0;
    gain = gain;
    last = ended step holds.1;
    are = refl;
    are_made = refl;
  }

-- ---- two runs

-- the first run is cut off, and tells the same as far as it goes
pub record Breaks (Open : Type 0) (Same : State → Report → Report → Type 0) (made : List (State × Report)) (reports others : List Report)
    (ending : Ending) : Type 0 where
  pub cut : CutsOff Open ending
  pub front : List Report
  pub later : List Report
  pub are : others ≡ front ++ later
  pub tell : TellSame reports front
  pub beside : AreBeside Same made front

abbrev pub Story : Type 0 → (State → Report → Report → Type 0) → List (State × Report) → List Report → List Report → Ending → Ending → Type 0
Story Open Same made reports others ending other =
    (TellSame reports others × (ending ≡ other) × AreBeside Same made others) ⊎ Breaks Open Same made reports others ending

going : (Open : Type 0) (gain other : Gain) (after later : State) → AlikeOrStopped Open (Goes gain after) (Goes other later) →
    Alike (Goes gain after) (Goes other later)
going Open gain other after later (inl alike) = alike
going Open gain other after later (inr stop) = let e = stop.2 in absurd (cc e)

never_stops : (gain : Gain) (after : State) → IsOverflowStop (Goes gain after) → ⊥
never_stops gain after stop = let e = stop.1 in cc e

ends_unstopped : (gain : Gain) (ending : Ending) → (IsOverflow ending → ⊥) → IsOverflowStop (Ends gain ending) → ⊥
ends_unstopped gain ending none stop = let e = stop.1 in none (stop.0, cc)

module _ (C : Checker) (S : Solving) (Speaks : State → Report → Type 0) (Open : Type 0) (enough : SaysEnough S Speaks Open)
    (Same : State → Report → Report → Type 0)
    (shows : (a b : State) → SameStanding a b → (report other : Report) → ReportsSame report other → Speaks a report → Says C b other → Same a report other)
    (program : Program) where
  step_alike : (a b : State) (x y : StatementOutcome) → SameStanding a b → Step S program a x → Step (attested C) program b y →
      All (Speaks a) (printed_by (gain_of x)) → All (Says C b) (printed_by (gain_of y)) →
      (IsOverflowStop y → ⊥) → AlikeOrStopped Open x y
  step_alike _ _ x y (standing state left right setups) first second speaks says unstopped =
      (verb_alike C S Speaks Open enough first.statement.card state first.statement.verb left right setups).by x y first.gives moved speaks says unstopped
    where
      same : second.statement ≡ first.statement
      same = same_Some second.statement first.statement (sym second.is_at_position ∙ first.is_at_position)

      moved : Gives (attested C) first.statement.card (verb_move first.statement.verb first.statement.card (counted (record state { setup = right }))) y
      moved = subst (λ (s : Statement ℕ). Gives (attested C) s.card (verb_move s.verb s.card (counted (record state { setup = right }))) y) same second.gives

  show_all : (a b : State) → SameStanding a b → (reports others : List Report) → TellSame reports others → All (Speaks a) reports → All (Says C b) others →
      AreBeside Same (map (λ (report : Report). (a, report)) reports) others
  show_all a b stand [] [] tell speaks says = tt
  show_all a b stand (report ∷ reports) (other ∷ others) tell speaks says = (
    shows a b stand report other tell.0 (All-head (Speaks a) report reports speaks) (All-head (Says C b) other others says),
    show_all a b stand reports others tell.1 (All-tail (Speaks a) report reports speaks) (All-tail (Says C b) other others says),
  )
  show_all a b stand [] (other ∷ others) tell speaks says = absurd tell
  show_all a b stand (report ∷ reports) [] tell speaks says = absurd tell

  pub record AreAlike (made : List (State × Report)) (reports others : List Report) (state other : State) : Type 0 where
    pub tell : TellSame reports others
    pub stand : SameStanding state other
    pub beside : AreBeside Same made others

  one_more : (made : List (State × Report)) (reports others : List Report) (state other : State) (gain another : Gain) (after later : State) →
      AreAlike made reports others state other →
      Alike (Goes gain after) (Goes another later) → All (Speaks state) (printed_by gain) → All (Says C other) (printed_by another) →
      AreAlike (made ++ made_by state gain) (reports ++ printed_by gain) (others ++ printed_by another) after later
  one_more made reports others state other gain another after later before alike speaks says = record {
    tell = tell_append reports others (printed_by gain) (printed_by another) before.tell alike.0;
    stand = alike.1;
    beside =
        beside_append Same made (made_by state gain) others (printed_by another) before.beside
        (show_all state other before.stand (printed_by gain) (printed_by another) alike.0 speaks says);
  }

  module _ (decks : List (List Card)) where
    abbrev RunHasReached : List Report → List (List ℕ) → State → Type 0
    RunHasReached reports cards state = Reaches S program decks reports cards state

    abbrev Seen : List Report → List (List ℕ) → State → Type 0
    Seen reports cards state = Reaches (attested C) program decks reports cards state

    abbrev count : {reports : List Report} {cards : List (List ℕ)} {state : State} → RunHasReached reports cards state → ℕ
    count came = steps S Speaks program decks came

    abbrev seen_count : {reports : List Report} {cards : List (List ℕ)} {state : State} → Seen reports cards state → ℕ
    seen_count seen = steps (attested C) (Says C) program decks seen

    -- after as many statements
    same_so_far : (reports others : List Report) (cards other_cards : List (List ℕ)) (state other : State) (first : RunHasReached reports cards state)
        (second : Seen others other_cards other) →
        HoldSoFar S Speaks program decks first → HoldSoFar (attested C) (Says C) program decks second → count first ≡ seen_count second →
        AreAlike (made_so_far S program decks first) reports others state other
    same_so_far _ _ _ _ _ _ begun begun holds also e = record { tell = tt; stand = standing (start decks) None None no_setup; beside = tt }
    same_so_far _ _ _ _ _ _ begun (stepped gain after before step) holds also e = absurd (omega arith)
    same_so_far _ _ _ _ _ _ (stepped gain after before step) begun holds also e = absurd (omega arith)
    same_so_far _ _ _ _ _ _ (stepped {reports} {cards} {state} gain after before step)
        (stepped {reports = others} {cards = other_cards} {state = other} another later earlier second) holds also e =
        let so_far = same_so_far reports others cards other_cards state other before earlier holds.0 also.0 (omega (arith, e)) in
        one_more (made_so_far S program decks before) reports others state other gain another after later so_far
        (going Open gain another after later
        (step_alike state other (Goes gain after) (Goes another later) so_far.stand step second holds.1 also.1 (never_stops another later))) holds.1 also.1

    record IsAhead (made : List (State × Report)) (reports : List Report) (state : State) (others : List Report) : Type 0 where
      front : List Report
      later : List Report
      are : others ≡ front ++ later
      other : State
      tell : TellSame reports front
      stand : SameStanding state other
      beside : AreBeside Same made front
      gain : Gain
      after : State
      step : Step (attested C) program other (Goes gain after)
      says : All (Says C other) (printed_by gain)

    ahead : (reports others : List Report) (cards other_cards : List (List ℕ)) (state other : State) (first : RunHasReached reports cards state)
        (second : Seen others other_cards other) →
        HoldSoFar S Speaks program decks first → HoldSoFar (attested C) (Says C) program decks second → count first < seen_count second →
        IsAhead (made_so_far S program decks first) reports state others
    ahead _ _ _ _ _ _ first begun holds also e = absurd (omega (arith, e))
    ahead reports _ cards _ state _ first (stepped {reports = others} {cards = other_cards} {state = other} gain after before step) holds also e =
        by (eq-or-lt_of_le {n = count first} {m = seen_count before} (omega (arith, e)))
        (ahead reports others cards other_cards state other first before holds also.0)
      where
        by : (count first ≡ seen_count before) ⊎ (count first < seen_count before) →
            (count first < seen_count before → IsAhead (made_so_far S program decks first) reports state others) →
            IsAhead (made_so_far S program decks first) reports state (others ++ printed_by gain)
        by (inl as_many) earlier = let so_far = same_so_far reports others cards other_cards state other first before holds also.0 as_many in record {
          front = others;
          later = printed_by gain;
          are = refl;
          other = other;
          tell = so_far.tell;
          stand = so_far.stand;
          beside = so_far.beside;
          gain = gain;
          after = after;
          step = step;
          says = also.1;
        }
        by (inr fewer) earlier =
            let rest = earlier fewer in
            record {
              front = rest.front;
              later = rest.later ++ printed_by gain;
              are = ap (λ (xs : List Report). xs ++ printed_by gain) rest.are ∙ append_assoc rest.front rest.later (printed_by gain);
              other = rest.other;
              tell = rest.tell;
              stand = rest.stand;
              beside = rest.beside;
              gain = rest.gain;
              after = rest.after;
              step = rest.step;
              says = rest.says;
            }

    record IsBehind (other : State) : Type 0 where
      state : State
      stand : SameStanding state other
      gain : Gain
      after : State
      step : Step S program state (Goes gain after)
      speaks : All (Speaks state) (printed_by gain)

    behind : (reports others : List Report) (cards other_cards : List (List ℕ)) (state other : State) (first : RunHasReached reports cards state)
        (second : Seen others other_cards other) →
        HoldSoFar S Speaks program decks first → HoldSoFar (attested C) (Says C) program decks second → seen_count second < count first → IsBehind other
    behind _ _ _ _ _ _ begun second holds also e = absurd (omega (arith, e))
    behind _ others _ other_cards _ other (stepped {reports} {cards} {state} gain after before step) second holds also e =
        by (eq-or-lt_of_le {n = seen_count second} {m = count before} (omega (arith, e)))
        (behind reports others cards other_cards state other before second holds.0 also)
      where
        by : (seen_count second ≡ count before) ⊎ (seen_count second < count before) → (seen_count second < count before → IsBehind other) → IsBehind other
        by (inl as_many) earlier = record {
          state = state;
          stand = (same_so_far reports others cards other_cards state other before second holds.0 also (sym as_many)).stand;
          gain = gain;
          after = after;
          step = step;
          speaks = holds.1;
        }
        by (inr fewer) earlier = earlier fewer

    -- ---- whole runs

    -- a run that is cut off reports nothing by its last statement
    cut_here : (made : List (State × Report)) (state : State) (before others front later : List Report) (gain : Gain) (ending : Ending) →
        others ≡ front ++ later → TellSame before front → AreBeside Same made front →
        IsStopped Open (Ends gain ending) → Breaks Open Same (made ++ made_by state gain) (before ++ printed_by gain) others ending
    cut_here made state before others front later gain ending are tell beside stop =
        let e = stop.2 in
        let silent : gain ≡ Nothing = cc in
        let same : stop.0 ≡ ending = cc in
        record {
          cut = subst (CutsOff Open) same stop.1;
          front = front;
          later = later;
          are = are;
          tell = subst (λ (xs : List Report). TellSame xs front) (sym (ap (λ (g : Gain). before ++ printed_by g) silent ∙ append-nil before)) tell;
          beside =
              subst (λ (xs : List (State × Report)). AreBeside Same xs front)
              (sym (ap (λ (g : Gain). made ++ made_by state g) silent ∙ append-nil made)) beside;
        }

    module _ (made : List (State × Report)) (before earlier : List Report) (a b : State) (so_far : AreAlike made before earlier a b) where
      abbrev EndSame : Gain → Gain → Ending → Ending → Type 0
      EndSame gain another ending other = Story Open Same (made ++ made_by a gain) (before ++ printed_by gain) (earlier ++ printed_by another) ending other

      both_end : (gain another : Gain) (ending other : Ending) → All (Speaks a) (printed_by gain) → All (Says C b) (printed_by another) →
          AlikeOrStopped Open (Ends gain ending) (Ends another other) →
          EndSame gain another ending other
      both_end gain another ending other speaks says (inl alike) = inl (
        tell_append before earlier (printed_by gain) (printed_by another) so_far.tell alike.0,
        alike.1,
        beside_append Same made (made_by a gain) earlier (printed_by another) so_far.beside
            (show_all a b so_far.stand (printed_by gain) (printed_by another) alike.0 speaks says),
      )
      both_end gain another ending other speaks says (inr stop) =
          inr (cut_here made a before (earlier ++ printed_by another) earlier (printed_by another) gain ending refl so_far.tell so_far.beside stop)

      two_lasts : (gain another : Gain) (ending other : Ending) → (IsOverflow other → ⊥) → Last S Speaks program decks a gain ending →
          Last (attested C) (Says C) program decks b another other →
          EndSame gain another ending other
      two_lasts _ _ ending other none (over first) (over second) = inl (
        tell_append before earlier [] [] so_far.tell tt,
        one_over S (attested C) program a b ending other (same_position a b so_far.stand) (same_executed a b so_far.stand) first second,
        beside_append Same made [] earlier [] so_far.beside tt,
      )
      two_lasts _ another ending other none (over first) (ended second says) =
          absurd (over_or_step S (attested C) program a b ending (Ends another other) (same_position a b so_far.stand)
          (same_executed a b so_far.stand) first second)
      two_lasts gain _ ending other none (ended first speaks) (over second) =
          absurd (over_or_step (attested C) S program b a other (Ends gain ending) (sym (same_position a b so_far.stand))
          (sym (same_executed a b so_far.stand)) second first)
      two_lasts gain another ending other none (ended first speaks) (ended second says) =
          both_end gain another ending other speaks says
          (step_alike a b (Ends gain ending) (Ends another other) so_far.stand first second speaks says (ends_unstopped another other none))

    -- the first run ends where the second one goes on
    ends_early : (made : List (State × Report)) (before others : List Report) (state : State) (gain : Gain) (ending : Ending)
        (rest : IsAhead made before state others) → Last S Speaks program decks state gain ending →
        Breaks Open Same (made ++ made_by state gain) (before ++ printed_by gain) others ending
    ends_early made before others state _ ending rest (over first) =
        absurd (over_or_step S (attested C) program state rest.other ending (Goes rest.gain rest.after) (same_position state rest.other rest.stand)
        (same_executed state rest.other rest.stand) first rest.step)
    ends_early made before others state gain ending rest (ended first speaks) =
        by (step_alike state rest.other (Ends gain ending) (Goes rest.gain rest.after) rest.stand first rest.step speaks rest.says
        (never_stops rest.gain rest.after))
      where
        by : AlikeOrStopped Open (Ends gain ending) (Goes rest.gain rest.after) →
            Breaks Open Same (made ++ made_by state gain) (before ++ printed_by gain) others ending
        by (inl alike) = absurd alike
        by (inr stop) = cut_here made state before others rest.front rest.later gain ending rest.are rest.tell rest.beside stop

    -- it doesn't go on where the second one ends
    goes_late : (other_state : State) (another : Gain) (other : Ending) (rest : IsBehind other_state) → (IsOverflow other → ⊥) →
        Last (attested C) (Says C) program decks other_state another other → ⊥
    goes_late b _ other rest none (over second) =
        over_or_step (attested C) S program b rest.state other (Goes rest.gain rest.after) (sym (same_position rest.state b rest.stand))
        (sym (same_executed rest.state b rest.stand)) second rest.step
    goes_late b another other rest none (ended second says) =
        by (step_alike rest.state b (Goes rest.gain rest.after) (Ends another other) rest.stand rest.step second rest.speaks says
        (ends_unstopped another other none))
      where
        by : AlikeOrStopped Open (Goes rest.gain rest.after) (Ends another other) → ⊥
        by (inl alike) = alike
        by (inr stop) = let e = stop.2 in cc e

    more_after : (made : List (State × Report)) (reports before others : List Report) (ending : Ending) (more : List Report) →
        Breaks Open Same made reports before ending → others ≡ before ++ more → Breaks Open Same made reports others ending
    more_after made reports before others ending more breaks are = record {
      cut = breaks.cut;
      front = breaks.front;
      later = breaks.later ++ more;
      are = are ∙ ap (λ (xs : List Report). xs ++ more) breaks.are ∙ append_assoc breaks.front breaks.later more;
      tell = breaks.tell;
      beside = breaks.beside;
    }

    module _ (made mades : List (State × Report)) (reports others : List Report) (ending other : Ending)
        (first : Whole S Speaks program decks made reports ending)
        (second : Whole (attested C) (Says C) program decks mades others other) (none : IsOverflow other → ⊥) where
      abbrev EndsSame : Type 0
      EndsSame =
          Story Open Same (made_so_far S program decks first.came ++ made_by first.state first.gain) (first.before ++ printed_by first.gain)
          (second.before ++ printed_by second.gain) ending other

      abbrev m : ℕ
      m = count first.came

      abbrev n : ℕ
      n = seen_count second.came

      as_many : m ≡ n → EndsSame
      as_many e =
          two_lasts (made_so_far S program decks first.came) first.before second.before first.state second.state
          (same_so_far first.before second.before first.cards second.cards first.state second.state first.came second.came first.holds second.holds e)
          first.gain second.gain ending other none first.last
          second.last

      not_fewer : (n ≡ m) ⊎ (n < m) → EndsSame
      not_fewer (inl e) = as_many (sym e)
      not_fewer (inr fewer) =
          absurd (goes_late second.state second.gain other
          (behind first.before second.before first.cards second.cards first.state second.state first.came second.came first.holds second.holds fewer) none
          second.last)

      two_wholes : (m < n) ⊎ (n ≤ m) → EndsSame
      two_wholes (inl fewer) =
          inr (more_after (made_so_far S program decks first.came ++ made_by first.state first.gain) (first.before ++ printed_by first.gain) second.before
          (second.before ++ printed_by second.gain) ending
          (printed_by second.gain) (ends_early (made_so_far S program decks first.came) first.before second.before first.state first.gain ending
          (ahead first.before second.before first.cards second.cards first.state second.state first.came second.came first.holds second.holds fewer)
          first.last) refl)
      two_wholes (inr more) = not_fewer (eq-or-lt_of_le {n = n} {m = m} more)

      pub two_runs : Story Open Same made reports others ending other
      two_runs =
          subst (λ (xs : List (State × Report)). Story Open Same xs reports others ending other) (sym first.are_made)
          (subst (λ (xs : List Report). Story Open Same (made_so_far S program decks first.came ++ made_by first.state first.gain) xs others ending other)
          (sym first.are)
          (subst (λ (xs : List Report). Story Open Same (made_so_far S program decks first.came ++ made_by first.state first.gain)
          (first.before ++ printed_by first.gain) xs ending other) (sym second.are)
          (two_wholes (cases_lt m n))))
