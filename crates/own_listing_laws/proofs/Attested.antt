-- The walk of the checker of any length goes along a whole run in which nothing is open, and finds it attested.
--     ComesTo .. n                 the walk comes to an end where it finds so many reports attested
use Rattle.std.proofs.Common.{◌≡◌, ◌⊎◌, inl, ℕ, ◌+◌, ◌-◌, Bool, true, false, List, [], ◌++◌, length, None, refl, sym, ap, subst, ◌∙◌, arith, append-nil}
use Rattle.card_definitions.specs.Cards.{Card}
use Rattle.control_definitions.specs.Program.{Verb, Program}
use Rattle.listing_definitions.specs.Report.{Report, Solved}
use Rattle.listing_definitions.specs.Ending.{Ending, ControlStop, CardStop}
use Rattle.listing_definitions.specs.Listing.{ending_text, listing}
use Rattle.question_definitions.specs.Answers.{parametric_solver}
use Rattle.run_definitions.specs.State.{State, start}
use Rattle.run_definitions.specs.Moves.{Gain, Prints, printed_by, gain_of, StatementOutcome, Goes, Ends}
use Rattle.run_definitions.specs.Verbs.{mark_of}
use Rattle.run_definitions.specs.Run.{Step}
use Rattle.run_definitions.specs.Answer.{job_decks, card_fault, control_fault, run}
use Rattle.walk_definitions.specs.Checkers.{checker_of_any_length}
use Rattle.walk_definitions.specs.Forms.{is_open_stop}
use Rattle.walk_definitions.specs.Walker.{Walker, Attested, WalkTurn, Walks, Finds, follows, turn}
use Rattle.walk_definitions.specs.Found.{first_walker, Reaches as Walked, begun as not_begun, walked, of_cards as ends_by_cards, of_control as ends_by_control}
use Rattle.walk_definitions.specs.Found.{of_walk}
use Rattle.fitting_answers.specs.Real.{linear_programming_of_128_bits}
use Rattle.own_listing_laws.specs.WholeRuns.{ShowsAll, IsMade, ComesAttestedAtAnyLength}
use Rattle.own_listing_laws.proofs.Suiting.{suits_any_length}
use Rattle.own_listing_laws.proofs.Counted.{AreSmall, program_small}
use Rattle.own_listing_laws.proofs.Pace.{KeepsPace, Lands, IsDue}
use Rattle.own_listing_laws.proofs.Paths.{verdict_gain}
use Rattle.own_listing_laws.proofs.Paced.{default_limits}
use Rattle.own_listing_laws.proofs.Own.{IsKnown, RunsOn, over, ends, goes, whole_run, known_at, RefusesHere, small_at, step_lands, due_last, due_next}
use Rattle.own_listing_laws.proofs.Alike.{IsRebased, AreAlike}
use Rattle.own_listing_laws.proofs.Stepping.{over_found, ends_so}
use Rattle.own_listing_laws.proofs.Whole.{listing_closed, gain_counts, only_end}
use Rattle.own_listing_laws.proofs.Came.{IsQuiet, quiet_shows, Came, alone, of_path, of_solution, of_opening, of_run, opens, stops_so, came}
use Rattle.own_listing_laws.proofs.Unopened.{none_waits, IsHeld, TurnsTo, turns_to}

-- ---- once the mark is cleared

-- what a run comes to where no mark stands, and an optimal verdict waits
waits_quiet : (s : State) (verb : Verb ℕ) (card : ℕ) (outcome : StatementOutcome) (reports : List Report) → Came s verb card outcome → s.mark ≡ None →
    ShowsAll true (printed_by (gain_of outcome) ++ reports) → IsQuiet s.mark outcome
waits_quiet s verb card outcome reports (alone given quiet) none shown = quiet
waits_quiet s verb card outcome reports (of_path path) none shown =
    let gain : gain_of outcome ≡ Prints (Solved path.solver path.verdict path.check) = ap gain_of path.is ∙ verdict_gain (mark_of path.verdict) _ _ in
    let e : true ≡ false = (subst (λ (g : Gain). ShowsAll true (printed_by g ++ reports)) gain shown).0 in
    absurd (cc e)
waits_quiet s verb card outcome reports (of_solution view) none shown = let e = sym none ∙ view.is_mark in absurd (cc e)
waits_quiet s verb card outcome reports (of_opening opened) none shown =
    let gain : gain_of outcome ≡ Prints (Solved (parametric_solver opened.begins.changing) opened.verdict opened.check) =
    ap gain_of opened.is ∙ verdict_gain (mark_of opened.verdict) _ _ in
    let e : true ≡ false = (subst (λ (g : Gain). ShowsAll true (printed_by g ++ reports)) gain shown).0 in
    absurd (cc e)
waits_quiet s verb card outcome reports (of_run ran) none shown =
    let e : true ≡ false = (subst (λ (o : StatementOutcome). ShowsAll true (printed_by (gain_of o) ++ reports)) ran.is shown).0 in
    absurd (cc e)
waits_quiet s verb card outcome reports (opens open_so) none shown =
    absurd (open_so.never true reports (subst (λ (o : StatementOutcome). ShowsAll true (printed_by (gain_of o) ++ reports)) open_so.is shown))
waits_quiet s verb card outcome reports (stops_so stuck) none shown = subst (IsQuiet s.mark) (sym stuck.is) tt

module _ (program : Program) where
  came_at : (s : State) (outcome : StatementOutcome) → IsKnown s → (step : Step linear_programming_of_128_bits program s outcome) →
      IsMade program s outcome step → Came s step.statement.verb step.statement.card outcome
  came_at s outcome is_known step made = came s step.statement.verb step.statement.card outcome is_known.lawful step.gives made

  lost : (s : State) (reports : List Report) (ending : Ending) → RunsOn program (IsMade program) s reports ending → s.mark ≡ None → ShowsAll true reports → ⊥
  lost _ _ _ (over s ending is_known is) none shown = let e : true ≡ false = shown in cc e
  lost _ _ _ (ends s gain ending is_known step made) none shown =
      let all : ShowsAll true (printed_by gain ++ []) = subst (λ (rs : List Report). ShowsAll true rs) (sym (append-nil (printed_by gain))) shown in
      let quiet = waits_quiet s step.statement.verb step.statement.card (Ends gain ending) [] (came_at s (Ends gain ending) is_known step made) none all in
      let e : true ≡ false = quiet_shows true gain [] quiet all in
      cc e
  lost _ _ _ (goes s gain after reports ending is_known step made rest) none shown =
      let quiet = waits_quiet s step.statement.verb step.statement.card (Goes gain after) reports (came_at s (Goes gain after) is_known step made) none shown in
      lost after reports ending rest (quiet.1 none) (quiet_shows true gain reports quiet.0 shown)

-- ---- the walk

module _ (program : Program) (small : AreSmall program) where
  abbrev LandsHere : Walker → StatementOutcome → List ℕ → WalkTurn → Type 0
  LandsHere w outcome more t = Lands (RefusesHere checker_of_any_length suits_any_length program small w) outcome more t

  module _ (w : Walker) (s : State) (is_known : IsKnown s) (outcome : StatementOutcome) (more : List ℕ) (reports : List Report)
      (pace : KeepsPace w s w.rest) (step : Step linear_programming_of_128_bits program s outcome) (made : IsMade program s outcome step)
      (due : IsDue w outcome more)
      (closed : is_open_stop w.rest ≡ false) (closed_end : is_open_stop more ≡ false) (held : IsHeld outcome reports)
      (waiting : Bool) (shown : ShowsAll waiting (printed_by (gain_of outcome) ++ reports)) (pends : (w.pending ≡ None) ⊎ (waiting ≡ true)) where
    abbrev like_run : IsRebased w.state s
    like_run = record { opening = pace.like.opening; steps = pace.like.steps; is = pace.like.is }

    lands : LandsHere w outcome more (turn checker_of_any_length program w)
    lands = step_lands checker_of_any_length suits_any_length program small w s pace.like pace.waits is_known outcome more step due

    turned : TurnsTo program w s like_run outcome more reports
    turned =
        turns_to program w s like_run is_known pace.like.limits outcome more reports step
        (small_at checker_of_any_length suits_any_length program small step.statement (s.position - 1) step.is_at_position).0
        due closed closed_end waiting shown pends made held
        (λ rest is. subst (LandsHere w outcome more) is lands) (came_at program s outcome is_known step made)

  record GoesOn (w : Walker) (after : State) (more : List ℕ) (reports : List Report) (n : ℕ) : Type 0 where
    walker : Walker
    is : turn checker_of_any_length program w ≡ Walks walker
    pace : KeepsPace walker after more
    counts : walker.reports ≡ n
    waiting : Bool
    shows : ShowsAll waiting reports
    pends : (walker.pending ≡ None) ⊎ (waiting ≡ true)

  goes_on : (w : Walker) (s : State) (like : IsRebased w.state s) (gain : Gain) (after : State) (more : List ℕ) (reports : List Report) →
      LandsHere w (Goes gain after) more (turn checker_of_any_length program w) → TurnsTo program w s like (Goes gain after) more reports →
      GoesOn w after more reports (w.reports + length (printed_by gain))
  goes_on w s like gain after more reports lands turned = by turned.own turned.alike turned.is
    where
      by : (own : StatementOutcome) → AreAlike own (Goes gain after) → turn checker_of_any_length program w ≡ follows turned.u own →
          GoesOn w after more reports (w.reports + length (printed_by gain))
      by (Goes other then) alike is = record {
        walker = record (turned.u) { state = then };
        is = is;
        pace = subst (LandsHere w (Goes gain after) more) is lands;
        counts = turned.counts;
        waiting = turned.waiting;
        shows = turned.shows;
        pends = turned.pends;
      }
      by (Ends other ending) alike is = absurd alike

  module _ (decks : List (List Card)) (lines : List ℕ) where
    record ComesTo (n : ℕ) : Type 0 where
      last : Walker
      reaches : Walked checker_of_any_length program decks lines last
      finds : turn checker_of_any_length program last ≡ Finds (Attested n)

    finds_so_many : (n m : ℕ) (t : WalkTurn) → t ≡ Finds (Attested n) → n ≡ m → t ≡ Finds (Attested m)
    finds_so_many n m t is same = is ∙ ap (λ (k : ℕ). Finds (Attested k)) same

    attests : (w : Walker) (s : State) (reports : List Report) (ending : Ending) → RunsOn program (IsMade program) s reports ending →
        is_open_stop (ending_text ending) ≡ false → (waiting : Bool) → ShowsAll waiting reports → (w.pending ≡ None) ⊎ (waiting ≡ true) →
        KeepsPace w s (listing reports ending) → Walked checker_of_any_length program decks lines w → ComesTo (w.reports + length reports)
    attests w _ _ _ (over s ending is_known is) closed waiting shown pends pace before = record {
      last = w;
      reaches = before;
      finds =
          finds_so_many w.reports (w.reports + 0) (turn checker_of_any_length program w)
          (over_found program w s (record { opening = pace.like.opening; steps = pace.like.steps; is = pace.like.is }) checker_of_any_length
          linear_programming_of_128_bits ending is (none_waits w.pending waiting pends shown) pace.is_rest closed) (omega arith);
    }
    attests w _ _ _ (ends s gain ending is_known step made) closed waiting shown pends pace before =
        let here : KeepsPace w s w.rest = record { like = pace.like; is_rest = refl; waits = pace.waits } in
        let due = due_last checker_of_any_length suits_any_length program small w s gain ending pace.is_rest step in
        let whole = ap is_open_stop pace.is_rest ∙ listing_closed (printed_by gain) ending closed in
        let all : ShowsAll waiting (printed_by gain ++ []) = subst (λ (rs : List Report). ShowsAll waiting rs) (sym (append-nil (printed_by gain))) shown in
        let to = turned w s is_known (Ends gain ending) (ending_text ending) [] here step made due whole closed (λ waits. never_waits waits) waiting all
        pends in
        record {
          last = w;
          reaches = before;
          finds =
              finds_so_many to.u.reports (w.reports + length (printed_by gain)) (turn checker_of_any_length program w)
              (ends_so to.u to.own gain ending (turn checker_of_any_length program w) to.is to.alike (none_waits to.u.pending to.waiting to.pends to.shows)
              to.is_rest closed) to.counts;
        }
      where
        never_waits : ShowsAll true [] → ⊥
        never_waits waits = let e : true ≡ false = waits in cc e
    attests w _ _ _ (goes s gain after reports ending is_known step made rest) closed waiting shown pends pace before =
        let here : KeepsPace w s w.rest = record { like = pace.like; is_rest = refl; waits = pace.waits } in
        let due = due_next checker_of_any_length suits_any_length program small w s gain after reports ending pace.is_rest step in
        let whole = ap is_open_stop pace.is_rest ∙ listing_closed (printed_by gain ++ reports) ending closed in
        let to =
        turned w s is_known (Goes gain after) (listing reports ending) reports here step made due whole (listing_closed reports ending closed)
        (λ none waits. lost program after reports ending rest none waits) waiting shown pends in
        let on =
        goes_on w s (record { opening = pace.like.opening; steps = pace.like.steps; is = pace.like.is }) gain after (listing reports ending) reports
        (lands w s is_known (Goes gain after) (listing reports ending) reports here step made due whole (listing_closed reports ending closed)
        (λ none waits. lost program after reports ending rest none waits) waiting shown pends) to in
        subst ComesTo (ap (λ n. n + length reports) on.counts ∙ gain_counts gain reports w.reports)
        (attests on.walker after reports ending rest closed on.waiting on.shows on.pends on.pace (walked before on.is))

-- ---- jobs

pub comes_attested_at_any_length : ComesAttestedAtAnyLength
comes_attested_at_any_length bytes _ _ _ (card_fault fault is) makes shown closed = ends_by_cards fault is (only_end (CardStop fault) closed)
comes_attested_at_any_length bytes _ _ _ (control_fault fault none is) makes shown closed =
    ends_by_control fault none is (only_end (ControlStop fault) closed)
comes_attested_at_any_length bytes reports cards ending (run program is_program runs) makes shown closed =
    let decks = job_decks program bytes in
    let lines = listing reports ending in
    let end =
    attests program (program_small bytes program is_program) decks lines (first_walker decks lines) (start decks) reports ending
    (whole_run program (IsMade program) decks (known_at bytes program is_program) reports cards ending runs makes) closed false shown (inl refl)
    (record { like = record { opening = []; steps = []; is = refl; limits = default_limits }; is_rest = refl; waits = tt }) not_begun in
    of_walk program end.last is_program end.reaches (end.finds ∙ ap (λ (n : ℕ). Finds (Attested n)) (omega arith))
