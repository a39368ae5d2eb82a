-- Two attested listings of one job tell one story, and so does the run of the job.
use Rattle.std.proofs.Common.{◌≡◌, ◌⊎◌, inl, inr, ℕ, suc, List, [], ◌∷◌, ◌++◌, map, length, refl, sym, ap, ap₂, subst, ◌∙◌}
use Rattle.std.specs.Prelude.{All}
use Rattle.std.proofs.lemmas.List.{map-append}
use Rattle.card_definitions.specs.Cards.{Card}
use Rattle.std.proofs.lemmas.List.Elements.{All-nil, All-cons, All-head, All-tail}
use Rattle.control_definitions.specs.Program.{Program}
use Rattle.listing_definitions.specs.Report.{Report, Titled, Converted, Revised, SetUp, BcdOut, BasisOut, Inserted, Solved, Solution, Ranges, Parametric}
use Rattle.listing_definitions.specs.Ending.{Ending, Ended, WordsRefused, ControlStop, VerbStop, SingularStop, PriceStop, DeckStop, CardStop, LimitStop}
use Rattle.listing_definitions.specs.Ending.{StatementLimit, OverflowStop, ReadFault, PrintFault, PunchFault, Memory}
use Rattle.question_definitions.specs.Solving.{Solving}
use Rattle.answer_definitions.specs.Real.{linear_programming}
use Rattle.run_definitions.specs.State.{State}
use Rattle.run_definitions.specs.Moves.{Gain, printed_by}
use Rattle.run_definitions.specs.Run.{Reaches, begun, stepped, IsRun, is_over, is_ended}
use Rattle.run_definitions.specs.Answer.{job_decks, IsProgramOf, IsJobRun, card_fault, control_fault, run}
use Rattle.soundness_laws.specs.Truth.{Holds, HoldsAtEnd}
use Rattle.soundness_laws.specs.Headline.{HoldInRun, HoldInJob}
use Rattle.soundness_laws.specs.Laws.{RunLaws}
use Rattle.determinism_laws.specs.Laws.{IsOverflow}
use Rattle.walk_laws.specs.Proved.{attested, Says, SaysAtEnd, IsTrueListing}
use Rattle.walk_laws.specs.Laws.{AttestedLaw}
use Rattle.one_story_laws.specs.Story.{ReportsSame, TellSame, IsOfNoBasis, IsCutEnding}
use Rattle.one_story_laws.specs.Views.{made_by, made_so_far, made_in_run, made_in_job, ShowsSame}
use Rattle.one_story_laws.specs.Laws.{IsOneStory, IsBrokenOff, IsProvedListing, OneStoryLaws}
use Rattle.one_story_laws.proofs.Reported.{SaysEnough, attested_says, real_says}
use Rattle.one_story_laws.proofs.Alike.{SameStanding, CutsOff}
use Rattle.one_story_laws.proofs.Worth.{attested_worth, real_worth}
use Rattle.one_story_laws.proofs.Shows.{shows_same}
use Rattle.one_story_laws.proofs.Runs.{Whole, whole_of, Story, two_runs}
use Rattle.one_story_laws.proofs.NoBasis.{job_of_no_basis}
use Rattle.walk_definitions.specs.Checkers.{Checker}
use Rattle.walk_definitions.specs.Walker.{Attested}
use Rattle.walk_definitions.specs.Found.{EndsIn}

-- ---- how a run is cut off

of_cut : (Open : Type 0) (ending : Ending) → CutsOff Open ending → IsCutEnding ending × ((Open → ⊥) → IsOverflow ending)
of_cut Open (LimitStop reached) cut = (tt, λ closed. absurd (closed cut))
of_cut Open (PriceStop price) cut = (tt, λ closed. absurd (closed cut))
of_cut Open (OverflowStop overflow) cut = (tt, λ closed. (overflow, refl))
of_cut Open (Ended code) cut = absurd cut
of_cut Open WordsRefused cut = absurd cut
of_cut Open (ControlStop fault) cut = absurd cut
of_cut Open (VerbStop fault) cut = absurd cut
of_cut Open (SingularStop basis) cut = absurd cut
of_cut Open (DeckStop fault) cut = absurd cut
of_cut Open (CardStop fault) cut = absurd cut
of_cut Open StatementLimit cut = absurd cut
of_cut Open ReadFault cut = absurd cut
of_cut Open PrintFault cut = absurd cut
of_cut Open PunchFault cut = absurd cut
of_cut Open Memory cut = absurd cut

-- ---- two runs of one job

one_program : (bytes : List ℕ) (program other : Program) → IsProgramOf bytes program → IsProgramOf bytes other → other ≡ program
one_program bytes program other first second = let e = sym second.is_compiled ∙ first.is_compiled in cc

module _ (C : Checker) (S : Solving) (Speaks : State → Report → Type 0) (AtEnd : State → Ending → Type 0) (Open : Type 0) (enough : SaysEnough S Speaks Open)
    (Same : State → Report → Report → Type 0)
    (shows : (a b : State) → SameStanding a b → (report other : Report) → ReportsSame report other → Speaks a report → Says C b other → Same a report other)
    (bytes : List ℕ) where
  same_program : (program other : Program) (reports others : List Report) (cards other_cards : List (List ℕ)) (ending another : Ending) →
      IsProgramOf bytes program → IsProgramOf bytes other →
      (first : IsRun S program (job_decks program bytes) reports cards ending)
      (second : IsRun (attested C) other (job_decks other bytes) others other_cards another) →
      HoldInRun S Speaks AtEnd program (job_decks program bytes) first → HoldInRun (attested C) (Says C) SaysAtEnd other (job_decks other bytes) second →
      (IsOverflow another → ⊥) →
      Story Open Same (made_in_run S program (job_decks program bytes) first) reports others ending another
  same_program program other reports others cards other_cards ending another is also first second holds says none =
      two_runs C S Speaks Open enough Same shows program (job_decks program bytes) (made_in_run S program (job_decks program bytes) first)
      (made_in_run (attested C) other (job_decks other bytes) second)
      reports others ending another (whole_of S Speaks program (job_decks program bytes) AtEnd reports cards ending first holds)
      (subst (λ (x : Program). Whole (attested C) (Says C) x (job_decks x bytes) (made_in_run (attested C) other (job_decks other bytes) second) others another)
      (one_program bytes program other is also)
      (whole_of (attested C) (Says C) other (job_decks other bytes) SaysAtEnd others other_cards another second says)) none

  two_jobs : (reports others : List Report) (cards other_cards : List (List ℕ)) (ending other : Ending) (first : IsJobRun S bytes reports cards ending)
      (second : IsJobRun (attested C) bytes others other_cards other) →
      HoldInJob S Speaks AtEnd first → HoldInJob (attested C) (Says C) SaysAtEnd second → (IsOverflow other → ⊥) →
      Story Open Same (made_in_job S first) reports others ending other
  two_jobs _ _ _ _ _ _ (card_fault fault is) (card_fault other also) holds says none = let e = sym is ∙ also in inl (tt, cc, tt)
  two_jobs _ _ _ _ _ _ (card_fault fault is) (control_fault other fine also) holds says none = let e = sym is ∙ fine in absurd (cc e)
  two_jobs _ _ _ _ _ _ (card_fault fault is) (run program fine runs) holds says none = let e = sym is ∙ fine.is_read in absurd (cc e)
  two_jobs _ _ _ _ _ _ (control_fault fault fine is) (card_fault other also) holds says none = let e = sym also ∙ fine in absurd (cc e)
  two_jobs _ _ _ _ _ _ (control_fault fault fine is) (control_fault other again also) holds says none = let e = sym is ∙ also in inl (tt, cc, tt)
  two_jobs _ _ _ _ _ _ (control_fault fault fine is) (run program again runs) holds says none = let e = sym is ∙ again.is_compiled in absurd (cc e)
  two_jobs _ _ _ _ _ _ (run program fine runs) (card_fault other also) holds says none = let e = sym also ∙ fine.is_read in absurd (cc e)
  two_jobs _ _ _ _ _ _ (run program fine runs) (control_fault other again also) holds says none = let e = sym also ∙ fine.is_compiled in absurd (cc e)
  two_jobs reports others cards other_cards ending other (run program fine runs) (run another again second) holds says none =
      same_program program another reports others cards other_cards ending other fine again runs second holds says none

-- ---- an attested listing beside another, and beside the run

two_listings : (C D : Checker) (bytes lines others : List ℕ) (n m : ℕ) (one : IsProvedListing C bytes lines n) (two : IsProvedListing D bytes others m) →
    IsOneStory (made_in_job (attested C) one.proved.runs) one.proved.reports two.proved.reports one.proved.ending two.proved.ending
two_listings C D bytes lines others n m one two =
    by (two_jobs D (attested C) (Says C) SaysAtEnd ⊥ (attested_says C) ShowsSame
    (shows_same D (Says C) (attested_worth C)) bytes one.proved.reports two.proved.reports one.proved.cards two.proved.cards one.proved.ending
    two.proved.ending one.proved.runs two.proved.runs one.proved.each two.proved.each two.proved.unstopped)
  where
    by : Story ⊥ ShowsSame (made_in_job (attested C) one.proved.runs) one.proved.reports two.proved.reports one.proved.ending two.proved.ending →
        IsOneStory (made_in_job (attested C) one.proved.runs) one.proved.reports two.proved.reports one.proved.ending two.proved.ending
    by (inl story) = record { tell = story.0; end = story.1; show = story.2 }
    by (inr breaks) = absurd (one.proved.unstopped ((of_cut ⊥ one.proved.ending breaks.cut).1 (λ (none : ⊥). none)))

beside_run : (C : Checker) → RunLaws →
    (bytes lines : List ℕ) (count : ℕ) (one : IsProvedListing C bytes lines count) (reports : List Report) (cards : List (List ℕ)) (ending : Ending) →
    (runs : IsJobRun linear_programming bytes reports cards ending) →
    IsOneStory (made_in_job linear_programming runs) reports one.proved.reports ending one.proved.ending ⊎ IsBrokenOff
    (made_in_job linear_programming runs) reports one.proved.reports ending
beside_run C laws bytes lines count one reports cards ending runs =
    by (two_jobs C linear_programming Holds HoldsAtEnd (Unit {0}) real_says ShowsSame
    (shows_same C Holds real_worth) bytes reports one.proved.reports cards one.proved.cards ending one.proved.ending runs
    one.proved.runs (laws.truth.job bytes reports cards ending runs) one.proved.each one.proved.unstopped)
  where
    by : Story (Unit {0}) ShowsSame (made_in_job linear_programming runs) reports one.proved.reports ending one.proved.ending →
        IsOneStory (made_in_job linear_programming runs) reports one.proved.reports ending one.proved.ending ⊎ IsBrokenOff
        (made_in_job linear_programming runs) reports one.proved.reports ending
    by (inl story) = inl (record { tell = story.0; end = story.1; show = story.2 })
    by (inr breaks) =
        inr (record {
          is_cut =
              (of_cut (Unit {0}) ending breaks.cut).0;
          first = breaks.front;
          later = breaks.later;
          are = breaks.are;
          tell = breaks.tell;
          show = breaks.beside;
        })

-- ---- the reports with their states

module _ (S : Solving) where
  made_then : (mades : List (State × Report)) (reports : List Report) (state : State) (gain : Gain) → map (λ (made : State × Report). made.1) mades ≡ reports →
      map (λ (made : State × Report). made.1) (mades ++ made_by state gain) ≡ reports ++ printed_by gain
  made_then mades reports state gain are =
      map-append (λ (made : State × Report). made.1) mades (made_by state gain)
      ∙ ap₂ (λ (xs ys : List Report). xs ++ ys) are (each_made state (printed_by gain))
    where
      each_made : (state : State) (reports : List Report) →
          map (λ (made : State × Report). made.1) (map (λ (report : Report). (state, report)) reports) ≡ reports
      each_made state [] = refl
      each_made state (report ∷ reports) = ap (λ (xs : List Report). report ∷ xs) (each_made state reports)

  module _ (program : Program) (decks : List (List Card)) where
    made_reaching : (reports : List Report) (cards : List (List ℕ)) (state : State) (came : Reaches S program decks reports cards state) →
        map (λ (made : State × Report). made.1) (made_so_far S program decks came) ≡ reports
    made_reaching _ _ _ begun = refl
    made_reaching _ _ _ (stepped {reports} {cards} {state} gain after before step) =
        made_then (made_so_far S program decks before) reports state gain (made_reaching reports cards state before)

    made_run : (reports : List Report) (cards : List (List ℕ)) (ending : Ending) (runs : IsRun S program decks reports cards ending) →
        map (λ (made : State × Report). made.1) (made_in_run S program decks runs) ≡ reports
    made_run reports cards ending (is_over {reports = _} {cards = _} {state} before over) = made_reaching reports cards state before
    made_run _ _ ending (is_ended {reports} {cards} {state} gain before step) =
        made_then (made_so_far S program decks before) reports state gain (made_reaching reports cards state before)

  made_job : (bytes : List ℕ) (reports : List Report) (cards : List (List ℕ)) (ending : Ending) (runs : IsJobRun S bytes reports cards ending) →
      map (λ (made : State × Report). made.1) (made_in_job S runs) ≡ reports
  made_job bytes _ _ _ (card_fault fault is) = refl
  made_job bytes _ _ _ (control_fault fault fine is) = refl
  made_job bytes reports cards ending (run program is runs) = made_run program _ reports cards ending runs

-- ---- no bases

all_front : (P : Report → Type 0) (first later : List Report) → All P (first ++ later) → All P first
all_front P [] later all = All-nil P
all_front P (report ∷ first) later all =
    All-cons P report first (All-head P report (first ++ later) all) (all_front P first later (All-tail P report (first ++ later) all))

of_no_basis : (report other : Report) → ReportsSame report other → IsOfNoBasis other → IsOfNoBasis report
of_no_basis (Ranges lines) other same none = subst IsOfNoBasis (sym same) none
of_no_basis (BasisOut name count) other same none = subst IsOfNoBasis (sym same) none
of_no_basis (Inserted name count) other same none = subst IsOfNoBasis (sym same) none
of_no_basis (Titled text) other same none = tt
of_no_basis (Converted filed) other same none = tt
of_no_basis (Revised filed) other same none = tt
of_no_basis (SetUp name sense) other same none = tt
of_no_basis (BcdOut name count) other same none = tt
of_no_basis (Solved solver verdict check) other same none = tt
of_no_basis (Solution mark lines) other same none = tt
of_no_basis (Parametric solver chain) other same none = tt

each_of_no_basis : (reports others : List Report) → TellSame reports others → All IsOfNoBasis others → All IsOfNoBasis reports
each_of_no_basis [] others tell none = All-nil IsOfNoBasis
each_of_no_basis (report ∷ reports) (other ∷ others) tell none =
    All-cons IsOfNoBasis report reports (of_no_basis report other tell.0 (All-head IsOfNoBasis other others none))
    (each_of_no_basis reports others tell.1 (All-tail IsOfNoBasis other others none))
each_of_no_basis (report ∷ reports) [] tell none = absurd tell

listing_of_no_basis : (C : Checker) (bytes lines : List ℕ) (one : IsTrueListing C bytes lines) → All IsOfNoBasis one.reports
listing_of_no_basis C bytes lines one = job_of_no_basis C bytes one.reports one.cards one.ending one.runs

run_of_no_basis : (C : Checker) → RunLaws → (bytes lines : List ℕ) (count : ℕ) → IsProvedListing C bytes lines count →
    (reports : List Report) (cards : List (List ℕ)) (ending : Ending) →
    IsJobRun linear_programming bytes reports cards ending → All IsOfNoBasis reports
run_of_no_basis C laws bytes lines count one reports cards ending runs = by (beside_run C laws bytes lines count one reports cards ending runs)
  where
    none : All IsOfNoBasis one.proved.reports
    none = listing_of_no_basis C bytes lines one.proved

    by : IsOneStory (made_in_job linear_programming runs) reports one.proved.reports ending one.proved.ending ⊎ IsBrokenOff
        (made_in_job linear_programming runs) reports one.proved.reports ending →
        All IsOfNoBasis reports
    by (inl story) = each_of_no_basis reports one.proved.reports story.tell none
    by (inr breaks) =
        each_of_no_basis reports breaks.first breaks.tell (all_front IsOfNoBasis breaks.first breaks.later (subst (All IsOfNoBasis) breaks.are none))

tell_as_many : (reports others : List Report) → TellSame reports others → length reports ≡ length others
tell_as_many [] [] tell = refl
tell_as_many (report ∷ reports) (other ∷ others) tell = ap suc (tell_as_many reports others tell.1)
tell_as_many [] (other ∷ others) tell = absurd tell
tell_as_many (report ∷ reports) [] tell = absurd tell

-- what an attested listing is, with the number of its reports
listing_proved : (C : Checker) → AttestedLaw C → (bytes lines : List ℕ) (count : ℕ) → EndsIn C bytes lines (Attested count) →
    IsProvedListing C bytes lines count
listing_proved C attest bytes lines count come = let got = attest bytes lines count come in record { proved = got.0; has_count = got.1 }

pub stories : ((C : Checker) → AttestedLaw C) → RunLaws → OneStoryLaws
stories attest laws = record {
  is_proved = λ C. listing_proved C (attest C);
  one_story = two_listings;
  as_many = λ C D bytes lines others n m first second.
      let one = listing_proved C (attest C) bytes lines n first in
      let two = listing_proved D (attest D) bytes others m second in
      sym one.has_count ∙ tell_as_many one.proved.reports two.proved.reports (two_listings C D bytes lines others n m one two).tell ∙ two.has_count;
  run = λ C. beside_run C laws;
  made = λ C bytes lines one. made_job (attested C) bytes one.reports one.cards one.ending one.runs;
  made_by_run = made_job linear_programming;
  no_basis = listing_of_no_basis;
  no_basis_in_run = λ C. run_of_no_basis C laws;
}
