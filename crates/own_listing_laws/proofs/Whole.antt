-- The listing of an attestable run is attested.
use Rattle.std.proofs.Common.{◌≡◌, ℕ, ◌+◌, false, List, [], ◌∷◌, ◌++◌, length, Option, None, refl, sym, ap, subst, ◌∙◌, arith, append_assoc, append-nil}
use Rattle.exact_values.specs.Rational.{ℚ}
use Rattle.card_definitions.specs.Cards.{Card}
use Rattle.control_definitions.specs.Program.{Program}
use Rattle.listing_definitions.specs.declared.Mark.TheVariants.{Optimal}
use Rattle.listing_definitions.specs.Report.{Checked, Report, Solved, Solution}
use Rattle.listing_definitions.specs.Ending.{Ending, ControlStop, CardStop}
use Rattle.listing_definitions.specs.Text.{report_text}
use Rattle.listing_definitions.specs.Listing.{ending_text, reports_text, listing}
use Rattle.answer_definitions.specs.Real.{linear_programming}
use Rattle.run_definitions.specs.State.{State, start}
use Rattle.run_definitions.specs.Moves.{Gain, Nothing, Prints, Punches, printed_by, punched_by, gain_text}
use Rattle.run_definitions.specs.Run.{counted, Reaches, begun, stepped, IsRun, is_over, is_ended}
use Rattle.run_definitions.specs.Answer.{job_decks, IsJobRun, card_fault, control_fault, run}
use Rattle.walk_definitions.specs.Checkers.{checker_of_128_bits}
use Rattle.walk_definitions.specs.Forms.{is_open_stop}
use Rattle.walk_definitions.specs.Walker.{Walker, Attested, Finds, closes, turn}
use Rattle.walk_definitions.specs.Found.{first_walker, Reaches as Walked, begun as not_begun, walked, EndsIn, of_cards as ends_by_cards}
use Rattle.walk_definitions.specs.Found.{of_control as ends_by_control, of_walk}
use Rattle.own_listing_laws.specs.Attestable.{to_show, IsAttestable, over, does, stops, finds, finds_last, shows, IsAttestableRun, of_cards, of_control}
use Rattle.own_listing_laws.specs.Attestable.{of_program, ComesAttested}
use Rattle.own_listing_laws.proofs.Own.{ending_plain, listing_plain}
use Rattle.own_listing_laws.proofs.Onward.{walks_on}
use Rattle.own_listing_laws.proofs.Stepping.{StandsAt, over_found, statement_goes, statement_ends, verdict_goes, verdict_ends, solution_goes}

-- ---- texts

report_first : (report : Report) (reports : List Report) (ending : Ending) → listing (report ∷ reports) ending ≡ report_text report ++ listing reports ending
report_first report reports ending = append_assoc (report_text report) (reports_text reports) (ending_text ending)

gain_first : (gain : Gain) (reports : List Report) (ending : Ending) → listing (printed_by gain ++ reports) ending ≡ gain_text gain ++ listing reports ending
gain_first Nothing reports ending = refl
gain_first (Prints report) reports ending = report_first report reports ending
gain_first (Punches report cards) reports ending = report_first report reports ending

gain_last : (gain : Gain) (ending : Ending) → listing (printed_by gain) ending ≡ gain_text gain ++ ending_text ending
gain_last Nothing ending = refl
gain_last (Prints report) ending = report_first report [] ending
gain_last (Punches report cards) ending = report_first report [] ending

pub listing_closed : (reports : List Report) (ending : Ending) → is_open_stop (ending_text ending) ≡ false → is_open_stop (listing reports ending) ≡ false
listing_closed [] ending closed = closed
listing_closed (report ∷ reports) ending closed = ap is_open_stop (report_first report reports ending) ∙ walks_on.report report (listing reports ending)

pub gain_counts : (gain : Gain) (reports : List Report) (n : ℕ) → (n + length (printed_by gain)) + length reports ≡ n + length (printed_by gain ++ reports)
gain_counts Nothing reports n = omega arith
gain_counts (Prints report) reports n = omega arith
gain_counts (Punches report cards) reports n = omega arith

-- ---- the walk

module _ (program : Program) (decks : List (List Card)) (lines : List ℕ) where
  -- the walk comes to this end
  record Finishes (n : ℕ) : Type 0 where
    pub last : Walker
    pub reaches : Walked checker_of_128_bits program decks lines last
    pub finds : turn checker_of_128_bits program last ≡ Finds (Attested n)

  attests : (w : Walker) (objective : Option ℚ) (s : State) (reports : List Report) (ending : Ending) → is_open_stop (ending_text ending) ≡ false →
      IsAttestable program objective s reports ending →
      StandsAt w objective s (listing reports ending) → Walked checker_of_128_bits program decks lines w → Finishes (w.reports + length reports)
  attests w _ _ _ _ closed (over s ending is) at before =
      record {
        last = w;
        reaches = before;
        finds = over_found program w s at.like checker_of_128_bits linear_programming ending is at.waits at.is_rest closed
            ∙ ap (λ (n : ℕ). Finds (Attested n)) (omega arith);
      }
  attests w _ _ _ _ closed (does objective s gain after reports ending step nothing kept rest) at before =
      let on =
      statement_goes program w s at.like objective gain after (listing reports ending) step nothing kept at.waits (at.is_rest ∙ gain_first gain reports ending)
      (ap is_open_stop at.is_rest ∙ listing_closed (printed_by gain ++ reports) ending closed) in
      subst Finishes (ap (λ n. n + length reports) on.counts ∙ gain_counts gain reports w.reports)
      (attests on.walker objective after reports ending closed rest on.stands (walked before on.is))
  attests w _ _ _ _ closed (stops s gain ending step nothing) at before = record {
    last = w;
    reaches = before;
    finds =
        statement_ends program w s at.like gain ending step nothing at.waits (at.is_rest ∙ gain_last gain ending)
        (ap is_open_stop at.is_rest ∙ listing_closed (printed_by gain) ending closed) closed;
  }
  attests w _ _ _ _ closed (finds s solver verdict after reports ending found rest) at before =
      let on =
      verdict_goes program w s at.like solver verdict after (listing reports ending) found at.waits
      (at.is_rest ∙ report_first (Solved solver verdict Checked) reports ending) (listing_plain reports ending) in
      subst Finishes (ap (λ n. n + length reports) on.counts ∙ gain_counts (Prints (Solved solver verdict Checked)) reports w.reports)
      (attests on.walker (to_show verdict) after reports ending closed rest on.stands (walked before on.is))
  attests w _ _ _ _ closed (finds_last s solver verdict ending found) at before = record {
    last = w;
    reaches = before;
    finds =
        verdict_ends program w s at.like solver verdict ending found at.waits (at.is_rest ∙ report_first (Solved solver verdict Checked) [] ending)
        (ending_plain ending) closed;
  }
  attests w _ _ _ _ closed (shows waiting s objective lines_shown reports ending shown either rest) at before =
      let on =
      solution_goes program w s at.like waiting objective lines_shown (listing reports ending) shown either at.waits
      (at.is_rest ∙ report_first (Solution Optimal lines_shown) reports ending) in
      subst Finishes (ap (λ n. n + length reports) on.counts ∙ gain_counts (Prints (Solution Optimal lines_shown)) reports w.reports)
      (attests on.walker None (record (counted s) { position = s.position + 1 }) reports ending closed rest on.stands (walked before on.is))

-- ---- the run

module _ (program : Program) (decks : List (List Card)) where
  abbrev RunsSo : List Report → Ending → Type 0
  RunsSo reports ending = (cards : List (List ℕ)) × IsRun linear_programming program decks reports cards ending

  runs_so : (reports : List Report) (cards : List (List ℕ)) (objective : Option ℚ) (s : State) (more : List Report) (ending : Ending) →
      Reaches linear_programming program decks reports cards s →
      IsAttestable program objective s more ending → RunsSo (reports ++ more) ending
  runs_so reports cards _ _ _ _ before (over s ending is) = subst (λ (rs : List Report). RunsSo rs ending) (sym (append-nil reports)) (cards, is_over before is)
  runs_so reports cards _ _ _ _ before (does objective s gain after more ending step nothing kept rest) =
      subst (λ (rs : List Report). RunsSo rs ending) (append_assoc reports (printed_by gain) more)
      (runs_so (reports ++ printed_by gain) (cards ++ punched_by gain) objective after more ending (stepped gain after before step) rest)
  runs_so reports cards _ _ _ _ before (stops s gain ending step nothing) = (cards ++ punched_by gain, is_ended gain before step)
  runs_so reports cards _ _ _ _ before (finds s solver verdict after more ending found rest) =
      subst (λ (rs : List Report). RunsSo rs ending) (append_assoc reports (Solved solver verdict Checked ∷ []) more)
      (runs_so (reports ++ Solved solver verdict Checked ∷ []) (cards ++ []) (to_show verdict) after more ending
      (stepped (Prints (Solved solver verdict Checked)) after before found.step) rest)
  runs_so reports cards _ _ _ _ before (finds_last s solver verdict ending found) =
      (cards ++ [], is_ended (Prints (Solved solver verdict Checked)) before found.step)
  runs_so reports cards _ _ _ _ before (shows waiting s objective lines more ending shown either rest) =
      subst (λ (rs : List Report). RunsSo rs ending) (append_assoc reports (Solution Optimal lines ∷ []) more)
      (runs_so (reports ++ Solution Optimal lines ∷ []) (cards ++ []) None (record (counted s) { position = s.position + 1 }) more ending
      (stepped (Prints (Solution Optimal lines)) (record (counted s) { position = s.position + 1 }) before shown.step) rest)

is_run : (bytes : List ℕ) (reports : List Report) (ending : Ending) → IsAttestableRun bytes reports ending →
    (cards : List (List ℕ)) × IsJobRun linear_programming bytes reports cards ending
is_run bytes _ _ (of_cards fault is) = ([], card_fault fault is)
is_run bytes _ _ (of_control fault none is) = ([], control_fault fault none is)
is_run bytes _ _ (of_program program reports ending is_program runs) =
    let own = runs_so program (job_decks program bytes) [] [] None (start (job_decks program bytes)) reports ending begun runs in
    (own.0, run program is_program own.1)

-- ---- jobs

pub only_end : (ending : Ending) → is_open_stop (ending_text ending) ≡ false → closes (first_walker [] (listing [] ending)) ending ≡ Finds (Attested 0)
only_end ending closed = walks_on.end (first_walker [] (listing [] ending)) ending refl refl closed

is_attested : (bytes : List ℕ) (reports : List Report) (ending : Ending) → IsAttestableRun bytes reports ending → is_open_stop (ending_text ending) ≡ false →
    EndsIn checker_of_128_bits bytes (listing reports ending) (Attested (length reports))
is_attested bytes _ _ (of_cards fault is) closed = ends_by_cards fault is (only_end (CardStop fault) closed)
is_attested bytes _ _ (of_control fault none is) closed = ends_by_control fault none is (only_end (ControlStop fault) closed)
is_attested bytes _ _ (of_program program reports ending is_program runs) closed =
    let decks = job_decks program bytes in
    let lines = listing reports ending in
    let end = attests program decks lines (first_walker decks lines) None (start decks) reports ending closed runs
    (record { like = record { opening = []; steps = []; is = refl }; is_rest = refl; waits = refl }) not_begun in
    of_walk program end.last is_program end.reaches (end.finds ∙ ap (λ (n : ℕ). Finds (Attested n)) (omega arith))

pub comes_attested : ComesAttested
comes_attested = record { runs = is_run; attested = is_attested }
