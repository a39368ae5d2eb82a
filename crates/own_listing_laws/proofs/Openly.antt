-- RANGE, PUNCH and INSERT are open, and so are the stops of INSERT.
use Rattle.std.proofs.Common.{◌≡◌, ℕ, ◌+◌, ◌≤◌, Bool, true, List, length, Option, Some, None, sym, ap, ◌∙◌, arith}
use Rattle.std.specs.Prelude.{min}
use Rattle.std.specs.Option.{option_or}
use Rattle.lp_definitions.specs.LinearProgram.{LinearProgram, size, numbers_from}
use Rattle.lp_definitions.specs.Basis.{is_basic, status_of}
use Rattle.lp_laws.proofs.Opening.{length-numbers_from}
use Rattle.walk_definitions.specs.Checkers.{Checker}
use Rattle.walk_definitions.specs.Words.{max_count}
use Rattle.own_listing_laws.proofs.Counted.{filter_short}
use Rattle.card_definitions.specs.Cards.{Card, live}
use Rattle.deck_definitions.specs.Conversion.{deck_name}
use Rattle.basis_deck_definitions.specs.Writing.{basic_columns}
use Rattle.listing_definitions.specs.Report.{RangeLines, BasisOut, Ranges}
use Rattle.problem_definitions.specs.Names.{Name}
use Rattle.question_definitions.specs.Solving.{IsRight}
use Rattle.answer_definitions.specs.Real.{linear_programming}
use Rattle.question_definitions.specs.Answers.{Basis, Sheet, OfRanges, OfPunch, OfInstall, InstallEnd, Installed, DependsBy}
use Rattle.run_definitions.specs.State.{Present, present_basis, path_of, State}
use Rattle.run_definitions.specs.Moves.{Prints, Punches, StatementOutcome, InAnswer, Asks, next}
use Rattle.run_definitions.specs.Verbs.{asks, max_counted, after_install}
use Rattle.run_definitions.specs.Run.{counted}
use Rattle.walk_definitions.specs.Forms.{is_open_stop, is_ranges, is_punched, is_inserted}
use Rattle.walk_definitions.specs.Walker.{Walker, Found, open_if, open_stop, open_pending, open_question, answered}
use Rattle.walk_definitions.specs.Reading.{judged}
use Rattle.own_listing_laws.proofs.Stops.{ranges_stand, punched_stands, inserted_stands, open_singular}
use Rattle.own_listing_laws.proofs.Pace.{rebased, Lands, RefusesTest, IsFollowed, IsDue, may_stop, asked_lands, never_stopped}

-- what stands there is open
stands_open : (w : Walker) (b : Bool) (o : Option Found) → b ≡ true → option_or (open_stop w) (option_or (open_if b w) o) ≡ None → ⊥
stands_open w b o is none = by (open_stop w) (ap (λ c. option_or (open_stop w) (option_or (open_if c w) o)) (sym is) ∙ none)
  where
    by : (first : Option Found) → option_or first (option_or (open_if true w) o) ≡ None → ⊥
    by None e = cc e
    by (Some found) e = cc e

alone_open : (w : Walker) (b : Bool) → b ≡ true → option_or (open_stop w) (open_if b w) ≡ None → ⊥
alone_open w b is none = by (open_stop w) (ap (λ c. option_or (open_stop w) (open_if c w)) (sym is) ∙ none)
  where
    by : (first : Option Found) → option_or first (open_if true w) ≡ None → ⊥
    by None e = cc e
    by (Some found) e = cc e

module _ (C : Checker) (w : Walker) (s : State) (opening : Basis) (steps : List Basis) (card : ℕ) (present : Present) (lp : LinearProgram) where
  abbrev sheet : Sheet
  sheet = record { problem = present.problem; lp = lp }

  abbrev walked : State
  walked = record s { setup = rebased opening steps s.setup }

  abbrev set_up : Present
  set_up = record present { opening = opening; steps = steps }

  abbrev ranges_at : State → RangeLines → StatementOutcome
  ranges_at state lines = next (Prints (Ranges lines)) (counted state)

  pub ranges_followed : IsFollowed C w card (asks OfRanges sheet set_up (ranges_at walked)) (asks OfRanges sheet present (ranges_at s))
  ranges_followed =
      may_stop C w card (Asks OfRanges sheet (present_basis set_up) (ranges_at walked)) (Asks OfRanges sheet (present_basis present) (ranges_at s))
      (InAnswer OfRanges sheet (path_of set_up)) (InAnswer OfRanges sheet (path_of present)) tt
      (asked_lands C w card OfRanges sheet (present_basis set_up) (present_basis present) (ranges_at walked) (ranges_at s)
      (λ small answer more right given none. absurd (alone_open w (is_ranges w.rest) (ap is_ranges given.text ∙ ranges_stand answer more) none)))

  abbrev punch_at : State → List (List ℕ) → StatementOutcome
  punch_at state cards = next (Punches (BasisOut present.problem.name (min (length cards) max_counted)) cards) (counted state)

  least_count : (n : ℕ) → min n 4294967295 ≤ 4294967295
  least_count n = omega arith

  pub punch_followed : IsFollowed C w card (Asks OfPunch sheet (present_basis set_up) (punch_at walked)) (Asks OfPunch sheet (present_basis present)
      (punch_at s))
  punch_followed =
      asked_lands C w card OfPunch sheet (present_basis set_up) (present_basis present) (punch_at walked) (punch_at s) (λ small answer more right given none.
      absurd (alone_open w (is_punched present.problem.name w.rest)
      (ap (is_punched present.problem.name) given.text
      ∙ punched_stands present.problem.name (min (length answer) max_counted) more (least_count (length answer))) none))

  module _ (t : Basis) (taken : List Card × List (List Card)) (few : size lp.matrix ≤ max_count) where
    abbrev install_go : InstallEnd → StatementOutcome
    install_go = after_install card lp t taken set_up (counted walked)

    abbrev install_own : InstallEnd → StatementOutcome
    install_own = after_install card lp t taken present (counted s)

    pub install_followed : IsFollowed C w card (asks (OfInstall t) sheet set_up install_go) (asks (OfInstall t) sheet present install_own)
    install_followed =
        may_stop C w card (Asks (OfInstall t) sheet (present_basis set_up) install_go) (Asks (OfInstall t) sheet (present_basis present) install_own)
        (InAnswer (OfInstall t) sheet (path_of set_up)) (InAnswer (OfInstall t) sheet (path_of present)) tt
        (asked_lands C w card (OfInstall t) sheet (present_basis set_up) (present_basis present) install_go install_own lands)
      where
        few_basic : length (basic_columns lp t) ≤ max_count
        few_basic =
            let short = filter_short (λ k. is_basic (status_of t k)) (numbers_from (lp.rows + 1) lp.cols) in
            let counted : length (numbers_from (lp.rows + 1) lp.cols) ≡ lp.cols = length-numbers_from (lp.rows + 1) lp.cols in
            omega (arith, short, counted, few)

        name : Name
        name = deck_name (live taken.0)

        lands : card ≤ max_count → (answer : InstallEnd) (more : List ℕ) → IsRight linear_programming (OfInstall t) sheet (present_basis present) answer →
            IsDue w (install_own answer) more → open_question w (OfInstall t) sheet install_go ≡ None →
            Lands (RefusesTest C w) (install_own answer) more
            (answered C w (OfInstall t) sheet install_go (judged C (OfInstall t) sheet w.rest))
        lands small Installed more right given none =
            absurd (stands_open w (is_inserted name w.rest) (open_pending w)
            (ap (is_inserted name) given.text ∙ inserted_stands name (length (basic_columns lp t)) more few_basic) none)
        lands small (DependsBy lines) more right given none =
            absurd (never_stopped C w card (OfInstall t) sheet (present_basis set_up) (present_basis present) install_go install_own none
            (ap is_open_stop (given.text ∙ given.ends) ∙ open_singular _ small))
