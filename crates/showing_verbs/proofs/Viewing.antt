-- What SOLUTION and RANGE come to by what they show.
use Rattle.std.proofs.Common.{◌≡◌, ℕ, List, [], Option, None, Some, Ok, Err, refl, sym, ap, subst, ◌∙◌}
use Rattle.job_devices.specs.States.{SinkState}
use Rattle.problem_definitions.specs.Problem.{Problem}
use Rattle.problem_file.specs.Filed.{filed_under}
use Rattle.selection_definitions.specs.Selection.{selected}
use Rattle.listing_definitions.specs.declared.Mark.{Mark}
use Rattle.listing_definitions.specs.declared.Mark.TheVariants.{Optimal, Infeasible, Unbounded}
use Rattle.listing_definitions.specs.declared.VerbFault.{VerbFault}
use Rattle.listing_definitions.specs.declared.VerbFault.TheVariants as verb_fault
use Rattle.run_definitions.specs.State.{State, choice_of}
use Rattle.run_definitions.specs.Moves.{Gain, punched_by}
use Rattle.run_machine.specs.declared.act.Act.{Act}
use Rattle.run_machine.specs.declared.act.Halt.{Halt}
use Rattle.run_machine.specs.declared.finding.Finding.{Finding}
use Rattle.run_machine.specs.declared.selecting.Refusal.TheVariants.{Fault}
use Rattle.run_machine.specs.Choosing.{refused_act}
use Rattle.run_machine.specs.Findings.{ReportsFinding, act_of}
use Rattle.fitting_answers.specs.Real.{linear_programming_of_128_bits}
use Rattle.setup_verbs.specs.Machines.{Machine}
use Rattle.setup_verbs.specs.Kept.{Setup}
use Rattle.setup_verbs.specs.Standing.{Represents}
use Rattle.setup_verbs.specs.Statements.{LeadsTo, Executes}
use Rattle.setup_verbs.proofs.Reporting.{reported_executes, cut_executes}
use Rattle.showing_verbs.specs.declared.present.ShowingVerb.{ShowingVerb}
use Rattle.showing_verbs.specs.declared.present.ShowingVerb.TheVariants as verbs
use Rattle.showing_verbs.specs.declared.present.View.{View}
use Rattle.showing_verbs.specs.declared.present.View.TheVariants.{Lines, Intervals}
use Rattle.showing_verbs.specs.Shown.{IsSameSetup, viewed, overflows, ranged, stopped, Shows, verb_of, view_of}
use Rattle.showing_verbs.proofs.Showing.{solution_no_setup, solution_not_solved, reported_comes}
use Rattle.showing_verbs.proofs.Ranging.{same_fault, ranges_no_setup, ranges_refused, ranged_comes}

-- ---- what a verb shows, by the mark

pub data IsViewed (mark : Option Mark) : ShowingVerb → View → Type 0 where
  lines : {own : Mark} → mark ≡ Some own → IsViewed mark verbs.Solution (Lines own)
  intervals : mark ≡ Some Optimal → IsViewed mark verbs.Ranging Intervals

pub viewed_by : (verb : ShowingVerb) (mark : Option Mark) (view : View) → view_of verb mark ≡ Ok view → IsViewed mark verb view
viewed_by verbs.Solution None view e = absurd (cc e)
viewed_by verbs.Solution (Some own) (Lines other) e = let same : own ≡ other = cc e in lines (ap (λ (m : Mark). Some m) same)
viewed_by verbs.Solution (Some own) Intervals e = absurd (cc e)
viewed_by verbs.Ranging None view e = absurd (cc e)
viewed_by verbs.Ranging (Some Optimal) (Lines other) e = absurd (cc e)
viewed_by verbs.Ranging (Some Optimal) Intervals e = intervals refl
viewed_by verbs.Ranging (Some Infeasible) view e = absurd (cc e)
viewed_by verbs.Ranging (Some Unbounded) view e = absurd (cc e)

pub own_mark : {mark : Option Mark} {verb : ShowingVerb} {view : View} → IsViewed mark verb view → (own : Mark) × (mark ≡ Some own)
own_mark (lines {own = own} is) = (own, is)
own_mark (intervals is) = (Optimal, is)

-- intervals are those of an optimal basis
pub is_optimal : {mark : Option Mark} {verb : ShowingVerb} {view : View} → IsViewed mark verb view → view ≡ Intervals → mark ≡ Some Optimal
is_optimal (lines is) e = absurd (cc e)
is_optimal (intervals is) e = is

no_cards_by : (view : View) (problem : Problem ℕ) (setup : Setup) (gain : Gain) (finding : Finding) → Shows view problem setup gain finding →
    punched_by gain ≡ []
no_cards_by (Lines mark) problem setup _ _ (viewed h fit) = refl
no_cards_by (Lines mark) problem setup _ _ (overflows h fit) = refl
no_cards_by Intervals problem setup _ _ (ranged h) = refl
no_cards_by Intervals problem setup _ _ (stopped h fit) = refl

-- ---- the statement

pub showing_no_setup : (verb : ShowingVerb) (card : ℕ) (cards : List (List ℕ)) (machine : Machine) (print : SinkState) → machine.setup ≡ None →
    Executes linear_programming_of_128_bits (verb_of verb) card print print cards machine machine (refused_act card (Fault verb_fault.NoSetup))
showing_no_setup verbs.Solution card cards machine print none = solution_no_setup card cards machine print none
showing_no_setup verbs.Ranging card cards machine print none = ranges_no_setup card cards machine print none

module _ (card : ℕ) (cards : List (List ℕ)) (old : Machine) (setup : Setup) (is_setup : old.setup ≡ Some setup) (problem : Problem ℕ)
    (on_file : filed_under setup.name old.file ≡ Some problem) where
  refused_by : (verb : ShowingVerb) (mark : Option Mark) (fault : VerbFault) (print : SinkState) (any : Machine) → old.mark ≡ mark →
      view_of verb mark ≡ Err fault →
      Executes linear_programming_of_128_bits (verb_of verb) card print print cards old any (refused_act card (Fault fault))
  refused_by verbs.Solution None fault print any is e =
      subst (λ (f : VerbFault). Executes linear_programming_of_128_bits (verb_of verbs.Solution) card print print cards old any (refused_act card (Fault f)))
      (same_fault (view_of verbs.Solution None) verb_fault.NotSolved fault refl e)
      (solution_not_solved card cards old setup is_setup problem on_file print any is)
  refused_by verbs.Solution (Some own) fault print any is e = absurd (cc e)
  refused_by verbs.Ranging mark fault print any is e =
      ranges_refused card cards old setup is_setup problem on_file print any fault (ap (λ (m : Option Mark). view_of verbs.Ranging m) is ∙ e)

  pub showing_refused : (verb : ShowingVerb) (fault : VerbFault) (print : SinkState) (any : Machine) → view_of verb old.mark ≡ Err fault →
      Executes linear_programming_of_128_bits (verb_of verb) card print print cards old any (refused_act card (Fault fault))
  showing_refused verb fault print any e = refused_by verb old.mark fault print any refl e

  comes_by : {verb : ShowingVerb} {view : View} → IsViewed old.mark verb view → (new : Setup) →
      selected problem (choice_of old.cells setup.options) ≡ Ok setup.lp → IsSameSetup setup new →
      (gain : Gain) (finding : Finding) → Shows view problem setup gain finding →
      (position executed : ℕ) (state : State) → Represents cards old position executed state →
      LeadsTo linear_programming_of_128_bits (verb_of verb) card cards position executed state (record old { setup = Some new }) gain
      (act_of old.cells card finding)
  comes_by (lines {own = own} is) new ok k gain finding h position executed state s =
      reported_comes card cards old setup is_setup problem on_file position executed state s new own is ok k gain finding h
  comes_by (intervals is) new ok k gain finding h position executed state s =
      ranged_comes card cards old setup is_setup problem on_file position executed state s new is ok k gain finding h

  module _ {verb : ShowingVerb} {view : View} (shown : IsViewed old.mark verb view) (print_old print_new : SinkState) (new : Setup)
      (ok : selected problem (choice_of old.cells setup.options) ≡ Ok setup.lp) (k : IsSameSetup setup new) where
    pub showing_found : (finding : Finding) (then : Act) → then ≡ act_of old.cells card finding →
        ReportsFinding (Shows view problem setup) print_old print_new (Ok finding) →
        Executes linear_programming_of_128_bits (verb_of verb) card print_old print_new cards old (record old { setup = Some new }) (Ok then)
    showing_found finding then e t =
        subst (λ (a : Act). Executes linear_programming_of_128_bits (verb_of verb) card print_old print_new cards old (record old { setup = Some new }) (Ok a))
        (sym e)
        (reported_executes (verb_of verb) card cards old (Shows view problem setup) (λ found. record old { setup = Some new }) (act_of old.cells card)
        (no_cards_by view problem setup) (comes_by shown new ok k) print_old print_new finding t)

    pub showing_cut : (any : Machine) (h : Halt) → ReportsFinding (Shows view problem setup) print_old print_new (Err h) →
        Executes linear_programming_of_128_bits (verb_of verb) card print_old print_new cards old any (Err h)
    showing_cut any h t =
        cut_executes (verb_of verb) card cards old (Shows view problem setup) (λ found. record old { setup = Some new }) (act_of old.cells card)
        (no_cards_by view problem setup) (comes_by shown new ok k) print_old print_new any h t
