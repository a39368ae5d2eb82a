-- A machine stays sound where its setup goes on.
use Rattle.std.proofs.Common.{◌≡◌, ℕ, List, Option, None, Some, IfSome, sym, subst}
use Rattle.problem_file.specs.Filed.{Filed}
use Rattle.listing_definitions.specs.declared.Mark.{Mark}
use Rattle.control_definitions.specs.Cells.{Cells}
use Rattle.run_machine.specs.declared.finding.Finding.{Finding}
use Rattle.run_machine.specs.declared.finding.Finding.TheVariants.{Refused, Overflow, WrongPrices, Limit, Ended, Printed, RanThrough}
use Rattle.setup_verbs.specs.Machines.{Machine}
use Rattle.setup_verbs.specs.Kept.{Setup}
use Rattle.run_machine.specs.Standing.{AreDemands}
use Rattle.setup_verbs.specs.Standing.{IsReady, IsSolved, IsSound}
use Rattle.run_machine.specs.Findings.{IfEnded, mark_left}
use Rattle.solving_verbs.specs.ParametricVerbs.{cells_left}

module _ (cells : Cells) (file : Filed) (setup new : Setup) where
  after_finding : (finding : Finding) → IfEnded finding (λ m. IsSolved m cells.xobj cells.xrhs file new) →
      IfSome (mark_left finding) (λ m. IsSolved m cells.xobj cells.xrhs file new)
  after_finding (Ended own) ends = ends
  after_finding (Refused fault) ends = tt
  after_finding (Overflow e place) ends = tt
  after_finding (WrongPrices variable) ends = tt
  after_finding Limit ends = tt
  after_finding Printed ends = tt
  after_finding (RanThrough value) ends = tt

module _ (cards : List (List ℕ)) (old : Machine) (setup new : Setup) (ready : IsReady old.file new) (s : IsSound cards old) where
  -- there is none
  pub sound_cleared : IsSound cards (record old { setup = Some new; mark = None })
  sound_cleared = record { first = s.first; last = s.last; demands = s.demands; ready = ready; solved = tt }

  -- there is none, and a run may have left its last value
  demands_left : (finding : Finding) → AreDemands (cells_left finding old.cells)
  demands_left (Refused fault) = s.demands
  demands_left (Overflow e place) = s.demands
  demands_left (WrongPrices variable) = s.demands
  demands_left Limit = s.demands
  demands_left (Ended mark) = s.demands
  demands_left Printed = s.demands
  demands_left (RanThrough value) = record { infeasible = s.demands.infeasible; unbounded = s.demands.unbounded }

  pub sound_run_through : (finding : Finding) (cells : Cells) → cells ≡ cells_left finding old.cells →
      IsSound cards (record old { setup = Some new; mark = None; cells = cells })
  sound_run_through finding cells e =
      record { first = s.first; last = s.last; demands = subst AreDemands (sym e) (demands_left finding); ready = ready; solved = tt }

  -- it is that of a finding
  pub sound_found : (finding : Finding) (mark : Option Mark) → mark ≡ mark_left finding →
      IfEnded finding (λ m. IsSolved m old.cells.xobj old.cells.xrhs old.file new) → IsSound cards (record old { setup = Some new; mark = mark })
  sound_found finding mark left ends = record {
    first = s.first;
    last = s.last;
    demands = s.demands;
    ready = ready;
    solved =
        subst (λ (m : Option Mark). IfSome m (λ n. IsSolved n old.cells.xobj old.cells.xrhs old.file new)) (sym left)
        (after_finding old.cells old.file setup new finding ends);
  }
