-- A machine and its waypoints where the setup's basis stays.
use Rattle.std.proofs.Common.{◌≡◌, ℕ, List, Option, None, Some, IfSome, subst}
use Rattle.problem_file.specs.Filed.{Filed}
use Rattle.listing_definitions.specs.declared.Mark.{Mark}
use Rattle.control_definitions.specs.Cells.{Cells}
use Rattle.setup_verbs.specs.Machines.{Machine}
use Rattle.setup_verbs.specs.Kept.{Setup}
use Rattle.setup_verbs.specs.Standing.{IsReady, IsSolved, IsSound}

pub solved_of : (cells : Cells) (file : Filed) (mark : Option Mark) (kept : Option Setup) (own : Mark) (setup : Setup) → mark ≡ Some own → kept ≡ Some setup →
    IfSome mark (λ m. IfSome kept (IsSolved m cells.xobj cells.xrhs file)) → IsSolved own cells.xobj cells.xrhs file setup
solved_of cells file mark kept own setup marked is h =
    subst (λ (o : Option Setup). IfSome o (IsSolved own cells.xobj cells.xrhs file)) is
    (subst (λ (m : Option Mark). IfSome m (λ n. IfSome kept (IsSolved n cells.xobj cells.xrhs file))) marked h)

module _ (cells : Cells) (file : Filed) (setup new : Setup) where
  while_marked : (mark : Option Mark) (kept : Option Setup) → kept ≡ Some setup →
      ((m : Mark) → IsSolved m cells.xobj cells.xrhs file setup → IsSolved m cells.xobj cells.xrhs file new) →
      IfSome mark (λ m. IfSome kept (IsSolved m cells.xobj cells.xrhs file)) → IfSome mark (λ m. IsSolved m cells.xobj cells.xrhs file new)
  while_marked None kept is keeps h = tt
  while_marked (Some mark) kept is keeps h = keeps mark (subst (λ (o : Option Setup). IfSome o (IsSolved mark cells.xobj cells.xrhs file)) is h)

module _ (cards : List (List ℕ)) (old : Machine) (setup new : Setup) (ready : IsReady old.file new) (s : IsSound cards old) where
  -- the mark stays
  pub sound_kept : old.setup ≡ Some setup →
      ((m : Mark) → IsSolved m old.cells.xobj old.cells.xrhs old.file setup → IsSolved m old.cells.xobj old.cells.xrhs old.file new) →
      IsSound cards (record old { setup = Some new })
  sound_kept is keeps =
      record {
        first = s.first;
        last = s.last;
        demands = s.demands;
        ready = ready;
        solved = while_marked old.cells old.file setup new old.mark old.setup is
            keeps s.solved;
      }
