use Rattle.lp_definitions.specs.Basis.{IsBasis}
use Rattle.solver_tests.proofs.engines.placed.Given as goal

-- what stands so far is a basis
abbrev pub invariant-loop-r : goal.invariant-loop-r
invariant-loop-r l = IsBasis l.lp l.basis
