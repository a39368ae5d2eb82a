use Rattle.lp_definitions.specs.LinearProgram.{Vector}
use Rattle.lp_model.specs.RatesCalls.{IsRowOf}
use Rattle.lp_model.specs.Wanted.{NoneMeets}
use Rattle.price_row.proofs.numbers.first_by_signs.Given as goal

-- none of the first rates is wanted
abbrev pub invariant-loop-place : goal.invariant-loop-place
invariant-loop-place g l = (rates : Vector) → IsRowOf l.file.matrix l.file.basics l.sought.row rates → NoneMeets l.sought.wanted.now l.sought.up rates l.place
