use Rattle.std.proofs.Common.{◌≡◌, take}
use Rattle.lp_setup.specs.Parts.{limits_of_rows, AreRowsMade}
use Rattle.lp_setup.proofs.parts.limits_by_row.Given as goal

-- the limits of the rows so far are there, and all sums that they take are made
abbrev pub invariant-loop-place : goal.invariant-loop-place
invariant-loop-place l = (l.limits.items ≡ take l.place (limits_of_rows l.rows l.sides l.ranges)) × AreRowsMade l.rows l.sides l.ranges l.place
