use Rattle.std.proofs.Common.{take}
use Rattle.selection_definitions.specs.Combinations.{part_products}
use Rattle.lp_setup.specs.Combined.{IsTotal}
use Rattle.lp_setup.proofs.combined.sum_of_parts.Given as goal

-- the parts so far come to this
abbrev pub invariant-loop-part : goal.invariant-loop-part
invariant-loop-part l = IsTotal (part_products (take l.part-index l.parts) l.values) l.total
