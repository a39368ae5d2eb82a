use Rattle.std.proofs.Common.{◌≡◌, length}
use Rattle.lp_definitions.specs.LinearProgram.{size}
use Rattle.price_row.specs.Known.{IsFilledTo}
use Rattle.price_row.proofs.numbers.fill_by_numbers.Given as goal

-- the first places are filled
abbrev pub invariant-loop-place : goal.invariant-loop-place
invariant-loop-place g l = record {
  counted : length l.out ≡ size l.file.matrix;
  filled : IsFilledTo l.file l.place l.row l.out;
}
