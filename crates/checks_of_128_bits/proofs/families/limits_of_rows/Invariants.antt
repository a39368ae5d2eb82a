use Rattle.std.proofs.Common.{◌≡◌, map}
use Rattle.lp_definitions.specs.LinearProgram.{numbers_from}
use Rattle.certificate_check.proofs.Each.{EachLeft}
use Rattle.listing_words.specs.Read.{sheet_view}
use Rattle.checks_of_128_bits.specs.Making.{row_steps, low_at, high_at}
use Rattle.checks_of_128_bits.proofs.families.limits_of_rows.Given as goal

-- the limits of the rows so far are made
abbrev pub invariant-loop-i : goal.invariant-loop-i
invariant-loop-i l = record {
  lower : l.lower.items ≡ map (low_at l.sheet.lp.now l.shift l.theta) (numbers_from 1 l.i);
  upper : l.upper.items ≡ map (high_at l.sheet.lp.now l.shift l.theta) (numbers_from 1 l.i);
  left : EachLeft (row_steps (sheet_view l.sheet) l.shift l.theta) l.sheet.lp.now.rows l.i;
}
