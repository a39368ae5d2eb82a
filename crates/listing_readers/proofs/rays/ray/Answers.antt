use Rattle.std.proofs.Common.{◌≡◌, ◌+◌, ◌-◌, ◌<◌, ◌∷◌, ◌++◌, [], ℕ, List, subst₂, ap, sym, ◌∙◌, arith, rules}
use Rattle.exact_values.specs.Rational.{ℚ}
use Rattle.lp_definitions.specs.LinearProgram.{size}
use Rattle.walk_definitions.specs.Tables.{begins_table_line}
use Rattle.listing_words.specs.Read.{sheet_view}
use Rattle.listing_claims.specs.Numbers.{number_in}
use Rattle.listing_readers.proofs.Multipliers.{IsRaySoFar, ray_begins, ray_goes_on, ray_fails, ray_ends, line_follows}
use Rattle.listing_readers.proofs.rays.ray.Goals as goal

pub loop-k-init : goal.loop-k-init
loop-k-init g c =
    let of = number_in g.T.Checks.checker c.args.by in
    let left : size c.args.sheet.lp.now.matrix ≡ size c.args.sheet.lp.now.matrix - 0 = omega arith in (
      omega arith,
      subst₂ (λ (n : ℕ) (items : List ℚ). IsRaySoFar of (sheet_view c.args.sheet) c.args.cursor.now 0 n c.args.cursor.now items) left
          (sym c.new-ray.ensures.items)
          (ray_begins of (sheet_view c.args.sheet) c.args.cursor.now),
    )

pub returns-in-Err-Absent : goal.returns-in-Err-Absent
returns-in-Err-Absent g c =
    let some : 0 < size c.args.sheet.lp.now.matrix - c.loop-k.k = omega (arith, c.loop-k-test.true, c.number_of_variables-count.ensures.size) in
    ray_fails (number_in g.T.Checks.checker c.args.by) (sheet_view c.args.sheet) c.args.cursor.now c.loop-k.k
    (size c.args.sheet.lp.now.matrix - c.loop-k.k) c.loop-k.cursor c.multiplier.new.cursor c.loop-k.ray.items c.loop-k.invariant.1 some
    (rw c.in-Err-Absent.field-0-is at c.in-Err-Absent.ensures)

pub loop-k-preserved : goal.loop-k-preserved
loop-k-preserved g c =
    let of = number_in g.T.Checks.checker c.args.by in
    let some : 0 < size c.args.sheet.lp.now.matrix - c.loop-k.k = omega (arith, c.loop-k-test.true, c.number_of_variables-count.ensures.size) in
    let pushed : c.push.new.self.items ≡ c.loop-k.ray.items ++ (c.in-Ok.value ∷ []) = search rules in
    let left : size c.args.sheet.lp.now.matrix - c.loop-k.k - 1 ≡ size c.args.sheet.lp.now.matrix - (c.loop-k.k + 1) = omega arith in (
      omega (arith, c.loop-k-test.true),
      subst₂ (λ (n : ℕ) (items : List ℚ). IsRaySoFar of (sheet_view c.args.sheet) c.args.cursor.now (c.loop-k.k + 1) n c.multiplier.new.cursor items) left
          (sym pushed)
          (ray_goes_on of (sheet_view c.args.sheet) c.args.cursor.now c.loop-k.k
          (size c.args.sheet.lp.now.matrix - c.loop-k.k) c.loop-k.cursor c.multiplier.new.cursor c.loop-k.ray.items c.in-Ok.value
          c.loop-k.invariant.1 some c.in-Ok.ensures),
    )

pub returns-then-begins_table_line : goal.returns-then-begins_table_line
returns-then-begins_table_line g c =
    let over : size c.args.sheet.lp.now.matrix - c.loop-k.k ≡ 0 = omega (arith, c.loop-k-test.false, c.number_of_variables-count.ensures.size) in
    line_follows (number_in g.T.Checks.checker c.args.by) (sheet_view c.args.sheet) c.args.cursor.now c.loop-k.k
    (size c.args.sheet.lp.now.matrix - c.loop-k.k) c.loop-k.cursor c.loop-k.ray.items c.loop-k.invariant.1 over
    (ap begins_table_line (sym c.rest.ensures) ∙ sym c.begins_table_line.ensures ∙ c.if-begins_table_line.true)

pub returns : goal.returns
returns g c =
    let all : c.loop-k.k ≡ size c.args.sheet.lp.now.matrix =
    omega (arith, c.loop-k-test.false, c.loop-k.invariant.0, c.number_of_variables-count.ensures.size) in
    let over : size c.args.sheet.lp.now.matrix - c.loop-k.k ≡ 0 = omega (arith, c.loop-k-test.false, c.number_of_variables-count.ensures.size) in
    ray_ends (number_in g.T.Checks.checker c.args.by) (sheet_view c.args.sheet) c.args.cursor.now c.loop-k.k
    (size c.args.sheet.lp.now.matrix - c.loop-k.k) c.loop-k.cursor c.loop-k.ray.items c.loop-k.invariant.1 all over
    (ap begins_table_line (sym c.rest.ensures) ∙ sym c.begins_table_line.ensures ∙ c.if-begins_table_line.false)
