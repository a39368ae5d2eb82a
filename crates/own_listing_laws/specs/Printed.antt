-- What a run prints of the variables of a linear program.
--     IsReadable solver verdict    the verb may say this
--     IsPrinted sheet verdict      the lines are those of a ray, or of a point and a direction; and the count of steps has 32 bits
use Rattle.std.specs.Prelude.{◌≡◌, ℕ, ◌<◌, ◌≤◌, List}
use Rattle.exact_values.specs.Rational.{ℚ}
use Rattle.lp_definitions.specs.LinearProgram.{size}
use Rattle.listing_definitions.specs.declared.Solver.{Solver}
use Rattle.listing_definitions.specs.declared.Solver.TheVariants.{Primal, Dual, Paraobj, Pararhs}
use Rattle.listing_definitions.specs.Report.{Line, PathVerdict, OptimalAt, CrossedAt, InfeasibleBy, UnboundedBy, ChainEnd, EndsAt, UnboundedPast}
use Rattle.listing_definitions.specs.Report.{InfeasiblePast}
use Rattle.question_definitions.specs.Answers.{Sheet}
use Rattle.answer_definitions.specs.Lines.{pair_lines, ray_lines}
use Rattle.walk_definitions.specs.Words.{max_count}

-- DUAL never finds that there is no best point; a parametric opening that is reported isn't optimal
abbrev pub IsReadable : Solver → PathVerdict → Type 0
IsReadable Primal verdict = Unit {0}
IsReadable Dual (UnboundedBy steps objective lines) = ⊥
IsReadable Dual verdict = Unit {0}
IsReadable solver (OptimalAt steps objective) = ⊥
IsReadable solver verdict = Unit {0}

pub record IsRayOf (sheet : Sheet) (steps : ℕ) (lines : List Line) : Type 0 where
  pub small : steps ≤ max_count
  pub ray : List ℚ
  pub are_lines : lines ≡ ray_lines sheet ray

pub record IsPairOf (sheet : Sheet) (steps : ℕ) (lines : List Line) : Type 0 where
  pub small : steps ≤ max_count
  pub point : List ℚ
  pub direction : List ℚ
  pub are_lines : lines ≡ pair_lines sheet point direction

abbrev pub IsPrinted : Sheet → PathVerdict → Type 0
IsPrinted sheet (OptimalAt steps objective) = steps ≤ max_count
IsPrinted sheet (CrossedAt k) = (0 < k) × (k ≤ size sheet.lp.matrix)
IsPrinted sheet (InfeasibleBy steps lines) = IsRayOf sheet steps lines
IsPrinted sheet (UnboundedBy steps objective lines) = IsPairOf sheet steps lines

-- A run ends at its last value; or the objective grows on past it, along a direction; or nothing is feasible past it, by a ray.
pub data IsEndOf (sheet : Sheet) : Solver → ChainEnd → Type 0 where
  of_end : {solver : Solver} (t : ℚ) → IsEndOf sheet solver (EndsAt t)
  of_direction : (t : ℚ) (point direction : List ℚ) → IsEndOf sheet Paraobj (UnboundedPast t (pair_lines sheet point direction))
  of_ray : (t : ℚ) (ray : List ℚ) → IsEndOf sheet Pararhs (InfeasiblePast t (ray_lines sheet ray))
