-- What a parametric run shows of the linear programs of its family, at each value of the parameter.
--     IsBestBy p z y             z is best in p, and the prices y prove it
--     IsTruePart family max part   the interval shows a best point and its dual certificate at each value in it
--     AreJoined from parts         the first interval begins at from, each other one where the last ended
--     last_end from parts          where the last interval ends
--     IsCovered parts theta        one of the intervals has theta in it
--     AreLongPast parts            each interval past the first is longer than a point
--     IsTrueEnd family max last e  how the chain ends is proved for every greater value
--     IsTrueRun family from max parts e    each interval and the end are true, and there is no gap
--     IsTrueReport                 the same of a report, which may be of a failed opening path
use Rattle.std.specs.Prelude.{◌≡◌, List, [], ◌∷◌, All, Contains}
use Rattle.exact_values.specs.Rational.{ℚ, ◌≤ℚ◌, ◌<ℚ◌}
use Rattle.lp_definitions.specs.LinearProgram.{LinearProgram, Vector, value_at}
use Rattle.lp_definitions.specs.Solutions.{IsBest, IsDualCertificate, IsCrossed, IsRay, ProvesUnbounded, IsInfeasible, IsUnbounded}
use Rattle.simplex_definitions.specs.Path.{PathEnding, EndsOptimal, EndsCrossed, EndsInfeasible, EndsUnbounded}
use Rattle.simplex_definitions.specs.Chain.{Part, ChainEnd, AtMax, UnboundedPast, InfeasiblePast, RunReport, FailedOpening, Chain, along}

-- the point is feasible, no feasible point is better, and the prices prove that
pub record IsBestBy (p : LinearProgram) (z y : Vector) : Type 0 where
  pub best : IsBest p z
  pub certificate : IsDualCertificate p z y

-- no vector is feasible, as the ray proves
pub record IsRefutedBy (p : LinearProgram) (w : Vector) : Type 0 where
  pub ray : IsRay p w
  pub infeasible : IsInfeasible p

-- for each feasible vector there is a better one, as the point and the direction prove
pub record IsUnboundedBy (p : LinearProgram) (z d : Vector) : Type 0 where
  pub proof : ProvesUnbounded p z d
  pub unbounded : IsUnbounded p

-- The interval doesn't end before it begins, nor past max. At every value theta in it, also one that is
-- too large to be printed, the activities value + theta * value_rate are a best point of the program of
-- that value, and the prices price + theta * price_rate prove it.
pub record IsTruePart (family : ℚ → LinearProgram) (max : ℚ) (part : Part) : Type 0 where
  pub forward : part.from ≤ℚ part.to
  pub within : part.to ≤ℚ max
  pub solved : (theta : ℚ) → part.from ≤ℚ theta → theta ≤ℚ part.to →
      IsBestBy (family theta) (along theta part.value part.value_rate)
      (along theta part.price part.price_rate)

-- there is no gap between two intervals
abbrev pub AreJoined : ℚ → List Part → Type 0
AreJoined from [] = Unit {0}
AreJoined from (part ∷ parts) = (part.from ≡ from) × AreJoined part.to parts

abbrev pub last_end : ℚ → List Part → ℚ
last_end from [] = from
last_end from (part ∷ parts) = last_end part.to parts

pub record IsCovered (parts : List Part) (theta : ℚ) : Type 0 where
  pub part : Part
  pub among : Contains parts part
  pub after : part.from ≤ℚ theta
  pub before : theta ≤ℚ part.to

-- the first interval may be a point
abbrev pub AreLongPast : List Part → Type 0
AreLongPast [] = Unit {0}
AreLongPast (part ∷ parts) = All (λ (later : Part). later.from <ℚ later.to) parts

-- the last interval ends at past, before max, and this is proved of every greater value
pub record IsProvedPast (max last past : ℚ) (Proved : ℚ → Type 0) : Type 0 where
  pub at_last : past ≡ last
  pub before_max : last <ℚ max
  pub proved : (theta : ℚ) → past <ℚ theta → Proved theta

-- the last interval ends at max; or it ends before, and for every greater value the point and the
-- direction prove that the program is unbounded, or the ray proves that it is infeasible
abbrev pub IsTrueEnd : (ℚ → LinearProgram) → ℚ → ℚ → ChainEnd → Type 0
IsTrueEnd family max last AtMax = last ≡ max
IsTrueEnd family max last (UnboundedPast past z d) =
    IsProvedPast max last past (λ theta. IsUnboundedBy (family theta) (value_at z) (value_at d))
IsTrueEnd family max last (InfeasiblePast past w) =
    IsProvedPast max last past (λ theta. IsRefutedBy (family theta) (value_at w))

pub record IsTrueRun (family : ℚ → LinearProgram) (from max : ℚ) (parts : List Part) (end : ChainEnd) :
    Type 0 where
  pub intervals : All (IsTruePart family max) parts
  pub joined : AreJoined from parts
  pub covered : (theta : ℚ) → from ≤ℚ theta → theta ≤ℚ last_end from parts → IsCovered parts theta
  pub long : AreLongPast parts
  pub closes : IsTrueEnd family max (last_end from parts) end

-- a failed opening reports the verdict on the program of the first value
abbrev pub IsTrueFailure : LinearProgram → PathEnding → Type 0
IsTrueFailure p (EndsOptimal z y) = ⊥
IsTrueFailure p (EndsCrossed k) = IsCrossed p k × IsInfeasible p
IsTrueFailure p (EndsInfeasible w) = IsRefutedBy p (value_at w)
IsTrueFailure p (EndsUnbounded z d) = IsUnboundedBy p (value_at z) (value_at d)

abbrev pub IsTrueReport : (ℚ → LinearProgram) → ℚ → ℚ → RunReport → Type 0
IsTrueReport family from max (FailedOpening ending) = IsTrueFailure (family from) ending
IsTrueReport family from max (Chain parts end) = IsTrueRun family from max parts end
