-- Intervals that bounds on products make.
--     Meets b x                    x times the slope of the bound is at most its number, or at least
--     is_high b                    the bound keeps x below an end, and not above one
--     end_of b                     that end
--     IsOnSide high end x          x is at most the end, or at least
--     IsBetweenEnds ends x         x lies between the ends that are there
--     IsRefused b refused          the quotient of the bound is refused
--     IsTightened ends b now       between the ends now lie those between the earlier ones that meet b, and each end is an earlier one
--                                  or that of b
use Rattle.std.specs.Prelude.{◌≡◌, ◌↔◌, ◌⊎◌, Bool, true, false, not, Option, Some, IfSome, if◌then◌else◌, IsTrue}
use Rattle.exact_values.specs.Rational.{ℚ, zero_ℚ, ◌*ℚ◌, ◌/ℚ◌, ◌≤ℚ◌}
use Rattle.exact_values.specs.Tests.{lt_ℚ}
use Rattle.frac128.specs.Operations.{refuses}
use Rattle.frac128.specs.declared.Op.TheVariants.{Div}
use Rattle.frac128.specs.declared.Refused.{Refused}
use Rattle.affine_laws.specs.declared.tightening.ProductBound.{ProductBound}
use Rattle.affine_laws.specs.declared.tightening.Endpoint.{Endpoint}
use Rattle.affine_laws.specs.declared.tightening.Ends.{Ends}

abbrev pub MeetsBy : Bool → ℚ → ℚ → Type 0
MeetsBy true product number = product ≤ℚ number
MeetsBy false product number = number ≤ℚ product

abbrev pub Meets : ProductBound → ℚ → Type 0
Meets b x = MeetsBy b.at_most (x *ℚ b.slope) b.number

-- by a positive slope the greatest product has the greatest factor, by a negative one the least
abbrev pub is_high : ProductBound → Bool
is_high b = if lt_ℚ zero_ℚ b.slope then b.at_most else not b.at_most

abbrev pub end_of : ProductBound → Endpoint
end_of b = record { value = b.number /ℚ b.slope; by = b.by; which = b.which }

abbrev pub IsOnSide : Bool → ℚ → ℚ → Type 0
IsOnSide true end x = x ≤ℚ end
IsOnSide false end x = end ≤ℚ x

-- an end that is not there is no bound
abbrev pub IsBefore : Bool → Option Endpoint → ℚ → Type 0
IsBefore high end x = IfSome end (λ e. IsOnSide high e.value x)

abbrev pub IsBetweenEnds : Ends → ℚ → Type 0
IsBetweenEnds ends x = IsBefore false ends.low x × IsBefore true ends.high x

abbrev pub IsEither : ProductBound → Option Endpoint → Option Endpoint → Type 0
IsEither b before now = (now ≡ before) ⊎ (now ≡ Some (end_of b))

-- an end that keeps x where the earlier one and the bound do
pub record IsNearer (high : Bool) (b : ProductBound) (before now : Option Endpoint) : Type 0 where
  pub exact : (x : ℚ) → IsBefore high now x ↔ (IsBefore high before x × Meets b x)
  pub either : IsEither b before now

pub record IsTightened (ends : Ends) (b : ProductBound) (now : Ends) : Type 0 where
  pub exact : (x : ℚ) → IsBetweenEnds now x ↔ (IsBetweenEnds ends x × Meets b x)
  pub low : IsEither b ends.low now.low
  pub high : IsEither b ends.high now.high

pub record IsRefused (b : ProductBound) (refused : Refused) : Type 0 where
  pub is_quotient : refused ≡ record { op = Div; left = b.number; right = b.slope }
  pub decided : IsTrue (refuses Div b.number b.slope)
