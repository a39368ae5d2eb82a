-- Conditions on one number, each that an affine function of it is at least 0.
--     Condition                    the function constant + x slope
--     value c x, Holds c x         its value at x; that it is at least 0 there
--     zero_of c                    where it is 0, if its slope is not 0
--     AllHold cs x                 all conditions of a list hold at x
--     Falling cs P, Rising cs P    P of each condition of the list whose function falls, or rises
--     reach_of max cs              the least of max and of the zeros of the falling functions
--     IsReach cs from max to       to is the greatest number up to max at which all hold, and they do from `from` on
use Rattle.std.specs.Prelude.{◌≡◌, ◌&&◌, ◌⊎◌, List, [], ◌∷◌, All, Contains, if◌then◌else◌}
use Rattle.exact_values.specs.Rational.{ℚ, zero_ℚ, neg_ℚ, ◌+ℚ◌, ◌*ℚ◌, ◌/ℚ◌, ◌≤ℚ◌, ◌<ℚ◌}
use Rattle.exact_values.specs.Tests.{lt_ℚ}

pub record Condition : Type 0 where
  pub constant : ℚ
  pub slope : ℚ

abbrev pub value : Condition → ℚ → ℚ
value c x = c.constant +ℚ x *ℚ c.slope

abbrev pub Holds : Condition → ℚ → Type 0
Holds c x = zero_ℚ ≤ℚ value c x

abbrev pub zero_of : Condition → ℚ
zero_of c = neg_ℚ c.constant /ℚ c.slope

abbrev pub AllHold : List Condition → ℚ → Type 0
AllHold cs x = All (λ c. Holds c x) cs

-- of each whose function falls as x rises
abbrev pub Falling : List Condition → (Condition → Type 0) → Type 0
Falling cs P = All (λ c. c.slope <ℚ zero_ℚ → P c) cs

-- of each whose function rises with x
abbrev pub Rising : List Condition → (Condition → Type 0) → Type 0
Rising cs P = All (λ c. zero_ℚ <ℚ c.slope → P c) cs

-- the zero of c, if its function falls and its zero is below to
abbrev pub nearer : Condition → ℚ → ℚ
nearer c to = if lt_ℚ c.slope zero_ℚ && lt_ℚ (zero_of c) to then zero_of c else to

abbrev pub reach_of : ℚ → List Condition → ℚ
reach_of max [] = max
reach_of max (c ∷ cs) = nearer c (reach_of max cs)

-- the function falls, and is 0 at x
pub record EndsAt (x : ℚ) (c : Condition) : Type 0 where
  pub falls : c.slope <ℚ zero_ℚ
  pub is_zero : value c x ≡ zero_ℚ

-- some condition of the list ends at x
pub record SomeEndsAt (cs : List Condition) (x : ℚ) : Type 0 where
  pub condition : Condition
  pub among : Contains cs condition
  pub ends : EndsAt x condition

pub record IsReach (cs : List Condition) (from max to : ℚ) : Type 0 where
  pub forward : from ≤ℚ to
  pub at_most : to ≤ℚ max
  pub holds : (x : ℚ) → from ≤ℚ x → x ≤ℚ to → AllHold cs x
  pub greatest : (x : ℚ) → x ≤ℚ max → AllHold cs x → x ≤ℚ to
  pub ended : (to ≡ max) ⊎ SomeEndsAt cs to
