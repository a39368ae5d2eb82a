-- What has the same values is a direction too, and what has the same limits allows the same statuses.
use Rattle.std.proofs.Common.{◌≡◌, ℕ, refl, sym, ◌∙◌, Option, Some, None}
use Rattle.std.specs.Prelude.{is_some, IsSome}
use Rattle.exact_values.specs.Rational.{ℚ}
use Rattle.lp_definitions.specs.LinearProgram.{Matrix, Vector, IsVariable}
use Rattle.lp_definitions.specs.Basis.{Basics, IsDirectionOf, IsAllowed}
use Rattle.lp_definitions.specs.declared.Status.{Status}
use Rattle.lp_definitions.specs.declared.Status.TheVariants.{Bs, Ll, Ul, Fr}
use Rattle.lp_laws.proofs.Equations.{KeepsEquations-same}

pub direction_same : (a : Matrix) (b : Basics) (j : ℕ) (d e : Vector) → IsVariable a j → ((k : ℕ) → IsVariable a k → e k ≡ d k) → IsDirectionOf a b j d →
    IsDirectionOf a b j e
direction_same a b j d e var same is = record {
  keeps = KeepsEquations-same a d e (λ k is_var. sym (same k is_var)) is.keeps;
  own = same j var ∙ is.own;
  others = λ k out differs. same k out.0 ∙ is.others k out differs;
}

some_like : (a b : Option ℚ) → is_some a ≡ is_some b → IsSome a → IsSome b
some_like a b e h = sym e ∙ h

pub none_like : (a b : Option ℚ) → is_some a ≡ is_some b → a ≡ None → b ≡ None
none_like a None e none = refl
none_like None (Some y) e none = cc
none_like (Some x) (Some y) e none = cc

pub allowed_like : (st : Status) (a b c d : Option ℚ) → is_some a ≡ is_some c → is_some b ≡ is_some d → IsAllowed st a b → IsAllowed st c d
allowed_like Bs a b c d low high h = tt
allowed_like Ll a b c d low high h = some_like a c low h
allowed_like Ul a b c d low high h = some_like b d high h
allowed_like Fr a b c d low high h = (none_like a c low h.0, none_like b d high h.1)
