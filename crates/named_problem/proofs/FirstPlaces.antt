-- The number of a name by the place at which it stands.
use Rattle.std.proofs.Common.{◌≡◌, ℕ, zero, suc, ◌+◌, true, false, cond, not, ◌||◌, List, [], ◌∷◌, Some, ap, sym, ◌∙◌, arith}
use Rattle.std.specs.List.{slice_get, position_or_len, IsDistinct, AllByRecursion}
use Rattle.std.specs.Map.{keys_of}
use Rattle.std.specs.Option.{option_map}
use Rattle.std.proofs.lemmas.Option.{slice_get-map}
use Rattle.problem_definitions.specs.Names.{Name, same, has_name, number_in}
use Rattle.problem_definitions.proofs.Names.{same_refl, same_sym, same_eq}
use Rattle.problem_definitions.proofs.Places.{number_in-is}

unlike : (first name : Name) (names : List Name) (place : ℕ) → AllByRecursion (λ other. same first other ≡ false) names → slice_get names place ≡ Some name →
    same first name ≡ false
unlike first name [] place apart at = absurd (cc at)
unlike first name (other ∷ names) zero apart at = let is : other ≡ name = cc at in ap (same first) (sym is) ∙ apart.0
unlike first name (other ∷ names) (suc place) apart at = unlike first name names place apart.1 at

first_place : (name : Name) (names : List Name) (place : ℕ) → IsDistinct same names → slice_get names place ≡ Some name →
    (has_name names name ≡ true) × (position_or_len (same name) names ≡ place)
unfolding IsDistinct
first_place name [] place distinct at = absurd (cc at)
first_place name (first ∷ names) zero distinct at =
    let is : first ≡ name = cc at in
    let own : same name first ≡ true = ap (same name) is ∙ same_refl name in
    (ap (λ b. b || has_name names name) own, ap (λ b. cond (not b) (1 + position_or_len (same name) names) 0) own)
first_place name (first ∷ names) (suc place) distinct at =
    let rest = first_place name names place distinct.1 at in
    let other : same name first ≡ false = same_sym name first ∙ unlike first name names place distinct.0 at in (
      ap (λ b. b || has_name names name) other ∙ rest.0,
      ap (λ b. cond (not b) (1 + position_or_len (same name) names) 0) other ∙ ap (λ n. 1 + n) rest.1
          ∙ omega arith,
    )

-- a name that stands at a place among different names has the number after it
pub number_at_place : {V : Type 0} (es : List (Name × V)) (place : ℕ) (found : Name) (value : V) (name : Name) → IsDistinct same (keys_of es)
    → slice_get es place ≡ Some (found, value) → same found name ≡ true
    → number_in (keys_of es) name ≡ place + 1
number_at_place es place found value name distinct at is =
    let standing : slice_get (keys_of es) place ≡ Some name =
    slice_get-map (λ e. e.0) es place ∙ ap (option_map (λ e. e.0)) at ∙ ap (λ n. Some n) (same_eq found name is) in
    let first = first_place name (keys_of es) place distinct standing in
    number_in-is (keys_of es) name first.0 ∙ ap (λ n. n + 1) first.1
