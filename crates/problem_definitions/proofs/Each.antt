-- Facts of each element of a list, and lists without two alike.
use Rattle.std.proofs.Common.{◌≡◌, zero, suc, ◌<◌, Bool, true, false, ◌||◌, List, [], ◌∷◌, ◌++◌, length, map, refl, ap₂, ◌∙◌, arith}
use Rattle.std.specs.List.{All, AllByRecursion, IsDistinct}
use Rattle.problem_definitions.specs.Names.{Name, same, has_name}
use Rattle.problem_definitions.proofs.Names.{same_sym}

module _ {X : Type 0} where
  pub each-push : (P : X → Type 0) (xs : List X) (x : X) → AllByRecursion P xs → P x → AllByRecursion P (xs ++ x ∷ [])
  each-push P [] x each last = (last, tt)
  each-push P (y ∷ xs) x each last = (each.0, each-push P xs x each.1 last)

  pub each-append : (P : X → Type 0) (xs ys : List X) → AllByRecursion P xs → AllByRecursion P ys → AllByRecursion P (xs ++ ys)
  each-append P [] ys each also = also
  each-append P (x ∷ xs) ys each also = (each.0, each-append P xs ys each.1 also)

  pub each-change : (P Q : X → Type 0) → ((x : X) → P x → Q x) → (xs : List X) → AllByRecursion P xs → AllByRecursion Q xs
  each-change P Q change [] each = tt
  each-change P Q change (x ∷ xs) each = (change x each.0, each-change P Q change xs each.1)

  pub each-all : (P : X → Type 0) (xs : List X) → AllByRecursion P xs → All P xs
  each-all P [] each k d below = absurd (omega arith)
  each-all P (x ∷ xs) each zero d below = each.0
  each-all P (x ∷ xs) each (suc k) d below = let inner : k < length xs = omega arith in each-all P xs each.1 k d inner

  -- one more element that is like none of those before
  pub distinct-push : (e : X → X → Bool) (xs : List X) (x : X) → IsDistinct e xs → AllByRecursion (λ y. e y x ≡ false) xs → IsDistinct e (xs ++ x ∷ [])
  unfolding IsDistinct
  distinct-push e [] x distinct apart = (tt, tt)
  distinct-push e (y ∷ xs) x distinct apart = (each-push (λ z. e y z ≡ false) xs x distinct.0 apart.0, distinct-push e xs x distinct.1 apart.1)

pub each-mapped : {X Y : Type 0} (P : Y → Type 0) (f : X → Y) (xs : List X) → AllByRecursion (λ x. P (f x)) xs → AllByRecursion P (map f xs)
each-mapped P f [] each = tt
each-mapped P f (x ∷ xs) each = (each.0, each-mapped P f xs each.1)

-- a list without two alike, mapped by a function under which what was unlike stays so
pub distinct-mapped : {X Y : Type 0} (e : X → X → Bool) (h : Y → Y → Bool) (f : X → Y) (P : X → Type 0)
    → ((x y : X) → P x → P y → e x y ≡ false → h (f x) (f y) ≡ false)
    → (xs : List X) → AllByRecursion P xs → IsDistinct e xs → IsDistinct h (map f xs)
unfolding IsDistinct
distinct-mapped e h f P keeps [] each distinct = tt
distinct-mapped e h f P keeps (x ∷ xs) each distinct = (others xs each.1 distinct.0, distinct-mapped e h f P keeps xs each.1 distinct.1)
  where
    others : (ys : List _) → AllByRecursion P ys → AllByRecursion (λ y. e x y ≡ false) ys → AllByRecursion (λ y. h (f x) y ≡ false) (map f ys)
    others [] each' apart = tt
    others (y ∷ ys) each' apart = (keeps x y each.0 each'.0 apart.0, others ys each'.1 apart.1)

-- a name that isn't among others is unlike each of them
pub absent-apart : (names : List Name) (name : Name) → has_name names name ≡ false → AllByRecursion (λ other. same other name ≡ false) names
absent-apart [] name absent = tt
absent-apart (other ∷ names) name absent = by (same name other) refl absent (absent-apart names name)
  where
    by : (b : Bool) → same name other ≡ b → (b || has_name names name) ≡ false →
        (has_name names name ≡ false → AllByRecursion (λ other. same other name ≡ false) names) →
        (same other name ≡ false) × AllByRecursion (λ other. same other name ≡ false) names
    by true e h rest = absurd (cc h)
    by false e h rest = (same_sym other name ∙ e, rest h)

-- and the other way round
pub apart-absent : (names : List Name) (name : Name) → AllByRecursion (λ other. same name other ≡ false) names → has_name names name ≡ false
apart-absent [] name apart = refl
apart-absent (other ∷ names) name apart = rw apart.0 (apart-absent names name apart.1)

pub all-each : {X : Type 0} (P : X → Type 0) (xs : List X) → All P xs → AllByRecursion P xs
all-each P [] all = tt
all-each P (x ∷ xs) all =
    let first : 0 < length (x ∷ xs) = omega arith in
    (all 0 x first, all-each P xs (λ k d below. all (suc k) d (omega (arith, below))))

-- a list of elements that a function leaves as they are
pub map-kept : {X : Type 0} (f : X → X) (xs : List X) → AllByRecursion (λ x. f x ≡ x) xs → map f xs ≡ xs
map-kept f [] each = refl
map-kept f (x ∷ xs) each = ap₂ (λ y ys. y ∷ ys) each.0 (map-kept f xs each.1)
