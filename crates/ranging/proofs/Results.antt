-- What holds of a result.
use Rattle.std.proofs.Common.{◌≡◌, ℕ, List, [], ◌∷◌, ◌++◌, take, length, refl, ap, ◌∙◌}
use Rattle.std.specs.Prelude.{Result, Ok, Err, IfOk}

pub IfOk-map : {A E : Type 0} → (r : Result A E) {P Q : A → Type 0} → ((a : A) → P a → Q a) → IfOk r P → IfOk r Q
IfOk-map (Ok a) step h = step a h
IfOk-map (Err e) step h = tt

-- the prefix of a list that something follows
pub take_all : {A : Type 0} (xs ys : List A) (n : ℕ) → n ≡ length xs → take n (xs ++ ys) ≡ xs
take_all xs ys n is = ap (λ m. take m (xs ++ ys)) is ∙ whole xs ys
  where
    whole : {A : Type 0} (xs ys : List A) → take (length xs) (xs ++ ys) ≡ xs
    whole [] ys = refl
    whole (x ∷ xs) ys = ap (λ zs. x ∷ zs) (whole xs ys)
