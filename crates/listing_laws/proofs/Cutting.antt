-- Texts that are cut at the first byte of a kind.
use Rattle.std.proofs.Common.{◌≡◌, ℕ, Bool, true, false, not, ◌&&◌, List, [], ◌∷◌, ◌++◌, length, refl, ap, ap₂, sym, ◌∙◌, arith}
use Rattle.std.specs.Prelude.{bytes_eq}
use Rattle.std.specs.List.{list_all}
use Rattle.std.proofs.lemmas.Slice.Eq.{bytes_eq-Decides}
use Rattle.std.proofs.lemmas.List.Folds.{list_all-append}
use Rattle.std.proofs.lemmas.Bool.{and_parts}

-- two words that aren't the same
pub differ : (a b : List ℕ) → bytes_eq a b ≡ false → a ≡ b → ⊥
differ a b other e =
    let same : bytes_eq a b ≡ true = (bytes_eq-Decides a b).1 e in
    cc (other, same)

pub weaker : (p q : ℕ → Bool) (xs : List ℕ) → ((x : ℕ) → p x ≡ true → q x ≡ true) → list_all p xs ≡ true → list_all q xs ≡ true
weaker p q [] implied all = refl
weaker p q (x ∷ xs) implied all =
    let parts = and_parts (p x) (list_all p xs) all in
    ap₂ (λ a b. a && b) (implied x parts.0) (weaker p q xs implied parts.1)

-- no byte of a list that is free of a kind is of this kind
pub clash : (p : ℕ → Bool) (x : ℕ) (xs : List ℕ) → list_all (λ y. not (p y)) (x ∷ xs) ≡ true → p x ≡ true → ⊥
clash p x xs free passes =
    let fails : not (p x) ≡ true = (and_parts (not (p x)) (list_all (λ y. not (p y)) xs) free).0 in
    let fails_too : not true ≡ true = ap not (sym passes) ∙ fails in
    cc fails_too

pub heads : (x y : ℕ) (xs ys : List ℕ) → x ∷ xs ≡ y ∷ ys → (x ≡ y) × (xs ≡ ys)
heads x y xs ys e = (cc e, cc e)

-- the parts before the first byte of a kind are equal, and so are the parts from there on
pub cut : (p : ℕ → Bool) (a b : List ℕ) (c d : ℕ) (r s : List ℕ) → list_all (λ y. not (p y)) a ≡ true → list_all (λ y. not (p y)) b ≡ true → p c ≡ true
    → p d ≡ true
    → a ++ c ∷ r ≡ b ++ d ∷ s → (a ≡ b) × (c ∷ r ≡ d ∷ s)
cut p [] [] c d r s a_free b_free c_passes d_passes e = (refl, e)
cut p [] (y ∷ b) c d r s a_free b_free c_passes d_passes e =
    absurd (clash p y b b_free (ap p (sym (heads c y r (b ++ d ∷ s) e).0) ∙ c_passes))
cut p (x ∷ a) [] c d r s a_free b_free c_passes d_passes e =
    absurd (clash p x a a_free (ap p (heads x d (a ++ c ∷ r) s e).0 ∙ d_passes))
cut p (x ∷ a) (y ∷ b) c d r s a_free b_free c_passes d_passes e =
    let front = heads x y (a ++ c ∷ r) (b ++ d ∷ s) e in
    let rest = cut p a b c d r s (and_parts _ _ a_free).1 (and_parts _ _ b_free).1 c_passes d_passes front.1 in
    (ap₂ (λ z zs. z ∷ zs) front.0 rest.0, rest.1)

-- a list that is free of a kind isn't one with such a byte
pub none_within : (p : ℕ → Bool) (a b : List ℕ) (c : ℕ) (r : List ℕ) → list_all (λ y. not (p y)) a ≡ true → p c ≡ true → a ≡ b ++ c ∷ r → ⊥
none_within p a b c r free passes e =
    let whole : list_all (λ y. not (p y)) (b ++ c ∷ r) ≡ true = ap (list_all (λ y. not (p y))) (sym e) ∙ free in
    let parts = and_parts (list_all (λ y. not (p y)) b) (list_all (λ y. not (p y)) (c ∷ r)) (sym (list_all-append (λ y. not (p y)) b (c ∷ r)) ∙ whole) in
    clash p c r parts.1 passes

-- texts of one length before others
pub same_front : (a b r s : List ℕ) → length a ≡ length b → a ++ r ≡ b ++ s → (a ≡ b) × (r ≡ s)
same_front [] [] r s len e = (refl, e)
same_front [] (y ∷ b) r s len e = absurd (omega (arith, len))
same_front (x ∷ a) [] r s len e = absurd (omega (arith, len))
same_front (x ∷ a) (y ∷ b) r s len e =
    let front = heads x y (a ++ r) (b ++ s) e in
    let rest = same_front a b r s (omega (arith, len)) front.1 in
    (ap₂ (λ z zs. z ∷ zs) front.0 rest.0, rest.1)
