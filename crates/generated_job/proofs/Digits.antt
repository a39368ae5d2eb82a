-- Numbers below 1000 in three digits.
use Rattle.std.proofs.Common.{◌≡◌, ℕ, ◌+◌, ◌-◌, ◌/◌, ◌%◌, ◌<◌, ◌≤◌, ◌⊎◌, inl, inr, List, [], ◌∷◌, ◌++◌, length, replicate, refl, ap, ◌∙◌, arith}
use Rattle.std.specs.Fmt.{decimal}
use Rattle.std.proofs.lemmas.Fmt.{decimal_digit, decimal_step, decimal_digit as one}
use Rattle.std.proofs.lemmas.Bool.{cases_lt}
use Rattle.deck_definitions.specs.Transport.{three_digits}

-- with zeros before a text, so that there are three
abbrev filled : List ℕ → List ℕ
filled text = replicate (3 - length text) 48 ++ text

two : (n : ℕ) → 10 ≤ n → n < 100 → decimal n ≡ (48 + n / 10) ∷ (48 + n % 10) ∷ []
two n low high = decimal_step n low (omega arith) ∙ ap (λ front. front ++ (48 + n % 10) ∷ []) (decimal_digit (n / 10) (omega arith))

three : (n : ℕ) → 100 ≤ n → n < 1000 → decimal n ≡ (48 + n / 100) ∷ (48 + n / 10 % 10) ∷ (48 + n % 10) ∷ []
three n low high =
    decimal_step n (omega arith) (omega arith)
    ∙ ap (λ front. front ++ (48 + n % 10) ∷ []) (two (n / 10) (omega arith) (omega arith))
    ∙ ap (λ h. (48 + h) ∷ (48 + n / 10 % 10) ∷ (48 + n % 10) ∷ []) (omega arith)

parts : {a b c d e f : ℕ} → a ≡ d → b ≡ e → c ≡ f → a ∷ b ∷ c ∷ [] ≡ d ∷ e ∷ f ∷ []
parts p q r = λ i. p i ∷ q i ∷ r i ∷ []

pub in_three : (n : ℕ) → n < 1000 → three_digits n ≡ (48 + n / 100) ∷ (48 + n / 10 % 10) ∷ (48 + n % 10) ∷ []
in_three n high = below_ten (cases_lt n 10)
  where
    below_hundred : 10 ≤ n → (n < 100) ⊎ (100 ≤ n) → three_digits n ≡ (48 + n / 100) ∷ (48 + n / 10 % 10) ∷ (48 + n % 10) ∷ []
    below_hundred low (inl h) = ap filled (two n low h) ∙ parts (omega arith) (omega arith) refl
    below_hundred low (inr h) = ap filled (three n h high)

    below_ten : (n < 10) ⊎ (10 ≤ n) → three_digits n ≡ (48 + n / 100) ∷ (48 + n / 10 % 10) ∷ (48 + n % 10) ∷ []
    below_ten (inl h) = ap filled (one n h) ∙ parts (omega arith) (omega arith) (omega arith)
    below_ten (inr h) = below_hundred h (cases_lt n 100)
