-- A number's text and a written card have printable bytes alone.
use Rattle.std.proofs.Common.{◌≡◌, ℕ, suc, ◌+◌, ◌-◌, ◌≤◌, Bool, true, false, cond, not, eqb, ◌&&◌, ◌||◌, List, [], ◌∷◌, length, take, drop, refl, ap, ◌∙◌}
use Rattle.std.proofs.Common.{subst, arith, nat_le, nat_lt}
use Rattle.std.specs.List.{list_all, prefix_len, before_first, after_first, position_or_len}
use Rattle.std.proofs.lemmas.List.{length-take}
use Rattle.std.proofs.lemmas.Bool.{leb-true, leb-false, eqb-true, and_from}
use Rattle.card_definitions.specs.declared.NumberFault.TheVariants.{Empty, BadCharacter, NoDigit, ExponentRange}
use Rattle.card_definitions.specs.Words.{without_leading, is_empty, ◌⟹◌}
use Rattle.card_definitions.specs.Cards.{is_blank, is_printable}
use Rattle.card_definitions.specs.Numbers.{Decimal, is_digit, is_sign, is_point, is_exponent_letter, after_one, trimmed, mantissa, exponent, after_whole_digits}
use Rattle.card_definitions.specs.Numbers.{rest_of_mantissa, rest_of_exponent, formed_length, lacks_digit, exponent_size, number_fault}
use Rattle.card_definitions.proofs.FirstFaults.{passes, test_fails}
use Rattle.problem_definitions.specs.Valid.{IsDecimal}
use Rattle.basis_deck_laws.proofs.Facts.{reads-as}

abbrev pub IsPrintableText : List ℕ → Type 0
IsPrintableText text = list_all is_printable text ≡ true

-- ---- what is printable where its parts are

and-first : (a b : Bool) → (a && b) ≡ true → a ≡ true
and-first true b h = refl
and-first false b h = h

and-second : (a b : Bool) → (a && b) ≡ true → b ≡ true
and-second true b h = h
and-second false b h = absurd (cc h)

module _ (p : ℕ → Bool) (printable : (x : ℕ) → p x ≡ true → is_printable x ≡ true) where
  all-leading : (xs : List ℕ) → IsPrintableText (without_leading p xs) → IsPrintableText xs
  all-leading [] h = refl
  all-leading (x ∷ xs) h = by (p x) refl h (all-leading xs)
    where
      by : (b : Bool) → p x ≡ b → IsPrintableText (drop (cond b (1 + prefix_len p xs) 0) (x ∷ xs)) →
          (IsPrintableText (drop (prefix_len p xs) xs) → IsPrintableText xs) → IsPrintableText (x ∷ xs)
      by true e h rest =
          let next : 1 + prefix_len p xs ≡ suc (prefix_len p xs) = omega arith in
          and_from (is_printable x) (list_all is_printable xs) (printable x e) (rest (subst (λ n. IsPrintableText (drop n (x ∷ xs))) next h))
      by false e h rest = h

  all-after_one : (xs : List ℕ) → IsPrintableText (after_one p xs) → IsPrintableText xs
  all-after_one [] h = refl
  all-after_one (x ∷ xs) h = by (p x) refl h
    where
      by : (b : Bool) → p x ≡ b → IsPrintableText (cond b xs (x ∷ xs)) → IsPrintableText (x ∷ xs)
      by true e h = and_from (is_printable x) (list_all is_printable xs) (printable x e) h
      by false e h = h

  all-parts : (xs : List ℕ) → IsPrintableText (before_first p xs) → IsPrintableText (after_first p xs) → IsPrintableText xs
  all-parts [] before after = refl
  all-parts (x ∷ xs) before after = by (p x) refl before after (all-parts xs)
    where
      by : (b : Bool) → p x ≡ b → IsPrintableText (take (cond (not b) (1 + position_or_len p xs) 0) (x ∷ xs))
          → IsPrintableText (drop (cond (not b) (1 + position_or_len p xs) 0 + 1) (x ∷ xs))
          → (IsPrintableText (take (position_or_len p xs) xs) → IsPrintableText (drop (position_or_len p xs + 1) xs) → IsPrintableText xs)
          → IsPrintableText (x ∷ xs)
      by true e front back rest = and_from (is_printable x) (list_all is_printable xs) (printable x e) back
      by false e front back rest =
          let one : 1 + position_or_len p xs ≡ suc (position_or_len p xs) = omega arith in
          let two : 1 + position_or_len p xs + 1 ≡ suc (position_or_len p xs + 1) = omega arith in
          let front = subst (λ n. IsPrintableText (take n (x ∷ xs))) one front in
          and_from (is_printable x) (list_all is_printable xs) (and-first (is_printable x) (list_all is_printable (take (position_or_len p xs) xs)) front)
          (rest (and-second (is_printable x) (list_all is_printable (take (position_or_len p xs) xs)) front)
          (subst (λ n. IsPrintableText (drop n (x ∷ xs))) two back))

-- ---- the bytes of a number

le-true : (a b : ℕ) → a ≤ b → nat_le a b ≡ true
le-true a b h = by (nat_le a b) refl
  where
    by : (c : Bool) → nat_le a b ≡ c → c ≡ true
    by true e = refl
    by false e = absurd (omega (arith, h, leb-false a b e))

digit-printable : (x : ℕ) → is_digit x ≡ true → is_printable x ≡ true
digit-printable x h =
    let low = leb-true 48 x (and-first (nat_le 48 x) (nat_le x 57) h) in
    let high = leb-true x 57 (and-second (nat_le 48 x) (nat_le x 57) h) in
    and_from (nat_le 32 x) (nat_le x 126) (le-true 32 x (omega (arith, low))) (le-true x 126 (omega (arith, high)))

is-byte : (x n : ℕ) → is_printable n ≡ true → eqb x n ≡ true → is_printable x ≡ true
is-byte x n h e = ap is_printable (eqb-true x n e) ∙ h

either : (a b c : Bool) → (a ≡ true → c ≡ true) → (b ≡ true → c ≡ true) → (a || b) ≡ true → c ≡ true
either true b c f g h = f refl
either false b c f g h = g h

sign-printable : (x : ℕ) → is_sign x ≡ true → is_printable x ≡ true
sign-printable x = either (eqb x 43) (eqb x 45) (is_printable x) (is-byte x 43 refl) (is-byte x 45 refl)

point-printable : (x : ℕ) → is_point x ≡ true → is_printable x ≡ true
point-printable x = is-byte x 46 refl

letter-printable : (x : ℕ) → is_exponent_letter x ≡ true → is_printable x ≡ true
letter-printable x =
    either (eqb x 69 || eqb x 101 || eqb x 68) (eqb x 100) (is_printable x)
    (either (eqb x 69 || eqb x 101) (eqb x 68) (is_printable x)
    (either (eqb x 69) (eqb x 101) (is_printable x) (is-byte x 69 refl) (is-byte x 101 refl)) (is-byte x 68 refl)) (is-byte x 100 refl)

-- the mantissa and the exponent have nothing but their form
record IsFormed (text : List ℕ) : Type 0 where
  whole_mantissa : rest_of_mantissa text ≡ []
  whole_exponent : rest_of_exponent text ≡ []

formed-printable : (text : List ℕ) → IsFormed text → IsPrintableText text
formed-printable text is = all-parts is_exponent_letter letter-printable text
    (all-after_one is_sign sign-printable (mantissa text) (all-leading is_digit digit-printable (after_one is_sign (mantissa text))
    (all-after_one is_point point-printable (after_whole_digits text)
    (all-leading is_digit digit-printable (after_one is_point (after_whole_digits text)) (ap (list_all is_printable) is.whole_mantissa)))))
    (all-after_one is_sign sign-printable (exponent text)
    (all-leading is_digit digit-printable (after_one is_sign (exponent text)) (ap (list_all is_printable) is.whole_exponent)))

formed : (text : List ℕ) → length text ≤ formed_length text → IsPrintableText text
formed [] h = refl
formed (x ∷ xs) h = by (rest_of_mantissa (x ∷ xs)) (rest_of_exponent (x ∷ xs)) refl refl h
  where
    by : (rm re : List ℕ) → rest_of_mantissa (x ∷ xs) ≡ rm → rest_of_exponent (x ∷ xs) ≡ re →
        length (x ∷ xs) ≤ cond (is_empty rm) (length (x ∷ xs) - length re) (length (mantissa (x ∷ xs)) - length rm) → IsPrintableText (x ∷ xs)
    by [] [] em ee h = formed-printable (x ∷ xs) (record { whole_mantissa = em; whole_exponent = ee })
    by [] (y ∷ ys) em ee h = absurd (omega (arith, h))
    by (y ∷ ys) re em ee h = absurd (omega (arith, h, length-take (position_or_len is_exponent_letter (x ∷ xs)) (x ∷ xs)))

-- The text of a number.
pub number-printable : (number : Decimal) → IsDecimal number → IsPrintableText number.text
unfolding number_fault
number-printable number is =
    let reads = reads-as number is in
    let text = trimmed number.text in
    let t = passes (
    (is_empty text ⟹ Empty) ∷
    (nat_lt (formed_length text) (length text) ⟹ BadCharacter (prefix_len is_blank number.text + formed_length text + 1)) ∷
    (lacks_digit text ⟹ NoDigit) ∷
    (nat_lt 18 (exponent_size text) ⟹ ExponentRange) ∷ []) reads.fine in
    let whole = test_fails (nat_lt (formed_length text) (length text)) (BadCharacter (prefix_len is_blank number.text + formed_length text + 1)) t.1.0 in
    subst IsPrintableText (ap (λ (d : Decimal). d.text) reads.again) (formed text (not-less (formed_length text) (length text) whole))
  where
    not-less : (a b : ℕ) → nat_lt a b ≡ false → b ≤ a
    not-less a b h = omega (arith, leb-false (suc a) b h)
