-- Which words write a size.
use Rattle.std.proofs.Common.{◌≡◌, ℕ, ◌≤◌, ◌&&◌, Bool, true, false, nat_le, get_or, List, ◌∷◌, None, Some, if◌then◌else◌, Result, refl, ap, subst, sym, ◌∙◌}
use Rattle.std.proofs.Common.{arith}
use Rattle.std.specs.Fmt.{decimal}
use Rattle.std.specs.Str.{bytes_eq}
use Rattle.std.specs.Result.{result_ok}
use Rattle.std.specs.Str.Parse.{digits_value, ParsesUnsigned}
use Rattle.std.proofs.lemmas.Fmt.{decimal_is_IsNumeral, parse-decimal, first_decimal}
use Rattle.std.proofs.lemmas.Bool.{leb-true, le-leb}
use Rattle.std.proofs.lemmas.Slice.Eq.{bytes_eq-Decides}
use Rattle.clap.proofs.WalkLemmas.{both}
use Rattle.command_line.specs.Sizes.{max_size, size_written}

-- the word is how this size is written
pub record IsSize (word : List ℕ) (size : ℕ) : Type 0 where
  pub least : 1 ≤ size
  pub most : size ≤ max_size
  pub digits : decimal size ≡ word

abbrev tested : ℕ → List ℕ → Bool
tested size word = nat_le 1 size && (nat_le size max_size && bytes_eq (decimal size) word)

both_hold : {a b : Bool} → a ≡ true → b ≡ true → (a && b) ≡ true
both_hold p q = λ i. p i && q i

reported : (size : ℕ) (word : List ℕ) → tested size word ≡ true → IsSize word size
reported size word e =
    let p = both (nat_le 1 size) _ e in
    let q = both (nat_le size max_size) _ p.1 in
    record { least = leb-true 1 size p.0; most = leb-true size max_size q.0; digits = (bytes_eq-Decides (decimal size) word).0 q.1 }

value_is : {word : List ℕ} {size : ℕ} → IsSize word size → digits_value 10 word ≡ size
value_is {word} {size} h = ap (digits_value 10) (sym h.digits) ∙ (decimal_is_IsNumeral size (omega (arith, h.most))).1

passes : {word : List ℕ} {size : ℕ} → IsSize word size → tested size word ≡ true
passes {word} {size} h = both_hold (le-leb 1 size h.least) (both_hold (le-leb size max_size h.most) ((bytes_eq-Decides (decimal size) word).1 h.digits))

pub written : {word : List ℕ} {size : ℕ} → IsSize word size → size_written word ≡ Some size
written {word} {size} h = ap (λ n. if tested n word then Some n else None) (value_is h) ∙ ap (λ b. if b then Some size else None) (passes h)

pub unwritten : (word : List ℕ) → ((size : ℕ) → IsSize word size → ⊥) → size_written word ≡ None
unwritten word none = go (tested (digits_value 10 word) word) refl
  where
    go : (b : Bool) → tested (digits_value 10 word) word ≡ b → (if b then Some (digits_value 10 word) else None) ≡ None
    go true e = absurd (none (digits_value 10 word) (reported (digits_value 10 word) word e))
    go false e = refl

pub size_is : (word : List ℕ) {size : ℕ} → size_written word ≡ Some size → IsSize word size
size_is word {size} is = go (tested (digits_value 10 word) word) refl is
  where
    go : (b : Bool) → tested (digits_value 10 word) word ≡ b → (if b then Some (digits_value 10 word) else None) ≡ Some size → IsSize word size
    go true e same = let n : digits_value 10 word ≡ size = cc in subst (IsSize word) n (reported (digits_value 10 word) word e)
    go false e same = cc

-- what a parse of the word gives
pub parsed : {E : Type 0} (word : List ℕ) (size : ℕ) (r : Result ℕ E) → ParsesUnsigned 32 10 word r → IsSize word size → result_ok r ≡ Some size
parsed word size r parses h = ap result_ok (parse-decimal 32 size word r (omega (arith, h.most)) (omega (arith, h.most)) (sym h.digits) parses)

pub not_parsed : {E : Type 0} (word : List ℕ) (r : Result ℕ E) → ParsesUnsigned 32 10 word r → None ≡ result_ok r → size_written word ≡ None
not_parsed word r parses none = unwritten word (λ size h. let e = parsed word size r parses h in absurd (cc))

-- another size than the one that is parsed isn't written
pub other_size : {E : Type 0} (word : List ℕ) (size : ℕ) (r : Result ℕ E) → ParsesUnsigned 32 10 word r → Some size ≡ result_ok r → (IsSize word size → ⊥) →
    size_written word ≡ None
other_size word size r parses some wrong =
    unwritten word (λ n h. let e = parsed word n r parses h in let same : n ≡ size = cc in wrong (subst (IsSize word) same h))

-- a size has no sign
pub no_dash : (xs : List ℕ) → size_written (45 ∷ xs) ≡ None
no_dash xs = unwritten (45 ∷ xs) (λ size h. omega (arith, first_decimal size h.least (omega (arith, h.most)), ap (λ ds. get_or ds 0 0) h.digits))
