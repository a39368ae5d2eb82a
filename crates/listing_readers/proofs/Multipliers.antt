-- The lines of a ray, read one after another.
use Rattle.std.proofs.Common.{◌≡◌, ℕ, zero, suc, ◌+◌, ◌-◌, ◌<◌, Bool, true, false, cond, ◌&&◌, List, [], ◌∷◌, ◌++◌, map, Option, Some, None, refl, sym, ap, ap₂}
use Rattle.std.proofs.Common.{◌∙◌, arith, append-nil, if◌then◌else◌}
use Rattle.std.specs.Prelude.{find, nat_eq, nat_le, option_and_then}
use Rattle.std.specs.List.{list_all}
use Rattle.std.proofs.lemmas.Bool.{and_parts}
use Rattle.std.proofs.lemmas.Bool.Decides.{nat_tests}
use Rattle.std.proofs.lemmas.List.Folds.{list_all-append}
use Rattle.std.proofs.lemmas.List.{map_push}
use Rattle.exact_values.specs.Rational.{ℚ, zero_ℚ}
use Rattle.exact_values.specs.Tests.{eq_ℚ}
use Rattle.lp_definitions.specs.LinearProgram.{numbers_from, variables, size}
use Rattle.listing_definitions.specs.Report.{Line}
use Rattle.question_definitions.specs.Answers.{Sheet}
use Rattle.walk_definitions.specs.Words.{Parsed, left_after}
use Rattle.walk_definitions.specs.Tables.{AnyNumber, line_head, line_in, number_at, numbered, multiplier_in, then_more, ray_in, begins_table_line}
use Rattle.walk_definitions.proofs.Lines.{prefixed, prefixed_none, prefixed_twice, next_number}
use Rattle.listing_readers.specs.Tables.{IsMultiplier, of_line, without_line, IsMultiplierRead, IsRayRead}

-- ---- the line of a number

abbrev number_found : Option Line → ℚ
number_found o = elim o [
  | None ↦ zero_ℚ
  | Some line ↦ number_at 0 line
]

abbrev are_below : ℕ → List Line → Bool
are_below k lines = list_all (λ line. nat_le line.number k) lines

other_number : (line : Line) (k j : ℕ) → nat_le line.number k ≡ true → k < j → nat_eq line.number j ≡ false
other_number line k j below more = grind (arith, nat_tests, below, more)

none_found : (k j : ℕ) (lines : List Line) → are_below k lines ≡ true → k < j → find (λ line. nat_eq line.number j) lines ≡ None
none_found k j [] below more = refl
none_found k j (line ∷ lines) below more =
    let parts = and_parts (nat_le line.number k) (are_below k lines) below in
    ap (λ b. cond b (Some line) (find (λ line. nat_eq line.number j) lines)) (other_number line k j parts.0 more) ∙ none_found k j lines parts.1 more

-- one line more, of another number
other_found : (j : ℕ) (lines : List Line) (line : Line) → nat_eq line.number j ≡ false →
    find (λ line. nat_eq line.number j) (lines ++ line ∷ []) ≡ find (λ line. nat_eq line.number j) lines
other_found j [] line other = ap (λ b. cond b (Some line) None) other
other_found j (first ∷ lines) line other = ap (λ o. cond (nat_eq first.number j) (Some first) o) (other_found j lines line other)

-- one line more, of a number that has none before
last_found : (j : ℕ) (lines : List Line) (line : Line) → find (λ line. nat_eq line.number j) lines ≡ None → nat_eq line.number j ≡ true →
    find (λ line. nat_eq line.number j) (lines ++ line ∷ []) ≡ Some line
last_found j [] line none same = ap (λ b. cond b (Some line) None) same
last_found j (first ∷ lines) line none same = by (nat_eq first.number j) (last_found j lines line) none
  where
    by : (b : Bool) →
        (find (λ line. nat_eq line.number j) lines ≡ None → nat_eq line.number j ≡ true →
        find (λ line. nat_eq line.number j) (lines ++ line ∷ []) ≡ Some line) →
        cond b (Some first) (find (λ line. nat_eq line.number j) lines) ≡ None →
        cond b (Some first) (find (λ line. nat_eq line.number j) (lines ++ line ∷ [])) ≡ Some line
    by true later none = absurd (cc none)
    by false later none = later none same

-- ---- the numbers of all variables so far

same_on : (f g : ℕ → ℚ) (first n : ℕ) → ((j : ℕ) → j < first + n → f j ≡ g j) → map f (numbers_from first n) ≡ map g (numbers_from first n)
same_on f g first zero same = refl
same_on f g first (suc n) same = ap₂ (λ x xs. x ∷ xs) (same first (omega arith)) (same_on f g (suc first) n (λ j l. same j (omega arith)))

one_number_more : (first n : ℕ) → numbers_from first (n + 1) ≡ numbers_from first n ++ (first + n) ∷ []
one_number_more first zero = ap (λ m. m ∷ []) (omega arith)
one_number_more first (suc n) =
    let here : suc n + 1 ≡ suc (n + 1) = omega arith in
    let last : suc first + n ≡ first + suc n = omega arith in
    ap (numbers_from first) here ∙ ap (λ ns. first ∷ ns) (one_number_more (suc first) n) ∙ ap (λ m. first ∷ (numbers_from (suc first) n ++ m ∷ [])) last

higher : (n k : ℕ) → nat_le n k ≡ true → nat_le n (k + 1) ≡ true
higher n k le = grind (arith, nat_tests, le)

weaker_below : (k : ℕ) (lines : List Line) → are_below k lines ≡ true → are_below (k + 1) lines ≡ true
weaker_below k [] below = refl
weaker_below k (line ∷ lines) below =
    let parts = and_parts (nat_le line.number k) (are_below k lines) below in
    ap₂ (λ a b. a && b) (higher line.number k parts.0) (weaker_below k lines parts.1)

own_number : (n m : ℕ) → n ≡ m → nat_le n m ≡ true
own_number n m e = grind (arith, nat_tests, e)

equal : (n m : ℕ) → n ≡ m → nat_eq n m ≡ true
equal n m e = grind (arith, nat_tests, e)

unequal : (n m j : ℕ) → n ≡ m → j < m → nat_eq n j ≡ false
unequal n m j e l = grind (arith, nat_tests, e, l)

all_numbers : (f : ℕ → ℚ) (k : ℕ) → map f (numbers_from 1 k) ++ f (k + 1) ∷ [] ≡ map f (numbers_from 1 (k + 1))
all_numbers f k =
    let next : 1 + k ≡ k + 1 = omega arith in
    sym (ap (map f) (one_number_more 1 k ∙ ap (λ m. numbers_from 1 k ++ m ∷ []) next) ∙ map_push f (numbers_from 1 k) (k + 1))

module _ (of : List ℕ → Option ℚ) (sheet : Sheet) where
  -- the multipliers of the first k variables were read
  pub record IsRaySoFar (old : List ℕ) (k left : ℕ) (rest : List ℕ) (ray : List ℚ) : Type 0 where
    pub lines : List Line
    pub below : list_all (λ line. nat_le line.number k) lines ≡ true
    pub whole : ray_in of sheet (variables sheet.lp.matrix) old ≡ prefixed lines (ray_in of sheet (numbers_from (k + 1) left) rest)
    pub are : ray ≡ map (λ j. numbered j lines) (numbers_from 1 k)

  pub ray_begins : (old : List ℕ) → IsRaySoFar old 0 (size sheet.lp.matrix) old []
  ray_begins old = record { lines = []; below = refl; whole = sym (prefixed_none (ray_in of sheet (variables sheet.lp.matrix) old)); are = refl }

  -- a ray by what stands at the head of the next line
  abbrev next_by : ℕ → List ℕ → List ℕ → Option (List ℕ) → Parsed (List Line)
  next_by k ks rest o = elim o [
    | None ↦ ray_in of sheet ks rest
    | Some values ↦ then_more (multiplier_in of sheet k rest) (ray_in of sheet ks)
  ]

  here : (old : List ℕ) (k left : ℕ) (rest : List ℕ) (lines : List Line) →
      ray_in of sheet (variables sheet.lp.matrix) old ≡ prefixed lines (ray_in of sheet (numbers_from (k + 1) left) rest) → 0 < left → (o : Option (List ℕ)) →
      left_after (line_head sheet (k + 1)) rest ≡ o →
      ray_in of sheet (variables sheet.lp.matrix) old ≡ prefixed lines (next_by (k + 1) (numbers_from (k + 1 + 1) (left - 1)) rest o)
  here old k left rest lines whole some o head =
      whole ∙ ap (λ ks. prefixed lines (ray_in of sheet ks rest)) (next_number (k + 1) left some)
      ∙ ap (λ o. prefixed lines (next_by (k + 1) (numbers_from (k + 1 + 1) (left - 1)) rest o)) head

  pub ray_goes_on : (old : List ℕ) (k left : ℕ) (rest new : List ℕ) (ray : List ℚ) (x : ℚ) → IsRaySoFar old k left rest ray → 0 < left →
      IsMultiplier of sheet (k + 1) rest new x → IsRaySoFar old (k + 1) (left - 1) new (ray ++ x ∷ [])
  ray_goes_on old k left rest new ray x so_far some (of_line line after head is number value) = record {
    lines = so_far.lines ++ line ∷ [];
    below =
        list_all-append (λ line. nat_le line.number (k + 1)) so_far.lines (line ∷ [])
        ∙ ap₂ (λ a b. a && (b && true)) (weaker_below k so_far.lines so_far.below) (own_number line.number (k + 1) number);
    whole =
        here old k left rest so_far.lines so_far.whole some (Some after) head
        ∙ ap (λ o. prefixed so_far.lines (then_more o (ray_in of sheet (numbers_from (k + 1 + 1) (left - 1))))) is
        ∙ prefixed_twice so_far.lines (line ∷ []) (ray_in of sheet (numbers_from (k + 1 + 1) (left - 1)) new);
    are =
        ap₂ (λ xs y. xs ++ y ∷ [])
        (so_far.are ∙ same_on (λ j. numbered j so_far.lines) (λ j. numbered j (so_far.lines ++ line ∷ [])) 1 k
        (λ j l. ap number_found (sym (other_found j so_far.lines line (unequal line.number (k + 1) j number (omega arith))))))
        (value ∙ ap number_found
        (sym (last_found (k + 1) so_far.lines line (none_found k (k + 1) so_far.lines so_far.below (omega arith)) (equal line.number (k + 1) number))))
        ∙ all_numbers (λ j. numbered j (so_far.lines ++ line ∷ [])) k;
  }
  ray_goes_on old k left rest new ray x so_far some (without_line head same value) = record {
    lines = so_far.lines;
    below = weaker_below k so_far.lines so_far.below;
    whole =
        here old k left rest so_far.lines so_far.whole some None head
        ∙ ap (λ r. prefixed so_far.lines (ray_in of sheet (numbers_from (k + 1 + 1) (left - 1)) r)) (sym same);
    are =
        ap₂ (λ xs y. xs ++ y ∷ []) so_far.are (value ∙ ap number_found (sym (none_found k (k + 1) so_far.lines so_far.below (omega arith))))
        ∙ all_numbers (λ j. numbered j so_far.lines) k;
  }

  pub ray_fails : (old : List ℕ) (k left : ℕ) (rest new : List ℕ) (ray : List ℚ) → IsRaySoFar old k left rest ray → 0 < left →
      IsMultiplierRead of sheet (k + 1) rest new None → ray_in of sheet (variables sheet.lp.matrix) old ≡ None
  ray_fails old k left rest new ray so_far some none =
      here old k left rest so_far.lines so_far.whole some (Some none.0) none.1
      ∙ ap (λ o. prefixed so_far.lines (then_more o (ray_in of sheet (numbers_from (k + 1 + 1) (left - 1))))) none.2

  -- no further table line follows, or one does
  pub ray_ends : (old : List ℕ) (k left : ℕ) (rest : List ℕ) (ray : List ℚ) → IsRaySoFar old k left rest ray → k ≡ size sheet.lp.matrix → left ≡ 0 →
      begins_table_line rest ≡ false → IsRayRead of sheet old rest (Some ray)
  ray_ends old k left rest ray so_far all over clear = (
    so_far.lines,
    so_far.whole ∙ ap (λ n. prefixed so_far.lines (ray_in of sheet (numbers_from (k + 1) n) rest)) over
        ∙ ap (λ b. prefixed so_far.lines (if b then None else Some ([], rest))) clear
        ∙ ap (λ ls. Some (ls, rest)) (append-nil so_far.lines),
    so_far.are ∙ ap (λ n. map (λ j. numbered j so_far.lines) (numbers_from 1 n)) all,
  )

  pub line_follows : (old : List ℕ) (k left : ℕ) (rest : List ℕ) (ray : List ℚ) → IsRaySoFar old k left rest ray → left ≡ 0 → begins_table_line rest ≡ true →
      ray_in of sheet (variables sheet.lp.matrix) old ≡ None
  line_follows old k left rest ray so_far over begins =
      so_far.whole ∙ ap (λ n. prefixed so_far.lines (ray_in of sheet (numbers_from (k + 1) n) rest)) over
      ∙ ap (λ b. prefixed so_far.lines (if b then None else Some ([], rest))) begins

  -- ---- one multiplier

  abbrev unless_zero : Line × List ℕ → Parsed Line
  unless_zero got = if eq_ℚ (number_at 0 got.0) zero_ℚ then None else Some got

  pub some_line : (k : ℕ) (old new : List ℕ) (line : Line) → line_in of sheet (AnyNumber ∷ []) k old ≡ Some (line, new) →
      eq_ℚ (number_at 0 line) zero_ℚ ≡ false → multiplier_in of sheet k old ≡ Some (line, new)
  some_line k old new line is some = ap (option_and_then unless_zero) is ∙ ap (λ b. if b then None else Some (line, new)) some
