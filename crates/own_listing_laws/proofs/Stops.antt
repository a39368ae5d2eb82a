-- Stop texts and reports that can't be attested are known as such.
use Rattle.std.proofs.Common.{◌≡◌, ℕ, ◌≤◌, Bool, true, false, ◌||◌, List, [], ◌∷◌, ◌++◌, Some, None, codes, drop, length, if◌then◌else◌, refl, ap, ◌∙◌}
use Rattle.std.proofs.Common.{append_assoc, append-nil}
use Rattle.std.specs.Prelude.{option_and_then, is_some}
use Rattle.std.specs.List.{list_any}
use Rattle.exact_values.specs.Rational.{ℚ}
use Rattle.frac128.specs.declared.Op.{Op}
use Rattle.frac128.specs.Operations.{TermsFit}
use Rattle.problem_definitions.specs.Names.{Name}
use Rattle.listing_definitions.specs.Numbers.{digits, rational_text}
use Rattle.listing_definitions.specs.Report.{RangeLines, BasisOut, Inserted, Ranges}
use Rattle.listing_definitions.specs.Ending.{Overflow, LimitReached, SingularBasis, WrongPrice, LimitStop, SingularStop, PriceStop, OverflowStop}
use Rattle.listing_definitions.specs.Text.{operation_text, name8, table_text, report_text}
use Rattle.listing_definitions.specs.Listing.{ending_text, basis_text, way_text}
use Rattle.walk_definitions.specs.Words.{ends_word, word_in, max_count}
use Rattle.walk_definitions.specs.Forms.{Piece, Text, Count, Fraction, Operation, is_of, left_by, has_form, limit_stop, read_fault, punch_fault, memory_stop}
use Rattle.walk_definitions.specs.Forms.{singular_stop, price_stop, overflow_stop, is_open_stop, is_ranges, is_punched, is_inserted, counted_line}
use Rattle.walk_definitions.proofs.Texts.{stands, drop_text}
use Rattle.walk_definitions.proofs.Numbers.{fraction_of_text}
use Rattle.fitting_answers.specs.Fitting.{EvidenceFits}
use Rattle.own_listing_laws.proofs.Spelled.{IsWord, word_is, digits_word, rational_word, count_of_text, operation_word, operation_named}

record Leaves (form : List Piece) (rest after : List ℕ) : Type 0 where
  pub of : left_by form rest ≡ Some after

nothing : (rest : List ℕ) → Leaves [] rest rest
nothing rest = record { of = refl }

text_left : (text : List ℕ) (form : List Piece) (rest after : List ℕ) → Leaves form rest after → Leaves (Text text ∷ form) (text ++ rest) after
text_left text form rest after leaves = record { of = ap (option_and_then (left_by form)) (stands text rest) ∙ leaves.of }

-- a word of a kind
word_left : (word : List ℕ) (byte : ℕ) (rest : List ℕ) (of : List ℕ → Bool) → IsWord word → ends_word byte ≡ true → of word ≡ true →
    (if of (word_in (word ++ byte ∷ rest)) then Some (drop (length (word_in (word ++ byte ∷ rest))) (word ++ byte ∷ rest)) else None) ≡ Some (byte ∷ rest)
word_left word byte rest of is ends means =
    ap (λ w. if of w then Some (drop (length w) (word ++ byte ∷ rest)) else None) (word_is word byte rest is ends)
    ∙ ap (λ b. if b then Some (drop (length word) (word ++ byte ∷ rest)) else None) means ∙ ap (λ (r : List ℕ). Some r) (drop_text word (byte ∷ rest))

count_left : (n byte : ℕ) (form : List Piece) (rest after : List ℕ) → n ≤ max_count → ends_word byte ≡ true → Leaves form (byte ∷ rest) after →
    Leaves (Count ∷ form) (digits n ++ byte ∷ rest) after
count_left n byte form rest after small ends leaves =
    record {
      of = ap (option_and_then (left_by form))
          (word_left (digits n) byte rest (is_of Count) (digits_word n) ends (ap is_some (count_of_text max_count n small))) ∙ leaves.of;
    }

fraction_left : (x : ℚ) (byte : ℕ) (form : List Piece) (rest after : List ℕ) → TermsFit x → ends_word byte ≡ true → Leaves form (byte ∷ rest) after →
    Leaves (Fraction ∷ form) (rational_text x ++ byte ∷ rest) after
fraction_left x byte form rest after fit ends leaves =
    record {
      of = ap (option_and_then (left_by form))
          (word_left (rational_text x) byte rest (is_of Fraction) (rational_word x) ends (ap is_some (fraction_of_text x fit))) ∙ leaves.of;
    }

operation_left : (op : Op) (byte : ℕ) (form : List Piece) (rest after : List ℕ) → ends_word byte ≡ true → Leaves form (byte ∷ rest) after →
    Leaves (Operation ∷ form) (operation_text op ++ byte ∷ rest) after
operation_left op byte form rest after ends leaves =
    record {
      of = ap (option_and_then (left_by form))
          (word_left (operation_text op) byte rest (is_of Operation) (operation_word op) ends (ap is_some (operation_named op))) ∙ leaves.of;
    }

has : (form : List Piece) (rest after : List ℕ) → Leaves form rest after → has_form form rest ≡ true
has form rest after leaves = ap is_some leaves.of

-- ---- one of the stop texts

record Stands (rest : List ℕ) (forms : List (List Piece)) : Type 0 where
  pub of : list_any (λ form. has_form form rest) forms ≡ true

here : (rest : List ℕ) (form : List Piece) (forms : List (List Piece)) → has_form form rest ≡ true → Stands rest (form ∷ forms)
here rest form forms e = record { of = ap (λ b. b || list_any (λ form. has_form form rest) forms) e }

later : (rest : List ℕ) (form : List Piece) (forms : List (List Piece)) → Stands rest forms → Stands rest (form ∷ forms)
later rest form forms stands = record { of = ap (λ b. has_form form rest || b) stands.of ∙ or_true (has_form form rest) }
  where
    or_true : (b : Bool) → (b || true) ≡ true
    or_true true = refl
    or_true false = refl

abbrev all_stops : List (List Piece)
all_stops = limit_stop ∷ read_fault ∷ punch_fault ∷ memory_stop ∷ singular_stop ∷ price_stop ∷ overflow_stop ∷ []

is_open : (rest : List ℕ) → Stands rest all_stops → is_open_stop rest ≡ true
unfolding is_open_stop
is_open rest stands = stands.of

limit_open : (rest : List ℕ) → has_form limit_stop rest ≡ true → is_open_stop rest ≡ true
limit_open rest e = is_open rest (here rest limit_stop _ e)

singular_open : (rest : List ℕ) → has_form singular_stop rest ≡ true → is_open_stop rest ≡ true
singular_open rest e =
    is_open rest (later rest limit_stop _ (later rest read_fault _ (later rest punch_fault _ (later rest memory_stop _ (here rest singular_stop _ e)))))

price_open : (rest : List ℕ) → has_form price_stop rest ≡ true → is_open_stop rest ≡ true
price_open rest e =
    is_open rest
    (later rest limit_stop _
    (later rest read_fault _ (later rest punch_fault _ (later rest memory_stop _ (later rest singular_stop _ (here rest price_stop _ e))))))

overflow_open : (rest : List ℕ) → has_form overflow_stop rest ≡ true → is_open_stop rest ≡ true
overflow_open rest e =
    is_open rest
    (later rest limit_stop _
    (later rest read_fault _
    (later rest punch_fault _ (later rest memory_stop _ (later rest singular_stop _ (later rest price_stop _ (here rest overflow_stop _ e)))))))

pub open_limit : (reached : LimitReached) → reached.limit ≤ max_count → reached.card ≤ max_count → is_open_stop (ending_text (LimitStop reached)) ≡ true
open_limit reached limit card = limit_open (ending_text (LimitStop reached)) (has limit_stop (ending_text (LimitStop reached)) []
    (text_left (codes "STOP 16 ITERATION LIMIT ") _ _ _ (count_left reached.limit 32 _ _ _ limit refl
    (text_left (codes " CARD ") _ _ _ (count_left reached.card 10 _ [] _ card refl (text_left (codes "\n") [] [] _ (nothing [])))))))

as_fault : (number card lines : List ℕ) →
    (codes "STOP 10 VERB " ++ ((codes "FAULT " ++ (number ++ (codes " CARD " ++ (card ++ [])))) ++ (codes "\n" ++ []))) ++ lines ≡
    codes "STOP 10 VERB " ++ (codes "FAULT " ++ (number ++ (codes " CARD " ++ (card ++ (10 ∷ lines)))))
as_fault number card lines = simp (append_assoc, append-nil)

fifteen : digits 15 ≡ codes "15"
unfolding digits
fifteen = refl

sixteen : digits 16 ≡ codes "16"
unfolding digits
sixteen = refl

pub open_singular : (basis : SingularBasis) → basis.card ≤ max_count → is_open_stop (ending_text (SingularStop basis)) ≡ true
open_singular basis fit =
    ap is_open_stop (as_fault (digits 15) (digits basis.card) (table_text basis.lines)
    ∙ ap (λ number. codes "STOP 10 VERB " ++ (codes "FAULT " ++ (number ++ (codes " CARD " ++ (digits basis.card ++ (10 ∷ table_text basis.lines)))))) fifteen)
    ∙ singular_open (codes "STOP 10 VERB FAULT 15 CARD " ++ (digits basis.card ++ (10 ∷ table_text basis.lines))) (has singular_stop _ (table_text basis.lines)
    (text_left (codes "STOP 10 VERB FAULT 15 CARD ") _ _ _
    (count_left basis.card 10 _ (table_text basis.lines) _ fit refl
    (text_left (codes "\n") [] (table_text basis.lines) _ (nothing (table_text basis.lines))))))

as_price : (number card variable : List ℕ) →
    codes "STOP 10 VERB " ++ ((codes "FAULT " ++ (number ++ (codes " CARD " ++ (card ++ [])))) ++ (codes " VARIABLE " ++ (variable ++ (codes "\n" ++ [])))) ≡
    codes "STOP 10 VERB " ++ (codes "FAULT " ++ (number ++ (codes " CARD " ++ (card ++ (codes " VARIABLE " ++ (variable ++ (10 ∷ [])))))))
as_price number card variable = simp (append_assoc, append-nil)

pub open_price : (price : WrongPrice) → price.card ≤ max_count → price.variable ≤ max_count → is_open_stop (ending_text (PriceStop price)) ≡ true
open_price price card variable =
    ap is_open_stop (as_price (digits 16) (digits price.card) (digits price.variable)
    ∙ ap (λ number. codes "STOP 10 VERB " ++
    (codes "FAULT " ++ (number ++ (codes " CARD " ++ (digits price.card ++ (codes " VARIABLE " ++ (digits price.variable ++ (10 ∷ [])))))))) sixteen)
    ∙ price_open (codes "STOP 10 VERB FAULT 16 CARD " ++ (digits price.card ++ (codes " VARIABLE " ++ (digits price.variable ++ (10 ∷ [])))))
    (has price_stop _ []
    (text_left (codes "STOP 10 VERB FAULT 16 CARD ") _ _ _ (count_left price.card 32 _ _ _ card refl
    (text_left (codes " VARIABLE ") _ _ _ (count_left price.variable 10 _ [] _ variable refl (text_left (codes "\n") [] [] _ (nothing [])))))))

as_overflow : (formula op left right p q i j term theta card lines : List ℕ) →
    codes "STOP 20 OVERFLOW " ++
    ((codes "F" ++
    (formula ++ (codes " " ++
    ((op ++ (codes " " ++ (left ++ (codes " " ++ (right ++ []))))) ++
    (codes " P " ++ (p ++ (codes " Q " ++ (q ++ (codes " I " ++ (i ++ (codes " J " ++ (j ++
    (codes " TERM " ++ (term ++ (codes " THETA " ++ (theta ++ []))))))))))))))))
    ++ (codes " CARD " ++ (card ++ (codes "\n" ++ lines)))) ≡
    codes "STOP 20 OVERFLOW F" ++
    (formula ++ (codes " " ++
    (op ++ (codes " " ++ (left ++ (codes " " ++ (right ++ (codes " P " ++ (p ++ (codes " Q " ++ (q ++ (codes " I " ++ (i ++ (codes " J " ++ (j ++
    (codes " TERM " ++ (term ++ (codes " THETA " ++ (theta ++ (codes " CARD " ++ (card ++ (10 ∷ lines))))))))))))))))))))))
as_overflow formula op left right p q i j term theta card lines = simp (append_assoc, append-nil)

pub open_overflow : (overflow : Overflow) → EvidenceFits overflow.evidence → overflow.card ≤ max_count →
    is_open_stop (ending_text (OverflowStop overflow)) ≡ true
open_overflow overflow fit card =
    let e = overflow.evidence in
    let lines : List ℕ = codes "BASIS " ++ (basis_text overflow.place ++ (codes "\n" ++ (codes "WAY " ++ (way_text overflow.place ++ (codes "\n" ++ []))))) in
    ap is_open_stop
    (as_overflow (digits e.formula) (operation_text e.refused.op) (rational_text e.refused.left) (rational_text e.refused.right) (digits e.p) (digits e.q)
    (digits e.i) (digits e.j) (digits e.term)
    (rational_text e.theta) (digits overflow.card) lines)
    ∙ overflow_open _ (has overflow_stop _ lines
    (text_left (codes "STOP 20 OVERFLOW F") _ _ _ (count_left e.formula 32 _ _ _ fit.formula refl
    (text_left (codes " ") _ _ _ (operation_left e.refused.op 32 _ _ _ refl
    (text_left (codes " ") _ _ _ (fraction_left e.refused.left 32 _ _ _ fit.left refl
    (text_left (codes " ") _ _ _ (fraction_left e.refused.right 32 _ _ _ fit.right refl
    (text_left (codes " P ") _ _ _ (count_left e.p 32 _ _ _ fit.p refl
    (text_left (codes " Q ") _ _ _ (count_left e.q 32 _ _ _ fit.q refl
    (text_left (codes " I ") _ _ _ (count_left e.i 32 _ _ _ fit.i refl
    (text_left (codes " J ") _ _ _ (count_left e.j 32 _ _ _ fit.j refl
    (text_left (codes " TERM ") _ _ _ (count_left e.term 32 _ _ _ fit.term refl
    (text_left (codes " THETA ") _ _ _ (fraction_left e.theta 32 _ _ _ fit.theta refl
    (text_left (codes " CARD ") _ _ _
    (count_left overflow.card 10 _ lines _ card refl (text_left (codes "\n") [] lines _ (nothing lines)))))))))))))))))))))))))

-- ---- reports

pub ranges_stand : (lines : RangeLines) (more : List ℕ) → is_ranges (report_text (Ranges lines) ++ more) ≡ true
unfolding is_ranges
ranges_stand lines more =
    let left = drop 6 (report_text (Ranges lines) ++ more) in
    has (Text (codes "RANGE\n") ∷ []) (codes "RANGE\n" ++ left) left (text_left (codes "RANGE\n") [] left left (nothing left))

as_counted : (verb name word count more : List ℕ) →
    (verb ++ (name ++ (word ++ (count ++ (codes "\n" ++ []))))) ++ more ≡ (verb ++ (name ++ word)) ++ (count ++ (10 ∷ more))
as_counted verb name word count more = simp (append_assoc, append-nil)

counted_stands : (verb : List ℕ) (name : Name) (word : List ℕ) (count : ℕ) (more : List ℕ) → count ≤ max_count →
    has_form (counted_line verb name word) ((verb ++ (name8 name ++ (word ++ (digits count ++ (codes "\n" ++ []))))) ++ more) ≡ true
counted_stands verb name word count more small =
    ap (has_form (counted_line verb name word)) (as_counted verb (name8 name) word (digits count) more)
    ∙ has (counted_line verb name word) ((verb ++ (name8 name ++ word)) ++ (digits count ++ (10 ∷ more))) more
    (text_left (verb ++ (name8 name ++ word)) _ _ _ (count_left count 10 _ more _ small refl (text_left (codes "\n") [] more _ (nothing more))))

pub punched_stands : (name : Name) (count : ℕ) (more : List ℕ) → count ≤ max_count → is_punched name (report_text (BasisOut name count) ++ more) ≡ true
unfolding is_punched
punched_stands name count more small = counted_stands (codes "PUNCH   ") name (codes " CARDS ") count more small

pub inserted_stands : (name : Name) (count : ℕ) (more : List ℕ) → count ≤ max_count → is_inserted name (report_text (Inserted name count) ++ more) ≡ true
unfolding is_inserted
inserted_stands name count more small = counted_stands (codes "INSERT  ") name (codes " BASIC ") count more small
