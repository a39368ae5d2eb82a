-- The words that are read.
--     Found Shows parsed new result    something was read, of which so much is shown, and this is left; or it isn't there
--     labelled text of             a word of a kind after a text
--     refusal_in                   the operation of a check that wasn't made
--     IsCheckRead, IsCheckAfter    the word of a check was read, and whether it was made
--     IsHeadRead, IsRayHeadRead    what stands before the lines of a verdict was read
use Rattle.std.specs.Prelude.{◌≡◌, ℕ, Bool, List, Option, Some, None, codes}
use Rattle.exact_values.specs.Rational.{ℚ}
use Rattle.frac128.specs.declared.Refused.{Refused}
use Rattle.card_definitions.specs.Words.{named}
use Rattle.listing_definitions.specs.Report.{Check}
use Rattle.walk_definitions.specs.Words.{Parsed, with_text, with_word, fraction_in, count_in, max_count}
use Rattle.walk_definitions.specs.Forms.{all_operations}
use Rattle.walk_definitions.specs.Checkers.{says_checked, checker_of_128_bits}
use Rattle.walk_definitions.specs.Reading.{with_check, Claim}
use Rattle.listing_answers.specs.declared.words.Head.{Head}

pub record IsFound {X A : Type 0} (Shows : X → A → Type 0) (parsed : Parsed A) (new : List ℕ) (x : X) : Type 0 where
  pub answer : A
  pub is_found : parsed ≡ Some (answer, new)
  pub shows : Shows x answer

abbrev pub Found : {X A : Type 0} → (X → A → Type 0) → Parsed A → List ℕ → Option X → Type 0
Found Shows parsed new None = parsed ≡ None
Found Shows parsed new (Some x) = IsFound Shows parsed new x

-- a word of a kind after a text
abbrev pub labelled : {X : Type 0} → List ℕ → (List ℕ → Option X) → List ℕ → Parsed X
labelled text of rest = with_text text (with_word of (λ x left. Some (x, left))) rest

-- ---- the word of a check

abbrev pub refusal_in : List ℕ → Parsed Refused
refusal_in = with_text (codes "UNCHECKED ") (with_word (named all_operations) (λ op. with_text (codes " ") (with_word (fraction_in checker_of_128_bits) (λ left.
    with_text (codes " ")
    (with_word (fraction_in checker_of_128_bits)
    (λ right. with_text (codes "\n") (λ rest. Some (record { op = op; left = left; right = right }, rest))))))))

-- whatever is read after it
pub record IsCheck (reading : (Check → List ℕ → Parsed Claim) → List ℕ → Parsed Claim) (old new : List ℕ) (is_checked : Bool) : Type 0 where
  pub check : Check
  pub reads : (next : Check → List ℕ → Parsed Claim) → reading next old ≡ next check new
  pub says : is_checked ≡ says_checked check

abbrev pub IsCheckIn : ((Check → List ℕ → Parsed Claim) → List ℕ → Parsed Claim) → List ℕ → List ℕ → Option Bool → Type 0
IsCheckIn reading old new None = (next : Check → List ℕ → Parsed Claim) → reading next old ≡ None
IsCheckIn reading old new (Some is_checked) = IsCheck reading old new is_checked

abbrev pub IsCheckRead : List ℕ → List ℕ → Option Bool → Type 0
IsCheckRead = IsCheckIn with_check

abbrev pub IsCheckAfter : List ℕ → List ℕ → List ℕ → Option Bool → Type 0
IsCheckAfter text = IsCheckIn (λ next. with_text text (with_check next))

-- ---- a head

-- a number of steps, and the word of the check of a ray
abbrev pub ray_head_in : (ℕ → Check → List ℕ → Parsed Claim) → List ℕ → Parsed Claim
ray_head_in next =
    with_text (codes "INFEASIBLE STEPS ")
    (with_word (count_in max_count) (λ steps. with_text (codes " RAY ") (with_check (λ check rest. next steps check rest))))

pub record IsRayHead (old new : List ℕ) (is_checked : Bool) : Type 0 where
  pub steps : ℕ
  pub check : Check
  pub reads : (next : ℕ → Check → List ℕ → Parsed Claim) → ray_head_in next old ≡ next steps check new
  pub says : is_checked ≡ says_checked check

abbrev pub IsRayHeadRead : List ℕ → List ℕ → Option Bool → Type 0
IsRayHeadRead old new None = (next : ℕ → Check → List ℕ → Parsed Claim) → ray_head_in next old ≡ None
IsRayHeadRead old new (Some is_checked) = IsRayHead old new is_checked

-- a text, a number of steps, an objective, and the word of a check, by how the word of the objective is read
module _ (of : List ℕ → Option ℚ) where
  abbrev pub head_in : List ℕ → (ℕ → ℚ → Check → List ℕ → Parsed Claim) → List ℕ → Parsed Claim
  head_in text next = with_text text (with_word (count_in max_count) (λ steps. with_text (codes " OBJECTIVE ") (with_word of (λ objective.
      with_text (codes " ") (with_check (λ check rest. next steps objective check rest))))))

  pub record IsHead (text old new : List ℕ) (head : Head) : Type 0 where
    pub steps : ℕ
    pub check : Check
    pub reads : (next : ℕ → ℚ → Check → List ℕ → Parsed Claim) → head_in text next old ≡ next steps head.objective check new
    pub says : head.is_checked ≡ says_checked check

  abbrev pub IsHeadRead : List ℕ → List ℕ → List ℕ → Option Head → Type 0
  IsHeadRead text old new None = (next : ℕ → ℚ → Check → List ℕ → Parsed Claim) → head_in text next old ≡ None
  IsHeadRead text old new (Some head) = IsHead text old new head
