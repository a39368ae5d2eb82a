-- What the words of a listing, and what stands before them, determine.
use Rattle.std.proofs.Common.{◌≡◌, ℕ, Bool, true, false, not, ◌==◌, List, [], ◌∷◌, ◌++◌, codes, refl, ap, sym, ◌∙◌, take, arith}
use Rattle.std.specs.Prelude.{bytes_eq}
use Rattle.std.specs.List.{list_all}
use Rattle.std.proofs.lemmas.List.{append_cancel_left, append-nil, append_assoc}
use Rattle.std.proofs.lemmas.Bool.Decides.{nat_tests}
use Rattle.exact_values.specs.Rational.{ℚ}
use Rattle.frac128.specs.declared.Op.{Op}
use Rattle.frac128.specs.declared.Op.TheVariants.{Add, Sub, Mul, Div}
use Rattle.frac128.specs.declared.Refused.{Refused}
use Rattle.lp_definitions.specs.declared.Sense.{Sense}
use Rattle.lp_definitions.specs.declared.Sense.TheVariants.{Min, Max}
use Rattle.card_definitions.specs.Numbers.{is_digit}
use Rattle.card_definitions.specs.Cards.{is_printable}
use Rattle.problem_definitions.specs.Names.{Name}
use Rattle.problem_definitions.specs.Valid.{IsName}
use Rattle.listing_definitions.specs.declared.Mark.{Mark}
use Rattle.listing_definitions.specs.declared.Mark.TheVariants.{Optimal, Infeasible, Unbounded}
use Rattle.listing_definitions.specs.declared.Solver.{Solver}
use Rattle.listing_definitions.specs.declared.Solver.TheVariants.{Primal, Dual, Paraobj, Pararhs}
use Rattle.listing_definitions.specs.Numbers.{digits, rational_text}
use Rattle.listing_definitions.specs.Report.{Check, Checked, Unchecked}
use Rattle.listing_definitions.specs.Text.{operation_text, solver_text, mark_text, sense_text, refused_text, check_text}
use Rattle.listing_laws.proofs.Cutting.{differ, weaker, heads, cut}
use Rattle.listing_laws.proofs.Digits.{is_of_number, digits_are, digits_tell, rational_of_number, rational_tells}

-- whether a word begins with a byte that isn't of a kind
abbrev pub stops : (ℕ → Bool) → List ℕ → Bool
stops p [] = false
stops p (x ∷ xs) = not (p x)

twice : (p : ℕ → Bool) (x : ℕ) → p x ≡ true → not (not (p x)) ≡ true
twice p x e = ap (λ b. not (not b)) e

-- two texts of bytes of a kind, each with the same word after it, which isn't of the kind
pub then_word : (p : ℕ → Bool) (word a b r s : List ℕ) → stops p word ≡ true → list_all p a ≡ true → list_all p b ≡ true → a ++ (word ++ r) ≡ b ++ (word ++ s) →
    (a ≡ b) × (r ≡ s)
then_word p [] a b r s stop a_all b_all e = cc stop
then_word p (c ∷ word) a b r s stop a_all b_all e =
    let parts =
    cut (λ x. not (p x)) a b c c (word ++ r) (word ++ s) (weaker p (λ x. not (not (p x))) a (twice p) a_all)
    (weaker p (λ x. not (not (p x))) b (twice p) b_all) stop stop e in
    (parts.0, append_cancel_left word r s (heads c c (word ++ r) (word ++ s) parts.1).1)

pub number_then : (word : List ℕ) (m n : ℕ) (r s : List ℕ) → stops is_digit word ≡ true → digits m ++ (word ++ r) ≡ digits n ++ (word ++ s) → (m ≡ n) × (r ≡ s)
number_then word m n r s stop e =
    let parts = then_word is_digit word (digits m) (digits n) r s stop (digits_are m) (digits_are n) e in
    (digits_tell m n parts.0, parts.1)

pub rational_then : (word : List ℕ) (x y : ℚ) (r s : List ℕ) → stops is_of_number word ≡ true →
    rational_text x ++ (word ++ r) ≡ rational_text y ++ (word ++ s) → (x ≡ y) × (r ≡ s)
rational_then word x y r s stop e =
    let parts = then_word is_of_number word (rational_text x) (rational_text y) r s stop (rational_of_number x) (rational_of_number y) e in
    (rational_tells x y parts.0, parts.1)

abbrev pub is_in_word : ℕ → Bool
is_in_word byte = not (byte == 32)

abbrev pub is_in_line : ℕ → Bool
is_in_line byte = not (byte == 10)

printable_in_line : (x : ℕ) → is_printable x ≡ true → is_in_line x ≡ true
printable_in_line x e = grind (arith, nat_tests, e)

-- a name up to the end of its line
pub name_then : (x y : Name) (r s : List ℕ) → IsName x → IsName y → x ++ (codes "\n" ++ r) ≡ y ++ (codes "\n" ++ s) → (x ≡ y) × (r ≡ s)
name_then x y r s x_named y_named e =
    then_word is_in_line (codes "\n") x y r s refl (weaker is_printable is_in_line x printable_in_line x_named.printable)
    (weaker is_printable is_in_line y printable_in_line y_named.printable) e

solver_tells : (x y : Solver) → solver_text x ≡ solver_text y → x ≡ y
solver_tells Primal Primal e = refl
solver_tells Primal Dual e = absurd (differ (codes "PRIMAL") (codes "DUAL") refl e)
solver_tells Primal Paraobj e = absurd (differ (codes "PRIMAL") (codes "PARAOBJ") refl e)
solver_tells Primal Pararhs e = absurd (differ (codes "PRIMAL") (codes "PARARHS") refl e)
solver_tells Dual Primal e = absurd (differ (codes "DUAL") (codes "PRIMAL") refl e)
solver_tells Dual Dual e = refl
solver_tells Dual Paraobj e = absurd (differ (codes "DUAL") (codes "PARAOBJ") refl e)
solver_tells Dual Pararhs e = absurd (differ (codes "DUAL") (codes "PARARHS") refl e)
solver_tells Paraobj Primal e = absurd (differ (codes "PARAOBJ") (codes "PRIMAL") refl e)
solver_tells Paraobj Dual e = absurd (differ (codes "PARAOBJ") (codes "DUAL") refl e)
solver_tells Paraobj Paraobj e = refl
solver_tells Paraobj Pararhs e = absurd (differ (codes "PARAOBJ") (codes "PARARHS") refl e)
solver_tells Pararhs Primal e = absurd (differ (codes "PARARHS") (codes "PRIMAL") refl e)
solver_tells Pararhs Dual e = absurd (differ (codes "PARARHS") (codes "DUAL") refl e)
solver_tells Pararhs Paraobj e = absurd (differ (codes "PARARHS") (codes "PARAOBJ") refl e)
solver_tells Pararhs Pararhs e = refl

solver_in_word : (x : Solver) → list_all is_in_word (solver_text x) ≡ true
solver_in_word Primal = refl
solver_in_word Dual = refl
solver_in_word Paraobj = refl
solver_in_word Pararhs = refl

pub solver_then : (x y : Solver) (r s : List ℕ) → solver_text x ++ (codes " " ++ r) ≡ solver_text y ++ (codes " " ++ s) → (x ≡ y) × (r ≡ s)
solver_then x y r s e =
    let parts = then_word is_in_word (codes " ") (solver_text x) (solver_text y) r s refl (solver_in_word x) (solver_in_word y) e in
    (solver_tells x y parts.0, parts.1)

mark_tells : (x y : Mark) → mark_text x ≡ mark_text y → x ≡ y
mark_tells Optimal Optimal e = refl
mark_tells Optimal Infeasible e = absurd (differ (codes "OPTIMAL") (codes "INFEASIBLE") refl e)
mark_tells Optimal Unbounded e = absurd (differ (codes "OPTIMAL") (codes "UNBOUNDED") refl e)
mark_tells Infeasible Optimal e = absurd (differ (codes "INFEASIBLE") (codes "OPTIMAL") refl e)
mark_tells Infeasible Infeasible e = refl
mark_tells Infeasible Unbounded e = absurd (differ (codes "INFEASIBLE") (codes "UNBOUNDED") refl e)
mark_tells Unbounded Optimal e = absurd (differ (codes "UNBOUNDED") (codes "OPTIMAL") refl e)
mark_tells Unbounded Infeasible e = absurd (differ (codes "UNBOUNDED") (codes "INFEASIBLE") refl e)
mark_tells Unbounded Unbounded e = refl

mark_in_line : (x : Mark) → list_all is_in_line (mark_text x) ≡ true
mark_in_line Optimal = refl
mark_in_line Infeasible = refl
mark_in_line Unbounded = refl

pub mark_then : (x y : Mark) (r s : List ℕ) → mark_text x ++ (codes "\n" ++ r) ≡ mark_text y ++ (codes "\n" ++ s) → (x ≡ y) × (r ≡ s)
mark_then x y r s e =
    let parts = then_word is_in_line (codes "\n") (mark_text x) (mark_text y) r s refl (mark_in_line x) (mark_in_line y) e in
    (mark_tells x y parts.0, parts.1)

sense_tells : (x y : Sense) → sense_text x ≡ sense_text y → x ≡ y
sense_tells Min Min e = refl
sense_tells Min Max e = absurd (differ (codes "MIN") (codes "MAX") refl e)
sense_tells Max Min e = absurd (differ (codes "MAX") (codes "MIN") refl e)
sense_tells Max Max e = refl

sense_in_line : (x : Sense) → list_all is_in_line (sense_text x) ≡ true
sense_in_line Min = refl
sense_in_line Max = refl

pub sense_then : (x y : Sense) (r s : List ℕ) → sense_text x ++ (codes "\n" ++ r) ≡ sense_text y ++ (codes "\n" ++ s) → (x ≡ y) × (r ≡ s)
sense_then x y r s e =
    let parts = then_word is_in_line (codes "\n") (sense_text x) (sense_text y) r s refl (sense_in_line x) (sense_in_line y) e in
    (sense_tells x y parts.0, parts.1)

operation_tells : (x y : Op) → operation_text x ≡ operation_text y → x ≡ y
operation_tells Add Add e = refl
operation_tells Add Sub e = absurd (differ (codes "ADD") (codes "SUB") refl e)
operation_tells Add Mul e = absurd (differ (codes "ADD") (codes "MUL") refl e)
operation_tells Add Div e = absurd (differ (codes "ADD") (codes "DIV") refl e)
operation_tells Sub Add e = absurd (differ (codes "SUB") (codes "ADD") refl e)
operation_tells Sub Sub e = refl
operation_tells Sub Mul e = absurd (differ (codes "SUB") (codes "MUL") refl e)
operation_tells Sub Div e = absurd (differ (codes "SUB") (codes "DIV") refl e)
operation_tells Mul Add e = absurd (differ (codes "MUL") (codes "ADD") refl e)
operation_tells Mul Sub e = absurd (differ (codes "MUL") (codes "SUB") refl e)
operation_tells Mul Mul e = refl
operation_tells Mul Div e = absurd (differ (codes "MUL") (codes "DIV") refl e)
operation_tells Div Add e = absurd (differ (codes "DIV") (codes "ADD") refl e)
operation_tells Div Sub e = absurd (differ (codes "DIV") (codes "SUB") refl e)
operation_tells Div Mul e = absurd (differ (codes "DIV") (codes "MUL") refl e)
operation_tells Div Div e = refl

operation_in_word : (x : Op) → list_all is_in_word (operation_text x) ≡ true
operation_in_word Add = refl
operation_in_word Sub = refl
operation_in_word Mul = refl
operation_in_word Div = refl

operation_then : (x y : Op) (r s : List ℕ) → operation_text x ++ (codes " " ++ r) ≡ operation_text y ++ (codes " " ++ s) → (x ≡ y) × (r ≡ s)
operation_then x y r s e =
    let parts = then_word is_in_word (codes " ") (operation_text x) (operation_text y) r s refl (operation_in_word x) (operation_in_word y) e in
    (operation_tells x y parts.0, parts.1)

refused_parts : (x : Refused) (rest : List ℕ) →
    refused_text x ++ rest ≡ operation_text x.op ++ (codes " " ++ (rational_text x.left ++ (codes " " ++ (rational_text x.right ++ rest))))
refused_parts x rest = simp (append_assoc, append-nil)

same_refused : (x y : Refused) → x.op ≡ y.op → x.left ≡ y.left → x.right ≡ y.right → x ≡ y
same_refused x y op left right = λ i. record { op = op i; left = left i; right = right i }

refused_then : (x y : Refused) (r s : List ℕ) → refused_text x ++ (codes "\n" ++ r) ≡ refused_text y ++ (codes "\n" ++ s) → (x ≡ y) × (r ≡ s)
refused_then x y r s e =
    let whole = sym (refused_parts x (codes "\n" ++ r)) ∙ e ∙ refused_parts y (codes "\n" ++ s) in
    let op = operation_then x.op y.op _ _ whole in
    let left = rational_then (codes " ") x.left y.left _ _ refl op.1 in
    let right = rational_then (codes "\n") x.right y.right r s refl left.1 in
    (same_refused x y op.0 left.0 right.0, right.1)

-- two texts that begin otherwise
pub begin_otherwise : (n : ℕ) (a b : List ℕ) → bytes_eq (take n a) (take n b) ≡ false → a ≡ b → ⊥
begin_otherwise n a b other e = differ (take n a) (take n b) other (ap (take n) e)

pub check_then : (x y : Check) (r s : List ℕ) → check_text x ++ (codes "\n" ++ r) ≡ check_text y ++ (codes "\n" ++ s) → (x ≡ y) × (r ≡ s)
check_then Checked Checked r s e = (refl, append_cancel_left (codes "CHECKED\n") r s e)
check_then Checked (Unchecked y) r s e = absurd (begin_otherwise 1 _ _ refl e)
check_then (Unchecked x) Checked r s e = absurd (begin_otherwise 1 _ _ refl e)
check_then (Unchecked x) (Unchecked y) r s e =
    let parts = refused_then x y r s (append_cancel_left (codes "UNCHECKED ") _ _ e) in
    (ap Unchecked parts.0, parts.1)
