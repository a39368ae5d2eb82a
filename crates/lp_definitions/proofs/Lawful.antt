-- A linear program is lawful if it passes a test that computes: so `tested p refl` proves it of a program that is written out.
use Rattle.std.proofs.Common.{◌≡◌, ℕ, ◌<◌, ◌^◌, List, [], ◌∷◌, length, map, Option, Some, None, Bool, true, false, not, refl, arith, All}
use Rattle.std.specs.Prelude.{nat_eq, nat_le, nat_lt, ◌&&◌, is_none}
use Rattle.std.specs.List.{list_all, IsDistinct, AllByRecursion}
use Rattle.std.proofs.lemmas.List.Elements.{All-cons}
use Rattle.std.proofs.lemmas.Map.Keys.{IsDistinct-cons}
use Rattle.std.proofs.lemmas.Bool.{and_parts, not-true}
use Rattle.exact_values.specs.Rational.{ℚ}
use Rattle.lp_definitions.specs.LinearProgram.{Matrix, LinearProgram, size, IsRow, lower_of, upper_of, HasNoLimits, ChangeIsFree, IsMatrix, IsLinearProgram}
use Rattle.lp_definitions.specs.declared.Entry.{Entry}
use Rattle.lp_definitions.specs.declared.Change.{Change}

-- ---- the tests

abbrev is_row : Matrix → ℕ → Bool
is_row a i = nat_le 1 i && nat_le i a.rows

abbrev is_distinct : List ℕ → Bool
is_distinct [] = true
is_distinct (k ∷ ks) = list_all (λ j. not (nat_eq k j)) ks && is_distinct ks

abbrev has_no_limits : LinearProgram → ℕ → Bool
has_no_limits p k = is_none (lower_of p k) && is_none (upper_of p k)

abbrev change_is_free : LinearProgram → Option Change → Bool
change_is_free p None = true
change_is_free p (Some c) = is_row p.matrix c.row && has_no_limits p c.row

abbrev is_matrix : Matrix → Bool
is_matrix a =
    nat_eq (length a.columns) a.cols
    && list_all (λ c. list_all (λ (e : Entry). is_row a e.row) c) a.columns
    && list_all (λ c. is_distinct (map (λ (e : Entry). e.row) c)) a.columns
    && nat_lt (size a) (2 ^ 32)

abbrev pub is_linear_program : LinearProgram → Bool
is_linear_program p =
    is_matrix p.matrix
    && nat_eq (length p.lower) (size p.matrix)
    && nat_eq (length p.upper) (size p.matrix)
    && nat_eq (length p.rhs) p.rows
    && is_row p.matrix p.objective
    && has_no_limits p p.objective
    && change_is_free p p.change

-- ---- what they tell

row : (a : Matrix) (i : ℕ) → is_row a i ≡ true → IsRow a i
row a i e = grind arith

each : {X : Type 0} (test : X → Bool) (P : X → Type 0) → ((x : X) → test x ≡ true → P x) → (xs : List X) → list_all test xs ≡ true → All P xs
each test P tells [] e = λ i d below. absurd (omega arith)
each test P tells (x ∷ xs) e = let h = and_parts (test x) (list_all test xs) e in All-cons P x xs (tells x h.0) (each test P tells xs h.1)

each_by_recursion : {X : Type 0} (test : X → Bool) (P : X → Type 0) → ((x : X) → test x ≡ true → P x) → (xs : List X) → list_all test xs ≡ true →
    AllByRecursion P xs
each_by_recursion test P tells [] e = tt
each_by_recursion test P tells (x ∷ xs) e = let h = and_parts (test x) (list_all test xs) e in (tells x h.0, each_by_recursion test P tells xs h.1)

distinct : (ks : List ℕ) → is_distinct ks ≡ true → IsDistinct nat_eq ks
unfolding IsDistinct
distinct [] e = tt
distinct (k ∷ ks) e =
    let h = and_parts (list_all (λ j. not (nat_eq k j)) ks) (is_distinct ks) e in
    IsDistinct-cons nat_eq k ks (each_by_recursion (λ j. not (nat_eq k j)) (λ j. nat_eq k j ≡ false) (λ j h. not-true (nat_eq k j) h) ks h.0) (distinct ks h.1)

pub none : (o : Option ℚ) → is_none o ≡ true → o ≡ None
none None e = refl
none (Some v) e = absurd (let P : false ≡ true → ⊥ = λ e. cc in P e)

free : (p : LinearProgram) (k : ℕ) → has_no_limits p k ≡ true → HasNoLimits p k
free p k e = let h = and_parts (is_none (lower_of p k)) (is_none (upper_of p k)) e in (none (lower_of p k) h.0, none (upper_of p k) h.1)

change : (p : LinearProgram) (c : Option Change) → change_is_free p c ≡ true → ChangeIsFree p c
change p None e = tt
change p (Some c) e = let h = and_parts (is_row p.matrix c.row) (has_no_limits p c.row) e in (row p.matrix c.row h.0, free p c.row h.1)

equal : (m n : ℕ) → nat_eq m n ≡ true → m ≡ n
equal m n e = grind arith

below : (m n : ℕ) → nat_lt m n ≡ true → m < n
below m n e = grind arith

matrix : (a : Matrix) → is_matrix a ≡ true → IsMatrix a
matrix a e =
    let counted : Bool = nat_eq (length a.columns) a.cols in
    let on_rows : Bool = list_all (λ c. list_all (λ (e : Entry). is_row a e.row) c) a.columns in
    let apart : Bool = list_all (λ c. is_distinct (map (λ (e : Entry). e.row) c)) a.columns in
    let h = and_parts (counted && on_rows && apart) (nat_lt (size a) (2 ^ 32)) e in
    let i = and_parts (counted && on_rows) apart h.0 in
    let j = and_parts counted on_rows i.0 in
    record {
      columns_counted = equal (length a.columns) a.cols j.0;
      on_rows =
          each (λ c. list_all (λ (e : Entry). is_row a e.row) c) (All (λ e. IsRow a e.row))
          (λ c. each (λ (e : Entry). is_row a e.row) (λ e. IsRow a e.row) (λ e. row a e.row) c) a.columns j.1;
      distinct =
          each (λ c. is_distinct (map (λ (e : Entry). e.row) c)) (λ c. IsDistinct nat_eq (map (λ (e : Entry). e.row) c))
          (λ c. distinct (map (λ (e : Entry). e.row) c)) a.columns i.1;
      small = below (size a) (2 ^ 32) h.1;
    }

pub tested : (p : LinearProgram) → is_linear_program p ≡ true → IsLinearProgram p
tested p e =
    let lower : Bool = nat_eq (length p.lower) (size p.matrix) in
    let upper : Bool = nat_eq (length p.upper) (size p.matrix) in
    let rhs : Bool = nat_eq (length p.rhs) p.rows in
    let objective : Bool = is_row p.matrix p.objective in
    let without : Bool = has_no_limits p p.objective in
    let g = and_parts (is_matrix p.matrix && lower && upper && rhs && objective && without) (change_is_free p p.change) e in
    let h = and_parts (is_matrix p.matrix && lower && upper && rhs && objective) without g.0 in
    let i = and_parts (is_matrix p.matrix && lower && upper && rhs) objective h.0 in
    let j = and_parts (is_matrix p.matrix && lower && upper) rhs i.0 in
    let k = and_parts (is_matrix p.matrix && lower) upper j.0 in
    let l = and_parts (is_matrix p.matrix) lower k.0 in
    record {
      is_matrix = matrix p.matrix l.0;
      lower_counted = equal (length p.lower) (size p.matrix) l.1;
      upper_counted = equal (length p.upper) (size p.matrix) k.1;
      rhs_counted = equal (length p.rhs) p.rows j.1;
      objective_row = row p.matrix p.objective i.1;
      objective_free = free p p.objective h.1;
      change_free = change p p.change g.1;
    }
