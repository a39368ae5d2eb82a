-- Laws on names: the test for equality, and the different names of a list.
use Rattle.std.proofs.Common.{◌≡◌, Bool, true, false, cond, not, ◌||◌, List, [], ◌∷◌, ◌++◌, map, refl, ap, sym, ◌∙◌, subst}
use Rattle.std.specs.Bool.{one_answer}
use Rattle.std.specs.List.{filter}
use Rattle.std.proofs.lemmas.List.Elements.{filter-append}
use Rattle.std.proofs.lemmas.List.{append-nil}
use Rattle.std.proofs.lemmas.Slice.Eq.{bytes_eq-Decides}
use Rattle.problem_definitions.specs.Names.{Name, same, has_name, different}
use Rattle.problem_definitions.specs.Problem.{Row, has_row}

pub same_eq : (a b : Name) → same a b ≡ true → a ≡ b
same_eq a b = (bytes_eq-Decides a b).0

pub same_refl : (a : Name) → same a a ≡ true
same_refl a = (bytes_eq-Decides a a).1 refl

pub same_sym : (a b : Name) → same a b ≡ same b a
same_sym a b = one_answer (same a b) (same b a) (bytes_eq-Decides a b) (λ e. sym ((bytes_eq-Decides b a).0 e), λ e. (bytes_eq-Decides b a).1 (sym e))

-- the names of a list other than n
abbrev pub others : Name → List Name → List Name
others n names = filter (λ other. not (same n other)) names

-- a name other than n is among the others as it is among all
pub has_name-others : (m n : Name) (names : List Name) → same m n ≡ false → has_name (others n names) m ≡ has_name names m
has_name-others m n [] apart = refl
has_name-others m n (o ∷ names) apart = by (same n o) refl (has_name-others m n names apart)
  where
    by : (b : Bool) → same n o ≡ b → has_name (others n names) m ≡ has_name names m
        → has_name (cond (not b) (o ∷ others n names) (others n names)) m ≡ (same m o || has_name names m)
    by true e rest =
        let unlike : same m o ≡ false = subst (λ x. same m x ≡ false) (same_eq n o e) apart in
        rw unlike rest
    by false e rest = ap (λ b. same m o || b) rest

-- a name is among the different names of a list as it is among all
pub has_name-different : (m : Name) (names : List Name) → has_name (different names) m ≡ has_name names m
has_name-different m [] = refl
has_name-different m (n ∷ names) = by (same m n) refl (has_name-different m names)
  where
    by : (b : Bool) → same m n ≡ b → has_name (different names) m ≡ has_name names m → (b || has_name (others n (different names)) m) ≡ (b || has_name names m)
    by true e rest = refl
    by false e rest = has_name-others m n (different names) e ∙ rest

-- one more name at the end is new, or changes nothing
pub different-push : (names : List Name) (n : Name) → different (names ++ n ∷ []) ≡ cond (has_name names n) (different names) (different names ++ n ∷ [])
different-push [] n = refl
different-push (k ∷ names) n = ap (λ list. k ∷ others k list) (different-push names n) ∙ by (same n k) (has_name names n) refl
  where
    last : others k (different names ++ n ∷ []) ≡ others k (different names) ++ others k (n ∷ [])
    last = filter-append (λ other. not (same k other)) (different names) (n ∷ [])

    one : (b : Bool) → same k n ≡ b → others k (n ∷ []) ≡ cond (not b) (n ∷ []) []
    one b e = ap (λ x. cond (not x) (n ∷ []) []) e

    by : (b h : Bool) → same n k ≡ b → (k ∷ others k (cond h (different names) (different names ++ n ∷ [])))
        ≡ cond (b || h) (k ∷ others k (different names)) ((k ∷ others k (different names)) ++ n ∷ [])
    by true true e = refl
    by true false e =
        ap (λ list. k ∷ list) (last ∙ ap (λ list. others k (different names) ++ list) (one true (same_sym k n ∙ e)) ∙ append-nil (others k (different names)))
    by false true e = refl
    by false false e = ap (λ list. k ∷ list) (last ∙ ap (λ list. others k (different names) ++ list) (one false (same_sym k n ∙ e)))

-- whether a row has a name, by the rows and by their names
pub row_is_named : {R : Type 0} (name : Name) (rows : List (Row R)) → has_row rows name ≡ has_name (map (λ row. row.name) rows) name
row_is_named name [] = refl
row_is_named name (row ∷ rows) = ap (λ b. same name row.name || b) (row_is_named name rows)
