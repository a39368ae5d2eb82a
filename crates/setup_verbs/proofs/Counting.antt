-- Basic columns are counted one by one.
use Rattle.std.proofs.Common.{◌≡◌, ℕ, suc, ◌+◌, Bool, true, false, List, [], ◌∷◌, ◌++◌, cond, length, filter, refl, ap, ◌∙◌, arith}
use Rattle.std.proofs.lemmas.List.{append-nil}
use Rattle.std.proofs.lemmas.List.Elements.{filter-append}
use Rattle.lp_definitions.specs.LinearProgram.{LinearProgram, numbers_from}
use Rattle.lp_definitions.specs.Basis.{is_basic, status_of}
use Rattle.lp_definitions.specs.declared.Status.{Status}
use Rattle.lp_laws.proofs.Opening.{numbers_from-append}

-- the basic columns among the first of them
abbrev pub basics_so_far : LinearProgram → List Status → ℕ → List ℕ
basics_so_far lp s c = filter (λ k. is_basic (status_of s k)) (numbers_from (lp.rows + 1) c)

length-push : (xs : List ℕ) (k : ℕ) → length (xs ++ k ∷ []) ≡ length xs + 1
length-push [] k = refl
length-push (x ∷ xs) k = ap suc (length-push xs k) ∙ omega arith

counted : (xs : List ℕ) (k : ℕ) (b : Bool) → length (xs ++ cond b (k ∷ []) []) ≡ length xs + cond b 1 0
counted xs k true = length-push xs k
counted xs k false = ap length (append-nil xs) ∙ omega arith

-- one more column
pub one_more : (lp : LinearProgram) (s : List Status) (c : ℕ) →
    length (basics_so_far lp s (c + 1)) ≡ length (basics_so_far lp s c) + cond (is_basic (status_of s (lp.rows + 1 + c))) 1 0
one_more lp s c =
    let p : ℕ → Bool = λ k. is_basic (status_of s k) in
    ap (λ xs. length (filter p xs)) (numbers_from-append (lp.rows + 1) c 1)
    ∙ ap length (filter-append p (numbers_from (lp.rows + 1) c) ((lp.rows + 1 + c) ∷ []))
    ∙ counted (filter p (numbers_from (lp.rows + 1) c)) (lp.rows + 1 + c) (p (lp.rows + 1 + c))

module _ (lp : LinearProgram) (s : List Status) (c column : ℕ) (place : lp.rows + 1 + c ≡ column) where
  by_status : (b : Bool) → is_basic (status_of s column) ≡ b → length (basics_so_far lp s (c + 1)) ≡ length (basics_so_far lp s c) + cond b 1 0
  by_status b is =
      one_more lp s c ∙ ap (λ (k : ℕ). length (basics_so_far lp s c) + cond (is_basic (status_of s k)) 1 0) place
      ∙ ap (λ (m : Bool). length (basics_so_far lp s c) + cond m 1 0) is

  pub not_counted : is_basic (status_of s column) ≡ false → length (basics_so_far lp s (c + 1)) ≡ length (basics_so_far lp s c)
  not_counted out = by_status false out ∙ omega arith

  pub counted_in : is_basic (status_of s column) ≡ true → length (basics_so_far lp s (c + 1)) ≡ length (basics_so_far lp s c) + 1
  counted_in basic = by_status true basic
