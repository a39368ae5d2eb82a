-- What a word is to the command: the mark, the option, another option, or none.
use Rattle.std.proofs.Common.{◌≡◌, ◌⊎◌, inl, inr, ℕ, ◌==◌, Bool, true, false, List, [], ◌∷◌, ◌++◌, codes, drop, Option, None, Some, if◌then◌else◌, refl, ap}
use Rattle.std.proofs.Common.{subst, sym, ◌∙◌, true≢false, one-add}
use Rattle.std.specs.List.{before_first}
use Rattle.std.specs.Str.{bytes_eq}
use Rattle.std.proofs.lemmas.Bool.{eqb-true, false_from_ne_true}
use Rattle.std.proofs.lemmas.Slice.Eq.{bytes_eq-Decides}
use Rattle.clap.specs.Lexer.{name_and_value}
use Rattle.clap.specs.Walk.{Text}
use Rattle.command_line.specs.Requests.{rest_after, ends}

pub data Word : Text → Type 0 where
  mark : Word (codes "--")
  named : Word (codes "--make")
  with_value : (v : Text) → Word (codes "--make=" ++ v)
  unknown : (x : ℕ) (xs : Text) → bytes_eq (codes "make") (name_and_value (x ∷ xs)).0 ≡ false → Word (45 ∷ 45 ∷ x ∷ xs)
  short : (x : ℕ) (xs : Text) → (x == 45) ≡ false → Word (45 ∷ x ∷ xs)
  empty : Word []
  dash : Word (45 ∷ [])
  plain : (x : ℕ) (xs : Text) → (x == 45) ≡ false → Word (x ∷ xs)

-- ---- a name ends where the first `=` stands

abbrev is_equals : ℕ → Bool
is_equals x = x == 61

abbrev Cut : Text → Type 0
Cut text = (before_first is_equals text ≡ text) ⊎ ((v : Text) × (text ≡ before_first is_equals text ++ 61 ∷ v))

before_equals : (x : ℕ) (xs : Text) → (x == 61) ≡ true → before_first is_equals (x ∷ xs) ≡ []
before_equals x xs e = rw e refl

before_other : (x : ℕ) (xs : Text) → (x == 61) ≡ false → before_first is_equals (x ∷ xs) ≡ x ∷ before_first is_equals xs
before_other x xs e = rw e (rw one-add refl)

cut : (text : Text) → Cut text
cut [] = inl refl
cut (x ∷ xs) = at (x == 61) refl (cut xs)
  where
    at : (b : Bool) → (x == 61) ≡ b → Cut xs → Cut (x ∷ xs)
    at true e rest = inr (xs, ap (λ k. k ∷ xs) (eqb-true x 61 e) ∙ ap (λ prefix. prefix ++ 61 ∷ xs) (sym (before_equals x xs e)))
    at false e (inl whole) = inl (before_other x xs e ∙ ap (λ t. x ∷ t) whole)
    at false e (inr (v, parts)) = inr (v, ap (λ t. x ∷ t) parts ∙ ap (λ prefix. prefix ++ 61 ∷ v) (sym (before_other x xs e)))

long_kind : (x : ℕ) (xs : Text) → Word (45 ∷ 45 ∷ x ∷ xs)
long_kind x xs = at (bytes_eq (codes "make") (before_first is_equals (x ∷ xs))) refl (cut (x ∷ xs))
  where
    at : (b : Bool) → bytes_eq (codes "make") (before_first is_equals (x ∷ xs)) ≡ b → Cut (x ∷ xs) → Word (45 ∷ 45 ∷ x ∷ xs)
    at false e rest = unknown x xs e
    at true e (inl whole) =
        let name = (bytes_eq-Decides (codes "make") (before_first is_equals (x ∷ xs))).0 e in
        subst (λ (t : Text). Word (45 ∷ 45 ∷ t)) (name ∙ whole) named
    at true e (inr (v, parts)) =
        let name = (bytes_eq-Decides (codes "make") (before_first is_equals (x ∷ xs))).0 e in
        subst (λ (t : Text). Word (45 ∷ 45 ∷ t)) (ap (λ t. t ++ 61 ∷ v) name ∙ sym parts) (with_value v)

pub word_kind : (word : Text) → Word word
word_kind [] = empty
word_kind (x ∷ xs) = first (x == 45) refl xs
  where
    third : (y : ℕ) (ys : Text) (b : Bool) → (y == 45) ≡ b → Word (45 ∷ y ∷ ys)
    third y ys false e = short y ys e
    third y [] true e = subst (λ (k : ℕ). Word (45 ∷ k ∷ [])) (sym (eqb-true y 45 e)) mark
    third y (z ∷ zs) true e = subst (λ (k : ℕ). Word (45 ∷ k ∷ z ∷ zs)) (sym (eqb-true y 45 e)) (long_kind z zs)

    second : (xs : Text) → Word (45 ∷ xs)
    second [] = dash
    second (y ∷ ys) = third y ys (y == 45) refl

    first : (b : Bool) → (x == 45) ≡ b → (xs : Text) → Word (x ∷ xs)
    first false e xs = plain x xs e
    first true e xs = subst (λ (k : ℕ). Word (k ∷ xs)) (sym (eqb-true x 45 e)) (second xs)

-- ---- what is asked for where a word is none of those that ask

after_is : (prefix text v : Text) → rest_after prefix text ≡ Some v → text ≡ prefix ++ v
after_is [] text v e = cc
after_is (c ∷ prefix) [] v e = absurd (cc)
after_is (c ∷ prefix) (x ∷ text) v e = at (x == c) refl e (after_is prefix text v)
  where
    at : (b : Bool) → (x == c) ≡ b → (if b then rest_after prefix text else None) ≡ Some v → (rest_after prefix text ≡ Some v → text ≡ prefix ++ v) →
        x ∷ text ≡ c ∷ (prefix ++ v)
    at true test rest tail = let head = eqb-true x c test in let same = tail rest in cc
    at false test rest tail = absurd (cc)

-- no word `--make`, and none that begins with `--make=`
pub record IsNoOption (word : Text) : Type 0 where
  pub alone : bytes_eq word (codes "--make") ≡ false
  pub joined : rest_after (codes "--make=") word ≡ None

-- a word other than the mark ends nothing
pub ends_not : (word : Text) (rest : List Text) → bytes_eq word (codes "--") ≡ false → ends (word ∷ rest) ≡ false
ends_not word [] e = e
ends_not word (y ∷ rest) e = refl

-- a test that a certain text would pass, and that fails
apart : (p : Text → Bool) (a b : Text) → p a ≡ true → p b ≡ false → a ≡ b → ⊥
apart p a b yes_a no_b e = true≢false (sym yes_a ∙ ap p e ∙ no_b)

none_of : (o : Option Text) → ((v : Text) → o ≡ Some v → ⊥) → o ≡ None
none_of None h = refl
none_of (Some v) h = absurd (h v refl)

-- a word with another name
abbrev names_make : Text → Bool
names_make word = bytes_eq (codes "make") (before_first is_equals (drop 2 word))

pub unknown_is_none : (x : ℕ) (xs : Text) → bytes_eq (codes "make") (name_and_value (x ∷ xs)).0 ≡ false → IsNoOption (45 ∷ 45 ∷ x ∷ xs)
unknown_is_none x xs e = record {
  alone =
      false_from_ne_true _
      (λ same. apart names_make (codes "--make") (45 ∷ 45 ∷ x ∷ xs) refl e (sym ((bytes_eq-Decides (45 ∷ 45 ∷ x ∷ xs) (codes "--make")).0 same)));
  joined = none_of _ (λ v same. apart names_make (codes "--make=" ++ v) (45 ∷ 45 ∷ x ∷ xs) refl e (sym (after_is (codes "--make=") (45 ∷ 45 ∷ x ∷ xs) v same)));
}

pub mark_is_none : IsNoOption (codes "--")
mark_is_none = record { alone = refl; joined = refl }

pub short_is_none : (x : ℕ) (xs : Text) → (x == 45) ≡ false → IsNoOption (45 ∷ x ∷ xs)
short_is_none x xs e = record { alone = rw e refl; joined = rw e refl }

pub empty_is_none : IsNoOption []
empty_is_none = record { alone = refl; joined = refl }

pub dash_is_none : IsNoOption (45 ∷ [])
dash_is_none = record { alone = refl; joined = refl }

pub plain_is_none : (x : ℕ) (xs : Text) → (x == 45) ≡ false → IsNoOption (x ∷ xs)
plain_is_none x xs e = record { alone = rw e refl; joined = rw e refl }
