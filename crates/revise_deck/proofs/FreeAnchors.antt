-- The name on an action card of a free deck.
use Rattle.std.proofs.Common.{◌≡◌, ℕ, zero, suc, Bool, true, false, cond, List, [], ◌∷◌, Option, Some, None, IsSome, IfSome, length, slice_get, unwrap_or}
use Rattle.std.proofs.Common.{nat_le, refl, ap, sym, ◌∙◌}
use Rattle.std.specs.Prelude.{◌↔◌}
use Rattle.std.specs.List.{AllByRecursion, list_all}
use Rattle.std.specs.Option.{option_map}
use Rattle.std.proofs.lemmas.Bool.{leb-true, le-leb}
use Rattle.card_definitions.specs.Cards.{is_printable}
use Rattle.card_definitions.specs.Fields.{Word, words, word_text}
use Rattle.card_definitions.proofs.FreeWords.{IsWordText, words-texts, word-printable, word-trimmed}
use Rattle.problem_definitions.specs.Names.{Name}
use Rattle.problem_definitions.specs.Valid.{IsName}
use Rattle.revise_definitions.specs.Actions.{short_name}

text-passes : (P : List ℕ → Type 0) (all : List Word) (place : ℕ) → P [] → AllByRecursion (λ (word : Word). P word.text) all →
    P (unwrap_or (option_map (λ (word : Word). word.text) (slice_get all place)) [])
text-passes P [] place blank each = blank
text-passes P (word ∷ all) zero blank each = each.0
text-passes P (word ∷ all) (suc place) blank each = text-passes P all place blank each.1

-- a word of a printable card, or none
pub word_text-is : (card : List ℕ) (place : ℕ) → list_all is_printable card ≡ true → IsWordText (word_text card place)
word_text-is card place printable = text-passes IsWordText (words card) place refl (words-texts card printable)

-- a word is a name where it isn't longer than names are
pub short-name : (found : Option Name) (word : List ℕ) → IsWordText word → IsSome found ↔ IsName word → IfSome found (λ name. name ≡ word) →
    found ≡ short_name word
short-name None word is named value = by (nat_le (length word) 8) refl
  where
    by : (b : Bool) → nat_le (length word) 8 ≡ b → None ≡ cond b (Some word) None
    by true short =
        absurd (cc (named.1 (record { short = leb-true (length word) 8 short; printable = word-printable word is; trimmed = word-trimmed word is })))
    by false long = refl
short-name (Some name) word is named value = ap Some value ∙ ap (λ b. cond b (Some word) None) (sym (le-leb (length word) 8 (named.0 refl).short))
