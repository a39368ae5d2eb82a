-- The parts in which an overflow is written.
use Rattle.std.proofs.Common.{◌≡◌, ℕ, ◌++◌, List, [], ◌∷◌, Some, None, codes, map, length, refl, sym, ◌∙◌, ap, append_assoc, arith}
use Rattle.std.specs.List.{concat, flat_map}
use Rattle.std.proofs.lemmas.List.Concat.{flat_map-append}
use Rattle.std.proofs.lemmas.List.{append-nil}
use Rattle.listing_definitions.specs.Numbers.{digits}
use Rattle.listing_definitions.specs.Listing.{overflow_text}
use Rattle.listing_definitions.specs.Text.{refused_text}
use Rattle.lp_definitions.specs.declared.Evidence.{Evidence}
use Rattle.listing_definitions.specs.Ending as endings
use Rattle.std.specs.Prelude.{Option}
use Rattle.report_text.specs.Views.{letters_of, evidence_tail, place_text}

-- one letter for each
pub letters_mapped : {X : Type 0} (letter : X → ℕ) (items : List X) → flat_map (letters_of letter) items ≡ map letter items
letters_mapped letter [] = refl
letters_mapped letter (x ∷ xs) = ap (λ rest. letter x ∷ rest) (letters_mapped letter xs)

pub overflow_parts : (e : Evidence) (place : Option endings.Place) (card : ℕ) →
    concat (codes "STOP 20 OVERFLOW F" ∷ digits e.formula ∷ codes " " ∷ refused_text e.refused ∷ []) ++
    (concat (evidence_tail e ∷ codes " CARD " ∷ digits card ∷ codes "\n" ∷ []) ++ place_text place) ≡ overflow_text
    (record { evidence = e; place = place; card = card })
overflow_parts e None card = simp append_assoc
overflow_parts e (Some place) card = simp (letters_mapped, append_assoc)

-- a piece of the letters that are left, and then the others
pub letters_in_pieces : {X : Type 0} (f : X → List ℕ) (done whole : List ℕ) (rest piece after : List X) → rest ≡ piece ++ after →
    done ++ flat_map f rest ≡ whole → (done ++ flat_map f piece) ++ flat_map f after ≡ whole
letters_in_pieces f done whole rest piece after are all =
    append_assoc done (flat_map f piece) (flat_map f after) ∙ ap (λ t. done ++ t) (sym (ap (flat_map f) are ∙ flat_map-append f piece after)) ∙ all

pub no_letters_left : {X : Type 0} (f : X → List ℕ) (done whole : List ℕ) (rest : List X) → length rest ≡ 0 → done ++ flat_map f rest ≡ whole → done ≡ whole
no_letters_left f done whole [] none all = sym (append-nil done) ∙ all
no_letters_left f done whole (x ∷ xs) none all = absurd (omega (arith, none))
