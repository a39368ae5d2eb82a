-- Pieces of lines, one after another.
use Rattle.std.proofs.Common.{◌≡◌, ◌+◌, ◌<◌, ℕ, suc, List, [], ◌∷◌, ◌++◌, drop, length, get_or, Option, Some, None, refl, ap, sym, ◌∙◌, arith}
use Rattle.std.specs.Prelude.{option_and_then, is_some, Bool, true, false}
use Rattle.walk_definitions.specs.Words.{left_after}
use Rattle.listing_words.specs.Read.{taken}
use denote.Bor.{Bor}
use Rattle.std.specs.List.{flat_map}
use Rattle.std.proofs.Math.Seq.{drop-cons}
use Rattle.walk_definitions.specs.Forms as forms
use Rattle.walk_definitions.specs.Forms.{left_by, left_by_piece}
use Rattle.listing_readers.specs.declared.stops.Kind.{Kind}
use Rattle.listing_readers.specs.Pieces.{labelled}

-- some pieces, and then others
pub left_by_both : (first second : List forms.Piece) (rest : List ℕ) → left_by (first ++ second) rest ≡ option_and_then (left_by second) (left_by first rest)
left_by_both [] second rest = refl
left_by_both (piece ∷ pieces) second rest = by (left_by_piece piece rest) (left_by_both pieces second)
  where
    by : (left : Option (List ℕ)) → ((now : List ℕ) → left_by (pieces ++ second) now ≡ option_and_then (left_by second) (left_by pieces now)) →
        option_and_then (left_by (pieces ++ second)) left ≡ option_and_then (left_by second) (option_and_then (left_by pieces) left)
    by None both = refl
    by (Some left) both = both left

-- the words of a form, and the text at its end
module _ (words : List (Bor (List ℕ) × Kind)) (end old : List ℕ) where
  whole : left_by (flat_map labelled words ++ (forms.Text end ∷ [])) old
      ≡ option_and_then (left_by (forms.Text end ∷ [])) (left_by (flat_map labelled words) old)
  whole = left_by_both (flat_map labelled words) (forms.Text end ∷ []) old

  pub form_taken : (mid : List ℕ) → left_by (flat_map labelled words) old ≡ Some mid → (b : Bool) (new : List ℕ) → left_after end mid ≡ taken b new →
      b ≡ is_some (left_by (flat_map labelled words ++ (forms.Text end ∷ [])) old)
  form_taken mid e true new f =
      sym (ap is_some (whole ∙ ap (option_and_then (left_by (forms.Text end ∷ []))) e ∙ ap (option_and_then (left_by [])) f))
  form_taken mid e false new f =
      sym (ap is_some (whole ∙ ap (option_and_then (left_by (forms.Text end ∷ []))) e ∙ ap (option_and_then (left_by [])) f))

  pub form_missing : left_by (flat_map labelled words) old ≡ None → false ≡ is_some (left_by (flat_map labelled words ++ (forms.Text end ∷ [])) old)
  form_missing none = sym (ap is_some (whole ∙ ap (option_and_then (left_by (forms.Text end ∷ []))) none))

-- the words up to a place were taken, and these are left
module _ (words : List (Bor (List ℕ) × Kind)) (i : ℕ) (d : Bor (List ℕ) × Kind) (old now : List ℕ) (inside : i < length words)
    (left : left_by (flat_map labelled words) old ≡ left_by (flat_map labelled (drop i words)) now) where
  opened : left_by (flat_map labelled words) old
      ≡ option_and_then (left_by (flat_map labelled (drop (i + 1) words))) (left_by (labelled (get_or words i d)) now)
  opened =
      let next : suc i ≡ i + 1 = omega arith in
      left ∙ ap (λ ws. left_by (flat_map labelled ws) now) (drop-cons words i d inside ∙ ap (λ n. get_or words i d ∷ drop n words) next)
      ∙ left_by_both (labelled (get_or words i d)) (flat_map labelled (drop (i + 1) words)) now

  pub one_more : (new : List ℕ) → left_by (labelled (get_or words i d)) now ≡ Some new →
      left_by (flat_map labelled words) old ≡ left_by (flat_map labelled (drop (i + 1) words)) new
  one_more new next = opened ∙ ap (option_and_then (left_by (flat_map labelled (drop (i + 1) words)))) next

  pub no_more : left_by (labelled (get_or words i d)) now ≡ None → left_by (flat_map labelled words) old ≡ None
  no_more none = opened ∙ ap (option_and_then (left_by (flat_map labelled (drop (i + 1) words)))) none
