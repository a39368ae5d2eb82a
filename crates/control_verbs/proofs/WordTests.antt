-- Tables of words in two parts.
use Rattle.std.proofs.Common.{◌≡◌, ℕ, zero, suc, Bool, true, false, cond, List, [], ◌∷◌, Some, take, drop, refl}
use Rattle.std.specs.Prelude.{bytes_eq, find, option_map}
use Rattle.std.specs.Option.{option_or}
use Rattle.card_definitions.specs.Words.{named}
use Rattle.control_definitions.specs.Verbs.{verb_words}
use Rattle.control_verbs.specs.Views.{alone_words, argument_words}

-- what a table has for a word is what its prefix has, or else what the rest has
named_cut : {X : Type 0} (n : ℕ) (lines : List (List ℕ × X)) (word : List ℕ) →
    named lines word ≡ option_or (named (take n lines) word) (named (drop n lines) word)
named_cut zero lines word = refl
named_cut (suc n) [] word = refl
named_cut {X} (suc n) (line ∷ lines) word = by (bytes_eq line.0 word) (named_cut n lines word)
  where
    by : (t : Bool) → named lines word ≡ option_or (named (take n lines) word) (named (drop n lines) word)
        → option_map (λ (line : List ℕ × X). line.1) (cond t (Some line) (find (λ line. bytes_eq line.0 word) lines))
        ≡ option_or (option_map (λ (line : List ℕ × X). line.1) (cond t (Some line) (find (λ line. bytes_eq line.0 word) (take n lines))))
        (named (drop n lines) word)
    by true rest = refl
    by false rest = rest

pub words_in_two_tables : (word : List ℕ) → named verb_words word ≡ option_or (named alone_words word) (named argument_words word)
words_in_two_tables word = named_cut 13 verb_words word
