-- Columns of the deck in machine words.
--     fraction_entry w             the number of a column that this one is
--     AreWordsOf c ws              these are the numbers of the column c, in its order
--     AreWordColumns cs ws         for each column its numbers in words, or none
use Rattle.std.specs.Prelude.{◌≡◌, ℕ, ◌<◌, List, length, map, slice_index_or, Option, IfSome, Vec}
use Rattle.std.specs.Global.{Global}
use Rattle.exact_values.specs.Rational.{whole}
use Rattle.lp_definitions.specs.declared.Entry.{Entry}
use Rattle.eta_file.specs.declared.words.WordEntry.{WordEntry}

abbrev pub fraction_entry : WordEntry → Entry
fraction_entry w = record { row = w.row; value = whole w.value }

abbrev pub AreWordsOf : List Entry → List WordEntry → Type 0
AreWordsOf c ws = map fraction_entry ws ≡ c

pub record AreWordColumns (columns : List (List Entry)) (words : List (Option (Vec WordEntry Global))) : Type 0 where
  pub counted : length words ≡ length columns
  pub each : (k : ℕ) (c : List Entry) (w : Option (Vec WordEntry Global)) → k < length columns →
      IfSome (slice_index_or words k w) (λ known. AreWordsOf (slice_index_or columns k c) known.items)
