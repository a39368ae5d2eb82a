-- Fields that show what a card reads as, which is a reading.
use Rattle.std.proofs.Common.{◌≡◌, ℕ, List, sym, subst, arith}
use Rattle.card_definitions.specs.Fields.{Fixed, Reading, reading_of}
use Rattle.deck_definitions.specs.Readings.{IsReading}
use Rattle.deck_fields.specs.declared.texts.Fields.{Fields}
use Rattle.deck_fields.specs.Readings.{ShowsFields, fields_view}
use Rattle.deck_fields.specs.WordsViewed.{IsColumn}

module _ (f : Fields) (read : Reading) (shows : ShowsFields f read) where
  pub reported_is : fields_view f ≡ read
  reported_is = λ i. record {
    kind = shows.kind i;
    name1 = shows.name1 i;
    name2 = shows.name2 i;
    value1 = shows.value1 i;
    name3 = shows.name3 i;
    value2 = shows.value2 i;
    value1_column = shows.value1_column i;
    value2_column = shows.value2_column i;
  }

  pub is_reading : IsReading read → IsReading (fields_view f)
  is_reading reads = subst IsReading (sym reported_is) reads

-- those at fixed columns begin in columns of the card
pub fixed_columns : (f : Fields) (card : List ℕ) → ShowsFields f (reading_of Fixed card) → IsColumn f.value1_column × IsColumn f.value2_column
unfolding reading_of
fixed_columns f card shows =
    ((omega (arith, shows.value1_column), omega (arith, shows.value1_column)), (omega (arith, shows.value2_column), omega (arith, shows.value2_column)))
