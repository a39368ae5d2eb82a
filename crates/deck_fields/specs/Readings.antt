-- What the readers of this crate give, in the words of the definitions.
use Rattle.std.specs.Prelude.{◌≡◌, if◌then◌else◌, pos, neg_ℤ}
use Rattle.exact_values.specs.Rational.{ℚ, fraction}
use Rattle.card_definitions.specs.Fields.{Reading}
use Rattle.deck_fields.specs.declared.texts.Fields.{Fields}
use Rattle.deck_fields.specs.declared.reading.Quotient.{Quotient}

-- six borrowed fields hold the texts and the columns of a reading
pub record ShowsFields (fields : Fields) (reading : Reading) : Type 0 where
  pub kind : fields.kind.now ≡ reading.kind
  pub name1 : fields.name1.now ≡ reading.name1
  pub name2 : fields.name2.now ≡ reading.name2
  pub value1 : fields.value1.now ≡ reading.value1
  pub name3 : fields.name3.now ≡ reading.name3
  pub value2 : fields.value2.now ≡ reading.value2
  pub value1_column : fields.value1_column ≡ reading.value1_column
  pub value2_column : fields.value2_column ≡ reading.value2_column

-- the value of a quotient
abbrev pub quotient_value : Quotient → ℚ
quotient_value q = fraction (if q.is_negative then neg_ℤ (pos q.size) else pos q.size) q.denominator

-- what six borrowed fields show
abbrev pub fields_view : Fields → Reading
fields_view fields = record {
  kind = fields.kind.now;
  name1 = fields.name1.now;
  name2 = fields.name2.now;
  value1 = fields.value1.now;
  name3 = fields.name3.now;
  value2 = fields.value2.now;
  value1_column = fields.value1_column;
  value2_column = fields.value2_column;
}
