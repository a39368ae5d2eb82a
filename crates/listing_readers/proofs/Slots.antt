-- What stands at the places of a line, one after another.
use Rattle.std.proofs.Common.{◌≡◌, ◌+◌, ◌<◌, ℕ, suc, List, [], ◌∷◌, ◌++◌, map, drop, length, get_or, Option, Some, Err, refl, sym, ap, ap₂, ◌∙◌, arith}
use Rattle.std.proofs.Common.{append_assoc}
use Rattle.std.specs.Prelude.{slice_get}
use Rattle.std.proofs.Math.Seq.{drop-cons}
use Rattle.exact_values.specs.Rational.{ℚ}
use Rattle.listing_definitions.specs.Report.{Value}
use Rattle.walk_definitions.specs.Tables.{Slot, slot_in, then_more, values_in, number_of}
use Rattle.walk_definitions.proofs.Lines.{prefixed, prefixed_none, prefixed_twice}
use Rattle.listing_readers.specs.declared.tables.Numbers.{Numbers}
use Rattle.listing_readers.specs.declared.tables.Slot as declared
use Rattle.listing_readers.specs.declared.unread.Unread.{Unread}
use Rattle.listing_readers.specs.declared.unread.Unread.TheVariants.{Absent, NoMemory}
use Rattle.listing_readers.specs.Results.{IfRead}
use Rattle.listing_readers.specs.Tables.{slot_view, kept, kept_from, no_numbers, numbers_in, AreRead, IsSlotTaken}

at_end : (values more : List Value) (value : Value) → slice_get (values ++ value ∷ more) (length values) ≡ Some value
at_end [] more value = refl
at_end (v ∷ values) more value = at_end values more value

length_more : (values : List Value) (value : Value) → length (values ++ value ∷ []) ≡ suc (length values)
length_more [] value = refl
length_more (v ∷ values) value = ap suc (length_more values value)

module _ (of : List ℕ → Option ℚ) (slots : List declared.Slot) (old : List ℕ) where
  abbrev views : List declared.Slot → List Slot
  views = map slot_view

  -- these values were read, and what is kept of more is known
  pub record AreTakenSoFar (i : ℕ) (now : List ℕ) (numbers : Numbers) : Type 0 where
    pub values : List Value
    pub counted : length values ≡ i
    pub whole : values_in of (views slots) old ≡ prefixed values (values_in of (views (drop i slots)) now)
    pub keeps : (more : List Value) → numbers_in slots (values ++ more) ≡ kept_from (drop i slots) i (values ++ more) numbers

  pub slots_begin : AreTakenSoFar 0 old no_numbers
  slots_begin = record { values = []; counted = refl; whole = sym (prefixed_none (values_in of (views slots) old)); keeps = λ more. refl }

  module _ (i : ℕ) (d : declared.Slot) (now new : List ℕ) (numbers after : Numbers) (inside : i < length slots) (so_far : AreTakenSoFar i now numbers) where
    abbrev rest : List declared.Slot
    rest = drop (i + 1) slots

    abbrev slot : declared.Slot
    slot = get_or slots i d

    opened : drop i slots ≡ slot ∷ rest
    opened = let next : suc i ≡ i + 1 = omega arith in drop-cons slots i d inside ∙ ap (λ n. slot ∷ drop n slots) next

    whole_opened : values_in of (views slots) old ≡ prefixed so_far.values (then_more (slot_in of (slot_view slot) now) (values_in of (views rest)))
    whole_opened = so_far.whole ∙ ap (λ ss. prefixed so_far.values (values_in of (views ss) now)) opened

    pub slots_go_on : IsSlotTaken of slot now new numbers after (Some tt) → AreTakenSoFar (i + 1) new after
    slots_go_on taken =
        let values = so_far.values in
        let value = taken.0 in
        let next : suc (length values) ≡ i + 1 = omega (arith, so_far.counted) in
        record {
          values = values ++ value ∷ [];
          counted = length_more values value ∙ next;
          whole =
              whole_opened ∙ ap (λ o. prefixed values (then_more o (values_in of (views rest)))) taken.1
              ∙ prefixed_twice values (value ∷ []) (values_in of (views rest) new);
          keeps = λ more.
              let joined : (values ++ value ∷ []) ++ more ≡ values ++ value ∷ more = append_assoc values (value ∷ []) more in
              let read : slice_get (values ++ value ∷ more) i ≡ Some value = ap (slice_get (values ++ value ∷ more)) (sym so_far.counted)
              ∙ at_end values more value in
              ap (numbers_in slots) joined ∙ so_far.keeps (value ∷ more)
              ∙ ap (λ ss. kept_from ss i (values ++ value ∷ more) numbers) opened
              ∙ ap (λ o. kept_from rest (i + 1) (values ++ value ∷ more) (kept slot (number_of o) numbers)) read
              ∙ ap₂ (λ vs n. kept_from rest (i + 1) vs n) (sym joined) (sym taken.2);
        }

    pub slots_fail : (stop : Unread) → IfRead (Err stop) (IsSlotTaken of slot now new numbers after) →
        IfRead (Err stop) (AreRead of (numbers_in slots) (views slots) old new)
    slots_fail Absent none = whole_opened ∙ ap (λ o. prefixed so_far.values (then_more o (values_in of (views rest)))) none
    slots_fail NoMemory none = none

  pub slots_end : (i : ℕ) (now : List ℕ) (numbers : Numbers) → AreTakenSoFar i now numbers → drop i slots ≡ [] →
      AreRead of (numbers_in slots) (views slots) old now (Some numbers)
  slots_end i now numbers so_far over = (
    so_far.values ++ [],
    so_far.whole ∙ ap (λ ss. prefixed so_far.values (values_in of (views ss) now)) over,
    sym (so_far.keeps [] ∙ ap (λ ss. kept_from ss i (so_far.values ++ []) numbers) over),
  )
