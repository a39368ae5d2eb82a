-- Where the cards stand in the bytes of a job.
use Rattle.std.specs.Prelude.{ℕ, ◌≤◌, List, length, map, slice_range, All, IsTrue}
use Rattle.std.specs.List.{list_all}
use Rattle.card_definitions.specs.Cards.{is_printable}
use Rattle.card_definitions.specs.declared.TheConstants.{MAX_JOB_CARDS, CARD_COLUMNS}
use Rattle.card_reader.specs.declared.span.Span.{Span}

-- the bytes of a span
abbrev pub span_bytes : List ℕ → Span → List ℕ
span_bytes bytes span = slice_range bytes span.start span.end

-- the cards that some spans mark
abbrev pub cards_at : List ℕ → List Span → List (List ℕ)
cards_at bytes spans = map (span_bytes bytes) spans

-- the span lies within this many bytes
pub record IsWithin (len : ℕ) (span : Span) : Type 0 where
  pub ordered : span.start ≤ span.end
  pub ends : span.end ≤ len

-- a card without a fault has printable bytes alone, and at most 80
pub record IsFaultless (card : List ℕ) : Type 0 where
  pub printable : IsTrue (list_all is_printable card)
  pub short : length card ≤ CARD_COLUMNS

-- the spans lie within the bytes, are no more than a job may have cards, and mark cards without a fault
pub record AreSpans (bytes : List ℕ) (spans : List Span) : Type 0 where
  pub within : All (IsWithin (length bytes)) spans
  pub few : length spans ≤ MAX_JOB_CARDS
  pub faultless : All IsFaultless (cards_at bytes spans)
