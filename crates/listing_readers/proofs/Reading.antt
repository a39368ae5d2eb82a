-- Lines and tables of numbers, read one after another.
use Rattle.std.proofs.Common.{◌≡◌, ℕ, ◌+◌, ◌-◌, ◌<◌, List, [], ◌∷◌, ◌++◌, map, Option, Some, None, refl, sym, ap, ap₂, ◌∙◌}
use Rattle.std.specs.Prelude.{codes}
use Rattle.std.proofs.lemmas.List.{map_push}
use Rattle.exact_values.specs.Rational.{ℚ}
use Rattle.lp_definitions.specs.LinearProgram.{numbers_from}
use Rattle.listing_definitions.specs.Report.{Line}
use Rattle.question_definitions.specs.Answers.{Sheet}
use Rattle.walk_definitions.specs.Words.{left_after}
use Rattle.walk_definitions.specs.Tables.{line_head, line_of, table_in}
use Rattle.walk_definitions.proofs.Lines.{prefixed, prefixed_none, whole_line, one_more, no_more, all_read, next_number}
use Rattle.listing_readers.specs.declared.tables.Numbers.{Numbers}
use Rattle.listing_readers.specs.declared.tables.Shape.{Shape}
use Rattle.listing_readers.specs.Tables.{slots_of, numbers_of, AreRead, IsLineRead, IsTableRead}

module _ (of : List ℕ → Option ℚ) (sheet : Sheet) (shape : Shape) where
  -- ---- a line

  pub line_read : (k : ℕ) (old left last new : List ℕ) (numbers : Numbers) → left_after (line_head sheet k) old ≡ Some left →
      AreRead of (numbers_of shape) (slots_of shape sheet k) left last (Some numbers) →
      left_after (codes "\n") last ≡ Some new → IsLineRead of sheet shape k old new (Some numbers)
  line_read k old left last new numbers head read end =
      (line_of sheet k read.0, whole_line of sheet (slots_of shape sheet k) k old left read.0 last new head read.1 end, refl, read.2)

  -- ---- a table

  abbrev pub line_numbers : Line → Numbers
  line_numbers line = numbers_of shape line.values

  -- some lines were read, and these variables are left
  pub record IsReadSoFar (all : List ℕ) (old : List ℕ) (k left : ℕ) (rest : List ℕ) (numbers : List Numbers) : Type 0 where
    pub lines : List Line
    pub whole : table_in of sheet (slots_of shape sheet) all old ≡ prefixed lines (table_in of sheet (slots_of shape sheet) (numbers_from k left) rest)
    pub are : numbers ≡ map line_numbers lines

  pub table_begins : (first count : ℕ) (old : List ℕ) → IsReadSoFar (numbers_from first count) old first count old []
  table_begins first count old =
      record { lines = []; whole = sym (prefixed_none (table_in of sheet (slots_of shape sheet) (numbers_from first count) old)); are = refl }

  pub table_goes_on : (all old : List ℕ) (k left : ℕ) (rest new : List ℕ) (numbers : List Numbers) (next : Numbers) → IsReadSoFar all old k left rest numbers →
      0 < left →
      IsLineRead of sheet shape k rest new (Some next) → IsReadSoFar all old (k + 1) (left - 1) new (numbers ++ next ∷ [])
  table_goes_on all old k left rest new numbers next so_far some read =
      let slots = slots_of shape sheet in
      let here : table_in of sheet slots all old ≡ prefixed so_far.lines (table_in of sheet slots (k ∷ numbers_from (k + 1) (left - 1)) rest) =
      so_far.whole ∙ ap (λ ks. prefixed so_far.lines (table_in of sheet slots ks rest)) (next_number k left some) in
      record {
        lines = so_far.lines ++ read.0 ∷ [];
        whole = one_more of sheet slots so_far.lines k (numbers_from (k + 1) (left - 1)) rest read.0 new (table_in of sheet slots all old) here read.1;
        are = ap₂ (λ ns n. ns ++ n ∷ []) so_far.are read.3 ∙ sym (map_push line_numbers so_far.lines read.0);
      }

  pub table_fails : (all old : List ℕ) (k left : ℕ) (rest new : List ℕ) (numbers : List Numbers) → IsReadSoFar all old k left rest numbers → 0 < left →
      IsLineRead of sheet shape k rest new None → table_in of sheet (slots_of shape sheet) all old ≡ None
  table_fails all old k left rest new numbers so_far some none =
      let slots = slots_of shape sheet in
      let here : table_in of sheet slots all old ≡ prefixed so_far.lines (table_in of sheet slots (k ∷ numbers_from (k + 1) (left - 1)) rest) =
      so_far.whole ∙ ap (λ ks. prefixed so_far.lines (table_in of sheet slots ks rest)) (next_number k left some) in
      no_more of sheet slots so_far.lines k (numbers_from (k + 1) (left - 1)) rest (table_in of sheet slots all old) here none

  pub table_ends : (all old : List ℕ) (k left : ℕ) (rest : List ℕ) (numbers : List Numbers) → IsReadSoFar all old k left rest numbers → left ≡ 0 →
      IsTableRead of sheet shape all old rest (Some numbers)
  table_ends all old k left rest numbers so_far over =
      let slots = slots_of shape sheet in
      let here : table_in of sheet slots all old ≡ prefixed so_far.lines (table_in of sheet slots [] rest) =
      so_far.whole ∙ ap (λ n. prefixed so_far.lines (table_in of sheet slots (numbers_from k n) rest)) over in
      (so_far.lines, all_read of sheet slots so_far.lines rest (table_in of sheet slots all old) here, so_far.are)
