-- The faults of the parts on a card, of the one in fields 3 and 4 and then of that in fields 5 and 6.
use Rattle.std.proofs.Common.{◌≡◌, List, [], ◌∷◌, ◌++◌, Option, Some, None, map, refl, ap, sym, ◌∙◌, append_assoc, append-nil}
use Rattle.std.specs.Option.{option_or}
use Rattle.problem_definitions.specs.Names.{Name}
use Rattle.problem_definitions.specs.Problem.{Row, Entry}
use Rattle.deck_definitions.specs.declared.DeckFaultKind.{DeckFaultKind}
use Rattle.deck_definitions.specs.declared.Section.TheVariants.{Rows}
use Rattle.deck_definitions.specs.DataCards.{Pair, entry_of}
use Rattle.deck_definitions.specs.Tests.{pair_fault}
use Rattle.deck_definitions.proofs.Pairs.{pairs_fault-cons}
use Rattle.card_reader.specs.declared.stop.CardStop.{CardStop}
use Rattle.card_reader.specs.declared.stop.CardStop.TheVariants.{Fault, NoMemory}
use Rattle.deck_fields.specs.Reported.{ReportsDeckFault}
use Rattle.named_problem.specs.Views.{rows_alone, parts_fault}

-- what tells the first of two faults tells both
pub reported_first : (a b : Option DeckFaultKind) (stop : CardStop DeckFaultKind) → ReportsDeckFault a stop → ReportsDeckFault (option_or a b) stop
reported_first a b (Fault kind) tells = ap (λ fault. option_or fault b) tells
reported_first a b NoMemory tells = tt

or_assoc : (a b c : Option DeckFaultKind) → option_or a (option_or b c) ≡ option_or (option_or a b) c
or_assoc None b c = refl
or_assoc (Some kind) b c = refl

module _ (rows : List (Row Name)) where
  -- the second parts are tested as if the first were there
  pub parts-append : (parts : List (Entry Name)) (first second : List Pair) →
      parts_fault rows parts (first ++ second) ≡ option_or (parts_fault rows parts first) (parts_fault rows (parts ++ map entry_of first) second)
  parts-append parts [] second = ap (λ parts. parts_fault rows parts second) (sym (append-nil parts))
  parts-append parts (pair ∷ first) second =
      pairs_fault-cons (rows_alone rows) Rows parts 0 pair (first ++ second)
      ∙ ap (option_or (pair_fault (rows_alone rows) Rows parts 0 pair))
      (parts-append (parts ++ entry_of pair ∷ []) first second
      ∙ ap (λ parts. option_or (parts_fault rows (parts_so_far) first) (parts_fault rows parts second))
      (append_assoc parts (entry_of pair ∷ []) (map entry_of first)))
      ∙ or_assoc (pair_fault (rows_alone rows) Rows parts 0 pair) (parts_fault rows parts_so_far first)
      (parts_fault rows (parts ++ map entry_of (pair ∷ first)) second)
      ∙ ap (λ fault. option_or fault (parts_fault rows (parts ++ map entry_of (pair ∷ first)) second))
      (sym (pairs_fault-cons (rows_alone rows) Rows parts 0 pair first))
    where
      parts_so_far : List (Entry Name)
      parts_so_far = parts ++ entry_of pair ∷ []

  -- after first parts without a fault
  pub second_parts : (parts mid : List (Entry Name)) (first second : List Pair) → parts_fault rows parts first ≡ None → mid ≡ parts ++ map entry_of first →
      parts_fault rows mid second ≡ parts_fault rows parts (first ++ second)
  second_parts parts mid first second fine step =
      ap (λ parts. parts_fault rows parts second) step ∙ ap (λ fault. option_or fault (parts_fault rows (parts ++ map entry_of first) second)) (sym fine)
      ∙ sym (parts-append parts first second)
