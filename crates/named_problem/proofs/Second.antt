-- The second pair of a card, after a first without a fault.
use Rattle.std.proofs.Common.{◌≡◌, ℕ, ◌+◌, List, [], ◌∷◌, ◌++◌, None, ap, sym, ◌∙◌}
use Rattle.std.specs.Option.{option_or}
use Rattle.problem_definitions.specs.Names.{Name}
use Rattle.problem_definitions.specs.Problem.{Problem, Entry}
use Rattle.deck_definitions.specs.declared.Section.{Section}
use Rattle.deck_definitions.specs.DataCards.{Pair, entry_of}
use Rattle.deck_definitions.specs.Tests.{pair_fault, pairs_fault}
use Rattle.deck_definitions.proofs.Pairs.{pairs_fault-cons}
use Rattle.card_definitions.proofs.FirstFaults.{or_none}

pub second_tells : (seen : Problem Name) (section : Section) (taken mid : List (Entry Name)) (count : ℕ) (first second : Pair) (pairs : List Pair)
    → pair_fault seen section taken count first ≡ None → mid ≡ taken ++ entry_of first ∷ [] → pairs ≡ first ∷ second ∷ []
    → pair_fault seen section mid (count + 1) second ≡ pairs_fault seen section taken count pairs
second_tells seen section taken mid count first second pairs none step are =
    ap (λ items. pair_fault seen section items (count + 1) second) step
    ∙ sym (ap (pairs_fault seen section taken count) are ∙ pairs_fault-cons seen section taken count first (second ∷ [])
    ∙ ap (λ o. option_or o (pairs_fault seen section (taken ++ entry_of first ∷ []) (count + 1) (second ∷ []))) none
    ∙ pairs_fault-cons seen section (taken ++ entry_of first ∷ []) (count + 1) second []
    ∙ or_none (pair_fault seen section (taken ++ entry_of first ∷ []) (count + 1) second))
