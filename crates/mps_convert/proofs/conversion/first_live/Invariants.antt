-- Each card so far is skipped.
use Rattle.std.proofs.Common.{◌≡◌, []}
use Rattle.card_definitions.specs.Cards.{live}
use Rattle.deck_fields.proofs.Between.{cards_up_to}
use Rattle.mps_convert.proofs.conversion.first_live.Given as goal

abbrev pub invariant-loop-number : goal.invariant-loop-number
invariant-loop-number l = live (cards_up_to l.first l.number l.cards) ≡ []
