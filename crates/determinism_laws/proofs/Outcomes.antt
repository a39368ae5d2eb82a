-- Two outcomes of a move are the same, or one of them is a stop for an overflow.
use Rattle.std.proofs.Common.{inl, inr, ℕ, sym, ap, ◌∙◌}
use Rattle.std.specs.Prelude.{Option}
use Rattle.lp_definitions.specs.declared.Evidence.{Evidence}
use Rattle.listing_definitions.specs.Ending.{Place}
use Rattle.question_definitions.specs.Solving.{Solving}
use Rattle.run_definitions.specs.Moves.{StatementOutcome, StatementMove, Does, MayStop, Asks, Gives, Shows, StopsBy}
use Rattle.determinism_laws.specs.Laws.{AsksOnce, IsOverflowStop, IsSameOrStop}

module _ (S : Solving) (card : ℕ) where
  stopped : (Holds : Evidence → Option Place → Type 0) (outcome : StatementOutcome) → StopsBy card Holds outcome → IsOverflowStop outcome
  stopped Holds outcome stop = (record { evidence = stop.0; place = stop.1; card = card }, stop.3)

  pub outcomes : (move : StatementMove) (a b : StatementOutcome) → AsksOnce S move → Gives S card move a → Gives S card move b → IsSameOrStop a b
  outcomes (Does outcome) a b once first second = inl (first ∙ sym second)
  outcomes (MayStop refusals move) a b once (inl first) (inl second) = outcomes move a b once first second
  outcomes (MayStop refusals move) a b once (inr stop) second = inr (inl (stopped (Shows S refusals) a stop))
  outcomes (MayStop refusals move) a b once (inl first) (inr stop) = inr (inr (stopped (Shows S refusals) b stop))
  outcomes (Asks question sheet s go) a b once first second = inl (first.2 ∙ ap go (once first.0 second.0 first.1 second.1) ∙ sym second.2)
