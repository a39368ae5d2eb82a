-- What a move comes to, whatever is right of linear programming, it comes to by what is right.
use Rattle.std.proofs.Common.{ℕ, inl}
use Rattle.question_definitions.specs.Solving.{Solving}
use Rattle.run_definitions.specs.Moves.{StatementOutcome, StatementMove, Does, MayStop, Asks, Gives, DecidesAlone}

pub settles_gives : (S : Solving) (card : ℕ) (move : StatementMove) (outcome : StatementOutcome) → DecidesAlone card move outcome → Gives S card move outcome
settles_gives S card (Does given) outcome settles = settles
settles_gives S card (MayStop refusals move) outcome settles = inl (settles_gives S card move outcome settles)
settles_gives S card (Asks question sheet s go) outcome settles = absurd settles
