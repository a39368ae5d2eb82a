-- How calls at a basis keep its rates.
use Rattle.std.proofs.Common.{◌≡◌, List, ◌∙◌}
use Rattle.lp_definitions.specs.LinearProgram.{Matrix, LinearProgram}
use Rattle.lp_definitions.specs.Basis.{Basics, basics_of}
use Rattle.lp_definitions.specs.Waypoints.{KeepsWaypoints}
use Rattle.lp_definitions.specs.declared.Status.{Status}
use Rattle.lp_laws.proofs.WaypointLaws.{keeps_then, keeps_same}
use Rattle.basis_values.specs.Calls.{HasRates, KeepsRates}
use Rattle.basis_values.proofs.RatesStops.{keeps_at}

-- what makes no call
pub kept_same : {a : Matrix} {b : Basics} {p : LinearProgram} {s : List Status} (ways : List Basics) → HasRates a b p s → KeepsRates a b p s ways ways
kept_same {a} {b} {p} {s} ways has = (has, keeps_same p.matrix (basics_of s) ways)

-- a call of the rates
pub kept_by : {a c : Matrix} {b d : Basics} {p : LinearProgram} {s : List Status} {before after : List Basics} → HasRates a b p s → c ≡ a → d ≡ b →
    KeepsWaypoints a b before d after → KeepsRates c d p s before after
kept_by {a} {c} {b} {d} {p} {s} {before} {after} has same_matrix same_basics keeps = (
  record {
    is_basis = has.is_basis;
    nonsingular = has.nonsingular;
    same_matrix = same_matrix ∙ has.same_matrix;
    same_basics = same_basics ∙ has.same_basics;
  },
  keeps_at p s a b d before after has same_basics keeps,
)

-- a call after others
pub kept_then : {a c : Matrix} {b d : Basics} {p : LinearProgram} {s : List Status} {before mid after : List Basics} → KeepsRates a b p s before mid →
    KeepsRates c d p s mid after → KeepsRates c d p s before after
kept_then {a} {c} {b} {d} {p} {s} {before} {mid} {after} first second =
    (second.0, keeps_then p.matrix (basics_of s) before (basics_of s) mid after first.1 second.1)
