-- What an inverse stands for.
--     Inverse         a matrix, and a set of basics of it
--     table_state     the state of its rates: a table passes through no waypoint
use Rattle.std.specs.Prelude.{[]}
use Rattle.lp_definitions.specs.LinearProgram.{Matrix}
use Rattle.lp_definitions.specs.Basis.{Basics}
use Rattle.lp_model.specs.RatesState.{RatesState}

pub record Inverse : Type 0 where
  pub matrix : Matrix
  pub basics : Basics

abbrev pub table_state : Inverse → RatesState
table_state a = record { matrix = a.matrix; basics = a.basics; waypoints = [] }
