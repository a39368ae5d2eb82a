-- The state of an inverse, and what a call leaves of it.
--     RatesState                   the matrix, the present basics and the waypoints
--     LeavesWaypoints before after    each waypoint was there before, or has its basic columns among the basics before or after the call
--     KeepsBasics before after     the call kept the matrix and the basics, and each waypoint was there before or has its basic columns
--                                  among them
use Rattle.std.specs.Prelude.{◌≡◌, List}
use Rattle.lp_definitions.specs.LinearProgram.{Matrix}
use Rattle.lp_definitions.specs.Basis.{Basics}
use Rattle.lp_definitions.specs.Waypoints.{KeepsWaypoints}

-- the numbers that the rates belong to, the present basics, and the sets that the inverse has passed through, from number 1
pub record RatesState : Type 0 where
  pub matrix : Matrix
  pub basics : Basics
  pub waypoints : List Basics

abbrev pub LeavesWaypoints : RatesState → RatesState → Type 0
LeavesWaypoints before after = KeepsWaypoints before.matrix before.basics before.waypoints after.basics after.waypoints

pub record KeepsBasics (before after : RatesState) : Type 0 where
  pub same_matrix : after.matrix ≡ before.matrix
  pub same_basics : after.basics ≡ before.basics
  pub waypoints : LeavesWaypoints before after
