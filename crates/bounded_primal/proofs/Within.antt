-- The bases in which waypoints lie, where more bases follow.
use Rattle.std.proofs.Common.{◌≡◌, inl, inr, List, [], ◌∷◌, ◌++◌, map, get_or, subst}
use Rattle.std.proofs.lemmas.List.Elements.{All-contains}
use Rattle.lp_definitions.specs.LinearProgram.{Matrix}
use Rattle.lp_definitions.specs.Basis.{Basics, basics_of}
use Rattle.lp_definitions.specs.Waypoints.{IsWithinOne, IsKept, KeepsWaypoints}
use Rattle.lp_definitions.specs.declared.Status.{Status}
use Rattle.lp_laws.proofs.WaypointLaws.{Covers, Covers-all, within_itself, within_by}
use Rattle.basis_values.specs.Calls.{LieIn}

module _ (a : Matrix) where
  within_more : (w : Basics) (xs ys : List (List Status)) → IsWithinOne a w (map basics_of xs) → IsWithinOne a w (map basics_of (xs ++ ys))
  within_more w [] ys h = elim h [ ]
  within_more w (x ∷ xs) ys (inl h) = inl h
  within_more w (x ∷ xs) ys (inr h) = inr (within_more w xs ys h)

  pub within_last : (xs : List (List Status)) (s : List Status) → IsWithinOne a (basics_of s) (map basics_of (xs ++ s ∷ []))
  within_last [] s = inl (within_itself a (basics_of s))
  within_last (x ∷ xs) s = inr (within_last xs s)

  covers_more : (ways : List Basics) (xs ys : List (List Status)) → Covers a ways (map basics_of xs) → Covers a ways (map basics_of (xs ++ ys))
  covers_more [] xs ys h = tt
  covers_more (w ∷ ways) xs ys h = (within_more w xs ys h.0, covers_more ways xs ys h.1)

  -- s, the basis ahead and the waypoints lie in the bases up to the one ahead
  pub covers_ahead : (earlier : List (List Status)) (s next : List Status) (ahead : Basics) (ways : List Basics) → basics_of next ≡ ahead →
      LieIn a ways (earlier ++ s ∷ []) → Covers a (basics_of s ∷ ahead ∷ ways) (map basics_of ((earlier ++ s ∷ []) ++ next ∷ []))
  covers_ahead earlier s next ahead ways leads lie = (
    within_more (basics_of s) (earlier ++ s ∷ []) (next ∷ []) (within_last earlier s),
    (
      subst (λ (b : Basics). IsWithinOne a b (map basics_of ((earlier ++ s ∷ []) ++ next ∷ []))) leads (within_last (earlier ++ s ∷ []) next),
      covers_more ways (earlier ++ s ∷ []) (next ∷ []) (Covers-all a ways (map basics_of (earlier ++ s ∷ [])) lie),
    ),
  )

  -- a step to next, whose calls kept the waypoints
  pub lie_more : (xs : List (List Status)) (now next : List Status) (ways more : List Basics) → KeepsWaypoints a (basics_of now) ways (basics_of next) more →
      LieIn a ways (xs ++ now ∷ []) → LieIn a more ((xs ++ now ∷ []) ++ next ∷ [])
  lie_more xs now next ways more keeps lie k d below = place (get_or more k d) (keeps.each k d below)
    where
      place : (w : Basics) → IsKept a (basics_of now) ways (basics_of next) w → IsWithinOne a w (map basics_of ((xs ++ now ∷ []) ++ next ∷ []))
      place w (inl old) = within_more w (xs ++ now ∷ []) (next ∷ []) (All-contains (λ w. IsWithinOne a w (map basics_of (xs ++ now ∷ []))) ways w lie old)
      place w (inr (inl within)) =
          within_more w (xs ++ now ∷ []) (next ∷ []) (within_by a w (basics_of now) (map basics_of (xs ++ now ∷ [])) within (within_last xs now))
      place w (inr (inr within)) = within_by a w (basics_of next) (map basics_of ((xs ++ now ∷ []) ++ next ∷ [])) within (within_last (xs ++ now ∷ []) next)

  -- calls at the basis that is reached
  pub lie_same : (xs : List (List Status)) (now : List Status) (ways more : List Basics) → KeepsWaypoints a (basics_of now) ways (basics_of now) more →
      LieIn a ways (xs ++ now ∷ []) → LieIn a more (xs ++ now ∷ [])
  lie_same xs now ways more keeps lie k d below = place (get_or more k d) (keeps.each k d below)
    where
      place : (w : Basics) → IsKept a (basics_of now) ways (basics_of now) w → IsWithinOne a w (map basics_of (xs ++ now ∷ []))
      place w (inl old) = All-contains (λ w. IsWithinOne a w (map basics_of (xs ++ now ∷ []))) ways w lie old
      place w (inr (inl within)) = within_by a w (basics_of now) (map basics_of (xs ++ now ∷ [])) within (within_last xs now)
      place w (inr (inr within)) = within_by a w (basics_of now) (map basics_of (xs ++ now ∷ [])) within (within_last xs now)
