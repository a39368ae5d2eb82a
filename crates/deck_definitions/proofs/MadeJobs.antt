-- The smallest generated jobs, computed.
use Rattle.std.specs.Prelude.{◌≡◌, refl, [], ◌∷◌, codes}
use Rattle.std.specs.Fmt.{digits}
use Rattle.deck_definitions.specs.Written.{data_card}
use Rattle.deck_definitions.specs.Transport.{made_job, route_cost, route}

two_costs : route_cost 1 1 ∷ route_cost 1 2 ∷ route_cost 2 1 ∷ route_cost 2 2 ∷ [] ≡ 19 ∷ 11 ∷ 7 ∷ 18 ∷ []
two_costs = refl

a_route : route 7 60 ≡ codes "X007060"
unfolding digits
a_route = refl

one_source : made_job 1 ≡ codes "         PROGRAM\n         INITIALZ\n         MOVE(XITERLIM,1000000)\n         CONVERT\n         SETUP\n         PRIMAL\n         EXIT\n         PEND\nNAME          TRANSP\nROWS\n N  COST\n L  S001\n G  D001\nCOLUMNS\n    X001001   COST      19\n    X001001   S001      1\n    X001001   D001      1\nRHS\n    RHS       S001      10\n    RHS       D001      10\nENDATA\n"
unfolding made_job data_card digits
one_source = refl
