-- Words and what they ask for, computed.
use Rattle.std.proofs.Common.{◌≡◌, List, [], ◌∷◌, codes, Option, None, Some, map, refl}
use Prim.Native.String.{String}
use Rattle.std.specs.Fmt.{digits}
use Rattle.command_line.specs.Sizes.{size_written}
use Rattle.command_line.specs.Requests.{asked}
use Rattle.command_line.specs.declared.request.Request.{Request}
use Rattle.command_line.specs.declared.request.Request.TheVariants.{Read, Make}

abbrev by : List String → Option Request
by words = asked (map codes words)

accepted : by [] ∷ by ("--" ∷ []) ∷ by ("--make" ∷ "2" ∷ []) ∷ by ("--make=60" ∷ []) ∷ by ("--make" ∷ "7" ∷ "--" ∷ []) ∷ []
    ≡ Some Read ∷ Some Read ∷ Some (Make 2) ∷ Some (Make 60) ∷ Some (Make 7) ∷ []
unfolding digits
accepted = refl

refused : by ("stray" ∷ []) ∷ by ("--make" ∷ []) ∷ by ("--make" ∷ "--" ∷ []) ∷ by ("--mak" ∷ "2" ∷ []) ∷ by ("--make" ∷ "2" ∷ "3" ∷ []) ∷ by
    ("--make=2" ∷ "--make=2" ∷ []) ∷ by ("--help" ∷ []) ∷ []
    ≡ None ∷ None ∷ None ∷ None ∷ None ∷ None ∷ None ∷ []
unfolding digits
refused = refl

no_sizes : map (λ word. size_written (codes word))
    ("0" ∷ "61" ∷ "02" ∷ "+2" ∷ "-2" ∷ "" ∷ "2 " ∷ "1e1" ∷ []) ≡ None ∷ None ∷ None ∷ None ∷ None ∷ None ∷ None ∷ None ∷ []
unfolding digits
no_sizes = refl
