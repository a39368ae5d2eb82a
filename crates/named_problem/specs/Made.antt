-- What is made of names and their values.
use Rattle.std.specs.Prelude.{◌≡◌, Result, IfOk}
use denote.Bor.{Bor}
use Rattle.problem_definitions.specs.Names.{Name}

-- what is asked of calls that make something of a name and its value: each that answers has made this
abbrev pub MakesEach : {V T E : Type 0} → (Bor Name → Bor V → Result T E → Type 0) → (Name × V → T) → Type 0
MakesEach makes made = (name : Bor Name) (value : Bor _) (result : Result _ _) → makes name value result → IfOk result (λ item. item ≡ made (name.now, value.now))
