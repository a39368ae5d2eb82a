-- The statements of a program are sound.
use Rattle.std.proofs.Common.{◌≡◌, ℕ, ◌≤◌, List, All, IfSome, Some, length, slice_get, sym, ap, subst, ◌∙◌, arith}
use Rattle.std.specs.Prelude.{unwrap_or}
use Rattle.std.proofs.lemmas.Option.{slice_get_within, unwrap_or-slice_get}
use Rattle.control_definitions.specs.declared.TheConstants.{MAX_STEPS}
use Rattle.control_definitions.specs.Program.{Verb, Statement, Program, MoveLimit, Mvadr, Goto, label_argument}
use Rattle.control_compiler.specs.Valid.{moved_limit, IsPosition, IsProgram}
use Rattle.run_machine.specs.Statements.{IsSoundVerb}

each_at : {X : Type 0} (P : X → Type 0) (xs : List X) (k : ℕ) (x : X) → slice_get xs k ≡ Some x → All P xs → P x
each_at P xs k x e all = subst P (sym (unwrap_or-slice_get xs k x) ∙ ap (λ o. unwrap_or o x) e) (all k x (slice_get_within xs k x e))

sound_by : (count : ℕ) (verb : Verb ℕ) → IfSome (label_argument verb) (IsPosition count) → IfSome (moved_limit verb) (λ limit. limit ≤ MAX_STEPS) →
    IsSoundVerb verb
sound_by count (MoveLimit limit) position few = few
sound_by count (Mvadr demand to) position few = omega (arith, position.first)
sound_by count (Goto to) position few = omega (arith, position.first)
sound_by count _ position few = tt

pub sound_statement : (program : Program) (k : ℕ) (statement : Statement ℕ) → IsProgram program → slice_get program.statements k ≡ Some statement →
    IsSoundVerb statement.verb
sound_statement program k statement valid there =
    sound_by (length program.statements) statement.verb
    (each_at (λ (s : Statement ℕ). IfSome (label_argument s.verb)
    (IsPosition (length program.statements))) program.statements k statement there valid.positions)
    (each_at (λ (s : Statement ℕ). IfSome (moved_limit s.verb) (λ limit. limit ≤ MAX_STEPS)) program.statements k statement there valid.limits)
