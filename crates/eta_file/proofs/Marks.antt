-- The marks of the rows.
use Rattle.std.proofs.Common.{◌≡◌, ℕ, ◌+◌, ◌-◌, ◌<◌, get_or, false, sym, ◌∙◌, ap, leb, ltb, arith}
use Rattle.lp_definitions.specs.LinearProgram.{Matrix, size}
use Rattle.lp_laws.proofs.Opening.{is_in-row_basics}
use Rattle.lp_definitions.specs.Basis.{row_basics}

pub row_mark : (a : Matrix) (i : ℕ) → i < size a → get_or (row_basics a) i false ≡ ltb i a.rows
row_mark a i below =
    let here : i + 1 - 1 ≡ i = omega arith in
    let same : leb (i + 1) a.rows ≡ ltb i a.rows = grind arith in
    ap (λ k. get_or (row_basics a) k false) (sym here) ∙ is_in-row_basics a (i + 1) (omega arith, omega (arith, below)) ∙ same
