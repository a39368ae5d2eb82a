-- What PUNCH and INSERT do with a basis.
--     ArePunched sheet s cards     the cards of the basis deck of s
--     IsInstalled sheet t end      what comes of the status list t that a deck stands for
use Rattle.std.specs.Prelude.{◌≡◌, ℕ, List}
use Rattle.lp_definitions.specs.LinearProgram.{Vector}
use Rattle.lp_definitions.specs.Basis.{basics_of, IsNonsingular}
use Rattle.simplex_definitions.specs.Path.{listed}
use Rattle.question_definitions.specs.Answers.{Basis, Sheet, InstallEnd, Installed, DependsBy}
use Rattle.basis_deck_definitions.specs.Writing.{basis_deck}
use Rattle.basis_deck_definitions.specs.Dependencies.{IsDependency}
use Rattle.answer_definitions.specs.Lines.{ray_lines}

-- PUNCH writes the deck of the present basis
abbrev pub ArePunched : Sheet → Basis → List (List ℕ) → Type 0
ArePunched sheet s cards = cards ≡ basis_deck sheet.problem sheet.lp s

-- The columns of the basics have an inverse; or the lines are the coefficients, other than 0, of the first dependency among them: of
-- the first basic column that is a combination of the basic columns before it and of the rows that are to be basic.
abbrev pub IsInstalled : Sheet → Basis → InstallEnd → Type 0
IsInstalled sheet t Installed = IsNonsingular sheet.lp.matrix (basics_of t)
IsInstalled sheet t (DependsBy lines) =
    (c : ℕ) × (d : Vector) × IsDependency sheet.lp.matrix (basics_of t) c d × (lines ≡ ray_lines sheet (listed sheet.lp.matrix d))
