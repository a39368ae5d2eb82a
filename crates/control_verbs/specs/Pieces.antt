-- What the readers of this crate give, in the words of the definitions.
use Rattle.std.specs.Prelude.{ℕ, ◌-◌, List, [], ◌∷◌, Option, Some, None, take, drop, length, bytes_eq, if◌then◌else◌}
use denote.Ref.{Bor}
use Rattle.control_definitions.specs.Statements.{Arguments as Parts, Without as NoParts, Malformed as NoForm, With as TheParts, split_outside, is_comma}
use Rattle.control_definitions.specs.Statements.{is_quote}
use Rattle.control_verbs.specs.declared.words.Arguments.{Arguments}
use Rattle.control_verbs.specs.declared.words.Arguments.TheVariants.{Without, Malformed, With}

-- the arguments that a text between parentheses stands for
abbrev pub arguments_view : Arguments → Parts
arguments_view Without = NoParts
arguments_view Malformed = NoForm
arguments_view (With text) = TheParts (split_outside is_comma text.now)

-- the arguments in a text, where there is one
abbrev pub parts_after : Option (Bor (List ℕ)) → List (List ℕ)
parts_after None = []
parts_after (Some rest) = split_outside is_comma rest.now

-- the part of a list that has one
abbrev pub only_part : List (List ℕ) → Option (List ℕ)
only_part (part ∷ []) = Some part
only_part _ = None

-- the parts of a list that has two
abbrev pub two_parts : List (List ℕ) → Option (List ℕ × List ℕ)
two_parts (first ∷ second ∷ []) = Some (first, second)
two_parts _ = None

-- two borrowed texts
abbrev pub pair_view : Option (Bor (List ℕ) × Bor (List ℕ)) → Option (List ℕ × List ℕ)
pair_view None = None
pair_view (Some pair) = Some (pair.0.now, pair.1.now)

-- a text without the quote at its front, and without the one at its end
abbrev pub after_quote : List ℕ → Option (List ℕ)
after_quote [] = None
after_quote (byte ∷ text) = if is_quote byte then Some text else None

abbrev pub before_quote : List ℕ → Option (List ℕ)
before_quote text = if bytes_eq (drop (length text - 1) text) (39 ∷ []) then Some (take (length text - 1) text) else None
