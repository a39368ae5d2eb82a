-- Forms of lines, as they are looked for.
--     kind_view kind               the piece of a word of a kind
--     labelled word                a word of a kind after a text
--     form_view form               the pieces of a form
use Rattle.std.specs.Prelude.{ℕ, List, [], ◌∷◌, ◌++◌}
use denote.Bor.{Bor}
use Rattle.std.specs.List.{flat_map}
use Rattle.walk_definitions.specs.Forms as forms
use Rattle.listing_readers.specs.declared.stops.Form.{Form}
use Rattle.listing_readers.specs.declared.stops.Kind.{Kind}
use Rattle.listing_readers.specs.declared.stops.Kind.TheVariants.{Count, Fraction, Operation}

abbrev pub kind_view : Kind → forms.Piece
kind_view Count = forms.Count
kind_view Fraction = forms.Fraction
kind_view Operation = forms.Operation

abbrev pub labelled : Bor (List ℕ) × Kind → List forms.Piece
labelled word = forms.Text word.0.now ∷ kind_view word.1 ∷ []

-- the words, each after its text, and then a text
abbrev pub form_view : Form → List forms.Piece
form_view form = flat_map labelled form.words.now ++ (forms.Text form.end.now ∷ [])
