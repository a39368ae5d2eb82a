-- What an eta file keeps.
--     inverse_of a                 what its fields stand for
--     IsFileOf a etas marks        the etas are those of exchanges from the rows on, and the marks are of the set that they lead to
--     IsFile a                     the fields are those of such a file, and the words are those of its columns
use Rattle.std.specs.Prelude.{◌≡◌, ◌<◌, List, length}
use Rattle.lp_definitions.specs.LinearProgram.{Matrix, IsMatrix}
use Rattle.lp_definitions.specs.Basis.{Basics, row_basics}
use Rattle.lp_model.specs.Columns.{entries_of}
use Rattle.eta_file.specs.Prefixes.{Passed, after}
use Rattle.eta_file.specs.Inverse.{Inverse}
use Rattle.eta_file.specs.WordColumns.{AreWordColumns}
use Rattle.eta_file.specs.declared.eta.StoredEta.{StoredEta}
use Rattle.eta_file.specs.declared.file.EtaFile.TheInside.{Inside}

abbrev pub inverse_of : Inside → Inverse
inverse_of a = record {
  matrix = record { rows = a.rows; cols = a.cols; columns = entries_of a.columns.value.items };
  basics = a.basics;
  etas = a.etas.items;
}

pub record IsFileOf (a : Matrix) (etas : List StoredEta) (marks : Basics) : Type 0 where
  pub lawful : IsMatrix a
  pub are_marks : marks ≡ after (row_basics a) etas
  pub passed : Passed a (row_basics a) etas
  pub few : length etas < 4294967295

abbrev pub IsFile : Inside → Type 0
IsFile a = let inverse = inverse_of a in
    (IsFileOf inverse.matrix inverse.etas inverse.basics) × (AreWordColumns inverse.matrix.columns a.words.value.items)
