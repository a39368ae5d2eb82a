-- The row of a number is among so many places.
--     IsRowPlace n e               that of a number of the deck is
--     IsWordPlace n w              that of a number of the deck in a machine word is
use Rattle.std.specs.Prelude.{ℕ, ◌≤◌}
use Rattle.lp_definitions.specs.declared.Entry.{Entry}
use Rattle.eta_file.specs.declared.words.WordEntry.{WordEntry}

abbrev pub IsRowPlace : ℕ → Entry → Type 0
IsRowPlace n e = (1 ≤ e.row) × (e.row ≤ n)

abbrev pub IsWordPlace : ℕ → WordEntry → Type 0
IsWordPlace n w = (1 ≤ w.row) × (w.row ≤ n)
