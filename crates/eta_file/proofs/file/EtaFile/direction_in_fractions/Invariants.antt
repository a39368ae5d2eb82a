use Rattle.eta_file.proofs.file.EtaFile.direction_in_fractions.Given as goal

-- the counter's own ledger
abbrev pub ghosts-carry_by : goal.ghosts-carry_by
ghosts-carry_by a = record { name = a.blank.name; parts = a.blank.parts }
