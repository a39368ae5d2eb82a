use Rattle.bounded_primal.proofs.free_path.follow_free.Given as goal

abbrev pub ghosts-walk_free : goal.ghosts-walk_free
ghosts-walk_free g a = record { name = a.blank.name; parts = a.blank.parts }
