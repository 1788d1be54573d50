use Rattle.nfg_words.proofs.loads.number_codes.Given as goal

abbrev pub ghosts-read_for : goal.ghosts-read_for
ghosts-read_for g a = record { place = a.place; wanted = a.wanted }
