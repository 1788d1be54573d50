use Rattle.nfg_words.proofs.table.WordTableSynthetics.count.Given as goal

abbrev pub ghosts-count_at : goal.ghosts-count_at
ghosts-count_at a = record { name = a.blank.name; parts = a.blank.parts }
