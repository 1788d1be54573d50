use Rattle.nfg_words.proofs.table.WordTableSynthetics.intern.Given as goal

abbrev pub ghosts-intern_uncounted : goal.ghosts-intern_uncounted
ghosts-intern_uncounted a = record { name = a.blank.name; parts = a.blank.parts }
