use Rattle.nfg_words.proofs.table.WordTableSynthetics.code.Given as goal

abbrev pub ghosts-code_of : goal.ghosts-code_of
ghosts-code_of a = record { name = a.blank.name; parts = a.blank.parts }
