use Rattle.nfg_words.proofs.tests.one_pass_takes_a_chunk_and_another_finds_it.Given as goal

abbrev pub ghosts-take_twice : goal.ghosts-take_twice
ghosts-take_twice g a = record { name = a.blank.name; parts = a.blank.parts }
