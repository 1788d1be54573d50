use Rattle.nfg_words.proofs.tests_of_forks.a_text_of_three_code_points_gets_its_place.Given as goal

abbrev pub ghosts-probe_three : goal.ghosts-probe_three
ghosts-probe_three g a = record { name = a.blank.name; parts = a.blank.parts }
