use Rattle.nfg_text.proofs.Proved.{plain_stands_apart, printable_ascii_is_plain, latin_are_plain, punctuation_are_plain, radicals_are_plain, hiragana_are_plain, katakana_are_plain, ideographs_are_plain, syllables_are_plain, full_width_are_plain}
use Rattle.nfg_text.proofs.laws.plain_stands_apart.Goals as goal

pub returns : goal.returns
returns c = record {
  apart = plain_stands_apart;
  printable = printable_ascii_is_plain;
  latin = latin_are_plain;
  punctuation = punctuation_are_plain;
  radicals = radicals_are_plain;
  hiragana = hiragana_are_plain;
  katakana = katakana_are_plain;
  ideographs = ideographs_are_plain;
  syllables = syllables_are_plain;
  full_width = full_width_are_plain;
}
