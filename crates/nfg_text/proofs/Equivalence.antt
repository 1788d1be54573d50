-- Graphemes spell the NFC of a text, so they decide canonical equivalence.
use Rattle.std.proofs.Common.{true, [], sym, ap, ◌∙◌, map}
use Rattle.std.specs.Prelude.{encode_utf8_all}
use Rattle.std.proofs.lemmas.Str.{chars-encodes}
use Rattle.unicode_normalization.specs.Forms.{nfc}
use Rattle.unicode_normalization.proofs.FormsLemmas.{nfd_from_nfc, nfc_from_nfd}
use Rattle.unicode_segmentation.specs.Grapheme.{is_grapheme_break}
use Rattle.unicode_segmentation.specs.Segments.{segments}
use Rattle.nfg_text.specs.Graphemes.{clusters}
use Rattle.nfg_text.specs.Text.{text_of}
use Rattle.nfg_text.specs.Laws.{ClustersSpellText, GraphemesSpellNfc, GraphemesDecideEquivalence, ClustersOfUtf8}
use Rattle.nfg_text.proofs.Cuts.{text_of-cut}

pub clusters_spell_text : ClustersSpellText
clusters_spell_text t = text_of-cut (is_grapheme_break true) [] t []

pub graphemes_spell_nfc : GraphemesSpellNfc
graphemes_spell_nfc t = clusters_spell_text (nfc t)

pub graphemes_decide_equivalence : GraphemesDecideEquivalence
graphemes_decide_equivalence t u = (
  λ same. nfd_from_nfc t u (sym (graphemes_spell_nfc t) ∙ ap text_of same ∙ graphemes_spell_nfc u),
  λ equivalent. ap clusters (nfc_from_nfd t u equivalent),
)

pub clusters_of_utf8 : ClustersOfUtf8
unfolding segments
clusters_of_utf8 t text = ap (λ s. map encode_utf8_all (clusters s)) (chars-encodes t text)
