use Rattle.std.proofs.Common.{sym, ap, ◌∙◌, lt-ltb, le-ltb}
use Rattle.nfg_text.specs.Properties.{is_plain_number}
use Rattle.nfg_text.proofs.PropertyParts.{is_plain-below, is_plain-above}
use Rattle.nfg_text.proofs.normal.is_plain_beyond.Goals as goal

pub returns-then-c-lt1114112 : goal.returns-then-c-lt1114112
returns-then-c-lt1114112 c =
    c.is_plain_number.ensures ∙ ap is_plain_number c.properties_of.ensures ∙ sym (is_plain-below c.args.c (lt-ltb c.args.c 0x11_0000 c.if-c-lt1114112.true))

pub returns-else-c-lt1114112 : goal.returns-else-c-lt1114112
returns-else-c-lt1114112 c = let high = le-ltb c.args.c 0x11_0000 c.if-c-lt1114112.false in high ∙ sym (is_plain-above c.args.c high)
