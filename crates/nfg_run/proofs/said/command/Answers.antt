use Rattle.std.proofs.Common.{◌≡◌, ◌∙◌, codes, true, ap, ap₂, rules}
use Rattle.std.proofs.lemmas.Result.{IfOk-weaker}
use Rattle.clap.specs.Words.{App, app_of, rule_of, with_rule}
use Rattle.clap.specs.Simple.{app_of_fields}
use Rattle.nfg_run.specs.ClapCommand.{bare_command, given_option, given_plain}
use Rattle.nfg_run.proofs.said.command.Goals as goal

pub returns : goal.returns
returns c =
    let workers_is : rule_of c.action-workers.result ≡ given_option (codes "workers") = search rules in
    let table_is : rule_of c.action-table.result ≡ given_option (codes "table") = search rules in
    let plain_is : rule_of c.action-plain.result ≡ given_plain = search rules in
    let bare_is : app_of c.disable_help_flag-bare.result ≡ bare_command =
    ap app_of_fields c.disable_help_flag-bare.ensures
    ∙ ap (λ (a : App). record a { top = record a.top { disable_help_flag = true } }) c.new-4.ensures.app in
    let with_table = c.in_ok-arg-2.ensures.shape (search rules)
    ∙ ap₂ with_rule (c.in_ok-arg.ensures.shape (search rules) ∙ ap₂ with_rule bare_is workers_is) table_is in
    IfOk-weaker c.arg-3.result _ _ (λ command adds. adds.shape (search rules) ∙ ap₂ with_rule with_table plain_is) c.arg-3.ensures
