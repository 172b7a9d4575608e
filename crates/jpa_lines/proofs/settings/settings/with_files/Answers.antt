use Rattle.std.proofs.Common.{rules, ◌≡◌, ◌∙◌, ap₂, codes}
use Rattle.clap.specs.Words.{app_of, rule_of, with_rule}
use Rattle.jpa_lines.specs.settings.Words.{option_rule, plain}
use Rattle.jpa_lines.proofs.settings.settings.with_files.Goals as goal

pub returns : goal.returns
returns c =
    let mapping_is : rule_of c.help-mapping.result ≡ option_rule (codes "mapping") = search rules in
    let db_is : rule_of c.help-db.result ≡ option_rule (codes "db") = search rules in
    let plain_is : app_of c.about-plain.result ≡ plain = search rules in
    c.in_ok-arg.ensures.shape (search rules) ∙ ap₂ with_rule (c.in_ok-with_mapping.ensures.shape (search rules) ∙ ap₂ with_rule plain_is mapping_is) db_is
