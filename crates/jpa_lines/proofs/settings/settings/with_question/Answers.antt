use Rattle.std.proofs.Common.{◌∙◌, ap₂}
use Rattle.clap.specs.Words.{with_rule}
use Rattle.jpa_lines.proofs.settings.settings.with_question.Goals as goal

pub returns : goal.returns
returns c =
    let with_query = c.in_ok-with_query.ensures.shape c.query_option-query.ensures.local ∙ ap₂ with_rule c.in_ok-with_files.ensures c.query_option-query.ensures.rule in
    let with_param = c.in_ok-with_param.ensures.shape c.param_option-param.ensures.local ∙ ap₂ with_rule with_query c.param_option-param.ensures.rule in
    let with_explain = c.in_ok-with_explain.ensures.shape c.explain_flag-explain.ensures.local ∙ ap₂ with_rule with_param c.explain_flag-explain.ensures.rule in
    c.in_ok-arg.ensures.shape c.index_option-index.ensures.local ∙ ap₂ with_rule with_explain c.index_option-index.ensures.rule
