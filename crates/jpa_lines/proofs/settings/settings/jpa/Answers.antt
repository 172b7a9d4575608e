use Rattle.std.proofs.Common.{◌∙◌, ap₂}
use Rattle.clap.specs.Words.{with_rule}
use Rattle.jpa_lines.proofs.settings.settings.jpa.Goals as goal

pub returns : goal.returns
returns c =
    let with_language = c.in_ok-with_language.ensures.shape c.language_option-language.ensures.local ∙ ap₂ with_rule c.in_ok-with_question.ensures c.language_option-language.ensures.rule in
    c.in_ok-arg.ensures.shape c.grammar_flag-grammar.ensures.local ∙ ap₂ with_rule with_language c.grammar_flag-grammar.ensures.rule
