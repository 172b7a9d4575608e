use Rattle.std.proofs.Common.{◌≡◌, chars, ap, ◌∙◌}
use Rattle.jpql_meaning.specs.eval.Texts.{is_matched, marks, escape_of}
use Rattle.jpql_meaning.proofs.eval.patterns.is_like.Goals as goal

pub returns : goal.returns
returns c =
    let text : c.deref-3.result.now ≡ chars c.args.text.now = c.deref-3.ensures.value ∙ c.in_ok-text.ensures in
    let pattern : c.deref.result.now ≡ chars c.args.pattern.now = c.deref.ensures.value ∙ c.in_ok-pattern.ensures in
    let all : c.deref-2.result.now ≡ marks (escape_of c.args.escape.now) (chars c.args.pattern.now) =
    c.deref-2.ensures.value ∙ c.in_ok-marks.ensures ∙ ap (λ e. marks e c.deref.result.now) c.in_ok-escape_of.ensures ∙ ap (marks (escape_of c.args.escape.now)) pattern in
    c.is_matched.ensures ∙ ap (λ ms. is_matched ms c.deref-3.result.now) all ∙ ap (is_matched (marks (escape_of c.args.escape.now) (chars c.args.pattern.now))) text
