use Rattle.std.proofs.Common.{◌≡◌, ◌∙◌, arith, ◌++◌, ◌∷◌, [], sym, ap, append_assoc, append-nil}
use Rattle.std.specs.Option.{option_to_list}
use Rattle.std.proofs.lemmas.Result.{err_from_is_err_and}
use Rattle.std.proofs.Math.ListN.{drop_of_length-le}
use Rattle.jpa_json.specs.functions.Sorts.{listener_so, converter_so}
use Rattle.jpa_json.proofs.functions.Sorted.{listener_more, converter_more, refused_so, all_held}
use Rattle.jpa_json.proofs.functions.registering.registry_of.Goals as goal

pub loop-function-preserved : goal.loop-function-preserved
loop-function-preserved c =
    let before = c.loop-function.yielded in
    let f = c.in-Some.function in
    record {
      listeners = c.in_ok-register.ensures.listeners ∙ ap (λ ks. ks ++ option_to_list (listener_so f.name f.make)) c.loop-function.invariant.listeners ∙ sym (listener_more before f);
      converters = c.in_ok-register.ensures.converters ∙ ap (λ ks. ks ++ option_to_list (converter_so f.name f.make)) c.loop-function.invariant.converters ∙ sym (converter_more before f);
      language = c.in_ok-register.ensures.language ∙ c.loop-function.invariant.language;
      rest = c.loop-function.invariant.rest ∙ ap (λ l. before ++ l) c.in-Some.ensures.steps.0 ∙ sym (append_assoc before (f ∷ []) c.next.new.self.rest.items);
    }

pub returns-in_err-register : goal.returns-in_err-register
returns-in_err-register c =
    let p = err_from_is_err_and c.from_residual.result c.from_residual.ensures.1 in
    rw (p.1, p.2) (refused_so c.args.language c.loop-function.yielded c.in-Some.function c.next.new.self.rest.items c.args.functions c.loop-function.registry _
    (c.loop-function.invariant.listeners, c.loop-function.invariant.converters, c.loop-function.invariant.language)
    (c.loop-function.invariant.rest ∙ ap (λ l. c.loop-function.yielded ++ l) c.in-Some.ensures.steps.0)
    c.in_err-register.ensures.refused)

pub returns : goal.returns
returns c =
    let items = c.loop-function.function-iterator.rest.items in
    let none = c.in-None.ensures.steps in
    let whole = c.loop-function.function-iterator.rest.ok in
    let ended : items ≡ [] = drop_of_length-le items {i = 0} (omega arith) in
    all_held c.args.language c.loop-function.yielded c.args.functions c.loop-function.registry (c.loop-function.invariant.listeners, c.loop-function.invariant.converters, c.loop-function.invariant.language)
    (c.loop-function.invariant.rest ∙ ap (λ l. c.loop-function.yielded ++ l) ended ∙ append-nil c.loop-function.yielded)
    c.laws.ensures.names
