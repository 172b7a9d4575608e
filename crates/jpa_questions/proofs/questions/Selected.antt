-- What a text's tree asks, where its collections and what its parameters are of were made of them.
use Rattle.std.specs.Prelude.{◌≡◌, ◌⊎◌, ◌&&◌, Bool, List, map, Result, Ok, Err, IfOk, IfErr}
use Rattle.std.specs.List.{list_all}
use Rattle.std.proofs.Common.{ap, sym, subst, ◌∙◌, inl, inr}
use Rattle.jpa_value.specs.declared.refusal.Cause.{Cause}
use Rattle.jpa_model.specs.declared.unit.PersistenceUnit.{PersistenceUnit}
use Rattle.jpa_json.specs.readers.Outcome.{and_then}
use Rattle.jpql_trees.specs.declared.tree.Language.{Language}
use Rattle.jpql_trees.specs.declared.tree.Query.{Query}
use Rattle.jpql_trees.specs.tree.Names.{Text}
use Rattle.jpql_grammar.specs.declared.grammar.lists.GivenList.{GivenList}
use Rattle.jpql_text.specs.text.Answers.{IsRead, UsesLists}
use Rattle.jpql_types.specs.declared.sort.Sort.{Sort}
use Rattle.jpql_trees.specs.declared.typed.typed.Typed.{Typed}
use Rattle.jpql_trees.specs.declared.typed.typed.TypedSelect.{TypedSelect}
use Rattle.jpql_types.specs.Statements.{checked}
use Rattle.jpa_questions.specs.declared.questions.parameter.Parameter.{Parameter}
use Rattle.jpa_questions.specs.questions.Questions.{HasTree, IsTextRefused, Selects, bound_of, has_no_comma, lists_of, named_sort, select_if, select_of}

module _ (m : PersistenceUnit) (l : Language) (text : Text) (ps : List Parameter) (lists : List GivenList) (are : lists ≡ lists_of ps) where
  module _ (others : List GivenList) (same : others ≡ lists_of ps) (tree : Query) (uses : Bool) (read : IsRead l lists text tree) (used : UsesLists l others text uses) where
    has_tree : HasTree m l text ps uses tree
    has_tree = (subst (λ (ls : List GivenList). IsRead l ls text tree) are read, subst (λ (ls : List GivenList). UsesLists l ls text uses) same used)

    module _ (sorts : List (Text × Sort)) (of : sorts ≡ map named_sort (bound_of ps)) where
      -- what the tree asks is what is made of its judgement
      asked : (judged : Result Typed Cause) → judged ≡ checked l m tree sorts → and_then judged (select_if (uses && list_all has_no_comma ps)) ≡ select_of m l text ps uses tree
      asked judged is = ap (λ (r : Result Typed Cause). and_then r (select_if (uses && list_all has_no_comma ps))) (is ∙ ap (checked l m tree) of)

      -- an ill-typed text is refused so
      pub untyped_text : (cause : Cause) → (cause ≡ Cause.OutOfMemory) ⊎ (Err cause ≡ checked l m tree sorts) → (cause ≡ Cause.OutOfMemory) ⊎ IsTextRefused m l text ps cause
      untyped_text cause (inl memory) = inl memory
      untyped_text cause (inr is) = inr (inr (tree, uses, has_tree, sym (asked (Err cause) is)))

      module _ (typed : Typed) (is : Ok typed ≡ checked l m tree sorts) where
        -- the SELECT of a typed text is what it asks
        pub typed_asked : (r : Result TypedSelect Cause) → r ≡ select_if (uses && list_all has_no_comma ps) typed → IfOk r (Selects m l text ps)
        typed_asked (Ok q) e = (tree, uses, has_tree, sym (e ∙ asked (Ok typed) is))
        typed_asked (Err cause) e = tt

        -- and its refusal too
        pub typed_refused : (r : Result TypedSelect Cause) → r ≡ select_if (uses && list_all has_no_comma ps) typed → IfErr r (λ cause. (cause ≡ Cause.OutOfMemory) ⊎ IsTextRefused m l text ps cause)
        typed_refused (Ok q) e = tt
        typed_refused (Err cause) e = inr (inr (tree, uses, has_tree, sym (e ∙ asked (Ok typed) is)))
