-- Elements of FROM in turn: where typing passes each, each means something in the scope that those before it leave.
use Rattle.std.proofs.Common.{◌≡◌, ◌∙◌, refl, ap, sym, subst, List, [], ◌∷◌, map, Option, Some, None, option_map}
use Rattle.std.specs.List.{AllByRecursion}
use Rattle.jpql_trees.specs.tree.Steps.{◌>>=◌}
use Rattle.jpql_types.specs.Scope.{Scope}
use Rattle.jpql_types.specs.Typing.{in_turn}
use Rattle.jpql_types.specs.Trees as trees
use Rattle.jpql_types.specs.Resolved as names
use Rattle.jpql_types.proofs.Options.{value_in, none_some}

module _ {A T : Type 0} (scope_of : A → Scope → Option Scope) (name : A → Scope → Option (T × Scope)) (tree : A → Scope → T × Scope) where
  abbrev pub Turns : A → Type 0
  Turns a = (scope wider : Scope) → scope_of a scope ≡ Some wider → (name a scope ≡ Some (tree a scope)) × ((tree a scope).1 ≡ wider)

  abbrev TurnAll : List A → Type 0
  TurnAll xs = (scope wider : Scope) → in_turn (map scope_of xs) scope ≡ Some wider
      → (names.in_scope (map name xs) scope ≡ Some (trees.in_scope (map tree xs) scope)) × ((trees.in_scope (map tree xs) scope).1 ≡ wider)

  turn_by : (x : A) (xs : List A) → Turns x → TurnAll xs → (scope wider : Scope) (o : Option Scope) → scope_of x scope ≡ o → (o >>= λ mid. in_turn (map scope_of xs) mid) ≡ Some wider
      → (names.in_scope (map name (x ∷ xs)) scope ≡ Some (trees.in_scope (map tree (x ∷ xs)) scope)) × ((trees.in_scope (map tree (x ∷ xs)) scope).1 ≡ wider)
  turn_by x xs h later scope wider None oe e = absurd (none_some wider e)
  turn_by x xs h later scope wider (Some mid) oe e =
      let first = h scope mid oe in
      let rest = later (tree x scope).1 wider (subst (λ s. in_turn (map scope_of xs) s ≡ Some wider) (sym first.1) e) in
      (ap (λ o. o >>= λ f. option_map (λ more. (f.0 ∷ more.0, more.1)) (names.in_scope (map name xs) f.1)) first.0 ∙ ap (option_map (λ more. ((tree x scope).0 ∷ more.0, more.1))) rest.0, rest.1)

  pub turns : (xs : List A) → AllByRecursion Turns xs → TurnAll xs
  turns [] h scope wider e = (refl, value_in scope wider e)
  turns (x ∷ xs) h scope wider e = turn_by x xs h.0 (λ s w k. turns xs h.1 s w k) scope wider (scope_of x scope) refl e
