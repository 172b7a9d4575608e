-- What is bound to the values of parameters, one behind the other.
use Rattle.std.proofs.Common.{◌≡◌, ℕ, suc, List, [], ◌∷◌, ◌++◌, length, refl, sym, ap, ◌∙◌, subst, append_assoc, append-nil}
use Rattle.std.specs.Prelude.{Option, Some, None}
use Rattle.std.specs.Option.{option_map}
use Rattle.jpa_work.specs.declared.heap.Handed.{Handed}
use Rattle.jpa_work.specs.declared.heap.LiveObject.{LiveObject}
use Rattle.jpa_protocol.specs.declared.call.Given.{Given}
use Rattle.jpa_asked.specs.declared.asked.Binding.{Binding}
use Rattle.jpa_asked.specs.Premises.{AreInHeap}
use Rattle.jpa_machine.specs.machine.Querying.{before, bindings_in, handed_in}
use Rattle.jpa_machine.proofs.machine.Updated.{AllBound, bindings_within}

-- bindings before those that there are
abbrev pub behind : List Binding → Option (List Binding) → Option (List Binding)
behind bs o = option_map (λ more. bs ++ more) o

-- where there are bindings, they stand before those that there are
abbrev pub joined : Option (List Binding) → Option (List Binding) → Option (List Binding)
joined None o = None
joined (Some bs) o = behind bs o

before_behind : (bs : List Binding) (name : List ℕ) (h : Handed) (o : Option (List Binding)) → behind bs (before name (Some h) o) ≡ behind (bs ++ record { name = name; value = h } ∷ []) o
before_behind bs name h None = refl
before_behind bs name h (Some more) = ap Some (sym (append_assoc bs (record { name = name; value = h } ∷ []) more))

bound_first : (count : ℕ) (bs : List Binding) (v : List ℕ × Given) (o : Option Handed) (xs ys : List (List ℕ × Given))
    → ((cs : List Binding) → behind cs (bindings_in count (xs ++ ys)) ≡ joined (behind cs (bindings_in count xs)) (bindings_in count ys))
    → behind bs (before v.0 o (bindings_in count (xs ++ ys))) ≡ joined (behind bs (before v.0 o (bindings_in count xs))) (bindings_in count ys)
bound_first count bs v None xs ys next = refl
bound_first count bs v (Some h) xs ys next =
    before_behind bs v.0 h (bindings_in count (xs ++ ys)) ∙ next (bs ++ record { name = v.0; value = h } ∷ []) ∙ ap (λ o. joined o (bindings_in count ys)) (sym (before_behind bs v.0 h (bindings_in count xs)))

-- what is bound to values before others
pub bound_both : (count : ℕ) (bs : List Binding) (xs ys : List (List ℕ × Given)) → behind bs (bindings_in count (xs ++ ys)) ≡ joined (behind bs (bindings_in count xs)) (bindings_in count ys)
bound_both count bs [] ys = ap (λ cs. behind cs (bindings_in count ys)) (sym (append-nil bs))
bound_both count bs (v ∷ xs) ys = bound_first count bs v (handed_in count v.1) xs ys (λ cs. bound_both count cs xs ys)

-- the values of the next are bound, and then the rest behind them
pub bound_next : (count : ℕ) (bs more : List Binding) (xs ys : List (List ℕ × Given)) → Some more ≡ behind bs (bindings_in count xs) → behind more (bindings_in count ys) ≡ behind bs (bindings_in count (xs ++ ys))
bound_next count bs more xs ys h = ap (λ o. joined o (bindings_in count ys)) h ∙ sym (bound_both count bs xs ys)

-- where one of the next names no object, nothing is bound
pub bound_none : (count : ℕ) (bs : List Binding) (xs ys : List (List ℕ × Given)) → None ≡ behind bs (bindings_in count xs) → None ≡ behind bs (bindings_in count (xs ++ ys))
bound_none count bs xs ys h = ap (λ o. joined o (bindings_in count ys)) h ∙ sym (bound_both count bs xs ys)

-- what is bound stands in the heap
pub bound_within : (objects : List LiveObject) (vs : List (List ℕ × Given)) (bs : List Binding) → Some bs ≡ bindings_in (length objects) vs → AreInHeap objects bs
bound_within objects vs bs e = subst (AllBound objects) (sym e) (bindings_within objects vs)
