-- The names of those that hear an event, list by list.
use Rattle.std.proofs.Common.{◌≡◌, ◌∙◌, Bool, true, false, List, [], ◌∷◌, ◌++◌, map, refl, ap}
use Rattle.std.specs.Prelude.{if◌then◌else◌}
use Rattle.std.specs.List.{filter}
use Rattle.jpa_value.specs.declared.event.LifecycleEvent.{LifecycleEvent}
use Rattle.jpa_model.specs.declared.unit.Listener.{Listener}
use Rattle.jpa_lifecycle.specs.Callbacks.{hears, hearing}

module _ (event : LifecycleEvent) where
  one_more : (b : Bool) (x : Listener) (ls ks : List Listener) → map (λ (l : Listener). l.name) (filter (hears event) (ls ++ ks)) ≡ hearing event ls ++ hearing event ks →
      map (λ (l : Listener). l.name) (if b then x ∷ filter (hears event) (ls ++ ks) else filter (hears event) (ls ++ ks))
      ≡ map (λ (l : Listener). l.name) (if b then x ∷ filter (hears event) ls else filter (hears event) ls) ++ hearing event ks
  one_more true x ls ks rest = ap (λ ns. x.name ∷ ns) rest
  one_more false x ls ks rest = rest

  hearing-append : (ls ks : List Listener) → hearing event (ls ++ ks) ≡ hearing event ls ++ hearing event ks
  hearing-append [] ks = refl
  hearing-append (x ∷ ls) ks = one_more (hears event x) x ls ks (hearing-append ls ks)

  pub three : (xs ys zs : List Listener) → hearing event (xs ++ ys ++ zs) ≡ hearing event xs ++ hearing event ys ++ hearing event zs
  three xs ys zs = hearing-append (xs ++ ys) zs ∙ ap (λ ns. ns ++ hearing event zs) (hearing-append xs ys)
