-- Names in a list of functions, and among what is registered.
use Rattle.std.proofs.Common.{◌≡◌, ◌⊎◌, inl, inr, ℕ, Bool, true, false, List, [], ◌∷◌, ◌++◌, Option, Some, None, Ok, Err, refl, sym, ap, ◌∙◌, append_assoc}
use Rattle.std.specs.Prelude.{not, ◌&&◌, ◌||◌, cond, find, is_some, option_map, if◌then◌else◌}
use Rattle.std.specs.Option.{option_to_list}
use Rattle.std.specs.List.{list_any, filter_map, cons_option}
use Rattle.std.specs.Cmp.Derive.{both_true}
use Rattle.std.specs.Cmp.{first_so, second_so}
use Rattle.jpa_value.specs.declared.refusal.Argument.{Argument}
use Rattle.jpa_value.specs.declared.refusal.Cause.{Cause}
use Rattle.jpa_model.specs.Chains.{same_name}
use Rattle.jpa_model.specs.Described.{IsUnlessMemory}
use Rattle.jpa_model.specs.WellFormed.{are_distinct_by}
use Rattle.jpql_trees.specs.declared.tree.Language.{Language}
use Rattle.jpa_behaviour.specs.Registered.{Known, Registered, AreNamedOnce, has_name, known_as}
use Rattle.jpa_json.specs.declared.functions.make.Function.{Function}
use Rattle.jpa_json.specs.declared.functions.make.Make.{Make}
use Rattle.jpa_json.specs.declared.functions.make.Listener.{Listener}
use Rattle.jpa_json.specs.declared.functions.make.Converter.{Converter}
use Rattle.jpa_json.specs.functions.Distinct.{none_meets}
use Rattle.jpa_json.specs.functions.Sorts.{are_of_one_sort, share_a_name, are_named_once, listener_so, converter_so, listeners_in, converters_in, in_sorts, registered, stands}
use Rattle.jpa_json.specs.functions.Laws.{false_true}

-- ---- small facts

and_false : (a : Bool) → a && false ≡ false
and_false true = refl
and_false false = refl

-- ---- a second name

module _ {A : Type 0} (meets : A → A → Bool) where
  or_true : (a : Bool) → a || true ≡ true
  or_true true = refl
  or_true false = refl

  later_met : (x y : A) (xs rest : List A) → meets x y ≡ true → list_any (meets x) (xs ++ y ∷ rest) ≡ true
  later_met x y [] rest h = ap (λ b. b || list_any (meets x) rest) h
  later_met x y (z ∷ zs) rest h = ap (λ b. meets x z || b) (later_met x y zs rest h) ∙ or_true (meets x z)

  met_first : (b : Bool) (x y : A) (xs rest : List A) → meets x y ≡ b → b || list_any (λ z. meets z y) xs ≡ true
      → (list_any (λ z. meets z y) xs ≡ true → none_meets meets (xs ++ y ∷ rest) ≡ false)
      → not (list_any (meets x) (xs ++ y ∷ rest)) && none_meets meets (xs ++ y ∷ rest) ≡ false
  met_first true x y xs rest e h more = ap (λ c. not c && none_meets meets (xs ++ y ∷ rest)) (later_met x y xs rest e)
  met_first false x y xs rest e h more = ap (λ c. not (list_any (meets x) (xs ++ y ∷ rest)) && c) (more h) ∙ and_false (not (list_any (meets x) (xs ++ y ∷ rest)))

  met : (y : A) (xs rest : List A) → list_any (λ z. meets z y) xs ≡ true → none_meets meets (xs ++ y ∷ rest) ≡ false
  met y [] rest h = absurd (false_true h)
  met y (x ∷ xs) rest h = met_first (meets x y) x y xs rest refl h (met y xs rest)

-- ---- what is found among those of one sort

module _ {S : Type 0} (so : List ℕ → Make → Option (Known S)) (mine : Make → Bool)
    (first : (p : List ℕ → Bool) (name : List ℕ) (m : Make) (ks : List (Known S)) → list_any (λ k. p k.name) (cons_option (so name m) ks) ≡ (mine m && p name) || list_any (λ k. p k.name) ks)
  where
    any_in : (p : List ℕ → Bool) (fs : List Function) → list_any (λ k. p k.name) (filter_map (λ f. so f.name f.make) fs) ≡ list_any (λ f. mine f.make && p f.name) fs
    any_in p [] = refl
    any_in p (f ∷ fs) = first p f.name f.make (filter_map (λ g. so g.name g.make) fs) ∙ ap (λ b. (mine f.make && p f.name) || b) (any_in p fs)

listener_first : (own : Make → Bool) → ((l : Listener) → own (Make.Listener l) ≡ true) → ((c : Converter) → own (Make.Converter c) ≡ false)
    → (p : List ℕ → Bool) (name : List ℕ) (m : Make) (ks : List (Known Listener)) → list_any (λ k. p k.name) (cons_option (listener_so name m) ks) ≡ (own m && p name) || list_any (λ k. p k.name) ks
listener_first own is_own is_other p name (Make.Listener l) ks = ap (λ b. (b && p name) || list_any (λ k. p k.name) ks) (sym (is_own l))
listener_first own is_own is_other p name (Make.Converter c) ks = ap (λ b. (b && p name) || list_any (λ k. p k.name) ks) (sym (is_other c))

converter_first : (own : Make → Bool) → ((l : Listener) → own (Make.Listener l) ≡ false) → ((c : Converter) → own (Make.Converter c) ≡ true)
    → (p : List ℕ → Bool) (name : List ℕ) (m : Make) (ks : List (Known Converter)) → list_any (λ k. p k.name) (cons_option (converter_so name m) ks) ≡ (own m && p name) || list_any (λ k. p k.name) ks
converter_first own is_other is_own p name (Make.Listener l) ks = ap (λ b. (b && p name) || list_any (λ k. p k.name) ks) (sym (is_other l))
converter_first own is_other is_own p name (Make.Converter c) ks = ap (λ b. (b && p name) || list_any (λ k. p k.name) ks) (sym (is_own c))

found_any : {S : Type 0} (name : List ℕ) (ks : List (Known S)) → is_some (known_as name ks) ≡ list_any (has_name name) ks
found_any name [] = refl
found_any {S} name (k ∷ ks) = one (has_name name k) ∙ ap (λ b. has_name name k || b) (found_any name ks)
  where
    one : (b : Bool) → is_some (option_map (λ j. j.what) (cond b (Some k) (find (has_name name) ks))) ≡ b || is_some (known_as name ks)
    one true = refl
    one false = refl

-- a name that stands was in the list
stood : (l : Language) (fs : List Function) (name : List ℕ) (make : Make) → stands (in_sorts l fs) name make ≡ true
    → list_any (λ g. are_of_one_sort g.make make && same_name g.name name) fs ≡ true
stood l fs name (Make.Listener k) h =
    sym (any_in listener_so (λ m. are_of_one_sort m (Make.Listener k)) (listener_first (λ m. are_of_one_sort m (Make.Listener k)) (λ k. refl) (λ c. refl)) (λ n. same_name n name) fs)
    ∙ sym (found_any name (listeners_in fs)) ∙ h
stood l fs name (Make.Converter c) h =
    sym (any_in converter_so (λ m. are_of_one_sort m (Make.Converter c)) (converter_first (λ m. are_of_one_sort m (Make.Converter c)) (λ k. refl) (λ d. refl)) (λ n. same_name n name) fs)
    ∙ sym (found_any name (converters_in fs)) ∙ h

pub second_name : (l : Language) (fs : List Function) (f : Function) (rest : List Function) → stands (in_sorts l fs) f.name f.make ≡ true
    → are_named_once (fs ++ f ∷ rest) ≡ false
second_name l fs f rest h = met share_a_name f fs rest (stood l fs f.name f.make h)

-- ---- names of which no sort has one twice

once_more : (fs : List Function) (name : List ℕ) (make : Make)
    → are_distinct_by (λ k. k.name) (cons_option (listener_so name make) (listeners_in fs)) ≡ true → are_distinct_by (λ k. k.name) (cons_option (converter_so name make) (converters_in fs)) ≡ true
    → (are_distinct_by (λ k. k.name) (listeners_in fs) ≡ true → are_distinct_by (λ k. k.name) (converters_in fs) ≡ true → are_named_once fs ≡ true)
    → not (list_any (λ g. are_of_one_sort make g.make && same_name name g.name) fs) && are_named_once fs ≡ true
once_more fs name (Make.Listener l) h k more =
    both_true
    (ap not (sym (any_in listener_so (are_of_one_sort (Make.Listener l)) (listener_first (are_of_one_sort (Make.Listener l)) (λ m. refl) (λ c. refl)) (same_name name) fs))
    ∙ first_so (not (list_any (λ j. same_name name j.name) (listeners_in fs))) _ h)
    (more (second_so (not (list_any (λ j. same_name name j.name) (listeners_in fs))) _ h) k)
once_more fs name (Make.Converter c) h k more =
    both_true
    (ap not (sym (any_in converter_so (are_of_one_sort (Make.Converter c)) (converter_first (are_of_one_sort (Make.Converter c)) (λ m. refl) (λ d. refl)) (same_name name) fs))
    ∙ first_so (not (list_any (λ j. same_name name j.name) (converters_in fs))) _ k)
    (more h (second_so (not (list_any (λ j. same_name name j.name) (converters_in fs))) _ k))

once : (fs : List Function) → are_distinct_by (λ k. k.name) (listeners_in fs) ≡ true → are_distinct_by (λ k. k.name) (converters_in fs) ≡ true → are_named_once fs ≡ true
once [] h k = refl
once (f ∷ fs) h k = once_more fs f.name f.make h k (once fs)

-- ---- what is registered at the end

pub all_registered : (l : Language) (fs : List Function) → are_distinct_by (λ k. k.name) (listeners_in fs) ≡ true → are_distinct_by (λ k. k.name) (converters_in fs) ≡ true
    → Ok (in_sorts l fs) ≡ registered l fs
all_registered l fs h k =
    sym (ap (λ b. if b then Ok (in_sorts l fs) else Err (Cause.IllegalArgument Argument.Second)) (once fs h k))

pub not_registered : (l : Language) (fs : List Function) → are_named_once fs ≡ false → Err (Cause.IllegalArgument Argument.Second) ≡ registered l fs
not_registered l fs h =
    sym (ap (λ b. if b then Ok (in_sorts l fs) else Err (Cause.IllegalArgument Argument.Second)) h)

-- one function more
cons_two : {S : Type 0} (o : Option S) (ks : List S) → cons_option o ks ≡ option_to_list o ++ ks
cons_two None ks = refl
cons_two (Some k) ks = refl

one_more : {S : Type 0} (so : Function → Option S) (fs : List Function) (f : Function) → filter_map so (fs ++ f ∷ []) ≡ filter_map so fs ++ option_to_list (so f)
one_more so [] f = last (so f)
  where
    last : {S : Type 0} (o : Option S) → cons_option o [] ≡ option_to_list o
    last None = refl
    last (Some k) = refl
one_more so (g ∷ gs) f =
    ap (cons_option (so g)) (one_more so gs f) ∙ cons_two (so g) (filter_map so gs ++ option_to_list (so f))
    ∙ sym (append_assoc (option_to_list (so g)) (filter_map so gs) (option_to_list (so f)))
    ∙ ap (λ ks. ks ++ option_to_list (so f)) (sym (cons_two (so g) (filter_map so gs)))

pub listener_more : (fs : List Function) (f : Function) → listeners_in (fs ++ f ∷ []) ≡ listeners_in fs ++ option_to_list (listener_so f.name f.make)
listener_more fs f = one_more (λ g. listener_so g.name g.make) fs f

pub converter_more : (fs : List Function) (f : Function) → converters_in (fs ++ f ∷ []) ≡ converters_in fs ++ option_to_list (converter_so f.name f.make)
converter_more fs f = one_more (λ g. converter_so g.name g.make) fs f

-- ---- the registry of a list

abbrev pub Holds : Language → Registered Listener Converter → List Function → Type 0
Holds l r fs = (r.listeners ≡ listeners_in fs) × (r.converters ≡ converters_in fs) × (r.language ≡ l)

as_held : (l : Language) (r : Registered Listener Converter) (fs : List Function) → Holds l r fs → r ≡ in_sorts l fs
as_held l r fs (h, k, m) = λ i. record { listeners = h i; converters = k i; language = m i }

-- the next function is refused
pub refused_so : (l : Language) (fs : List Function) (f : Function) (rest all : List Function) (r : Registered Listener Converter) (cause : Cause) → Holds l r fs → all ≡ fs ++ f ∷ rest
    → (cause ≡ Cause.OutOfMemory) ⊎ ((cause ≡ Cause.IllegalArgument Argument.Second) × (stands r f.name f.make ≡ true)) → IsUnlessMemory {A = Registered Listener Converter} (Err cause) (registered l all)
refused_so l fs f rest all r cause h whole (inl memory) = inl memory
refused_so l fs f rest all r cause h whole (inr second) =
    inr (ap Err second.0 ∙ not_registered l all (ap are_named_once whole ∙ second_name l fs f rest (ap (λ s. stands s f.name f.make) (sym (as_held l r fs h)) ∙ second.1)))

-- none is left
pub all_held : (l : Language) (fs all : List Function) (r : Registered Listener Converter) → Holds l r fs → all ≡ fs → AreNamedOnce r → Ok r ≡ registered l all
all_held l fs all r h whole names =
    ap Ok (as_held l r fs h)
    ∙ all_registered l fs (ap (are_distinct_by (λ k. k.name)) (sym h.0) ∙ names.0) (ap (are_distinct_by (λ k. k.name)) (sym h.1) ∙ names.1)
    ∙ ap (registered l) (sym whole)
