-- Tuples of objects without their pairs: what tests, groups and lists make of tuples that are first made so.
use Rattle.std.proofs.Common.{◌≡◌, ◌∙◌, refl, ap, sym, ℕ, zero, suc, Bool, true, false, cond, List, [], ◌∷◌, length, map, Option, Some, None, option_map}
use Rattle.std.specs.Prelude.{◌&&◌, ◌++◌, nat_lt}
use Rattle.std.specs.List.{filter}
use Rattle.std.proofs.lemmas.Bool.{and_parts}
use Rattle.jpa_value.specs.declared.value.Identity.{Identity}
use Rattle.jpa_value.specs.declared.value.Value.{Value}
use Rattle.jpa_value.specs.Value.{fits}
use Rattle.jpa_model.specs.declared.unit.Attribute.{Attribute}
use Rattle.jpa_model.specs.declared.unit.PersistenceUnit.{PersistenceUnit}
use Rattle.jpa_model.specs.declared.unit.Relation.{Relation}
use Rattle.jpa_model.specs.declared.unit.Side.{Side}
use Rattle.jpa_model.specs.Chains.{attributes_of, relations_of, root_of}
use Rattle.jpa_stored.specs.declared.objects.stored.Stored.{Stored}
use Rattle.jpa_stored.specs.objects.Sets.{each_fits, is_identity_of, is_shaped, owns_as, owns_well, version_there}
use Rattle.jpql_meaning.specs.eval.Answers.{Answer, gives, overflows, ◌>>=◌, under, both}
use Rattle.jpql_meaning.specs.declared.eval.datum.Datum.{Datum}
use Rattle.jpql_meaning.specs.declared.eval.datum.Truth.{Truth}
use Rattle.jpql_meaning.specs.eval.Data.{same_data}
use Rattle.jpql_meaning.specs.eval.Truths.{is_yes}
use Rattle.jpql_meaning.specs.plan.Paths.{Entry, Tuple, object_at}
use Rattle.jpql_meaning.specs.plan.Meaning.{Case, alone, is_type_among, kept}
use Rattle.jpql_meaning.specs.plan.Selection.{case_of, put_tuple, put_tuples}
use Rattle.jpql_run.specs.Refused.{with_each}
use Rattle.jpa_questions.specs.by_key.ByKey.{has_pairs, pairless, without_pairs}

-- ---- objects, tuples and groups without pairs

module _ (m : PersistenceUnit) where
  -- an object of a set, without its pairs
  abbrev pub pairless_entry : Entry → Entry
  pairless_entry e = (e.0, pairless m e.1)

  -- a tuple of objects without their pairs
  abbrev pub pairless_tuple : Tuple → Tuple
  pairless_tuple t = map (option_map pairless_entry) t

  -- what is computed for a tuple or a group, computed for one without pairs
  abbrev pub pairless_case : Case → Case
  pairless_case at = record { tuple = pairless_tuple at.tuple; group = map pairless_tuple at.group }

  pub object_pairless : (t : Tuple) (place : ℕ) → object_at (pairless_tuple t) place ≡ option_map pairless_entry (object_at t place)
  object_pairless [] zero = refl
  object_pairless [] (suc n) = refl
  object_pairless (o ∷ t) zero = refl
  object_pairless (o ∷ t) (suc n) = object_pairless t n

  -- the class stays
  pub type_pairless : (classes : List ℕ) (t : Tuple) (place : ℕ) → is_type_among classes (object_at t place) ≡ is_type_among classes (object_at (pairless_tuple t) place)
  type_pairless classes t place = by (object_at t place) ∙ ap (is_type_among classes) (sym (object_pairless t place))
    where
      by : (e : Option Entry) → is_type_among classes e ≡ is_type_among classes (option_map pairless_entry e)
      by None = refl
      by (Some e) = refl

  pub each_pairless : (es : List Entry) → with_each [] (map pairless_entry es) ≡ map pairless_tuple (with_each [] es)
  each_pairless [] = refl
  each_pairless (e ∷ es) = ap (λ ts. (Some (pairless_entry e) ∷ []) ∷ ts) (each_pairless es)

  case_pairless : (ts : List Tuple) → case_of (map pairless_tuple ts) ≡ pairless_case (case_of ts)
  case_pairless [] = refl
  case_pairless (t ∷ ts) = refl

  pub cases_pairless : (groups : List (List Tuple)) → map case_of (map (map pairless_tuple) groups) ≡ map pairless_case (map case_of groups)
  cases_pairless [] = refl
  cases_pairless (ts ∷ groups) = λ i. case_pairless ts i ∷ cases_pairless groups i

  pub one_case : (ts : List Tuple) → case_of (map pairless_tuple ts) ∷ [] ≡ map pairless_case (case_of ts ∷ [])
  one_case ts = λ i. case_pairless ts i ∷ []

  pub alone_pairless : (ts : List Tuple) → map alone (map pairless_tuple ts) ≡ map pairless_case (map alone ts)
  alone_pairless [] = refl
  alone_pairless (t ∷ ts) = ap (λ cs. alone (pairless_tuple t) ∷ cs) (alone_pairless ts)

-- ---- its shape

owns_nothing : (side : Side) → owns_as side [] ≡ true
owns_nothing (Side.ManyToOne c) = refl
owns_nothing (Side.OneToOne c) = refl
owns_nothing (Side.OneToOneInverse owner) = refl
owns_nothing (Side.OneToMany owner) = refl
owns_nothing (Side.ManyToMany table) = refl
owns_nothing (Side.ManyToManyInverse owner) = refl

owned_fits : (m : PersistenceUnit) (relations : List Relation) (owned : List (List Identity)) → each_fits (owns_well m) relations owned ≡ true → each_fits (owns_well m) relations (without_pairs relations owned) ≡ true
owned_fits m [] owned h = h
owned_fits m (r ∷ relations) [] h = h
owned_fits m (r ∷ relations) (ids ∷ owned) h =
    let parts = and_parts (owns_well m r ids) (each_fits (owns_well m) relations owned) h in
    λ i. one (has_pairs r.side) parts.0 i && owned_fits m relations owned parts.1 i
  where
    one : (b : Bool) → owns_well m r ids ≡ true → owns_well m r (cond b [] ids) ≡ true
    one true k = ap (λ b. b && true) (owns_nothing r.side)
    one false k = k

-- what is left of an object without its pairs has the shape of its class
pub pairless_shaped : (m : PersistenceUnit) (id : Identity) (x : Stored) → is_shaped m id x ≡ true → is_shaped m id (pairless m x) ≡ true
pairless_shaped m id x h =
    let known = nat_lt x.class (length m.entities) in
    let named = is_identity_of (root_of m x.class) id in
    let versioned = version_there (root_of m x.class).version x.version in
    let valued = each_fits (λ (a : Attribute) (v : Value). fits a.kind v) (attributes_of m x.class) x.values in
    let owns = each_fits (owns_well m) (relations_of m x.class) x.owned in
    let a = and_parts known (named && (versioned && (valued && owns))) h in
    let b = and_parts named (versioned && (valued && owns)) a.1 in
    let c = and_parts versioned (valued && owns) b.1 in
    let d = and_parts valued owns c.1 in
    let left = owned_fits m (relations_of m x.class) x.owned d.1 in
    λ i. a.0 i && (b.0 i && (c.0 i && (d.0 i && left i)))

-- ---- tests and groups of tuples that are made others first

chosen : {A B : Type 0} (f : A → B) (x : A) (b : Bool) (xs : List A) → cond b (f x ∷ map f xs) (map f xs) ≡ map f (cond b (x ∷ xs) xs)
chosen f x true xs = refl
chosen f x false xs = refl

pub kept_made : {A B : Type 0} (f : A → B) (test : B → Answer Truth) (xs : List A) → kept test (map f xs) ≡ under (map f) (kept (λ a. test (f a)) xs)
kept_made f test [] = refl
kept_made {A} {B} f test (x ∷ xs) =
    ap (both (λ t more. cond (is_yes t) (f x ∷ more) more) (test (f x))) (kept_made f test xs) ∙ inside (test (f x)) (kept (λ a. test (f a)) xs)
  where
    inside : (t : Answer Truth) (more : Answer (List A)) → both (λ t more. cond (is_yes t) (f x ∷ more) more) t (under (map f) more) ≡ under (map f) (both (λ t more. cond (is_yes t) (x ∷ more) more) t more)
    inside overflows more = refl
    inside (gives t) overflows = refl
    inside (gives t) (gives more) = ap gives (chosen f x (is_yes t) more)

pub filter_made : {A B : Type 0} (f : A → B) (p : B → Bool) (xs : List A) → filter p (map f xs) ≡ map f (filter (λ a. p (f a)) xs)
filter_made f p [] = refl
filter_made f p (x ∷ xs) = ap (λ ys. cond (p (f x)) (f x ∷ ys) ys) (filter_made f p xs) ∙ chosen f x (p (f x)) (filter (λ a. p (f a)) xs)

pub under_then : {A B C : Type 0} (f : A → B) (next : B → Answer C) (a : Answer A) → (under f a >>= next) ≡ (a >>= λ x. next (f x))
under_then f next (gives x) = refl
under_then f next overflows = refl

joined : {A B : Type 0} (f : A → B) (xs ys : List A) → map f (xs ++ ys) ≡ map f xs ++ map f ys
joined f [] ys = refl
joined f (x ∷ xs) ys = ap (λ zs. f x ∷ zs) (joined f xs ys)

module _ (g : Tuple → Tuple) (key : Tuple → List Datum) where
  abbrev before : Tuple → List Datum
  before t = key (g t)

  put_made : (t : Tuple) (groups : List (List Tuple)) → put_tuple key (g t) (map (map g) groups) ≡ map (map g) (put_tuple before t groups)
  put_made t [] = refl
  put_made t ([] ∷ groups) = put_made t groups
  put_made t ((one ∷ more) ∷ groups) = by (put_made t groups) (same_data (key (g one)) (key (g t)))
    where
      by : put_tuple key (g t) (map (map g) groups) ≡ map (map g) (put_tuple before t groups) → (b : Bool)
          → cond b ((g one ∷ map g more ++ g t ∷ []) ∷ map (map g) groups) ((g one ∷ map g more) ∷ put_tuple key (g t) (map (map g) groups))
          ≡ map (map g) (cond b ((one ∷ more ++ t ∷ []) ∷ groups) ((one ∷ more) ∷ put_tuple before t groups))
      by rest true = ap (λ (ts : List Tuple). (g one ∷ ts) ∷ map (map g) groups) (sym (joined g more (t ∷ [])))
      by rest false = ap (λ (gs : List (List Tuple)). (g one ∷ map g more) ∷ gs) rest

  pub puts_made : (groups : List (List Tuple)) (ts : List Tuple) → put_tuples key (map (map g) groups) (map g ts) ≡ map (map g) (put_tuples before groups ts)
  puts_made groups [] = refl
  puts_made groups (t ∷ ts) = ap (λ gs. put_tuples key gs (map g ts)) (put_made t groups) ∙ puts_made (put_tuple before t groups) ts
