-- What a flush writes can be held by a store.
use Rattle.std.proofs.Common.{◌≡◌, ◌<◌, ◌+◌, ◌-◌, ℕ, zero, suc, Bool, true, false, T, List, [], ◌∷◌, length, refl, ap, sym, subst, arith}
use Rattle.std.specs.Prelude.{Option, Some, None, ◌==◌, ◌||◌, if◌then◌else◌, ℤ, pos, negsuc, is_some, nat_lt}
use Rattle.std.specs.List.{AllByRecursion, list_all, filter}
use Rattle.std.specs.Option.{unwrap_or}
use Rattle.std.specs.Ordering.{is_lt, int_cmp}
use Rattle.std.specs.declared.cmp.Ordering.{Ordering}
use Rattle.std.specs.declared.cmp.Ordering.TheVariants.{Less, Equal, Greater}
use Rattle.std.specs.FinMap.Entries.{put, by_order, is_sorted-put}
use Rattle.std.specs.FinMap.{is_sorted}
use Rattle.std.proofs.lemmas.Bool.Decides.{nat_tests}
use Rattle.std.proofs.lemmas.Bool.{cond_both, false≢true, true≢false, ltb-true, lt-ltb, eq-eqb, and_parts, and_from, or_left}
use Rattle.jpa_value.specs.declared.value.Value.{Value}
use Rattle.jpa_value.specs.declared.value.Identity.{Identity}
use Rattle.jpa_value.specs.Value.{identity_cmp, is_i64, is_null, is_representable}
use Rattle.jpa_value.proofs.Orders.{identity_total, identity_exact}
use Rattle.jpa_model.specs.declared.unit.PersistenceUnit.{PersistenceUnit}
use Rattle.jpa_model.specs.declared.unit.Attribute.{Attribute}
use Rattle.jpa_model.specs.declared.unit.VersionColumn.{VersionColumn}
use Rattle.jpa_model.specs.Chains.{root_of, relations_of}
use Rattle.jpa_behaviour.specs.Behaviour.{World, AnswersConvertible, is_convertible}
use Rattle.jpa_stored.specs.declared.objects.stored.Stored.{Stored}
use Rattle.jpa_stored.specs.objects.Sets.{StoredSet, with_stored, each_fits, is_shaped, is_identity_of, is_key_of, version_there, owns_well}
use Rattle.jpa_rows.specs.rows.Cells.{version_representable, holds_representable, names_representable, passes, is_given, column_value, cell_value}
use Rattle.jpa_work.specs.declared.heap.LiveObject.{LiveObject}
use Rattle.jpa_work.specs.context.Work.{Work, object, identity_at}
use Rattle.jpa_flush.specs.flush.Flush.{Action, joined, joined_all, first_version, raised, can_rise, converts, stored_of, written}
use Rattle.jpa_machine.specs.machine.Consistent.{IsLive, name_of}
use Rattle.jpa_machine.proofs.machine.Setting.{has_version}

-- ---- what holds of each entry of a set, where one is put and some are left out

put_step : (p : Identity × Stored → Bool) (id : Identity) (x : Stored) (e : Identity × Stored) (es : StoredSet) (o : Ordering) → identity_cmp id e.0 ≡ o → p (id, x) ≡ true → p e ≡ true →
    list_all p es ≡ true → list_all p (put identity_cmp id x es) ≡ true → list_all p (by_order o ((id, x) ∷ e ∷ es) ((e.0, x) ∷ es) (e ∷ put identity_cmp id x es)) ≡ true
put_step p id x e es Less q h k l r = and_from (p (id, x)) (list_all p (e ∷ es)) h (and_from (p e) (list_all p es) k l)
put_step p id x e es Equal q h k l r = and_from (p (e.0, x)) (list_all p es) (subst (λ i. p (i, x) ≡ true) (identity_exact id e.0 q) h) l
put_step p id x e es Greater q h k l r = and_from (p e) (list_all p (put identity_cmp id x es)) k r

pub put_holds : (p : Identity × Stored → Bool) (id : Identity) (x : Stored) (s : StoredSet) → p (id, x) ≡ true → list_all p s ≡ true → list_all p (with_stored id x s) ≡ true
put_holds p id x [] h k = and_from (p (id, x)) true h refl
put_holds p id x (e ∷ es) h k =
    let a = and_parts (p e) (list_all p es) k in
    put_step p id x e es (identity_cmp id e.0) refl h a.0 a.1 (put_holds p id x es h a.1)

pub part_holds : {A : Type 0} (p t : A → Bool) (xs : List A) → list_all p xs ≡ true → list_all p (filter t xs) ≡ true
part_holds p t [] h = refl
part_holds p t (x ∷ xs) h = let a = and_parts (p x) (list_all p xs) h in by_test (t x) a.0 (part_holds p t xs a.1)
  where
    by_test : (b : Bool) → p x ≡ true → list_all p (filter t xs) ≡ true → list_all p (if b then x ∷ filter t xs else filter t xs) ≡ true
    by_test true h k = and_from (p x) (list_all p (filter t xs)) h k
    by_test false h k = k

-- what is written for an action is fit to be put
abbrev pub IsFit : (Identity × Stored → Bool) → PersistenceUnit → Work → ℕ × Action → Type 0
IsFit p m w a = (id : Identity) (x : Stored) → identity_at m w a.0 ≡ Some id → written m w a.0 a.1 ≡ Some x → p (id, x) ≡ true

joined_holds : (p : Identity × Stored → Bool) (o : Option Identity) (x : Option Stored) (s : StoredSet) → ((id : Identity) (y : Stored) → o ≡ Some id → x ≡ Some y → p (id, y) ≡ true) →
    list_all p s ≡ true → list_all p (joined o x s) ≡ true
joined_holds p None x s k h = h
joined_holds p (Some id) None s k h = h
joined_holds p (Some id) (Some x) s k h = put_holds p id x s (k id x refl refl) h

pub all_joined_hold : (p : Identity × Stored → Bool) (m : PersistenceUnit) (w : Work) (plan : List (ℕ × Action)) (s : StoredSet) → AllByRecursion (IsFit p m w) plan → list_all p s ≡ true →
    list_all p (joined_all m w plan s) ≡ true
all_joined_hold p m w [] s k h = h
all_joined_hold p m w (a ∷ as') s k h =
    all_joined_hold p m w as' (joined (identity_at m w a.0) (written m w a.0 a.1) s) k.1 (joined_holds p (identity_at m w a.0) (written m w a.0 a.1) s k.0 h)

joined_rises : (o : Option Identity) (x : Option Stored) (s : StoredSet) → T (is_sorted identity_cmp s) → T (is_sorted identity_cmp (joined o x s))
joined_rises None x s h = h
joined_rises (Some id) None s h = h
joined_rises (Some id) (Some x) s h = is_sorted-put identity_cmp identity_total id x s h

pub all_joined_rise : (m : PersistenceUnit) (w : Work) (plan : List (ℕ × Action)) (s : StoredSet) → T (is_sorted identity_cmp s) → T (is_sorted identity_cmp (joined_all m w plan s))
all_joined_rise m w [] s h = h
all_joined_rise m w (a ∷ as') s h =
    all_joined_rise m w as' (joined (identity_at m w a.0) (written m w a.0 a.1) s) (joined_rises (identity_at m w a.0) (written m w a.0 a.1) s h)

-- ---- versions

pub first_fits : (c : Option VersionColumn) → version_there c (first_version (has_version c)) ≡ true
first_fits None = refl
first_fits (Some c) = refl

pub raised_fits : (c : Option VersionColumn) (v : Option ℤ) → version_there c v ≡ true → version_there c (raised v) ≡ true
raised_fits None None h = refl
raised_fits None (Some n) h = h
raised_fits (Some c) None h = h
raised_fits (Some c) (Some n) h = refl

pub first_representable : (b : Bool) → version_representable (first_version b) ≡ true
first_representable true = refl
first_representable false = refl

below_greatest : (n : ℕ) → is_lt (int_cmp (pos n) (pos 9223372036854775807)) ≡ true → n < 9223372036854775807
below_greatest n h = grind (arith, nat_tests)

pub raised_representable : (v : Option ℤ) → version_representable v ≡ true → can_rise v ≡ true → version_representable (raised v) ≡ true
raised_representable None h g = refl
raised_representable (Some (pos n)) h g = let l = below_greatest n g in lt-ltb (n + 1) 9223372036854775808 (omega (arith, l))
raised_representable (Some (negsuc zero)) h g = refl
raised_representable (Some (negsuc (suc n))) h g =
    let l = ltb-true (suc n) 9223372036854775808 h in
    cond_both _ (negsuc (suc (suc n) - 2)) (pos (1 - suc (suc n))) (λ z. is_i64 z ≡ true)
    (λ _. lt-ltb (suc (suc n) - 2) 9223372036854775808 (omega (arith, l)))
    (λ _. lt-ltb (1 - suc (suc n)) 9223372036854775808 (omega arith))

-- ---- converters

given_convertible : (v : Value) → is_convertible v ≡ true → is_given v ≡ true
given_convertible Value.Null h = absurd (false≢true h)
given_convertible (Value.Int n) h = refl
given_convertible (Value.Text bytes) h = refl
given_convertible (Value.Bytes bytes) h = refl

answer_given : (o : Option Value) → ((c : Value) → o ≡ Some c → is_convertible c ≡ true) → is_some o ≡ true → is_given (cell_value o) ≡ true
answer_given None k h = absurd (false≢true h)
answer_given (Some c) k h = given_convertible c (k c refl)

plain_passes : (v : Value) → (is_given v || is_null v) ≡ true
plain_passes Value.Null = refl
plain_passes (Value.Int n) = refl
plain_passes (Value.Text bytes) = refl
plain_passes (Value.Bytes bytes) = refl

-- a value for which the converter does not throw passes it
converted_passes : (world : World) → AnswersConvertible world → (c : Option (List ℕ)) (v : Value) → converts world c v ≡ true → (is_given (column_value world c v) || is_null v) ≡ true
converted_passes world k None v h = plain_passes v
converted_passes world k (Some name) Value.Null h = refl
converted_passes world k (Some name) (Value.Int n) h = or_left (is_given (cell_value (world.column name (Value.Int n)))) false (answer_given (world.column name (Value.Int n)) (k.0 name (Value.Int n)) h)
converted_passes world k (Some name) (Value.Text b) h = or_left (is_given (cell_value (world.column name (Value.Text b)))) false (answer_given (world.column name (Value.Text b)) (k.0 name (Value.Text b)) h)
converted_passes world k (Some name) (Value.Bytes b) h = or_left (is_given (cell_value (world.column name (Value.Bytes b)))) false (answer_given (world.column name (Value.Bytes b)) (k.0 name (Value.Bytes b)) h)

pub all_pass_converted : (world : World) → AnswersConvertible world → (ps : List (Attribute × Value)) → list_all (λ (p : Attribute × Value). converts world (p.0).converter p.1) ps ≡ true →
    list_all (λ (p : Attribute × Value). passes world p.0 p.1) ps ≡ true
all_pass_converted world k [] h = refl
all_pass_converted world k (p ∷ ps) h =
    let a = and_parts (converts world (p.0).converter p.1) (list_all (λ (q : Attribute × Value). converts world (q.0).converter q.1) ps) h in
    and_from (passes world p.0 p.1) (list_all (λ (q : Attribute × Value). passes world q.0 q.1) ps) (converted_passes world k (p.0).converter p.1 a.0) (all_pass_converted world k ps a.1)

-- ---- an object as it is stored

pub stored_shaped : (m : PersistenceUnit) (w : Work) (n : ℕ) (v : Option ℤ) → IsLive m w.objects (object w n) → is_key_of (root_of m (object w n).class) (object w n).key ≡ true →
    version_there (root_of m (object w n).class).version v ≡ true → each_fits (owns_well m) (relations_of m (object w n).class) (stored_of m w n v).owned ≡ true →
    is_shaped m (name_of m (object w n)) (stored_of m w n v) ≡ true
stored_shaped m w n v h whole there owned =
    let x = object w n in
    and_from (nat_lt x.class (length m.entities)) _ h.class
    (and_from (is_identity_of (root_of m x.class) (name_of m x)) _
    (and_from ((root_of m x.class).table == (root_of m x.class).table) (is_key_of (root_of m x.class) x.key) (eq-eqb (root_of m x.class).table (root_of m x.class).table refl) whole)
    (and_from (version_there (root_of m x.class).version v) _ there
    (and_from _ _ h.values owned)))

pub stored_representable : (m : PersistenceUnit) (w : Work) (n : ℕ) (v : Option ℤ) → IsLive m w.objects (object w n) → version_representable v ≡ true →
    list_all (list_all names_representable) (stored_of m w n v).owned ≡ true → holds_representable (stored_of m w n v) ≡ true
stored_representable m w n v h there owned =
    and_from (version_representable v) _ there
    (and_from (list_all is_representable (object w n).values) _ h.values_representable owned)

pub name_is : (m : PersistenceUnit) (x : LiveObject) (b : Bool) (id : Identity) → (if b then Some (name_of m x) else None) ≡ Some id → id ≡ name_of m x
name_is m x true id e = sym (ap (λ o. unwrap_or o id) e)
name_is m x false id e = absurd (true≢false (sym (ap is_some e)))
