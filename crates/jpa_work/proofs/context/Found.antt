-- Who looks for an entry of a key finds it among those near the key.
use Rattle.std.proofs.Common.{◌≡◌, ◌∙◌, refl, sym, ap, subst, ℕ, suc, List, [], ◌∷◌, map, Bool, T, cond, true, false, arith, Ordering, Less, Equal, Greater, is_eq}
use Rattle.std.proofs.Math.Dec.{eqb_refl}
use Rattle.std.proofs.lemmas.List.Elements.{All-filter, All-map}
use Rattle.std.specs.Prelude.{All, filter, find, Some, None, slice_index_or}
use Rattle.jpa_value.specs.declared.value.Value.{Value}
use Rattle.jpa_value.specs.declared.value.Identity.{Identity}
use Rattle.jpa_value.specs.Value.{identity_cmp}
use Rattle.jpa_value.proofs.Orders.{identity_exact}
use Rattle.jpa_model.specs.declared.unit.PersistenceUnit.{PersistenceUnit}
use Rattle.jpa_model.specs.Chains.{root_of}
use Rattle.jpa_work.specs.declared.heap.LiveObject.{LiveObject}
use Rattle.jpa_work.specs.heap.Objects.{identity_of, is_whole, object_at}
use Rattle.jpa_work.specs.declared.context.Entry.{Entry}
use Rattle.jpa_work.specs.context.Near.{AreUnder, is_near, places_near, fingerprint}
use Rattle.jpa_work.specs.context.Undo.{IsKeyed}
use Rattle.jpa_work.specs.context.Work.{Work, has_identity, identity_at, instance, object_in}

true_is : (b : Bool) → T b → b ≡ true
true_is true t = refl
true_is false t = absurd t

-- a key is near itself
pub near_itself : (key : List Value) → is_near key key ≡ true
near_itself key = true_is (is_near key key) (eqb_refl (fingerprint key))

-- what holds of the objects of a context holds of the places near a key
pub near_within : (P : ℕ → Type 0) (key : List Value) (es : List Entry) → All (λ (e : Entry). P e.object) es → All P (places_near key es)
near_within P key es all =
    All-map P (λ (e : Entry). e.object) (filter (λ (e : Entry). is_near e.key key) es) (All-filter (λ (e : Entry). is_near e.key key) (λ (e : Entry). P e.object) es all)

by_test : {A : Type 0} (b : Bool) → (b ≡ true → A) → (b ≡ false → A) → A
by_test true yes' no' = yes' refl
by_test false yes' no' = no' refl

pub found : (p : ℕ → Bool) (key : List Value) (es : List Entry) → AreUnder key p es → find p (places_near key es) ≡ object_in (find (λ (e : Entry). p e.object) es)
found p key [] under = refl
found p key (e ∷ es) under =
    let near = filter (λ (x : Entry). is_near x.key key) es in
    let rest = find p (map (λ (x : Entry). x.object) near) in
    let later = find (λ (x : Entry). p x.object) es in
    let others : rest ≡ object_in later = found p key es (λ k d l. under (suc k) d (omega (arith, l))) in
    let Goal : Type 0 = find p (places_near key (e ∷ es)) ≡ object_in (find (λ (x : Entry). p x.object) (e ∷ es)) in
    let passes : p e.object ≡ true → Goal = λ h.
    let close : is_near e.key key ≡ true = ap (λ k. is_near k key) (under 0 e (omega arith) h) ∙ near_itself key in
    ap (λ b. find p (map (λ (x : Entry). x.object) (cond b (e ∷ near) near))) close
    ∙ ap (λ b. cond b (Some e.object) rest) h ∙ sym (ap (λ b. object_in (cond b (Some e) later)) h) in
    let fails : p e.object ≡ false → Goal = λ h.
    let skipped : find p (map (λ (x : Entry). x.object) (cond (is_near e.key key) (e ∷ near) near)) ≡ rest =
    elim (is_near e.key key) as (λ b. find p (map (λ (x : Entry). x.object) (cond b (e ∷ near) near)) ≡ rest) [
      | true ↦ ap (λ b. cond b (Some e.object) rest) h
      | false ↦ refl
    ] in
    skipped ∙ others ∙ sym (ap (λ b. object_in (cond b (Some e) later)) h) in
    by_test (p e.object) passes fails

tie : (o : Ordering) → is_eq o ≡ true → o ≡ Equal
tie Less e = absurd (subst T (sym e) tt)
tie Equal e = refl
tie Greater e = absurd (subst T (sym e) tt)

-- an object with an identity has its key
pub identity_key : (m : PersistenceUnit) (x : LiveObject) (id : Identity) → has_identity (identity_of m x) id ≡ true → x.key ≡ id.key
identity_key m x id h = by_whole (is_whole x.key) h
  where
    own : Identity
    own = record { table = (root_of m x.class).table; key = x.key }

    by_whole : (b : Bool) → has_identity (cond b (Some own) None) id ≡ true → x.key ≡ id.key
    by_whole true e = ap (λ (i : Identity). i.key) (identity_exact own id (tie (identity_cmp own id) e))
    by_whole false e = absurd (subst T (sym e) tt)

-- the object of an identity is found among the places near its key
pub instance_near : (m : PersistenceUnit) (w : Work) (id : Identity) → All (IsKeyed w.objects) w.context
    → find (λ n. has_identity (identity_at m w n) id) (places_near id.key w.context) ≡ instance m w id
instance_near m w id keyed =
    found (λ n. has_identity (identity_at m w n) id) id.key w.context
    (λ k d l h. sym (keyed k d l).same ∙ identity_key m (object_at w.objects (slice_index_or w.context k d).object) id h)
