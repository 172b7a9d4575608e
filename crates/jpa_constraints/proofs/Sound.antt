-- A set that was sound is sound after changes where each change passes: part by part, both ways.
use Rattle.std.specs.Prelude.{◌≡◌, ◌⊎◌, ◌++◌, ℕ, Bool, true, false, not, ◌&&◌, ◌||◌, T, All, List, [], ◌∷◌, Option, Some, None, option_map}
use Rattle.std.proofs.Common.{refl, sym, ap, subst, ◌∙◌, inl, inr}
use Rattle.std.specs.List.{list_all, list_any, flat_map, zip}
use Rattle.std.specs.Cmp.{eq_by_cmp_equiv, tied_itself}
use Rattle.std.specs.Ordering.{is_eq}
use Rattle.std.specs.FinMap.Entries.{is_sorted}
use Rattle.std.proofs.lemmas.Bool.{and_parts, and_from, false≢true, true≢false, eqb-true}
use Rattle.std.proofs.lemmas.List.Elements.{All-head, All-tail}
use Rattle.jpa_value.specs.declared.value.Identity.{Identity}
use Rattle.jpa_value.specs.Value.{identity_cmp, same_identity}
use Rattle.jpa_value.proofs.Orders.{identity_exact, identity_total}
use Rattle.jpa_model.specs.declared.unit.PersistenceUnit.{PersistenceUnit}
use Rattle.jpa_model.specs.declared.unit.Relation.{Relation}
use Rattle.jpa_model.specs.Chains.{relations_of, is_kind_of}
use Rattle.jpa_stored.specs.objects.ClaimOrder.{claim_total}
use Rattle.jpa_stored.specs.declared.objects.claims.Claim.{Claim}
use Rattle.jpa_stored.specs.declared.objects.stored.Stored.{Stored}
use Rattle.jpa_stored.specs.objects.Sets.{StoredSet, stored_at, no_required_null, is_of, all_lead, claims, same_claim, all_distinct, no_shared_target, first_fault, fault_of}
use Rattle.jpa_open.specs.Leads.{has_rival, holds_where, leads_well, leads_wrong}
use Rattle.jpa_constraints.specs.declared.change.Change.{Change}
use Rattle.jpa_constraints.specs.Changed.{class_at, is_changed, IsChangedFrom, IsChanged}
use Rattle.jpa_constraints.specs.Judged.{if_there, has_required, fills, links_lead, object_leads, keeps_class, leads, links_alone, object_alone, is_alone, fault_at}
use Rattle.jpa_constraints.proofs.Each.{equal, holds_all, holds_found}
use Rattle.jpa_constraints.proofs.Apart.{are_apart, no_claim_twice, each_own, two_apart, turned}
use Rattle.jpa_constraints.proofs.Claims.{claims_in, links_are, all_claims}

same_bool : (a b : Bool) → (a ≡ true → b ≡ true) → (b ≡ true → a ≡ true) → a ≡ b
same_bool true b f g = sym (f refl)
same_bool false true f g = g refl
same_bool false false f g = refl

parts : (a b c : Bool) → first_fault a b c ≡ None → (a ≡ true) × (b ≡ true) × (c ≡ true)
parts true true true h = (refl, refl, refl)
parts false b c h = absurd cc
parts true false c h = absurd cc
parts true true false h = absurd cc

same_back : (a b : Claim) → same_claim a b ≡ same_claim b a
same_back a b = (eq_by_cmp_equiv claim_total).symm a b

identity_back : (a b : Identity) → same_identity a b ≡ same_identity b a
identity_back a b = (eq_by_cmp_equiv identity_total).symm a b

same_is : (a b : Identity) → same_identity a b ≡ true → a ≡ b
same_is a b h = identity_exact a b (equal (identity_cmp a b) h)

same_self : (a : Identity) → same_identity a a ≡ true
same_self a = ap is_eq (tied_itself identity_total a)

or_first : (a b : Bool) → (a || b) ≡ false → a ≡ false
or_first false b h = refl
or_first true b h = h

or_second : (a b : Bool) → (a || b) ≡ false → b ≡ false
or_second false b h = h
or_second true b h = absurd (true≢false h)

or_right : (a b : Bool) → b ≡ true → (a || b) ≡ true
or_right true b h = refl
or_right false b h = h

either_of : (a b : Bool) → (a || b) ≡ true → (a ≡ true) ⊎ (b ≡ true)
either_of true b h = inl refl
either_of false b h = inr h

not_none : (x : Stored) → None ≡ Some x → ⊥
not_none x e = absurd cc

there : (f : Stored → Bool) (o : Option Stored) → ((x : Stored) → o ≡ Some x → f x ≡ true) → if_there f o ≡ true
there f None k = refl
there f (Some x) k = k x refl

-- ---- one change for each identity that was changed

module _ (before : StoredSet) where
  abbrev IsOf : Change → Type 0
  IsOf c = c.class_before ≡ class_at before c.id.now

  at_change : (t : Change → Bool) (P : Identity → Type 0) → ((c : Change) → IsOf c → t c ≡ true → P c.id.now) → (cs : List Change) → All IsOf cs → list_all t cs ≡ true → (q : Identity) → is_changed cs q ≡ true → P q
  at_change t P k [] of h q e = absurd (false≢true e)
  at_change t P k (c ∷ cs) of h q e =
      let a = and_parts (t c) (list_all t cs) h in
      by_first (same_identity q c.id.now) refl a.0 (at_change t P k cs (All-tail IsOf c cs of) a.1 q) e
    where
      by_first : (b : Bool) → same_identity q c.id.now ≡ b → t c ≡ true → (is_changed cs q ≡ true → P q) → (b || is_changed cs q) ≡ true → P q
      by_first true s h rest e = subst P (sym (same_is q c.id.now s)) (k c (All-head IsOf c cs of) h)
      by_first false s h rest e = rest e

  all_changes : (t : Change → Bool) → ((c : Change) → IsOf c → t c ≡ true) → (cs : List Change) → All IsOf cs → list_all t cs ≡ true
  all_changes t k [] of = refl
  all_changes t k (c ∷ cs) of = and_from (t c) (list_all t cs) (k c (All-head IsOf c cs of)) (all_changes t k cs (All-tail IsOf c cs of))

-- ---- no link to an identity is wrong where all links lead

module _ (m : PersistenceUnit) (s : StoredSet) (id : Identity) where
  abbrev wrong : Relation × List Identity → Bool
  wrong p = leads_wrong m s id p.0 && list_any (same_identity id) p.1

  not_owned : (r : Relation) (ids : List Identity) → is_of m (stored_at s id) r.target ≡ false → list_all (λ i. is_of m (stored_at s i) r.target) ids ≡ true → list_any (same_identity id) ids ≡ false
  not_owned r [] f h = refl
  not_owned r (i ∷ ids) f h =
      let a = and_parts (is_of m (stored_at s i) r.target) (list_all (λ j. is_of m (stored_at s j) r.target) ids) h in
      by_first (same_identity id i) refl a.0 (not_owned r ids f a.1)
    where
      by_first : (b : Bool) → same_identity id i ≡ b → is_of m (stored_at s i) r.target ≡ true → list_any (same_identity id) ids ≡ false → (b || list_any (same_identity id) ids) ≡ false
      by_first true e g rest = absurd (false≢true (sym f ∙ ap (λ j. is_of m (stored_at s j) r.target) (same_is id i e) ∙ g))
      by_first false e g rest = rest

  one_right : (p : Relation × List Identity) → list_all (λ i. is_of m (stored_at s i) (p.0).target) p.1 ≡ true → wrong p ≡ false
  one_right p h = by_kind (is_of m (stored_at s id) (p.0).target) refl
    where
      by_kind : (b : Bool) → is_of m (stored_at s id) (p.0).target ≡ b → (not b && list_any (same_identity id) p.1) ≡ false
      by_kind true e = refl
      by_kind false e = not_owned p.0 p.1 e h

  links_right : (ps : List (Relation × List Identity)) → links_lead m s ps ≡ true → list_any wrong ps ≡ false
  links_right [] h = refl
  links_right (p ∷ ps) h =
      let a = and_parts (list_all (λ i. is_of m (stored_at s i) (p.0).target) p.1) (links_lead m s ps) h in
      (λ i. one_right p a.0 i || list_any wrong ps) ∙ links_right ps a.1

  objects_right : (es : StoredSet) → list_all (λ e. object_leads m s e.1) es ≡ true → not (list_any (holds_where m (leads_wrong m s id) id) es) ≡ true
  objects_right [] h = refl
  objects_right (e ∷ es) h =
      let a = and_parts (object_leads m s e.1) (list_all (λ d. object_leads m s d.1) es) h in
      ap (λ b. not (b || list_any (holds_where m (leads_wrong m s id) id) es)) (links_right (zip (relations_of m (e.1).class) (e.1).owned) a.0) ∙ objects_right es a.1

  -- nor does one of them own it in a wrong relation, where none does
  right_at : leads_well m s id ≡ true → (q : Identity) (x : Stored) → stored_at s q ≡ Some x → list_any wrong (zip (relations_of m x.class) x.owned) ≡ false
  right_at h q x e = not_true (list_any wrong (zip (relations_of m x.class) x.owned)) (holds_found (λ d. not (holds_where m (leads_wrong m s id) id d)) s (none (holds_where m (leads_wrong m s id) id) s h) q x e)
    where
      not_true : (b : Bool) → not b ≡ true → b ≡ false
      not_true true h = sym h
      not_true false h = refl

      none : (p : Identity × Stored → Bool) (es : StoredSet) → not (list_any p es) ≡ true → list_all (λ d. not (p d)) es ≡ true
      none p [] h = refl
      none p (d ∷ es) h = by_first (p d) h (none p es)
        where
          by_first : (b : Bool) → not (b || list_any p es) ≡ true → (not (list_any p es) ≡ true → list_all (λ d. not (p d)) es ≡ true) → (not b && list_all (λ d. not (p d)) es) ≡ true
          by_first true h rest = h
          by_first false h rest = rest h

module _ (m : PersistenceUnit) (before : StoredSet) (changes : List Change) (after : StoredSet) (rising : T (is_sorted identity_cmp after)) (from : IsChangedFrom m before changes after) where
  sound : (no_required_null m before ≡ true) × (all_lead m before ≡ true) × (no_shared_target m before ≡ true)
  sound = parts (no_required_null m before) (all_lead m before) (no_shared_target m before) from.sound

  stays : (q : Identity) (x : Stored) → is_changed changes q ≡ false → stored_at after q ≡ Some x → stored_at before q ≡ Some x
  stays q x c e = sym (from.elsewhere q c) ∙ e

  case_of : {A : Type 0} (b : Bool) → (b ≡ true → A) → (b ≡ false → A) → A
  case_of true f g = f refl
  case_of false f g = g refl

  -- ---- null

  filled : no_required_null m after ≡ list_all (fills m after) changes
  filled = same_bool (no_required_null m after) (list_all (fills m after) changes) onward back
    where
      onward : no_required_null m after ≡ true → list_all (fills m after) changes ≡ true
      onward h =
          all_changes before (fills m after)
          (λ c of. there (has_required m) (stored_at after c.id.now) (λ x e. holds_found (λ e. has_required m e.1) after h c.id.now x e)) changes from.classes

      at : list_all (fills m after) changes ≡ true → (q : Identity) → is_changed changes q ≡ true → (x : Stored) → stored_at after q ≡ Some x → has_required m x ≡ true
      at h =
          at_change before (fills m after) (λ q. (x : Stored) → stored_at after q ≡ Some x → has_required m x ≡ true) (λ c of t x e. ap (if_there (has_required m)) (sym e) ∙ t)
          changes from.classes h

      back : list_all (fills m after) changes ≡ true → no_required_null m after ≡ true
      back h =
          holds_all (λ e. has_required m e.1) after rising
          (λ q x e. case_of (is_changed changes q) (λ c. at h q c x e) (λ c. holds_found (λ e. has_required m e.1) before sound.0 q x (stays q x c e)))

  -- ---- reference

  -- what leads to an identity by its class before does so after
  abbrev Keeps : Identity → Type 0
  Keeps id = (target : ℕ) → is_of m (stored_at before id) target ≡ true → is_of m (stored_at after id) target ≡ true

  same_class : (o p : Option Stored) → keeps_class (option_map (λ x. x.class) o) (option_map (λ x. x.class) p) ≡ true → (target : ℕ) → is_of m o target ≡ true → is_of m p target ≡ true
  same_class None p h target k = absurd (false≢true k)
  same_class (Some x) None h target k = absurd (false≢true h)
  same_class (Some x) (Some y) h target k = ap (λ c. is_kind_of m c target) (sym (eqb-true x.class y.class h)) ∙ k

  abbrev State : Identity → Type 0
  State id = Keeps id ⊎ (leads_well m after id ≡ true)

  at_leads : list_all (leads m after) changes ≡ true → (q : Identity) → is_changed changes q ≡ true → ((x : Stored) → stored_at after q ≡ Some x → object_leads m after x ≡ true) × State q
  at_leads = at_change before (leads m after) (λ q. ((x : Stored) → stored_at after q ≡ Some x → object_leads m after x ≡ true) × State q) each changes from.classes
    where
      state : (c : Change) → IsOf before c → (keeps_class c.class_before (class_at after c.id.now) ≡ true) ⊎ (leads_well m after c.id.now ≡ true) → State c.id.now
      state c of (inl h) = inl (same_class (stored_at before c.id.now) (stored_at after c.id.now) (ap (λ b. keeps_class b (class_at after c.id.now)) (sym of) ∙ h))
      state c of (inr h) = inr h

      each : (c : Change) → IsOf before c → leads m after c ≡ true → ((x : Stored) → stored_at after c.id.now ≡ Some x → object_leads m after x ≡ true) × State c.id.now
      each c of h =
          let a = and_parts (if_there (object_leads m after) (stored_at after c.id.now)) (keeps_class c.class_before (class_at after c.id.now) || leads_well m after c.id.now) h in
          (λ x e. ap (if_there (object_leads m after)) (sym e) ∙ a.0, state c of (either_of (keeps_class c.class_before (class_at after c.id.now)) (leads_well m after c.id.now) a.1))

  unchanged_keeps : (id : Identity) → is_changed changes id ≡ false → Keeps id
  unchanged_keeps id c target h = ap (λ o. is_of m o target) (from.elsewhere id c) ∙ h

  abbrev Right : List (Relation × List Identity) → Identity → Type 0
  Right ps id = Keeps id ⊎ (list_any (wrong m after id) ps ≡ false)

  first_right : (p : Relation × List Identity) (ps : List (Relation × List Identity)) (id : Identity) → Right (p ∷ ps) id → Keeps id ⊎ (wrong m after id p ≡ false)
  first_right p ps id (inl k) = inl k
  first_right p ps id (inr h) = inr (or_first (wrong m after id p) (list_any (wrong m after id) ps) h)

  rest_right : (p : Relation × List Identity) (ps : List (Relation × List Identity)) (id : Identity) → Right (p ∷ ps) id → Right ps id
  rest_right p ps id (inl k) = inl k
  rest_right p ps id (inr h) = inr (or_second (wrong m after id p) (list_any (wrong m after id) ps) h)

  ids_lead : (r : Relation) (ids : List Identity) → ((id : Identity) → Keeps id ⊎ (wrong m after id (r, ids) ≡ false)) → list_all (λ i. is_of m (stored_at before i) r.target) ids ≡ true → list_all (λ i. is_of m (stored_at after i) r.target) ids ≡ true
  ids_lead r [] k h = refl
  ids_lead r (i ∷ ids) k h =
      let a = and_parts (is_of m (stored_at before i) r.target) (list_all (λ j. is_of m (stored_at before j) r.target) ids) h in
      and_from (is_of m (stored_at after i) r.target) (list_all (λ j. is_of m (stored_at after j) r.target) ids) (one (k i) a.0) (ids_lead r ids (λ id. fewer id (k id)) a.1)
    where
      is_right : (b : Bool) → (not b && (same_identity i i || list_any (same_identity i) ids)) ≡ false → b ≡ true
      is_right true h = refl
      is_right false h = sym h ∙ ap (λ b. b || list_any (same_identity i) ids) (same_self i)

      one : Keeps i ⊎ (wrong m after i (r, i ∷ ids) ≡ false) → is_of m (stored_at before i) r.target ≡ true → is_of m (stored_at after i) r.target ≡ true
      one (inl k) h = k r.target h
      one (inr e) h = is_right (is_of m (stored_at after i) r.target) e

      fewer_in : (w a b : Bool) → (w && (a || b)) ≡ false → (w && b) ≡ false
      fewer_in false a b h = refl
      fewer_in true a b h = or_second a b h

      fewer : (id : Identity) → Keeps id ⊎ (wrong m after id (r, i ∷ ids) ≡ false) → Keeps id ⊎ (wrong m after id (r, ids) ≡ false)
      fewer id (inl k) = inl k
      fewer id (inr e) = inr (fewer_in (leads_wrong m after id r) (same_identity id i) (list_any (same_identity id) ids) e)

  pairs_lead : (ps : List (Relation × List Identity)) → ((id : Identity) → Right ps id) → links_lead m before ps ≡ true → links_lead m after ps ≡ true
  pairs_lead [] k h = refl
  pairs_lead (p ∷ ps) k h =
      let a = and_parts (list_all (λ i. is_of m (stored_at before i) (p.0).target) p.1) (links_lead m before ps) h in
      and_from (list_all (λ i. is_of m (stored_at after i) (p.0).target) p.1) (links_lead m after ps) (ids_lead p.0 p.1 (λ id. first_right p ps id (k id)) a.0) (pairs_lead ps (λ id. rest_right p ps id (k id)) a.1)

  led : all_lead m after ≡ list_all (leads m after) changes
  led = same_bool (all_lead m after) (list_all (leads m after) changes) onward back
    where
      onward : all_lead m after ≡ true → list_all (leads m after) changes ≡ true
      onward h =
          all_changes before (leads m after)
          (λ c of. and_from (if_there (object_leads m after) (stored_at after c.id.now)) (keeps_class c.class_before (class_at after c.id.now) || leads_well m after c.id.now)
          (there (object_leads m after) (stored_at after c.id.now) (λ x e. holds_found (λ d. object_leads m after d.1) after h c.id.now x e))
          (or_right (keeps_class c.class_before (class_at after c.id.now)) (leads_well m after c.id.now) (objects_right m after c.id.now after h)))
          changes from.classes

      right : list_all (leads m after) changes ≡ true → (q : Identity) (x : Stored) → stored_at after q ≡ Some x → (id : Identity) → Right (zip (relations_of m x.class) x.owned) id
      right h q x e id = case_of (is_changed changes id) (λ c. by_state (at_leads h id c).1) (λ c. inl (unchanged_keeps id c))
        where
          by_state : State id → Right (zip (relations_of m x.class) x.owned) id
          by_state (inl k) = inl k
          by_state (inr w) = inr (right_at m after id w q x e)

      back : list_all (leads m after) changes ≡ true → all_lead m after ≡ true
      back h =
          holds_all (λ d. object_leads m after d.1) after rising
          (λ q x e. case_of (is_changed changes q) (λ c. (at_leads h q c).0 x e)
          (λ c. pairs_lead (zip (relations_of m x.class) x.owned) (right h q x e) (holds_found (λ d. object_leads m before d.1) before sound.1 q x (stays q x c e))))

  -- ---- unique

  abbrev claims_by : Identity × Stored → List Claim
  claims_by e = flat_map (claims_in (e.0).table) (zip (relations_of m (e.1).class) (e.1).owned)

  abbrev Apart : List Claim → List Claim → Type 0
  Apart xs ys = are_apart same_claim same_back claims_by xs ys ≡ true

  -- another object than this one has the claim
  abbrev has_claim : Claim → Identity → Identity × Stored → Bool
  has_claim c but e = not (same_identity e.0 but) && list_any (same_claim c) (claims m (e ∷ []))

  no_more : (xs : List Claim) → xs ++ [] ≡ xs
  no_more [] = refl
  no_more (x ∷ xs) = ap (λ ys. x ∷ ys) (no_more xs)

  none_has : (p : Identity × Stored → Bool) (es : StoredSet) → list_all (λ d. not (p d)) es ≡ true → not (list_any p es) ≡ true
  none_has p [] h = refl
  none_has p (d ∷ es) h = by_first (p d) h (none_has p es)
    where
      by_first : (b : Bool) → (not b && list_all (λ d. not (p d)) es) ≡ true → (list_all (λ d. not (p d)) es ≡ true → not (list_any p es) ≡ true) → not (b || list_any p es) ≡ true
      by_first true h rest = h
      by_first false h rest = rest h

  each_not : (p : Identity × Stored → Bool) (es : StoredSet) → not (list_any p es) ≡ true → list_all (λ d. not (p d)) es ≡ true
  each_not p [] h = refl
  each_not p (d ∷ es) h = by_first (p d) h (each_not p es)
    where
      by_first : (b : Bool) → not (b || list_any p es) ≡ true → (not (list_any p es) ≡ true → list_all (λ d. not (p d)) es ≡ true) → (not b && list_all (λ d. not (p d)) es) ≡ true
      by_first true h rest = h
      by_first false h rest = rest h

  -- claims that those of each other object are apart from have no rival
  no_rivals : (q : Identity) (xs : List Claim) → ((r : Identity) (y : Stored) → same_identity r q ≡ false → stored_at after r ≡ Some y → Apart xs (claims_by (r, y))) → list_all (λ c. not (has_rival m after c q)) xs ≡ true
  no_rivals q [] k = refl
  no_rivals q (c ∷ xs) k =
      and_from (not (has_rival m after c q)) (list_all (λ d. not (has_rival m after d q)) xs)
      (none_has (has_claim c q) after (holds_all (λ e. not (has_claim c q e)) after rising one))
      (no_rivals q xs (λ r y n e. (and_parts (not (list_any (same_claim c) (claims_by (r, y)))) (are_apart same_claim same_back claims_by xs (claims_by (r, y))) (k r y n e)).1))
    where
      by_first : (r : Identity) (y : Stored) → stored_at after r ≡ Some y → (b : Bool) → same_identity r q ≡ b → not (not b && list_any (same_claim c) (claims m ((r, y) ∷ []))) ≡ true
      by_first r y e true n = refl
      by_first r y e false n =
          ap (λ ys. not (list_any (same_claim c) ys)) (no_more (claims_by (r, y))) ∙ (and_parts (not (list_any (same_claim c) (claims_by (r, y)))) (are_apart same_claim same_back claims_by xs (claims_by (r, y))) (k r y n e)).0

      one : (r : Identity) (y : Stored) → stored_at after r ≡ Some y → not (has_claim c q (r, y)) ≡ true
      one r y e = by_first r y e (same_identity r q) refl

  -- and back
  rivals_apart : (q : Identity) (xs : List Claim) → list_all (λ c. not (has_rival m after c q)) xs ≡ true → (r : Identity) (y : Stored) → same_identity r q ≡ false → stored_at after r ≡ Some y → Apart xs (claims_by (r, y))
  rivals_apart q [] h r y n e = refl
  rivals_apart q (c ∷ xs) h r y n e =
      let a = and_parts (not (has_rival m after c q)) (list_all (λ d. not (has_rival m after d q)) xs) h in
      let no : not (has_claim c q (r, y)) ≡ true = holds_found (λ d. not (has_claim c q d)) after (each_not (has_claim c q) after a.0) r y e in
      and_from (not (list_any (same_claim c) (claims_by (r, y)))) (are_apart same_claim same_back claims_by xs (claims_by (r, y)))
      (ap (λ ys. not (list_any (same_claim c) ys)) (sym (no_more (claims_by (r, y)))) ∙ ap (λ b. not (not b && list_any (same_claim c) (claims m ((r, y) ∷ [])))) (sym n) ∙ no)
      (rivals_apart q xs a.1 r y n e)

  alone : no_shared_target m after ≡ list_all (is_alone m after) changes
  alone = same_bool (no_shared_target m after) (list_all (is_alone m after) changes) onward back
    where
      onward : no_shared_target m after ≡ true → list_all (is_alone m after) changes ≡ true
      onward h = all_changes before (is_alone m after) (λ c of. there (object_alone m after c.id.now) (stored_at after c.id.now) (λ x e. one c.id.now x e)) changes from.classes
        where
          one : (q : Identity) (x : Stored) → stored_at after q ≡ Some x → object_alone m after q x ≡ true
          one q x e =
              let ps = zip (relations_of m x.class) x.owned in
              and_from _ _
              (links_are q.table ps ∙ holds_found (λ d. all_distinct same_claim (claims_by d)) after (each_own same_claim same_back claims_by after h) q x e)
              (all_claims q.table (λ c. not (has_rival m after c q)) ps
              ∙ no_rivals q (claims_by (q, x)) (λ r y n e'. two_apart same_claim same_back claims_by after rising h q r x y (identity_back q r ∙ n) e e'))

      at : list_all (is_alone m after) changes ≡ true → (q : Identity) → is_changed changes q ≡ true → (x : Stored) → stored_at after q ≡ Some x → object_alone m after q x ≡ true
      at h =
          at_change before (is_alone m after) (λ q. (x : Stored) → stored_at after q ≡ Some x → object_alone m after q x ≡ true) (λ c of t x e. ap (if_there (object_alone m after c.id.now)) (sym e) ∙ t)
          changes from.classes h

      own : list_all (is_alone m after) changes ≡ true → (q : Identity) (x : Stored) → stored_at after q ≡ Some x → all_distinct same_claim (claims_by (q, x)) ≡ true
      own h q x e =
          case_of (is_changed changes q)
          (λ c. sym (links_are q.table (zip (relations_of m x.class) x.owned)) ∙ (and_parts _ (links_alone m after q (zip (relations_of m x.class) x.owned)) (at h q c x e)).0)
          (λ c. holds_found (λ d. all_distinct same_claim (claims_by d)) before (each_own same_claim same_back claims_by before sound.2) q x (stays q x c e))

      from_changed : list_all (is_alone m after) changes ≡ true → (q r : Identity) (x y : Stored) → is_changed changes q ≡ true → same_identity r q ≡ false → stored_at after q ≡ Some x → stored_at after r ≡ Some y → Apart (claims_by (q, x)) (claims_by (r, y))
      from_changed h q r x y c n e e' =
          rivals_apart q (claims_by (q, x))
          (sym (all_claims q.table (λ c. not (has_rival m after c q)) (zip (relations_of m x.class) x.owned)) ∙ (and_parts _ (links_alone m after q (zip (relations_of m x.class) x.owned)) (at h q c x e)).1) r y n e'

      apart : list_all (is_alone m after) changes ≡ true → (q r : Identity) (x y : Stored) → same_identity q r ≡ false → stored_at after q ≡ Some x → stored_at after r ≡ Some y → Apart (claims_by (q, x)) (claims_by (r, y))
      apart h q r x y n e e' =
          case_of (is_changed changes q) (λ c. from_changed h q r x y c (identity_back r q ∙ n) e e')
          (λ c. case_of (is_changed changes r)
          (λ d. turned same_claim same_back claims_by (claims_by (r, y)) (claims_by (q, x)) (from_changed h r q y x d n e' e))
          (λ d. two_apart same_claim same_back claims_by before from.rising sound.2 q r x y n (stays q x c e) (stays r y d e')))

      back : list_all (is_alone m after) changes ≡ true → no_shared_target m after ≡ true
      back h = no_claim_twice same_claim same_back claims_by after rising (own h) (apart h)

  fault_here : fault_of m after ≡ fault_at m after changes
  fault_here i = first_fault (filled i) (led i) (alone i)

-- the fault of the set is that of the changes
pub fault_same : (m : PersistenceUnit) (changes : List Change) (after : StoredSet) → T (is_sorted identity_cmp after) → IsChanged m changes after → fault_of m after ≡ fault_at m after changes
fault_same m changes after rising changed = fault_here m changed.0 changes after rising changed.1
