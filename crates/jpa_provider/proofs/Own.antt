-- How the calls that are this provider's own step.
use Rattle.std.proofs.Common.{◌≡◌, ◌<◌, ◌⊎◌, inl, inr, ℕ, ℤ, Bool, true, false, List, [], ◌∷◌, ◌++◌, length, map, refl, ap, sym, subst, ◌∙◌, append_assoc, drop, get_or, ◌+◌}
use Rattle.std.specs.Prelude.{All, Option, Some, None, Result, Ok, Err, if◌then◌else◌, ◌||◌}
use Rattle.std.specs.List.{list_any}
use Rattle.std.proofs.lemmas.Bool.{ltb-true}
use Rattle.std.proofs.lemmas.List.{drop_more}
use Rattle.jpa_value.specs.declared.refusal.Argument.{Argument}
use Rattle.jpa_value.specs.declared.refusal.Cause.{Cause}
use Rattle.jpa_value.specs.declared.refusal.State.{State}
use Rattle.jpa_model.specs.declared.unit.Member.{Member}
use Rattle.jpa_model.specs.declared.unit.PersistenceUnit.{PersistenceUnit}
use Rattle.jpa_model.specs.Chains.{class_of, member_of}
use Rattle.jpa_behaviour.specs.Behaviour.{World}
use Rattle.jpa_stored.specs.objects.Sets.{StoredSet}
use Rattle.jpa_work.specs.heap.Objects.{place_of, object_at}
use Rattle.jpa_work.specs.declared.heap.LiveObject.{LiveObject}
use Rattle.jpa_protocol.specs.declared.call.Call.{Call}
use Rattle.jpa_protocol.specs.declared.reply.Answer.{Answer}
use Rattle.jpa_protocol.specs.declared.reply.Due.{Due}
use Rattle.jpa_protocol.specs.declared.reply.Reply.{Reply}
use Rattle.jpa_protocol.specs.declared.reply.Shown.{Shown}
use Rattle.jpa_open.specs.Opened.{begun_over, seen_over}
use Rattle.jpa_provider.specs.declared.session.EntityManager.{EntityManager}
use Rattle.jpa_provider.specs.declared.session.Session.{Session}
use Rattle.jpa_machine.specs.machine.Invariant.{IsMachine}
use Rattle.jpa_machine.proofs.machine.Members.{linked}
use Rattle.jpa_machine.specs.machine.Machine.{Machine, manager_at, has_transaction, any_begun, restarted}
use Rattle.jpa_machine.specs.machine.Calls.{accepted, because}
use Rattle.jpa_machine.specs.machine.Indexing.{indexed, index_of}
use Rattle.jpa_machine.specs.machine.Pending.{due_in, pending_at, pending_named}
use Rattle.jpa_machine.specs.machine.Routes.{answered, by_manager, if_open}
use Rattle.jpa_machine.specs.machine.Showing.{shown, shown_onto, all_shown, told_or}
use Rattle.jpa_provider.specs.Stages.{CanBeShown}
use Rattle.jpa_provider.specs.Serving.{machine_of, manager_in, managers_of, named, is_begun_status, AreAllMarked, Serves}
use Rattle.jpa_provider.proofs.Marked.{context_there, nothing_marked}
use Rattle.jpa_provider.proofs.Opened.{told, refusal}
use Rattle.jpa_provider.proofs.Sessions.{begun_same, begun_there}
use Rattle.jpa_provider.proofs.Worked.{of_manager, of_nobody}

-- ---- index

module _ (world : World) (s : Session) (entity name : List ℕ) where
  pub index_unknown : class_of world.model entity ≡ None → Serves world s (Call.Index entity name) (refusal (Cause.IllegalArgument Argument.Entity)) s
  index_unknown e = inl (ap (λ o. answered (machine_of s) (index_of world o name)) e)

  index_so : (class : ℕ) (o : Option Member) → class_of world.model entity ≡ Some class → member_of world.model class name ≡ o →
      answered (machine_of s) (index_of world (class_of world.model entity) name) ≡ answered (machine_of s) (indexed o)
  index_so class o e f = ap (λ c. answered (machine_of s) (index_of world c name)) e ∙ ap (λ m. answered (machine_of s) (indexed m)) f

  pub index_version : (class : ℕ) → class_of world.model entity ≡ Some class → member_of world.model class name ≡ Some Member.Version →
      Serves world s (Call.Index entity name) (refusal (Cause.IllegalArgument Argument.Name)) s
  index_version class e f = inl (index_so class (Some Member.Version) e f)

  pub index_relation : (class i : ℕ) → class_of world.model entity ≡ Some class → member_of world.model class name ≡ Some (Member.Relation i) →
      Serves world s (Call.Index entity name) (refusal (Cause.IllegalArgument Argument.Name)) s
  index_relation class i e f = inl (index_so class (Some (Member.Relation i)) e f)

  pub index_none : (class : ℕ) → class_of world.model entity ≡ Some class → member_of world.model class name ≡ None →
      Serves world s (Call.Index entity name) (refusal (Cause.IllegalArgument Argument.Name)) s
  index_none class e f = inl (index_so class None e f)

-- ---- restart

begun_among : (C : StoredSet) (xs : List EntityManager) → list_any has_transaction (managers_of C xs) ≡ list_any (λ (x : EntityManager). is_begun_status x.status) xs
begun_among C [] = refl
begun_among C (x ∷ xs) = λ i. begun_same x.status (begun_over x.layers C) (seen_over x.layers C) i || begun_among C xs i

module _ (world : World) (s : Session) where
  any_there : (b : Bool) → b ≡ list_any (λ (x : EntityManager). is_begun_status x.status) s.managers.items → any_begun (machine_of s) ≡ b
  any_there b e = begun_among (s.work.view).committed s.managers.items ∙ sym e

  pub restart_active : list_any (λ (x : EntityManager). is_begun_status x.status) s.managers.items ≡ true → Serves world s Call.Restart (refusal (Cause.IllegalState State.Active)) s
  restart_active e = inl (ap (λ b. if b then because (machine_of s) (Cause.IllegalState State.Active) else accepted [] Answer.Null (restarted (machine_of s))) (any_there true (sym e)))

  pub restart_restarts : (t : Session) → list_any (λ (x : EntityManager). is_begun_status x.status) s.managers.items ≡ false → machine_of t ≡ restarted (machine_of s) → Serves world s Call.Restart (told Answer.Null) t
  restart_restarts t e f =
      inl (ap (λ b. if b then because (machine_of s) (Cause.IllegalState State.Active) else accepted [] Answer.Null (restarted (machine_of s))) (any_there false (sym e)) ∙ (λ i. (told Answer.Null, sym f i)))

-- no manager has a context
pub forgotten_marks : (u : PersistenceUnit) (t : Session) → t.managers.items ≡ [] → AreAllMarked u t
forgotten_marks u t e k =
    nothing_marked u _ _ (context_there t k ∙ ap (λ (ys : List EntityManager). (manager_in ys k).context.now) e)

-- ---- values

module _ (world : World) (s : Session) (ns : List ℤ) where
  pub values_known : (xs : List Shown) → all_shown world.model s.work.objects.now ns ≡ Some xs → Serves world s (Call.Values ns) (told (Answer.Shown xs)) s
  values_known xs e = inl (ap (λ o. answered (machine_of s) (told_or o)) e)

  pub values_unknown : all_shown world.model s.work.objects.now ns ≡ None → Serves world s (Call.Values ns) (refusal Cause.NoSuchObject) s
  values_unknown e = inl (ap (λ o. answered (machine_of s) (told_or o)) e)

  pub values_gave_up : Serves world s (Call.Values ns) (refusal Cause.OutOfMemory) s
  values_gave_up = inr (refl, inl refl, refl)

-- some objects before others, where there are the others
abbrev pub fronted : List Shown → Option (List Shown) → Option (List Shown)
fronted xs None = None
fronted xs (Some ys) = Some (xs ++ ys)

pub fronted_one : (m : PersistenceUnit) (objects : List LiveObject) (xs : List Shown) (n : ℕ) (o : Option (List Shown)) → fronted (xs ++ shown m (object_at objects n) ∷ []) o ≡ fronted xs (shown_onto m objects (Some n) o)
fronted_one m objects xs n None = refl
fronted_one m objects xs n (Some ys) = ap Some (append_assoc xs (shown m (object_at objects n) ∷ []) ys)

pub shown_next : (m : PersistenceUnit) (objects : List LiveObject) (xs : List Shown) (x : Shown) (ns : List ℤ) (i : ℕ) (n : ℤ) (k : ℕ) → i < length ns → n ≡ get_or ns i n → place_of (length objects) n ≡ Some k → x ≡ shown m (object_at objects k) →
    fronted (xs ++ x ∷ []) (all_shown m objects (drop (i + 1) ns)) ≡ fronted xs (all_shown m objects (drop i ns))
shown_next m objects xs x ns i n k l is place told =
    ap (λ y. fronted (xs ++ y ∷ []) (all_shown m objects (drop (i + 1) ns))) told
    ∙ fronted_one m objects xs k (all_shown m objects (drop (i + 1) ns))
    ∙ ap (λ o. fronted xs (shown_onto m objects o (all_shown m objects (drop (i + 1) ns)))) (sym place)
    ∙ sym (ap (λ ys. fronted xs (all_shown m objects ys)) (drop_more ns i n l ∙ ap (λ (y : ℤ). y ∷ drop (i + 1) ns) (sym is)))

-- each object can be shown
pub all_can : {world : World} (M : Machine) → IsMachine world M → All (CanBeShown world.model (length M.objects)) M.objects
all_can {world} M h = λ k d l. record {
  class = ltb-true _ _ (h.objects k d l).class;
  within = linked M.objects h.objects k d l;
}

-- ---- pending

module _ (world : World) (s : Session) (em : ℤ) where
  abbrev next : ℕ → Reply × Machine
  next m = answered (machine_of s) (pending_at world (machine_of s) m)

  by_flag : (b : Bool) (m : ℕ) → answered (machine_of s) (if b then pending_at world (machine_of s) m else Err Cause.NoSuchManager) ≡ (if b then next m else because (machine_of s) Cause.NoSuchManager)
  by_flag true m = refl
  by_flag false m = refl

  by_place : (o : Option ℕ) → answered (machine_of s) (pending_named world (machine_of s) o) ≡ if_open (machine_of s) o next
  by_place None = refl
  by_place (Some m) = by_flag (manager_at (machine_of s) m).is_open m

  by_name : answered (machine_of s) (pending_named world (machine_of s) (place_of (length (machine_of s).managers) em)) ≡ by_manager (machine_of s) em next
  by_name = by_place (place_of (length (machine_of s).managers) em)

  pub pending_alone : named s em ≡ None → Serves world s (Call.Pending em) (refusal Cause.NoSuchManager) s
  pending_alone e = inl (by_name ∙ of_nobody s next em e)

  abbrev of_begun : ℕ → Bool → Reply × Machine
  of_begun m b = answered (machine_of s) (if b then Ok (Answer.Due (due_in world (machine_of s) m)) else Err Cause.TransactionRequired)

  pub pending_idle : (m : ℕ) → named s em ≡ Some m → is_begun_status (manager_in s.managers.items m).status ≡ false → Serves world s (Call.Pending em) (refusal Cause.TransactionRequired) s
  pending_idle m e h = inl (by_name ∙ of_manager s next em m e ∙ ap (of_begun m) (begun_there s m ∙ h))

  pub pending_told : (t : Session) (m : ℕ) (due : List Due) → named s em ≡ Some m → is_begun_status (manager_in s.managers.items m).status ≡ true → due ≡ due_in world (machine_of s) m → machine_of t ≡ machine_of s →
      Serves world s (Call.Pending em) (told (Answer.Due due)) t
  pending_told t m due e h same back =
      inl (by_name ∙ of_manager s next em m e ∙ ap (of_begun m) (begun_there s m ∙ h) ∙ (λ i. (told (Answer.Due (sym same i)), sym back i)))

  pub pending_gave_up : (t : Session) → machine_of t ≡ machine_of s → Serves world s (Call.Pending em) (refusal Cause.OutOfMemory) t
  pending_gave_up t back = inr (refl, inl refl, back)
