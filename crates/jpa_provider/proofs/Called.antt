-- What operations make of what is handed in.
use Rattle.std.proofs.Common.{◌≡◌, ◌⊎◌, inl, inr, ℕ, ℤ, Bool, true, false, List, length, refl, ap, sym, subst, ◌∙◌}
use Rattle.std.specs.Prelude.{slice_get, Option, Some, None, Result, Ok, Err}
use Rattle.std.specs.List.{list_all}
use Rattle.jpa_value.specs.declared.value.Value.{Value}
use Rattle.jpa_value.specs.declared.refusal.Argument.{Argument}
use Rattle.jpa_value.specs.declared.refusal.Cause.{Cause}
use Rattle.jpa_model.specs.declared.unit.PersistenceUnit.{PersistenceUnit}
use Rattle.jpa_model.specs.declared.unit.Member.{Member}
use Rattle.jpa_model.specs.Chains.{class_of, root_of, is_to_one, member_of, attributes_of, relation_at}
use Rattle.jpa_behaviour.specs.Behaviour.{World}
use Rattle.jpa_protocol.specs.declared.call.Given.{Given}
use Rattle.jpa_protocol.specs.declared.event.Told.{Told}
use Rattle.jpa_protocol.specs.declared.reply.Answer.{Answer}
use Rattle.jpa_work.specs.declared.heap.Handed.{Handed}
use Rattle.jpa_work.specs.declared.heap.LiveObject.{LiveObject}
use Rattle.jpa_work.specs.heap.Objects.{object_at, is_new, place_of}
use Rattle.jpa_work.specs.heap.Assign.{fits_part, fits_version, fits_plain, fits_link, unless_refused, set_member, set_in}
use Rattle.jpa_work.specs.context.Work.{Work}
use Rattle.jpa_work.specs.context.Steps.{Outcome, Op, Done, Refused, after, require, IsRefusedAs}
use Rattle.jpa_operations.specs.fetch.Load.{find}
use Rattle.jpa_operations.specs.fetch.Members.{placed, set}
use Rattle.jpa_machine.specs.machine.Calls.{give_or, handed, is_short_given, class_named, key_given, whole_key, told_as, nothing, object_or_null}
use Rattle.jpa_machine.specs.machine.Routes.{set_call, find_call}
use Rattle.jpa_provider.specs.Operations.{on_numbered}

-- ---- an object by its number

pub numbered : (op : World → ℕ → Op Answer) (world : World) (number : ℤ) (k : ℕ) (w : Work) → place_of (length w.objects) number ≡ Some k → on_numbered number op world w ≡ op world k w
numbered op world number k w e = ap (λ o. after (give_or Cause.NoSuchObject o w) (op world)) e

pub unnumbered : (op : World → ℕ → Op Answer) (world : World) (number : ℤ) (w : Work) → place_of (length w.objects) number ≡ None → on_numbered number op world w ≡ Refused Cause.NoSuchObject w.events
unnumbered op world number w e = ap (λ o. after (give_or Cause.NoSuchObject o w) (op world)) e

-- what is refused on the way is refused
pub refused_on : {A B : Type 0} (r : Cause) (events : List Told) (o : Outcome A) (f : A → Op B) → IsRefusedAs r events o → IsRefusedAs r events (after o f)
refused_on Cause.OutOfMemory events o f h = tt
refused_on Cause.StoreFault events o f h = h
refused_on r events o f h = ap (λ p. after p f) h

-- ---- find

found_class : (world : World) (name : List ℕ) (key : List Given) (w : Work) → list_all is_short_given key ≡ true →
    find_call world name key w ≡ after (class_named world name w) (λ class w2. after (key_given world class key w2) (λ values. told_as object_or_null (find world class values)))
found_class world name key w e =
    ap (λ b. after (require b Cause.Limit w) (λ _ w1. after (class_named world name w1) (λ class w2. after (key_given world class key w2) (λ values. told_as object_or_null (find world class values))))) e

pub find_long : (world : World) (name : List ℕ) (key : List Given) (w : Work) → list_all is_short_given key ≡ false → find_call world name key w ≡ Refused Cause.Limit w.events
find_long world name key w e =
    ap (λ b. after (require b Cause.Limit w) (λ _ w1. after (class_named world name w1) (λ class w2. after (key_given world class key w2) (λ values. told_as object_or_null (find world class values))))) e

pub find_nameless : (world : World) (name : List ℕ) (key : List Given) (w : Work) → list_all is_short_given key ≡ true → class_of world.model name ≡ None →
    find_call world name key w ≡ Refused (Cause.IllegalArgument Argument.Entity) w.events
find_nameless world name key w e f =
    found_class world name key w e
    ∙ ap (λ o. after (give_or (Cause.IllegalArgument Argument.Entity) o w) (λ class w2. after (key_given world class key w2) (λ values. told_as object_or_null (find world class values)))) f

found_key : (world : World) (name : List ℕ) (key : List Given) (w : Work) (class : ℕ) → list_all is_short_given key ≡ true → class_of world.model name ≡ Some class →
    find_call world name key w ≡ after (give_or (Cause.IllegalArgument Argument.Key) (whole_key (root_of world.model class).key key) w) (λ values. told_as object_or_null (find world class values))
found_key world name key w class e f =
    found_class world name key w e
    ∙ ap (λ o. after (give_or (Cause.IllegalArgument Argument.Entity) o w) (λ class w2. after (key_given world class key w2) (λ values. told_as object_or_null (find world class values)))) f

pub find_keyless : (world : World) (name : List ℕ) (key : List Given) (w : Work) (class : ℕ) → list_all is_short_given key ≡ true → class_of world.model name ≡ Some class →
    whole_key (root_of world.model class).key key ≡ None → find_call world name key w ≡ Refused (Cause.IllegalArgument Argument.Key) w.events
find_keyless world name key w class e f g =
    found_key world name key w class e f ∙ ap (λ o. after (give_or (Cause.IllegalArgument Argument.Key) o w) (λ values. told_as object_or_null (find world class values))) g

pub find_named : (world : World) (name : List ℕ) (key : List Given) (w : Work) (class : ℕ) (values : List Value) → list_all is_short_given key ≡ true → class_of world.model name ≡ Some class →
    whole_key (root_of world.model class).key key ≡ Some values → find_call world name key w ≡ told_as object_or_null (find world class values) w
find_named world name key w class values e f g =
    found_key world name key w class e f ∙ ap (λ o. after (give_or (Cause.IllegalArgument Argument.Key) o w) (λ values. told_as object_or_null (find world class values))) g

-- ---- why a member refuses

abbrev IsArgued : Result LiveObject Cause → Type 0
IsArgued (Ok y) = Unit {0}
IsArgued (Err r) = (a : Argument) × (r ≡ Cause.IllegalArgument a)

unless_argued : (b : Bool) (a : Argument) (rest : Result LiveObject Cause) → IsArgued rest → IsArgued (unless_refused b a rest)
unless_argued true a rest h = h
unless_argued false a rest h = (a, refl)

member_argued : (m : PersistenceUnit) (os : List LiveObject) (x : LiveObject) (v : Handed) (member : Option Member) → IsArgued (set_member m os x v member)
member_argued m os x v None = (Argument.Name, refl)
member_argued m os x v (Some (Member.KeyPart i)) =
    unless_argued (fits_part (slice_get (root_of m x.class).key i) v) Argument.Type _ (unless_argued (is_new x.life) Argument.Key _ tt)
member_argued m os x v (Some Member.Version) = unless_argued (fits_version v) Argument.Type _ (unless_argued (is_new x.life) Argument.Version _ tt)
member_argued m os x v (Some (Member.Attribute i)) = unless_argued (fits_plain (slice_get (attributes_of m x.class) i) v) Argument.Type _ tt
member_argued m os x v (Some (Member.Relation r)) =
    unless_argued (is_to_one (relation_at m x.class r).side) Argument.Name _ (unless_argued (fits_link m os (relation_at m x.class r).target v) Argument.Type _ tt)

pub set_in_refuses : (m : PersistenceUnit) (objects : List LiveObject) (n : ℕ) (name : List ℕ) (h : Handed) (r : Cause) → set_in m objects n name h ≡ Err r → (a : Argument) × (r ≡ Cause.IllegalArgument a)
set_in_refuses m objects n name h r e =
    let x = object_at objects n in
    subst IsArgued e (member_argued m objects x h (member_of m x.class name))

-- what was not assigned is refused so
pub set_refused : (m : PersistenceUnit) (objects : List LiveObject) (n : ℕ) (name : List ℕ) (h : Handed) (r : Cause) (events : List Told) {A : Type 0} (o : Outcome A) → (r ≡ Cause.OutOfMemory) ⊎ (Err r ≡ set_in m objects n name h) →
    (set_in m objects n name h ≡ Err r → o ≡ Refused r events) → IsRefusedAs r events o
set_refused m objects n name h r events o (inl e) k = subst (λ c. IsRefusedAs c events o) (sym e) tt
set_refused m objects n name h r events o (inr e) k =
    let a = set_in_refuses m objects n name h r (sym e) in
    subst (λ c. (o ≡ Refused c events) → IsRefusedAs c events o) (sym a.1) (λ q. q) (k (sym e))

-- ---- set

pub set_assigned : (world : World) (name : List ℕ) (g : Given) (w : Work) (n : ℕ) (h : Handed) (made : Result LiveObject Cause) → handed g w ≡ Done h w → set_in world.model w.objects n name h ≡ made →
    set_call world name g n w ≡ told_as nothing (placed n made) w
set_assigned world name g w n h made given e = ap (λ o. after o (λ v. told_as nothing (set world n name v))) given ∙ ap (λ x. told_as nothing (placed n x) w) e
