-- A plan as what is written under each identity.
use Rattle.std.proofs.Common.{◌≡◌, ◌∙◌, Bool, true, false, List, [], ◌∷◌, ◌++◌, refl, ap}
use Rattle.std.specs.Prelude.{Option, Some, None}
use Rattle.std.specs.List.{flat_map}
use Rattle.jpa_value.specs.declared.event.LifecycleEvent.{LifecycleEvent}
use Rattle.jpa_value.specs.declared.value.Identity.{Identity}
use Rattle.jpa_stored.specs.declared.objects.stored.Stored.{Stored}
use Rattle.jpa_stored.specs.objects.Sets.{StoredSet}
use Rattle.jpa_flush.specs.declared.flush.planning.Planned.{Planned}
use Rattle.jpa_flush.specs.flush.Flush.{listed}
use Rattle.jpa_flush.specs.flush.Names.{targets}
use Rattle.jpa_flush.specs.flush.Plan.{put_or_take as written_at, write, write_each}
use Rattle.jpa_flush.proofs.flush.Joined.{Write, applied, names}

abbrev pub of_one : Option Identity → Option Stored → Bool → List Write
of_one None x b = []
of_one (Some id) x b = (id, x, b) ∷ []

-- what is new to the set replaces no row
abbrev pub is_replacing : LifecycleEvent → Bool
is_replacing LifecycleEvent.PostPersist = false
is_replacing _ = true

abbrev pub write_of : Planned → List Write
write_of p = of_one p.id p.stored (is_replacing p.event)

abbrev pub writes_of : List Planned → List Write
writes_of plan = flat_map write_of plan

first_name : (id : Option Identity) (x : Option Stored) (b : Bool) (ws : List Write) → names (of_one id x b ++ ws) ≡ listed id ++ names ws
first_name None x b ws = refl
first_name (Some id) x b ws = refl

pub names_of : (plan : List Planned) → names (writes_of plan) ≡ targets plan
names_of [] = refl
names_of (p ∷ ps) = first_name p.id p.stored (is_replacing p.event) (writes_of ps) ∙ ap (λ ids. listed p.id ++ ids) (names_of ps)

first_applied : (id : Option Identity) (x : Option Stored) (b : Bool) (ws : List Write) (s : StoredSet) → applied (of_one id x b ++ ws) s ≡ applied ws (written_at id x s)
first_applied None x b ws s = refl
first_applied (Some id) None b ws s = refl
first_applied (Some id) (Some x) b ws s = refl

pub applied_each : (plan : List Planned) (s : StoredSet) → applied (writes_of plan) s ≡ write_each plan s
applied_each [] s = refl
applied_each (p ∷ ps) s = first_applied p.id p.stored (is_replacing p.event) (writes_of ps) s ∙ applied_each ps (write p s)
