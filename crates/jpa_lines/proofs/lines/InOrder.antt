-- What was read of a text has the names of each object once, in their order, and so have parameters.
use Rattle.std.proofs.Common.{◌≡◌, ℕ, List, [], ◌∷◌, map, Bool, true, false, codes, Option, Some, None, option_map, option_and_then, Ordering, Less, Equal, Greater, nat_cmp, refl, sym, ap, ◌∙◌, subst}
use Rattle.std.proofs.lemmas.Cmp.{nat_list_cmp_total}
use Rattle.std.specs.Cmp.Lexicographic.{slice_cmp}
use Rattle.std.specs.List.{AllByRecursion}
use Rattle.std.specs.List.Sorted.{IsStrictlySortedBy}
use Rattle.std.specs.Option.{IfSome}
use Rattle.std.specs.Prelude.{⊤}
use Rattle.std.specs.Ordering.{match_ordering, ordering_reverse}
use Rattle.std.specs.Str.{is_utf8}
use Rattle.json.specs.Json as json
use Rattle.json.specs.Lex.{tokens}
use Rattle.serde_json.specs.Data.{Num, Data, null, boolean, number, string, array, object, Items, no_items, item, Members, no_members, member, put}
use Rattle.serde_json.specs.Find.{get, get_member, as_object}
use Rattle.serde_json.specs.Read.{read, of_json, of_items, of_members, number_of, max_depth}
use Rattle.jpa_json.specs.readers.JsonOf.{text_data}
use Rattle.jpa_json.specs.readers.Outcome.{◌>>=◌, guard}
use Rattle.jpa_protocol.specs.declared.call.ParameterValue.{ParameterValue}
use Rattle.jpa_protocol.specs.declared.call.Parameter.{Parameter}
use Rattle.jpa_lines.specs.lines.CallOf.{parameter_value, parameters, parameters_if_there, parameters_at}

abbrev name_cmp : List ℕ → List ℕ → Ordering
name_cmp = slice_cmp nat_cmp

abbrev names_of : Members → List (List ℕ)
names_of no_members = []
names_of (member k d ms) = k ∷ names_of ms

abbrev Rise : Members → Type 0
Rise ms = IsStrictlySortedBy name_cmp (names_of ms)

abbrev mutual
  InOrder : Data → Type 0
  InOrder null = ⊤
  InOrder (boolean b) = ⊤
  InOrder (number n) = ⊤
  InOrder (string s) = ⊤
  InOrder (array ds) = ItemsInOrder ds
  InOrder (object ms) = Rise ms × MembersInOrder ms

  ItemsInOrder : Items → Type 0
  ItemsInOrder no_items = ⊤
  ItemsInOrder (item d ds) = InOrder d × ItemsInOrder ds

  MembersInOrder : Members → Type 0
  MembersInOrder no_members = ⊤
  MembersInOrder (member k d ms) = InOrder d × MembersInOrder ms

-- ---- a member is put where it belongs

abbrev Above : List ℕ → Members → Type 0
Above x ms = AllByRecursion (λ y. name_cmp x y ≡ Less) (names_of ms)

above_put_at : (o : Ordering) (x k l : List ℕ) (d e : Data) (ms : Members) → name_cmp x k ≡ Less → Above x (member l e ms) → Above x (put k d ms)
    → Above x (match_ordering o (member k d (member l e ms)) (member l d ms) (member l e (put k d ms)))
above_put_at Less x k l d e ms first all more = (first, all)
above_put_at Equal x k l d e ms first all more = all
above_put_at Greater x k l d e ms first all more = (all.0, more)

above_put : (x k : List ℕ) (d : Data) (ms : Members) → name_cmp x k ≡ Less → Above x ms → Above x (put k d ms)
above_put x k d no_members first all = (first, tt)
above_put x k d (member l e ms) first all = above_put_at (name_cmp k l) x k l d e ms first all (above_put x k d ms first all.1)

above_next : (k l : List ℕ) (names : List (List ℕ)) → name_cmp k l ≡ Less → AllByRecursion (λ y. name_cmp l y ≡ Less) names → AllByRecursion (λ y. name_cmp k y ≡ Less) names
above_next k l [] below all = tt
above_next k l (y ∷ names) below all = (nat_list_cmp_total.trans k l y below all.0, above_next k l names below all.1)

rise_put_at : (o : Ordering) (k l : List ℕ) (d e : Data) (ms : Members) → name_cmp k l ≡ o → Rise (member l e ms) → Rise (put k d ms)
    → Rise (match_ordering o (member k d (member l e ms)) (member l d ms) (member l e (put k d ms)))
unfolding IsStrictlySortedBy
rise_put_at Less k l d e ms is h more = ((is, above_next k l (names_of ms) is h.0), h)
rise_put_at Equal k l d e ms is h more = h
rise_put_at Greater k l d e ms is h more = (above_put l k d ms (nat_list_cmp_total.antisymm l k ∙ ap ordering_reverse is) h.0, more)

rise_put : (k : List ℕ) (d : Data) (ms : Members) → Rise ms → Rise (put k d ms)
unfolding IsStrictlySortedBy
rise_put k d no_members h = (tt, tt)
rise_put k d (member l e ms) h = rise_put_at (name_cmp k l) k l d e ms refl h (rise_put k d ms h.1)

within_put_at : (o : Ordering) (k l : List ℕ) (d e : Data) (ms : Members) → InOrder d → MembersInOrder (member l e ms) → MembersInOrder (put k d ms)
    → MembersInOrder (match_ordering o (member k d (member l e ms)) (member l d ms) (member l e (put k d ms)))
within_put_at Less k l d e ms new h more = (new, h)
within_put_at Equal k l d e ms new h more = (new, h.1)
within_put_at Greater k l d e ms new h more = (h.0, more)

within_put : (k : List ℕ) (d : Data) (ms : Members) → InOrder d → MembersInOrder ms → MembersInOrder (put k d ms)
within_put k d no_members new h = (new, tt)
within_put k d (member l e ms) new h = within_put_at (name_cmp k l) k l d e ms new h (within_put k d ms new h.1)

-- ---- what was read

if_then : {A B : Type 0} (P : A → Type 0) (Q : B → Type 0) (f : A → Option B) (o : Option A) → IfSome o P → ((x : A) → P x → IfSome (f x) Q) → IfSome (option_and_then f o) Q
if_then P Q f None h next = tt
if_then P Q f (Some x) h next = next x h

if_mapped : {A B : Type 0} (P : A → Type 0) (Q : B → Type 0) (f : A → B) (o : Option A) → IfSome o P → ((x : A) → P x → Q (f x)) → IfSome (option_map f o) Q
if_mapped P Q f None h next = tt
if_mapped P Q f (Some x) h next = next x h

if_number : (o : Option Num) → IfSome (option_map number o) InOrder
if_number None = tt
if_number (Some n) = tt

rise_none : Rise no_members
unfolding IsStrictlySortedBy
rise_none = tt

mutual
  json_read : (j : json.Json) → IfSome (of_json j) InOrder
  json_read json.null = tt
  json_read (json.boolean b) = tt
  json_read (json.number s) = if_number (number_of s)
  json_read (json.string s) = tt
  json_read (json.array js) = if_mapped ItemsInOrder InOrder array (of_items js) (items_read js) (λ ds h. h)
  json_read (json.object ms) = if_mapped (λ ds. Rise ds × MembersInOrder ds) InOrder object (of_members ms no_members) (members_read ms no_members rise_none tt) (λ ds h. h)

  items_read : (js : json.Items) → IfSome (of_items js) ItemsInOrder
  items_read json.no_items = tt
  items_read (json.item j js) = if_then InOrder ItemsInOrder (λ d. option_map (item d) (of_items js)) (of_json j) (json_read j) (λ d h. if_mapped ItemsInOrder ItemsInOrder (item d) (of_items js) (items_read js) (λ ds hs. (h, hs)))

  members_read : (ms : json.Members) (found : Members) → Rise found → MembersInOrder found → IfSome (of_members ms found) (λ ds. Rise ds × MembersInOrder ds)
  members_read json.no_members found rise within = (rise, within)
  members_read (json.member k j ms) found rise within =
      if_then InOrder (λ ds. Rise ds × MembersInOrder ds) (λ d. of_members ms (put k d found)) (of_json j) (json_read j) (λ d h. members_read ms (put k d found) (rise_put k d found rise) (within_put k d found h within))

line_read : (o : Option json.Json) → IfSome (option_and_then of_json o) InOrder
line_read None = tt
line_read (Some j) = json_read j

if_guarded : (b : Bool) (o : Option Data) → IfSome o InOrder → IfSome (guard b >>= λ unicode. o) InOrder
if_guarded true o h = h
if_guarded false o h = tt

text_read : (line : List ℕ) → IfSome (text_data line) InOrder
unfolding text_data
text_read line = if_guarded (is_utf8 line) (read line) (line_read (option_and_then (λ p. json.if_last p.0 p.1) (json.value max_depth (tokens line))))

-- ---- parameters

got_at : (o : Ordering) (e : Data) (rest : Option Data) → InOrder e → IfSome rest InOrder → IfSome (match_ordering o rest (Some e) rest) InOrder
got_at Less e rest h more = more
got_at Equal e rest h more = h
got_at Greater e rest h more = more

got_member : (name : List ℕ) (ms : Members) → MembersInOrder ms → IfSome (get_member name ms) InOrder
got_member name no_members h = tt
got_member name (member l e ms) h = got_at (slice_cmp nat_cmp name l) e (get_member name ms) h.0 (got_member name ms h.1)

got : (name : List ℕ) (d : Data) → InOrder d → IfSome (get name d) InOrder
got name null h = tt
got name (boolean b) h = tt
got name (number n) h = tt
got name (string s) h = tt
got name (array ds) h = tt
got name (object ms) h = got_member name ms h.1

abbrev Named : List (List ℕ) → List Parameter → Type 0
Named names ps = map (λ p. p.name) ps ≡ names

named_both : (name : List ℕ) (names : List (List ℕ)) (value : Option ParameterValue) (others : Option (List Parameter)) → IfSome others (Named names)
    → IfSome (value >>= λ v. others >>= λ ps. Some (record { name = name; value = v } ∷ ps)) (Named (name ∷ names))
named_both name names None others h = tt
named_both name names (Some v) None h = tt
named_both name names (Some v) (Some ps) h = ap (λ xs. name ∷ xs) h

named : (ms : Members) → IfSome (parameters ms) (Named (names_of ms))
named no_members = refl
named (member name d ms) = named_both name (names_of ms) (parameter_value d) (parameters ms) (named ms)

abbrev RiseByName : List Parameter → Type 0
RiseByName ps = IsStrictlySortedBy name_cmp (map (λ p. p.name) ps)

rise_named : (ms : Members) (o : Option (List Parameter)) → Rise ms → IfSome o (Named (names_of ms)) → IfSome o RiseByName
rise_named ms None rise h = tt
rise_named ms (Some ps) rise h = subst (IsStrictlySortedBy name_cmp) (sym h) rise

rise_object : (d : Data) → InOrder d → IfSome (as_object d >>= parameters) RiseByName
rise_object null h = tt
rise_object (boolean b) h = tt
rise_object (number n) h = tt
rise_object (string s) h = tt
rise_object (array ds) h = tt
rise_object (object ms) h = rise_named ms (parameters ms) h.0 (named ms)

rise_if_there : (o : Option Data) → IfSome o InOrder → IfSome (parameters_if_there o) RiseByName
unfolding IsStrictlySortedBy
rise_if_there None h = tt
rise_if_there (Some d) h = rise_object d h

some_holds : {A : Type 0} (P : A → Type 0) (o : Option A) (x : A) → IfSome o P → o ≡ Some x → P x
some_holds P o x h e = subst (λ v. IfSome v P) e h

pub names_rise : (line : List ℕ) (d : Data) (ps : List Parameter) → text_data line ≡ Some d → parameters_at d ≡ Some ps → IsStrictlySortedBy (slice_cmp nat_cmp) (map (λ p. p.name) ps)
names_rise line d ps read found = some_holds RiseByName (parameters_at d) ps (rise_if_there _ (got (codes "params") d (some_holds InOrder (text_data line) d (text_read line) read))) found
