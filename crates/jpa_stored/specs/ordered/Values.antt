-- Values of members in order: where an object stands among them, what a span of them covers, and what an
-- index of values has of an object.
use Rattle.std.specs.Prelude.{◌≡◌, ℕ, ◌+◌, ◌<◌, Bool, true, false, ◌==◌, ◌&&◌, length, All}
use Rattle.std.specs.Prelude.{List, [], ◌∷◌, ◌++◌, map, filter, slice_index_or, Option, Some, None, unwrap_or}
use Rattle.std.specs.Borrow.{Bor}
use Rattle.std.specs.List.{list_any, flat_map}
use Rattle.std.specs.Ordering.{is_eq, is_le, is_gt, nat_cmp, bool_cmp, ordering_then}
use Rattle.std.specs.declared.cmp.Ordering.{Ordering}
use Rattle.std.specs.Cmp.{IsTotalOrder, then_total, on_total, nat_cmp_total, bool_cmp_total}
use Rattle.jpa_value.specs.declared.value.Value.{Value}
use Rattle.jpa_value.specs.declared.value.Identity.{Identity}
use Rattle.jpa_value.specs.Value.{value_cmp, identity_cmp}
use Rattle.jpa_value.proofs.Orders.{value_total, identity_total}
use Rattle.jpa_model.specs.declared.unit.Member.{Member}
use Rattle.jpa_model.specs.declared.unit.PersistenceUnit.{PersistenceUnit}
use Rattle.jpa_model.specs.Chains.{is_kind_of}
use Rattle.jpa_stored.specs.declared.objects.stored.Stored.{Stored}
use Rattle.jpa_stored.specs.declared.ordered.cut.Cut.{Cut}
use Rattle.jpa_stored.specs.declared.ordered.cut.Span.{Span}
use Rattle.jpa_stored.specs.declared.ordered.column.Column.{Column}
use Rattle.jpa_stored.specs.declared.ordered.valued.Valued.{Valued}

-- ---- places in the order of a member's values

-- what an object has as a part of its key or an attribute; no index is of another member
abbrev pub own_value : Member → Identity × Stored → Value
own_value (Member.KeyPart i) e = slice_index_or (e.0).key i Value.Null
own_value Member.Version e = Value.Null
own_value (Member.Attribute i) e = slice_index_or (e.1).values i Value.Null
own_value (Member.Relation i) e = Value.Null

-- where an object stands among the values of a member
abbrev pub at_object : Member → Identity × Stored → Cut
at_object member e = record { value = own_value member e; behind = false; owner = e.0 }

-- by value, then the objects of a value before what is behind them, then by identity
abbrev pub cut_cmp : Cut → Cut → Ordering
cut_cmp a b = ordering_then (ordering_then (value_cmp a.value b.value) (bool_cmp a.behind b.behind))
    (identity_cmp a.owner b.owner)

-- the order of places is total
pub cut_total : IsTotalOrder cut_cmp
cut_total =
    then_total
    (then_total (on_total (λ (c : Cut). c.value) value_total) (on_total (λ (c : Cut). c.behind) bool_cmp_total))
    (on_total (λ (c : Cut). c.owner) identity_total)

-- before all objects
abbrev pub least : Cut
least = record { value = Value.Null; behind = false; owner = record { table = 0; key = [] } }

-- ---- spans

-- whether a span that begins here has begun at a place; without a beginning it has
abbrev pub has_begun : Option Cut → Cut → Bool
has_begun None at = true
has_begun (Some from) at = is_le (cut_cmp from at)

-- whether a span that ends before this goes on at a place; without an end it does
abbrev pub goes_on : Option Cut → Cut → Bool
goes_on None at = true
goes_on (Some to) at = is_gt (cut_cmp to at)

-- whether a span covers a place
abbrev pub covers : Span → Cut → Bool
covers span at = has_begun span.from at && goes_on span.to at

-- whether one of these spans covers it
abbrev pub any_covers : List Span → Cut → Bool
any_covers spans at = list_any (λ span. covers span at) spans

-- whether an object lies in a span of a member's values
abbrev pub lies_in : Member → Span → Identity × Stored → Bool
lies_in member span e = covers span (at_object member e)

-- whether it lies in one of these
abbrev pub lies_in_any : Member → List Span → Identity × Stored → Bool
lies_in_any member spans e = list_any (λ span. lies_in member span e) spans

-- ---- entries

-- where an entry stands
abbrev pub at_of : Valued → Cut
at_of v = record { value = v.value; behind = v.behind; owner = v.owner }

-- by the number of the index, then by place
abbrev pub valued_cmp : Valued → Valued → Ordering
valued_cmp a b = ordering_then (nat_cmp a.number b.number) (cut_cmp (at_of a) (at_of b))

-- the order of entries is total
pub valued_total : IsTotalOrder valued_cmp
valued_total =
    then_total (on_total (λ (v : Valued). v.number) nat_cmp_total) (on_total at_of cut_total)

-- whether two entries are the same
abbrev pub same_valued : Valued → Valued → Bool
same_valued a b = is_eq (valued_cmp a b)

-- the entry of a place in the index of this number
abbrev pub valued : ℕ → Cut → Valued
valued number at = record { number = number; behind = at.behind; value = at.value; owner = at.owner }

-- it is among these
abbrev pub IsIn : List Valued → Valued → Type 0
IsIn entries v = list_any (same_valued v) entries ≡ true

-- what was among these is so still
abbrev pub KeepsAll : List Valued → List Valued → Type 0
KeepsAll old new = (v : Valued) → IsIn old v → IsIn new v

-- what no entry of a number that lies in a span stands before
abbrev pub start_of : ℕ → Span → Valued
start_of number span = valued number (unwrap_or span.from least)

-- the end of a span as an entry of a number; where it has none, what no entry of the next number stands before
abbrev pub end_before : ℕ → Option Cut → Valued
end_before number None = valued (number + 1) least
end_before number (Some to) = valued number to

-- what each entry of a number that lies in a span stands before
abbrev pub end_of : ℕ → Span → Valued
end_of number span = end_before number span.to

-- whether an entry is of this number and in this span
abbrev pub is_within : ℕ → Span → Valued → Bool
is_within number span v = (v.number == number) && covers span (at_of v)

-- those of a number in a span, in their order
abbrev pub within : List Valued → ℕ → Span → List Valued
within entries number span = filter (is_within number span) entries

-- it is the last of these, or there are none
abbrev pub IsLast : Option Valued → List Valued → Type 0
IsLast None entries = entries ≡ []
IsLast (Some v) entries = (before : List Valued) × (entries ≡ before ++ v ∷ [])

-- the identities of these
abbrev pub owners_of : List Valued → List Identity
owners_of entries = map (λ (v : Valued). v.owner) entries

-- the owners of those of a number in these spans, span by span
abbrev pub owners_in : List Valued → ℕ → List Span → List Identity
owners_in entries number spans = flat_map (λ span. owners_of (within entries number span)) spans

-- ---- what an index of values has

-- the classes and members that have entries, with the numbers of these, and the entries
pub record Indexed : Type 0 where
  pub columns : List Column
  pub entries : List Valued

-- without columns and entries
abbrev pub empty : Indexed
empty = record { columns = []; entries = [] }

-- an object of the column's class has an entry of its number
abbrev pub HasEntry : List Valued → Identity → Stored → Column → Type 0
HasEntry entries id x c = c.class ≡ x.class → IsIn entries (valued c.number (at_object c.member (id, x)))

-- an object has an entry for each column of its class
abbrev pub HasEntries : Indexed → Identity → Stored → Type 0
HasEntries v id x = All (HasEntry v.entries id x) v.columns

-- whether two members are the same
abbrev pub same_member : Member → Member → Bool
same_member (Member.KeyPart i) (Member.KeyPart j) = i == j
same_member Member.Version Member.Version = true
same_member (Member.Attribute i) (Member.Attribute j) = i == j
same_member (Member.Relation i) (Member.Relation j) = i == j
same_member a b = false

-- whether a column is that of a class and a member
abbrev pub is_of : ℕ → Member → Column → Bool
is_of class member c = (c.class == class) && same_member c.member member

-- whether a class and a member have a column of this number
abbrev pub has_column : List Column → ℕ → Member → ℕ → Bool
has_column columns class member number = list_any (λ c. is_of class member c && (c.number == number)) columns

-- each class of the unit that is this one or below it has a column of this number for the member
abbrev pub HaveColumns : PersistenceUnit → List Column → ℕ → Member → ℕ → Type 0
HaveColumns m columns class member number =
    (below : ℕ) → below < length m.entities → is_kind_of m below class ≡ true
    → has_column columns below member number ≡ true

-- identities where they stand
abbrev pub lent_ids : List (Bor Identity) → List Identity
lent_ids ids = map (λ (id : Bor Identity). id.now) ids
