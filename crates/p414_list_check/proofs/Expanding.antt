-- What a field list comes to is what the calls of its node in the graph of lists expand to.
use Rattle.std.proofs.Common.{◌≡◌, ℕ, suc, zero, ◌+◌, ◌<◌, Bool, true, false, cond, List, [], ◌∷◌, ◌++◌, length, get_or, map, sum_by, slice_get, Option, Some, None, option_map, option_and_then, refl, sym, ap, ◌∙◌, subst, arith}
use Rattle.std.specs.List.{cons_option}
use Rattle.std.specs.Option.{option_map_or}
use Rattle.std.specs.Str.{bytes_eq}
use Rattle.std.proofs.lemmas.List.{length-map}
use Rattle.std.proofs.lemmas.List.Sums.{sum_by-append, sum_by-cons}
use Rattle.std.proofs.lemmas.List.Quantifiers.{position-Some}
use Rattle.digraph.specs.Graphs.{successors}
use Rattle.digraph.specs.Expansions as calls
use Rattle.p414_syntax.specs.declared.calculations.FieldList.{FieldList}
use Rattle.p414_syntax.specs.declared.calculations.Item.{Item}
use Rattle.p414_syntax.specs.declared.calculations.Item.TheVariants as item
use Rattle.p414_syntax.specs.declared.syntax.Decl.{Decl}
use Rattle.p414_syntax.specs.Names.{Name}
use Rattle.p414_syntax.specs.Expansion.{lists, list_name, list_number, items_in, items_at, inner_number, inner_list, inner_numbers, own_items, Expands, Nothing, Own, Inner}
use Rattle.p414_list_check.specs.internal.Expanded.{list_row, list_graph}

-- the number of a list is below that of the lists

pub named_within : (ds : List Decl) (name : Name) (l : ℕ) → list_number ds name ≡ Some l → l < length (lists ds)
named_within ds name l e =
    let within : l < length (map list_name (lists ds)) = (position-Some (bytes_eq name) (map list_name (lists ds)) l [] e).0 in
    let same : length (map list_name (lists ds)) ≡ length (lists ds) = length-map (lists ds) list_name in
    omega arith

of_choice : (b : Bool) (o : Option ℕ) (l : ℕ) → cond b None o ≡ Some l → o ≡ Some l
of_choice true o l e = absurd (cc e)
of_choice false o l e = e

pub inner_within : (ds : List Decl) (i : Item) (l : ℕ) → inner_number ds i ≡ Some l → l < length (lists ds)
inner_within ds (item.Instance x) l e = named_within ds x.name l (of_choice _ (list_number ds x.name) l e)
inner_within ds item.Payload l e = absurd (cc e)
inner_within ds (item.Number n) l e = absurd (cc e)
inner_within ds (item.Field r) l e = absurd (cc e)

-- what stands at a number below that of the lists

pub get_within : {X : Type 0} (xs : List X) (l : ℕ) → l < length xs → (x : X) × (slice_get xs l ≡ Some x)
get_within [] l h = absurd (omega arith)
get_within (x ∷ xs) zero h = (x, refl)
get_within (x ∷ xs) (suc l) h = get_within xs l (omega arith)

pub at_row : {X : Type 0} (f : X → List ℕ) (xs : List X) (l : ℕ) (x : X) → slice_get xs l ≡ Some x → get_or (map f xs) l [] ≡ f x
at_row f [] l x e = absurd (cc e)
at_row f (y ∷ xs) zero x e = ap f (cc e)
at_row f (y ∷ xs) (suc l) x e = at_row f xs l x e

-- an item is a list or it isn't

inner_of : (ds : List Decl) (o : Option ℕ) (items : List Item) → option_and_then (items_at ds) o ≡ Some items → (l : ℕ) × (o ≡ Some l) × (items_at ds l ≡ Some items)
inner_of ds None items e = absurd (cc e)
inner_of ds (Some l) items e = (l, refl, e)

pub list_of : (o : Option FieldList) (items : List Item) → option_map items_in o ≡ Some items → (f : FieldList) × (o ≡ Some f) × (f.items ≡ items)
list_of None items e = absurd (cc e)
list_of (Some f) items e = (f, refl, cc e)

alone_by : (ds : List Decl) (i : Item) (o : Option ℕ) → inner_number ds i ≡ o → option_and_then (items_at ds) o ≡ None → o ≡ None
alone_by ds i None is e = refl
alone_by ds i (Some l) is e =
    let f = get_within (lists ds) l (inner_within ds i l is) in
    let there : items_at ds l ≡ Some f.0.items = ap (option_map items_in) f.1 in
    absurd (cc (there, e))

pub is_alone : (ds : List Decl) (i : Item) → inner_list ds i ≡ None → inner_number ds i ≡ None
is_alone ds i e = alone_by ds i (inner_number ds i) refl e

dropped : (o : Option ℕ) (xs : List ℕ) → o ≡ None → cons_option o xs ≡ xs
dropped o xs e = ap (λ p. cons_option p xs) e

kept : (o : Option ℕ) (xs : List ℕ) (l : ℕ) → o ≡ Some l → cons_option o xs ≡ l ∷ xs
kept o xs l e = ap (λ p. cons_option p xs) e

-- what `own` counts of an item by itself is what `weight` counts of the items that it comes to, and nothing of a list
pub record CountsOwn (ds : List Decl) (weight own : Item → ℕ) : Type 0 where
  pub alone : (i : Item) → inner_number ds i ≡ None → sum_by weight (own_items ds i) ≡ own i
  pub inner : (i : Item) (l : ℕ) → inner_number ds i ≡ Some l → own i ≡ 0

-- what `own` counts of the list with this number
abbrev pub row_count : List Decl → (Item → ℕ) → ℕ → ℕ
row_count ds own l = option_map_or (sum_by own) (items_at ds l) 0

module _ (ds : List Decl) (weight own : Item → ℕ) (counts : CountsOwn ds weight own) where
  abbrev pub Comes : List Item → List Item → Type 0
  Comes items all =
      (nodes : List ℕ) × calls.Expands (list_graph ds) (inner_numbers ds items) nodes
      × (sum_by weight all ≡ sum_by own items + sum_by (row_count ds own) nodes)

  own_comes : (i : Item) (rest all : List Item) → inner_list ds i ≡ None → Comes rest all → Comes (i ∷ rest) (own_items ds i ++ all)
  own_comes i rest all none h =
      let n : inner_number ds i ≡ None = is_alone ds i none in
      let a : sum_by weight (own_items ds i ++ all) ≡ sum_by weight (own_items ds i) + sum_by weight all = sum_by-append weight (own_items ds i) all in
      let b : sum_by own (i ∷ rest) ≡ own i + sum_by own rest = sum_by-cons own i rest in
      let c : sum_by weight (own_items ds i) ≡ own i = counts.alone i n in
      let e : sum_by weight all ≡ sum_by own rest + sum_by (row_count ds own) h.0 = h.2 in
      (h.0, subst (λ ns. calls.Expands (list_graph ds) ns h.0) (sym (dropped (inner_number ds i) (inner_numbers ds rest) n)) h.1, omega arith)

  inner_comes : (i : Item) (rest items within all : List Item) → inner_list ds i ≡ Some items → Comes items within → Comes rest all → Comes (i ∷ rest) (within ++ all)
  inner_comes i rest items within all some inside behind =
      let found = inner_of ds (inner_number ds i) items some in
      let l = found.0 in
      let f = list_of (slice_get (lists ds) l) items found.2 in
      let row : successors (list_graph ds) l ≡ inner_numbers ds items = at_row (list_row ds) (lists ds) l f.0 f.1 ∙ ap (inner_numbers ds) f.2 in
      let count : row_count ds own l ≡ sum_by own items = ap (λ o. option_map_or (sum_by own) o 0) found.2 in
      let a : sum_by weight (within ++ all) ≡ sum_by weight within + sum_by weight all = sum_by-append weight within all in
      let b : sum_by own (i ∷ rest) ≡ own i + sum_by own rest = sum_by-cons own i rest in
      let c : own i ≡ 0 = counts.inner i l found.1 in
      let d : sum_by (row_count ds own) (l ∷ (inside.0 ++ behind.0)) ≡ row_count ds own l + sum_by (row_count ds own) (inside.0 ++ behind.0) = sum_by-cons (row_count ds own) l (inside.0 ++ behind.0) in
      let e : sum_by (row_count ds own) (inside.0 ++ behind.0) ≡ sum_by (row_count ds own) inside.0 + sum_by (row_count ds own) behind.0 = sum_by-append (row_count ds own) inside.0 behind.0 in
      let x : sum_by weight within ≡ sum_by own items + sum_by (row_count ds own) inside.0 = inside.2 in
      let y : sum_by weight all ≡ sum_by own rest + sum_by (row_count ds own) behind.0 = behind.2 in (
        l ∷ (inside.0 ++ behind.0),
        subst (λ ns. calls.Expands (list_graph ds) ns (l ∷ (inside.0 ++ behind.0))) (sym (kept (inner_number ds i) (inner_numbers ds rest) l found.1))
            (calls.Call l (inner_numbers ds rest) inside.0 behind.0 (subst (λ ns. calls.Expands (list_graph ds) ns inside.0) (sym row) inside.1) behind.1),
        omega arith,
      )

  -- what these items come to is counted by what their lists' nodes expand to
  pub comes : (items all : List Item) → Expands ds items all → Comes items all
  comes _ _ Nothing = ([], calls.Nothing, refl)
  comes _ _ (Own i rest all none e) = own_comes i rest all none (comes rest all e)
  comes _ _ (Inner i rest items within all some e f) = inner_comes i rest items within all some (comes items within e) (comes rest all f)

-- Where the nodes' calls expand, the items come to some items.

abbrev pub SomeItems : List Decl → List Item → Type 0
SomeItems ds items = (all : List Item) × Expands ds items all

abbrev ComeFrom : List Decl → List ℕ → Type 0
ComeFrom ds ns = (items : List Item) → inner_numbers ds items ≡ ns → SomeItems ds items

own_first : (ds : List Decl) (i : Item) (rest : List Item) → inner_number ds i ≡ None → SomeItems ds rest → SomeItems ds (i ∷ rest)
own_first ds i rest is h = (own_items ds i ++ h.0, Own i rest h.0 (ap (option_and_then (items_at ds)) is) h.1)

inner_first : (ds : List Decl) (i : Item) (rest : List Item) (l : ℕ) → inner_number ds i ≡ Some l → ComeFrom ds (successors (list_graph ds) l) → SomeItems ds rest → SomeItems ds (i ∷ rest)
inner_first ds i rest l is inner h =
    let f = get_within (lists ds) l (inner_within ds i l is) in
    let within = inner f.0.items (sym (at_row (list_row ds) (lists ds) l f.0 f.1)) in
    (within.0 ++ h.0, Inner i rest f.0.items within.0 h.0 (ap (option_and_then (items_at ds)) is ∙ ap (option_map items_in) f.1) within.1 h.1)

none_first : (ds : List Decl) (i : Item) (rest : List Item) (o : Option ℕ) → inner_number ds i ≡ o → cons_option o (inner_numbers ds rest) ≡ [] → (inner_numbers ds rest ≡ [] → SomeItems ds rest) → SomeItems ds (i ∷ rest)
none_first ds i rest None is e more = own_first ds i rest is (more e)
none_first ds i rest (Some l) is e more = absurd (cc e)

from_none : (ds : List Decl) → ComeFrom ds []
from_none ds [] e = ([], Nothing)
from_none ds (i ∷ rest) e = none_first ds i rest (inner_number ds i) refl e (from_none ds rest)

call_first : (ds : List Decl) (l : ℕ) (ns : List ℕ) (i : Item) (rest : List Item) (o : Option ℕ) → inner_number ds i ≡ o → cons_option o (inner_numbers ds rest) ≡ l ∷ ns → ComeFrom ds (successors (list_graph ds) l) → ComeFrom ds ns → (inner_numbers ds rest ≡ l ∷ ns → SomeItems ds rest) → SomeItems ds (i ∷ rest)
call_first ds l ns i rest None is e inner more again = own_first ds i rest is (again e)
call_first ds l ns i rest (Some k) is e inner more again =
    inner_first ds i rest l (is ∙ ap Some (cc e)) inner (more rest (cc e))

from_call : (ds : List Decl) (l : ℕ) (ns : List ℕ) → ComeFrom ds (successors (list_graph ds) l) → ComeFrom ds ns → ComeFrom ds (l ∷ ns)
from_call ds l ns inner more [] e = absurd (cc e)
from_call ds l ns inner more (i ∷ rest) e =
    call_first ds l ns i rest (inner_number ds i) refl e inner more (from_call ds l ns inner more rest)

pub come_from : (ds : List Decl) (ns nodes : List ℕ) → calls.Expands (list_graph ds) ns nodes → ComeFrom ds ns
come_from ds _ _ calls.Nothing = from_none ds
come_from ds _ _ (calls.Call l rest nodes more e f) = from_call ds l rest (come_from ds (successors (list_graph ds) l) nodes e) (come_from ds rest more f)
