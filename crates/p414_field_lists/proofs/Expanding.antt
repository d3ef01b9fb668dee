-- The rows of a list are those of whatever it comes to, where the lists within it are ready.
use Rattle.std.proofs.Common.{◌≡◌, ℕ, zero, suc, ◌+◌, ◌<◌, ◌≤◌, ⊎_elim, inl, inr, List, [], ◌∷◌, ◌++◌, length, map, get_or, set, take, slice_get, Option, Some, None, subst, refl, sym, ap, ap₂, ◌∙◌, arith}
use Rattle.std.specs.Prelude.{option_and_then}
use Rattle.std.specs.List.{cons_option}
use Rattle.std.specs.Option.{option_map_or}
use Rattle.std.proofs.lemmas.Bool.{cases_eq}
use Rattle.std.proofs.lemmas.Grind.{flat_map-append}
use Rattle.std.proofs.lemmas.List.{take_all, take_more, get_or-set_same, get_or-set_other, length-map}
use Rattle.digraph.specs.Graphs.{Among, IsEdge}
use Rattle.digraph.specs.Components.{Condensation, AreComponents}
use Rattle.digraph.proofs.Listing.{among_append}
use Rattle.digraph.proofs.Members.{among_place}
use Rattle.digraph.proofs.Sizing.{comes_before}
use Rattle.p414_syntax.specs.declared.calculations.FieldList.{FieldList}
use Rattle.p414_syntax.specs.declared.calculations.Item.{Item}
use Rattle.p414_syntax.specs.declared.calculations.Item.TheVariants as item
use Rattle.p414_syntax.specs.declared.parts.Inst.{Inst}
use Rattle.p414_syntax.specs.declared.syntax.Decl.{Decl}
use Rattle.p414_syntax.specs.Names.{Name}
use Rattle.p414_syntax.specs.Expansion.{lists, items_at, inner_number, inner_numbers, own_items, field_item, fields_of, Expands, Nothing, Own, Inner}
use Rattle.p414_syntax.specs.Lists.{HoldsItself}
use Rattle.p414_list_check.specs.internal.Expanded.{list_row, list_graph}
use Rattle.p414_list_check.proofs.Expanding.{is_alone, list_of}
use Rattle.p414_list_check.proofs.Holding.{held_is, holds_itself, closed}
use Rattle.p414_field_lists.specs.declared.rows.ItemRow.{ItemRow}
use Rattle.p414_field_lists.specs.Rows.{item_rows, rows_of}
use Rattle.p414_field_lists.specs.Meaning.{IsReady, AreReady}
use Rattle.p414_field_lists.specs.internal.Expanding.{named_row, own_rows, rows_by, list_rows, list_rows_in, list_rows_at}

-- an instance by itself: all its fields

rows_named : (ds : List Decl) (i : Inst) (names : List Name) → rows_of ds (map (field_item i) names) ≡ map (named_row ds i) names
rows_named ds i [] = refl
rows_named ds i (name ∷ names) = ap (λ (l : List ItemRow). named_row ds i name ∷ l) (rows_named ds i names)

pub instance_rows : (ds : List Decl) (i : Inst) (old new : List ItemRow) → new ≡ old ++ map (named_row ds i) (fields_of ds i.name) → new ≡ old ++ own_rows ds (item.Instance i)
instance_rows ds i old new is = is ∙ ap (λ (l : List ItemRow). old ++ l) (sym (rows_named ds i (fields_of ds i.name)))

-- the lists that stand in a list

inner_of : (ds : List Decl) (o : Option ℕ) (items : List Item) → option_and_then (items_at ds) o ≡ Some items → (l : ℕ) × (o ≡ Some l) × (items_at ds l ≡ Some items)
inner_of ds None items e = absurd (cc e)
inner_of ds (Some l) items e = (l, refl, e)

behind : (o : Option ℕ) (xs : List ℕ) (k : ℕ) → Among k xs → Among k (cons_option o xs)
behind None xs k a = a
behind (Some l) xs k a = inr a

first : (o : Option ℕ) (xs : List ℕ) (l : ℕ) → o ≡ Some l → Among l (cons_option o xs)
first o xs l is = subst (λ (p : Option ℕ). Among l (cons_option p xs)) (sym is) (inl refl)

module _ (ds : List Decl) (ready : List (List ItemRow)) where
  abbrev pub InnerReady : List Item → Type 0
  InnerReady items = (n : ℕ) → Among n (inner_numbers ds items) → IsReady ds ready n

  pub expanded : (items all : List Item) → Expands ds items all → InnerReady items → list_rows ds ready items ≡ rows_of ds all
  expanded _ _ Nothing h = refl
  expanded _ _ (Own i rest all none e) h =
      let more : list_rows ds ready rest ≡ rows_of ds all = expanded rest all e (λ n a. h n (behind (inner_number ds i) (inner_numbers ds rest) n a)) in
      ap₂ (λ (a b : List ItemRow). a ++ b) (ap (rows_by ds ready i) (is_alone ds i none)) more
      ∙ sym (flat_map-append (item_rows ds) (own_items ds i) all)
  expanded _ _ (Inner i rest items within all some e f) h =
      let more : list_rows ds ready rest ≡ rows_of ds all = expanded rest all f (λ n a. h n (behind (inner_number ds i) (inner_numbers ds rest) n a)) in
      let found = inner_of ds (inner_number ds i) items some in
      let known : IsReady ds ready found.0 = h found.0 (first (inner_number ds i) (inner_numbers ds rest) found.0 found.1) in
      ap₂ (λ (a b : List ItemRow). a ++ b) (ap (rows_by ds ready i) found.1 ∙ known.rows items within found.2 e) more
      ∙ sym (flat_map-append (item_rows ds) within all)

-- one list more, behind those that stand in it

inner_edge : (ds : List Decl) (a n : ℕ) (items : List Item) → items_at ds a ≡ Some items → Among n (inner_numbers ds items) → IsEdge (list_graph ds) a n
inner_edge ds a n items at among =
    subst (λ (ns : List ℕ). Among n ns) (sym (held_is ds a ∙ ap (λ (o : Option (List Item)). option_map_or (inner_numbers ds) o []) at)) among

rows_are : (ds : List Decl) (ready : List (List ItemRow)) (a : ℕ) (items : List Item) → items_at ds a ≡ Some items → list_rows_at ds ready a ≡ list_rows ds ready items
rows_are ds ready a items at =
    let f = list_of (slice_get (lists ds) a) items at in
    ap (λ (o : Option FieldList). option_map_or (list_rows_in ds ready) o []) f.1 ∙ ap (list_rows ds ready) f.2

there_within : {X : Type 0} (xs : List X) (k : ℕ) (x : X) → slice_get xs k ≡ Some x → k < length xs
there_within [] k x e = absurd (cc e)
there_within (y ∷ xs) zero x e = omega arith
there_within (y ∷ xs) (suc k) x e = let lt = there_within xs k x e in omega arith

within : (ds : List Decl) (n : ℕ) (items : List Item) → items_at ds n ≡ Some items → n < length (lists ds)
within ds n items at = let f = list_of (slice_get (lists ds) n) items at in there_within (lists ds) n f.0 f.1

all_rows : (ds : List Decl) → length (list_graph ds) ≡ length (lists ds)
all_rows ds = length-map (lists ds) (list_row ds)

-- the node that is read is that of a list
pub node_within : (ds : List Decl) (k : Condensation) (xs : List ℕ) (i : ℕ) → AreComponents (list_graph ds) k → xs ≡ k.order → i < length xs → get_or xs i 0 < length (lists ds)
node_within ds k xs i h order lt =
    subst (λ n. get_or xs i 0 < n) (all_rows ds)
    ((h.nodes (get_or xs i 0)).0 (subst (λ (ys : List ℕ). Among (get_or xs i 0) ys) order (among_place xs i 0 lt)))

more_by_order : (ds : List Decl) (k : Condensation) (ready : List (List ItemRow)) (i : ℕ) (v : List ItemRow) → AreComponents (list_graph ds) k → (HoldsItself ds → ⊥) → i < length k.order → length ready ≡ length (lists ds)
    → ((b : ℕ) → Among b (take i k.order) → IsReady ds ready b) → v ≡ list_rows_at ds ready (get_or k.order i 0)
    → (b : ℕ) → Among b (take (i + 1) k.order) → IsReady ds (set ready (get_or k.order i 0) v) b
more_by_order ds k ready i v h none lt count known is b among =
    ⊎_elim
    (λ same.
    let inside : get_or k.order i 0 < length (lists ds) = node_within ds k k.order i h refl lt in
    let here : get_or k.order i 0 < length ready = omega arith in
    subst (λ y. IsReady ds (set ready (get_or k.order i 0) v) y) (sym same)
    (record {
      rows = λ items all at e.
          get_or-set_same ready (get_or k.order i 0) v [] here
          ∙ is
          ∙ rows_are ds ready (get_or k.order i 0) items at
          ∙ expanded ds ready items all e
          (λ n a. known n (comes_before (list_graph ds) k i n (closed ds) h (λ x cycle. none (holds_itself ds (x, cycle))) lt (inner_edge ds (get_or k.order i 0) n items at a)));
    }))
    (λ differs.
    let old : Among b (take i k.order) = ⊎_elim (λ l. l) (λ r. ⊎_elim (λ e. absurd (differs e)) (λ never. absurd never) r) (among_append b (take i k.order) (get_or k.order i 0 ∷ []) (subst (λ ys. Among b ys) (take_more k.order i 0 lt) among)) in
    let was = known b old in
    record { rows = λ items all at e. get_or-set_other ready (get_or k.order i 0) b v [] differs ∙ was.rows items all at e })
    (cases_eq b (get_or k.order i 0))

pub ready_more : (ds : List Decl) (k : Condensation) (xs : List ℕ) (ready read : List (List ItemRow)) (i : ℕ) (v : List ItemRow) → AreComponents (list_graph ds) k → (HoldsItself ds → ⊥) → xs ≡ k.order → read ≡ ready → i < length xs → length ready ≡ length (lists ds)
    → ((b : ℕ) → Among b (take i k.order) → IsReady ds ready b) → v ≡ list_rows_at ds read (get_or xs i 0)
    → (b : ℕ) → Among b (take (i + 1) k.order) → IsReady ds (set ready (get_or xs i 0) v) b
ready_more ds k xs ready read i v h none order same lt count known is b among =
    let at : get_or xs i 0 ≡ get_or k.order i 0 = ap (λ (ys : List ℕ). get_or ys i 0) order in
    let inside : i < length k.order = subst (λ (ys : List ℕ). i < length ys) order lt in
    subst (λ m. IsReady ds (set ready m v) b) (sym at)
    (more_by_order ds k ready i v h none inside count known
    (is ∙ ap (λ (l : List (List ItemRow)). list_rows_at ds l (get_or xs i 0)) same ∙ ap (list_rows_at ds ready) at) b among)

-- all lists are ready at the end
pub are_ready : (ds : List Decl) (k : Condensation) (xs : List ℕ) (ready : List (List ItemRow)) (i : ℕ) → AreComponents (list_graph ds) k → xs ≡ k.order → length xs ≤ i → length ready ≡ length (lists ds)
    → ((b : ℕ) → Among b (take i k.order) → IsReady ds ready b) → AreReady ds ready
are_ready ds k xs ready i h order le count known =
    let done : length k.order ≤ i = subst (λ (ys : List ℕ). length ys ≤ i) order le in
    record {
      count = count;
      each = λ n. record {
        rows = λ items all at e.
            let lt : n < length (lists ds) = within ds n items at in
            let many : length (list_graph ds) ≡ length (lists ds) = all_rows ds in
            (known n (subst (λ ys. Among n ys) (sym (take_all i k.order done)) ((h.nodes n).1 (omega arith)))).rows items all at e;
      };
    }
