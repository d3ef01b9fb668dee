-- The sizes of the nodes of the graph of lists say what the lists come to.
use Rattle.std.proofs.Common.{◌≡◌, ℕ, suc, zero, ◌+◌, ◌<◌, ◌≤◌, min, List, [], ◌∷◌, ◌++◌, length, get_or, map, sum_by, slice_get, slice_index, Option, Some, None, option_map, option_and_then, refl, sym, ap, ◌∙◌, subst, arith}
use Rattle.std.specs.Option.{option_map_or}
use Rattle.std.proofs.lemmas.List.{length-map}
use Rattle.std.proofs.lemmas.List.Sums.{sum_by-append, sum_by-cons}
use Rattle.digraph.specs.Graphs.{successors}
use Rattle.digraph.specs.Expansions as calls
use Rattle.digraph.specs.Expansions.{AreSizes, size_of}
use Rattle.p414_syntax.specs.declared.calculations.FieldList.{FieldList}
use Rattle.p414_syntax.specs.declared.calculations.Item.{Item}
use Rattle.p414_syntax.specs.declared.syntax.Decl.{Decl}
use Rattle.p414_syntax.specs.Names.{Name}
use Rattle.p414_syntax.specs.Expansion.{lists, list_number, items_in, items_at, inner_numbers, Expands, ComesTo, Joins}
use Rattle.p414_list_check.specs.internal.Expanded.{list_row, list_graph, capped_count, own_counts, total_from}
use Rattle.p414_list_check.proofs.Expanding.{CountsOwn, row_count, comes, come_from, SomeItems, get_within, at_row, list_of, named_within}

-- sums that are cut off at a limit

pub cut : (limit a b : ℕ) → min limit (min limit a + b) ≡ min limit (a + b)
cut limit a b = omega arith

pub cut_sum : (limit : ℕ) (f g : ℕ → ℕ) → ((n : ℕ) → f n ≡ min limit (g n)) → (ns : List ℕ) → min limit (sum_by f ns) ≡ min limit (sum_by g ns)
cut_sum limit f g same [] = refl
cut_sum limit f g same (n ∷ ns) =
    let a : sum_by f (n ∷ ns) ≡ f n + sum_by f ns = sum_by-cons f n ns in
    let b : sum_by g (n ∷ ns) ≡ g n + sum_by g ns = sum_by-cons g n ns in
    let c : f n ≡ min limit (g n) = same n in
    let d : min limit (sum_by f ns) ≡ min limit (sum_by g ns) = cut_sum limit f g same ns in
    omega arith

-- what is counted of the list with a number

count_there : (limit : ℕ) (own : Item → ℕ) (fs : List FieldList) (l : ℕ) → get_or (map (capped_count limit own) fs) l 0 ≡ min limit (option_map_or (sum_by own) (option_map items_in (slice_get fs l)) 0)
count_there limit own [] l = omega arith
count_there limit own (f ∷ fs) zero = refl
count_there limit own (f ∷ fs) (suc l) = count_there limit own fs l

pub count_is : (limit : ℕ) (own : Item → ℕ) (ds : List Decl) (l : ℕ) → slice_index (own_counts limit own ds) l ≡ min limit (row_count ds own l)
count_is limit own ds l = count_there limit own (lists ds) l

pub there_within : {X : Type 0} (xs : List X) (l : ℕ) (x : X) → slice_get xs l ≡ Some x → l < length xs
there_within [] l x e = absurd (cc e)
there_within (y ∷ ys) zero x e = omega arith
there_within (y ∷ ys) (suc l) x e = let h = there_within ys l x e in omega arith

pub node_within : (ds : List Decl) (l : ℕ) (items : List Item) → items_at ds l ≡ Some items → l < length (list_graph ds)
node_within ds l items there =
    let f = list_of (slice_get (lists ds) l) items there in
    let h : l < length (lists ds) = there_within (lists ds) l f.0 f.1 in
    let same : length (list_graph ds) ≡ length (lists ds) = length-map (lists ds) (list_row ds) in
    omega arith

module _ (ds : List Decl) (weight own : Item → ℕ) (counts : CountsOwn ds weight own) (limit : ℕ) (sizes : List ℕ) (known : AreSizes (list_graph ds) (own_counts limit own ds) limit sizes) where
  -- the size of a list's node is what is counted of the items that the list comes to
  pub size_is : (l : ℕ) (items all : List Item) → items_at ds l ≡ Some items → Expands ds items all → slice_index sizes l ≡ min limit (sum_by weight all)
  size_is l items all there e =
      let h = comes ds weight own counts items all e in
      let f = list_of (slice_get (lists ds) l) items there in
      let row : successors (list_graph ds) l ≡ inner_numbers ds items = at_row (list_row ds) (lists ds) l f.0 f.1 ∙ ap (inner_numbers ds) f.2 in
      let first : row_count ds own l ≡ sum_by own items = ap (λ o. option_map_or (sum_by own) o 0) there in
      let known_size : slice_index sizes l ≡ min limit (size_of (own_counts limit own ds) (l ∷ h.0)) = known.size l h.0 (node_within ds l items there) (subst (λ ns. calls.Expands (list_graph ds) ns h.0) (sym row) h.1) in
      let a : min limit (sum_by (slice_index (own_counts limit own ds)) (l ∷ h.0)) ≡ min limit (sum_by (row_count ds own) (l ∷ h.0)) = cut_sum limit (slice_index (own_counts limit own ds)) (row_count ds own) (count_is limit own ds) (l ∷ h.0) in
      let b : sum_by (row_count ds own) (l ∷ h.0) ≡ row_count ds own l + sum_by (row_count ds own) h.0 = sum_by-cons (row_count ds own) l h.0 in
      let c : sum_by weight all ≡ sum_by own items + sum_by (row_count ds own) h.0 = h.2 in
      known_size ∙ (a ∙ ap (min limit) (b ∙ (ap (λ n. n + sum_by (row_count ds own) h.0) first ∙ sym c)))

  -- each list comes to some items
  pub some_items : (l : ℕ) (items : List Item) → items_at ds l ≡ Some items → SomeItems ds items
  some_items l items there =
      let f = list_of (slice_get (lists ds) l) items there in
      let row : successors (list_graph ds) l ≡ inner_numbers ds items = at_row (list_row ds) (lists ds) l f.0 f.1 ∙ ap (inner_numbers ds) f.2 in
      let h = known.expands l (node_within ds l items there) in
      come_from ds (successors (list_graph ds) l) h.0 h.1 items (sym row)

  -- lists with these names, joined

  number_there : (o : Option ℕ) (items : List Item) → option_and_then (items_at ds) o ≡ Some items → (l : ℕ) × (o ≡ Some l) × (items_at ds l ≡ Some items)
  number_there None items e = absurd (cc e)
  number_there (Some l) items e = (l, refl, e)

  pub joined_total : (names : List Name) (all : List Item) (so_far : ℕ) → so_far ≤ limit → Joins ds names all → total_from limit sizes so_far (map (list_number ds) names) ≡ Some (min limit (so_far + sum_by weight all))
  joined_total [] all so_far within none =
      let e : sum_by weight all ≡ 0 = ap (sum_by weight) none in
      let n : so_far ≡ min limit (so_far + sum_by weight all) = omega arith in
      ap Some n
  joined_total (name ∷ names) all so_far within (first, rest, there, behind, is) =
      let found = number_there (list_number ds name) there.items there.named in
      let l = found.0 in
      let one : slice_index sizes l ≡ min limit (sum_by weight first) = size_is l there.items first found.2 there.expands in
      let whole : sum_by weight all ≡ sum_by weight first + sum_by weight rest = ap (sum_by weight) is ∙ sum_by-append weight first rest in
      let next : ℕ = min limit (so_far + slice_index sizes l) in
      let below : next ≤ limit = omega arith in
      let turn : total_from limit sizes so_far (list_number ds name ∷ map (list_number ds) names) ≡ total_from limit sizes next (map (list_number ds) names) = ap (λ o. total_from limit sizes so_far (o ∷ map (list_number ds) names)) found.1 in
      let same : min limit (next + sum_by weight rest) ≡ min limit (so_far + sum_by weight all) = omega arith in
      turn ∙ (joined_total names rest next below behind ∙ ap Some same)

  join_first : (name : Name) (names : List Name) (o : Option ℕ) (so_far n : ℕ) → list_number ds name ≡ o → total_from limit sizes so_far (o ∷ map (list_number ds) names) ≡ Some n → ((next : ℕ) → total_from limit sizes next (map (list_number ds) names) ≡ Some n → (all : List Item) × Joins ds names all) → (all : List Item) × Joins ds (name ∷ names) all
  join_first name names None so_far n is e more = absurd (cc e)
  join_first name names (Some l) so_far n is e more =
      let f = get_within (lists ds) l (named_within ds name l is) in
      let there : items_at ds l ≡ Some f.0.items = ap (option_map items_in) f.1 in
      let first = some_items l f.0.items there in
      let rest = more (min limit (so_far + slice_index sizes l)) e in
      let comes_to : ComesTo ds name first.0 = record { items = f.0.items; named = ap (option_and_then (items_at ds)) is ∙ there; expands = first.1 } in
      (first.0 ++ rest.0, (first.0, rest.0, comes_to, rest.1, refl))

  -- where all names have a number, the lists join
  pub some_join : (names : List Name) (so_far n : ℕ) → total_from limit sizes so_far (map (list_number ds) names) ≡ Some n → (all : List Item) × Joins ds names all
  some_join [] so_far n e = ([], refl)
  some_join (name ∷ names) so_far n e = join_first name names (list_number ds name) so_far n refl e (λ next h. some_join names next n h)
