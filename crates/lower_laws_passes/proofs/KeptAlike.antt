-- A request preserves the same in both.
use Rattle.lower_laws_base.specs.Types.{ZerosAlike, ShownDecl, DeclsShown}
use Rattle.std.proofs.Common.{◌≡◌, ℕ, ◌<◌, ◌^◌, Bool, true, false, cond, Option, Some, None, List, [], ◌∷◌, length, get_or, refl, sym, ap, ap₂, ◌∙◌, subst, arith}
use Rattle.std.specs.Prelude.{slice_index, replicate}
use Rattle.std.specs.List.{list_any}
use Rattle.std.specs.Option.{option_map_or}
use Rattle.std.proofs.lemmas.List.{ext_get_or, get_or-map, length-map, length-replicate, get_or-replicate}
use Rattle.std.proofs.lemmas.Nat.{pow_pos}
use Rattle.p414_syntax.specs.declared.calculations.Item.{Item}
use Rattle.p414_syntax.specs.declared.syntax.Decl.{Decl}
use Rattle.p414_syntax.specs.declared.syntax.Decl.TheVariants as decl
use Rattle.p414_syntax.specs.declared.syntax.Sort.TheVariants as sort
use Rattle.p414_syntax.specs.Names.{declared_in}
use Rattle.p414_sem.specs.declared.requests.Request14.{Request14}
use Rattle.p414_sem.specs.State.{State, Instance, instance_at}
use Rattle.p414_sem.specs.Expanded.{Expanded, items_in_list}
use Rattle.p414_sem.specs.Passes.{none_in, none_preserved, preserved_by, preserved}
use Rattle.p416_syntax.specs.declared.program.Syntax16.{Syntax16}
use Rattle.v1_core.specs.Values.{member_in}
use Rattle.v1_core.specs.Frames.{Frame, Request}
use Rattle.v1_core.specs.Passes.{is_in_list, preserved_in, preserved as preserved16}
use Rattle.agreement_of_meanings.specs.Shown.{Shown, as_header, as_stack, as_metadata, is_metadata, name_of, fields_of, field_at, shown_members, shown_value, element, IsShown}
use Rattle.agreement_of_meanings.specs.Agrees.{ListsAgree, IsElement}
use Rattle.lower_laws_base.specs.Context.{StateLayout, shown_on, IsShaped, Shaped, HasMembers}
use Rattle.p416_syntax.specs.Names.{Name}
use Rattle.v1_core.specs.Frames.{of_metadata}
use Rattle.std.specs.Prelude.{map}
use Rattle.lower_laws_base.specs.Between.{between}
use Rattle.lower_laws_passes.specs.Types.{member_of}
use Rattle.v1_core.specs.Passes.{none_preserved as none16}
use Rattle.lower_laws_passes.specs.Preserving.{KeptOne, KeptAlike, is_item, ItemsAtFirst, struct_field_at, MarksFields, metadata_fields}
use Rattle.lower_laws_passes.proofs.Preserving.{one_kept, member_kept, aligned_of, members_kept, numbers_kept, struct_kept, number_kept, length_kept}
use Rattle.lower_laws_passes.proofs.Preserved14.{numbers_at, items_count, items_lengths, items_are}

-- nothing preserved

none_of : (ds : List Decl) (d : Decl) (x : Shown) (size : ℕ) → is_metadata x ≡ true → ShownDecl ds d x size → none_in ds d ≡ replicate (length (fields_of x)) 0
none_of ds (decl.Metadata m) (as_metadata called fields) size is shown = ap (λ n. replicate n 0) shown.1
none_of ds (decl.Header m) (as_metadata called fields) size is shown = absurd shown
none_of ds d (as_header called fields) size is shown = absurd (cc is)
none_of ds d (as_stack called fields) size is shown = absurd (cc is)
none_of ds _ (as_metadata called fields) size is shown = absurd shown

abbrev some_decl : Decl → List Decl → Decl
some_decl d [] = d
some_decl d (x ∷ xs) = x

pub none_at : (g : StateLayout) (ds : List Decl) → DeclsShown g ds → (k : ℕ) → k < length g.names.instances → is_metadata (shown_on g k) ≡ true → numbers_at (none_preserved ds) k ≡ replicate (length (fields_of (shown_on g k))) 0
none_at g ds shown k lt is = by (declared_in sort.Instance ds) refl where
  by : (all : List Decl) → declared_in sort.Instance ds ≡ all → numbers_at (none_preserved ds) k ≡ replicate (length (fields_of (shown_on g k))) 0
  by [] e = absurd (omega (arith, ap length e, shown.all, lt))
  by (d ∷ all) e =
      get_or-map (none_in ds) (declared_in sort.Instance ds) k d [] (omega (arith, shown.all, lt))
      ∙ none_of ds (get_or (declared_in sort.Instance ds) k d) (shown_on g k) (g.size_of k) is (shown.each k lt d)

pub none_count : (g : StateLayout) (ds : List Decl) → DeclsShown g ds → length (none_preserved ds) ≡ length g.names.instances
none_count g ds shown = length-map (declared_in sort.Instance ds) (none_in ds) ∙ shown.all

one_element : (ds : List Decl) (d : Decl) (x : Shown) (size : ℕ) → is_metadata x ≡ true → ShownDecl ds d x size → size ≡ 1
one_element ds (decl.Metadata m) (as_metadata called fields) size is shown = shown.0
one_element ds (decl.Header m) (as_metadata called fields) size is shown = absurd shown
one_element ds d (as_header called fields) size is shown = absurd (cc is)
one_element ds d (as_stack called fields) size is shown = absurd (cc is)
one_element ds _ (as_metadata called fields) size is shown = absurd shown

pub metadata_size : (g : StateLayout) (ds : List Decl) → DeclsShown g ds → (k : ℕ) → k < length g.names.instances → is_metadata (shown_on g k) ≡ true → g.size_of k ≡ 1
metadata_size g ds shown k lt is = by (declared_in sort.Instance ds) refl where
  by : (all : List Decl) → declared_in sort.Instance ds ≡ all → g.size_of k ≡ 1
  by [] e = absurd (omega (arith, ap length e, shown.all, lt))
  by (d ∷ all) e = one_element ds (get_or (declared_in sort.Instance ds) k d) (shown_on g k) (g.size_of k) is (shown.each k lt d)

-- metadata as it is shown
is_members : (x : Shown) (i : Instance) → is_metadata x ≡ true → shown_value x i ≡ shown_members (fields_of x) (element i 0).numbers
is_members (as_header called fields) i is = absurd (cc is)
is_members (as_stack called fields) i is = absurd (cc is)
is_members (as_metadata called fields) i is = refl

in_metadata : (f : Frame) (x : Shown) (i : Instance) → is_metadata x ≡ true → IsShown f x i → member_in f.metadata (name_of x) ≡ shown_value x i
in_metadata f (as_header called fields) i is shown = absurd (cc is)
in_metadata f (as_stack called fields) i is shown = absurd (cc is)
in_metadata f (as_metadata called fields) i is shown = shown

stays_valid : (x : Shown) (i : Instance) (e : ℕ) → is_metadata x ≡ true → IsElement x i e → (element i e).valid ≡ true
stays_valid (as_header called fields) i e is there = absurd (cc is)
stays_valid (as_stack called fields) i e is there = absurd (cc is)
stays_valid (as_metadata called fields) i e is there = there.1

module _ (g : StateLayout) (ds : List Decl) (x : Expanded) (syntax : Syntax16) (shown : DeclsShown g ds) (marks : MarksFields g ds x syntax) (s : State) (f : Frame) (stands : (k : ℕ) → k < length g.names.instances → IsShown f (shown_on g k) (instance_at s k)) (shaped : Shaped (between g) s) (members : g.members of_metadata ≡ map member_of (metadata_fields syntax)) (has : HasMembers (g.members of_metadata) f.metadata) where
  abbrev items : Option ℕ → List Item
  items list = option_map_or (items_in_list x) list []

  -- a field of the list, or of none
  bits_alike : (list : Option ℕ) (number : ℕ) → ListsAgree g.names.marks list number → (k j : ℕ) → k < length g.names.instances → is_metadata (shown_on g k) ≡ true → j < length (marks.inner k) → is_in_list number (struct_field_at (marks.inner k) j) ≡ list_any (is_item ds k j) (items list)
  bits_alike None number agree k j lt is within = marks.unmarked number agree k j lt is within
  bits_alike (Some n) number agree k j lt is within = marks.marked n number agree k j lt is within

  at_first : (list : Option ℕ) (k : ℕ) → k < length g.names.instances → is_metadata (shown_on g k) ≡ true → ItemsAtFirst ds k (items list)
  at_first None k lt is = tt
  at_first (Some n) k lt is = marks.first n k lt is

  module _ (list : Option ℕ) (number : ℕ) (agree : ListsAgree g.names.marks list number) (k : ℕ) (lt : k < length g.names.instances) (is : is_metadata (shown_on g k) ≡ true) where
    abbrev y : Shown
    y = shown_on g k

    abbrev old : List ℕ
    old = (element (instance_at s k) 0).numbers

    there : IsShaped y (instance_at s k) 0
    there = shaped.each k 0 lt (omega (arith, metadata_size g ds shown k lt is))

    abbrev mine : List ℕ
    mine = numbers_at (preserved_by ds x s list) k

    long : length mine ≡ length (fields_of y)
    long =
        items_lengths ds s (items list) (none_preserved ds) k ∙ ap length (none_at g ds shown k lt is) ∙ length-replicate (length (fields_of y)) 0

    number_is : (j : ℕ) → j < length (fields_of y) → get_or mine j 0 ≡ cond (list_any (is_item ds k j) (items list)) (get_or old j 0) 0
    number_is j within =
        items_are ds s (items list) (none_preserved ds) k (omega (arith, none_count g ds shown, lt)) j (omega (arith, ap length (none_at g ds shown k lt is), length-replicate {A = ℕ} (length (fields_of y)) 0, within)) (at_first list k lt is)
        ∙ ap₂ (λ m n. cond (list_any (is_item ds k j) (items list)) m n)
        (ap (λ b. cond b (slice_index old j) 0) (stays_valid y (instance_at s k) 0 is there.which))
        (ap (λ l. get_or l j 0) (none_at g ds shown k lt is) ∙ get_or-replicate (length (fields_of y)) j 0 0 within)

    same_numbers : numbers_kept number (marks.inner k) old ≡ mine
    same_numbers =
        ext_get_or 0 (numbers_kept number (marks.inner k) old) mine (length_kept number (marks.inner k) old ∙ there.count ∙ sym long)
        (λ j within.
        let below : j < length old = omega (arith, within, length_kept number (marks.inner k) old) in
        number_kept number (marks.inner k) old j below (marks.count k lt is ∙ sym there.count)
        ∙ ap (λ b. cond b (get_or old j 0) 0) (bits_alike list number agree k j lt is (omega (arith, below, marks.count k lt is, there.count)))
        ∙ sym (number_is j (omega (arith, below, there.count))))

    below : (j : ℕ) → j < length (fields_of y) → get_or mine j 0 < 2 ^ (field_at (fields_of y) j).width
    below j within = subst (λ n. n < 2 ^ (field_at (fields_of y) j).width) (sym (number_is j within)) (by (list_any (is_item ds k j) (items list))) where
      by : (b : Bool) → cond b (get_or old j 0) 0 < 2 ^ (field_at (fields_of y) j).width
      by true = there.bounds j within
      by false = pow_pos (field_at (fields_of y) j).width

    one_alike : KeptOne y mine (preserved_in syntax.decls number (metadata_fields syntax) f.metadata)
    one_alike =
        let found = marks.found k lt is in
        record {
          shown = member_kept syntax.decls number (metadata_fields syntax) f.metadata (name_of y) found.0 (aligned_of (metadata_fields syntax) f.metadata (subst (λ (xs : List Name). HasMembers xs f.metadata) members has)) found.1
              ∙ ap (one_kept syntax.decls number found.0) (in_metadata f y (instance_at s k) is (stands k lt) ∙ is_members y (instance_at s k) is)
              ∙ struct_kept syntax.decls number found.0 (marks.inner k) (fields_of y) old found.2
              ∙ ap (shown_members (fields_of y)) same_numbers;
          count = long;
          bounds = below;
        }

  -- what a request preserves
  pub preserved_alike : (r : Request14) (q : Request) → ListsAgree g.names.marks r.list q.1 → KeptAlike g (preserved ds x s r) (preserved16 syntax f q)
  preserved_alike r q agree = record {
    count = items_count ds s (items r.list) (none_preserved ds) ∙ none_count g ds shown;
    each = λ k lt is. one_alike r.list q.1 agree k lt is;
    members = members_kept syntax.decls q.1 (g.members of_metadata) (metadata_fields syntax) f.metadata has;
  }

-- what is preserved where nothing is
pub nothing_kept : (g : StateLayout) (ds : List Decl) (syntax : Syntax16) → DeclsShown g ds → ZerosAlike g syntax → KeptAlike g (none_preserved ds) (none16 syntax)
nothing_kept g ds syntax shown zeros = record {
  count = none_count g ds shown;
  each = λ k lt is.
      let none = none_at g ds shown k lt is in
      record {
        shown = zeros.metadata k lt is ∙ ap (shown_members (fields_of (shown_on g k))) (sym none);
        count = ap length none ∙ length-replicate (length (fields_of (shown_on g k))) 0;
        bounds = λ j b. subst (λ n. n < 2 ^ (field_at (fields_of (shown_on g k)) j).width) (sym (ap (λ l. get_or l j 0) none ∙ get_or-replicate (length (fields_of (shown_on g k))) j 0 0 b)) (pow_pos (field_at (fields_of (shown_on g k)) j).width);
      };
  members = zeros.metadata_members;
}
