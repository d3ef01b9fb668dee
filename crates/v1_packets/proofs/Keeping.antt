-- What a field list preserves.
use Rattle.std.proofs.Common.{◌≡◌, inl, inr, ℕ, suc, ◌+◌, ◌-◌, ◌==◌, ◌<◌, ◌≤◌, ◌^◌, nat_lt, Bool, true, false, ◌||◌, cond, None, List, [], ◌∷◌, ◌++◌, length, map, flat_map, get_or, refl, sym, ap, ◌∙◌, subst, arith, pow_pos, All}
use Rattle.std.specs.List.{list_any}
use Rattle.std.proofs.lemmas.Bool.{ltb-false, eqb-true}
use Rattle.p416_syntax.specs.declared.lexeme.Literal16.{Literal16}
use Rattle.p416_syntax.specs.declared.parts.Type16.{Type16}
use Rattle.p416_syntax.specs.declared.parts.StructField.{StructField}
use Rattle.p416_syntax.specs.declared.program.Decl16.{Decl16}
use Rattle.p416_syntax.specs.declared.program.Syntax16.{Syntax16}
use Rattle.p416_syntax.specs.Kinds.{Kind}
use Rattle.p416_syntax.specs.Scopes.{Layout as TypeLayout, FieldKind, Known, kind_of_type}
use Rattle.p416_syntax.specs.Declarations.{top_names, layouts_of, struct_field, list_numbers}
use Rattle.p416_syntax.specs.Main.{metadata_kind}
use Rattle.v1_core.specs.Values.{Value, a_number, a_member}
use Rattle.v1_core.specs.Passes.{struct_called, fields_of_type, struct_fields, is_number, number_if_in_list, preserved_in, preserved}
use Rattle.v1_core.specs.Layouts.{Layout}
use Rattle.v1_core.specs.Cells.{Cells, is_live, slot_value, AreWhole}
use Rattle.v1_core.specs.Seats.{Form, struct_form, form_of, Start, moved, behind_members, behind}
use Rattle.v1_core.specs.PackedValues.{member_values, value_from}
use Rattle.v1_core.specs.Laid.{IsSlot}
use Rattle.v1_core.specs.Programs.{layout16}
use Rattle.v1_core.specs.PackedFrames.{IsFrameOf}
use Rattle.v1_pass_slots.specs.declared.slots.Slots.{Slots}
use Rattle.v1_pass_slots.specs.Starts.{metadata_start, standard_start}
use Rattle.v1_packets.specs.Packets.{packet_frame, numbers_from, kept_value, AreFitting}
use Rattle.v1_pass_slots.specs.Lists.{small_numbers, lists_of, is_listed, lists_within, slot_lists, all_lists}
use Rattle.v1_packets.specs.Kept.{kept_from}
use Rattle.v1_pass_slots.specs.Found.{AreSlots, IsBits, IsInner, IsMetadataField, IsMetadata}
use Rattle.v1_packets.proofs.Values.{numbers_at, metadata_lone}

first : {X : Type 0} (P : X → Type 0) (x : X) (xs : List X) → All P (x ∷ xs) → P x
first P x xs all = all 0 x (omega arith)

rest : {X : Type 0} (P : X → Type 0) (x : X) (xs : List X) → All P (x ∷ xs) → All P xs
rest P x xs all = λ k d lt. all (suc k) d (omega arith)

-- what is kept fits

either_fits : (b : Bool) (m limit : ℕ) → m < limit → 0 < limit → cond b m 0 < limit
either_fits true m limit lt positive = lt
either_fits false m limit lt positive = positive

pub kept_fits : (c : Cells) (from : ℕ) (lists : List (List ℕ)) (list : ℕ) → AreWhole c → ((slot : ℕ) → from ≤ slot → slot < from + length lists → slot < length c.layout.widths) → AreFitting c.layout.widths from (kept_from c from lists list)
kept_fits c from [] list whole there = tt
kept_fits c from (ls ∷ more) list whole there =
    let limit : ℕ = 2 ^ get_or c.layout.widths from 0 in
    let positive : 0 < limit = pow_pos (get_or c.layout.widths from 0) in
    let fits : get_or c.numbers from 0 < limit = whole.fits from (there from (omega arith) (omega arith)) in (
      either_fits (is_listed list ls) (slot_value c from) limit (either_fits (is_live c from) (get_or c.numbers from 0) limit fits positive) positive,
      kept_fits c (from + 1) more list whole (λ slot le lt. there slot (omega arith) (omega arith)),
    )

-- a list is among the small numbers of an annotation where it is among all

small_listed : (numbers : List Literal16) (list : ℕ) → list < 256 → is_listed list (small_numbers numbers) ≡ list_any (is_number list) numbers
small_listed [] list small = refl
small_listed (n ∷ numbers) list small = by (nat_lt n.value 256) refl (small_listed numbers list small) where
  other : nat_lt n.value 256 ≡ false → (n.value == list) ≡ false
  other e = unequal n.value list (λ same. clash same (ltb-false n.value 256 e)) where
    clash : n.value ≡ list → 256 ≤ n.value → ⊥
    clash same le = omega (arith, small)

    unequal : (a b : ℕ) → (a ≡ b → ⊥) → (a == b) ≡ false
    unequal a b never = by_bool (a == b) refl where
      by_bool : (t : Bool) → (a == b) ≡ t → t ≡ false
      by_bool true is = absurd (never (eqb-true a b is))
      by_bool false is = refl

  by : (b : Bool) → nat_lt n.value 256 ≡ b → is_listed list (small_numbers numbers) ≡ list_any (is_number list) numbers → is_listed list (cond b (n.value ∷ small_numbers numbers) (small_numbers numbers)) ≡ ((n.value == list) || list_any (is_number list) numbers)
  by true e more = ap (λ (t : Bool). (n.value == list) || t) more
  by false e more = more ∙ ap (λ (t : Bool). t || list_any (is_number list) numbers) (sym (other e))

field_listed : (f : StructField) (list n : ℕ) → list < 256 → cond (is_listed list (lists_of f)) n 0 ≡ number_if_in_list list f n
field_listed f list n small = ap (λ (b : Bool). cond b n 0) (small_listed (flat_map list_numbers f.notes) list small)

-- cells that have what is kept of others, in the slots from one on

abbrev AreKept : Cells → Cells → ℕ → List (List ℕ) → ℕ → Type 0
AreKept c d slot [] list = Unit {0}
AreKept c d slot (ls ∷ more) list = (slot_value d slot ≡ cond (is_listed list ls) (slot_value c slot) 0) × AreKept c d (slot + 1) more list

are_kept : (c d : Cells) (from : ℕ) (lists : List (List ℕ)) (list : ℕ) → ((j : ℕ) → slot_value d (from + j) ≡ get_or (kept_from c from lists list) j 0) → AreKept c d from lists list
are_kept c d from [] list reads = tt
are_kept c d from (ls ∷ more) list reads = (
  (let at : from + 0 ≡ from = omega arith in subst (λ (s : ℕ). slot_value d s ≡ cond (is_listed list ls) (slot_value c from) 0) at (reads 0)),
  are_kept c d (from + 1) more list (λ j.
      let at : from + suc j ≡ from + 1 + j = omega arith in
      subst (λ (s : ℕ). slot_value d s ≡ get_or (kept_from c (from + 1) more list) j 0) at (reads (suc j))),
)

kept_front : (c d : Cells) (slot : ℕ) (ls more : List (List ℕ)) (list : ℕ) → AreKept c d slot (ls ++ more) list → AreKept c d slot ls list
kept_front c d slot [] more list k = tt
kept_front c d slot (l ∷ ls) more list k = (k.0, kept_front c d (slot + 1) ls more list k.1)

kept_back : (c d : Cells) (slot : ℕ) (ls more : List (List ℕ)) (list : ℕ) → AreKept c d slot (ls ++ more) list → AreKept c d (slot + length ls) more list
kept_back c d slot [] more list k = let at : slot ≡ slot + 0 = omega arith in subst (λ (s : ℕ). AreKept c d s more list) at k
kept_back c d slot (l ∷ ls) more list k =
    let at : slot + 1 + length ls ≡ slot + suc (length ls) = omega arith in
    subst (λ (s : ℕ). AreKept c d s more list) at (kept_back c d (slot + 1) ls more list k.1)

-- members

module _ (ds : List Decl16) (c d : Cells) (list : ℕ) (small : list < 256) where
  abbrev names : List Known
  names = top_names ds

  abbrev types : List TypeLayout
  types = layouts_of ds

  abbrev value_in : Cells → ℕ → Form → Start → Value
  value_in x n k b = value_from types x n k b

  abbrev members_in : Cells → ℕ → List FieldKind → Start → Value
  members_in x n fields b = member_values (λ k s. value_in x n k s) (λ k s. behind types n k s) fields b

  -- the fields behind, whatever the first one is
  abbrev Keeps : ℕ → List StructField → Start → Type 0
  Keeps n fields b = preserved_in ds list fields (members_in c n (map (struct_field names) fields) b) ≡ members_in d n (map (struct_field names) fields) b

  bits_first : (n : ℕ) (f : StructField) (fields : List StructField) (b : Start) → IsBits f → slot_value d b.slot ≡ cond (is_listed list (lists_of f)) (slot_value c b.slot) 0 → Keeps n fields (moved b 1 0 0) → Keeps n (f ∷ fields) b
  bits_first n f fields b is kept more =
      subst (λ (t : Type16). P (kind_of_type names t)) (sym is.of)
      (ap (λ (m : ℕ). a_member f.name (a_number w m) (preserved_in ds list fields (members_in c n kinds (moved b 1 0 0)))) (sym (field_listed f list (slot_value c b.slot) small) ∙ sym kept)
      ∙ ap (λ (v : Value). a_member f.name (a_number w (slot_value d b.slot)) v) more) where
        kinds : List FieldKind
        kinds = map (struct_field names) fields

        w : ℕ
        w = is.width.value

        P : Kind → Type 0
        P k = preserved_in ds list (f ∷ fields) (a_member f.name (value_in c n (form_of k) b) (members_in c n kinds (behind types n (form_of k) b)))
            ≡ a_member f.name (value_in d n (form_of k) b) (members_in d n kinds (behind types n (form_of k) b))

  bits_kept : (n : ℕ) (fields : List StructField) (b : Start) → All IsBits fields → AreKept c d b.slot (map lists_of fields) list → Keeps n fields b
  bits_kept n [] b all kept = refl
  bits_kept n (f ∷ fields) b all kept =
      bits_first n f fields b (first IsBits f fields all) kept.0 (bits_kept n fields (moved b 1 0 0) (rest IsBits f fields all) kept.1)

  bits_behind : (n : ℕ) (fields : List StructField) (b : Start) → All IsBits fields → behind_members (λ k s. behind types n k s) (map (struct_field names) fields) b ≡ moved b (length fields) 0 0
  bits_behind n [] b all =
      let s : b.slot ≡ b.slot + 0 = omega arith in
      let h : b.header ≡ b.header + 0 = omega arith in
      let k : b.stack ≡ b.stack + 0 = omega arith in
      ap (λ (x : ℕ). record { slot = x; header = b.header; stack = b.stack }) s
      ∙ ap (λ (x : ℕ). record { slot = b.slot + 0; header = x; stack = b.stack }) h
      ∙ ap (λ (x : ℕ). record { slot = b.slot + 0; header = b.header + 0; stack = x }) k
  bits_behind n (f ∷ fields) b all =
      let is = first IsBits f fields all in
      let m : Start = moved b 1 0 0 in
      let s : b.slot + 1 + length fields ≡ b.slot + suc (length fields) = omega arith in
      let h : b.header + 0 + 0 ≡ b.header + 0 = omega arith in
      let k : b.stack + 0 + 0 ≡ b.stack + 0 = omega arith in
      subst (λ (t : Type16). behind_members (λ k s. behind types n k s) (map (struct_field names) fields) (behind types n (form_of (kind_of_type names t)) b) ≡ moved b (suc (length fields)) 0 0) (sym is.of)
      (bits_behind n fields m (rest IsBits f fields all)
      ∙ ap (λ (x : ℕ). record { slot = x; header = b.header + 0 + 0; stack = b.stack + 0 + 0 }) s
      ∙ ap (λ (x : ℕ). record { slot = b.slot + suc (length fields); header = x; stack = b.stack + 0 + 0 }) h
      ∙ ap (λ (x : ℕ). record { slot = b.slot + suc (length fields); header = b.header + 0; stack = x }) k)

  -- a struct is looked into
  through : (n : ℕ) (f : StructField) (fields : List StructField) (kinds : List FieldKind) (b : Start) (v : Value) → preserved_in ds list (f ∷ fields) (a_member f.name (members_in c n kinds b) v) ≡ a_member f.name (preserved_in ds list (fields_of_type ds f.of) (members_in c n kinds b)) (preserved_in ds list fields v)
  through n f fields [] b v = refl
  through n f fields (k ∷ kinds) b v = refl

  inner_first : (n : ℕ) (f : StructField) (fields : List StructField) (b : Start) → (i : IsInner ds f) → AreKept c d b.slot (map lists_of i.fields) list → Keeps (suc n) fields (moved b (length i.fields) 0 0) → Keeps (suc n) (f ∷ fields) b
  inner_first n f fields b i kept more =
      subst P (sym i.kind)
      (subst Q (sym i.is.kinds)
      (through n f fields inner b (members_in c (suc n) kinds after)
      ∙ ap (λ (v : Value). a_member f.name v (preserved_in ds list fields (members_in c (suc n) kinds after)))
      (ap (λ (fs : List StructField). preserved_in ds list fs (members_in c n inner b)) called ∙ bits_kept n i.fields b i.bits kept)
      ∙ ap (λ (v : Value). a_member f.name (members_in d n inner b) v)
      (subst (λ (s : Start). preserved_in ds list fields (members_in c (suc n) kinds s) ≡ members_in d (suc n) kinds s) (sym ends) more))) where
        kinds : List FieldKind
        kinds = map (struct_field names) fields

        inner : List FieldKind
        inner = map (struct_field names) i.fields

        after : Start
        after = behind_members (λ k s. behind types n k s) inner b

        ends : after ≡ moved b (length i.fields) 0 0
        ends = bits_behind n i.fields b i.bits

        called : fields_of_type ds f.of ≡ i.fields
        called = ap (fields_of_type ds) i.of ∙ i.is.called

        P : Kind → Type 0
        P k = preserved_in ds list (f ∷ fields) (a_member f.name (value_in c (suc n) (form_of k) b) (members_in c (suc n) kinds (behind types (suc n) (form_of k) b)))
            ≡ a_member f.name (value_in d (suc n) (form_of k) b) (members_in d (suc n) kinds (behind types (suc n) (form_of k) b))

        Q : List FieldKind → Type 0
        Q ks = preserved_in ds list (f ∷ fields) (a_member f.name (members_in c n ks b) (members_in c (suc n) kinds (behind_members (λ k s. behind types n k s) ks b)))
            ≡ a_member f.name (members_in d n ks b) (members_in d (suc n) kinds (behind_members (λ k s. behind types n k s) ks b))

  lists_first : (f : StructField) → IsBits f → slot_lists ds f ≡ lists_of f ∷ []
  lists_first f is = ap (λ (t : Type16). lists_within ds f t) is.of

  lists_inner : (f : StructField) (i : IsInner ds f) → slot_lists ds f ≡ map lists_of i.fields
  lists_inner f i = ap (λ (t : Type16). lists_within ds f t) i.of ∙ ap (map lists_of) i.is.called

  length_lists : (fields : List StructField) → length (map lists_of fields) ≡ length fields
  length_lists [] = refl
  length_lists (f ∷ fields) = ap suc (length_lists fields)

  fields_kept : (n : ℕ) (fields : List StructField) (b : Start) → All (IsMetadataField ds) fields → AreKept c d b.slot (all_lists ds fields) list → Keeps (suc n) fields b
  fields_kept n [] b all kept = refl
  fields_kept n (f ∷ fields) b all kept =
      by (first (IsMetadataField ds) f fields all) (λ s k. fields_kept n fields s (rest (IsMetadataField ds) f fields all) k) where
        by : IsMetadataField ds f → ((s : Start) → AreKept c d s.slot (all_lists ds fields) list → Keeps (suc n) fields s) → Keeps (suc n) (f ∷ fields) b
        by (inl is) others =
            let both : AreKept c d b.slot (lists_of f ∷ all_lists ds fields) list = subst (λ (ls : List (List ℕ)). AreKept c d b.slot (ls ++ all_lists ds fields) list) (lists_first f is) kept in
            bits_first (suc n) f fields b is both.0 (others (moved b 1 0 0) both.1)
        by (inr i) others =
            let both : AreKept c d b.slot (map lists_of i.fields ++ all_lists ds fields) list = subst (λ (ls : List (List ℕ)). AreKept c d b.slot (ls ++ all_lists ds fields) list) (lists_inner f i) kept in
            let behind_these : AreKept c d (b.slot + length (map lists_of i.fields)) (all_lists ds fields) list = kept_back c d b.slot (map lists_of i.fields) (all_lists ds fields) list both in
            inner_first n f fields b i (kept_front c d b.slot (map lists_of i.fields) (all_lists ds fields) list both)
            (others (moved b (length i.fields) 0 0)
            (subst (λ (m : ℕ). AreKept c d (b.slot + m) (all_lists ds fields) list) (length_lists i.fields) behind_these))

-- the metadata of a frame

pub kept_is : (s : Syntax16) (c : Cells) (lists : List (List ℕ)) (list : ℕ) (kept : List ℕ) → list < 256 → IsMetadata s.decls (metadata_kind s) lists → kept ≡ kept_from c (metadata_start s).slot lists list → (session : ℕ) → kept_value s kept ≡ preserved s (packet_frame s c) (session, list)
kept_is s c lists list kept small m is session =
    ap (kept_value s) is
    ∙ sym (subst (λ (k : Kind). preserved_in ds list (struct_fields ds k) (value_from types c (length types) (form_of k) b) ≡ value_from types d (length types) (form_of k) b) (sym m.kind) whole) where
      ds : List Decl16
      ds = s.decls

      types : List TypeLayout
      types = layouts_of ds

      b : Start
      b = metadata_start s

      numbers : List ℕ
      numbers = kept_from c b.slot lists list

      d : Cells
      d = numbers_from b.slot numbers

      reads : (j : ℕ) → slot_value d (b.slot + j) ≡ get_or numbers j 0
      reads j =
          let at : b.slot + j - b.slot ≡ j = omega arith in
          numbers_at b.slot (b.slot + j) numbers (omega arith) ∙ ap (λ (i : ℕ). get_or numbers i 0) at

      kept_there : AreKept c d b.slot (all_lists ds m.fields) list
      kept_there = subst (λ (ls : List (List ℕ)). AreKept c d b.slot ls list) m.lists_are (are_kept c d b.slot lists list reads)

      depth : length types ≡ suc (suc (length types - 2))
      depth = omega (arith, m.deep)

      at_depth : (n : ℕ) → preserved_in ds list (struct_called ds m.text) (value_from types c (suc (suc n)) (struct_form m.text) b) ≡ value_from types d (suc (suc n)) (struct_form m.text) b
      at_depth n =
          subst (λ (ks : List FieldKind). preserved_in ds list (struct_called ds m.text) (member_values (λ k t. value_from types c (suc n) k t) (λ k t. behind types (suc n) k t) ks b) ≡ member_values (λ k t. value_from types d (suc n) k t) (λ k t. behind types (suc n) k t) ks b) (sym m.is.kinds)
          (ap (λ (fs : List StructField). preserved_in ds list fs (member_values (λ k t. value_from types c (suc n) k t) (λ k t. behind types (suc n) k t) (map (struct_field (top_names ds)) m.fields) b)) m.is.called
          ∙ fields_kept ds c d list small n m.fields b m.each kept_there)

      whole : preserved_in ds list (struct_called ds m.text) (value_from types c (length types) (struct_form m.text) b) ≡ value_from types d (length types) (struct_form m.text) b
      whole = subst (λ (n : ℕ). preserved_in ds list (struct_called ds m.text) (value_from types c n (struct_form m.text) b) ≡ value_from types d n (struct_form m.text) b) (sym depth) (at_depth (length types - 2))

pub kept_fits_at : (s : Syntax16) (c : Cells) (slots : Slots) (lists : List (List ℕ)) (list : ℕ) (kept : List ℕ) → IsFrameOf s c → AreSlots (metadata_start s) (standard_start s) slots → slots.to ≡ slots.from + length lists → kept ≡ kept_from c slots.from lists list → AreFitting (layout16 s).widths (metadata_start s).slot kept
kept_fits_at s c slots lists list kept is are count made =
    subst (λ (k : List ℕ). AreFitting (layout16 s).widths (metadata_start s).slot k) (sym made)
    (subst (λ (n : ℕ). AreFitting (layout16 s).widths n (kept_from c slots.from lists list)) are.from
    (subst (λ (l : Layout). AreFitting l.widths slots.from (kept_from c slots.from lists list)) is.layout
    (kept_fits c slots.from lists list is.whole there))) where
      there : (slot : ℕ) → slots.from ≤ slot → slot < slots.from + length lists → slot < length c.layout.widths
      there slot le lt =
          let here : IsSlot (layout16 s) slot None = metadata_lone s slots are slot le (omega (arith, lt, count)) in
          subst (λ (l : Layout). slot < length l.widths) (sym is.layout) here.within
