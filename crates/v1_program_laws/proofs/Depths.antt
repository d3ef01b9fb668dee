-- Where no struct holds itself, as many structs within each other are seen as there are types: what is seen of a struct is all
-- of it.
use Rattle.std.proofs.Common.{◌≡◌, ◌⊎◌, inl, inr, ℕ, zero, suc, ◌+◌, ◌≤◌, Bool, true, false, ◌||◌, cond, Some, None, List, [], ◌∷◌, length, map, refl, sym, ap, ◌∙◌, subst, arith}
use Rattle.std.specs.Prelude.{slice_get, flat_map, sum_by}
use Rattle.std.specs.Str.{bytes_eq}
use Rattle.std.specs.Cmp.{IsEquivalence}
use Rattle.std.specs.List.{list_any, IsDistinct, AllByRecursion}
use Rattle.std.proofs.lemmas.Slice.Eq.{bytes_eq-Decides}
use Rattle.std.proofs.lemmas.Map.Made.{length-le_from_is_member}
use Rattle.std.proofs.lemmas.List.{length-map, length-append}
use Rattle.std.proofs.lemmas.List.Sums.{sum_by-cons}
use Rattle.digraph.specs.Graphs.{Among, IsEdge, Edge, Onward, Walk, Reaches, OnCycle}
use Rattle.p416_syntax.specs.declared.parts.Struct16.{Struct16}
use Rattle.p416_syntax.specs.declared.program.Decl16.{Decl16}
use Rattle.p416_syntax.specs.declared.program.Decl16.TheVariants as decl
use Rattle.p416_syntax.specs.Names.{Name, has_name}
use Rattle.p416_syntax.specs.Kinds.{Kind, bits, unsized, boolean, error_code, header, stack, struct, packet_in, packet_out, errors, enumeration, one_of, table, applied, object, items, nothing, unknown, is_struct}
use Rattle.p416_syntax.specs.Scopes.{Known, called_of, Layout as TypeLayout, FieldKind, fields_in}
use Rattle.p416_syntax.specs.BuiltIn.{standard, standard_name, standard_layout, built_in}
use Rattle.p416_syntax.specs.Declarations.{top_names, bit_field, layout_in, layouts_of}
use Rattle.p416_syntax.specs.Unknown.{declares_twice, declared_name, declaration_number, struct_graph}
use Rattle.p416_names.specs.internal.Tables.{fields_of}
use Rattle.p416_type_totals.proofs.Deepening.{held_at}
use Rattle.p416_type_totals.proofs.Finding.{IsDeclared, IsUndeclared, finds, own_fields, not_built_in, same_name}
use Rattle.p416_type_totals.proofs.Agreeing.{are_plain, plain_agree, bits_agree, decl_agrees}

-- walks behind each other

walk_on : (g : List (List ℕ)) (b c a : ℕ) → Walk g a b → Walk g b c → Walk g a c
walk_on g b c a (Edge e h) more = Onward a b h more
walk_on g b c a (Onward e d h rest) more = Onward a d h (walk_on g b c d rest more)

reach_by : (g : List (List ℕ)) (a b c : ℕ) → Reaches g a b → IsEdge g b c → Reaches g a c
reach_by g a b c (inl e) edge = inr (Edge a (subst (λ (x : ℕ). IsEdge g x c) (sym e) edge))
reach_by g a b c (inr walk) edge = inr (walk_on g b c a walk (Edge b edge))

-- how many structs are cut off, where so many within each other are seen
abbrev pub cut_off : List TypeLayout → ℕ → Kind → ℕ
cut_off types zero (struct type) = 1
cut_off types (suc n) (struct type) = sum_by (λ f. cut_off types n f.kind) (fields_in types type)
cut_off types n _ = 0

module _ (ds : List Decl16) (once : declares_twice ds ≡ false) (acyclic : (a : ℕ) → OnCycle (struct_graph ds) a → ⊥) where
  abbrev types : List TypeLayout
  types = layouts_of ds

  abbrev graph : List (List ℕ)
  graph = struct_graph ds

  -- the types that are declared
  abbrev pub declared : List TypeLayout
  declared = flat_map (layout_in (top_names ds)) ds

  distinct_more : (text : Name) (texts : List Name) → AllByRecursion (λ y. bytes_eq text y ≡ false) texts → IsDistinct bytes_eq texts → IsDistinct bytes_eq (text ∷ texts)
  unfolding IsDistinct
  distinct_more text texts others apart = (others, apart)

  alone : (text : Name) → IsDistinct bytes_eq (text ∷ [])
  unfolding IsDistinct
  alone text = (_, _)

  abbrev names_of : List TypeLayout → List Name
  names_of layouts = map (λ l. l.called) layouts

  -- a struct that was seen on the way to this one
  record Seen (i : ℕ) (text : Name) : Type 0 where
    number : ℕ
    of : Struct16
    there : slice_get ds number ≡ Some (decl.Struct of)
    named : of.name ≡ text
    own : declaration_number ds text ≡ Some number
    reach : Reaches (struct_graph ds) number i

  abbrev AllSeen : ℕ → List Name → Type 0
  AllSeen i [] = Unit {0}
  AllSeen i (text ∷ rest) = Seen i text × AllSeen i rest

  onward : (i j : ℕ) (texts : List Name) → IsEdge (struct_graph ds) i j → AllSeen i texts → AllSeen j texts
  onward i j [] edge h = tt
  onward i j (text ∷ rest) edge h = (
    record {
      number = h.0.number;
      of = h.0.of;
      there = h.0.there;
      named = h.0.named;
      own = h.0.own;
      reach = reach_by (struct_graph ds) h.0.number i j h.0.reach edge;
    },
    onward i j rest edge h.1,
  )

  -- none that was seen is held
  no_cycle : (i j : ℕ) → IsEdge (struct_graph ds) i j → Reaches (struct_graph ds) j i → ⊥
  no_cycle i j edge (inl same) = acyclic i (Edge i (subst (λ (k : ℕ). IsEdge (struct_graph ds) i k) same edge))
  no_cycle i j edge (inr walk) = acyclic j (walk_on (struct_graph ds) i j j walk (Edge i edge))

  other : (i j : ℕ) (held text : Name) → IsEdge (struct_graph ds) i j → declaration_number ds held ≡ Some j → Seen i text → bytes_eq held text ≡ false
  other i j held text edge at seen = by (bytes_eq held text) refl where
    by : (t : Bool) → bytes_eq held text ≡ t → bytes_eq held text ≡ false
    by false e = e
    by true e =
        let same : held ≡ text = same_name held text e in
        let numbers : Some seen.number ≡ Some j = sym seen.own ∙ (ap (declaration_number ds) (sym same) ∙ at) in
        let number : seen.number ≡ j = cc numbers in
        absurd (no_cycle i j edge (subst (λ (k : ℕ). Reaches (struct_graph ds) k i) number seen.reach))

  others : (i j : ℕ) (held : Name) (texts : List Name) → IsEdge (struct_graph ds) i j → declaration_number ds held ≡ Some j → AllSeen i texts → AllByRecursion (λ y. bytes_eq held y ≡ false) texts
  others i j held [] edge at seen = _
  others i j held (text ∷ rest) edge at seen = (other i j held text edge at seen.0, others i j held rest edge at seen.1)

  -- there are no more of them than types

  equal_names : IsEquivalence bytes_eq
  equal_names = record {
    refl = λ x. (bytes_eq-Decides x x).1 refl;
    symm = λ x y. symmetric x y (bytes_eq x y) (bytes_eq y x) refl refl;
    congr = λ x y z e. ap (λ (n : Name). bytes_eq n z) (same_name x y e);
  } where
    symmetric : (x y : Name) (t u : Bool) → bytes_eq x y ≡ t → bytes_eq y x ≡ u → bytes_eq x y ≡ bytes_eq y x
    symmetric x y true u e f = e ∙ sym (ap (λ (n : Name). bytes_eq n x) (sym (same_name x y e)) ∙ (bytes_eq-Decides x x).1 refl)
    symmetric x y false true e f = absurd (cc (sym e ∙ (ap (λ (n : Name). bytes_eq x n) (same_name y x f) ∙ (bytes_eq-Decides x x).1 refl)))
    symmetric x y false false e f = e ∙ sym f

  or_right : (a b : Bool) → b ≡ true → (a || b) ≡ true
  or_right true b e = refl
  or_right false b e = e

  among : (names : List Known) (all : List Decl16) (i : ℕ) (x : Struct16) → slice_get all i ≡ Some (decl.Struct x) → list_any (bytes_eq x.name) (names_of (flat_map (layout_in names) all)) ≡ true
  among names [] i x there = absurd (never there) where
    never : None ≡ Some (decl.Struct x) → ⊥
    never h = cc
  among names (d ∷ all) zero x there = subst (λ (e : Decl16). list_any (bytes_eq x.name) (names_of (flat_map (layout_in names) (e ∷ all))) ≡ true) (sym (some_is there)) (ap (λ (t : Bool). t || list_any (bytes_eq x.name) (names_of (flat_map (layout_in names) all))) ((bytes_eq-Decides x.name x.name).1 refl)) where
    some_is : Some d ≡ Some (decl.Struct x) → d ≡ decl.Struct x
    some_is h = cc
  among names (decl.Header h ∷ all) (suc i) x there = or_right (bytes_eq x.name h.name) _ (among names all i x there)
  among names (decl.Struct y ∷ all) (suc i) x there = or_right (bytes_eq x.name y.name) _ (among names all i x there)
  among names (decl.Instance notes y ∷ all) (suc i) x there = among names all i x there
  among names (decl.Parser p ∷ all) (suc i) x there = among names all i x there
  among names (decl.Control c ∷ all) (suc i) x there = among names all i x there

  member : (i : ℕ) (texts : List Name) → AllSeen i texts → (q : Name) → list_any (bytes_eq q) texts ≡ true → list_any (bytes_eq q) (names_of declared) ≡ true
  member i [] seen q e = absurd (cc e)
  member i (text ∷ rest) seen q e = by (bytes_eq q text) refl (member i rest seen.1 q) e where
    by : (t : Bool) → bytes_eq q text ≡ t → (list_any (bytes_eq q) rest ≡ true → list_any (bytes_eq q) (names_of declared) ≡ true) → (t || list_any (bytes_eq q) rest) ≡ true → list_any (bytes_eq q) (names_of declared) ≡ true
    by true is further f =
        subst (λ (n : Name). list_any (bytes_eq n) (names_of declared) ≡ true) (seen.0.named ∙ sym (same_name q text is))
        (among (top_names ds) ds seen.0.number seen.0.of seen.0.there)
    by false is further f = further f

  at_most : (i : ℕ) (texts : List Name) → AllSeen i texts → IsDistinct bytes_eq texts → length texts ≤ length declared
  at_most i texts seen apart =
      let le : length texts ≤ length (names_of declared) = length-le_from_is_member equal_names texts (names_of declared) apart (member i texts seen) in
      let many : length (names_of declared) ≡ length declared = length-map declared (λ l. l.called) in
      omega (arith, le, many)

  -- nothing is cut off

  plain_none : (n : ℕ) (k : Kind) → is_struct k ≡ false → cut_off types n k ≡ 0
  plain_none zero (bits width) e = refl
  plain_none zero unsized e = refl
  plain_none zero boolean e = refl
  plain_none zero error_code e = refl
  plain_none zero (header type) e = refl
  plain_none zero (stack type size) e = refl
  plain_none zero (struct type) e = absurd (cc e)
  plain_none zero packet_in e = refl
  plain_none zero packet_out e = refl
  plain_none zero errors e = refl
  plain_none zero (enumeration enum) e = refl
  plain_none zero (one_of enum) e = refl
  plain_none zero table e = refl
  plain_none zero applied e = refl
  plain_none zero (object obj) e = refl
  plain_none zero items e = refl
  plain_none zero nothing e = refl
  plain_none zero unknown e = refl
  plain_none (suc n) (bits width) e = refl
  plain_none (suc n) unsized e = refl
  plain_none (suc n) boolean e = refl
  plain_none (suc n) error_code e = refl
  plain_none (suc n) (header type) e = refl
  plain_none (suc n) (stack type size) e = refl
  plain_none (suc n) (struct type) e = absurd (cc e)
  plain_none (suc n) packet_in e = refl
  plain_none (suc n) packet_out e = refl
  plain_none (suc n) errors e = refl
  plain_none (suc n) (enumeration enum) e = refl
  plain_none (suc n) (one_of enum) e = refl
  plain_none (suc n) table e = refl
  plain_none (suc n) applied e = refl
  plain_none (suc n) (object obj) e = refl
  plain_none (suc n) items e = refl
  plain_none (suc n) nothing e = refl
  plain_none (suc n) unknown e = refl

  nothing_of : (fields : List FieldKind) → sum_by (λ (f : FieldKind). 0) fields ≡ 0
  nothing_of [] = refl
  nothing_of (f ∷ fields) = let more = sum_by-cons (λ (g : FieldKind). 0) f fields in let rest = nothing_of fields in omega (arith, more, rest)

  -- the standard metadata isn't declared

  pub standard_fields : fields_in (layouts_of ds) standard_name ≡ standard_layout.fields
  standard_fields = by (finds ds built_in standard_name) where
    by : IsDeclared ds built_in standard_name ⊎ IsUndeclared ds built_in standard_name → fields_in (layouts_of ds) standard_name ≡ standard_layout.fields
    by (inr u) = u.fields (top_names ds) (standard_layout ∷ [])
    by (inl f) = absurd (never (subst (λ (text : Name). has_name (map called_of built_in) text ≡ false) (sym (same_name standard_name (declared_name f.of) f.named)) (not_built_in ds f.number f.of once f.there))) where
      never : has_name (map called_of built_in) standard_name ≡ false → ⊥
      never h = cc

  standard_none : (n : ℕ) → cut_off types (suc n) standard ≡ 0
  standard_none n = ap (sum_by (λ f. cut_off types n f.kind)) standard_fields ∙ (plain_agree (cut_off types n) (λ k. 0) (plain_none n) standard_layout.fields refl ∙ nothing_of standard_layout.fields)

  seen_all : (n i : ℕ) (x : Struct16) (texts : List Name) → slice_get ds i ≡ Some (decl.Struct x) → declaration_number ds x.name ≡ Some i → AllSeen i (x.name ∷ texts) → IsDistinct bytes_eq (x.name ∷ texts) → suc (suc (length declared)) ≤ n + length (x.name ∷ texts) → cut_off types n (struct x.name) ≡ 0
  seen_all zero i x texts there own seen apart enough =
      let most = at_most i (x.name ∷ texts) seen apart in absurd (omega (arith, most, enough))
  seen_all (suc zero) i x texts there own seen apart enough =
      let most = at_most i (x.name ∷ texts) seen apart in absurd (omega (arith, most, enough))
  seen_all (suc (suc n)) i x texts there own seen apart enough =
      ap (sum_by (λ f. cut_off types (suc n) f.kind)) (own_fields ds i (decl.Struct x) once there)
      ∙ (decl_agrees ds (cut_off types (suc n)) (λ k. 0) (plain_none (suc n)) (standard_none n) (decl.Struct x)
      (λ j y held at name.
      let edge : IsEdge (struct_graph ds) i j = subst (Among j) (sym (held_at ds ds i (decl.Struct x) there)) held in
      seen_all (suc n) j y (x.name ∷ texts) at name
      (record { number = j; of = y; there = at; named = refl; own = name; reach = inl refl }, onward i j (x.name ∷ texts) edge seen)
      (distinct_more y.name (x.name ∷ texts) (others i j y.name (x.name ∷ texts) edge name seen) apart) (omega (arith, enough)))
      ∙ nothing_of (fields_of (top_names ds) (decl.Struct x)))

  -- of a declaration with all that it holds
  decl_none : (text : Name) (f : IsDeclared ds built_in text) → sum_by (λ g. cut_off types (length declared) g.kind) (fields_of (top_names ds) f.of) ≡ 0
  decl_none text f = by f.of f.there refl where
    by : (d : Decl16) → slice_get ds f.number ≡ Some d → f.of ≡ d → sum_by (λ g. cut_off types (length declared) g.kind) (fields_of (top_names ds) d) ≡ 0
    by (decl.Header h) there is = bits_agree (cut_off types (length declared)) (λ k. 0) (plain_none (length declared)) h.fields ∙ nothing_of (map bit_field h.fields)
    by (decl.Struct x) there is =
        let named : x.name ≡ text = ap declared_name (sym is) ∙ sym (same_name text (declared_name f.of) f.named) in
        let own : declaration_number ds x.name ≡ Some f.number = ap (declaration_number ds) named ∙ f.at in
        sym (ap (sum_by (λ g. cut_off types (length declared) g.kind)) (own_fields ds f.number (decl.Struct x) once there))
        ∙ seen_all (suc (length declared)) f.number x [] there own
        (record { number = f.number; of = x; there = there; named = refl; own = own; reach = inl refl }, tt) (alone x.name) (omega arith)
    by (decl.Instance notes y) there is = refl
    by (decl.Parser p) there is = refl
    by (decl.Control c) there is = refl

  all_none : (text : Name) → cut_off types (suc (length declared)) (struct text) ≡ 0
  all_none text = by (finds ds built_in text) where
    undeclared_plain : (b : Bool) → are_plain (cond b standard_layout.fields []) ≡ true
    undeclared_plain true = refl
    undeclared_plain false = refl

    by : IsDeclared ds built_in text ⊎ IsUndeclared ds built_in text → cut_off types (suc (length declared)) (struct text) ≡ 0
    by (inl f) =
        ap (sum_by (λ g. cut_off types (length declared) g.kind)) (ap (fields_in (layouts_of ds)) (same_name text (declared_name f.of) f.named) ∙ own_fields ds f.number f.of once f.there)
        ∙ decl_none text f
    by (inr u) =
        ap (sum_by (λ g. cut_off types (length declared) g.kind)) (u.fields (top_names ds) (standard_layout ∷ []))
        ∙ (plain_agree (cut_off types (length declared)) (λ k. 0) (plain_none (length declared)) (fields_in (standard_layout ∷ []) text) (undeclared_plain (bytes_eq standard_name text))
        ∙ nothing_of (fields_in (standard_layout ∷ []) text))

  types_are : length (layouts_of ds) ≡ suc (length declared)
  types_are = length-append (flat_map (layout_in (top_names ds)) ds) (standard_layout ∷ []) ∙ one_more (length declared) where
    one_more : (n : ℕ) → n + 1 ≡ suc n
    one_more n = omega arith

  pub none_cut : (text : Name) → cut_off (layouts_of ds) (length (layouts_of ds)) (struct text) ≡ 0
  none_cut text = subst (λ (n : ℕ). cut_off (layouts_of ds) n (struct text) ≡ 0) (sym types_are) (all_none text)
