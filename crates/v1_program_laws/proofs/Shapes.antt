-- Parts of one form that stand in a frame are seen to the same extent.
use Rattle.std.proofs.Common.{◌≡◌, inl, inr, ℕ, zero, suc, ◌+◌, Bool, true, false, cond, Option, Some, None, IfSome, List, [], ◌∷◌, length, refl, sym, ap, ◌∙◌, subst, arith}
use Rattle.std.specs.Prelude.{sum_by, ◌||◌}
use Rattle.std.specs.List.{list_any}
use Rattle.std.specs.Str.{bytes_eq}
use Rattle.std.proofs.lemmas.List.Sums.{sum_by-cons}
use Rattle.digraph.specs.Graphs.{OnCycle}
use Rattle.p416_syntax.specs.declared.program.Syntax16.{Syntax16}
use Rattle.p416_syntax.specs.Names.{Name}
use Rattle.p416_syntax.specs.Kinds.{Kind, bits, unsized, boolean, error_code, header, stack, struct, packet_in, packet_out, errors, enumeration, one_of, table, applied, object, items, nothing, unknown}
use Rattle.p416_syntax.specs.Scopes.{Layout as TypeLayout, FieldKind, fields_in}
use Rattle.p416_syntax.specs.Declarations.{layouts_of}
use Rattle.p416_syntax.specs.Unknown.{declares_twice, struct_graph}
use Rattle.p416_syntax.specs.Breaks.{BreaksNone, program_rules, is_no_block, IsBroken}
use Rattle.v1_core.specs.Values.{Value, a_member, Step, to_member, to_element}
use Rattle.v1_core.specs.Slots.{FramePart}
use Rattle.v1_core.specs.Layouts.{Layout}
use Rattle.v1_core.specs.Cells.{Cells}
use Rattle.v1_core.specs.Seats.{Form, slot_form, header_form, stack_form, struct_form, no_form, form_of, Start, moved, behind_members, behind, Seat, seat, member_seat, field_form, field_seat, element_seat, stepped_seat, seat_behind, seat_at}
use Rattle.v1_core.specs.PackedValues.{member_values, value_from}
use Rattle.v1_core.specs.Laid.{AreMembers, IsLaid}
use Rattle.v1_core.specs.Programs.{frame_kinds, first_start, seat_in, owner_number, owner_seat, part_seat}
use Rattle.v1_core.proofs.Reading.{by_truth}
use Rattle.v1_ready_laws.specs.Widths.{IsWide}
use Rattle.v1_deed_laws.specs.Forms.{OneForm}
use Rattle.v1_program_laws.specs.SourceLaws.{AllOne}
use Rattle.v1_program_laws.proofs.Depths.{cut_off, none_cut}

-- nothing of a value of this form is cut off
abbrev pub IsAll : List TypeLayout → ℕ → Form → Type 0
IsAll types n (struct_form type) = cut_off types n (struct type) ≡ 0
IsAll types n form = Unit {0}

none_first : (a b c : ℕ) → c ≡ a + b → c ≡ 0 → (a ≡ 0) × (b ≡ 0)
none_first a b c is e = (omega (arith, is, e), omega (arith, is, e))

module _ (types : List TypeLayout) where
  abbrev cut_in : ℕ → List FieldKind → ℕ
  cut_in n fields = sum_by (λ f. cut_off types n f.kind) fields

  of_kind : (n : ℕ) (k : Kind) → cut_off types n k ≡ 0 → IsAll types n (form_of k)
  of_kind n (bits width) e = tt
  of_kind n unsized e = tt
  of_kind n boolean e = tt
  of_kind n error_code e = tt
  of_kind n (header type) e = tt
  of_kind n (stack type size) e = tt
  of_kind n (struct type) e = e
  of_kind n packet_in e = tt
  of_kind n packet_out e = tt
  of_kind n errors e = tt
  of_kind n (enumeration enum) e = tt
  of_kind n (one_of enum) e = tt
  of_kind n table e = tt
  of_kind n applied e = tt
  of_kind n (object obj) e = tt
  of_kind n items e = tt
  of_kind n nothing e = tt
  of_kind n unknown e = tt

  first_none : (n : ℕ) (f : FieldKind) (fields : List FieldKind) → cut_in n (f ∷ fields) ≡ 0 → IsAll types n (form_of f.kind) × (cut_in n fields ≡ 0)
  first_none n f fields e =
      let two = none_first (cut_off types n f.kind) (cut_in n fields) (cut_in n (f ∷ fields)) (sum_by-cons (λ g. cut_off types n g.kind) f fields) e in
      (of_kind n f.kind two.0, two.1)

  -- two depths at which all is seen see the same

  ends_same : (n m : ℕ) (f : Form) (b : Start) → IsAll types n f → IsAll types m f → behind types n f b ≡ behind types m f b
  ends_same n m (slot_form of) b x y = refl
  ends_same n m (header_form type) b x y = refl
  ends_same n m (stack_form type size) b x y = refl
  ends_same zero m (struct_form type) b x y = absurd (cc x)
  ends_same (suc n) zero (struct_form type) b x y = absurd (cc y)
  ends_same (suc n) (suc m) (struct_form type) b x y = members (fields_in types type) b x y (λ f a p q. ends_same n m f a p q) where
    members : (fields : List FieldKind) (a : Start) → cut_in n fields ≡ 0 → cut_in m fields ≡ 0 → ((f : Form) (s : Start) → IsAll types n f → IsAll types m f → behind types n f s ≡ behind types m f s) → behind_members (λ k s. behind types n k s) fields a ≡ behind_members (λ k s. behind types m k s) fields a
    members [] a p q rest = refl
    members (f ∷ fields) a p q rest =
        let u = first_none n f fields p in
        let v = first_none m f fields q in
        members fields (behind types n (form_of f.kind) a) u.1 v.1 rest
        ∙ ap (behind_members (λ k s. behind types m k s) fields) (rest (form_of f.kind) a u.0 v.0)
  ends_same n m no_form b x y = refl

  value_same : (c : Cells) (n m : ℕ) (f : Form) (b : Start) → IsAll types n f → IsAll types m f → value_from types c n f b ≡ value_from types c m f b
  value_same c n m (slot_form of) b x y = refl
  value_same c n m (header_form type) b x y = refl
  value_same c n m (stack_form type size) b x y = refl
  value_same c zero m (struct_form type) b x y = absurd (cc x)
  value_same c (suc n) zero (struct_form type) b x y = absurd (cc y)
  value_same c (suc n) (suc m) (struct_form type) b x y = members (fields_in types type) b x y (λ f a p q. value_same c n m f a p q) where
    members : (fields : List FieldKind) (a : Start) → cut_in n fields ≡ 0 → cut_in m fields ≡ 0 → ((f : Form) (s : Start) → IsAll types n f → IsAll types m f → value_from types c n f s ≡ value_from types c m f s) → member_values (λ k s. value_from types c n k s) (λ k s. behind types n k s) fields a ≡ member_values (λ k s. value_from types c m k s) (λ k s. behind types m k s) fields a
    members [] a p q rest = refl
    members (f ∷ fields) a p q rest =
        let u = first_none n f fields p in
        let v = first_none m f fields q in
        ap (λ (w : Value). a_member f.called w (member_values (λ k s. value_from types c n k s) (λ k s. behind types n k s) fields (behind types n (form_of f.kind) a))) (rest (form_of f.kind) a u.0 v.0)
        ∙ (ap (λ (w : Value). a_member f.called (value_from types c m (form_of f.kind) a) w) (members fields (behind types n (form_of f.kind) a) u.1 v.1 rest)
        ∙ ap (λ (s : Start). a_member f.called (value_from types c m (form_of f.kind) a) (member_values (λ k t. value_from types c m k t) (λ k t. behind types m k t) fields s)) (ends_same n m (form_of f.kind) a u.0 v.0))
  value_same c n m no_form b x y = refl

  laid_same : (l : Layout) (n m : ℕ) (f : Form) (b : Start) → IsAll types n f → IsAll types m f → IsLaid l types n f b → IsLaid l types m f b
  laid_same l n m (slot_form of) b x y h = h
  laid_same l n m (header_form type) b x y h = h
  laid_same l n m (stack_form type size) b x y h = h
  laid_same l zero m (struct_form type) b x y h = absurd (cc x)
  laid_same l (suc n) zero (struct_form type) b x y h = absurd (cc y)
  laid_same l (suc n) (suc m) (struct_form type) b x y h = members (fields_in types type) b x y (λ f a p q g. laid_same l n m f a p q g) h where
    members : (fields : List FieldKind) (a : Start) → cut_in n fields ≡ 0 → cut_in m fields ≡ 0 → ((f : Form) (s : Start) → IsAll types n f → IsAll types m f → IsLaid l types n f s → IsLaid l types m f s) → AreMembers (λ k s. IsLaid l types n k s) (λ k s. behind types n k s) fields a → AreMembers (λ k s. IsLaid l types m k s) (λ k s. behind types m k s) fields a
    members [] a p q rest h = tt
    members (f ∷ fields) a p q rest h =
        let u = first_none n f fields p in
        let v = first_none m f fields q in (
          rest (form_of f.kind) a u.0 v.0 h.0,
          subst (AreMembers (λ k s. IsLaid l types m k s) (λ k s. behind types m k s) fields) (ends_same n m (form_of f.kind) a u.0 v.0) (members fields (behind types n (form_of f.kind) a) u.1 v.1 rest h.1),
        )
  laid_same l n m no_form b x y h = h

  wide_same : (l : Layout) (n m : ℕ) (f : Form) (b : Start) → IsAll types n f → IsAll types m f → IsWide l types n f b → IsWide l types m f b
  wide_same l n m (slot_form of) b x y h = h
  wide_same l n m (header_form type) b x y h = h
  wide_same l n m (stack_form type size) b x y h = h
  wide_same l zero m (struct_form type) b x y h = absurd (cc x)
  wide_same l (suc n) zero (struct_form type) b x y h = absurd (cc y)
  wide_same l (suc n) (suc m) (struct_form type) b x y h = members (fields_in types type) b x y (λ f a p q g. wide_same l n m f a p q g) h where
    members : (fields : List FieldKind) (a : Start) → cut_in n fields ≡ 0 → cut_in m fields ≡ 0 → ((f : Form) (s : Start) → IsAll types n f → IsAll types m f → IsWide l types n f s → IsWide l types m f s) → AreMembers (λ k s. IsWide l types n k s) (λ k s. behind types n k s) fields a → AreMembers (λ k s. IsWide l types m k s) (λ k s. behind types m k s) fields a
    members [] a p q rest h = tt
    members (f ∷ fields) a p q rest h =
        let u = first_none n f fields p in
        let v = first_none m f fields q in (
          rest (form_of f.kind) a u.0 v.0 h.0,
          subst (AreMembers (λ k s. IsWide l types m k s) (λ k s. behind types m k s) fields) (ends_same n m (form_of f.kind) a u.0 v.0) (members fields (behind types n (form_of f.kind) a) u.1 v.1 rest h.1),
        )
  wide_same l n m no_form b x y h = h

  one_of_both : (t u : Seat) → IsAll types t.depth t.form → IsAll types u.depth u.form → u.form ≡ t.form → OneForm types t u
  one_of_both t u x y is = record {
    form = is;
    ends = ap (λ (f : Form). behind types u.depth f u.start) is ∙ sym (ends_same t.depth u.depth t.form u.start x z);
    value = λ c b. value_same c t.depth u.depth t.form b x z ∙ ap (λ (f : Form). value_from types c u.depth f b) (sym is);
    laid = λ l b h. laid_same l u.depth t.depth t.form b z x (subst (λ (f : Form). IsLaid l types u.depth f b) is h);
    wide = λ l b h. wide_same l u.depth t.depth t.form b z x (subst (λ (f : Form). IsWide l types u.depth f b) is h);
  } where
    z : IsAll types u.depth t.form
    z = subst (IsAll types u.depth) is y

  -- all is seen of each part

  field_all : (owner n : ℕ) (fields : List FieldKind) (b : Start) (word : Name) → IfSome (field_seat owner n fields b word) (λ u. IsAll types u.depth u.form)
  field_all owner n [] b word = tt
  field_all owner n (f ∷ fields) b word =
      by_truth (λ (same : Bool). IfSome (cond same (Some (record { depth = n; form = field_form f; start = b; owner = Some owner })) (field_seat owner n fields (moved b 1 0 0) word)) (λ u. IsAll types u.depth u.form))
      tt (field_all owner n fields (moved b 1 0 0) word) (bytes_eq f.called word)

  element_all : (n : ℕ) (type : Name) (fields size : ℕ) (b : Start) (number : ℕ) → IfSome (element_seat n type fields size b number) (λ u. IsAll types u.depth u.form)
  element_all n type fields zero b number = tt
  element_all n type fields (suc size) b zero = tt
  element_all n type fields (suc size) b (suc number) = element_all n type fields size (moved b fields 1 0) number

  member_all : (n : ℕ) (fields : List FieldKind) (b : Start) (word : Name) → cut_in n fields ≡ 0 → IfSome (member_seat (λ k s. behind types n k s) n fields b word) (λ u. IsAll types u.depth u.form)
  member_all n [] b word e = tt
  member_all n (f ∷ fields) b word e =
      let two = first_none n f fields e in
      by_truth (λ (same : Bool). IfSome (cond same (Some (seat n (form_of f.kind) b)) (member_seat (λ k s. behind types n k s) n fields (behind types n (form_of f.kind) b) word)) (λ u. IsAll types u.depth u.form))
      two.0 (member_all n fields (behind types n (form_of f.kind) b) word two.1) (bytes_eq f.called word)

  step_all : (n : ℕ) (f : Form) (b : Start) (step : Step) → IsAll types n f → IfSome (stepped_seat types n f b step) (λ u. IsAll types u.depth u.form)
  step_all n (slot_form of) b (to_member word) h = tt
  step_all n (slot_form of) b (to_element number) h = tt
  step_all n (header_form type) b (to_member word) h = field_all b.header n (fields_in types type) b word
  step_all n (header_form type) b (to_element number) h = tt
  step_all n (stack_form type size) b (to_member word) h = tt
  step_all n (stack_form type size) b (to_element number) h = element_all n type (length (fields_in types type)) size b number
  step_all zero (struct_form type) b (to_member word) h = tt
  step_all zero (struct_form type) b (to_element number) h = tt
  step_all (suc n) (struct_form type) b (to_member word) h = member_all n (fields_in types type) b word h
  step_all (suc n) (struct_form type) b (to_element number) h = tt
  step_all n no_form b (to_member word) h = tt
  step_all n no_form b (to_element number) h = tt

  path_all : (path : List Step) (t : Seat) → IsAll types t.depth t.form → IfSome (seat_at types path t) (λ u. IsAll types u.depth u.form)
  path_all [] t h = h
  path_all (step ∷ path) t h = by (stepped_seat types t.depth t.form t.start step) (step_all t.depth t.form t.start step h) (λ u g. path_all path u g) where
    by : (o : Option Seat) → IfSome o (λ u. IsAll types u.depth u.form) → ((u : Seat) → IsAll types u.depth u.form → IfSome (seat_at types path u) (λ v. IsAll types v.depth v.form)) → IfSome (seat_behind (λ u. seat_at types path u) o) (λ v. IsAll types v.depth v.form)
    by None g rest = tt
    by (Some u) g rest = rest u g

  whole_all : ((text : Name) → cut_off types (length types) (struct text) ≡ 0) → (f : Form) → IsAll types (length types) f
  whole_all none (slot_form of) = tt
  whole_all none (header_form type) = tt
  whole_all none (stack_form type size) = tt
  whole_all none (struct_form type) = none type
  whole_all none no_form = tt

  kinds_all : ((text : Name) → cut_off types (length types) (struct text) ≡ 0) → (kinds : List Kind) (b : Start) (number : ℕ) → IfSome (seat_in types kinds b number) (λ u. IsAll types u.depth u.form)
  kinds_all none [] b number = tt
  kinds_all none (k ∷ kinds) b zero = whole_all none (form_of k)
  kinds_all none (k ∷ kinds) b (suc number) = kinds_all none kinds (behind types (length types) (form_of k) b) number

at_some : {A : Type 0} (B : A → Type 0) (o : Option A) (x : A) → o ≡ Some x → IfSome o B → B x
at_some {A = A} B o x is h = subst (λ (p : Option A). IfSome p B) is h

false_left : (a b : Bool) → ((a || b) ≡ true → ⊥) → a ≡ false
false_left true b h = absurd (h refl)
false_left false b h = refl

-- T1: no name is declared twice, and no struct holds itself
pub declared_once : (syntax : Syntax16) → BreaksNone syntax program_rules → declares_twice syntax.decls ≡ false
unfolding IsBroken
declared_once syntax accepted = false_left (declares_twice syntax.decls) (list_any (is_no_block syntax) syntax.main) (λ e. accepted.0 (inr (inl e)))

pub holds_apart : (syntax : Syntax16) → BreaksNone syntax program_rules → (a : ℕ) → OnCycle (struct_graph syntax.decls) a → ⊥
unfolding IsBroken
holds_apart syntax accepted a cycle = accepted.0 (inr (inr (a, cycle)))

pub part_all : (syntax : Syntax16) (p : FramePart) (t : Seat) → BreaksNone syntax program_rules → part_seat syntax p ≡ Some t → IsAll (layouts_of syntax.decls) t.depth t.form
part_all syntax p t accepted at =
    at_some (λ (u : Seat). IsAll (layouts_of syntax.decls) u.depth u.form) (part_seat syntax p) t at
    (by (owner_seat syntax p.owner) (kinds_all (layouts_of syntax.decls) (none_cut syntax.decls (declared_once syntax accepted) (holds_apart syntax accepted)) (frame_kinds syntax) first_start (owner_number p.owner))) where
      by : (o : Option Seat) → IfSome o (λ u. IsAll (layouts_of syntax.decls) u.depth u.form) → IfSome (seat_behind (λ s. seat_at (layouts_of syntax.decls) p.path s) o) (λ u. IsAll (layouts_of syntax.decls) u.depth u.form)
      by None h = tt
      by (Some s) h = path_all (layouts_of syntax.decls) p.path s h

pub all_one : (syntax : Syntax16) → BreaksNone syntax program_rules → AllOne syntax
all_one syntax accepted p q t u at there heads is =
    one_of_both (layouts_of syntax.decls) t u (part_all syntax p t accepted at) (part_all syntax q u accepted there) is
