-- That all that is asked can be met: by this pair of programs.
use Rattle.std.proofs.Common.{◌≡◌, ◌≢◌, ℕ, zero, suc, ◌<◌, Bool, true, false, cond, Option, Some, None, List, [], ◌∷◌, length, refl, sym, ap, subst, ◌∙◌, arith}
use Rattle.std.specs.Prelude.{codes}
use Rattle.std.specs.List.{All, AllByRecursion}
use Rattle.match_core.specs.Fits.{FitsEntry, FitsFill, Fits}
use Rattle.p414_sem.specs.Controls.{fill_of as fill14}
use Rattle.std.specs.Str.{bytes_eq}
use Rattle.std.proofs.lemmas.Slice.Eq.{bytes_eq-Decides}
use Rattle.state_store.specs.State.{Contents, shape_at}
use Rattle.p414_sem.specs.declared.standard.Standard.{Standard}
use Rattle.p414_sem.specs.declared.standard.Standard.TheVariants.{IngressPort, EgressSpec, EgressPort, PacketLength, InstanceType}
use Rattle.p414_syntax.specs.Names.{Name, find_name}
use Rattle.p414_syntax.specs.declared.calculations.CalcCond.TheVariants as calc_cond
use Rattle.p414_syntax.specs.declared.calculations.CalcUse.TheVariants as calc_use
use Rattle.p414_syntax.specs.Tree.{no_statements as nothing14, no_else, no_branches}
use Rattle.p414_syntax.specs.declared.node.Label.TheVariants as label
use Rattle.p414_syntax.specs.ControlExpansion.{control_of, StatementExpands, NoStatements, Then, ApplyBranches, If, NoElse, NoBranches, Branch}
use Rattle.lower_laws_controls.specs.Expanding.{ControlFits, ControlsFit}
use Rattle.lower_laws_controls.proofs.Expanding.{pipeline_fits}
use Rattle.lower_laws_controls.proofs.Sorted.{LeavesFit, condition_fits}
use Rattle.p414_sem.specs.Slots.{field_names}
use Rattle.p414_sem.specs.Signatures.{table_sig as sig14, signature14}
use Rattle.p416_syntax.specs.Tree.{name, Stmt16}
use Rattle.p416_syntax.specs.Kinds.{Enumeration, hash_algorithm, counter_type, meter_type, clone_type, direct_counter, bits, struct}
use Rattle.p416_syntax.specs.Scopes.{Layout, Scope, a_value, an_object as of_object, a_function as of_function, an_enumeration as of_enumeration, sort_of, fields_in}
use Rattle.p416_syntax.specs.Declarations.{layouts_of}
use Rattle.p416_syntax.specs.Expressions.{field_kind_in}
use Rattle.p416_syntax.specs.BuiltIn.{standard_name, functions}
use Rattle.v1_core.specs.declared.block.Block.TheVariants.{Verify, Ingress, Egress, Compute}
use Rattle.v1_core.specs.Values.{to_member}
use Rattle.v1_core.specs.Frames.{Owner, of_headers, of_metadata, of_standard, of_variables, of_inner, of_nothing, whole, stepped}
use Rattle.v1_core.specs.Signatures.{signature16}
use Rattle.v1_core.specs.Surroundings.{Surroundings, World, by_root}
use Rattle.v1_core.specs.Calls.{object_in}
use Rattle.v1_core.specs.Blocks.{act, control_world, around_control}
use Rattle.agreement_of_meanings.specs.Shown.{NamedField, NamesDiffer, FieldsDiffer, fields_of, field_at, name_of, owner_of, is_metadata, standard_word, standard_width}
use Rattle.agreement_of_meanings.proofs.Names.{differ_names}
use Rattle.lower_laws_base.specs.Context.{StateLayout, Local, AreDistinct, HasRoot, object_at, IsShapeOf, Lowering, shown_in, instance_kind, enumeration_name, Item, a_root, a_copy, an_object, a_function, an_enumeration, the_packet, IsItem, item_name, item_sort, IsCopied, Declares, Sees}
use Rattle.lower_laws_base.specs.Alike.{ActsAlike}
use Rattle.lower_laws_base.proofs.Sample.{each_named}
use Rattle.lower_laws_controls.specs.Listing.{Each, CopyListed, TableIs}
use Rattle.lower_laws_controls.specs.Blocks.{Inside}
use Rattle.lower_laws_controls.proofs.Tables.{CopyDeclared}
use Rattle.lower_laws_controls.proofs.Written.{TableFits}
use Rattle.lower_laws_controls.proofs.Fills.{table_found}
use Rattle.lower_laws_controls.proofs.Whole.{NamesSame, signature_same}
use Rattle.lower_laws_controls.proofs.Listing.{signatures_same}
use Rattle.lower_laws_sums.specs.Sums.{FieldFits}
use Rattle.lower_laws_sums.proofs.Ruled.{ItemFits, IsField, EntryRuled, FieldRuled, field_fits}
use Rattle.lower_laws_sums.specs.Alike.{ControlsAlike}
use Rattle.lower_laws_sums.proofs.Blocks.{controls_alike}
use Rattle.lower_laws_sums.proofs.Programs.{condition, plain14, h, of_h, items, ds, t14, d14, expanded, body14, some_entries, calculated, root, copy, root_type, h_shown, between, some, variables, low, copied, plan, put16, mark16, t16, verify16, ingress16, egress16, compute16, syntax16, setting16}
use Rattle.lower_laws_controls.specs.Whole.{BlockIs, ControlIs, TableFound}
use Rattle.lower_laws_sums.specs.Whole.{SumsAre}

-- names

fields_differ : FieldsDiffer (fields_of h_shown)
fields_differ zero zero a b apart = absurd (apart refl)
fields_differ zero (suc zero) a b apart = differ_names (codes "x") (codes "y") refl
fields_differ zero (suc (suc zero)) a b apart = differ_names (codes "x") (codes "s") refl
fields_differ (suc zero) zero a b apart = differ_names (codes "y") (codes "x") refl
fields_differ (suc zero) (suc zero) a b apart = absurd (apart refl)
fields_differ (suc zero) (suc (suc zero)) a b apart = differ_names (codes "y") (codes "s") refl
fields_differ (suc (suc zero)) zero a b apart = differ_names (codes "s") (codes "x") refl
fields_differ (suc (suc zero)) (suc zero) a b apart = differ_names (codes "s") (codes "y") refl
fields_differ (suc (suc zero)) (suc (suc zero)) a b apart = absurd (apart refl)
fields_differ zero (suc (suc (suc k))) a b apart = absurd (omega (arith, b))
fields_differ (suc zero) (suc (suc (suc k))) a b apart = absurd (omega (arith, b))
fields_differ (suc (suc zero)) (suc (suc (suc k))) a b apart = absurd (omega (arith, b))
fields_differ (suc (suc (suc j))) k a b apart = absurd (omega (arith, a))

pub variables_differ : AreDistinct variables
variables_differ zero zero a b apart = absurd (apart refl)
variables_differ zero (suc zero) a b apart = differ_names (codes "old_hdr") (codes "old_meta") refl
variables_differ zero (suc (suc zero)) a b apart = differ_names (codes "old_hdr") (codes "old_sm") refl
variables_differ (suc zero) zero a b apart = differ_names (codes "old_meta") (codes "old_hdr") refl
variables_differ (suc zero) (suc zero) a b apart = absurd (apart refl)
variables_differ (suc zero) (suc (suc zero)) a b apart = differ_names (codes "old_meta") (codes "old_sm") refl
variables_differ (suc (suc zero)) zero a b apart = differ_names (codes "old_sm") (codes "old_hdr") refl
variables_differ (suc (suc zero)) (suc zero) a b apart = differ_names (codes "old_sm") (codes "old_meta") refl
variables_differ (suc (suc zero)) (suc (suc zero)) a b apart = absurd (apart refl)
variables_differ zero (suc (suc (suc k))) a b apart = absurd (omega (arith, b))
variables_differ (suc zero) (suc (suc (suc k))) a b apart = absurd (omega (arith, b))
variables_differ (suc (suc zero)) (suc (suc (suc k))) a b apart = absurd (omega (arith, b))
variables_differ (suc (suc (suc j))) k a b apart = absurd (omega (arith, a))

module _ (put_body mark_body : Stmt16) where
  -- scopes

  module _ (has : Owner → Bool) (locals : List Local) (parameters : List NamedField) (w : World) (s : Scope) where
    abbrev pub c : Lowering
    c = low has locals parameters w

    -- what is to be seen of a scope of this program
    pub record Facts : Type 0 where
      pub layouts : s.layouts ≡ layouts_of (syntax16 put_body mark_body).decls
      pub apart : AreDistinct locals
      pub roots : (o : Owner) → HasRoot c.layout o → (sort_of s (root o) ≡ a_value (struct (root_type o)) true) × (by_root w.around.roots (root o) ≡ whole o)
      pub copies : (o : Owner) → IsCopied c o → (sort_of s (copy o) ≡ a_value (struct (root_type o)) true) × (by_root w.around.roots (copy o) ≡ stepped (whole of_variables) (to_member (copy o)))
      pub object : sort_of s (codes "d") ≡ of_object direct_counter
      pub numbered : object_in w (name (codes "d")) ≡ 0
      pub functions_are : AllByRecursion (λ (t : Name). sort_of s t ≡ of_function) functions
      pub enumerations : (e : Enumeration) → sort_of s (enumeration_name e) ≡ of_enumeration e

    pub declares : Facts → Declares c s
    declares facts = record { differ = differ; apart = facts.apart; named = named; rooted = λ o is. (facts.roots o is).1; copied = λ o is. (facts.copies o is).1; numbered = numbered; stored = omega arith; shape = shape; instance = instance; field = field; standard_is = λ is. refl; standard = standard; error = λ is. layout (codes "parser_error") refl; checksum = λ is. layout (codes "checksum_error") refl } where
      differ : NamesDiffer (h_shown ∷ [])
      differ = record { instances = instances; fields = fields } where
        instances : (j k : ℕ) → j < 1 → k < 1 → j ≢ k → is_metadata (shown_in c j) ≡ is_metadata (shown_in c k) → name_of (shown_in c j) ≢ name_of (shown_in c k)
        instances zero zero a b apart same = absurd (apart refl)
        instances zero (suc k) a b apart same = absurd (omega (arith, b))
        instances (suc j) k a b apart same = absurd (omega (arith, a))

        fields : (k : ℕ) → k < 1 → FieldsDiffer (fields_of (shown_in c k))
        fields zero lt = fields_differ
        fields (suc k) lt = absurd (omega (arith, lt))

      named : (x : Item) → IsItem c x → sort_of s (item_name c x) ≡ item_sort c x
      named (a_root o) is = (facts.roots o is).0
      named (a_copy o) is = (facts.copies o is).0
      named (an_object zero) is = facts.object
      named (an_object (suc j)) is = absurd (omega (arith, is))
      named (a_function text) is = each_named functions (λ t. sort_of s t ≡ of_function) facts.functions_are text is
      named (an_enumeration e) is = facts.enumerations e
      named the_packet is = absurd (cc is)

      numbered : (j : ℕ) → j < 1 → object_in w (name (object_at c.objects j).called) ≡ j
      numbered zero lt = facts.numbered
      numbered (suc j) lt = absurd (omega (arith, lt))

      shape : (j : ℕ) → j < 1 → IsShapeOf (object_at c.objects j) (shape_at c.layout.shapes j)
      shape zero lt = refl
      shape (suc j) lt = absurd (omega (arith, lt))

      layout : (word : Name) {k : Option _} → field_kind_in (fields_in (layouts_of (syntax16 put_body mark_body).decls) standard_name) word ≡ k → field_kind_in (fields_in s.layouts standard_name) word ≡ k
      layout word is = ap (λ (l : List Layout). field_kind_in (fields_in l standard_name) word) facts.layouts ∙ is

      instance : (i : ℕ) → i < 1 → HasRoot c.layout (owner_of (shown_in c i)) → field_kind_in (fields_in s.layouts (root_type (owner_of (shown_in c i)))) (name_of (shown_in c i)) ≡ Some (instance_kind (shown_in c i) (codes "h_t") 1)
      instance zero lt is = ap (λ (l : List Layout). field_kind_in (fields_in l (codes "hs")) (codes "h")) facts.layouts
      instance (suc i) lt is = absurd (omega (arith, lt))

      field : (i k : ℕ) → i < 1 → HasRoot c.layout (owner_of (shown_in c i)) → k < length (fields_of (shown_in c i)) → field_kind_in (fields_in s.layouts (codes "h_t")) (field_at (fields_of (shown_in c i)) k).called ≡ Some (bits (field_at (fields_of (shown_in c i)) k).width)
      field zero zero a is b = ap (λ (l : List Layout). field_kind_in (fields_in l (codes "h_t")) (codes "x")) facts.layouts
      field zero (suc zero) a is b = ap (λ (l : List Layout). field_kind_in (fields_in l (codes "h_t")) (codes "y")) facts.layouts
      field zero (suc (suc zero)) a is b = ap (λ (l : List Layout). field_kind_in (fields_in l (codes "h_t")) (codes "s")) facts.layouts
      field zero (suc (suc (suc k))) a is b = absurd (omega (arith, b))
      field (suc i) k a is b = absurd (omega (arith, a))

      standard : (which : Standard) → HasRoot c.layout of_standard → field_kind_in (fields_in s.layouts standard_name) (standard_word which) ≡ Some (bits (standard_width which))
      standard IngressPort is = layout (codes "ingress_port") refl
      standard EgressSpec is = layout (codes "egress_spec") refl
      standard EgressPort is = layout (codes "egress_port") refl
      standard PacketLength is = layout (codes "packet_length") refl
      standard InstanceType is = layout (codes "instance_type") refl

    pub sees_none : Facts → Sees c s []
    sees_none facts = record {
      declares = declares facts;
      locals = λ j lt. absurd (omega (arith, lt));
      distinct = λ j k lt. absurd (omega (arith, lt));
      apart = λ x is j lt. absurd (omega (arith, lt));
    }

    -- a name that is none of those that a block sees
    abbrev pub Others : Name → List Name → Type 0
    Others text names = AllByRecursion (λ (t : Name). bytes_eq text t ≡ false) names

    abbrev pub all_names : List Name
    all_names = codes "hdr" ∷ codes "meta" ∷ codes "sm" ∷ codes "old_hdr" ∷ codes "old_meta" ∷ codes "old_sm" ∷ codes "d" ∷ codes "HashAlgorithm" ∷ codes "CounterType" ∷ codes "MeterType" ∷ codes "CloneType" ∷ []

    pub apart_by : (text : Name) → Others text all_names → Others text functions → (x : Item) → IsItem c x → text ≢ item_name c x
    apart_by text o fs (a_root of_headers) is = differ_names text (root of_headers) o.0
    apart_by text o fs (a_root of_metadata) is = differ_names text (root of_metadata) o.1.0
    apart_by text o fs (a_root of_standard) is = differ_names text (root of_standard) o.1.1.0
    apart_by text o fs (a_root of_variables) is = absurd is
    apart_by text o fs (a_root of_inner) is = absurd is
    apart_by text o fs (a_root of_nothing) is = absurd is
    apart_by text o fs (a_copy of_headers) is = differ_names text (copy of_headers) o.1.1.1.0
    apart_by text o fs (a_copy of_metadata) is = differ_names text (copy of_metadata) o.1.1.1.1.0
    apart_by text o fs (a_copy of_standard) is = differ_names text (copy of_standard) o.1.1.1.1.1.0
    apart_by text o fs (a_copy of_variables) is = differ_names text (copy of_variables) o.1.1.1.1.1.0
    apart_by text o fs (a_copy of_inner) is = differ_names text (copy of_inner) o.1.1.1.1.1.0
    apart_by text o fs (a_copy of_nothing) is = differ_names text (copy of_nothing) o.1.1.1.1.1.0
    apart_by text o fs (an_object zero) is = differ_names text (codes "d") o.1.1.1.1.1.1.0
    apart_by text o fs (an_object (suc z)) is = absurd (omega (arith, is))
    apart_by text o fs (a_function t) is = differ_names text t (each_named functions (λ (x : Name). bytes_eq text x ≡ false) fs t is)
    apart_by text o fs (an_enumeration hash_algorithm) is = differ_names text (codes "HashAlgorithm") o.1.1.1.1.1.1.1.0
    apart_by text o fs (an_enumeration counter_type) is = differ_names text (codes "CounterType") o.1.1.1.1.1.1.1.1.0
    apart_by text o fs (an_enumeration meter_type) is = differ_names text (codes "MeterType") o.1.1.1.1.1.1.1.1.1.0
    apart_by text o fs (an_enumeration clone_type) is = differ_names text (codes "CloneType") o.1.1.1.1.1.1.1.1.1.1.0
    apart_by text o fs the_packet is = absurd (cc is)

  abbrev pub all : Owner → Bool
  all o = true

  -- ingress

  abbrev pub b : Surroundings
  b = around_control (setting16 put_body mark_body) Ingress (ingress16 put_body mark_body)

  abbrev ci : Lowering
  ci = low all variables [] (control_world b)

  pub facts_ingress : Facts all variables [] (control_world b) b.scope
  facts_ingress = record { layouts = refl; apart = variables_differ; roots = roots; copies = copies; object = refl; numbered = refl; functions_are = (refl, (refl, (refl, (refl, (refl, (refl, (refl, (refl, (refl, tt))))))))); enumerations = enumerations } where
    roots : (o : Owner) → HasRoot ci.layout o → (sort_of b.scope (root o) ≡ a_value (struct (root_type o)) true) × (by_root b.roots (root o) ≡ whole o)
    roots of_headers is = (refl, refl)
    roots of_metadata is = (refl, refl)
    roots of_standard is = (refl, refl)
    roots of_variables is = absurd is
    roots of_inner is = absurd is
    roots of_nothing is = absurd is

    copies : (o : Owner) → IsCopied ci o → (sort_of b.scope (copy o) ≡ a_value (struct (root_type o)) true) × (by_root b.roots (copy o) ≡ stepped (whole of_variables) (to_member (copy o)))
    copies of_headers is = (refl, refl)
    copies of_metadata is = (refl, refl)
    copies of_standard is = (refl, refl)
    copies of_variables is = (refl, refl)
    copies of_inner is = (refl, refl)
    copies of_nothing is = (refl, refl)

    enumerations : (e : Enumeration) → sort_of b.scope (enumeration_name e) ≡ of_enumeration e
    enumerations hash_algorithm = refl
    enumerations counter_type = refl
    enumerations meter_type = refl
    enumerations clone_type = refl

  sees : Sees ci b.scope []
  sees = sees_none all variables [] (control_world b) b.scope facts_ingress

  -- a control with these roots, whose locals are these, sees the same in egress

  abbrev be : Surroundings
  be = around_control (setting16 put_body mark_body) Egress egress16

  facts_egress : Facts all variables [] (control_world be) be.scope
  facts_egress = record { layouts = refl; apart = variables_differ; roots = roots; copies = copies; object = refl; numbered = refl; functions_are = (refl, (refl, (refl, (refl, (refl, (refl, (refl, (refl, (refl, tt))))))))); enumerations = enumerations } where
    roots : (o : Owner) → HasRoot ci.layout o → (sort_of be.scope (root o) ≡ a_value (struct (root_type o)) true) × (by_root be.roots (root o) ≡ whole o)
    roots of_headers is = (refl, refl)
    roots of_metadata is = (refl, refl)
    roots of_standard is = (refl, refl)
    roots of_variables is = absurd is
    roots of_inner is = absurd is
    roots of_nothing is = absurd is

    copies : (o : Owner) → IsCopied (low all variables [] (control_world be)) o → (sort_of be.scope (copy o) ≡ a_value (struct (root_type o)) true) × (by_root be.roots (copy o) ≡ stepped (whole of_variables) (to_member (copy o)))
    copies of_headers is = (refl, refl)
    copies of_metadata is = (refl, refl)
    copies of_standard is = (refl, refl)
    copies of_variables is = (refl, refl)
    copies of_inner is = (refl, refl)
    copies of_nothing is = (refl, refl)

    enumerations : (e : Enumeration) → sort_of be.scope (enumeration_name e) ≡ of_enumeration e
    enumerations hash_algorithm = refl
    enumerations counter_type = refl
    enumerations meter_type = refl
    enumerations clone_type = refl

  -- verify and compute, without standard metadata and variables

  abbrev bv : Surroundings
  bv = around_control (setting16 put_body mark_body) Verify verify16

  abbrev bc : Surroundings
  bc = around_control (setting16 put_body mark_body) Compute compute16

  facts_verify : Facts some [] [] (control_world bv) bv.scope
  facts_verify = record { layouts = refl; apart = λ j k lt. absurd (omega (arith, lt)); roots = roots; copies = λ o is. absurd (omega (arith, is.within)); object = refl; numbered = refl; functions_are = (refl, (refl, (refl, (refl, (refl, (refl, (refl, (refl, (refl, tt))))))))); enumerations = enumerations } where
    roots : (o : Owner) → HasRoot (record between { has = some; variables = [] }) o → (sort_of bv.scope (root o) ≡ a_value (struct (root_type o)) true) × (by_root bv.roots (root o) ≡ whole o)
    roots of_headers is = (refl, refl)
    roots of_metadata is = (refl, refl)
    roots of_standard is = absurd (cc is)
    roots of_variables is = absurd is
    roots of_inner is = absurd is
    roots of_nothing is = absurd is

    enumerations : (e : Enumeration) → sort_of bv.scope (enumeration_name e) ≡ of_enumeration e
    enumerations hash_algorithm = refl
    enumerations counter_type = refl
    enumerations meter_type = refl
    enumerations clone_type = refl

  facts_compute : Facts some [] [] (control_world bc) bc.scope
  facts_compute = record { layouts = refl; apart = λ j k lt. absurd (omega (arith, lt)); roots = roots; copies = λ o is. absurd (omega (arith, is.within)); object = refl; numbered = refl; functions_are = (refl, (refl, (refl, (refl, (refl, (refl, (refl, (refl, (refl, tt))))))))); enumerations = enumerations } where
    roots : (o : Owner) → HasRoot (record between { has = some; variables = [] }) o → (sort_of bc.scope (root o) ≡ a_value (struct (root_type o)) true) × (by_root bc.roots (root o) ≡ whole o)
    roots of_headers is = (refl, refl)
    roots of_metadata is = (refl, refl)
    roots of_standard is = absurd (cc is)
    roots of_variables is = absurd is
    roots of_inner is = absurd is
    roots of_nothing is = absurd is

    enumerations : (e : Enumeration) → sort_of bc.scope (enumeration_name e) ≡ of_enumeration e
    enumerations hash_algorithm = refl
    enumerations counter_type = refl
    enumerations meter_type = refl
    enumerations clone_type = refl

  fewer : Inside between (record between { has = some; variables = [] })
  fewer = record { is = refl; has = has; bare = refl } where
    has : (o : Owner) → HasRoot (record between { has = some; variables = [] }) o → HasRoot between o
    has of_headers is = refl
    has of_metadata is = refl
    has of_standard is = refl
    has of_variables is = absurd is
    has of_inner is = absurd is
    has of_nothing is = absurd is

  inside : Inside between (record between { has = all; variables = variables })
  inside = record { is = refl; has = has; bare = refl } where
    has : (o : Owner) → HasRoot (record between { has = all; variables = variables }) o → HasRoot between o
    has of_headers is = refl
    has of_metadata is = refl
    has of_standard is = refl
    has of_variables is = absurd is
    has of_inner is = absurd is
    has of_nothing is = absurd is

  all_there : (o : Owner) → HasRoot between o → HasRoot (record between { has = all; variables = variables }) o
  all_there of_headers is = refl
  all_there of_metadata is = refl
  all_there of_standard is = refl
  all_there of_variables is = absurd is
  all_there of_inner is = absurd is
  all_there of_nothing is = absurd is

  -- the calculated field

  abbrev few : StateLayout
  few = record between { has = some; variables = [] }

  is_field : (word : Name) (k : ℕ) → find_name (field_names ds (codes "h")) word ≡ Some k → IsField ds (of_h word)
  is_field word k has = record { plain = refl; instance = 0; there = refl; field = k; has = has }

  sums_ruled : FieldRuled few ds expanded (calculated ∷ []) calculated
  sums_ruled = record {
    slot = ((omega arith, omega arith, refl, omega arith), ((omega arith, omega arith, refl), refl));
    width = refl;
    bits = 16;
    has = refl;
    is = is_field (codes "s") 2 refl;
    entries = (first, (second, (third, (fourth, tt))));
  } where
    items_fit : Each (ItemFits few ds) items
    items_fit = (((omega arith, omega arith, refl, omega arith), refl), (omega arith, (tt, tt)))

    first : EntryRuled few ds expanded (calculated ∷ []) (of_h (codes "s")) (record { used_to = calc_use.Verify; calculation = codes "sum"; condition = Some (calc_cond.Equal (of_h (codes "x")) (plain14 300)) })
    first = record { calculation = _; declared = refl; width = refl; payload = refl; items = items_fit; condition = ((omega arith, omega arith, refl, omega arith), is_field (codes "x") 0 refl, (λ e. tt, tt), refl) }

    second : EntryRuled few ds expanded (calculated ∷ []) (of_h (codes "s")) (record { used_to = calc_use.Verify; calculation = codes "sum"; condition = None })
    second = record { calculation = _; declared = refl; width = refl; payload = refl; items = items_fit; condition = tt }

    third : EntryRuled few ds expanded (calculated ∷ []) (of_h (codes "s")) (record { used_to = calc_use.Update; calculation = codes "sum"; condition = Some (calc_cond.Valid h) })
    third = record { calculation = _; declared = refl; width = refl; payload = refl; items = items_fit; condition = (omega arith, omega arith, refl) }

    fourth : EntryRuled few ds expanded (calculated ∷ []) (of_h (codes "s")) (record { used_to = calc_use.Update; calculation = codes "sum"; condition = Some (calc_cond.Equal (of_h (codes "y")) (plain14 3)) })
    fourth = record { calculation = _; declared = refl; width = refl; payload = refl; items = items_fit; condition = ((omega arith, omega arith, refl, omega arith), is_field (codes "y") 1 refl, (λ e. tt, tt), refl) }

  sums_fit : FieldFits few ds expanded calculated
  sums_fit = field_fits few ds expanded (calculated ∷ []) (sums_ruled, tt) 0 (omega arith) calculated

  verify_is : SumsAre between ds expanded (setting16 put_body mark_body) Verify false
  verify_is = record {
    control = verify16;
    at = refl;
    lowering = low some [] [] (control_world bv);
    world = refl;
    parameters = refl;
    inside = fewer;
    variables = tt;
    body_is = refl;
    sees = sees_none some [] [] (control_world bv) bv.scope facts_verify;
    fits = (sums_fit, tt);
  }

  compute_is : SumsAre between ds expanded (setting16 put_body mark_body) Compute true
  compute_is = record {
    control = compute16;
    at = refl;
    lowering = low some [] [] (control_world bc);
    world = refl;
    parameters = refl;
    inside = fewer;
    variables = tt;
    body_is = refl;
    sees = sees_none some [] [] (control_world bc) bc.scope facts_compute;
    fits = (sums_fit, tt);
  }

  -- the table

  listed_put : CopyListed ds b.scope copied (codes "put")
  listed_put = record { copied = refl; parameters = record { is_directed = false; is_written = false; kind = bits 8 } ∷ []; sort = refl; widths = refl }

  listed_mark : CopyListed ds b.scope copied (codes "mark")
  listed_mark = record { copied = refl; parameters = []; sort = refl; widths = refl }

  table_is : TableIs ci ds b copied t14 t16
  table_is = record {
    plane = refl;
    keys = refl;
    keys_fit = (((omega arith, omega arith, refl, omega arith), refl), (((omega arith, omega arith, refl), refl), tt));
    actions = refl;
    listed = (listed_put, (listed_mark, tt));
    size = refl;
    direct = refl;
  }

  copies_differ : (a e text : Name) → copied a ≡ Some text → copied e ≡ Some text → a ≡ e
  copies_differ a e text f g = by (bytes_eq a (codes "put")) (bytes_eq a (codes "mark")) (bytes_eq e (codes "put")) (bytes_eq e (codes "mark")) refl refl refl refl f g where
    is : (x y : Name) → bytes_eq x y ≡ true → x ≡ y
    is x y q = (bytes_eq-Decides x y).0 q

    apart : codes "put_c0_" ≢ codes "mark_c0_"
    apart = differ_names (codes "put_c0_") (codes "mark_c0_") refl

    by : (p m q r : Bool) → bytes_eq a (codes "put") ≡ p → bytes_eq a (codes "mark") ≡ m → bytes_eq e (codes "put") ≡ q → bytes_eq e (codes "mark") ≡ r → cond p (Some (codes "put_c0_")) (cond m (Some (codes "mark_c0_")) None) ≡ Some text → cond q (Some (codes "put_c0_")) (cond r (Some (codes "mark_c0_")) None) ≡ Some text → a ≡ e
    by true m true r i j k l x y = is a (codes "put") i ∙ sym (is e (codes "put") k)
    by true m false true i j k l x y = absurd (apart (cc (x, y)))
    by true m false false i j k l x y = absurd (cc y)
    by false true true r i j k l x y = absurd (apart (cc (x, y)))
    by false true false true i j k l x y = is a (codes "mark") j ∙ sym (is e (codes "mark") l)
    by false true false false i j k l x y = absurd (cc y)
    by false false q r i j k l x y = absurd (cc x)

  -- the entries fit
  entries_fit : Fits some_entries (signature14 ds)
  unfolding signature14
  entries_fit = record { tables = (table, tt); sessions = record { each = λ k x lt. absurd (omega (arith, lt)); distinct = λ i j d lt. absurd (omega (arith, lt)) }; colours = (refl, tt) } where
    table : FitsFill (sig14 ds t14) (fill14 d14 t14)
    table = record { size = omega arith; no_keys = λ e. absurd (cc e); entries = each; call = tt } where
      each : All (FitsEntry (sig14 ds t14)) (fill14 d14 t14).entries
      each zero x lt = record {
        keys = ((refl, omega arith, omega arith), ((refl, omega arith), tt));
        priority = omega arith;
        no_priority = λ e. absurd (cc e);
        call = record { listed = omega arith; widths = (omega arith, tt) };
      }
      each (suc k) x lt = absurd (omega (arith, lt))

  -- one signature
  names_same : Contents → NamesSame ds (syntax16 put_body mark_body)
  names_same store = record {
    in_ingress = λ name. true;
    tables = refl;
    each_table = (record { t = t14; p = record { scope = b.scope; locals = (ingress16 put_body mark_body).locals; table = t16 }; declared14 = refl; declared16 = refl; signature = signatures_same ci ds b copied t14 t16 table_is refl refl sees store }, tt);
    objects = refl;
    each_object = (refl, tt);
  }

  pub one_signature : Contents → signature16 (syntax16 put_body mark_body) ≡ signature14 ds
  one_signature store = signature_same ds (syntax16 put_body mark_body) (names_same store)

  -- where the bodies do what the actions do
  module _ (acts_put : ActsAlike (record between { has = all; variables = variables }) d14 b (act b) (Some 0) 0 (8 ∷ []) (put16 put_body)) (acts_mark : ActsAlike (record between { has = all; variables = variables }) d14 b (act b) (Some 0) 1 [] (mark16 mark_body)) (store : Contents) where
    copy_put : CopyDeclared ci d14 b copied (sig14 ds t14).direct (codes "put")
    copy_put = record { listed = listed_put; action = 0; of = put16 put_body; number = refl; declared = refl; acts = acts_put }

    copy_mark : CopyDeclared ci d14 b copied (sig14 ds t14).direct (codes "mark")
    copy_mark = record { listed = listed_mark; action = 1; of = mark16 mark_body; number = refl; declared = refl; acts = acts_mark }

    table_fits : TableFits ci d14 b copied (Some (codes "d")) t14
    table_fits = record { keys = table_is.keys_fit; copies = (copy_put, (copy_mark, tt)); counter_is = refl; default = ((1, refl), refl) }

    found : TableFound ci b.scope d14 b plan (codes "t")
    found =
        table_found ci d14 b plan refl refl sees refl entries_fit (names_same store) store (codes "t")
        (record { t = t14; named = refl; declared14 = refl; number = 0; numbered = refl; counter = Some (codes "d"); declared16 = refl; sort = refl; copies = copies_differ; fits = table_fits })

    abbrev Found : Name → Type 0
    Found called = TableFound ci b.scope d14 b plan called

    leaves : LeavesFit ci.layout ds condition
    leaves = ((λ e. (omega arith, omega arith, refl)), (((omega arith, omega arith, refl, omega arith), refl), omega arith))

    control_fits : ControlFits ci.layout ds Found (record { name = codes "ingress"; body = body14 })
    control_fits = record { is = refl; parts = (tt, (condition_fits ci.layout ds condition refl refl leaves, (tt, (found, ((tt, tt), tt))), tt)) }

    controls : ControlsFit ci.layout ds Found
    controls called c is = by (bytes_eq called (codes "ingress")) refl where
      by : (e : Bool) → bytes_eq called (codes "ingress") ≡ e → ControlFits ci.layout ds Found c
      by true e =
          let one : control_of ds (codes "ingress") ≡ Some c = subst (λ z. control_of ds z ≡ Some c) ((bytes_eq-Decides called (codes "ingress")).0 e) is in
          subst (ControlFits ci.layout ds Found) (cc one) control_fits
      by false e = let none = rw e at is in absurd (cc none)

    expands : StatementExpands ds body14 body14
    expands =
        Then nothing14 _ nothing14 _ NoStatements
        (If condition _ no_else _ no_else
        (Then nothing14 _ nothing14 _ NoStatements
        (ApplyBranches (codes "t") _ _ (Branch _ nothing14 _ nothing14 label.Default (Branch no_branches nothing14 no_branches nothing14 (label.Action (codes "put")) NoBranches NoStatements) NoStatements))) NoElse)

    ingress_is : BlockIs between d14 (setting16 put_body mark_body) Ingress true body14
    ingress_is = record { control = ingress16 put_body mark_body; at = refl; lowering = ci; plan = plan; is = is } where
      is : ControlIs between ci d14 b plan true body14 (ingress16 put_body mark_body)
      is = record {
        world = refl;
        parameters = refl;
        inside = inside;
        all = all_there;
        standard = refl;
        variables = (record { initial = refl; is = refl; type = codes "hs"; struct_is = refl }, (record { initial = refl; is = refl; type = codes "ms"; struct_is = refl }, (record { initial = refl; is = refl; type = standard_name; struct_is = refl }, tt)));
        body_is = refl;
        sees = sees;
        fits = pipeline_fits ci.layout ds Found controls (codes "ingress") body14 expands;
      }

    egress_is : BlockIs between d14 (setting16 put_body mark_body) Egress false nothing14
    egress_is = record { control = egress16; at = refl; lowering = low all variables [] (control_world be); plan = plan; is = is } where
      is : ControlIs between (low all variables [] (control_world be)) d14 be plan false nothing14 egress16
      is = record {
        world = refl;
        parameters = refl;
        inside = inside;
        all = all_there;
        standard = refl;
        variables = (record { initial = refl; is = refl; type = codes "hs"; struct_is = refl }, (record { initial = refl; is = refl; type = codes "ms"; struct_is = refl }, (record { initial = refl; is = refl; type = standard_name; struct_is = refl }, tt)));
        body_is = refl;
        sees = sees_none all variables [] (control_world be) be.scope facts_egress;
        fits = tt;
      }

    pub sample_alike : ControlsAlike between d14 (setting16 put_body mark_body)
    sample_alike = controls_alike between d14 (setting16 put_body mark_body) verify_is ingress_is egress_is compute_is
