-- That all that is asked can be met: a header h of x (8 bits) and y (16 bits), a stack t of two elements of z (8 bits), metadata
-- m of q (4 bits), a register r of 32 bits, a meter v, a parameter p of 8 bits, and copies of the three parameters of the block.
use Rattle.std.proofs.Common.{◌≤◌, ◌^◌, get_or, ◌≡◌, ◌≢◌, ℕ, zero, suc, ◌<◌, ◌||◌, Bool, true, false, None, Some, List, [], ◌∷◌, length, refl, sym, subst, arith}
use Rattle.std.specs.Prelude.{codes}
use Rattle.std.specs.List.{list_any, All, AllByRecursion}
use Rattle.std.specs.Str.{bytes_eq}
use Rattle.std.proofs.lemmas.Slice.Eq.{bytes_eq-Decides}
use Rattle.state_store.specs.declared.shapes.Shape.TheVariants.{Register, Meter}
use Rattle.state_store.specs.declared.cells.Cells.TheVariants.{Numbers, Colours}
use Rattle.state_store.specs.Cells.{FitsShape}
use Rattle.state_store.specs.State.{shape_at, cells_at}
use Rattle.fabric.specs.declared.items.RequestKind.{RequestKind}
use Rattle.fabric.specs.declared.items.RequestKind.TheVariants.{CloneI2E, CloneE2E, Resubmit, Recirculate}
use Rattle.p414_sem.specs.declared.standard.Standard.{Standard}
use Rattle.p414_sem.specs.declared.standard.Standard.TheVariants.{IngressPort, EgressSpec, EgressPort, PacketLength, InstanceType}
use Rattle.p414_sem.specs.State.{State, instance_at, standard_number, request_of as request14}
use Rattle.p414_sem.specs.Effects.{Moment as Moment14}
use Rattle.p416_syntax.specs.declared.lexeme.Literal16.{Literal16}
use Rattle.p416_syntax.specs.declared.controls.Instance.TheVariants as instance_of
use Rattle.p416_syntax.specs.declared.controls.Action16.{Action16}
use Rattle.p416_syntax.specs.declared.parts.Member.TheVariants as member_of
use Rattle.p416_syntax.specs.declared.parts.MeterType.TheVariants as meter_member
use Rattle.p416_syntax.specs.declared.program.Decl16.TheVariants as decl
use Rattle.p416_syntax.specs.Tree.{literal, name}
use Rattle.p416_syntax.specs.Names.{Name, has_name}
use Rattle.p416_syntax.specs.Kinds.{Kind, hash_algorithm, counter_type, meter_type, clone_type, register, meter, bits, header, stack, struct}
use Rattle.p416_syntax.specs.Scopes.{Scope, FieldKind, Layout, a_value, an_object as of_object, a_function as of_function, known, in_action, in_apply, sort_of, fields_in}
use Rattle.p416_syntax.specs.Expressions.{field_kind_in}
use Rattle.p416_syntax.specs.BuiltIn.{standard_layout, standard_name, functions, built_in}
use Rattle.v1_core.specs.Values.{Value, a_number, an_error, a_member, no_members, to_member, member_in}
use Rattle.v1_core.specs.Frames.{Moment, Owner, of_headers, of_metadata, of_standard, of_variables, of_inner, of_nothing, whole, stepped, owned, request_of as request16}
use Rattle.v1_core.specs.Calls.{object_in}
use Rattle.v1_core.specs.Surroundings.{Surroundings, World, Applied, by_root, rooted}
use Rattle.agreement_of_meanings.specs.Shown.{NamedField, Shown, as_header, as_stack, as_metadata, NamesDiffer, FieldsDiffer, fields_of, field_at, name_of, owner_of, is_metadata, standard_word, standard_width, shown_value, IsShown}
use Rattle.agreement_of_meanings.specs.Agrees.{RequestsAgree, Agrees}
use Rattle.agreement_of_meanings.proofs.Names.{differ_names}
use Rattle.lower_laws_base.specs.Context.{Local, local_at, value_at, inner_of, AreDistinct, HasNone, StateLayout, HasRoot, HasMembers, object_at, IsShapeOf, Lowering, shown_in, instance_kind, Item, a_root, a_copy, an_object, a_function, an_enumeration, the_packet, IsItem, item_name, item_sort, IsCopied, Copies, Declares, Sees, IsShaped, Shaped, Stands, IsWhole, Spares, local_of, AreGiven}

-- what holds of each name of a list
pub each_named : (names : List Name) (P : Name → Type 0) → AllByRecursion P names → (text : Name) → has_name names text ≡ true → P text
each_named [] P all text has = absurd (cc has)
each_named (first ∷ names) P all text has = by (bytes_eq text first) refl has (each_named names P all.1 text) where
  by : (b : Bool) → bytes_eq text first ≡ b → b || list_any (bytes_eq text) names ≡ true → (has_name names text ≡ true → P text) → P text
  by true same is rest = subst P (sym ((bytes_eq-Decides text first).0 same)) all.0
  by false other is rest = rest is

abbrev bit_field : Name → ℕ → NamedField
bit_field called width = record { called = called; width = width }

abbrev the_header : Shown
the_header = as_header (codes "h") (bit_field (codes "x") 8 ∷ bit_field (codes "y") 16 ∷ [])

abbrev the_stack : Shown
the_stack = as_stack (codes "t") (bit_field (codes "z") 8 ∷ [])

abbrev the_metadata : Shown
the_metadata = as_metadata (codes "m") (bit_field (codes "q") 4 ∷ [])

abbrev root : Owner → Name
root of_headers = codes "hdr"
root of_metadata = codes "meta"
root _ = codes "sm"

abbrev copy : Owner → Name
copy of_headers = codes "old_hdr"
copy of_metadata = codes "old_meta"
copy _ = codes "old_sm"

abbrev root_type : Owner → Name
root_type of_headers = codes "H"
root_type of_metadata = codes "M"
root_type _ = standard_name

abbrev type_of : ℕ → Name
type_of zero = codes "h_t"
type_of (suc zero) = codes "t_t"
type_of (suc (suc i)) = codes "m_t"

abbrev size_of : ℕ → ℕ
size_of (suc zero) = 2
size_of i = 1

abbrev members : Owner → List Name
members of_headers = codes "h" ∷ codes "t" ∷ []
members of_metadata = codes "m" ∷ []
members _ = codes "ingress_port" ∷ codes "egress_spec" ∷ codes "egress_port" ∷ codes "packet_length" ∷ codes "instance_type" ∷ codes "parser_error" ∷ codes "checksum_error" ∷ []

abbrev one_field : Kind → Name → FieldKind
one_field kind called = record { called = called; kind = kind }

abbrev a_layout : Name → List FieldKind → Layout
a_layout called fields = record { called = called; fields = fields }

abbrev a_local : Name → Kind → Local
a_local called kind = record { called = called; kind = kind }

abbrev variables : List Local
variables = a_local (codes "old_hdr") (struct (codes "H")) ∷ a_local (codes "old_meta") (struct (codes "M")) ∷ a_local (codes "old_sm") (struct standard_name) ∷ []

-- the scope of a control, and of an action within it
abbrev pub outer : Scope
outer = record {
  layouts =
      a_layout (codes "H") (one_field (header (codes "h_t")) (codes "h") ∷ one_field (stack (codes "t_t") 2) (codes "t") ∷ [])
      ∷ a_layout (codes "M") (one_field (struct (codes "m_t")) (codes "m") ∷ [])
      ∷ a_layout (codes "h_t") (one_field (bits 8) (codes "x") ∷ one_field (bits 16) (codes "y") ∷ [])
      ∷ a_layout (codes "t_t") (one_field (bits 8) (codes "z") ∷ [])
      ∷ a_layout (codes "m_t") (one_field (bits 4) (codes "q") ∷ []) ∷ standard_layout ∷ [];
  names =
      known (a_value (struct (codes "H")) true) (codes "old_hdr") ∷ known (a_value (struct (codes "M")) true) (codes "old_meta")
      ∷ known (a_value (struct standard_name) true) (codes "old_sm")
      ∷ known (a_value (struct (codes "H")) true) (codes "hdr") ∷ known (a_value (struct (codes "M")) true) (codes "meta")
      ∷ known (a_value (struct standard_name) true) (codes "sm") ∷ known (of_object register) (codes "r") ∷ known (of_object meter) (codes "v") ∷ built_in;
  positions = 2 ∷ [];
  part = in_apply;
}

abbrev pub scope : Scope
scope = record outer { names = known (a_value (bits 8) false) (codes "p") ∷ outer.names; part = in_action (codes "a") }

abbrev pub locals : List Local
locals = local_of (bit_field (codes "p") 8) ∷ []

abbrev width_32 : Literal16
width_32 = record { width = None; value = 32 }

abbrev pub around : Surroundings
around = record {
  setting = record {
    syntax = record { decls = decl.Instance [] (instance_of.Register width_32 (literal width_32) (codes "r")) ∷ decl.Instance [] (instance_of.Meter (literal width_32) (member_of.MeterType meter_member.Bytes) (codes "v")) ∷ []; main = [] };
    entries = record { tables = []; sessions = []; colours = [] };
  };
  scope = outer;
  roots = rooted (codes "hdr" ∷ codes "meta" ∷ codes "sm" ∷ []) (of_headers ∷ of_metadata ∷ of_standard ∷ []);
  locals = [];
}

abbrev layout : StateLayout
layout = record {
  names = record { instances = the_header ∷ the_stack ∷ the_metadata ∷ []; marks = [] };
  size_of = size_of;
  has = λ o. true;
  members = members;
  variables = variables;
  shapes = Register 32 2 ∷ Meter 4 ∷ [];
}

-- whatever actions and tables do
module _ (act : Action16 → Moment → Moment) (apply : Name → Moment → Applied) where
  abbrev pub world : World
  world = record { around = around; act = act; apply = apply }

  abbrev pub c : Lowering
  c = record {
    layout = layout;
    root = root;
    copy = copy;
    objects = record { called = codes "r"; kind = register; width = 32 } ∷ record { called = codes "v"; kind = meter; width = 0 } ∷ [];
    spare = λ a i. 200 ∷ a ∷ i ∷ 95 ∷ [];
    parameters = bit_field (codes "p") 8 ∷ [];
    can_write = λ o. true;
    root_type = root_type;
    type_of = type_of;
    packet = None;
    world = world;
  }

  -- names

  header_fields : FieldsDiffer (fields_of the_header)
  header_fields zero zero a b apart = absurd (apart refl)
  header_fields zero (suc zero) a b apart = differ_names (codes "x") (codes "y") refl
  header_fields (suc zero) zero a b apart = differ_names (codes "y") (codes "x") refl
  header_fields (suc zero) (suc zero) a b apart = absurd (apart refl)
  header_fields zero (suc (suc k)) a b apart = absurd (omega (arith, b))
  header_fields (suc zero) (suc (suc k)) a b apart = absurd (omega (arith, b))
  header_fields (suc (suc j)) k a b apart = absurd (omega (arith, a))

  lone_field : (f : NamedField) → FieldsDiffer (f ∷ [])
  lone_field f zero zero a b apart = absurd (apart refl)
  lone_field f zero (suc k) a b apart = absurd (omega (arith, b))
  lone_field f (suc j) k a b apart = absurd (omega (arith, a))

  differ : NamesDiffer layout.names.instances
  differ = record { instances = instances; fields = fields } where
    instances : (j k : ℕ) → j < 3 → k < 3 → j ≢ k → is_metadata (shown_in c j) ≡ is_metadata (shown_in c k) → name_of (shown_in c j) ≢ name_of (shown_in c k)
    instances zero zero a b apart same = absurd (apart refl)
    instances zero (suc zero) a b apart same = differ_names (codes "h") (codes "t") refl
    instances zero (suc (suc zero)) a b apart same = absurd (cc same)
    instances (suc zero) zero a b apart same = differ_names (codes "t") (codes "h") refl
    instances (suc zero) (suc zero) a b apart same = absurd (apart refl)
    instances (suc zero) (suc (suc zero)) a b apart same = absurd (cc same)
    instances (suc (suc zero)) zero a b apart same = absurd (cc same)
    instances (suc (suc zero)) (suc zero) a b apart same = absurd (cc same)
    instances (suc (suc zero)) (suc (suc zero)) a b apart same = absurd (apart refl)
    instances zero (suc (suc (suc k))) a b apart same = absurd (omega (arith, b))
    instances (suc zero) (suc (suc (suc k))) a b apart same = absurd (omega (arith, b))
    instances (suc (suc zero)) (suc (suc (suc k))) a b apart same = absurd (omega (arith, b))
    instances (suc (suc (suc j))) k a b apart same = absurd (omega (arith, a))

    fields : (k : ℕ) → k < 3 → FieldsDiffer (fields_of (shown_in c k))
    fields zero lt = header_fields
    fields (suc zero) lt = lone_field (bit_field (codes "z") 8)
    fields (suc (suc zero)) lt = lone_field (bit_field (codes "q") 4)
    fields (suc (suc (suc k))) lt = absurd (omega (arith, lt))

  variables_differ : AreDistinct variables
  variables_differ zero zero a b apart = absurd (apart refl)
  variables_differ zero (suc zero) a b apart = differ_names (codes "old_hdr") (codes "old_meta") refl
  variables_differ zero (suc (suc zero)) a b apart = differ_names (codes "old_hdr") (codes "old_sm") refl
  variables_differ (suc zero) zero a b apart = differ_names (codes "old_meta") (codes "old_hdr") refl
  variables_differ (suc zero) (suc zero) a b apart = absurd (apart refl)
  variables_differ (suc zero) (suc (suc zero)) a b apart = differ_names (codes "old_meta") (codes "old_sm") refl
  variables_differ (suc (suc zero)) zero a b apart = differ_names (codes "old_sm") (codes "old_hdr") refl
  variables_differ (suc (suc zero)) (suc zero) a b apart = differ_names (codes "old_sm") (codes "old_meta") refl
  variables_differ (suc (suc zero)) (suc (suc zero)) a b apart = absurd (apart refl)
  variables_differ zero (suc (suc (suc k))) a b apart = absurd (omega (arith, b))
  variables_differ (suc zero) (suc (suc (suc k))) a b apart = absurd (omega (arith, b))
  variables_differ (suc (suc zero)) (suc (suc (suc k))) a b apart = absurd (omega (arith, b))
  variables_differ (suc (suc (suc j))) k a b apart = absurd (omega (arith, a))

  pub copies : Copies c
  copies = record { copied = copied; differ = apart } where
    copied : (o : Owner) → HasRoot layout o → IsCopied c o
    copied of_headers is = record { place = 0; within = omega arith; stands = refl }
    copied of_metadata is = record { place = 1; within = omega arith; stands = refl }
    copied of_standard is = record { place = 2; within = omega arith; stands = refl }
    copied of_variables is = absurd is
    copied of_inner is = absurd is
    copied of_nothing is = absurd is

    apart : (o p : Owner) → HasRoot layout o → HasRoot layout p → copy o ≡ copy p → o ≡ p
    apart of_headers of_headers a b same = refl
    apart of_headers of_metadata a b same = absurd (differ_names (codes "old_hdr") (codes "old_meta") refl same)
    apart of_headers of_standard a b same = absurd (differ_names (codes "old_hdr") (codes "old_sm") refl same)
    apart of_metadata of_headers a b same = absurd (differ_names (codes "old_meta") (codes "old_hdr") refl same)
    apart of_metadata of_metadata a b same = refl
    apart of_metadata of_standard a b same = absurd (differ_names (codes "old_meta") (codes "old_sm") refl same)
    apart of_standard of_headers a b same = absurd (differ_names (codes "old_sm") (codes "old_hdr") refl same)
    apart of_standard of_metadata a b same = absurd (differ_names (codes "old_sm") (codes "old_meta") refl same)
    apart of_standard of_standard a b same = refl
    apart of_headers of_variables a b same = absurd b
    apart of_headers of_inner a b same = absurd b
    apart of_headers of_nothing a b same = absurd b
    apart of_metadata of_variables a b same = absurd b
    apart of_metadata of_inner a b same = absurd b
    apart of_metadata of_nothing a b same = absurd b
    apart of_standard of_variables a b same = absurd b
    apart of_standard of_inner a b same = absurd b
    apart of_standard of_nothing a b same = absurd b
    apart of_variables p a b same = absurd a
    apart of_inner p a b same = absurd a
    apart of_nothing p a b same = absurd a

  declares : Declares c scope
  declares = record { differ = differ; apart = variables_differ; named = named; rooted = is_rooted; copied = is_copied; numbered = numbered; stored = omega arith; shape = shape; instance = instance; field = field; standard_is = λ is. refl; standard = standard; error = λ is. refl; checksum = λ is. refl } where
    named : (x : Item) → IsItem c x → sort_of scope (item_name c x) ≡ item_sort c x
    named (a_root of_headers) is = refl
    named (a_root of_metadata) is = refl
    named (a_root of_standard) is = refl
    named (a_root of_variables) is = absurd is
    named (a_root of_inner) is = absurd is
    named (a_root of_nothing) is = absurd is
    named (a_copy of_headers) is = refl
    named (a_copy of_metadata) is = refl
    named (a_copy of_standard) is = refl
    named (a_copy of_variables) is = refl
    named (a_copy of_inner) is = refl
    named (a_copy of_nothing) is = refl
    named (an_object zero) is = refl
    named (an_object (suc zero)) is = refl
    named (an_object (suc (suc j))) is = absurd (omega (arith, is))
    named (a_function text) is = each_named functions (λ t. sort_of scope t ≡ of_function) (refl, (refl, (refl, (refl, (refl, (refl, (refl, (refl, (refl, tt))))))))) text is
    named (an_enumeration hash_algorithm) is = refl
    named (an_enumeration counter_type) is = refl
    named (an_enumeration meter_type) is = refl
    named (an_enumeration clone_type) is = refl
    named the_packet is = absurd (cc is)

    is_rooted : (o : Owner) → HasRoot layout o → by_root around.roots (root o) ≡ whole o
    is_rooted of_headers is = refl
    is_rooted of_metadata is = refl
    is_rooted of_standard is = refl
    is_rooted of_variables is = absurd is
    is_rooted of_inner is = absurd is
    is_rooted of_nothing is = absurd is

    is_copied : (o : Owner) → IsCopied c o → by_root around.roots (copy o) ≡ stepped (whole of_variables) (to_member (copy o))
    is_copied of_headers is = refl
    is_copied of_metadata is = refl
    is_copied of_standard is = refl
    is_copied of_variables is = refl
    is_copied of_inner is = refl
    is_copied of_nothing is = refl

    numbered : (j : ℕ) → j < 2 → object_in world (name (object_at c.objects j).called) ≡ j
    numbered zero lt = refl
    numbered (suc zero) lt = refl
    numbered (suc (suc j)) lt = absurd (omega (arith, lt))

    shape : (j : ℕ) → j < 2 → IsShapeOf (object_at c.objects j) (shape_at layout.shapes j)
    shape zero lt = (refl, refl)
    shape (suc zero) lt = refl
    shape (suc (suc j)) lt = absurd (omega (arith, lt))

    instance : (i : ℕ) → i < 3 → HasRoot layout (owner_of (shown_in c i)) → field_kind_in (fields_in scope.layouts (root_type (owner_of (shown_in c i)))) (name_of (shown_in c i)) ≡ Some (instance_kind (shown_in c i) (type_of i) (size_of i))
    instance zero lt is = refl
    instance (suc zero) lt is = refl
    instance (suc (suc zero)) lt is = refl
    instance (suc (suc (suc i))) lt is = absurd (omega (arith, lt))

    field : (i k : ℕ) → i < 3 → HasRoot layout (owner_of (shown_in c i)) → k < length (fields_of (shown_in c i)) → field_kind_in (fields_in scope.layouts (type_of i)) (field_at (fields_of (shown_in c i)) k).called ≡ Some (bits (field_at (fields_of (shown_in c i)) k).width)
    field zero zero a is b = refl
    field zero (suc zero) a is b = refl
    field zero (suc (suc k)) a is b = absurd (omega (arith, b))
    field (suc zero) zero a is b = refl
    field (suc zero) (suc k) a is b = absurd (omega (arith, b))
    field (suc (suc zero)) zero a is b = refl
    field (suc (suc zero)) (suc k) a is b = absurd (omega (arith, b))
    field (suc (suc (suc i))) k a is b = absurd (omega (arith, a))

    standard : (which : Standard) → HasRoot layout of_standard → field_kind_in (fields_in scope.layouts standard_name) (standard_word which) ≡ Some (bits (standard_width which))
    standard IngressPort is = refl
    standard EgressSpec is = refl
    standard EgressPort is = refl
    standard PacketLength is = refl
    standard InstanceType is = refl

  -- a name is apart from all that a block sees
  abbrev AreApart : Name → Type 0
  AreApart text = (x : Item) → IsItem c x → text ≢ item_name c x

  -- these names are others
  abbrev Others : Name → List Name → Type 0
  Others text names = AllByRecursion (λ (t : Name). bytes_eq text t ≡ false) names

  abbrev all_names : List Name
  all_names = codes "hdr" ∷ codes "meta" ∷ codes "sm" ∷ codes "old_hdr" ∷ codes "old_meta" ∷ codes "old_sm" ∷ codes "r" ∷ codes "v" ∷ codes "HashAlgorithm" ∷ codes "CounterType" ∷ codes "MeterType" ∷ codes "CloneType" ∷ []

  apart_by : (text : Name) → Others text all_names → Others text functions → AreApart text
  apart_by text o fs (a_root of_headers) is = differ_names text (root of_headers) o.0
  apart_by text o fs (a_root of_metadata) is = differ_names text (root of_metadata) o.1.0
  apart_by text o fs (a_root of_standard) is = differ_names text (root of_standard) o.1.1.0
  apart_by text o fs (a_root of_variables) is = absurd is
  apart_by text o fs (a_root of_inner) is = absurd is
  apart_by text o fs (a_root of_nothing) is = absurd is
  apart_by text o fs (a_copy of_headers) is = differ_names text (copy of_headers) o.1.1.1.0
  apart_by text o fs (a_copy of_metadata) is = differ_names text (copy of_metadata) o.1.1.1.1.0
  apart_by text o fs (a_copy of_standard) is = differ_names text (copy of_standard) o.1.1.1.1.1.0
  apart_by text o fs (a_copy of_variables) is = differ_names text (copy of_variables) o.1.1.1.1.1.0
  apart_by text o fs (a_copy of_inner) is = differ_names text (copy of_inner) o.1.1.1.1.1.0
  apart_by text o fs (a_copy of_nothing) is = differ_names text (copy of_nothing) o.1.1.1.1.1.0
  apart_by text o fs (an_object zero) is = differ_names text (codes "r") o.1.1.1.1.1.1.0
  apart_by text o fs (an_object (suc zero)) is = differ_names text (codes "v") o.1.1.1.1.1.1.1.0
  apart_by text o fs (an_object (suc (suc z))) is = absurd (omega (arith, is))
  apart_by text o fs (a_function t) is = differ_names text t (each_named functions (λ (x : Name). bytes_eq text x ≡ false) fs t is)
  apart_by text o fs (an_enumeration hash_algorithm) is = differ_names text (codes "HashAlgorithm") o.1.1.1.1.1.1.1.1.0
  apart_by text o fs (an_enumeration counter_type) is = differ_names text (codes "CounterType") o.1.1.1.1.1.1.1.1.1.0
  apart_by text o fs (an_enumeration meter_type) is = differ_names text (codes "MeterType") o.1.1.1.1.1.1.1.1.1.1.0
  apart_by text o fs (an_enumeration clone_type) is = differ_names text (codes "CloneType") o.1.1.1.1.1.1.1.1.1.1.1.0
  apart_by text o fs the_packet is = absurd (cc is)

  parameter_apart : AreApart (codes "p")
  parameter_apart = apart_by (codes "p") (refl, (refl, (refl, (refl, (refl, (refl, (refl, (refl, (refl, (refl, (refl, (refl, tt)))))))))))) (refl, (refl, (refl, (refl, (refl, (refl, (refl, (refl, (refl, tt)))))))))

  pub sees : Sees c scope locals
  sees = record { declares = declares; locals = there; distinct = distinct; apart = apart } where
    there : (j : ℕ) → j < length locals → (can : Bool) × (sort_of scope (local_at locals j).called ≡ a_value (local_at locals j).kind can)
    there zero lt = (false, refl)
    there (suc j) lt = absurd (omega (arith, lt))

    distinct : AreDistinct locals
    distinct zero zero a b apart = absurd (apart refl)
    distinct zero (suc k) a b apart = absurd (omega (arith, b))
    distinct (suc j) k a b apart = absurd (omega (arith, a))

    apart : (x : Item) → IsItem c x → HasNone locals (item_name c x)
    apart x is zero lt = parameter_apart x is
    apart x is (suc j) lt = absurd (omega (arith, lt))

  pub spares : Spares c locals 0
  spares = record {
    free = λ a i le. record { locals = none a i; items = apart a i };
    differ = λ a i d j same. (cc same, cc same);
  } where
    none : (a i : ℕ) → HasNone locals (c.spare a i)
    none a i zero lt = differ_names (codes "p") (c.spare a i) refl
    none a i (suc j) lt = absurd (omega (arith, lt))

    apart : (a i : ℕ) → AreApart (c.spare a i)
    apart a i = apart_by (c.spare a i) (refl, (refl, (refl, (refl, (refl, (refl, (refl, (refl, (refl, (refl, (refl, (refl, tt)))))))))))) (refl, (refl, (refl, (refl, (refl, (refl, (refl, (refl, (refl, tt)))))))))

  -- a state, and a moment that stands beside it

  abbrev state : State
  state = record {
    instances =
        record { elements = record { valid = true; numbers = 7 ∷ 300 ∷ [] } ∷ []; place = 0 }
        ∷ record { elements = record { valid = true; numbers = 9 ∷ [] } ∷ record { valid = false; numbers = 0 ∷ [] } ∷ []; place = 1 }
        ∷ record { elements = record { valid = true; numbers = 3 ∷ [] } ∷ []; place = 0 } ∷ [];
    unparsed = 1 ∷ 2 ∷ [];
    ingress_port = 5;
    egress_spec = 0;
    egress_port = 0;
    packet_length = 64;
    instance_type = 0;
    clone_i2e = None;
    clone_e2e = None;
    resubmit = None;
    recirculate = None;
    events = [];
  }

  abbrev pub m : Moment14
  m = record { state = state; store = record { shapes = layout.shapes; cells = Numbers (11 ∷ 22 ∷ []) ∷ Colours (1 ∷ []) ∷ [] } }

  abbrev headers : Value
  headers = a_member (codes "h") (shown_value the_header (instance_at state 0)) (a_member (codes "t") (shown_value the_stack (instance_at state 1)) no_members)

  abbrev metadata : Value
  metadata = a_member (codes "m") (shown_value the_metadata (instance_at state 2)) no_members

  abbrev standard_metadata : Value
  standard_metadata =
      a_member (codes "ingress_port") (a_number 9 5) (a_member (codes "egress_spec") (a_number 9 0) (a_member (codes "egress_port") (a_number 9 0) (a_member (codes "packet_length") (a_number 32 64) (a_member (codes "instance_type") (a_number 32 0) (a_member (codes "parser_error") (an_error 0) (a_member (codes "checksum_error") (a_number 1 0) no_members))))))

  abbrev pub values : List Value
  values = a_number 8 77 ∷ []

  abbrev pub n : Moment
  n = record {
    frame = record {
      headers = headers;
      metadata = metadata;
      standard = standard_metadata;
      variables = inner_of variables (no_members ∷ no_members ∷ no_members ∷ []);
      inner = inner_of locals values;
      clone_i2e = None;
      clone_e2e = None;
      resubmit = None;
      recirculate = None;
      events = [];
    };
    store = m.store;
    unparsed = 1 ∷ 2 ∷ [];
    emitted = [];
    work = 4;
    stopped = None;
    hit = None;
  }

  pub given : AreGiven c.parameters locals values (77 ∷ [])
  given zero lt = record { holds = record { place = 0; within = omega arith; stands = refl; holds = refl }; fits = omega arith }
  given (suc j) lt = absurd (omega (arith, lt))

  one_bound : (k : ℕ) → k < 1 → (number width : ℕ) → number < 2 ^ width → (called : Name) → get_or (number ∷ []) k 0 < 2 ^ (field_at (bit_field called width ∷ []) k).width
  one_bound zero lt number width fits called = fits
  one_bound (suc k) lt number width fits called = absurd (omega (arith, lt))

  shaped : Shaped layout state
  shaped = record { count = refl; sizes = sizes; places = places; each = each; standard = bounds } where
    sizes : (i : ℕ) → i < 3 → length (instance_at state i).elements ≡ size_of i
    sizes zero lt = refl
    sizes (suc zero) lt = refl
    sizes (suc (suc zero)) lt = refl
    sizes (suc (suc (suc i))) lt = absurd (omega (arith, lt))

    places : (i : ℕ) → i < 3 → (instance_at state i).place ≤ size_of i
    places zero lt = omega arith
    places (suc zero) lt = omega arith
    places (suc (suc zero)) lt = omega arith
    places (suc (suc (suc i))) lt = absurd (omega (arith, lt))

    each : (i e : ℕ) → i < 3 → e < size_of i → IsShaped (shown_in c i) (instance_at state i) e
    each zero zero a b = record { which = refl; count = refl; bounds = bounds_h } where
      bounds_h : (k : ℕ) → k < 2 → get_or (7 ∷ 300 ∷ []) k 0 < 2 ^ (field_at (fields_of the_header) k).width
      bounds_h zero lt = omega arith
      bounds_h (suc zero) lt = omega arith
      bounds_h (suc (suc k)) lt = absurd (omega (arith, lt))
    each zero (suc e) a b = absurd (omega (arith, b))
    each (suc zero) zero a b = record { which = tt; count = refl; bounds = λ k lt. one_bound k lt 9 8 (omega arith) (codes "z") }
    each (suc zero) (suc zero) a b = record { which = tt; count = refl; bounds = λ k lt. one_bound k lt 0 8 (omega arith) (codes "z") }
    each (suc zero) (suc (suc e)) a b = absurd (omega (arith, b))
    each (suc (suc zero)) zero a b = record { which = (refl, refl); count = refl; bounds = λ k lt. one_bound k lt 3 4 (omega arith) (codes "q") }
    each (suc (suc zero)) (suc e) a b = absurd (omega (arith, b))
    each (suc (suc (suc i))) e a b = absurd (omega (arith, a))

    bounds : (which : Standard) → standard_number state which < 2 ^ standard_width which
    bounds IngressPort = omega arith
    bounds EgressSpec = omega arith
    bounds EgressPort = omega arith
    bounds PacketLength = omega arith
    bounds InstanceType = omega arith

  agrees : Agrees layout.names state n.frame
  agrees = record { instances = record { count = refl; each = each }; standard = numbers; requests = requests } where
    each : (k : ℕ) → k < 3 → IsShown n.frame (shown_in c k) (instance_at state k)
    each zero lt = refl
    each (suc zero) lt = refl
    each (suc (suc zero)) lt = refl
    each (suc (suc (suc k))) lt = absurd (omega (arith, lt))

    numbers : (which : Standard) → member_in n.frame.standard (standard_word which) ≡ a_number (standard_width which) (standard_number state which)
    numbers IngressPort = refl
    numbers EgressSpec = refl
    numbers EgressPort = refl
    numbers PacketLength = refl
    numbers InstanceType = refl

    requests : (kind : RequestKind) → RequestsAgree [] (request14 state kind) (request16 n.frame kind)
    requests CloneI2E = tt
    requests CloneE2E = tt
    requests Resubmit = tt
    requests Recirculate = tt

  below : All (λ (number : ℕ). number < 2 ^ 32) (11 ∷ 22 ∷ [])
  below zero d lt = omega arith
  below (suc zero) d lt = omega arith
  below (suc (suc k)) d lt = absurd (omega (arith, lt))

  coloured : All (λ (colour : ℕ). colour ≤ 2) (1 ∷ [])
  coloured zero d lt = omega arith
  coloured (suc k) d lt = absurd (omega (arith, lt))

  pub stands : Stands layout locals values (record { error = 0; checksum = 0; emitted = []; hit = None }) m n
  stands = record {
    both = record { packet = record { agrees = agrees; unparsed = refl; events = refl; runs = refl }; store = refl };
    shaped = shaped;
    stored = record { shapes_are = refl; is_store = record { lengths = refl; fits = cells } };
    inner = refl;
    count = refl;
    variables = record { values = no_members ∷ no_members ∷ no_members ∷ []; count = refl; is = refl; whole = whole };
    members = there;
    error = refl;
    checksum = refl;
    emitted = refl;
    hit = refl;
  } where
    cells : (j : ℕ) → j < 2 → FitsShape (shape_at m.store.shapes j) (cells_at m.store j)
    cells zero lt = (refl, below)
    cells (suc zero) lt = coloured
    cells (suc (suc j)) lt = absurd (omega (arith, lt))

    whole : (j : ℕ) → j < 3 → IsWhole (value_at (no_members ∷ no_members ∷ no_members ∷ []) j)
    whole zero lt x = refl
    whole (suc zero) lt x = refl
    whole (suc (suc zero)) lt x = refl
    whole (suc (suc (suc j))) lt x = absurd (omega (arith, lt))

    there : (o : Owner) → HasRoot layout o → HasMembers (members o) (owned n.frame o)
    there of_headers is = (refl, (refl, tt))
    there of_metadata is = (refl, tt)
    there of_standard is = (refl, (refl, (refl, (refl, (refl, (refl, (refl, tt)))))))
    there of_variables is = absurd is
    there of_inner is = absurd is
    there of_nothing is = absurd is
