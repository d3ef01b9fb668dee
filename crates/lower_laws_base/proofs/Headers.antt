-- Headers and stacks that are written whole.
use Rattle.std.proofs.Common.{◌≡◌, ℕ, ◌<◌, ◌^◌, Bool, List, [], ◌∷◌, length, get_or, map, refl, sym, ap, ◌∙◌, subst}
use Rattle.std.specs.Prelude.{replicate}
use Rattle.p414_sem.specs.Slots.{Element}
use Rattle.p414_sem.specs.State.{Header as Header14, Instance, State, instance_at, header_of, with_header, with_instance, cleared as cleared14}
use Rattle.p414_sem.specs.Effects.{Moment as Moment14}
use Rattle.p416_syntax.specs.Tree.{assign}
use Rattle.p416_syntax.specs.Names.{Name}
use Rattle.p416_syntax.specs.Scopes.{Scope}
use Rattle.v1_core.specs.Values.{Field, Header, Value, a_header, cleared, cleared_field, to_member, to_element, fitted, with_part}
use Rattle.v1_core.specs.Frames.{Frame, Moment, of_headers, ticked, put_at, write, with_owned}
use Rattle.v1_core.specs.Expressions.{valued}
use Rattle.v1_core.specs.Statements.{no_label, run}
use Rattle.agreement_of_meanings.specs.Shown.{NamedField, Shown, as_header, as_stack, as_metadata, fields_of, field_at, shown_fields, shown_header, shown_value, element_reference, instance_reference, IsShown}
use Rattle.agreement_of_meanings.specs.Agrees.{Agrees}
use Rattle.agreement_of_meanings.proofs.Written.{instance_put, instance_part, instance_written, with_shown}
use Rattle.agreement_of_meanings.proofs.Extracted.{with_element, element_put}
use Rattle.lower_laws_base.specs.Context.{Local, shown_in, instances_of, Lowering, words_of, At, now, element_kind, Aside, Stands, Looks, Sees, IsHeaderPart}
use Rattle.lower_laws_base.specs.Mirror.{part_exp}
use Rattle.lower_laws_base.proofs.Means.{means_part}
use Rattle.lower_laws_base.proofs.Shapes.{FitsThere, not_metadata, InstanceFits, shaped_header, shaped_instance, header_fits}
use Rattle.lower_laws_base.proofs.States.{Leaves, leaves_headers, leaves_metadata, stands_moved, stands_ticked, stands_at}
use Rattle.lower_laws_base.proofs.Writes.{assigns, header_seen, means_header}
use Rattle.lower_laws_base.proofs.Running.{Done}

-- fields that are all 0

cleared_fields : (fields : List NamedField) (numbers : List ℕ) → map cleared_field (shown_fields fields numbers) ≡ shown_fields fields (replicate (length numbers) 0)
cleared_fields [] numbers = refl
cleared_fields (f ∷ fields) [] = refl
cleared_fields (f ∷ fields) (n ∷ numbers) =
    ap (λ (rest : List Field). let x : Field = record { called = f.called; width = f.width; number = 0 } in x ∷ rest) (cleared_fields fields numbers)

pub cleared_shown : (fields : List NamedField) (valid : Bool) (h : Header14) → cleared valid (shown_header fields h) ≡ shown_header fields (cleared14 valid h)
cleared_shown fields valid h = ap (λ (fs : List Field). let x : Header = record { valid = valid; fields = fs } in x) (cleared_fields fields h.numbers)

pub leaves_element : (x : Shown) (e : ℕ) (v : Value) (f : Frame) → Leaves f (write (element_reference x e) v f)
leaves_element (as_header called fields) e v f = leaves_headers f called [] v
leaves_element (as_stack called fields) e v f = leaves_headers f called (to_element e ∷ []) v
leaves_element (as_metadata called fields) e v f = leaves_metadata f called [] v

pub leaves_instance : (x : Shown) (v : Value) (f : Frame) → Leaves f (write (instance_reference x) v f)
leaves_instance (as_header called fields) v f = leaves_headers f called [] v
leaves_instance (as_stack called fields) v f = leaves_headers f called [] v
leaves_instance (as_metadata called fields) v f = leaves_metadata f called [] v

-- a stack that is written whole
pub stack_put : (f : Frame) (called : Name) (fields : List NamedField) (old new : Instance) → IsShown f (as_stack called fields) old → write (instance_reference (as_stack called fields)) (shown_value (as_stack called fields) new) f ≡ with_shown f (as_stack called fields) new
stack_put f called fields old new shown =
    ap (λ p. with_owned f of_headers (with_part f.headers (to_member called) (fitted p (shown_value (as_stack called fields) new)))) (instance_part f (as_stack called fields) old shown)
    ∙ instance_written f (as_stack called fields) old new shown

abbrev pub with_state : Moment14 → State → Moment14
with_state m s = record { state = s; store = m.store }

module _ (c : Lowering) (s : Scope) (ls : List Local) (sees : Sees c s ls) (vs : List Value) (k : Aside) (m : Moment14) (n : Moment) (stands : Stands c.layout ls vs k m n) where
  -- a header that fits, put in place of another one in both
  pub header_put : (at : Element) → IsHeaderPart c.layout at → (h : Header14) → FitsThere (shown_in c at.instance) h → Stands c.layout ls vs k (with_state m (with_header m.state at.instance at.element h)) (put_at (element_reference (shown_in c at.instance) at.element) (a_header (shown_header (fields_of (shown_in c at.instance)) h)) n)
  header_put at is h fits =
      let x = shown_in c at.instance in
      let i = instance_at m.state at.instance in
      let v = a_header (shown_header (fields_of x) h) in
      let agrees = stands.both.packet.agrees in
      stands_moved c.layout ls vs k m n stands (with_header m.state at.instance at.element h) (write (element_reference x at.element) v n.frame) (leaves_element x at.element v n.frame)
      (subst (Agrees c.layout.names (with_header m.state at.instance at.element h)) (sym (element_put n.frame x i at.element h (agrees.instances.each at.instance is.0.0) is.1 (subst (λ z. at.element < z) (sym (stands.shaped.sizes at.instance is.0.0)) is.0.1) (stands.shaped.each at.instance at.element is.0.0 is.0.1).which))
      (instance_put c.layout.names m.state n.frame at.instance x (with_element i at.element h) sees.declares.differ is.0.0 refl agrees))
      (shaped_header c.layout m.state stands.shaped at h is.0.0 is.0.1 fits (not_metadata x h is.1)) refl refl

  -- a stack that fits, put in place of another one in both
  pub stack_stands : (i : ℕ) (called : Name) (fields : List NamedField) → i < length (instances_of c) → shown_in c i ≡ as_stack called fields → (new : Instance) → InstanceFits (as_stack called fields) (c.layout.size_of i) new → Stands c.layout ls vs k (with_state m (with_instance m.state i new)) (put_at (instance_reference (as_stack called fields)) (shown_value (as_stack called fields) new) n)
  stack_stands i called fields lt is new fits =
      let x = as_stack called fields in
      let agrees = stands.both.packet.agrees in
      stands_moved c.layout ls vs k m n stands (with_instance m.state i new) (write (instance_reference x) (shown_value x new) n.frame) (leaves_instance x (shown_value x new) n.frame)
      (subst (Agrees c.layout.names (with_instance m.state i new)) (sym (stack_put n.frame called fields (instance_at m.state i) new (subst (λ z. IsShown n.frame z (instance_at m.state i)) is (agrees.instances.each i lt))))
      (instance_put c.layout.names m.state n.frame i x new sees.declares.differ lt is agrees))
      (shaped_instance c.layout m.state stands.shaped i new lt (subst (λ z. InstanceFits z (c.layout.size_of i) new) (sym is) fits)) refl refl

-- a header of the packet, assigned from where operands are read
module _ (c : Lowering) (s : Scope) (ls : List Local) (vs : List Value) (arguments : List ℕ) (at : At) (r : State) (k : Aside) (m : Moment14) (n : Moment) (stands : Stands c.layout ls vs k m n) (looks : Looks c s ls vs arguments at r n.frame) where
  header_moment : (to from : Element) → IsHeaderPart c.layout to → IsHeaderPart c.layout from → fields_of (shown_in c from.instance) ≡ fields_of (shown_in c to.instance) → run c.world s no_label (assign (part_exp (words_of c) now to) (part_exp (words_of c) at from)) n ≡ put_at (element_reference (shown_in c to.instance) to.element) (a_header (shown_header (fields_of (shown_in c to.instance)) (header_of r from))) (ticked n)
  header_moment to from is its same =
      let h = header_of r from in
      let x = shown_in c to.instance in
      assigns c.world s (part_exp (words_of c) now to) (part_exp (words_of c) at from) (element_kind x (c.type_of to.instance)) (element_reference x to.element) (a_header (shown_header (fields_of x) h)) n stands.both.packet.runs
      (means_part c s ls looks.sees vs (ticked n) stands.inner now tt to is.0)
      (λ p. (means_header c s ls vs arguments at r (ticked n) looks from its).value p ∙ ap (λ v. valued v (ticked n)) (header_seen c s ls vs arguments at r (ticked n) looks from its ∙ ap (λ (fs : List NamedField). a_header (shown_header fs h)) same))

  pub header_assigned : (to from : Element) → IsHeaderPart c.layout to → IsHeaderPart c.layout from → fields_of (shown_in c from.instance) ≡ fields_of (shown_in c to.instance) → Stands c.layout ls vs k (with_state m (with_header m.state to.instance to.element (header_of r from))) (run c.world s no_label (assign (part_exp (words_of c) now to) (part_exp (words_of c) at from)) n)
  header_assigned to from is its same =
      let h = header_of r from in
      let x = shown_in c to.instance in
      let old = header_fits c.layout r looks.seen.shaped from.instance from.element its.0.0 its.0.1 in
      let fits : FitsThere x h = record {
        count = old.count ∙ ap length same;
        bounds = subst (λ (fs : List NamedField). (j : ℕ) → j < length fs → get_or h.numbers j 0 < 2 ^ (field_at fs j).width) same old.bounds;
      } in
      stands_at c.layout ls vs k _ _ _ _ refl (header_moment to from is its same)
      (header_put c s ls looks.sees vs k m (ticked n) (stands_ticked c.layout ls vs k m n stands) to is h fits)

  pub header_copied : (to from : Element) → IsHeaderPart c.layout to → IsHeaderPart c.layout from → fields_of (shown_in c from.instance) ≡ fields_of (shown_in c to.instance) → Done c s ls vs k (assign (part_exp (words_of c) now to) (part_exp (words_of c) at from)) (with_state m (with_header m.state to.instance to.element (header_of r from))) n
  header_copied to from is its same = record {
    stands = header_assigned to from is its same;
    variables = ap (λ (z : Moment). z.frame.variables) (header_moment to from is its same) ∙ (leaves_element (shown_in c to.instance) to.element _ n.frame).variables;
  }
