-- How a packet came here stays as it was, whatever runs.
use Rattle.std.proofs.Common.{◌≡◌, ℕ, Bool, true, false, cond, Option, Some, None, List, [], ◌∷◌, sum, refl, sym, ◌∙◌, subst}
use Rattle.std.specs.Prelude.{ℤ, codes}
use Rattle.std.specs.List.{AllByRecursion}
use Rattle.std.specs.Option.{option_map_or}
use Rattle.fabric.specs.declared.items.RequestKind.{RequestKind}
use Rattle.fabric.specs.declared.items.RequestKind.TheVariants.{CloneI2E, CloneE2E, Resubmit, Recirculate}
use Rattle.p414_syntax.specs.declared.calculations.CalculatedField.{CalculatedField}
use Rattle.p414_syntax.specs.declared.parts.Index.{Index}
use Rattle.p414_syntax.specs.declared.parts.Index.TheVariants.{At, Next, Last}
use Rattle.p414_syntax.specs.declared.parts.Inst.{Inst}
use Rattle.p414_syntax.specs.declared.parts.Ref.{Ref}
use Rattle.p414_syntax.specs.declared.syntax.Decl.{Decl}
use Rattle.p414_syntax.specs.declared.syntax.Decl.TheVariants as decl
use Rattle.p414_syntax.specs.declared.syntax.Sort.TheVariants as sort
use Rattle.p414_syntax.specs.Tree.{Stmt}
use Rattle.p414_syntax.specs.Names.{Name, declared_in}
use Rattle.p414_syntax.specs.Primitives.{is_standard}
use Rattle.p414_syntax.specs.Arguments.{Invocation}
use Rattle.p414_syntax.specs.Lists.{calculated_fields}
use Rattle.p414_sem.specs.declared.requests.Request14.{Request14}
use Rattle.p414_sem.specs.declared.standard.Standard.TheVariants.{IngressPort, EgressSpec, EgressPort, PacketLength, InstanceType}
use Rattle.p414_sem.specs.declared.parsed.Parsed.TheVariants.{OutOfPacket, OutOfBounds}
use Rattle.p414_sem.specs.Wholes.{wrapped}
use Rattle.p414_sem.specs.Slots.{field_target, Slot, standard, declared, slot_of, standard_field, declared_slot}
use Rattle.p414_sem.specs.State.{State, header_at, is_valid, is_valid_at, header_of, is_live, with_header, with_field, with_request, written, cleared}
use Rattle.p414_sem.specs.Packing.{widths_of}
use Rattle.p414_sem.specs.Expanded.{Expanded, primitives_at}
use Rattle.p414_sem.specs.Operations.{Primitive, write, add_header, remove_header, copy_header, push, pop, count_cell, write_cell, execute_meter, ask, nothing, primitive_of}
use Rattle.p414_sem.specs.Effects.{Moment, Effect, put_field, put_header, put_stack, put_cell, count_packet, take_colour, put_request, effects, fallen, all_fallen}
use Rattle.p414_sem.specs.Controls.{Setting, control_run}
use Rattle.p414_sem.specs.CalculatedFields.{updated}
use Rattle.p414_sem.specs.Parsing.{field_named, begun, goes_on, stops, has_bits, extracted_element, is_full, moved, filled, taken, extracted, most_states, parsed}
use Rattle.lower_laws_states.specs.Arrival.{SameArrival, IsWritable, EffectKeeps, PrimitiveKeeps, StatementKeeps, InstanceKeeps, ProgramKeeps}
use Rattle.lower_laws_states.proofs.Members.{has_each}
use Rattle.lower_laws_states.proofs.Folds.{all_fallen_keeps, acted_keeps, control_keeps, initialized_keeps, updated_keeps, standing, walk_keeps}

pub same : (s : State) → SameArrival s s
same s = refl

either_same : (b : Bool) (s t u : State) → SameArrival s t → SameArrival s u → SameArrival s (cond b t u)
either_same true s t u this other = this
either_same false s t u this other = other

-- a field of another instance is none of these
pub elsewhere : (ds : List Decl) (r : Ref) → is_standard r.instance.name ≡ false → IsWritable (slot_of ds r)
elsewhere ds r other = subst (λ (b : Bool). IsWritable (cond b (option_map_or standard (standard_field r.field) (declared_slot ds r)) (declared_slot ds r))) (sym other) tt

-- effects

pub written_same : (s : State) (slot : Slot) (n : ℕ) → IsWritable slot → SameArrival s (written s slot n)
written_same s (standard EgressSpec) n is = same s
written_same s (standard IngressPort) n is = absurd is
written_same s (standard EgressPort) n is = absurd is
written_same s (standard PacketLength) n is = absurd is
written_same s (standard InstanceType) n is = absurd is
written_same s (declared i e f) n is = either_same (is_valid s i e) s (with_header s i e (with_field (header_at s i e) f n)) s (same s) (same s)

requested_same : (s : State) (kind : RequestKind) (r : Option Request14) → SameArrival s (with_request s kind r)
requested_same s CloneI2E r = same s
requested_same s CloneE2E r = same s
requested_same s Resubmit r = same s
requested_same s Recirculate r = same s

fallen_same : (m : Moment) (e : Effect) → EffectKeeps e → SameArrival m.state (fallen m e).state
fallen_same m (put_field slot n) is = written_same m.state slot n is
fallen_same m (put_header at h) is = same m.state
fallen_same m (put_stack i elements) is = same m.state
fallen_same m (put_cell object index n) is = same m.state
fallen_same m (count_packet object index) is = same m.state
fallen_same m (take_colour object index target live) is = either_same live m.state _ m.state (written_same m.state target.slot _ is) (same m.state)
fallen_same m (put_request kind request) is = requested_same m.state kind (Some request)

no_more : (b : Bool) (e : Effect) → EffectKeeps e → AllByRecursion EffectKeeps (cond b (e ∷ []) [])
no_more true e keeps = (keeps, tt)
no_more false e keeps = tt

unless : (b : Bool) (e : Effect) → EffectKeeps e → AllByRecursion EffectKeeps (cond b [] (e ∷ []))
unless true e keeps = tt
unless false e keeps = (keeps, tt)

effects_keep : (ds : List Decl) (arguments : List ℕ) (r : Moment) (p : Primitive) → PrimitiveKeeps p → AllByRecursion EffectKeeps (effects ds arguments r p)
effects_keep ds arguments r (write sums target term) is = no_more (is_live r.state target.slot) (put_field target.slot _) is
effects_keep ds arguments r (add_header at) is = unless (is_valid_at r.state at) (put_header at (cleared true (header_of r.state at))) tt
effects_keep ds arguments r (remove_header at) is = (tt, tt)
effects_keep ds arguments r (copy_header at from) is = (tt, tt)
effects_keep ds arguments r (push i count) is = (tt, tt)
effects_keep ds arguments r (pop i count) is = (tt, tt)
effects_keep ds arguments r (count_cell object index) is = (tt, tt)
effects_keep ds arguments r (write_cell object index value) is = (tt, tt)
effects_keep ds arguments r (execute_meter object index target) is = (is, tt)
effects_keep ds arguments r (ask kind session list) is = (tt, tt)
effects_keep ds arguments r nothing is = tt

-- actions, tables, controls

module _ (c : Setting) (keeps : ProgramKeeps c.decls c.expanded) where
  one_same : (s : State) (arguments : List ℕ) (r m : Moment) (i : Invocation) → SameArrival s r.state → SameArrival s m.state → PrimitiveKeeps (primitive_of c.decls c.expanded i) → SameArrival s (all_fallen m (effects c.decls arguments r (primitive_of c.decls c.expanded i))).state
  one_same s arguments r m i read is keep = all_fallen_keeps (SameArrival s) EffectKeeps (λ n e before fit. fallen_same n e fit ∙ before) _ m is (effects_keep c.decls arguments r (primitive_of c.decls c.expanded i) keep)

  pub control_same : (body : Stmt) (m : Moment) → SameArrival m.state (control_run c body m).state
  control_same body m =
      control_keeps c (SameArrival m.state)
      (λ action arguments n is. acted_keeps c.decls c.expanded arguments (SameArrival m.state) (λ i. PrimitiveKeeps (primitive_of c.decls c.expanded i)) (one_same m.state arguments) c.rule (primitives_at c.expanded action) n is (keeps.actions action))
      (λ name t n e is. is) body m (same m.state)

-- the parser and calculated fields

module _ (ds : List Decl) where
  -- a field that is written by its name
  named_same : (before : State) (r : Ref) (z : ℤ) (s : State) → SameArrival before s → IsWritable (slot_of ds r) → SameArrival before (written s (field_target ds r).slot (wrapped (field_target ds r).width z))
  named_same before r z s is fit = written_same s (slot_of ds r) (wrapped (field_target ds r).width z) fit ∙ is

  moved_same : (name : Name) (ix : Option Index) (s : State) → SameArrival s (moved ds (record { name = name; index = ix }) s)
  moved_same name None s = same s
  moved_same name (Some (At n)) s = same s
  moved_same name (Some Last) s = same s
  moved_same name (Some Next) s = same s

  extracted_so : (before : State) (i : Inst) (s : State) → SameArrival before s → SameArrival before (standing (extracted ds i s))
  extracted_so before i s is = by (is_full ds s i) (has_bits s (sum (widths_of ds i.name))) where
    by : (full enough : Bool) → SameArrival before (standing (cond full (stops OutOfBounds s) (cond enough (goes_on (Some (record { instance = i; element = extracted_element ds s i })) (moved ds i (taken ds i (filled ds i s)))) (stops OutOfPacket s))))
    by true enough = is
    by false false = is
    by false true = moved_same i.name i.index (taken ds i (filled ds i s)) ∙ is

  module _ (x : Expanded) (keeps : ProgramKeeps ds x) where
    pub parsed_same : (s : State) → SameArrival s (parsed ds s).state
    unfolding parsed
    parsed_same s =
        let P = SameArrival s in
        let W : Ref → Type 0 = λ r. IsWritable (slot_of ds r) in
        let xs = declared_in sort.Instance ds in
        walk_keeps ds P W (named_same s) (StatementKeeps ds) (λ i t is fit. extracted_so s i t is) (λ r v fit. fit) keeps.states (most_states ds s) (codes "start") (begun ds s)
        (initialized_keeps ds P W (named_same s) xs (λ y h field. elsewhere ds (field_named y.name field) (has_each InstanceKeeps xs (decl.Metadata y) keeps.instances h)) _ (same s))

    pub updated_same : (s : State) → SameArrival s (updated ds x s)
    updated_same s =
        updated_keeps ds (SameArrival s) (λ r. IsWritable (slot_of ds r)) (named_same s) x (λ f h. has_each (λ (g : CalculatedField). IsWritable (slot_of ds g.field)) (calculated_fields ds) f keeps.calculated h) s (same s)
