-- The deparser.
use Rattle.p414_sem.specs.Effects.{Moment as Moment14}
use Rattle.p416_syntax.specs.Kinds.{packet_out}
use Rattle.agreement_of_meanings.specs.Shown.{instance_reference}
use Rattle.lower_laws_base.specs.Context.{StateLayout, HasRoot, Lowering, words_of, now, instances_of, shown_in}
use Rattle.lower_laws_base.specs.Mirror.{instance_exp}
use Rattle.lower_laws_base.proofs.Means.{means_instance}
use Rattle.lower_laws_base.specs.Between.{Beside}
use Rattle.lower_laws_base.specs.Types.{DeclsShown}
use Rattle.lower_laws_parser.specs.Deparsing.{emit_stmt, emits_from, emits, Deparses, AllWidths, HeadersStand}
use Rattle.lower_laws_parser.proofs.Octets.{instance_alike, all_count}
use Rattle.lower_laws_parser.proofs.Extracts.{packet_kind}
use Rattle.std.proofs.Common.{◌≡◌, ℕ, ◌<◌, false, cond, Some, None, List, [], ◌∷◌, ◌++◌, length, get_or, filter_map, refl, sym, ap, ap₂, ◌∙◌, subst, arith, append_assoc}
use Rattle.std.specs.Prelude.{codes, is_some, flat_map}
use Rattle.std.specs.Option.{option_map_or}
use Rattle.std.proofs.lemmas.List.Concat.{flat_map-cons}
use Rattle.std.proofs.lemmas.Option.{slice_get-get_or}
use Rattle.std.proofs.lemmas.List.{append-nil}
use Rattle.p414_syntax.specs.declared.syntax.Decl.{Decl}
use Rattle.p414_syntax.specs.declared.syntax.Sort.TheVariants as sort
use Rattle.p414_syntax.specs.Names.{declared_in}
use Rattle.p414_sem.specs.State.{State, instance_at}
use Rattle.p414_sem.specs.Expanded.{Expanded}
use Rattle.p414_sem.specs.Passes.{octets_of as octets_of14, octets_at, deparsed}
use Rattle.p416_syntax.specs.declared.controls.Control16.{Control16}
use Rattle.p416_syntax.specs.Tree.{name, no_arguments, argument, Stmt16, no_statements, then}
use Rattle.p416_syntax.specs.Names.{Name}
use Rattle.p416_syntax.specs.Kinds.{Kind}
use Rattle.p416_syntax.specs.Scopes.{Scope}
use Rattle.p416_syntax.specs.Calls.{emitted}
use Rattle.p416_syntax.specs.Expressions.{kind_of}
use Rattle.p416_syntax.specs.Statements.{behind}
use Rattle.v1_core.specs.declared.block.Block.TheVariants.{Deparse}
use Rattle.v1_core.specs.Values.{no_members}
use Rattle.v1_core.specs.Frames.{Frame, Moment, of_headers, ticked, read}
use Rattle.v1_core.specs.Surroundings.{Setting, World}
use Rattle.v1_core.specs.Expressions.{Valued}
use Rattle.v1_core.specs.Calls.{method_call}
use Rattle.v1_core.specs.Externs.Packets.{octets_of, emit}
use Rattle.v1_core.specs.Statements.{no_label, run}
use Rattle.v1_core.specs.Blocks.{control_at, around_control, control_world, var_in, begun, ended, with_variables, run_control, run_block, control16}
use Rattle.v1_core.specs.Passes.{octets_left}
use Rattle.agreement_of_meanings.specs.Shown.{Shown, as_header, as_stack, as_metadata, is_metadata, owner_of, shown_value}
use Rattle.agreement_of_meanings.proofs.Written.{instance_part}

-- behind some statements that emit: nothing else changes
pub record Emits (m n : Moment) (xs : List ℕ) : Type 0 where
  pub frame : n.frame ≡ m.frame
  pub store : n.store ≡ m.store
  pub unparsed : n.unparsed ≡ m.unparsed
  pub stopped : n.stopped ≡ m.stopped
  pub emitted : n.emitted ≡ m.emitted ++ xs

pub headers_have : (g : StateLayout) (x : Shown) → HasRoot g of_headers → is_metadata x ≡ false → HasRoot g (owner_of x)
headers_have g (as_header called fields) has plain = has
headers_have g (as_stack called fields) has plain = has
headers_have g (as_metadata called fields) has plain = absurd (cc plain)

-- one statement
emit_runs : (c : Lowering) (packet : Name) (s : Scope) → Deparses c packet s → (n : Moment) → n.frame.inner ≡ no_members → n.stopped ≡ None → (k : ℕ) → k < length (instances_of c) → is_metadata (shown_in c k) ≡ false → run c.world s no_label (emit_stmt (words_of c) packet k) n ≡ emit (read n.frame (instance_reference (shown_in c k))) (ticked n)
emit_runs c packet s deparses n inner runs k lt plain =
    let e = instance_exp (words_of c) now (shown_in c k) in
    ap (λ b. cond b n (method_call c.world s (kind_of s (name packet)) (name packet) (codes "emit") (argument no_arguments e) (ticked n))) (ap is_some runs)
    ∙ ap (λ (z : Kind). method_call c.world s z (name packet) (codes "emit") (argument no_arguments e) (ticked n)) (packet_kind c s deparses.sees packet packet_out deparses.packet_is)
    ∙ ap (λ (v : Valued). emit v.value v.moment) ((means_instance c s [] deparses.sees [] (ticked n) inner now tt k lt (headers_have c.layout (shown_in c k) deparses.headers plain)).value emitted)

module _ (c : Lowering) (packet : Name) (s : Scope) (deparses : Deparses c packet s) (ds : List Decl) (shown : DeclsShown c.layout ds) (widths : AllWidths c.layout ds) (x14 : Moment14) (m : Moment) (beside : Beside c.layout 0 0 x14 m) where
  abbrev t : State
  t = x14.state

  -- an instance as it stands in the frame
  octets_alike : (k : ℕ) → k < length c.layout.names.instances → is_metadata (shown_in c k) ≡ false → octets_of (read m.frame (instance_reference (shown_in c k))) ≡ octets_at ds t k
  octets_alike k lt plain = by (declared_in sort.Instance ds) refl where
    there : read m.frame (instance_reference (shown_in c k)) ≡ shown_value (shown_in c k) (instance_at t k)
    there = instance_part m.frame (shown_in c k) (instance_at t k) (beside.both.packet.agrees.instances.each k lt)

    by : (all : List Decl) → declared_in sort.Instance ds ≡ all → octets_of (read m.frame (instance_reference (shown_in c k))) ≡ octets_at ds t k
    by [] e = absurd (omega (arith, ap length e, shown.all, lt))
    by (d ∷ rest) e =
        ap octets_of there
        ∙ instance_alike ds (get_or (declared_in sort.Instance ds) k d) (shown_in c k) (c.layout.size_of k) (instance_at t k) plain (shown.each k lt d) (widths k lt d) (beside.shaped.sizes k lt)
        (all_count _ (instance_at t k).elements (λ e within. (beside.shaped.each k e lt (omega (arith, within, beside.shaped.sizes k lt))).count))
        ∙ ap (λ z. option_map_or (λ (y : Decl). octets_of14 ds y (instance_at t k)) z []) (sym (slice_get-get_or (declared_in sort.Instance ds) k d (omega (arith, shown.all, lt))))

  record Done (x : Stmt16) (xs : List ℕ) : Type 0 where
    stays : behind x s ≡ s
    emits_so : Emits m (run c.world s no_label x m) xs

  one_more : (k : ℕ) (x : Stmt16) (xs : List ℕ) → k < length c.layout.names.instances → is_metadata (shown_in c k) ≡ false → Done x xs → Done ((then) x (emit_stmt (words_of c) packet k)) (xs ++ octets_at ds t k)
  one_more k x xs lt plain done =
      let n = run c.world s no_label x m in
      let so = done.emits_so in
      let inner : n.frame.inner ≡ no_members = ap (λ (f : Frame). f.inner) so.frame ∙ beside.inner in
      let r = instance_reference (shown_in c k) in
      let goes : run c.world s no_label ((then) x (emit_stmt (words_of c) packet k)) m ≡ emit (read n.frame r) (ticked n) =
      ap (λ z. run c.world z no_label (emit_stmt (words_of c) packet k) n) done.stays
      ∙ emit_runs c packet s deparses n inner (so.stopped ∙ beside.both.packet.runs) k lt plain in
      record {
        stays = ap (behind (emit_stmt (words_of c) packet k)) done.stays;
        emits_so = record {
          frame = ap (λ (z : Moment). z.frame) goes ∙ so.frame;
          store = ap (λ (z : Moment). z.store) goes ∙ so.store;
          unparsed = ap (λ (z : Moment). z.unparsed) goes ∙ so.unparsed;
          stopped = ap (λ (z : Moment). z.stopped) goes ∙ so.stopped;
          emitted = ap (λ (z : Moment). z.emitted) goes
              ∙ ap₂ (λ (a : List ℕ) (f : Frame). a ++ octets_of (read f r)) so.emitted so.frame
              ∙ ap (λ (l : List ℕ). (m.emitted ++ xs) ++ l) (octets_alike k lt plain)
              ∙ append_assoc m.emitted xs (octets_at ds t k);
        };
      }

  all_emit : (order : List ℕ) (x : Stmt16) (xs : List ℕ) → HeadersStand c.layout order → Done x xs → Done (emits_from (words_of c) packet x order) (xs ++ flat_map (octets_at ds t) order)
  all_emit [] x xs stand done = subst (Done x) (sym (append-nil xs)) done
  all_emit (k ∷ order) x xs stand done =
      subst (Done (emits_from (words_of c) packet x (k ∷ order))) (append_assoc xs (octets_at ds t k) (flat_map (octets_at ds t) order) ∙ ap (λ (l : List ℕ). xs ++ l) (sym (flat_map-cons (octets_at ds t) k order)))
      (all_emit order ((then) x (emit_stmt (words_of c) packet k)) (xs ++ octets_at ds t k) stand.2 (one_more k x xs stand.0 stand.1 done))

  pub body_emits : (order : List ℕ) → HeadersStand c.layout order → Emits m (run c.world s no_label (emits (words_of c) packet order) m) (flat_map (octets_at ds t) order)
  body_emits order stand = (all_emit order no_statements [] stand (record { stays = refl; emits_so = record { frame = refl; store = refl; unparsed = refl; stopped = refl; emitted = sym (append-nil m.emitted) } })).emits_so

-- the block
pub deparser_alike : (c : Lowering) (packet : Name) (c16 : Setting) (control : Control16) → control_at c16.syntax Deparse ≡ Some control → control.locals ≡ [] → (world : c.world ≡ control_world (around_control c16 Deparse control)) → Deparses c packet c.world.around.scope → (ds : List Decl) (x : Expanded) → DeclsShown c.layout ds → AllWidths c.layout ds → HeadersStand c.layout x.order → control.body ≡ emits (words_of c) packet x.order → (x14 : Moment14) (m : Moment) → Beside c.layout 0 0 x14 m → (octets_left (control16 c16 Deparse m) ≡ deparsed ds x x14.state) × ((control16 c16 Deparse m).store ≡ m.store) × ((control16 c16 Deparse m).frame.events ≡ m.frame.events)
unfolding control16
deparser_alike c packet c16 control main locals world deparses ds x shown widths stand body x14 m beside =
    let s = c.world.around.scope in
    let so = body_emits c packet s deparses ds shown widths x14 m beside x.order stand in
    let same : with_variables no_members m ≡ m = ap₂ (λ v u. let k : Moment = record m { frame = record m.frame { variables = v; inner = u } } in k) (sym beside.variables.is) (sym beside.inner) in
    let runs : run_block c16 Deparse (control_at c16.syntax Deparse) m ≡ ended (run c.world s no_label (emits (words_of c) packet x.order) m) =
    ap (λ z. run_block c16 Deparse z m) main
    ∙ ap (λ (w : World). run_control w control m) (sym world)
    ∙ ap (λ l. ended (run c.world s no_label control.body (begun c.world (filter_map var_in l) m))) locals
    ∙ ap₂ (λ y k. ended (run c.world s no_label y k)) body same in (
      ap octets_left runs
          ∙ ap₂ (λ (a b : List ℕ). a ++ b) (so.emitted ∙ ap (λ (l : List ℕ). l ++ flat_map (octets_at ds x14.state) x.order) beside.emitted) (so.unparsed ∙ beside.both.packet.unparsed),
      ap (λ (z : Moment). z.store) runs ∙ so.store,
      ap (λ (z : Moment). z.frame.events) runs ∙ ap (λ (f : Frame). f.events) so.frame,
    )
