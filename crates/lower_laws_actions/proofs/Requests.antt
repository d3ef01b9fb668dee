-- Requests for further passes, and packets that are dropped: calls of functions.
use Rattle.std.proofs.Common.{Some, None, ◌≡◌, ℕ, ◌<◌, ◌^◌, true, List, [], get_or, refl, sym, ap, ◌∙◌, subst, arith}
use Rattle.std.specs.Prelude.{codes, Option, pos, unwrap_or}
use Rattle.state_store.specs.Ports.{drop_port}
use Rattle.fabric.specs.declared.items.RequestKind.{RequestKind}
use Rattle.fabric.specs.declared.items.RequestKind.TheVariants.{CloneI2E, CloneE2E, Resubmit, Recirculate}
use Rattle.p414_syntax.specs.declared.syntax.Decl.{Decl}
use Rattle.p414_sem.specs.declared.requests.Request14.{Request14}
use Rattle.p414_sem.specs.declared.standard.Standard.{Standard}
use Rattle.p414_sem.specs.declared.standard.Standard.TheVariants.{EgressSpec}
use Rattle.p414_sem.specs.Slots.{standard}
use Rattle.p414_sem.specs.State.{State, no_instance, request_of as request14, with_request as with_request14, standard_number}
use Rattle.p414_sem.specs.Operations.{Source, number, ask}
use Rattle.p414_sem.specs.Effects.{Moment as Moment14, index_of, effects, all_fallen}
use Rattle.p416_syntax.specs.Tree.{Stmt16, name, member, no_arguments, argument}
use Rattle.p416_syntax.specs.Names.{Name, has_name}
use Rattle.p416_syntax.specs.BuiltIn.{functions}
use Rattle.p416_syntax.specs.Kinds.{Kind, clone_type}
use Rattle.p416_syntax.specs.Scopes.{Scope, a_function as of_function}
use Rattle.p416_syntax.specs.Calls.{owner, member_place, index_place, list_number}
use Rattle.p416_syntax.specs.Expressions.{sort_kind}
use Rattle.v1_core.specs.Values.{Value, a_number, a_symbol, number_in, symbol_in, width_in}
use Rattle.v1_core.specs.Frames.{Frame, Moment, of_standard, ticked, read, request_of as request16, with_request as with_request16, nowhere}
use Rattle.v1_core.specs.Expressions.{value_of, member_value, Referred}
use Rattle.v1_core.specs.Calls.{Given, by_value, argument_at}
use Rattle.v1_core.specs.Externs.Requests.{requested, clone_kind, clone_preserving}
use Rattle.v1_core.specs.Externs.Ports.{mark_to_drop}
use Rattle.v1_core.specs.Statements.{no_label, run}
use Rattle.agreement_of_meanings.specs.Shown.{slot_reference, shown_at, AreShown, standard_width}
use Rattle.agreement_of_meanings.specs.Agrees.{NewNames, Agrees, ListsAgree, RequestsAgree}
use Rattle.agreement_of_meanings.proofs.Extracted.{numbers_by}
use Rattle.agreement_of_meanings.proofs.Written.{shown_stays}
use Rattle.lower_laws_base.specs.Context.{Local, HasRoot, StateLayout, Lowering, words_of, instances_of, At, now, SourceFits, Sees, an_enumeration, Aside, Stands}
use Rattle.lower_laws_base.specs.Mirror.{source_exp, drop_stmt}
use Rattle.lower_laws_base.proofs.Gives.{gives_literal}
use Rattle.lower_laws_base.proofs.Means.{means_root}
use Rattle.lower_laws_base.proofs.Sources.{gives_source}
use Rattle.lower_laws_base.proofs.Shapes.{shaped_like}
use Rattle.lower_laws_base.proofs.States.{Leaves, stands_moved, stands_ticked, stands_at}
use Rattle.lower_laws_base.proofs.Writes.{field_put, leaves_slot, value_written}
use Rattle.lower_laws_base.proofs.Headers.{with_state}
use Rattle.lower_laws_base.proofs.Running.{Done}
use Rattle.lower_laws_actions.specs.Mirror.{function_stmt, one_argument, mark_number, mark_exp, clone_stmt, request_stmt}
use Rattle.lower_laws_actions.specs.Fits.{ListFits, PrimitiveFits}
use Rattle.lower_laws_actions.proofs.Calls.{number_given, called_as, function_called}
use Rattle.lower_laws_actions.proofs.Statements.{Ready, looks}
use Rattle.lower_laws_base.specs.Gives.{Gives}

-- both have the same request

other_request : (names : NewNames) (s : State) (f : Frame) (kind : RequestKind) (r : Request14) (q : ℕ × ℕ) → RequestsAgree names.marks (Some r) (Some q) → ((other : RequestKind) → RequestsAgree names.marks (request14 s other) (request16 f other)) → (other : RequestKind) → RequestsAgree names.marks (request14 (with_request14 s kind (Some r)) other) (request16 (with_request16 kind (Some q) f) other)
other_request names s f CloneI2E r q new old CloneI2E = new
other_request names s f CloneI2E r q new old CloneE2E = old CloneE2E
other_request names s f CloneI2E r q new old Resubmit = old Resubmit
other_request names s f CloneI2E r q new old Recirculate = old Recirculate
other_request names s f CloneE2E r q new old CloneI2E = old CloneI2E
other_request names s f CloneE2E r q new old CloneE2E = new
other_request names s f CloneE2E r q new old Resubmit = old Resubmit
other_request names s f CloneE2E r q new old Recirculate = old Recirculate
other_request names s f Resubmit r q new old CloneI2E = old CloneI2E
other_request names s f Resubmit r q new old CloneE2E = old CloneE2E
other_request names s f Resubmit r q new old Resubmit = new
other_request names s f Resubmit r q new old Recirculate = old Recirculate
other_request names s f Recirculate r q new old CloneI2E = old CloneI2E
other_request names s f Recirculate r q new old CloneE2E = old CloneE2E
other_request names s f Recirculate r q new old Resubmit = old Resubmit
other_request names s f Recirculate r q new old Recirculate = new

request_agrees : (names : NewNames) (s : State) (f : Frame) (kind : RequestKind) (r : Request14) (q : ℕ × ℕ) → RequestsAgree names.marks (Some r) (Some q) → Agrees names s f → Agrees names (with_request14 s kind (Some r)) (with_request16 kind (Some q) f)
request_agrees names s f CloneI2E r q new agrees = record {
  instances = record { count = agrees.instances.count; each = (still (with_request16 CloneI2E (Some q) f) refl refl).each };
  standard = λ which. agrees.standard which ∙ ap (a_number (standard_width which)) (numbers_by s (with_request14 s CloneI2E (Some r)) refl refl refl refl refl which);
  requests = other_request names s f CloneI2E r q new agrees.requests;
} where
  still : (h : Frame) → h.headers ≡ f.headers → h.metadata ≡ f.metadata → AreShown names.instances s.instances h
  still h a b = record { count = agrees.instances.count; each = λ k lt. shown_stays f h (shown_at names.instances k) (get_or s.instances k no_instance) (sym a) (sym b) (agrees.instances.each k lt) }
request_agrees names s f CloneE2E r q new agrees = record {
  instances = record { count = agrees.instances.count; each = (still (with_request16 CloneE2E (Some q) f) refl refl).each };
  standard = λ which. agrees.standard which ∙ ap (a_number (standard_width which)) (numbers_by s (with_request14 s CloneE2E (Some r)) refl refl refl refl refl which);
  requests = other_request names s f CloneE2E r q new agrees.requests;
} where
  still : (h : Frame) → h.headers ≡ f.headers → h.metadata ≡ f.metadata → AreShown names.instances s.instances h
  still h a b = record { count = agrees.instances.count; each = λ k lt. shown_stays f h (shown_at names.instances k) (get_or s.instances k no_instance) (sym a) (sym b) (agrees.instances.each k lt) }
request_agrees names s f Resubmit r q new agrees = record {
  instances = record { count = agrees.instances.count; each = (still (with_request16 Resubmit (Some q) f) refl refl).each };
  standard = λ which. agrees.standard which ∙ ap (a_number (standard_width which)) (numbers_by s (with_request14 s Resubmit (Some r)) refl refl refl refl refl which);
  requests = other_request names s f Resubmit r q new agrees.requests;
} where
  still : (h : Frame) → h.headers ≡ f.headers → h.metadata ≡ f.metadata → AreShown names.instances s.instances h
  still h a b = record { count = agrees.instances.count; each = λ k lt. shown_stays f h (shown_at names.instances k) (get_or s.instances k no_instance) (sym a) (sym b) (agrees.instances.each k lt) }
request_agrees names s f Recirculate r q new agrees = record {
  instances = record { count = agrees.instances.count; each = (still (with_request16 Recirculate (Some q) f) refl refl).each };
  standard = λ which. agrees.standard which ∙ ap (a_number (standard_width which)) (numbers_by s (with_request14 s Recirculate (Some r)) refl refl refl refl refl which);
  requests = other_request names s f Recirculate r q new agrees.requests;
} where
  still : (h : Frame) → h.headers ≡ f.headers → h.metadata ≡ f.metadata → AreShown names.instances s.instances h
  still h a b = record { count = agrees.instances.count; each = λ k lt. shown_stays f h (shown_at names.instances k) (get_or s.instances k no_instance) (sym a) (sym b) (agrees.instances.each k lt) }

leaves_request : (f : Frame) (kind : RequestKind) (q : ℕ × ℕ) → Leaves f (with_request16 kind (Some q) f)
leaves_request f CloneI2E q = record { inner = refl; variables = refl; events = refl; error = refl; checksum = refl; headers = λ xs h. h; metadata = λ xs h. h; standard = λ xs h. h }
leaves_request f CloneE2E q = record { inner = refl; variables = refl; events = refl; error = refl; checksum = refl; headers = λ xs h. h; metadata = λ xs h. h; standard = λ xs h. h }
leaves_request f Resubmit q = record { inner = refl; variables = refl; events = refl; error = refl; checksum = refl; headers = λ xs h. h; metadata = λ xs h. h; standard = λ xs h. h }
leaves_request f Recirculate q = record { inner = refl; variables = refl; events = refl; error = refl; checksum = refl; headers = λ xs h. h; metadata = λ xs h. h; standard = λ xs h. h }

module _ (g : StateLayout) (ls : List Local) (vs : List Value) (k : Aside) (m : Moment14) (n : Moment) (stands : Stands g ls vs k m n) where
  bounds : (t : State) → ((which : Standard) → standard_number m.state which ≡ standard_number t which) → (which : Standard) → standard_number t which < 2 ^ standard_width which
  bounds t same which = subst (λ z. z < 2 ^ standard_width which) (same which) (stands.shaped.standard which)

  pub request_stands : (kind : RequestKind) (r : Request14) (q : ℕ × ℕ) → RequestsAgree g.names.marks (Some r) (Some q) → Stands g ls vs k (with_state m (with_request14 m.state kind (Some r))) (requested kind q.0 q.1 n)
  request_stands CloneI2E r q new =
      stands_moved g ls vs k m n stands (with_request14 m.state CloneI2E (Some r)) (with_request16 CloneI2E (Some q) n.frame) (leaves_request n.frame CloneI2E q)
      (request_agrees g.names m.state n.frame CloneI2E r q new stands.both.packet.agrees)
      (shaped_like g m.state stands.shaped (with_request14 m.state CloneI2E (Some r)) refl (bounds (with_request14 m.state CloneI2E (Some r)) (numbers_by m.state (with_request14 m.state CloneI2E (Some r)) refl refl refl refl refl))) refl refl
  request_stands CloneE2E r q new =
      stands_moved g ls vs k m n stands (with_request14 m.state CloneE2E (Some r)) (with_request16 CloneE2E (Some q) n.frame) (leaves_request n.frame CloneE2E q)
      (request_agrees g.names m.state n.frame CloneE2E r q new stands.both.packet.agrees)
      (shaped_like g m.state stands.shaped (with_request14 m.state CloneE2E (Some r)) refl (bounds (with_request14 m.state CloneE2E (Some r)) (numbers_by m.state (with_request14 m.state CloneE2E (Some r)) refl refl refl refl refl))) refl refl
  request_stands Resubmit r q new =
      stands_moved g ls vs k m n stands (with_request14 m.state Resubmit (Some r)) (with_request16 Resubmit (Some q) n.frame) (leaves_request n.frame Resubmit q)
      (request_agrees g.names m.state n.frame Resubmit r q new stands.both.packet.agrees)
      (shaped_like g m.state stands.shaped (with_request14 m.state Resubmit (Some r)) refl (bounds (with_request14 m.state Resubmit (Some r)) (numbers_by m.state (with_request14 m.state Resubmit (Some r)) refl refl refl refl refl))) refl refl
  request_stands Recirculate r q new =
      stands_moved g ls vs k m n stands (with_request14 m.state Recirculate (Some r)) (with_request16 Recirculate (Some q) n.frame) (leaves_request n.frame Recirculate q)
      (request_agrees g.names m.state n.frame Recirculate r q new stands.both.packet.agrees)
      (shaped_like g m.state stands.shaped (with_request14 m.state Recirculate (Some r)) refl (bounds (with_request14 m.state Recirculate (Some r)) (numbers_by m.state (with_request14 m.state Recirculate (Some r)) refl refl refl refl refl))) refl refl

-- a member of an enumeration as an argument
symbol_given : (c : Lowering) (s : Scope) (ls : List Local) → Sees c s ls → (word : Name) (n : Moment) → argument_at c.world s (member_place clone_type) (member (name (codes "CloneType")) word) n ≡ (record { target = nowhere; value = a_symbol word }, n)
symbol_given c s ls sees word n =
    let sort = sees.declares.named (an_enumeration clone_type) tt in
    ap (λ (z : Kind). by_value (member_value z word (value_of c.world s owner (name (codes "CloneType")) n))) (ap sort_kind sort)

-- the number that is written is the mark of the list
pub marked_so : (c : Lowering) (list : Option ℕ) → ListFits c list → ListsAgree c.layout.names.marks list (mark_number (words_of c) list) × (mark_number (words_of c) list < 2 ^ 8)
marked_so c None fits = (fits, omega arith)
marked_so c (Some list) fits =
    let same : fits.0 ≡ mark_number (words_of c) (Some list) = ap (λ (o : Option ℕ). unwrap_or o 0) (sym fits.1) in
    (fits.1 ∙ ap Some same, subst (λ (n : ℕ). n < 2 ^ 8) same fits.2)

module _ (c : Lowering) (s : Scope) (ls : List Local) (vs : List Value) (arguments14 : List ℕ) (k : Aside) (at : At) (r m : Moment14) (n : Moment) (ready : Ready c s ls vs arguments14 k at r m n) where
  abbrev stands : Stands c.layout ls vs k m n
  stands = ready.stands

  began : Stands c.layout ls vs k m (ticked n)
  began = stands_ticked c.layout ls vs k m n stands

  mark_gives : (list : Option ℕ) → ListFits c list → Gives c.world s (ticked n) (mark_exp (words_of c) list) 8 (mark_number (words_of c) list)
  mark_gives list fits = gives_literal c.world s (ticked n) 8 (mark_number (words_of c) list) (marked_so c list fits).1

  requested_done : (ds : List Decl) (kind : RequestKind) (session : Source) (list : Option ℕ) → ListFits c list → (y : Stmt16) → run c.world s no_label y n ≡ requested kind (index_of arguments14 r.state session) (mark_number (words_of c) list) (ticked n) → Done c s ls vs k y (all_fallen m (effects ds arguments14 r (ask kind session list))) n
  requested_done ds kind session list fits y done = record {
    stands = stands_at c.layout ls vs k _ _ _ _ refl done
        (request_stands c.layout ls vs k m (ticked n) began kind (record { session = index_of arguments14 r.state session; list = list }) (index_of arguments14 r.state session, mark_number (words_of c) list) (refl, (marked_so c list fits).0));
    variables = ap (λ (z : Moment). z.frame.variables) done ∙ (leaves_request n.frame kind (index_of arguments14 r.state session, mark_number (words_of c) list)).variables;
  }

  -- clones
  clone_done : (ds : List Decl) (word : Name) (kind : RequestKind) → clone_kind word ≡ kind → (session : Source) (list : Option ℕ) → SourceFits c session → ListFits c list → Done c s ls vs k (clone_stmt (words_of c) at word session list) (all_fallen m (effects ds arguments14 r (ask kind session list))) n
  clone_done ds word kind is session list fits its =
      let e = source_exp (words_of c) at 32 session in
      let f = mark_exp (words_of c) list in
      let index = index_of arguments14 r.state session in
      let number = mark_number (words_of c) list in
      requested_done ds kind session list its (clone_stmt (words_of c) at word session list)
      (function_called c s ls ready.sees (codes "clone_preserving_field_list") refl (argument (argument (argument no_arguments (member (name (codes "CloneType")) word)) e) f) n stands.both.packet.runs
      ∙ ap (λ (x : Given × Moment). let y = argument_at c.world s index_place e x.1 in let z = argument_at c.world s list_number f y.1 in clone_preserving (symbol_in x.0.value) (number_in y.0.value) (number_in z.0.value) z.1) (symbol_given c s ls ready.sees word (ticked n))
      ∙ ap (λ (y : Given × Moment). let z = argument_at c.world s list_number f y.1 in clone_preserving word (number_in y.0.value) (number_in z.0.value) z.1)
      (number_given c.world s index_place e 32 index (ticked n) refl (gives_source c s ls vs arguments14 at r.state (ticked n) (looks c s ls vs arguments14 k at r m n ready [] 0) 32 session fits))
      ∙ ap (λ (z : Given × Moment). clone_preserving word index (number_in z.0.value) z.1) (number_given c.world s list_number f 8 number (ticked n) refl (mark_gives list its))
      ∙ ap (λ z. requested z index number (ticked n)) is)

  -- resubmit and recirculate
  list_done : (ds : List Decl) (kind : RequestKind) (text : Name) → has_name functions text ≡ true → (session : Source) (list : Option ℕ) → session ≡ number (pos 0) → ListFits c list → ((is : has_name functions text ≡ true) → called_as c s ls ready.sees text is (one_argument (mark_exp (words_of c) list)) of_function (ticked n) ≡ (let z = argument_at c.world s list_number (mark_exp (words_of c) list) (ticked n) in requested kind 0 (number_in z.0.value) z.1)) → Done c s ls vs k (function_stmt text (one_argument (mark_exp (words_of c) list))) (all_fallen m (effects ds arguments14 r (ask kind session list))) n
  list_done ds kind text is session list none its does =
      let f = mark_exp (words_of c) list in
      let marked = mark_number (words_of c) list in
      requested_done ds kind session list its (function_stmt text (one_argument f))
      (function_called c s ls ready.sees text is (one_argument f) n stands.both.packet.runs ∙ does is
      ∙ ap (λ (z : Given × Moment). requested kind 0 (number_in z.0.value) z.1) (number_given c.world s list_number f 8 marked (ticked n) refl (mark_gives list its))
      ∙ ap (λ z. requested kind (index_of arguments14 r.state z) marked (ticked n)) (sym none))

  pub request_done : (ds : List Decl) (kind : RequestKind) (session : Source) (list : Option ℕ) → PrimitiveFits c ds (ask kind session list) → Done c s ls vs k (request_stmt (words_of c) at kind session list) (all_fallen m (effects ds arguments14 r (ask kind session list))) n
  request_done ds CloneI2E session list fits = clone_done ds (codes "I2E") CloneI2E refl session list fits.0 fits.1
  request_done ds CloneE2E session list fits = clone_done ds (codes "E2E") CloneE2E refl session list fits.0 fits.1
  request_done ds Resubmit session list fits = list_done ds Resubmit (codes "resubmit_preserving_field_list") refl session list fits.0 fits.1 (λ is. refl)
  request_done ds Recirculate session list fits = list_done ds Recirculate (codes "recirculate_preserving_field_list") refl session list fits.0 fits.1 (λ is. refl)

  -- drop
  pub drop_done : HasRoot c.layout of_standard → Done c s ls vs k (drop_stmt (words_of c)) (field_put m (standard EgressSpec) drop_port) n
  drop_done is =
      let to = slot_reference (instances_of c) (standard EgressSpec) in
      let v = a_number (width_in (read n.frame to)) drop_port in
      let done = function_called c s ls ready.sees (codes "mark_to_drop") refl (one_argument (name (c.root of_standard))) n stands.both.packet.runs
      ∙ ap (λ (x : Referred). mark_to_drop x.reference x.moment) (means_root c s ls ready.sees vs (ticked n) stands.inner now tt of_standard is).reference in
      record {
        stands = stands_at c.layout ls vs k _ _ _ _ refl done (value_written c s ls ready.sees vs k m (ticked n) began (standard EgressSpec) v is);
        variables = ap (λ (z : Moment). z.frame.variables) done ∙ (leaves_slot (instances_of c) (standard EgressSpec) v n.frame).variables;
      }
