-- Headers that are added, removed and copied, under both rules.
use Rattle.std.proofs.Common.{None, ◌≡◌, ℕ, zero, suc, ◌<◌, Bool, true, false, cond, List, [], ◌∷◌, length, get_or, set, refl, sym, ap, ◌∙◌, subst}
use Rattle.std.specs.Prelude.{replicate, codes, is_some, not}
use Rattle.std.proofs.lemmas.List.{set-get_or, get_or-set_same}
use Rattle.p414_syntax.specs.declared.syntax.Decl.{Decl}
use Rattle.p414_sem.specs.Slots.{Element}
use Rattle.p414_sem.specs.State.{Header as Header14, Instance, State, no_header, no_instance, instance_at, header_of, header_at, with_instance, with_header, cleared as cleared14}
use Rattle.p414_sem.specs.Operations.{add_header, remove_header, copy_header}
use Rattle.p414_sem.specs.Effects.{Moment as Moment14, put_header, effects, all_fallen}
use Rattle.p416_syntax.specs.declared.node.UnaryOperator.TheVariants.{Not}
use Rattle.p416_syntax.specs.Tree.{Exp16, Stmt16, no_arguments, no_statements, then, block, unary, assign}
use Rattle.p416_syntax.specs.Names.{Name}
use Rattle.p416_syntax.specs.Kinds.{Kind, header, boolean}
use Rattle.p416_syntax.specs.Scopes.{Scope}
use Rattle.p416_syntax.specs.Expressions.{kind_of}
use Rattle.v1_core.specs.Values.{Header, Value, a_header, a_truth, header_in, cleared}
use Rattle.v1_core.specs.Numbers.{unary_value}
use Rattle.v1_core.specs.Frames.{Moment, Reference, ticked, going_on, put_at}
use Rattle.v1_core.specs.Surroundings.{World}
use Rattle.v1_core.specs.Expressions.{Referred, Valued, valued}
use Rattle.v1_core.specs.HeaderCalls.{validated, set_valid, set_invalid}
use Rattle.v1_core.specs.Calls.{method_call}
use Rattle.v1_core.specs.Statements.{no_label, run}
use Rattle.agreement_of_meanings.specs.Shown.{NamedField, Shown, fields_of, shown_header, element_reference}
use Rattle.lower_laws_base.specs.Context.{Local, Lowering, shown_in, words_of, At, now, entry, Looks, Sees, AreGiven, Aside, Stands, IsHeaderPart}
use Rattle.lower_laws_base.specs.Mirror.{part_exp, method_stmt, valid_exp}
use Rattle.lower_laws_base.proofs.Means.{Means}
use Rattle.lower_laws_base.proofs.Shapes.{FitsThere, zeros_fit, header_fits}
use Rattle.lower_laws_base.proofs.States.{stands_ticked, stands_at, seen_now}
use Rattle.lower_laws_base.proofs.Writes.{closed_same, branches, header_seen, means_header, header_shows}
use Rattle.lower_laws_base.proofs.Headers.{cleared_shown, leaves_element, with_state, header_put, header_copied}
use Rattle.lower_laws_base.proofs.Running.{Done}
use Rattle.lower_laws_actions.specs.Mirror.{anew_stmts, add_stmt}
use Rattle.lower_laws_base.specs.Gives.{Shows}

-- calls

sets_valid : (w : World) (s : Scope) (e : Exp16) (type : Name) (r : Reference) (n : Moment) → n.stopped ≡ None → Means w s e (header type) r (ticked n) → run w s no_label (method_stmt e (codes "setValid")) n ≡ set_valid r (ticked n)
sets_valid w s e type r n runs m =
    ap (λ b. cond b n (method_call w s (kind_of s e) e (codes "setValid") no_arguments (ticked n))) (ap is_some runs)
    ∙ ap (λ (k : Kind). method_call w s k e (codes "setValid") no_arguments (ticked n)) m.kind
    ∙ ap (λ (x : Referred). going_on (set_valid x.reference) x.moment) m.reference
    ∙ ap (λ b. cond b (ticked n) (set_valid r (ticked n))) (ap is_some runs)

sets_invalid : (w : World) (s : Scope) (e : Exp16) (type : Name) (r : Reference) (n : Moment) → n.stopped ≡ None → Means w s e (header type) r (ticked n) → run w s no_label (method_stmt e (codes "setInvalid")) n ≡ set_invalid r (ticked n)
sets_invalid w s e type r n runs m =
    ap (λ b. cond b n (method_call w s (kind_of s e) e (codes "setInvalid") no_arguments (ticked n))) (ap is_some runs)
    ∙ ap (λ (k : Kind). method_call w s k e (codes "setInvalid") no_arguments (ticked n)) m.kind
    ∙ ap (λ (x : Referred). going_on (set_invalid x.reference) x.moment) m.reference
    ∙ ap (λ b. cond b (ticked n) (set_invalid r (ticked n))) (ap is_some runs)

-- states

pub set_twice : {A : Type 0} (l : List A) (i : ℕ) (a b : A) → set (set l i a) i b ≡ set l i b
set_twice [] i a b = refl
set_twice (x ∷ l) zero a b = refl
set_twice (x ∷ l) (suc i) a b = ap (λ z. x ∷ z) (set_twice l i a b)

pub instance_now : (s : State) (i e : ℕ) (h : Header14) → i < length s.instances → instance_at (with_header s i e h) i ≡ record { elements = set (instance_at s i).elements e h; place = (instance_at s i).place }
instance_now s i e h lt = get_or-set_same s.instances i _ no_instance lt

header_now : (s : State) (i e : ℕ) (h : Header14) → i < length s.instances → e < length (instance_at s i).elements → header_at (with_header s i e h) i e ≡ h
header_now s i e h lt some = ap (λ (x : Instance). get_or x.elements e no_header) (instance_now s i e h lt) ∙ get_or-set_same (instance_at s i).elements e h no_header some

header_twice : (s : State) (i e : ℕ) (a b : Header14) → i < length s.instances → with_header (with_header s i e a) i e b ≡ with_header s i e b
header_twice s i e a b lt =
    ap (λ (x : Instance). with_instance (with_header s i e a) i (record { elements = set x.elements e b; place = x.place })) (instance_now s i e a lt)
    ∙ ap (λ (l : List Header14). with_instance (with_header s i e a) i (record { elements = l; place = (instance_at s i).place })) (set_twice (instance_at s i).elements e a b)
    ∙ ap (λ (l : List Instance). record s { instances = l }) (set_twice s.instances i _ _)

same_header : (s : State) (i e : ℕ) → with_header s i e (header_at s i e) ≡ s
same_header s i e =
    ap (λ (l : List Header14). with_instance s i (record { elements = l; place = (instance_at s i).place })) (set-get_or (instance_at s i).elements e no_header)
    ∙ ap (λ (l : List Instance). record s { instances = l }) (set-get_or s.instances i no_instance)

-- headers of one form have one cleared header
cleared_same : (x : Shown) (valid : Bool) (g h : Header14) → FitsThere x g → FitsThere x h → cleared14 valid g ≡ cleared14 valid h
cleared_same x valid g h a b = ap (λ count. let z : Header14 = record { valid = valid; numbers = replicate count 0 } in z) (a.count ∙ sym b.count)

validated_shown : (fields : List NamedField) (h : Header14) → validated (shown_header fields h) ≡ shown_header fields (cond h.valid h (cleared14 true h))
validated_shown fields h = by h.valid where
  by : (valid : Bool) → cond valid (shown_header fields h) (cleared true (shown_header fields h)) ≡ shown_header fields (cond valid h (cleared14 true h))
  by true = refl
  by false = cleared_shown fields true h

validated_fits : (x : Shown) (h : Header14) → FitsThere x h → FitsThere x (cond h.valid h (cleared14 true h))
validated_fits x h fits = by h.valid where
  by : (valid : Bool) → FitsThere x (cond valid h (cleared14 true h))
  by true = fits
  by false = zeros_fit x true h fits.count

module _ (c : Lowering) (s : Scope) (ls : List Local) (sees : Sees c s ls) (vs : List Value) (arguments : List ℕ) (given : AreGiven c.parameters ls vs arguments) (k : Aside) (m : Moment14) (n : Moment) (stands : Stands c.layout ls vs k m n) (part : Element) (is : IsHeaderPart c.layout part) where
  abbrev x : Shown
  x = shown_in c part.instance

  abbrev here : Reference
  here = element_reference x part.element

  abbrev e : Exp16
  e = part_exp (words_of c) now part

  abbrev h : Header14
  h = header_of m.state part

  looks : Looks c s ls vs arguments now m.state n.frame
  looks = record { sees = sees; inner = stands.inner; count = stands.count; given = given; has = tt; seen = seen_now c ls vs k m n stands }

  pub part_fits : FitsThere x h
  part_fits = header_fits c.layout m.state stands.shaped part.instance part.element is.0.0 is.0.1

  -- setValid
  pub valid_set : run c.world s no_label (method_stmt e (codes "setValid")) n ≡ put_at here (a_header (shown_header (fields_of x) (cond h.valid h (cleared14 true h)))) (ticked n)
  valid_set =
      sets_valid c.world s e (c.type_of part.instance) here n stands.both.packet.runs (means_header c s ls vs arguments now m.state (ticked n) looks part is)
      ∙ ap (λ (v : Value). put_at here (a_header (validated (header_in v))) (ticked n)) (header_seen c s ls vs arguments now m.state n looks part is)
      ∙ ap (λ (z : Header). put_at here (a_header z) (ticked n)) (validated_shown (fields_of x) h)

  pub valid_done : Done c s ls vs k (method_stmt e (codes "setValid")) (with_state m (with_header m.state part.instance part.element (cond h.valid h (cleared14 true h)))) n
  valid_done = record {
    stands = stands_at c.layout ls vs k _ _ _ _ refl valid_set
        (header_put c s ls sees vs k m (ticked n) (stands_ticked c.layout ls vs k m n stands) part is (cond h.valid h (cleared14 true h)) (validated_fits x h part_fits));
    variables = ap (λ (z : Moment). z.frame.variables) valid_set ∙ (leaves_element x part.element _ n.frame).variables;
  }

  -- setInvalid
  pub invalid_set : run c.world s no_label (method_stmt e (codes "setInvalid")) n ≡ put_at here (a_header (shown_header (fields_of x) (cleared14 false h))) (ticked n)
  invalid_set =
      sets_invalid c.world s e (c.type_of part.instance) here n stands.both.packet.runs (means_header c s ls vs arguments now m.state (ticked n) looks part is)
      ∙ ap (λ (v : Value). put_at here (a_header (cleared false (header_in v))) (ticked n)) (header_seen c s ls vs arguments now m.state n looks part is)
      ∙ ap (λ (z : Header). put_at here (a_header z) (ticked n)) (cleared_shown (fields_of x) false h)

  pub invalid_done : Done c s ls vs k (method_stmt e (codes "setInvalid")) (with_state m (with_header m.state part.instance part.element (cleared14 false h))) n
  invalid_done = record {
    stands = stands_at c.layout ls vs k _ _ _ _ refl invalid_set
        (header_put c s ls sees vs k m (ticked n) (stands_ticked c.layout ls vs k m n stands) part is (cleared14 false h) (zeros_fit x false h part_fits.count));
    variables = ap (λ (z : Moment). z.frame.variables) invalid_set ∙ (leaves_element x part.element _ n.frame).variables;
  }

-- a truth value that is turned
pub shows_not : (w : World) (s : Scope) (n : Moment) (e : Exp16) (b : Bool) → Shows w s n e boolean (a_truth b) → Shows w s n (unary Not e) boolean (a_truth (not b))
shows_not w s n e b g = record { kind = refl; value = λ p. ap (λ (x : Valued). valued (unary_value Not x.value) x.moment) (g.value _) }

-- remove_header
pub removes_done : (c : Lowering) (s : Scope) (ls : List Local) → Sees c s ls → (vs : List Value) (arguments : List ℕ) → AreGiven c.parameters ls vs arguments → (k : Aside) (ds : List Decl) (r m : Moment14) (n : Moment) → Stands c.layout ls vs k m n → (part : Element) (is : IsHeaderPart c.layout part) → FitsThere (shown_in c part.instance) (header_of r.state part) → Done c s ls vs k (method_stmt (part_exp (words_of c) now part) (codes "setInvalid")) (all_fallen m (effects ds arguments r (remove_header part))) n
removes_done c s ls sees vs arguments given k ds r m n stands part is fits =
    subst (λ (z : Header14). Done c s ls vs k (method_stmt (part_exp (words_of c) now part) (codes "setInvalid")) (with_state m (with_header m.state part.instance part.element z)) n)
    (cleared_same (shown_in c part.instance) false (header_of m.state part) (header_of r.state part) (part_fits c s ls sees vs arguments given k m n stands part is) fits)
    (invalid_done c s ls sees vs arguments given k m n stands part is)

-- add_header under the sequential rule
add_falls : (ds : List Decl) (arguments : List ℕ) (m : Moment14) (at : Element) → all_fallen m (effects ds arguments m (add_header at)) ≡ with_state m (with_header m.state at.instance at.element (cond (header_of m.state at).valid (header_of m.state at) (cleared14 true (header_of m.state at))))
add_falls ds arguments m at = by (header_of m.state at).valid where
  by : (valid : Bool) → all_fallen m (cond valid [] (put_header at (cleared14 true (header_of m.state at)) ∷ [])) ≡ with_state m (with_header m.state at.instance at.element (cond valid (header_of m.state at) (cleared14 true (header_of m.state at))))
  by true = ap (with_state m) (sym (same_header m.state at.instance at.element))
  by false = refl

pub adds_done : (c : Lowering) (s : Scope) (ls : List Local) → Sees c s ls → (vs : List Value) (arguments : List ℕ) → AreGiven c.parameters ls vs arguments → (k : Aside) (ds : List Decl) (r m : Moment14) (n : Moment) → Stands c.layout ls vs k m n → r ≡ m → (part : Element) → IsHeaderPart c.layout part → Done c s ls vs k (add_stmt (words_of c) now part) (all_fallen m (effects ds arguments r (add_header part))) n
adds_done c s ls sees vs arguments given k ds r m n stands same part is =
    subst (λ z. Done c s ls vs k (add_stmt (words_of c) now part) z n) (sym (ap (λ (q : Moment14). all_fallen m (effects ds arguments q (add_header part))) same ∙ add_falls ds arguments m part))
    (valid_done c s ls sees vs arguments given k m n stands part is)

-- .. and under the parallel rule: it becomes valid anew
module _ (c : Lowering) (s : Scope) (ls : List Local) (sees : Sees c s ls) (vs : List Value) (arguments : List ℕ) (given : AreGiven c.parameters ls vs arguments) (k : Aside) (ds : List Decl) (r m : Moment14) (n : Moment) (stands : Stands c.layout ls vs k m n) (looks : Looks c s ls vs arguments entry r.state n.frame) (part : Element) (is : IsHeaderPart c.layout part) where
  abbrev i : ℕ
  i = part.instance

  abbrev f : ℕ
  f = part.element

  abbrev clears : Stmt16
  clears = method_stmt (part_exp (words_of c) now part) (codes "setInvalid")

  abbrev sets : Stmt16
  sets = method_stmt (part_exp (words_of c) now part) (codes "setValid")

  abbrev inner : Stmt16
  inner = block (anew_stmts (words_of c) part)

  abbrev inside_block : Stmt16
  inside_block = (then) ((then) no_statements clears) sets

  abbrev m1 : Moment14
  m1 = with_state m (with_header m.state i f (cleared14 false (header_of m.state part)))

  abbrev m2 : Moment14
  m2 = with_state m (with_header m.state i f (cleared14 true (header_of r.state part)))

  first : Done c s ls vs k clears m1 (ticked n)
  first = invalid_done c s ls sees vs arguments given k m (ticked n) (stands_ticked c.layout ls vs k m n stands) part is

  second : Done c s ls vs k sets (with_state m1 (with_header m1.state i f (cond (header_of m1.state part).valid (header_of m1.state part) (cleared14 true (header_of m1.state part))))) (run c.world s no_label clears (ticked n))
  second = valid_done c s ls sees vs arguments given k m1 (run c.world s no_label clears (ticked n)) first.stands part is

  ends : with_header m1.state i f (cond (header_of m1.state part).valid (header_of m1.state part) (cleared14 true (header_of m1.state part))) ≡ m2.state
  ends =
      let hm = header_of m.state part in
      let inside = let x = stands.shaped.count in subst (λ z. i < z) (sym x) is.0.0 in
      let some = subst (λ z. f < z) (sym (stands.shaped.sizes i is.0.0)) is.0.1 in
      ap (λ (z : Header14). with_header m1.state i f (cond z.valid z (cleared14 true z))) (header_now m.state i f (cleared14 false hm) inside some)
      ∙ header_twice m.state i f (cleared14 false hm) (cleared14 true (cleared14 false hm)) inside
      ∙ ap (with_header m.state i f) (cleared_same (shown_in c i) true (cleared14 false hm) (header_of r.state part)
      (zeros_fit (shown_in c i) false hm (header_fits c.layout m.state stands.shaped i f is.0.0 is.0.1).count)
      (header_fits c.layout r.state looks.seen.shaped i f is.0.0 is.0.1))

  unbraced : Stands c.layout ls vs k m2 (run c.world s no_label inside_block (ticked n))
  unbraced = subst (λ z. Stands c.layout ls vs k (with_state m z) (run c.world s no_label inside_block (ticked n))) ends second.stands

  braces : run c.world s no_label inner (ticked n) ≡ run c.world s no_label inside_block (ticked n)
  braces = closed_same ls vs vs (ticked n) (run c.world s no_label inside_block (ticked n)) stands.inner unbraced.inner stands.count unbraced.count

  body : Stands c.layout ls vs k m2 (run c.world s no_label inner (ticked n))
  body = subst (Stands c.layout ls vs k m2) (sym braces) unbraced

  pub anew_done : Done c s ls vs k (add_stmt (words_of c) entry part) (all_fallen m (effects ds arguments r (add_header part))) n
  anew_done =
      let valid = (header_of r.state part).valid in
      let done = branches c s ls vs k m m2 n stands (unary Not (valid_exp (part_exp (words_of c) entry part))) (not valid) inner
      (shows_not c.world s (ticked n) (valid_exp (part_exp (words_of c) entry part)) valid (header_shows c s ls vs arguments entry r.state (ticked n) looks part is)) body in
      record {
        stands = subst (λ z. Stands c.layout ls vs k (all_fallen m (effects ds arguments r (add_header part))) z) (sym done) (by valid body (stands_ticked c.layout ls vs k m n stands));
        variables = ap (λ (z : Moment). z.frame.variables) done ∙ left valid (ap (λ (z : Moment). z.frame.variables) braces ∙ second.variables ∙ first.variables);
      }
    where
      by : (b : Bool) → Stands c.layout ls vs k m2 (run c.world s no_label inner (ticked n)) → Stands c.layout ls vs k m (ticked n) → Stands c.layout ls vs k (all_fallen m (cond b [] (put_header part (cleared14 true (header_of r.state part)) ∷ []))) (cond (not b) (run c.world s no_label inner (ticked n)) (ticked n))
      by true a b = b
      by false a b = a

      left : (b : Bool) → (run c.world s no_label inner (ticked n)).frame.variables ≡ n.frame.variables → (cond (not b) (run c.world s no_label inner (ticked n)) (ticked n)).frame.variables ≡ n.frame.variables
      left true a = refl
      left false a = a

-- copy_header
pub copies_done : (c : Lowering) (s : Scope) (ls : List Local) (vs : List Value) (arguments : List ℕ) (at : At) (k : Aside) (ds : List Decl) (r m : Moment14) (n : Moment) → Stands c.layout ls vs k m n → Looks c s ls vs arguments at r.state n.frame → (to from : Element) → IsHeaderPart c.layout to → IsHeaderPart c.layout from → fields_of (shown_in c from.instance) ≡ fields_of (shown_in c to.instance) → Done c s ls vs k (assign (part_exp (words_of c) now to) (part_exp (words_of c) at from)) (all_fallen m (effects ds arguments r (copy_header to from))) n
copies_done c s ls vs arguments at k ds r m n stands looks to from is its same = header_copied c s ls vs arguments at r.state k m n stands looks to from is its same
