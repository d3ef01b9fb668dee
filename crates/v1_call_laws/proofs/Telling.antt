-- Where no stack tells anything and nothing is looked ahead at, no error comes: a test that applies no table tells the value.
use Rattle.std.proofs.Common.{◌≡◌, inl, inr, Bool, true, false, cond, Option, Some, None, IfSome, List, refl, sym, ◌∙◌, subst}
use Rattle.p416_syntax.specs.declared.node.BinaryOperator.TheVariants.{Multiply, Add, Subtract, SaturatingAdd, SaturatingSubtract, Concatenate, ShiftLeft, ShiftRight, BitAnd, BitXor, BitOr, Less, LessEqual, Greater, GreaterEqual, Equal, NotEqual, And, Or}
use Rattle.p416_syntax.specs.Tree.{Exp16, literal, truth, error, name, member, index, slice, call, lookahead, cast, unary, binary, choice, parenthesized, no_arguments, argument, listed}
use Rattle.p416_syntax.specs.Names.{Name}
use Rattle.p416_syntax.specs.Kinds.{Kind, bits, unsized, boolean, error_code, header, stack, struct, packet_in, packet_out, errors, enumeration, one_of, table, applied, object, items, nothing, unknown}
use Rattle.p416_syntax.specs.Scopes.{Layout, Scope}
use Rattle.p416_syntax.specs.Calls.{Place, value, any_bits, owner, a_stack}
use Rattle.p416_syntax.specs.Expressions.{kind_of}
use Rattle.p416_syntax.specs.Uses.{unary_place, left_place, right_place, cast_place, chosen_place}
use Rattle.p416_syntax.specs.Breaks.{BreaksNone, program_rules}
use Rattle.p416_syntax.specs.Declarations.{layouts_of}
use Rattle.v1_core.specs.Values.{Value, is_true}
use Rattle.v1_core.specs.Frames as sem
use Rattle.v1_core.specs.Surroundings as meaning
use Rattle.v1_core.specs.Numbered.{InScope}
use Rattle.v1_core.specs.Expressions.{Valued, member_value, method_value, value_of}
use Rattle.v1_core.specs.Cells.{Cells}
use Rattle.v1_core.specs.Ready.{Ready, given, ready_value}
use Rattle.v1_ready_forms.specs.Named.{NamedSeat, seats_in}
use Rattle.v1_ready_forms.specs.Ways.{its_value}
use Rattle.v1_ready_forms.specs.Expressions.{ready_of_exp}
use Rattle.v1_ready_laws.specs.Kinds.{IsOfAt, IsNoTable, TypesSized}
use Rattle.v1_ready_laws.specs.Rules.{AppliesNone, Keeps, NamesSeated}
use Rattle.v1_ready_laws.proofs.Typed.{value_typed}
use Rattle.v1_ready_laws.proofs.Rules.{operands_of_kinds}
use Rattle.v1_ready_laws.proofs.Scoped.{names_are_of}
use Rattle.v1_ready_laws.proofs.Accepted.{accepted_narrow}
use Rattle.v1_ready_laws.proofs.Judged.{applies_none}
use Rattle.v1_ready_blocks.specs.Tests.{World, Test, plain, test_value}
use Rattle.v1_ready_statements.specs.Around.{Around, table_found}
use Rattle.v1_ready_statements.specs.Tested.{ready_test}
use Rattle.v1_value_laws.specs.Kinds.{Fine}
use Rattle.v1_value_laws.specs.Classes.{IsOfClass}
use Rattle.v1_statement_laws.specs.Behind.{ValuedShows}
use Rattle.v1_statement_laws.specs.Evaluating.{Evaluates}
use Rattle.v1_statement_laws.proofs.Quiet.{IsPlain, only_plain, plain_evaluates}
use Rattle.v1_call_laws.specs.Telling.{IsTold, ToldNone, IsBelow, IsOfWidth, IsValueOf, ValueTold, Tells, TestsTell}
use Rattle.v1_call_laws.proofs.Below.{IfBelow, Sane, ready_sane, value_below}

module _ (w : meaning.World) (s : Scope) where
  pub member_runs : (k : Kind) (word : Name) (x : Valued) → IsTold k word → x.moment.stopped ≡ None → (member_value k word x).moment.stopped ≡ None
  member_runs (bits width) word x free h = h
  member_runs unsized word x free h = h
  member_runs boolean word x free h = h
  member_runs error_code word x free h = h
  member_runs (header type) word x free h = h
  member_runs (stack type many) word x free h = absurd free
  member_runs (struct type) word x free h = h
  member_runs packet_in word x free h = h
  member_runs packet_out word x free h = h
  member_runs errors word x free h = h
  member_runs (enumeration enum) word x free h = h
  member_runs (one_of enum) word x free h = h
  member_runs table word x free h = h
  member_runs applied word x free h = h
  member_runs (object obj) word x free h = h
  member_runs items word x free h = h
  member_runs nothing word x free h = h
  member_runs unknown word x free h = h

  method_runs : (k : Kind) (e : Exp16) (x : Valued) → IsNoTable k → x.moment.stopped ≡ None → (method_value w k e x).moment.stopped ≡ None
  method_runs (bits width) e x free h = h
  method_runs unsized e x free h = h
  method_runs boolean e x free h = h
  method_runs error_code e x free h = h
  method_runs (header type) e x free h = h
  method_runs (stack type many) e x free h = h
  method_runs (struct type) e x free h = h
  method_runs packet_in e x free h = h
  method_runs packet_out e x free h = h
  method_runs errors e x free h = h
  method_runs (enumeration enum) e x free h = h
  method_runs (one_of enum) e x free h = h
  method_runs table e x free h = absurd free
  method_runs applied e x free h = h
  method_runs (object obj) e x free h = h
  method_runs items e x free h = h
  method_runs nothing e x free h = h
  method_runs unknown e x free h = h

  pub either_runs : (t : Bool) (x y : Valued) → x.moment.stopped ≡ None → y.moment.stopped ≡ None → (cond t x y).moment.stopped ≡ None
  either_runs true x y h g = h
  either_runs false x y h g = g

  -- evaluating stops nothing
  pub never_stops : (p : Place) (e : Exp16) (m : sem.Moment) → ToldNone s e → AppliesNone s e → m.stopped ≡ None → (value_of w s p e m).moment.stopped ≡ None
  never_stops p (literal n) m told free runs = runs
  never_stops p (truth holds) m told free runs = runs
  never_stops p error m told free runs = runs
  never_stops p (name text) m told free runs = runs
  never_stops p (member e word) m told free runs = member_runs (kind_of s e) word (value_of w s owner e m) told.0 (never_stops owner e m told.1 free runs)
  never_stops p (index e at) m told free runs = never_stops a_stack e m told free runs
  never_stops p (slice e high low) m told free runs = never_stops any_bits e m told free runs
  never_stops p (call (member e word) other) m told free runs = method_runs (kind_of s e) e (value_of w s owner e m) free.0 (never_stops owner e m told.1 free.1 runs)
  never_stops p (call (literal n) other) m told free runs = runs
  never_stops p (call (truth holds) other) m told free runs = runs
  never_stops p (call error other) m told free runs = runs
  never_stops p (call (name text) other) m told free runs = runs
  never_stops p (call (index e at) other) m told free runs = runs
  never_stops p (call (slice e high low) other) m told free runs = runs
  never_stops p (call (call g more) other) m told free runs = runs
  never_stops p (call (lookahead e to more) other) m told free runs = runs
  never_stops p (call (cast to e) other) m told free runs = runs
  never_stops p (call (unary operator e) other) m told free runs = runs
  never_stops p (call (binary operator a b) other) m told free runs = runs
  never_stops p (call (choice c a d) other) m told free runs = runs
  never_stops p (call (parenthesized e) other) m told free runs = runs
  never_stops p (call no_arguments other) m told free runs = runs
  never_stops p (call (argument before last) other) m told free runs = runs
  never_stops p (call (listed es) other) m told free runs = runs
  never_stops p (lookahead e to other) m told free runs = absurd told
  never_stops p (cast to e) m told free runs = never_stops (cast_place to) e m told free runs
  never_stops p (unary operator e) m told free runs = never_stops (unary_place p operator (kind_of s e)) e m told free runs
  never_stops p (binary And a b) m told free runs =
      let x = value_of w s (value boolean) a m in
      let first = never_stops (value boolean) a m told.0 free.0 runs in
      either_runs (is_true x.value) (value_of w s (value boolean) b x.moment) x (never_stops (value boolean) b x.moment told.1 free.1 first) first
  never_stops p (binary Or a b) m told free runs =
      let x = value_of w s (value boolean) a m in
      let first = never_stops (value boolean) a m told.0 free.0 runs in
      either_runs (is_true x.value) x (value_of w s (value boolean) b x.moment) first (never_stops (value boolean) b x.moment told.1 free.1 first)
  never_stops p (binary Multiply a b) m told free runs = never_stops (right_place p Multiply (kind_of s a) (kind_of s b)) b (value_of w s (left_place p Multiply (kind_of s a) (kind_of s b)) a m).moment told.1 free.1 (never_stops (left_place p Multiply (kind_of s a) (kind_of s b)) a m told.0 free.0 runs)
  never_stops p (binary Add a b) m told free runs = never_stops (right_place p Add (kind_of s a) (kind_of s b)) b (value_of w s (left_place p Add (kind_of s a) (kind_of s b)) a m).moment told.1 free.1 (never_stops (left_place p Add (kind_of s a) (kind_of s b)) a m told.0 free.0 runs)
  never_stops p (binary Subtract a b) m told free runs = never_stops (right_place p Subtract (kind_of s a) (kind_of s b)) b (value_of w s (left_place p Subtract (kind_of s a) (kind_of s b)) a m).moment told.1 free.1 (never_stops (left_place p Subtract (kind_of s a) (kind_of s b)) a m told.0 free.0 runs)
  never_stops p (binary SaturatingAdd a b) m told free runs = never_stops (right_place p SaturatingAdd (kind_of s a) (kind_of s b)) b (value_of w s (left_place p SaturatingAdd (kind_of s a) (kind_of s b)) a m).moment told.1 free.1 (never_stops (left_place p SaturatingAdd (kind_of s a) (kind_of s b)) a m told.0 free.0 runs)
  never_stops p (binary SaturatingSubtract a b) m told free runs = never_stops (right_place p SaturatingSubtract (kind_of s a) (kind_of s b)) b (value_of w s (left_place p SaturatingSubtract (kind_of s a) (kind_of s b)) a m).moment told.1 free.1 (never_stops (left_place p SaturatingSubtract (kind_of s a) (kind_of s b)) a m told.0 free.0 runs)
  never_stops p (binary Concatenate a b) m told free runs = never_stops (right_place p Concatenate (kind_of s a) (kind_of s b)) b (value_of w s (left_place p Concatenate (kind_of s a) (kind_of s b)) a m).moment told.1 free.1 (never_stops (left_place p Concatenate (kind_of s a) (kind_of s b)) a m told.0 free.0 runs)
  never_stops p (binary ShiftLeft a b) m told free runs = never_stops (right_place p ShiftLeft (kind_of s a) (kind_of s b)) b (value_of w s (left_place p ShiftLeft (kind_of s a) (kind_of s b)) a m).moment told.1 free.1 (never_stops (left_place p ShiftLeft (kind_of s a) (kind_of s b)) a m told.0 free.0 runs)
  never_stops p (binary ShiftRight a b) m told free runs = never_stops (right_place p ShiftRight (kind_of s a) (kind_of s b)) b (value_of w s (left_place p ShiftRight (kind_of s a) (kind_of s b)) a m).moment told.1 free.1 (never_stops (left_place p ShiftRight (kind_of s a) (kind_of s b)) a m told.0 free.0 runs)
  never_stops p (binary BitAnd a b) m told free runs = never_stops (right_place p BitAnd (kind_of s a) (kind_of s b)) b (value_of w s (left_place p BitAnd (kind_of s a) (kind_of s b)) a m).moment told.1 free.1 (never_stops (left_place p BitAnd (kind_of s a) (kind_of s b)) a m told.0 free.0 runs)
  never_stops p (binary BitXor a b) m told free runs = never_stops (right_place p BitXor (kind_of s a) (kind_of s b)) b (value_of w s (left_place p BitXor (kind_of s a) (kind_of s b)) a m).moment told.1 free.1 (never_stops (left_place p BitXor (kind_of s a) (kind_of s b)) a m told.0 free.0 runs)
  never_stops p (binary BitOr a b) m told free runs = never_stops (right_place p BitOr (kind_of s a) (kind_of s b)) b (value_of w s (left_place p BitOr (kind_of s a) (kind_of s b)) a m).moment told.1 free.1 (never_stops (left_place p BitOr (kind_of s a) (kind_of s b)) a m told.0 free.0 runs)
  never_stops p (binary Less a b) m told free runs = never_stops (right_place p Less (kind_of s a) (kind_of s b)) b (value_of w s (left_place p Less (kind_of s a) (kind_of s b)) a m).moment told.1 free.1 (never_stops (left_place p Less (kind_of s a) (kind_of s b)) a m told.0 free.0 runs)
  never_stops p (binary LessEqual a b) m told free runs = never_stops (right_place p LessEqual (kind_of s a) (kind_of s b)) b (value_of w s (left_place p LessEqual (kind_of s a) (kind_of s b)) a m).moment told.1 free.1 (never_stops (left_place p LessEqual (kind_of s a) (kind_of s b)) a m told.0 free.0 runs)
  never_stops p (binary Greater a b) m told free runs = never_stops (right_place p Greater (kind_of s a) (kind_of s b)) b (value_of w s (left_place p Greater (kind_of s a) (kind_of s b)) a m).moment told.1 free.1 (never_stops (left_place p Greater (kind_of s a) (kind_of s b)) a m told.0 free.0 runs)
  never_stops p (binary GreaterEqual a b) m told free runs = never_stops (right_place p GreaterEqual (kind_of s a) (kind_of s b)) b (value_of w s (left_place p GreaterEqual (kind_of s a) (kind_of s b)) a m).moment told.1 free.1 (never_stops (left_place p GreaterEqual (kind_of s a) (kind_of s b)) a m told.0 free.0 runs)
  never_stops p (binary Equal a b) m told free runs = never_stops (right_place p Equal (kind_of s a) (kind_of s b)) b (value_of w s (left_place p Equal (kind_of s a) (kind_of s b)) a m).moment told.1 free.1 (never_stops (left_place p Equal (kind_of s a) (kind_of s b)) a m told.0 free.0 runs)
  never_stops p (binary NotEqual a b) m told free runs = never_stops (right_place p NotEqual (kind_of s a) (kind_of s b)) b (value_of w s (left_place p NotEqual (kind_of s a) (kind_of s b)) a m).moment told.1 free.1 (never_stops (left_place p NotEqual (kind_of s a) (kind_of s b)) a m told.0 free.0 runs)
  never_stops p (choice c a b) m told free runs =
      let q = chosen_place p (kind_of s a) (kind_of s b) in
      let x = value_of w s (value boolean) c m in
      let first = never_stops (value boolean) c m told.0 free.0 runs in
      either_runs (is_true x.value) (value_of w s q a x.moment) (value_of w s q b x.moment) (never_stops q a x.moment told.1 free.1 first) (never_stops q b x.moment told.2 free.2 first)
  never_stops p (parenthesized e) m told free runs = runs
  never_stops p no_arguments m told free runs = runs
  never_stops p (argument before last) m told free runs = runs
  never_stops p (listed es) m told free runs = runs

width_of : (types : List Layout) (c : Cells) (p : Place) (k : Kind) (v : Value) → IsOfAt types c p k v → IsOfWidth p k v
width_of types c p (bits width) v h = h
width_of types c p unsized v h = h
width_of types c p boolean v h = tt
width_of types c p error_code v h = tt
width_of types c p (header type) v h = tt
width_of types c p (stack type many) v h = tt
width_of types c p (struct type) v h = tt
width_of types c p packet_in v h = tt
width_of types c p packet_out v h = tt
width_of types c p errors v h = tt
width_of types c p (enumeration enum) v h = tt
width_of types c p (one_of enum) v h = tt
width_of types c p table v h = tt
width_of types c p applied v h = tt
width_of types c p (object obj) v h = tt
width_of types c p items v h = tt
width_of types c p nothing v h = tt
width_of types c p unknown v h = tt

at_some : {A : Type 0} (B : A → Type 0) (o : Option A) (x : A) → o ≡ Some x → IfSome o B → B x
at_some {A = A} B o x is h = subst (λ (p : Option A). IfSome p B) is h

module _ (P : Cells → Type 0) (b : Around) (w : meaning.World) (z : World) (s : Scope) (who : InScope) (accepted : BreaksNone b.syntax program_rules) (layouts : s.layouts ≡ layouts_of b.syntax.decls) (seated : NamesSeated s (seats_in b.syntax w.around.roots who)) (fine : Fine s) where
  abbrev seats : List NamedSeat
  seats = seats_in b.syntax w.around.roots who

  -- what applies no table tells the value
  pub plain_tells : (p q : Place) (e : Exp16) (r : Ready) → Keeps s q e → ToldNone s e → ready_of_exp s seats p e ≡ Some r → Tells P b w z s who p e (IsValueOf p (kind_of s e)) (plain r)
  plain_tells p q e r keeps told is m k h runs = by (evaluates.gives m k h runs) where
    free : AppliesNone s e
    free = at_some (λ (x : Ready). AppliesNone s e) (ready_of_exp s seats p e) r is (applies_none s seats p its_value e)

    evaluates : Evaluates P b w z s who p e (IsOfClass (kind_of s e)) (plain r)
    evaluates = plain_evaluates P b w z s who accepted layouts seated fine p q e r keeps is

    ends : (value_of w s p e m).moment.stopped ≡ None
    ends = never_stops w s p e m told free runs

    typed : IsOfAt s.layouts k.cells p (kind_of s e) (value_of w s p e m).value
    typed =
        let narrow = accepted_narrow b.syntax accepted in
        (value_typed w s k.cells m.frame (subst TypesSized (sym layouts) narrow.1) (names_are_of b.syntax k.cells w s who m.frame h.shows.whole narrow.2 layouts h.shows.frame seated) p e m refl (operands_of_kinds s q e keeps free)).is

    below : given (value_of w s p e m).value ≡ ready_value k.cells k.unparsed r → IsBelow (value_of w s p e m).value
    below same = subst IfBelow (sym same) (value_below k.cells k.unparsed h.shows.whole.whole r (at_some Sane (ready_of_exp s seats p e) r is (ready_sane s seats q p its_value e keeps.1)))

    by : ValuedShows P b.syntax who (value_of w s p e m) (test_value z.apply (plain r) k) → ValueTold P b who (IsValueOf p (kind_of s e)) (value_of w s p e m) (test_value z.apply (plain r) k)
    by (inl g) = record {
      value = g.0;
      runs = g.1;
      shown = g.2;
      holds = record {
        class = evaluates.holds m k h runs ends;
        width = width_of s.layouts k.cells p (kind_of s e) (value_of w s p e m).value typed;
        below = below (sym g.0);
      };
    }
    by (inr g) = absurd (cc (sym ends ∙ g.2))

  -- so do all tests where there are no tables
  pub quiet_tell : ((text : Name) → table_found b text ≡ None) → TestsTell P b w z s who
  quiet_tell none p q e keeps told = each (ready_test s seats (table_found b) p e) (only_plain s seats (table_found b) none e p its_value) where
    each : (o : Option Test) → IfSome o (IsPlain (ready_of_exp s seats p e)) → IfSome o (Tells P b w z s who p e (IsValueOf p (kind_of s e)))
    each None h = tt
    each (Some t) h = subst (Tells P b w z s who p e (IsValueOf p (kind_of s e))) (sym h.1.0) (plain_tells p q e h.0 keeps told h.1.1)
