-- What each step keeps, the whole keeps: effects one after another, primitives under both rules, an application of a table, the
-- statements of a control, the states of the parser, calculated fields.
use Rattle.std.proofs.Common.{◌≡◌, inl, inr, ℕ, zero, suc, Bool, true, false, cond, Option, Some, None, List, [], ◌∷◌, fold, refl, sym, subst}
use Rattle.std.specs.Prelude.{ℤ, pos, filter}
use Rattle.std.specs.List.{AllByRecursion}
use Rattle.p414_syntax.specs.declared.calculations.Calc.{Calc}
use Rattle.p414_syntax.specs.declared.calculations.CalculatedField.{CalculatedField}
use Rattle.p414_syntax.specs.declared.headers.Initial.{Initial}
use Rattle.p414_syntax.specs.declared.headers.Metadata.{Metadata}
use Rattle.p414_syntax.specs.declared.node.Label.{Label}
use Rattle.p414_syntax.specs.declared.parts.Inst.{Inst}
use Rattle.p414_syntax.specs.declared.parts.Ref.{Ref}
use Rattle.p414_syntax.specs.declared.parsers.CaseTarget.{CaseTarget}
use Rattle.p414_syntax.specs.declared.parsers.CaseTarget.TheVariants as case_target
use Rattle.p414_syntax.specs.declared.parsers.PStmt.{PStmt}
use Rattle.p414_syntax.specs.declared.parsers.PStmt.TheVariants as pstmt
use Rattle.p414_syntax.specs.declared.parsers.PValue.{PValue}
use Rattle.p414_syntax.specs.declared.parsers.Return.{Return}
use Rattle.p414_syntax.specs.declared.parsers.Return.TheVariants as end_of
use Rattle.p414_syntax.specs.declared.parsers.Parser.{Parser}
use Rattle.p414_syntax.specs.declared.syntax.Decl.{Decl}
use Rattle.p414_syntax.specs.declared.syntax.Decl.TheVariants as decl
use Rattle.p414_syntax.specs.declared.syntax.Rule14.{Rule14}
use Rattle.p414_syntax.specs.declared.syntax.Rule14.TheVariants.{Sequential, Parallel}
use Rattle.p414_syntax.specs.declared.tables.Table.{Table}
use Rattle.p414_syntax.specs.Attributes.{initials_of}
use Rattle.p414_syntax.specs.Tree.{Stmt, no_statements, then, apply, apply_branches, if_then, call, no_else, else_block, else_if, no_branches, branch}
use Rattle.p414_syntax.specs.Names.{Name}
use Rattle.p414_syntax.specs.Arguments.{Invocation, action_number}
use Rattle.p414_syntax.specs.Lists.{calculated_fields, is_update}
use Rattle.p414_sem.specs.Wholes.{whole, wrapped}
use Rattle.p414_sem.specs.Slots.{slot_of, field_target}
use Rattle.p414_sem.specs.State.{State, is_live, written}
use Rattle.p414_sem.specs.Expanded.{Expanded}
use Rattle.p414_sem.specs.Operations.{primitive_of}
use Rattle.p414_sem.specs.Conditions.{holds}
use Rattle.p414_sem.specs.Effects.{Moment, Effect, effects, fallen, all_fallen, in_sequence, in_parallel, acted, acted_by}
use Rattle.p414_sem.specs.Signatures.{table_sig, table_of}
use Rattle.p414_sem.specs.Controls.{Setting, Chosen, chosen, chosen_name, run_chosen, counted, noted, signature_number, found, applied, has_block_of, runs_block, run, no_label, control_run}
use Rattle.p414_sem.specs.CalculatedFields.{entry_result, first_holding, updated_by, updated_field, updated}
use Rattle.p414_sem.specs.Parsing.{field_named, with_initial, initialized, Latest, Progress, goes_on, stops, extracted, set as put, parser_value, does_next, Step, to, ended, leads, selects, target_of_key, key_of, key_width, returns, state_named, step_from, followed, parse_from}
use Rattle.lower_laws_states.specs.Expansions.{Has}

-- effects and primitives

pub all_fallen_keeps : (P : State → Type 0) (E : Effect → Type 0) → ((m : Moment) (e : Effect) → P m.state → E e → P (fallen m e).state) → (es : List Effect) (m : Moment) → P m.state → AllByRecursion E es → P (all_fallen m es).state
all_fallen_keeps P E step [] m is fit = is
all_fallen_keeps P E step (e ∷ es) m is fit = all_fallen_keeps P E step es (fallen m e) (step m e is fit.0) fit.1

module _ (ds : List Decl) (x : Expanded) (arguments : List ℕ) (P : State → Type 0) (Q : Invocation → Type 0) (step : (r m : Moment) (i : Invocation) → P r.state → P m.state → Q i → P (all_fallen m (effects ds arguments r (primitive_of ds x i))).state) where
  in_sequence_keeps : (calls : List Invocation) (m : Moment) → P m.state → AllByRecursion Q calls → P (in_sequence ds x arguments calls m).state
  in_sequence_keeps [] m is fit = is
  in_sequence_keeps (i ∷ calls) m is fit = in_sequence_keeps calls _ (step m m i is is fit.0) fit.1

  in_parallel_keeps : (r : Moment) (calls : List Invocation) (m : Moment) → P r.state → P m.state → AllByRecursion Q calls → P (in_parallel ds x arguments r calls m).state
  in_parallel_keeps r [] m read is fit = is
  in_parallel_keeps r (i ∷ calls) m read is fit = in_parallel_keeps r calls _ read (step r m i read is fit.0) fit.1

  pub acted_keeps : (rule : Rule14) (calls : List Invocation) (m : Moment) → P m.state → AllByRecursion Q calls → P (acted ds x rule arguments calls m).state
  acted_keeps Sequential calls m is fit = in_sequence_keeps calls m is fit
  acted_keeps Parallel calls m is fit = in_parallel_keeps m calls m is is fit

-- tables and controls

module _ (c : Setting) (P : State → Type 0) (acts : (action : ℕ) (arguments : List ℕ) (m : Moment) → P m.state → P (acted_by c.decls c.expanded c.rule action arguments m).state) (notes : (name : Name) (t : Table) (m : Moment) → table_of c.decls name ≡ Some t → P m.state → P (noted (signature_number c.decls t) (found c m.state t) (chosen c t (found c m.state t)) m).state) where
  run_chosen_keeps : (t : Table) (k : Option Chosen) (m : Moment) → P m.state → P (run_chosen c t k m).state
  run_chosen_keeps t None m is = is
  run_chosen_keeps t (Some k) m is = by (action_number c.decls (chosen_name t k)) refl where
    by : (o : Option ℕ) → action_number c.decls (chosen_name t k) ≡ o → P (run_chosen c t (Some k) m).state
    by None e = rw e is
    by (Some action) e = rw e (acts action k.arguments m is)

  counted_keeps : (counter entry : Option ℕ) (m : Moment) → P m.state → P (counted counter entry m).state
  counted_keeps (Some counter) (Some entry) m is = is
  counted_keeps (Some counter) None m is = is
  counted_keeps None entry m is = is

  applied_keeps : (name : Name) (m : Moment) → P m.state → P (applied c name m).moment.state
  applied_keeps name m is = by (table_of c.decls name) refl where
    by : (o : Option Table) → table_of c.decls name ≡ o → P (applied c name m).moment.state
    by None e = rw e is
    by (Some t) e = rw e (run_chosen_keeps t _ _ (counted_keeps (table_sig c.decls t).direct (found c m.state t) _ (notes name t m e is)))

  either : (b : Bool) (m n : Moment) → P m.state → P n.state → P (cond b m n).state
  either true m n this other = this
  either false m n this other = other

  run_keeps : (taken : Label → Bool) (s : Stmt) (m : Moment) → P m.state → P (run c taken s m).state
  run_keeps taken no_statements m is = is
  run_keeps taken ((then) a b) m is = run_keeps taken b (run c taken a m) (run_keeps taken a m is)
  run_keeps taken (apply t) m is = applied_keeps t m is
  run_keeps taken (apply_branches t s) m is =
      let a = applied c t m in run_keeps (runs_block a (has_block_of a.action s)) s a.moment (applied_keeps t m is)
  run_keeps taken (if_then e a b) m is = either (holds c.decls m.state e) _ _ (run_keeps taken a m is) (run_keeps taken b m is)
  run_keeps taken (call name) m is = is
  run_keeps taken no_else m is = is
  run_keeps taken (else_block s) m is = run_keeps taken s m is
  run_keeps taken (else_if s) m is = run_keeps taken s m is
  run_keeps taken no_branches m is = is
  run_keeps taken (branch a l b) m is = either (taken l) _ _ (run_keeps taken b m is) (run_keeps taken a m is)

  pub control_keeps : (body : Stmt) (m : Moment) → P m.state → P (control_run c body m).state
  control_keeps body m is = run_keeps no_label body m is

-- what stands behind statements and behind a state of the parser

abbrev pub standing : Progress → State
standing (goes_on latest s) = s
standing (stops end s) = s

abbrev left_by : Step → State
left_by (to name s) = s
left_by (ended end s) = s

led_by : (s : State) (t : Option CaseTarget) → left_by (leads s t) ≡ s
led_by s None = refl
led_by s (Some (case_target.ParseError name)) = refl
led_by s (Some (case_target.State name)) = refl

returned : (ds : List Decl) (end : Return) (p : Progress) → left_by (returns ds end p) ≡ standing p
returned ds end (stops e s) = refl
returned ds (end_of.State name) (goes_on latest s) = refl
returned ds (end_of.ParseError name) (goes_on latest s) = refl
returned ds (end_of.Select vs cases) (goes_on latest s) = by (key_of ds latest s vs) where
  by : (key : Option ℕ) → left_by (selects (key_width ds latest vs) cases s key) ≡ s
  by None = refl
  by (Some key) = led_by s (target_of_key (key_width ds latest vs) key cases)

-- fields that are written by name: initial values, by the parser, and calculated fields

module _ (ds : List Decl) (P : State → Type 0) (W : Ref → Type 0) (writes : (r : Ref) (z : ℤ) (s : State) → P s → W r → P (written s (field_target ds r).slot (wrapped (field_target ds r).width z))) where
  initial_keeps : (name : Name) → ((field : Name) → W (field_named name field)) → (initials : List Initial) (s : State) → P s → P (fold (with_initial ds name) s initials)
  initial_keeps name each [] s is = is
  initial_keeps name each (i ∷ initials) s is = initial_keeps name each initials (with_initial ds name s i) (writes (field_named name i.field) (whole i.value) s is (each i.field))

  pub initialized_keeps : (xs : List Decl) → ((x : Metadata) → Has xs (decl.Metadata x) → (field : Name) → W (field_named x.name field)) → (s : State) → P s → P (fold (initialized ds) s xs)
  initialized_keeps [] each s is = is
  initialized_keeps (decl.Metadata x ∷ xs) each s is = initialized_keeps xs (λ y h. each y (inr h)) _ (initial_keeps x.name (each x (inl refl)) (initials_of x.initials) s is)
  initialized_keeps (_ ∷ xs) each s is = initialized_keeps xs (λ y h. each y (inr h)) s is

  by_entry_keeps : (x : Expanded) (f : CalculatedField) (s : State) (o : Option Calc) → P s → W f.field → P (updated_by ds x s f o)
  by_entry_keeps x f s None is fit = is
  by_entry_keeps x f s (Some c) is fit = writes f.field (pos (entry_result ds x s c)) s is fit

  fields_keep : (x : Expanded) (fs : List CalculatedField) → ((f : CalculatedField) → Has fs f → W f.field) → (s : State) → P s → P (fold (updated_field ds x) s fs)
  fields_keep x [] each s is = is
  fields_keep x (f ∷ fs) each s is = fields_keep x fs (λ g h. each g (inr h)) (updated_field ds x s f) (by (is_live s (slot_of ds f.field))) where
    by : (b : Bool) → P (cond b (updated_by ds x s f (first_holding ds s (filter is_update f.entries))) s)
    by true = by_entry_keeps x f s (first_holding ds s (filter is_update f.entries)) is (each f (inl refl))
    by false = is

  pub updated_keeps : (x : Expanded) → ((f : CalculatedField) → Has (calculated_fields ds) f → W f.field) → (s : State) → P s → P (updated ds x s)
  updated_keeps x each s is = fields_keep x (calculated_fields ds) each s is

  -- states of the parser

  module _ (Q : PStmt → Type 0) (extracts : (i : Inst) (s : State) → P s → Q (pstmt.Extract i) → P (standing (extracted ds i s))) (sets : (r : Ref) (v : PValue) → Q (pstmt.SetMetadata r v) → W r) (states : (name : Name) (p : Parser) → state_named ds name ≡ Some p → AllByRecursion Q p.statements) where
    set_keeps : (r : Ref) (latest : Option Latest) (s : State) (z : Option ℤ) → P s → W r → P (standing (put ds r latest s z))
    set_keeps r latest s None is fit = is
    set_keeps r latest s (Some z) is fit = writes r z s is fit

    next_keeps : (q : PStmt) (p : Progress) → P (standing p) → Q q → P (standing (does_next ds p q))
    next_keeps (pstmt.Extract i) (goes_on latest s) is fit = extracts i s is fit
    next_keeps (pstmt.SetMetadata r v) (goes_on latest s) is fit = set_keeps r latest s (parser_value ds latest s v) is (sets r v fit)
    next_keeps q (stops end s) is fit = is

    statements_keep : (qs : List PStmt) (p : Progress) → P (standing p) → AllByRecursion Q qs → P (standing (fold (does_next ds) p qs))
    statements_keep [] p is fit = is
    statements_keep (q ∷ qs) p is fit = statements_keep qs (does_next ds p q) (next_keeps q p is fit.0) fit.1

    step_keeps : (name : Name) (s : State) → P s → P (left_by (step_from ds name s))
    step_keeps name s is = by (state_named ds name) refl where
      by : (o : Option Parser) → state_named ds name ≡ o → P (left_by (step_from ds name s))
      by None e = rw e is
      by (Some p) e = rw e (subst P (sym (returned ds p.end (fold (does_next ds) (goes_on None s) p.statements))) (statements_keep p.statements (goes_on None s) is (states name p e)))

    pub walk_keeps : (left : ℕ) (name : Name) (s : State) → P s → P (parse_from ds left name s).state
    walk_keeps zero name s is = is
    walk_keeps (suc left) name s is = by (step_from ds name s) (step_keeps name s is) (walk_keeps left) where
      by : (y : Step) → P (left_by y) → ((name : Name) (s : State) → P s → P (parse_from ds left name s).state) → P (followed (parse_from ds left) y).state
      by (to other t) is rest = rest other t is
      by (ended end t) is rest = is
