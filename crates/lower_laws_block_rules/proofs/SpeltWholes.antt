-- The six blocks are spelt, where names are.
use Rattle.std.proofs.Common.{◌≡◌, inl, inr, ℕ, Bool, true, false, ◌||◌, List, [], ◌∷◌, map, refl, sym, ap, subst}
use Rattle.std.specs.Prelude.{codes, is_some}
use Rattle.std.specs.List.{AllByRecursion}
use Rattle.std.specs.Str.{bytes_eq}
use Rattle.std.proofs.lemmas.Slice.Eq.{bytes_eq-Decides}
use Rattle.p414_syntax.specs.declared.parsers.Parser.{Parser}
use Rattle.p414_syntax.specs.declared.syntax.Decl.{Decl}
use Rattle.p414_syntax.specs.declared.syntax.Sort.TheVariants as sort
use Rattle.p414_syntax.specs.Conditions.{block as a_block}
use Rattle.p414_syntax.specs.Tree.{Stmt}
use Rattle.p414_syntax.specs.Names.{Name, declared_in}
use Rattle.p414_syntax.specs.ParserGraph.{states, state_name}
use Rattle.p414_sem.specs.Expanded.{Expanded}
use Rattle.p414_sem.specs.Parsing.{state_named}
use Rattle.p416_syntax.specs.declared.controls.Local.{Local}
use Rattle.p416_syntax.specs.declared.controls.Local.TheVariants as local
use Rattle.p416_syntax.specs.declared.controls.Control16.{Control16}
use Rattle.p416_syntax.specs.declared.parsers.Parser16.{Parser16}
use Rattle.p416_syntax.specs.declared.parts.Param.{Param}
use Rattle.p416_syntax.specs.Conditions.{is_some_listed, statements}
use Rattle.p416_syntax.specs.Tree.{no_statements}
use Rattle.p416_syntax.specs.Names.{has_name}
use Rattle.p416_syntax.specs.Scopes.{Scope}
use Rattle.p416_syntax.specs.Declarations.{control_scope}
use Rattle.lower_laws_base.specs.Context.{Lowering}
use Rattle.lower_laws_controls.specs.Controls.{Plan}
use Rattle.lower_laws_parser.specs.Words.{ParserWords, state_of}
use Rattle.lower_laws_parser.specs.Parsing.{StateFits, parser_words}
use Rattle.lower_laws_parser.specs.Starts.{Begins}
use Rattle.lower_laws_rules.specs.Spelling.{SpeltName, SpeltParam, SpeltVar, SpeltState, SpeltParser, SpeltTable, SpeltLocal, SpeltStmt, SpeltControl}
use Rattle.lower_laws_block_rules.specs.Parsers.{StateHere}
use Rattle.lower_laws_block_rules.specs.Statements.{IsExpandedAt, TableSpelt}
use Rattle.lower_laws_block_rules.specs.Widths.{SpeltHere}
use Rattle.lower_laws_block_rules.specs.Wholes.{LocalHere, PipelineIs, SumsBlockIs, DeparserIs, ParserIs}
use Rattle.lower_laws_block_rules.specs.Spelt.{RootsSpelt, LocalNamed, AllNamed, PipelineNamed, ControlNamed, ParserNamed}
use Rattle.lower_laws_block_rules.proofs.StateNames.{named_among}
use Rattle.lower_laws_block_rules.proofs.SpeltTables.{table_here}
use Rattle.lower_laws_block_rules.proofs.SpeltStatements.{spelt_of}
use Rattle.lower_laws_block_rules.proofs.Guards.{guarded_here}
use Rattle.lower_laws_block_rules.proofs.Sums.{sum_position}
use Rattle.lower_laws_block_rules.proofs.SpeltSums.{sums_here}
use Rattle.lower_laws_block_rules.proofs.Deparser.{emits_here}
use Rattle.lower_laws_block_rules.proofs.SpeltStates.{next_spelt, state_here}
use Rattle.lower_laws_block_rules.proofs.Starts.{initials_here}

-- ingress and egress

module _ (s : Scope) (c : Lowering) (ds : List Decl) (k : Plan) (P : Name → Type 0) (checks : Bool) (body : Stmt) (h m : Name) (d : Control16) (is : PipelineIs s c ds k P checks body h m d) (called : SpeltName d.name) (roots : RootsSpelt h m is.roots) (here : SpeltHere c) (tables : (t : Name) → P t → TableSpelt k t) (expanded : IsExpandedAt a_block body) where
  -- where what it declares is
  pub control_spelt : AllByRecursion SpeltLocal d.locals → SpeltControl d
  control_spelt locals = (
    called,
    ap (λ (ps : List Param). is_some_listed ps) is.parameters,
    subst (AllByRecursion SpeltParam) (sym is.parameters) ((roots.header_struct, roots.headers), ((roots.metadata_struct, roots.metadata), ((refl, roots.standard), tt))),
    locals,
    subst (SpeltStmt statements) (sym is.body_is) (guarded_here c here checks _ (spelt_of c ds is.wide here k P tables a_block body expanded is.stand is.fits)),
  )

module _ (s : Scope) (c : Lowering) (ds : List Decl) (k : Plan) (P : Name → Type 0) (checks : Bool) (body : Stmt) (h m : Name) (d : Control16) (is : PipelineIs s c ds k P checks body h m d) (named : PipelineNamed c ds (control_scope s d) k P body h m is.roots d is.locals) where
  local_spelt : (l : Local) (here : LocalHere c ds (control_scope s d) k l) → LocalNamed c ds (control_scope s d) k l here → SpeltLocal l
  local_spelt (local.Var v) here is_named = subst SpeltVar (sym here.1) (is_named.0, is_named.1, refl)
  local_spelt (local.Action a) here is_named = is_named
  local_spelt (local.Table u) here is_named =
      subst SpeltTable (sym here.2) (table_here c ds (control_scope s d) is.wide named.here (k.copy here.0.name) (k.table here.0.name) here.1 here.0 here.3 is_named)
  local_spelt (local.Instance notes i) here is_named = absurd here

  locals_spelt : (ls : List Local) (all : AllByRecursion (LocalHere c ds (control_scope s d) k) ls) → AllNamed c ds (control_scope s d) k ls all → AllByRecursion SpeltLocal ls
  locals_spelt [] all names = tt
  locals_spelt (l ∷ ls) all names = (local_spelt l all.0 names.0, locals_spelt ls all.1 names.1)

  pub pipeline_spelt : SpeltControl d
  pipeline_spelt = control_spelt s c ds k P checks body h m d is named.name named.roots named.here named.tables named.expanded (locals_spelt d.locals is.locals named.locals)

-- verify and compute, and the deparser

module _ (s : Scope) (c : Lowering) (ds : List Decl) (x : Expanded) (updates : Bool) (h m : Name) (d : Control16) (is : SumsBlockIs s c ds x updates (sum_position updates) h m d) (named : ControlNamed c h m is.roots d) where
  pub sums_spelt : SpeltControl d
  sums_spelt = (
    named.name,
    ap (λ (ps : List Param). is_some_listed ps) is.parameters,
    subst (AllByRecursion SpeltParam) (sym is.parameters) ((named.roots.header_struct, named.roots.headers), ((named.roots.metadata_struct, named.roots.metadata), tt)),
    subst (AllByRecursion SpeltLocal) (sym is.bare) tt,
    subst (SpeltStmt statements) (sym is.body_is) (sums_here c ds is.wide named.here x updates is.fields),
  )

module _ (s : Scope) (c : Lowering) (packet : Name) (order : List ℕ) (h m : Name) (d : Control16) (is : DeparserIs s c packet order h d) (named : ControlNamed c h m is.roots d) (packet_is : SpeltName packet) where
  pub deparser_spelt : SpeltControl d
  deparser_spelt = (
    named.name,
    ap (λ (ps : List Param). is_some_listed ps) is.parameters,
    subst (AllByRecursion SpeltParam) (sym is.parameters) ((refl, named.roots.packet), ((named.roots.header_struct, named.roots.headers), tt)),
    subst (AllByRecursion SpeltLocal) (sym is.bare) tt,
    subst (SpeltStmt statements) (sym is.body_is) (emits_here c named.here packet packet_is order is.stand),
  )

-- the parser

each_at : (f : Name → Name) (ys : List Parser) (text : Name) → AllByRecursion (λ (y : Parser). SpeltName (f y.name)) ys → has_name (map state_name ys) text ≡ true → SpeltName (f text)
each_at f [] text all has = absurd (cc has)
each_at f (y ∷ ys) text all has = by (bytes_eq text y.name) refl has (each_at f ys text all.1) where
  by : (b : Bool) → bytes_eq text y.name ≡ b → b || has_name (map state_name ys) text ≡ true → (has_name (map state_name ys) text ≡ true → SpeltName (f text)) → SpeltName (f text)
  by true same has rest = subst (λ (z : Name). SpeltName (f z)) (sym ((bytes_eq-Decides text y.name).0 same)) all.0
  by false other has rest = rest has

module _ (s : Scope) (c : Lowering) (ds : List Decl) (packet : Name) (state : Name → Name) (h m : Name) (q : Parser16) (is : ParserIs s c ds packet state h m q) (named : ParserNamed c ds packet state h m q.name is.roots) where
  abbrev p : ParserWords
  p = parser_words c packet state

  states_are : (called : Name) → is_some (state_named ds called) ≡ true → SpeltName (state called)
  states_are called there = each_at state (states ds) called named.each (named_among ds called there)

  own : (ys : List Parser) → AllByRecursion (λ y. StateFits c ds p y × StateHere ds y) ys → AllByRecursion (λ (y : Parser). SpeltName (state y.name)) ys → AllByRecursion SpeltState (map (state_of ds p) ys)
  own [] all names = tt
  own (y ∷ ys) all names = (state_here c ds packet state is.wide named.here named.packet_is states_are y all.0.0 all.0.1 names.0, own ys all.1 names.1)

  states_spelt : AllByRecursion SpeltState q.states
  states_spelt = by is.begins where
    by : Begins c ds p q.states → AllByRecursion SpeltState q.states
    by (inl b) =
        subst (AllByRecursion SpeltState) (sym b.written)
        ((refl, initials_here c ds packet state is.wide named.here no_statements (declared_in sort.Instance ds) tt b.fits, next_spelt c ds packet state is.wide named.here named.packet_is states_are (codes "start")), own (states ds) is.each named.each)
    by (inr b) = subst (AllByRecursion SpeltState) (sym b.written) (own (states ds) is.each named.each)

  pub parser_spelt : SpeltParser q
  parser_spelt = (
    named.name,
    ap (λ (ps : List Param). is_some_listed ps) is.parameters,
    subst (AllByRecursion SpeltParam) (sym is.parameters) ((refl, named.roots.packet), ((named.roots.header_struct, named.roots.headers), ((named.roots.metadata_struct, named.roots.metadata), ((refl, named.roots.standard), tt)))),
    subst (AllByRecursion SpeltVar) (sym is.bare) tt,
    states_spelt,
  )
