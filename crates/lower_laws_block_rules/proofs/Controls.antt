-- The five controls break no rule.
use Rattle.std.proofs.Common.{◌≡◌, ℕ, suc, Bool, true, false, List, [], ◌∷◌, ◌++◌, map, flat_map, filter_map, Option, Some, refl, sym, ap, ◌∙◌, subst, arith}
use Rattle.std.specs.Prelude.{unwrap_or}
use Rattle.std.specs.List.{AllByRecursion}
use Rattle.p414_syntax.specs.declared.syntax.Decl.{Decl}
use Rattle.p414_syntax.specs.Tree.{Stmt}
use Rattle.p414_syntax.specs.Names.{Name}
use Rattle.p414_syntax.specs.Nesting.{nesting}
use Rattle.p414_syntax.specs.Tables.{listed_in}
use Rattle.p414_sem.specs.Expanded.{Expanded}
use Rattle.p416_syntax.specs.declared.controls.Local.{Local}
use Rattle.p416_syntax.specs.declared.controls.Local.TheVariants as local
use Rattle.p416_syntax.specs.declared.controls.Table16.{Table16}
use Rattle.p416_syntax.specs.declared.controls.Control16.{Control16}
use Rattle.p416_syntax.specs.declared.parsers.Var.{Var}
use Rattle.p416_syntax.specs.declared.parts.Param.{Param}
use Rattle.p416_syntax.specs.declared.program.Decl16.TheVariants as decl
use Rattle.p416_syntax.specs.Names.{has_name, repeats}
use Rattle.p416_syntax.specs.Scopes.{Scope, Handed, called_of, an_action, sort_of}
use Rattle.p416_syntax.specs.Uses.{of_block_parameter}
use Rattle.p416_syntax.specs.Declarations.{parameter_uses, control_names, control_scope, table_uses, var_uses, table_in, tables_in, counters_in}
use Rattle.v1_core.specs.Frames.{of_standard}
use Rattle.lower_laws_base.specs.Context.{Lowering, words_of}
use Rattle.lower_laws_controls.specs.Controls.{Plan, block}
use Rattle.lower_laws_controls.specs.Listing.{each_once, copy_text}
use Rattle.lower_laws_rules.specs.Keeping.{Keeps, Part}
use Rattle.lower_laws_rules.specs.Declared.{type_held, LocalKeeps, ControlFits, control_held, DeclarationKeeps}
use Rattle.lower_laws_rules.proofs.Names.{table_found}
use Rattle.lower_laws_rules.proofs.Controls.{checksum_params_kept, pipeline_params_kept, deparser_params_kept, whole_var_kept, control_kept}
use Rattle.lower_laws_block_rules.specs.Tables.{text_of, IsCopyHere}
use Rattle.lower_laws_block_rules.specs.Statements.{TableSeen}
use Rattle.lower_laws_block_rules.specs.Wholes.{LocalHere, TablePlaced, PipelineIs, SumsBlockIs, DeparserIs}
use Rattle.lower_laws_block_rules.proofs.Names.{each_of, once_has, map_has}
use Rattle.lower_laws_block_rules.proofs.Tables.{table_same, table_text_kept}
use Rattle.lower_laws_block_rules.proofs.Statements.{part_of}
use Rattle.lower_laws_block_rules.proofs.Guards.{part_guarded}
use Rattle.lower_laws_block_rules.proofs.Sums.{sum_position, part_sums}
use Rattle.lower_laws_block_rules.proofs.Deparser.{part_emits}

-- what a table that is placed tells of the scope
placed_seen : (s : Scope) (c : Lowering) (ds : List Decl) (k : Plan) (d : Control16) → repeats (map called_of (control_names s.names d)) ≡ false → (name : Name) → TablePlaced c ds (control_scope s d) k d.locals name → TableSeen (control_scope s d) k name
placed_seen s c ds k d once name is = record {
  actions = names;
  counters = is.counter;
  sort = table_found s d is.before is.after (text_of (words_of c) ds (k.copy name) (k.table name) is.counter is.table) (is.stands ∙ ap (λ (u : Table16). is.before ++ local.Table u ∷ is.after) (table_same (words_of c) ds (k.copy name) is.table (k.table name) is.counter)) once;
  labels = labels;
} where
  names : List Name
  names = map (copy_text (k.copy name)) (each_once (listed_in is.table))

  labels : (a text : Name) → k.copy name a ≡ Some text → (has_name names text ≡ true) × ((plane : Name) × (parameters : List Handed) × (sort_of (control_scope s d) text ≡ an_action plane parameters))
  labels a text e =
      let has = is.listed a text e in
      let same : copy_text (k.copy name) a ≡ text = ap (λ (o : Option Name). unwrap_or o []) e in (
        subst (λ (z : Name). has_name names z ≡ true) same (map_has (copy_text (k.copy name)) (each_once (listed_in is.table)) a (once_has (listed_in is.table) a has)),
        (a, _, ap (sort_of (control_scope s d)) (sym same) ∙ each_of (IsCopyHere ds (control_scope s d) (k.copy name)) (listed_in is.table) a has is.here.listed),
      )

module _ (s : Scope) (c : Lowering) (ds : List Decl) (k : Plan) (P : Name → Type 0) (checks : Bool) (body : Stmt) (h m : Name) (d : Control16) (is : PipelineIs s c ds k P checks body h m d) where
  abbrev here : Scope
  here = control_scope s d

  -- each declaration
  local_kept : (l : Local) → LocalHere c ds here k l → LocalKeeps here l
  local_kept (local.Var v) fits = subst (λ (v : Var). Keeps (var_uses here v) (type_held v.of)) (sym fits.1) (whole_var_kept here fits.0 v.name fits.2)
  local_kept (local.Action a) fits = fits
  local_kept (local.Table u) fits = subst (λ (u : Table16). Keeps (table_uses here u) []) (sym fits.2) (table_text_kept c ds here [] is.sees (k.copy fits.0.name) (k.table fits.0.name) fits.1 fits.0 fits.3)
  local_kept (local.Instance notes i) fits = absurd fits

  locals_kept : (ls : List Local) → AllByRecursion (LocalHere c ds here k) ls → AllByRecursion (LocalKeeps here) ls
  locals_kept [] all = tt
  locals_kept (l ∷ ls) all = (local_kept l all.0, locals_kept ls all.1)

  body_part : Part here here [] (suc (nesting body)) d.body
  body_part =
      subst (Part here here [] (suc (nesting body))) (sym is.body_is)
      (part_guarded c here is.sees is.standard is.standard_is (is.writes of_standard is.standard) is.at checks (nesting body) _
      (part_of c ds here is.sees is.wide refl k P (λ t p. placed_seen s c ds k d is.names t (is.tables t p)) block body is.fits is.stand))

  pub pipeline_fits : ControlFits s d
  pipeline_fits = record {
    names = is.names;
    counters = is.counters;
    parameters = subst (λ (ps : List Param). Keeps (flat_map (parameter_uses s of_block_parameter) ps) []) (sym is.parameters) (pipeline_params_kept s h m is.roots is.headers is.metadata is.standards);
    locals = locals_kept d.locals is.locals;
    deep = suc (nesting body);
    few = let most = is.nests in omega (arith, most);
    body = body_part;
  }

  pub pipeline_keeps : DeclarationKeeps s (decl.Control d) (control_held d)
  pipeline_keeps = control_kept s d pipeline_fits

-- verify and compute

no_tables : (d : Control16) → d.locals ≡ [] → repeats (filter_map counters_in (tables_in d)) ≡ false
no_tables d bare = ap (λ (ls : List Local). repeats (filter_map counters_in (filter_map table_in ls))) bare

no_locals : (s : Scope) (d : Control16) → d.locals ≡ [] → AllByRecursion (LocalKeeps (control_scope s d)) d.locals
no_locals s d bare = subst (AllByRecursion (LocalKeeps (control_scope s d))) (sym bare) tt

module _ (s : Scope) (c : Lowering) (ds : List Decl) (x : Expanded) (updates : Bool) (h m : Name) (d : Control16) (is : SumsBlockIs s c ds x updates (sum_position updates) h m d) where
  pub sums_fit : ControlFits s d
  sums_fit = record {
    names = is.names;
    counters = no_tables d is.bare;
    parameters = subst (λ (ps : List Param). Keeps (flat_map (parameter_uses s of_block_parameter) ps) []) (sym is.parameters) (checksum_params_kept s h m is.roots is.headers is.metadata);
    locals = no_locals s d is.bare;
    deep = 0;
    few = omega arith;
    body = subst (Part (control_scope s d) (control_scope s d) [] 0) (sym is.body_is) (part_sums c ds (control_scope s d) is.sees is.wide x updates is.at is.writes is.fields);
  }

  pub sums_keep : DeclarationKeeps s (decl.Control d) (control_held d)
  sums_keep = control_kept s d sums_fit

module _ (s : Scope) (c : Lowering) (packet : Name) (order : List ℕ) (h : Name) (d : Control16) (is : DeparserIs s c packet order h d) where
  pub deparser_fits : ControlFits s d
  deparser_fits = record {
    names = is.names;
    counters = no_tables d is.bare;
    parameters = subst (λ (ps : List Param). Keeps (flat_map (parameter_uses s of_block_parameter) ps) []) (sym is.parameters) (deparser_params_kept s h is.roots is.packets is.headers);
    locals = no_locals s d is.bare;
    deep = 0;
    few = omega arith;
    body = subst (Part (control_scope s d) (control_scope s d) [] 0) (sym is.body_is) (part_emits c packet (control_scope s d) is.deparses is.at order is.stand);
  }

  pub deparser_keeps : DeclarationKeeps s (decl.Control d) (control_held d)
  deparser_keeps = control_kept s d deparser_fits
