-- The controls of the sample are as is asked.
use Rattle.std.proofs.Common.{◌≡◌, inl, inr, ℕ, zero, suc, ◌<◌, Bool, true, false, ◌||◌, cond, None, Some, [], ◌∷◌, ◌++◌, refl, sym, subst, arith}
use Rattle.std.specs.Prelude.{codes, take}
use Rattle.std.specs.Str.{bytes_eq}
use Rattle.p414_syntax.specs.declared.syntax.Rule14.TheVariants.{Parallel}
use Rattle.p414_syntax.specs.Tree.{no_statements as nothing14}
use Rattle.p414_syntax.specs.Names.{Name, has_name}
use Rattle.p414_syntax.specs.Tables.{listed_in}
use Rattle.p416_syntax.specs.declared.program.Decl16.TheVariants as decl
use Rattle.p416_syntax.specs.Scopes.{Scope}
use Rattle.p416_syntax.specs.Declarations.{control_scope, action_uses}
use Rattle.p416_syntax.specs.Breaks.{scope_of}
use Rattle.v1_core.specs.declared.block.Block.TheVariants.{Ingress, Egress}
use Rattle.v1_core.specs.Blocks.{around_control, control_world}
use Rattle.p416_syntax.specs.declared.controls.Control16.{Control16}
use Rattle.lower_laws_base.specs.Context.{Lowering}
use Rattle.lower_laws_sums.proofs.Programs.{t14, body14, copied, plan}
use Rattle.lower_laws_program.specs.Program.{pipeline_parameters, syntax_of}
use Rattle.lower_laws_program.specs.Scopes.{block_lowering}
use Rattle.lower_laws_program.specs.Controls.{old_locals, ControlNames}
use Rattle.lower_laws_program.specs.Fits.{pipeline_block}
use Rattle.lower_laws_rules.specs.Keeping.{Keeps}
use Rattle.lower_laws_rules.specs.Written.{action16}
use Rattle.lower_laws_rules.specs.Whole.{EachKeeps}
use Rattle.lower_laws_rules.proofs.Parts.{part_none, part_then}
use Rattle.lower_laws_rules.proofs.Externs.{part_count_entry}
use Rattle.lower_laws_rules.proofs.Tables.{action_kept}
use Rattle.lower_laws_block_rules.specs.Tables.{TableHere}
use Rattle.lower_laws_block_rules.specs.Wholes.{TablePlaced}
use Rattle.lower_laws_block_rules.specs.Program.{PipelineRules}
use Rattle.lower_laws_block_rules.specs.Joined.{decl_held}
use Rattle.lower_laws_block_rules.proofs.OfControls.{ingress_keeps, egress_keeps}
use Rattle.lower_laws_block_rules.proofs.SampleProgram.{ds, expanded, g, t, p, objects, locals, counting, a_named, some_entries}
use Rattle.lower_laws_block_rules.proofs.SampleTypes.{once, types_fit, wide}
use Rattle.lower_laws_block_rules.proofs.SampleParser.{c16}

-- names in ingress and egress

pub one_object : (P : ℕ → Type 0) → P 0 → (j : ℕ) → j < 1 → P j
one_object P a zero lt = a
one_object P a (suc j) lt = absurd (omega (arith, lt))

pub ingress_names : ControlNames g p pipeline_parameters (old_locals Parallel) objects (control_world (around_control c16 Ingress p.ingress)) p.ingress
ingress_names = record {
  locals = locals;
  parameters_are = refl;
  locals_are = refl;
  functions_free = ((refl, (refl, (refl, tt))), ((refl, (refl, (refl, tt))), ((refl, (refl, (refl, tt))), ((refl, (refl, (refl, tt))), ((refl, (refl, (refl, tt))), ((refl, (refl, (refl, tt))), ((refl, (refl, (refl, tt))), ((refl, (refl, (refl, tt))), ((refl, (refl, (refl, tt))), tt)))))))));
  enumerations_free = ((refl, (refl, (refl, tt))), ((refl, (refl, (refl, tt))), ((refl, (refl, (refl, tt))), ((refl, (refl, (refl, tt))), tt))));
  objects_there = one_object _ (record { notes = []; instance = _; has = inr (inr (inr (inr (inl refl)))); named = refl; sort = refl; clear = (refl, (refl, (refl, (refl, (refl, (refl, (refl, (refl, (refl, tt))))))))) });
  numbered = one_object _ refl;
  stored = omega arith;
  shape = one_object _ refl;
}

pub egress_names : ControlNames g p pipeline_parameters (old_locals Parallel) objects (control_world (around_control c16 Egress p.egress)) p.egress
egress_names = record {
  locals = [];
  parameters_are = refl;
  locals_are = refl;
  functions_free = (tt, (tt, (tt, (tt, (tt, (tt, (tt, (tt, (tt, tt)))))))));
  enumerations_free = (tt, (tt, (tt, (tt, tt))));
  objects_there = one_object _ (record { notes = []; instance = _; has = inr (inr (inr (inr (inl refl)))); named = refl; sort = refl; clear = (refl, (refl, (refl, (refl, (refl, (refl, tt)))))) });
  numbered = one_object _ refl;
  stored = omega arith;
  shape = one_object _ refl;
}

-- ingress

abbrev pub ci : Lowering
ci = block_lowering g t (pipeline_block Parallel objects) (control_world (around_control c16 Ingress p.ingress))

abbrev pub top : Control16 → Scope
top d = scope_of (syntax_of p) (decl.Control d)

abbrev pub here : Scope
here = control_scope (top p.ingress) p.ingress

pub put_kept : Keeps (action_uses here (action16 (codes "put") (codes "put_c0_") (a_named (codes "v") 8 ∷ []) counting)) []
put_kept = action_kept here (codes "put") (codes "put_c0_") (a_named (codes "v") 8 ∷ []) counting refl ((omega arith, omega arith), tt) (part_then part_none (part_count_entry (codes "put_c0_") refl refl refl refl)) refl (omega arith)

pub mark_kept : Keeps (action_uses here (action16 (codes "mark") (codes "mark_c0_") [] counting)) []
mark_kept = action_kept here (codes "mark") (codes "mark_c0_") [] counting refl tt (part_then part_none (part_count_entry (codes "mark_c0_") refl refl refl refl)) refl (omega arith)

pub table_here : TableHere ci ds here copied (Some (codes "d")) t14
table_here = record {
  keys = (((omega arith, omega arith, refl, omega arith), refl), (((omega arith, omega arith, refl), refl), tt));
  good = refl;
  single = refl;
  listed = (refl, (refl, tt));
  counter_is = refl;
  default = (refl, refl);
}

-- copies are of actions that the table lists
pub only_listed : (a text : Name) → copied a ≡ Some text → has_name (listed_in t14) a ≡ true
only_listed a text e = by (bytes_eq a (codes "put")) (bytes_eq a (codes "mark")) e where
  by : (b k : Bool) → cond b (Some (codes "put_c0_")) (cond k (Some (codes "mark_c0_")) None) ≡ Some text → b || (k || false) ≡ true
  by true k e = refl
  by false true e = refl
  by false false e = absurd (cc e)

abbrev pub IsT : Name → Type 0
IsT name = name ≡ codes "t"

abbrev pub ingress_rules : PipelineRules ci ds (top p.ingress) plan IsT true body14 p.ingress
ingress_rules = record {
  names = refl;
  counters = refl;
  locals = ((codes "hs", refl, refl), ((codes "ms", refl, refl), ((_, refl, refl), (put_kept, (mark_kept, ((t14, Some (codes "d"), refl, table_here), tt))))));
  tables = λ name is. subst (TablePlaced ci ds here plan p.ingress.locals) (sym is) (record { table = t14; counter = Some (codes "d"); before = old_locals Parallel ++ take 2 locals; after = []; stands = refl; here = table_here; listed = only_listed });
  fits = (tt, tt, (tt, (((λ e. (omega arith, omega arith, refl)), (((omega arith, omega arith, refl, omega arith), refl), omega arith))), (tt, tt, (tt, refl, (((tt, refl), ((tt, refl), tt, tt), tt)))), tt));
  stand = (tt, ((tt, (tt, (omega arith, omega arith))), omega arith, (tt, ((tt, tt), tt)), tt));
  nests = omega arith;
  body_is = refl;
}

pub the_ingress_keeps : EachKeeps (syntax_of p) decl_held (decl.Control p.ingress)
the_ingress_keeps = ingress_keeps g ds expanded t p types_fit once some_entries wide Parallel objects plan IsT body14 ingress_names ingress_rules

-- egress

abbrev pub ce : Lowering
ce = block_lowering g t (pipeline_block Parallel objects) (control_world (around_control c16 Egress p.egress))

abbrev pub egress_rules : PipelineRules ce ds (top p.egress) plan (λ name. ⊥) false nothing14 p.egress
egress_rules = record {
  names = refl;
  counters = refl;
  locals = ((codes "hs", refl, refl), ((codes "ms", refl, refl), ((_, refl, refl), tt)));
  tables = λ name is. absurd is;
  fits = tt;
  stand = tt;
  nests = omega arith;
  body_is = refl;
}

pub the_egress_keeps : EachKeeps (syntax_of p) decl_held (decl.Control p.egress)
the_egress_keeps = egress_keeps g ds expanded t p types_fit once some_entries wide Parallel objects plan (λ name. ⊥) nothing14 egress_names egress_rules
