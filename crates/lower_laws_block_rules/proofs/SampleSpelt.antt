-- The whole sample is spelt.
use Rattle.std.proofs.Common.{◌≡◌, ℕ, zero, suc, ◌<◌, ◌≤◌, Bool, true, false, cond, None, Some, [], ◌∷◌, length, refl, sym, ap, subst, arith}
use Rattle.std.specs.Prelude.{codes}
use Rattle.std.specs.Str.{bytes_eq}
use Rattle.p414_syntax.specs.Tree.{no_statements as nothing14}
use Rattle.p414_syntax.specs.Names.{Name}
use Rattle.p416_syntax.specs.declared.program.Decl16.TheVariants as decl
use Rattle.p414_syntax.specs.declared.syntax.Rule14.TheVariants.{Parallel}
use Rattle.p416_syntax.specs.Spelt.{is_spelt16}
use Rattle.p416_syntax.specs.Breaks.{scope_of}
use Rattle.v1_core.specs.declared.block.Block.TheVariants.{Verify, Ingress, Egress, Compute, Deparse}
use Rattle.v1_core.specs.Blocks.{around_control, control_world}
use Rattle.v1_core.specs.Parsing.{around_parser}
use Rattle.v1_core.specs.Frames.{of_headers, of_metadata}
use Rattle.v1_core.specs.Surroundings.{World, quiet_world}
use Rattle.agreement_of_meanings.specs.Shown.{name_of, fields_of, field_at, shown_at}
use Rattle.lower_laws_sums.proofs.Programs.{body14, copied, plan}
use Rattle.lower_laws_program.specs.Program.{packet_called, root_struct, syntax_of}
use Rattle.lower_laws_program.specs.Scopes.{BlockWords, block_lowering}
use Rattle.lower_laws_program.specs.Controls.{checksum_block}
use Rattle.lower_laws_program.specs.Fits.{pipeline_block, parser_block, parser_lowering, deparser_block, deparser_lowering}
use Rattle.lower_laws_rules.specs.Spelling.{SpeltName, SpeltControl, SpeltParser}
use Rattle.lower_laws_block_rules.specs.Widths.{SpeltHere}
use Rattle.lower_laws_block_rules.specs.Statements.{TableSpelt}
use Rattle.lower_laws_block_rules.proofs.SampleProgram.{ds, expanded, g, t, p, objects, state_called, some_entries}
use Rattle.lower_laws_block_rules.proofs.SampleTypes.{once, types_fit, wide}
use Rattle.lower_laws_block_rules.proofs.SampleParser.{c16, parser_fits, parser_rules, deparser_fits}
use Rattle.lower_laws_block_rules.proofs.SampleControls.{ci, ce, top, IsT, ingress_names, egress_names, ingress_rules, egress_rules}
use Rattle.lower_laws_block_rules.proofs.SampleSums.{cv, cc16, verify_names, compute_names, verify_rules, compute_rules}
use Rattle.lower_laws_block_rules.proofs.OfControls.{pipeline_is, sums_is, deparser_is}
use Rattle.lower_laws_block_rules.proofs.OfParser.{parser_is}
use Rattle.lower_laws_block_rules.proofs.SpeltWholes.{pipeline_spelt, sums_spelt, deparser_spelt, parser_spelt}
use Rattle.lower_laws_block_rules.proofs.Joined16.{parts_spelt}
use Rattle.lower_laws_block_rules.proofs.NamesSpelt.{roots}

-- names on the layout, in each block of it
here : (b : BlockWords) (w : World) → b.parameters ≡ [] → SpeltHere (block_lowering g t b w)
here b w none = record {
  words = record {
    roots = (refl, refl, refl);
    instances = instances;
    fields = fields;
    parameters = λ j lt. absurd (omega (arith, lt, ap length none));
  };
  sizes = sizes;
} where
  instances : (i : ℕ) → i < 3 → SpeltName (name_of (shown_at g.names.instances i))
  instances zero lt = refl
  instances (suc zero) lt = refl
  instances (suc (suc zero)) lt = refl
  instances (suc (suc (suc i))) lt = absurd (omega (arith, lt))

  fields : (i k : ℕ) → i < 3 → k < length (fields_of (shown_at g.names.instances i)) → SpeltName (field_at (fields_of (shown_at g.names.instances i)) k).called
  fields zero zero a b = refl
  fields zero (suc zero) a b = refl
  fields zero (suc (suc zero)) a b = refl
  fields (suc zero) zero a b = refl
  fields (suc zero) (suc zero) a b = refl
  fields (suc zero) (suc (suc zero)) a b = refl
  fields (suc (suc zero)) zero a b = refl
  fields zero (suc (suc (suc k))) a b = absurd (omega (arith, b))
  fields (suc zero) (suc (suc (suc k))) a b = absurd (omega (arith, b))
  fields (suc (suc zero)) (suc k) a b = absurd (omega (arith, b))
  fields (suc (suc (suc i))) k a b = absurd (omega (arith, a))

  sizes : (i : ℕ) → i < 3 → g.size_of i ≤ 256
  sizes zero lt = omega arith
  sizes (suc zero) lt = omega arith
  sizes (suc (suc zero)) lt = omega arith
  sizes (suc (suc (suc i))) lt = absurd (omega (arith, lt))

-- the table and its copies
table_spelt : TableSpelt plan (codes "t")
table_spelt = record { table = refl; labels = labels } where
  labels : (a text : Name) → copied a ≡ Some text → SpeltName text
  labels a text e = by (bytes_eq a (codes "put")) (bytes_eq a (codes "mark")) e where
    by : (b k : Bool) → cond b (Some (codes "put_c0_")) (cond k (Some (codes "mark_c0_")) None) ≡ Some text → SpeltName text
    by true k e = let same : codes "put_c0_" ≡ text = cc e in subst SpeltName same refl
    by false true e = let same : codes "mark_c0_" ≡ text = cc e in subst SpeltName same refl
    by false false e = absurd (cc e)

ingress_spelt : SpeltControl p.ingress
ingress_spelt =
    pipeline_spelt (top p.ingress) ci ds plan IsT true body14 (root_struct of_headers) (root_struct of_metadata) p.ingress
    (pipeline_is g ds expanded t p types_fit once some_entries wide Parallel objects Ingress p.ingress plan IsT true body14 (p.parser.name ∷ p.verify.name ∷ []) _ refl refl refl ingress_names ingress_rules)
    (record {
      name = refl;
      roots = roots;
      here = here (pipeline_block Parallel objects) (control_world (around_control c16 Ingress p.ingress)) refl;
      locals = (
        (refl, refl),
        (
          (refl, refl),
          (
            (refl, refl),
            (
              (((refl, tt), refl), refl, ((refl, refl), tt), (tt, (((refl, refl), tt), refl))),
              ((((refl, tt), refl), refl, tt, (tt, (((refl, refl), tt), refl))), (record { some = refl; plane = refl; spelt = refl; counter_spelt = refl; actions = ((refl, ((omega arith, omega arith), tt)), ((refl, tt), tt)) }, tt)),
            ),
          ),
        ),
      );
      tables = λ name is. subst (TableSpelt plan) (sym is) table_spelt;
      expanded = (tt, ((tt, ((tt, tt), tt)), tt));
    })

egress_spelt : SpeltControl p.egress
egress_spelt =
    pipeline_spelt (top p.egress) ce ds plan (λ name. ⊥) false nothing14 (root_struct of_headers) (root_struct of_metadata) p.egress
    (pipeline_is g ds expanded t p types_fit once some_entries wide Parallel objects Egress p.egress plan (λ name. ⊥) false nothing14 (p.parser.name ∷ p.verify.name ∷ p.ingress.name ∷ []) _ refl refl refl egress_names egress_rules)
    (record {
      name = refl;
      roots = roots;
      here = here (pipeline_block Parallel objects) (control_world (around_control c16 Egress p.egress)) refl;
      locals = ((refl, refl), ((refl, refl), ((refl, refl), tt)));
      tables = λ name is. absurd is;
      expanded = tt;
    })

verify_spelt : SpeltControl p.verify
verify_spelt =
    sums_spelt (top p.verify) cv ds expanded false (root_struct of_headers) (root_struct of_metadata) p.verify
    (sums_is g ds expanded t p types_fit once some_entries wide [] Verify p.verify false (p.parser.name ∷ []) _ refl refl refl verify_names verify_rules)
    (record { name = refl; roots = roots; here = here (checksum_block []) (control_world (around_control c16 Verify p.verify)) refl })

compute_spelt : SpeltControl p.compute
compute_spelt =
    sums_spelt (top p.compute) cc16 ds expanded true (root_struct of_headers) (root_struct of_metadata) p.compute
    (sums_is g ds expanded t p types_fit once some_entries wide [] Compute p.compute true (p.parser.name ∷ p.verify.name ∷ p.ingress.name ∷ p.egress.name ∷ []) _ refl refl refl compute_names compute_rules)
    (record { name = refl; roots = roots; here = here (checksum_block []) (control_world (around_control c16 Compute p.compute)) refl })

the_deparser_spelt : SpeltControl p.deparser
the_deparser_spelt =
    deparser_spelt (top p.deparser) (deparser_lowering g t c16 p.deparser) packet_called expanded.order (root_struct of_headers) (root_struct of_metadata) p.deparser
    (deparser_is g ds expanded t p types_fit once some_entries wide deparser_fits (omega arith, refl, (omega arith, refl, tt)))
    (record { name = refl; roots = roots; here = here deparser_block (control_world (around_control c16 Deparse p.deparser)) refl }) refl

the_parser_spelt : SpeltParser p.parser
the_parser_spelt =
    parser_spelt (scope_of (syntax_of p) (decl.Parser p.parser)) (parser_lowering g t c16 p.parser) ds packet_called state_called (root_struct of_headers) (root_struct of_metadata) p.parser
    (parser_is g ds expanded t p types_fit once some_entries parser_fits wide parser_rules)
    (record { name = refl; roots = roots; here = here parser_block (quiet_world (around_parser c16 p.parser)) refl; packet_is = refl; each = (refl, (refl, tt)) })

pub sample_spelt : is_spelt16 (syntax_of p) ≡ true
sample_spelt = parts_spelt p (record {
  types = (
    (refl, ((refl, refl), ((refl, refl), ((refl, refl), tt)))),
    ((refl, (((tt, refl), refl, refl), tt)), ((refl, (((tt, refl), refl, refl), (((tt, refl), (refl, refl), refl), tt))), ((refl, (((tt, refl), refl, refl), tt)), (((tt, refl), refl), tt)))),
  );
  parser = the_parser_spelt;
  verify = verify_spelt;
  ingress = ingress_spelt;
  egress = egress_spelt;
  compute = compute_spelt;
  deparser = the_deparser_spelt;
})
