-- The calculated field of the sample is as is asked.
use Rattle.std.proofs.Common.{◌≡◌, ℕ, Bool, true, false, List, [], refl, sym, subst, arith}
use Rattle.std.specs.List.{AllByRecursion}
use Rattle.p414_sem.specs.Calculations.{calculation_named}
use Rattle.p416_syntax.specs.Names.{has_name}
use Rattle.p416_syntax.specs.Kinds.{hash_algorithm}
use Rattle.p416_syntax.specs.BuiltIn.{members_of}
use Rattle.std.specs.Prelude.{codes}
use Rattle.p414_syntax.specs.declared.calculations.Calc.{Calc}
use Rattle.p416_syntax.specs.declared.program.Decl16.TheVariants as decl
use Rattle.v1_core.specs.declared.block.Block.TheVariants.{Verify, Compute}
use Rattle.v1_core.specs.Blocks.{around_control, control_world}
use Rattle.lower_laws_base.specs.Context.{StateLayout, Lowering}
use Rattle.lower_laws_sums.proofs.Programs.{calculated}
use Rattle.lower_laws_sums.specs.Sums.{FieldFits}
use Rattle.lower_laws_program.specs.Program.{checksum_parameters, syntax_of}
use Rattle.lower_laws_program.specs.Scopes.{block_layout, block_lowering}
use Rattle.lower_laws_program.specs.Controls.{checksum_block, ControlNames}
use Rattle.lower_laws_rules.specs.Whole.{EachKeeps}
use Rattle.lower_laws_block_rules.specs.Sums.{ItemWide, EntryHere, FieldHere}
use Rattle.lower_laws_block_rules.specs.Program.{SumsRules}
use Rattle.lower_laws_block_rules.specs.Joined.{decl_held}
use Rattle.lower_laws_block_rules.proofs.OfControls.{verify_keeps, compute_keeps}
use Rattle.lower_laws_block_rules.proofs.SampleProgram.{ds, expanded, g, t, p, some_entries}
use Rattle.lower_laws_block_rules.proofs.SampleTypes.{once, types_fit, wide}
use Rattle.lower_laws_block_rules.proofs.SampleParser.{c16}

abbrev pub h : StateLayout
h = block_layout g (checksum_block [])

pub verify_names : ControlNames g p checksum_parameters [] [] (control_world (around_control c16 Verify p.verify)) p.verify
verify_names = record {
  locals = [];
  parameters_are = refl;
  locals_are = refl;
  functions_free = (tt, (tt, (tt, (tt, (tt, (tt, (tt, (tt, (tt, tt)))))))));
  enumerations_free = (tt, (tt, (tt, (tt, tt))));
  objects_there = λ j lt. absurd (omega (arith, lt));
  numbered = λ j lt. absurd (omega (arith, lt));
  stored = omega arith;
  shape = λ j lt. absurd (omega (arith, lt));
}

pub compute_names : ControlNames g p checksum_parameters [] [] (control_world (around_control c16 Compute p.compute)) p.compute
compute_names = record {
  locals = [];
  parameters_are = refl;
  locals_are = refl;
  functions_free = (tt, (tt, (tt, (tt, (tt, (tt, (tt, (tt, (tt, tt)))))))));
  enumerations_free = (tt, (tt, (tt, (tt, tt))));
  objects_there = λ j lt. absurd (omega (arith, lt));
  numbered = λ j lt. absurd (omega (arith, lt));
  stored = omega arith;
  shape = λ j lt. absurd (omega (arith, lt));
}

field_fits : FieldFits h ds expanded calculated
field_fits = record {
  slot = ((omega arith, omega arith, refl, omega arith), ((omega arith, omega arith, refl), refl));
  width = refl;
  entries = (
    record { condition = ((omega arith, omega arith, refl, omega arith), λ e. absurd (cc e)); items = ((omega arith, omega arith, refl, omega arith), refl, (omega arith, refl)); width = refl },
    (
      record { condition = tt; items = ((omega arith, omega arith, refl, omega arith), refl, (omega arith, refl)); width = refl },
      (
        record { condition = (omega arith, omega arith, refl); items = ((omega arith, omega arith, refl, omega arith), refl, (omega arith, refl)); width = refl },
        (
          record { condition = ((omega arith, omega arith, refl, omega arith), λ e. absurd (cc e)); items = ((omega arith, omega arith, refl, omega arith), refl, (omega arith, refl)); width = refl },
          tt,
        ),
      ),
    ),
  );
}

entry_here : (c : Calc) → c.calculation ≡ codes "sum" → EntryHere ds expanded c
entry_here c is =
    let both = subst (λ (name : List ℕ). (has_name (members_of hash_algorithm) (calculation_named ds expanded name).algorithm ≡ true) × AllByRecursion ItemWide (calculation_named ds expanded name).items) (sym is) (refl, (tt, ((omega arith, omega arith), (tt, tt)))) in
    record { algorithm = both.0; wide = both.1 }

pub field_here : (updates : Bool) → FieldHere h ds expanded updates calculated
field_here true = record { fits = field_fits; entries = (entry_here _ refl, (entry_here _ refl, (entry_here _ refl, (entry_here _ refl, tt)))); few = omega arith }
field_here false = record { fits = field_fits; entries = (entry_here _ refl, (entry_here _ refl, (entry_here _ refl, (entry_here _ refl, tt)))); few = omega arith }

abbrev pub cv : Lowering
cv = block_lowering g t (checksum_block []) (control_world (around_control c16 Verify p.verify))

abbrev pub cc16 : Lowering
cc16 = block_lowering g t (checksum_block []) (control_world (around_control c16 Compute p.compute))

pub verify_rules : SumsRules cv ds expanded false p.verify
verify_rules = record { bare = refl; fields = (field_here false, tt); body_is = refl }

pub compute_rules : SumsRules cc16 ds expanded true p.compute
compute_rules = record { bare = refl; fields = (field_here true, tt); body_is = refl }

pub the_verify_keeps : EachKeeps (syntax_of p) decl_held (decl.Control p.verify)
the_verify_keeps = verify_keeps g ds expanded t p types_fit once some_entries wide [] verify_names verify_rules

pub the_compute_keeps : EachKeeps (syntax_of p) decl_held (decl.Control p.compute)
the_compute_keeps = compute_keeps g ds expanded t p types_fit once some_entries wide [] compute_names compute_rules
