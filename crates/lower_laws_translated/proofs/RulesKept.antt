-- The written program breaks no rule of P4_16 and names no `mcast_grp`, from what is owed of its actions.
use Rattle.std.proofs.Common.{◌≡◌, true, false, List, refl}
use Rattle.std.specs.Prelude.{codes}
use Rattle.match_core.specs.declared.entries.Entries.{Entries}
use Rattle.p414_syntax.specs.declared.syntax.Decl.{Decl}
use Rattle.p414_syntax.specs.declared.syntax.Rule14.{Rule14}
use Rattle.p414_sem.specs.Expanded.{Expanded}
use Rattle.p416_syntax.specs.Breaks.{BreaksNone, program_rules}
use Rattle.p416_syntax.specs.Breaks.{program_uses}
use Rattle.v1_core.specs.Frames.{of_headers, of_metadata}
use Rattle.lower_laws_program.specs.Program.{Parts, syntax_of, root_struct}
use Rattle.lower_laws_rules.specs.Keeping.{is_deep, names_group}
use Rattle.lower_laws_rules.specs.Whole.{ProgramKeeps}
use Rattle.lower_laws_rules.proofs.Groups.{program_unnamed}
use Rattle.lower_laws_rules.proofs.Program.{program_breaks_none, program_shallow}
use Rattle.lower_laws_block_rules.specs.Joined.{decl_held}
use Rattle.std.specs.List.{list_any}
use Rattle.lower_laws_translated.specs.Given.{IsGiven}
use Rattle.lower_laws_translated.specs.Owed.{PipelineOwed}
use Rattle.lower_laws_translated.specs.Translated.{copies_in, plan, translated}
use Rattle.lower_laws_translated.proofs.BlocksKept.{top, in_ingress, in_egress, Own, translated_keeps}
use Rattle.lower_laws_translated.proofs.PipelinesKept.{pipeline_kept}
use Rattle.lower_laws_translated.proofs.ActionsKept.{Placed, copy_kept}
use Rattle.lower_laws_names.specs.Copies.{Copy}
use Rattle.lower_laws_states.specs.Expansions.{Has}
use Rattle.v1_core.specs.declared.block.Block.TheVariants.{Ingress as Ingress16, Egress as Egress16}
use Rattle.lower_laws_translated.proofs.Rest.{rest_keeps}

module _ (ds : List Decl) (x : Expanded) (given : IsGiven ds x) (under : Rule14) (entries : Entries) where
  abbrev p : Parts
  p = translated ds x under

  -- what is still owed: each copy of an action in ingress and egress stands in its place

  abbrev pub Ingress : Type 0
  Ingress = (a : Copy) (has : Has (copies_in ds x false) a) → Placed ds x given under entries false (codes "I") x.ingress Ingress16 refl a has

  abbrev pub Egress : Type 0
  Egress = (a : Copy) (has : Has (copies_in ds x true) a) → Placed ds x given under entries true (codes "E") x.egress Egress16 refl a has

  pub ingress_kept : Ingress → PipelineOwed (in_ingress ds x given under entries) ds (top ds x given under entries p.ingress) (plan ds x) (Own ds x given under entries false) p.ingress
  ingress_kept ingress = pipeline_kept ds x given under entries false (codes "I") x.ingress Ingress16 refl (λ a has. copy_kept ds x given under entries false (codes "I") x.ingress Ingress16 refl a has (ingress a has))

  pub egress_kept : Egress → PipelineOwed (in_egress ds x given under entries) ds (top ds x given under entries p.egress) (plan ds x) (Own ds x given under entries true) p.egress
  egress_kept egress = pipeline_kept ds x given under entries true (codes "E") x.egress Egress16 refl (λ a has. copy_kept ds x given under entries true (codes "E") x.egress Egress16 refl a has (egress a has))

  keeps : Ingress → Egress → ProgramKeeps (syntax_of p) (root_struct of_headers) (root_struct of_metadata) decl_held
  keeps ingress egress = translated_keeps ds x given under entries (ingress_kept ingress) (egress_kept egress) (rest_keeps ds x given under)

  pub breaks_no_rule : Ingress → Egress → BreaksNone (syntax_of p) program_rules
  breaks_no_rule ingress egress = program_breaks_none (syntax_of p) (root_struct of_headers) (root_struct of_metadata) decl_held (keeps ingress egress)

  -- nothing nests deeper than 400
  pub is_shallow : Ingress → Egress → list_any is_deep (program_uses (syntax_of p)) ≡ false
  is_shallow ingress egress = program_shallow (syntax_of p) (root_struct of_headers) (root_struct of_metadata) decl_held (keeps ingress egress)

  -- no member `mcast_grp` of standard metadata is named
  pub names_no_group : Ingress → Egress → list_any names_group (program_uses (syntax_of p)) ≡ false
  names_no_group ingress egress = program_unnamed (syntax_of p) (root_struct of_headers) (root_struct of_metadata) decl_held (keeps ingress egress)
