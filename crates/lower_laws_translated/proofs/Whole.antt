-- The law, of a program that was read.
use Rattle.std.proofs.Common.{false, true, refl}
use Rattle.std.specs.Prelude.{codes}
use Rattle.p414_syntax.specs.declared.syntax.Rule14.{Rule14}
use Rattle.p414_syntax.specs.declared.syntax.Syntax14.{Syntax14}
use Rattle.p414_sem.specs.Expanded.{Expanded}
use Rattle.v1_core.specs.declared.block.Block.TheVariants.{Ingress as Ingress16, Egress as Egress16}
use Rattle.lower_laws_premises.proofs.Whole.{spelt_so}
use Rattle.lower_laws_program.specs.Program.{syntax_of}
use Rattle.lower_laws_translated.specs.Given.{IsGiven}
use Rattle.lower_laws_translated.specs.Laws.{IsTranslation, TranslationsHold}
use Rattle.lower_laws_translated.specs.Translated.{translated}
use Rattle.lower_laws_translated.proofs.Brief.{brief_so}
use Rattle.lower_laws_translated.proofs.Law.{no_entries, translated_carries}
use Rattle.lower_laws_translated.proofs.Placed.{copy_placed}
use Rattle.lower_laws_translated.proofs.RulesKept.{Ingress, Egress, breaks_no_rule, is_shallow, names_no_group}
use Rattle.lower_laws_translated.proofs.BlocksSpelt.{translated_spelt}

module _ (s : Syntax14) (x : Expanded) (given : IsGiven s.decls x) (under : Rule14) where
  -- each copy of an action stands in its place

  in_ingress : Ingress s.decls x given under no_entries
  in_ingress a has = copy_placed s.decls x given under no_entries false (codes "I") x.ingress Ingress16 refl refl a has

  in_egress : Egress s.decls x given under no_entries
  in_egress a has = copy_placed s.decls x given under no_entries true (codes "E") x.egress Egress16 refl refl a has

  translated_so : IsTranslation s x under (syntax_of (translated s.decls x under))
  translated_so = record {
    carries = translated_carries s.decls x given under;
    none = breaks_no_rule s.decls x given under no_entries in_ingress in_egress;
    spelt = translated_spelt s.decls x given under no_entries in_ingress in_egress;
    shallow = is_shallow s.decls x given under no_entries in_ingress in_egress;
    unnamed = names_no_group s.decls x given under no_entries in_ingress in_egress;
  }

pub translations_hold : TranslationsHold
translations_hold s x spelt none expanded few rule =
    let brief = brief_so s few in
    translated_so s x (record { none = none; expanded = expanded; spelt = spelt_so s spelt; short = brief.short; few_parameters = brief.few_parameters }) rule
