-- What stands in the packet is spelt under its new names, in each block of the written program.
use Rattle.std.proofs.Common.{false, List, []}
use Rattle.match_core.specs.declared.entries.Entries.{Entries}
use Rattle.p414_syntax.specs.declared.syntax.Decl.{Decl}
use Rattle.p414_syntax.specs.declared.syntax.Rule14.{Rule14}
use Rattle.p414_sem.specs.Expanded.{Expanded}
use Rattle.v1_core.specs.declared.block.Block.TheVariants.{Ingress}
use Rattle.v1_core.specs.Blocks.{around_control}
use Rattle.lower_laws_base.specs.Context.{Lowering}
use Rattle.lower_laws_states.proofs.Rules.{stacks_right}
use Rattle.lower_laws_premises.proofs.LayoutFits.{sizes_few}
use Rattle.lower_laws_program.specs.Program.{Parts}
use Rattle.lower_laws_program.specs.Fits.{setting_of}
use Rattle.lower_laws_declared.specs.Layout.{program_layout}
use Rattle.lower_laws_block_rules.proofs.NamesSpelt.{LayoutNamed}
use Rattle.lower_laws_translated.specs.Given.{IsGiven}
use Rattle.lower_laws_translated.specs.Translated.{rule_in, translated}
use Rattle.lower_laws_translated.proofs.Shown.{within, within_shows}
use Rattle.lower_laws_translated.proofs.ShownSpelt.{instances_spelt}

module _ (ds : List Decl) (x : Expanded) (given : IsGiven ds x) (under : Rule14) (entries : Entries) where
  abbrev p : Parts
  p = translated ds x under

  abbrev around : Lowering
  around = within ds given.none given.short x given.expanded entries (rule_in ds x under false) [] (around_control (setting_of p entries) Ingress p.ingress) 0

  pub layout_spelt : LayoutNamed (program_layout ds entries)
  layout_spelt =
      let shown = within_shows ds given.none given.short x given.expanded entries (rule_in ds x under false) [] (around_control (setting_of p entries) Ingress p.ingress) 0 in
      record {
        instances = λ i lt. (instances_spelt ds given.spelt given.short i lt).name;
        fields = λ i k lt less. (instances_spelt ds given.spelt given.short i lt).fields k less;
        sizes = sizes_few around ds (stacks_right ds given.none) shown.instances shown.roots;
      }
