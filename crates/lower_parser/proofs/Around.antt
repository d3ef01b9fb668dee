-- What stands around the parser of an accepted program, and that its initial values fit there.
use Rattle.std.proofs.Common.{◌≡◌, List, [], refl}
use Rattle.match_core.specs.declared.entries.Entries.{Entries}
use Rattle.p414_syntax.specs.declared.syntax.Decl.{Decl}
use Rattle.p414_syntax.specs.declared.syntax.Sort.TheVariants as sort
use Rattle.p414_syntax.specs.Names.{declared_in}
use Rattle.p414_sem.specs.Expanded.{Expanded}
use Rattle.v1_core.specs.Surroundings.{Setting}
use Rattle.lower_laws_base.specs.Context.{Lowering}
use Rattle.lower_laws_names.specs.Instances.{shown_instances}
use Rattle.lower_laws_names.specs.Objects.{top_decls}
use Rattle.lower_laws_parser.specs.Starts.{DeclsFit}
use Rattle.lower_laws_program.specs.TypesFit.{TypesFit}
use Rattle.lower_laws_program.specs.Fits.{parser_lowering}
use Rattle.lower_laws_declared.specs.Layout.{layout_shaped, type_words}
use Rattle.lower_laws_declared.proofs.Initials.{initials_fit}
use Rattle.lower_laws_declared.proofs.TypesFit.{types_fit}
use Rattle.lower_laws_translated.proofs.Law.{no_entries}
use Rattle.lower_parser.specs.Written.{IsAccepted, lowered_parser}

module _ (ds : List Decl) (accepted : IsAccepted ds) where
  abbrev pub setting : Setting
  setting = record { syntax = record { decls = []; main = [] }; entries = no_entries }

  abbrev pub around : Lowering
  around = parser_lowering (layout_shaped ds []) (type_words ds accepted.0) setting (lowered_parser ds)

  pub shown_around : around.layout.names.instances ≡ shown_instances ds
  shown_around = refl

  types : TypesFit (layout_shaped ds []) ds accepted.0 (type_words ds accepted.0) (top_decls ds accepted.0)
  types = types_fit ds accepted.0 accepted.1.none accepted.1.expanded accepted.1.short []

  pub initials_fit_around : DeclsFit around ds (declared_in sort.Instance ds)
  initials_fit_around = initials_fit ds accepted.1.none (layout_shaped ds []) accepted.0 (type_words ds accepted.0) (top_decls ds accepted.0) types setting (lowered_parser ds)
