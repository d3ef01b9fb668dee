-- The whole sample breaks no rule of P4_16.
use Rattle.std.proofs.Common.{inl, inr, None, Some, List, [], ◌∷◌, refl, arith}
use Rattle.std.specs.Prelude.{codes}
use Rattle.std.specs.List.{AllByRecursion}
use Rattle.p416_syntax.specs.declared.parts.CounterType.TheVariants.{Packets}
use Rattle.p416_syntax.specs.declared.parts.Member.TheVariants as member_of
use Rattle.p416_syntax.specs.declared.controls.Instance.TheVariants as instance
use Rattle.p416_syntax.specs.declared.program.Decl16.{Decl16}
use Rattle.p416_syntax.specs.declared.program.Decl16.TheVariants as decl
use Rattle.p416_syntax.specs.Declarations.{declaration_uses}
use Rattle.p416_syntax.specs.Breaks.{scope_of, ParserBreaks, HasCallCycle, BreaksNone, program_rules}
use Rattle.lower_laws_program.specs.Program.{syntax_of}
use Rattle.lower_laws_rules.specs.Keeping.{Keeps}
use Rattle.lower_laws_rules.specs.Written.{MarkedField, TypedField}
use Rattle.lower_laws_rules.specs.Declared.{DeclarationKeeps}
use Rattle.lower_laws_rules.specs.Whole.{EachKeeps}
use Rattle.lower_laws_rules.proofs.Lists.{none_kept}
use Rattle.lower_laws_rules.proofs.Types.{header_kept, metadata_kept, members_kept, direct_counter_kept}
use Rattle.lower_laws_block_rules.specs.Joined.{decl_held, RestKeeps, BlocksKeep}
use Rattle.lower_laws_block_rules.proofs.Joined16.{breaks_none}
use Rattle.lower_laws_block_rules.proofs.SampleProgram.{ds, expanded, g, t, p, types, fields_h, a_named}
use Rattle.lower_laws_block_rules.proofs.SampleTypes.{once, types_fit}
use Rattle.lower_laws_block_rules.proofs.SampleParser.{parser_keeps, deparser_keeps}
use Rattle.lower_laws_block_rules.proofs.SampleControls.{the_ingress_keeps, the_egress_keeps}
use Rattle.lower_laws_block_rules.proofs.SampleSums.{the_verify_keeps, the_compute_keeps}

bare : (d : Decl16) → Keeps (declaration_uses (scope_of (syntax_of p) d) d) [] → (ParserBreaks d → ⊥) → (HasCallCycle (scope_of (syntax_of p) d) d → ⊥) → DeclarationKeeps (scope_of (syntax_of p) d) d []
bare d k states calls = record { keeps = k; states = states; calls = calls }

abbrev marked : List MarkedField
marked = record { field = a_named (codes "q") 8; marks = [] } ∷ []

abbrev in_headers : List TypedField
in_headers = record { called = codes "h"; type = codes "h_t"; size = None } ∷ record { called = codes "k"; type = codes "h_t"; size = Some 2 } ∷ []

abbrev in_metadata : List TypedField
in_metadata = record { called = codes "m"; type = codes "m_s_"; size = None } ∷ []

abbrev counter : Decl16
counter = decl.Instance [] (instance.DirectCounter (member_of.CounterType Packets) (codes "d"))

types_keep : AllByRecursion (EachKeeps (syntax_of p) decl_held) types
types_keep = (
  bare _ (header_kept (codes "h_t") fields_h (record { differ = refl; widths = ((omega arith, omega arith), ((omega arith, omega arith), ((omega arith, omega arith), tt))); some = omega arith; octets = refl })) (λ x. x) (λ x. x),
  (
    bare _ (metadata_kept _ (codes "m_s_") marked refl ((omega arith, omega arith), tt)) (λ x. x) (λ x. x),
    (
      bare _ (members_kept _ (codes "hs") in_headers refl (inl refl, ((refl, omega arith, omega arith), tt))) (λ x. x) (λ x. x),
      (bare _ (members_kept _ (codes "ms") in_metadata refl (inr refl, tt)) (λ x. x) (λ x. x), (bare _ (direct_counter_kept (scope_of (syntax_of p) counter) [] Packets (codes "d") none_kept) (λ x. x) (λ x. x), tt)),
    ),
  ),
)

rest : RestKeeps p
rest = record {
  types = types_keep;
  ordered = (refl, (refl, (refl, (refl, (refl, tt)))));
  tables = refl;
  objects = refl;
  counters = refl;
  of_headers_alone = refl;
  of_bits = refl;
  fields = omega arith;
  octets = omega arith;
  held_fields = omega arith;
  held_octets = omega arith;
  cells = tt;
  all_cells = omega arith;
}

blocks : BlocksKeep p
blocks = record { parser = parser_keeps; verify = the_verify_keeps; ingress = the_ingress_keeps; egress = the_egress_keeps; compute = the_compute_keeps; deparser = deparser_keeps }

pub sample_breaks_none : BreaksNone (syntax_of p) program_rules
sample_breaks_none = breaks_none g ds expanded t p types_fit once (record { parser = refl; verify = refl; ingress = refl; egress = refl; compute = refl; deparser = refl }) rest blocks
