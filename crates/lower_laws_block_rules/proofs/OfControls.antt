-- The controls of a program that is put together break no rule.
use Rattle.std.proofs.Common.{◌≡◌, ℕ, Bool, true, false, List, [], ◌∷◌, ◌++◌, length, map, refl, ap, ◌∙◌}
use Rattle.p414_syntax.specs.declared.syntax.Decl.{Decl}
use Rattle.p414_syntax.specs.declared.syntax.Rule14.{Rule14}
use Rattle.p414_syntax.specs.declared.syntax.Rule14.TheVariants as rule
use Rattle.p414_syntax.specs.Tree.{Stmt}
use Rattle.p414_syntax.specs.Names.{Name}
use Rattle.p414_sem.specs.Expanded.{Expanded}
use Rattle.match_core.specs.declared.entries.Entries.{Entries}
use Rattle.p416_syntax.specs.declared.program.Decl16.TheVariants as decl
use Rattle.p416_syntax.specs.declared.controls.Local.{Local}
use Rattle.p416_syntax.specs.declared.controls.Control16.{Control16}
use Rattle.p416_syntax.specs.declared.parts.Param.{Param}
use Rattle.p416_syntax.specs.Names.{repeats}
use Rattle.p416_syntax.specs.Scopes.{Scope, called_of, known_parameter}
use Rattle.p416_syntax.specs.Declarations.{known_local, control_scope}
use Rattle.p416_syntax.specs.Externs.{are_allowed}
use Rattle.p416_syntax.specs.Breaks.{scope_of}
use Rattle.v1_core.specs.declared.block.Block.{Block}
use Rattle.v1_core.specs.declared.block.Block.TheVariants.{Verify, Ingress, Egress, Compute}
use Rattle.v1_core.specs.Blocks.{owners_of, around_control, control_world}
use Rattle.v1_core.specs.Frames.{of_headers, of_metadata, of_standard, of_variables, of_inner, of_nothing}
use Rattle.lower_laws_base.specs.Context.{StateLayout, Lowering, ObjectName, Sees}
use Rattle.lower_laws_controls.specs.Controls.{Plan}
use Rattle.lower_laws_parser.specs.Deparsing.{HeadersStand}
use Rattle.lower_laws_program.specs.Program.{root_struct, packet_called, checksum_parameters, pipeline_parameters, deparser_parameters, Parts, syntax_of, DeclaresOnce}
use Rattle.lower_laws_program.specs.TypesFit.{TypeWords, TypesFit}
use Rattle.lower_laws_program.specs.Scopes.{block_lowering}
use Rattle.lower_laws_program.specs.Controls.{old_locals, checksum_block, ControlNames}
use Rattle.lower_laws_program.specs.Fits.{pipeline_block, deparser_lowering, DeparserFits, setting_of}
use Rattle.lower_laws_program.proofs.Controls.{parallel_sees}
use Rattle.lower_laws_program.proofs.Sequential.{sequential_sees}
use Rattle.lower_laws_program.proofs.Checksums.{checksum_sees}
use Rattle.lower_laws_program.proofs.Deparser.{sees}
use Rattle.lower_laws_rules.specs.Declared.{control_held, DeclarationKeeps}
use Rattle.lower_laws_block_rules.specs.Wholes.{CanWrite, PipelineIs, SumsBlockIs, DeparserIs}
use Rattle.lower_laws_block_rules.specs.Program.{LayoutWide, fixed_roots, PipelineRules, SumsRules}
use Rattle.lower_laws_block_rules.proofs.OfProgram.{wide_here, struct_headers, struct_metadata, struct_standard, type_out, placed}
use Rattle.lower_laws_block_rules.proofs.Sums.{sum_position}
use Rattle.lower_laws_block_rules.proofs.Controls.{pipeline_keeps, sums_keep, deparser_keeps}

module _ (g : StateLayout) (ds : List Decl) (x : Expanded) (t : TypeWords) (p : Parts) (fits : TypesFit g ds x t p.types) (once : DeclaresOnce p) (entries : Entries) where
  abbrev pub top : Control16 → Scope
  top d = scope_of (syntax_of p) (decl.Control d)

  -- ingress and egress, under both rules

  abbrev pub pipeline : Rule14 → List ObjectName → Block → Control16 → Lowering
  pipeline r objects which d = block_lowering g t (pipeline_block r objects) (control_world (around_control (setting_of p entries) which d))

  abbrev pub Their : Rule14 → List ObjectName → Block → Control16 → Type 0
  Their r objects which d = ControlNames g p pipeline_parameters (old_locals r) objects (control_world (around_control (setting_of p entries) which d)) d

  pub pipeline_sees : (r : Rule14) (objects : List ObjectName) (which : Block) (d : Control16) → owners_of which ≡ of_headers ∷ of_metadata ∷ of_standard ∷ [] → Their r objects which d → Sees (pipeline r objects which d) (control_scope (top d) d) []
  pipeline_sees rule.Parallel objects which d owners their = parallel_sees g ds x t p fits once (setting_of p entries) refl which d objects owners their
  pipeline_sees rule.Sequential objects which d owners their = sequential_sees g ds x t p fits once (setting_of p entries) refl which d objects owners their

  pub pipeline_writes : (r : Rule14) (objects : List ObjectName) (which : Block) (d : Control16) → CanWrite (pipeline r objects which d)
  pipeline_writes r objects which d of_headers is = refl
  pipeline_writes r objects which d of_metadata is = refl
  pipeline_writes r objects which d of_standard is = refl
  pipeline_writes r objects which d of_variables is = absurd is
  pipeline_writes r objects which d of_inner is = absurd is
  pipeline_writes r objects which d of_nothing is = absurd is

  module _ (wide : LayoutWide g) where
    abbrev pub pipeline_is : (r : Rule14) (objects : List ObjectName) (which : Block) (d : Control16) (k : Plan) (P : Name → Type 0) (checks : Bool) (body : Stmt) (before after : List Name) → (syntax_of p).main ≡ before ++ d.name ∷ after → are_allowed (2 ∷ 3 ∷ []) (length before ∷ []) ≡ true → owners_of which ≡ of_headers ∷ of_metadata ∷ of_standard ∷ [] → Their r objects which d → PipelineRules (pipeline r objects which d) ds (top d) k P checks body d → PipelineIs (top d) (pipeline r objects which d) ds k P checks body (root_struct of_headers) (root_struct of_metadata) d
    pipeline_is r objects which d k P checks body before after main at owners their rules = record {
      roots = fixed_roots;
      parameters = their.parameters_are;
      headers = struct_headers g ds x t p fits once (decl.Control d);
      metadata = struct_metadata g ds x t p fits once (decl.Control d);
      standards = struct_standard g ds x t p fits once (decl.Control d);
      names = rules.names;
      counters = rules.counters;
      sees = pipeline_sees r objects which d owners their;
      wide = wide_here g t (pipeline_block r objects) (control_world (around_control (setting_of p entries) which d)) wide;
      standard = refl;
      standard_is = refl;
      writes = pipeline_writes r objects which d;
      at = ap (are_allowed (2 ∷ 3 ∷ [])) (placed g ds x t p fits once before after d.name main) ∙ at;
      locals = rules.locals;
      tables = rules.tables;
      fits = rules.fits;
      stand = rules.stand;
      nests = rules.nests;
      body_is = rules.body_is;
    }

    -- ingress and egress

    pub ingress_keeps : (r : Rule14) (objects : List ObjectName) (k : Plan) (P : Name → Type 0) (body : Stmt) → Their r objects Ingress p.ingress → PipelineRules (pipeline r objects Ingress p.ingress) ds (top p.ingress) k P true body p.ingress → DeclarationKeeps (top p.ingress) (decl.Control p.ingress) (control_held p.ingress)
    ingress_keeps r objects k P body their rules =
        pipeline_keeps (top p.ingress) (pipeline r objects Ingress p.ingress) ds k P true body (root_struct of_headers) (root_struct of_metadata) p.ingress
        (pipeline_is r objects Ingress p.ingress k P true body (p.parser.name ∷ p.verify.name ∷ []) _ refl refl refl their rules)

    pub egress_keeps : (r : Rule14) (objects : List ObjectName) (k : Plan) (P : Name → Type 0) (body : Stmt) → Their r objects Egress p.egress → PipelineRules (pipeline r objects Egress p.egress) ds (top p.egress) k P false body p.egress → DeclarationKeeps (top p.egress) (decl.Control p.egress) (control_held p.egress)
    egress_keeps r objects k P body their rules =
        pipeline_keeps (top p.egress) (pipeline r objects Egress p.egress) ds k P false body (root_struct of_headers) (root_struct of_metadata) p.egress
        (pipeline_is r objects Egress p.egress k P false body (p.parser.name ∷ p.verify.name ∷ p.ingress.name ∷ []) _ refl refl refl their rules)

    -- verify and compute

    abbrev pub checksum : List ObjectName → Block → Control16 → Lowering
    checksum objects which d = block_lowering g t (checksum_block objects) (control_world (around_control (setting_of p entries) which d))

    abbrev pub Checks : List ObjectName → Block → Control16 → Type 0
    Checks objects which d = ControlNames g p checksum_parameters [] objects (control_world (around_control (setting_of p entries) which d)) d

    pub checksum_writes : (objects : List ObjectName) (which : Block) (d : Control16) → CanWrite (checksum objects which d)
    checksum_writes objects which d o is = refl

    abbrev pub sums_is : (objects : List ObjectName) (which : Block) (d : Control16) (updates : Bool) (before after : List Name) → (syntax_of p).main ≡ before ++ d.name ∷ after → are_allowed (sum_position updates ∷ []) (length before ∷ []) ≡ true → owners_of which ≡ of_headers ∷ of_metadata ∷ [] → Checks objects which d → SumsRules (checksum objects which d) ds x updates d → SumsBlockIs (top d) (checksum objects which d) ds x updates (sum_position updates) (root_struct of_headers) (root_struct of_metadata) d
    sums_is objects which d updates before after main at owners their rules = record {
      roots = fixed_roots;
      parameters = their.parameters_are;
      headers = struct_headers g ds x t p fits once (decl.Control d);
      metadata = struct_metadata g ds x t p fits once (decl.Control d);
      names =
          ap (λ (ps : List Param). repeats (map called_of (map (known_parameter (top d).names) ps ++ map (known_local (top d).names) d.locals))) their.parameters_are
          ∙ ap (λ (ls : List Local). repeats (map called_of (map (known_parameter (top d).names) checksum_parameters ++ map (known_local (top d).names) ls))) rules.bare;
      sees = checksum_sees g ds x t p fits once (setting_of p entries) refl which d objects owners their;
      wide = wide_here g t (checksum_block objects) (control_world (around_control (setting_of p entries) which d)) wide;
      writes = checksum_writes objects which d;
      at = ap (are_allowed (sum_position updates ∷ [])) (placed g ds x t p fits once before after d.name main) ∙ at;
      bare = rules.bare;
      fields = rules.fields;
      body_is = rules.body_is;
    }

    pub verify_keeps : (objects : List ObjectName) → Checks objects Verify p.verify → SumsRules (checksum objects Verify p.verify) ds x false p.verify → DeclarationKeeps (top p.verify) (decl.Control p.verify) (control_held p.verify)
    verify_keeps objects their rules =
        sums_keep (top p.verify) (checksum objects Verify p.verify) ds x false (root_struct of_headers) (root_struct of_metadata) p.verify
        (sums_is objects Verify p.verify false (p.parser.name ∷ []) _ refl refl refl their rules)

    pub compute_keeps : (objects : List ObjectName) → Checks objects Compute p.compute → SumsRules (checksum objects Compute p.compute) ds x true p.compute → DeclarationKeeps (top p.compute) (decl.Control p.compute) (control_held p.compute)
    compute_keeps objects their rules =
        sums_keep (top p.compute) (checksum objects Compute p.compute) ds x true (root_struct of_headers) (root_struct of_metadata) p.compute
        (sums_is objects Compute p.compute true (p.parser.name ∷ p.verify.name ∷ p.ingress.name ∷ p.egress.name ∷ []) _ refl refl refl their rules)

    -- the deparser

    pub stand_there : (order : List ℕ) → HeadersStand g order → HeadersStand (deparser_lowering g t (setting_of p entries) p.deparser).layout order
    stand_there [] stand = tt
    stand_there (n ∷ order) stand = (stand.0, stand.1, stand_there order stand.2)

    abbrev pub deparser_is : (deparser : DeparserFits g ds x t (setting_of p entries) p.deparser) → HeadersStand g x.order → DeparserIs (top p.deparser) (deparser_lowering g t (setting_of p entries) p.deparser) packet_called x.order (root_struct of_headers) p.deparser
    deparser_is deparser stand = record {
      roots = fixed_roots;
      parameters = deparser.parameters;
      packets = type_out g ds x t p fits once (decl.Control p.deparser);
      headers = struct_headers g ds x t p fits once (decl.Control p.deparser);
      names =
          ap (λ (ps : List Param). repeats (map called_of (map (known_parameter (top p.deparser).names) ps ++ map (known_local (top p.deparser).names) p.deparser.locals))) deparser.parameters
          ∙ ap (λ (ls : List Local). repeats (map called_of (map (known_parameter (top p.deparser).names) deparser_parameters ++ map (known_local (top p.deparser).names) ls))) deparser.locals;
      deparses = record { sees = sees g ds x t p fits once (setting_of p entries) refl deparser; packet_is = refl; headers = refl };
      at = ap (are_allowed (5 ∷ [])) (placed g ds x t p fits once (p.parser.name ∷ p.verify.name ∷ p.ingress.name ∷ p.egress.name ∷ p.compute.name ∷ []) [] p.deparser.name refl);
      bare = deparser.locals;
      stand = stand_there x.order stand;
      body_is = deparser.body;
    }

    pub program_deparser_keeps : (deparser : DeparserFits g ds x t (setting_of p entries) p.deparser) → HeadersStand g x.order → DeclarationKeeps (top p.deparser) (decl.Control p.deparser) (control_held p.deparser)
    program_deparser_keeps deparser stand =
        deparser_keeps (top p.deparser) (deparser_lowering g t (setting_of p entries) p.deparser) packet_called x.order (root_struct of_headers) p.deparser (deparser_is deparser stand)
