-- The names that ingress or egress declares differ, where those of its actions and tables do and are none of the fixed ones.
use Rattle.std.proofs.Common.{◌≡◌, false, List, [], ◌∷◌, ◌++◌, map, refl, ap, ◌∙◌}
use Rattle.std.specs.List.{AllByRecursion}
use Rattle.p414_syntax.specs.declared.syntax.Rule14.{Rule14}
use Rattle.p414_syntax.specs.declared.syntax.Rule14.TheVariants as rule
use Rattle.p416_syntax.specs.declared.controls.Local.{Local}
use Rattle.p416_syntax.specs.declared.controls.Control16.{Control16}
use Rattle.p416_syntax.specs.declared.parts.Param.{Param}
use Rattle.p416_syntax.specs.Names.{Name, has_name, repeats}
use Rattle.p416_syntax.specs.Scopes.{Known, called_of, known_parameter}
use Rattle.p416_syntax.specs.Declarations.{known_local, control_names}
use Rattle.v1_core.specs.Frames.{of_headers, of_metadata, of_standard}
use Rattle.lower_laws_program.specs.Program.{root_name, pipeline_parameters}
use Rattle.lower_laws_program.specs.Scopes.{IsClear}
use Rattle.lower_laws_program.specs.Controls.{old_locals}
use Rattle.lower_laws_program.specs.Fits.{old_name}
use Rattle.lower_laws_rules.proofs.Names.{once_behind}
use Rattle.lower_laws_block_rules.proofs.NewNames.{clear_lacks}

-- the names of parameters, and of the variables of the parallel rule
abbrev pub fixed_names : Rule14 → List Name
fixed_names rule.Sequential = root_name of_headers ∷ root_name of_metadata ∷ root_name of_standard ∷ []
fixed_names rule.Parallel = root_name of_headers ∷ root_name of_metadata ∷ root_name of_standard ∷ old_name of_headers ∷ old_name of_metadata ∷ old_name of_standard ∷ []

all_lack : (near : List Known) (texts : List Name) → AllByRecursion (IsClear near) texts → AllByRecursion (λ text. has_name (map called_of near) text ≡ false) texts
all_lack near [] free = tt
all_lack near (text ∷ texts) free = (clear_lacks near text free.0, all_lack near texts free.1)

pub control_once : (ks : List Known) (r : Rule14) (d : Control16) (locals : List Local) → d.parameters ≡ pipeline_parameters → d.locals ≡ old_locals r ++ locals → repeats (map called_of (map (known_local ks) locals)) ≡ false → AllByRecursion (IsClear (map (known_local ks) locals)) (fixed_names r) → repeats (map called_of (control_names ks d)) ≡ false
control_once ks r d locals a b once free =
    ap (λ (ps : List Param). repeats (map called_of (map (known_parameter ks) ps ++ map (known_local ks) d.locals))) a
    ∙ ap (λ (ls : List Local). repeats (map called_of (map (known_parameter ks) pipeline_parameters ++ map (known_local ks) ls))) b
    ∙ by r free
  where
    near : List Known
    near = map (known_local ks) locals

    by : (r : Rule14) → AllByRecursion (IsClear near) (fixed_names r) → repeats (map called_of (map (known_parameter ks) pipeline_parameters ++ map (known_local ks) (old_locals r ++ locals))) ≡ false
    by rule.Sequential free = once_behind (fixed_names rule.Sequential) (map called_of near) refl once (all_lack near (fixed_names rule.Sequential) free)
    by rule.Parallel free = once_behind (fixed_names rule.Parallel) (map called_of near) refl once (all_lack near (fixed_names rule.Parallel) free)
