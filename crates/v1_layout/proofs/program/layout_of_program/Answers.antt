use Rattle.std.proofs.Common.{◌≡◌, map, subst, ap, ◌∙◌, IfOk}
use Rattle.p416_syntax.specs.Declarations.{layouts_of}
use Rattle.p416_names.specs.SeenKinds.{seen_kind}
use Rattle.v1_core.specs.Layouts.{Layout, no_parts}
use Rattle.v1_core.specs.Programs.{frame_kinds, with_values, layout16}
use Rattle.v1_layout.proofs.program.layout_of_program.Goals as goal

-- src/program.rt:38:1
pub returns : goal.returns
returns c =
    let kinds : map seen_kind c.deref.result.now ≡ frame_kinds c.args.syntax.now = ap (map seen_kind) c.deref.ensures.value ∙ c.in_ok-kinds.ensures in
    let whole : with_values (layouts_of c.args.top.now) (map seen_kind c.deref.result.now) no_parts ≡ layout16 c.args.syntax.now =
    ap (λ ds. with_values (layouts_of ds) (map seen_kind c.deref.result.now) no_parts) c.requires.top
    ∙ ap (λ ks. with_values (layouts_of c.args.syntax.now.decls) ks no_parts) kinds in
    subst (λ (due : Layout). IfOk c.layout_of_kinds.result (λ layout. layout ≡ due)) whole c.layout_of_kinds.ensures
