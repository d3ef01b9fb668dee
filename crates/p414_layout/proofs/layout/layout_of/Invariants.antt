use Rattle.std.proofs.Common.{◌≡◌, ◌++◌, drop, map}
use Rattle.p414_syntax.specs.declared.syntax.Sort.TheVariants as sort
use Rattle.p414_syntax.specs.Names.{declared_in}
use Rattle.p414_layout.specs.Shapes.{shape_in, layout_of}
use Rattle.p414_layout.proofs.layout.layout_of.Given as goal

abbrev pub invariant-loop-decl : goal.invariant-loop-decl
invariant-loop-decl l = l.shapes.items ++ map (shape_in l.names) (declared_in sort.Instance (drop l.decl-index l.decls)) ≡ layout_of l.names
