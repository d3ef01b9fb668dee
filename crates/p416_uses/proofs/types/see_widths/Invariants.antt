use Rattle.std.proofs.Common.{◌≡◌, map, drop}
use Rattle.p416_syntax.specs.Declarations.{field_width}
use Rattle.p416_expression_uses.specs.Found.{after_all}
use Rattle.p416_uses.proofs.types.see_widths.Given as goal

abbrev pub invariant-loop-field : goal.invariant-loop-field
invariant-loop-field l = after_all l.found (map field_width (drop l.field-index l.fields)) ≡ after_all l.fn.found (map field_width l.fields)
