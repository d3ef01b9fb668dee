use Rattle.std.proofs.Common.{◌≡◌, flat_map, drop}
use Rattle.p416_syntax.specs.Declarations.{struct_field_uses}
use Rattle.p416_scopes.specs.Seen.{seen_scope}
use Rattle.p416_expression_uses.specs.Found.{after_all}
use Rattle.p416_uses.proofs.types.see_fields.Given as goal

abbrev pub invariant-loop-field : goal.invariant-loop-field
invariant-loop-field l = after_all l.found (flat_map (struct_field_uses (seen_scope l.scope)) (drop l.field-index l.fields)) ≡ after_all l.fn.found (flat_map (struct_field_uses (seen_scope l.scope)) l.fields)
