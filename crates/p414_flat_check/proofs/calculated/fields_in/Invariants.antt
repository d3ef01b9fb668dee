use Rattle.std.proofs.Common.{◌≡◌, ◌||◌, drop}
use Rattle.std.specs.List.{list_any}
use Rattle.p414_syntax.specs.declared.parts.Ref.{Ref}
use Rattle.p414_syntax.specs.Lists.{calculated_fields}
use Rattle.p414_syntax.specs.CalculatedFields.{is_field_of, is_calculated}
use Rattle.p414_flat_check.specs.internal.Keys.{key_of, is_same_key}
use Rattle.p414_flat_check.proofs.calculated.fields_in.Given as goal

abbrev pub invariant-loop-decl : goal.invariant-loop-decl
invariant-loop-decl l = (r : Ref) → (list_any (is_same_key (key_of r)) l.set || list_any (is_field_of r) (calculated_fields (drop l.decl-index l.decls))) ≡ is_calculated l.decls r
