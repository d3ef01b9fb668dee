use Rattle.std.proofs.Common.{◌≡◌, drop}
use Rattle.std.specs.List.{list_any}
use Rattle.p414_syntax.specs.Unsupported.{is_unsupported_attribute}
use Rattle.p414_flat_check.proofs.unsupported.some_unsupported_attribute.Given as goal

abbrev pub invariant-loop-attribute : goal.invariant-loop-attribute
invariant-loop-attribute l = list_any is_unsupported_attribute (drop l.attribute-index l.attributes) ≡ list_any is_unsupported_attribute l.attributes
