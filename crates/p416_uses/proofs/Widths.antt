-- The bits of a header.
use Rattle.std.proofs.Common.{◌≡◌, ℕ, Bool, true, false, not, ◌&&◌, if◌then◌else◌, Option, Some, None, List, sum_by, refl, ap, ◌∙◌}
use Rattle.std.specs.List.{list_any}
use Rattle.p416_syntax.specs.declared.parts.Header16.{Header16}
use Rattle.p416_syntax.specs.declared.rule.ProgramRule.{ProgramRule}
use Rattle.p416_syntax.specs.declared.rule.ProgramRule.TheVariants.{T2}
use Rattle.p416_syntax.specs.Sizes.{has_bad_width, bits_of_field, is_no_octets}
use Rattle.p416_syntax.specs.Uses.{a_header}
use Rattle.p416_expression_check.specs.Judged.{first_of, first_broken}
use Rattle.p416_uses.specs.Parts.{bits_rule}

told : (bad odd : Bool) (n : ℕ) → is_no_octets n ≡ odd → bits_rule (if bad then None else Some n) ≡ first_of (if not bad && odd then Some T2 else None) None
told true odd n is = refl
told false true n is = rw is refl
told false false n is = rw is refl

pub header_told : (h : Header16) (found : Option ℕ) → found ≡ (if list_any has_bad_width h.fields then None else Some (sum_by bits_of_field h.fields)) → bits_rule found ≡ first_broken (a_header h)
header_told h found is = ap bits_rule is ∙ told (list_any has_bad_width h.fields) (is_no_octets (sum_by bits_of_field h.fields)) (sum_by bits_of_field h.fields) refl
