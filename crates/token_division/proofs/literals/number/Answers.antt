use Rattle.std.proofs.Common.{◌≡◌, ◌+◌, length, drop, take, ◌∙◌, ap, sym, subst, arith}
use Rattle.std.specs.List.{prefix_len}
use Rattle.token_division.specs.declared.literals.Base.{Base}
use Rattle.token_division.specs.Literals.{base_prefix_size, is_digit_or_gap, IsLiteral, literal_value}
use Rattle.token_division.proofs.Numbers.{number_some, is_literal}
use Rattle.token_division.proofs.literals.number.Goals as goal

pub returns-clause-some : goal.returns-clause-some
returns-clause-some c =
    let base = c.base_of-base.result in
    let rest = c.split_at.ensures.back ∙ ap (λ n. drop n c.args.text.now) c.base_prefix_size.ensures in
    omega (arith, number_some base c.args.text.now c.requires, c.base_prefix_size.ensures, ap (prefix_len (is_digit_or_gap base)) rest)

pub returns-clause-written : goal.returns-clause-written
returns-clause-written c =
    let text = c.args.text.now in
    let base = c.base_of-base.result in
    let size_by = λ (b : Base). base_prefix_size b + prefix_len (is_digit_or_gap b) (drop (base_prefix_size b) text) in
    let rest = c.split_at.ensures.back ∙ ap (λ n. drop n text) c.base_prefix_size.ensures in
    let by_base : length c.split_at.result.0.now + length c.split_at-2.result.0.now ≡ size_by base = omega (arith, c.base_prefix_size.ensures, ap (prefix_len (is_digit_or_gap base)) rest) in
    subst (λ n. IsLiteral (take n text) (literal_value text)) (sym (by_base ∙ ap size_by c.base_of-base.ensures.is)) (is_literal text c.requires)
