-- Digits, read one by one.
use Rattle.std.proofs.Common.{◌≡◌, ℕ, ◌+◌, ◌<◌, List, get_or, take, length}
use Rattle.std.proofs.lemmas.List.Sums.{fold_more}
use Rattle.text_lines.specs.declared.numbers.Base.{Base}
use Rattle.text_lines.specs.Numbers.{with_digit, value_of}

-- one more digit
pub value_more : (base : Base) (digits : List ℕ) (i : ℕ) → i < length digits → value_of base (take (i + 1) digits) ≡ with_digit base (value_of base (take i digits)) (get_or digits i 0)
value_more base digits i l = fold_more (with_digit base) 0 digits i 0 l
