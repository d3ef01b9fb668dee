-- Reserved words by their first octet.
use Rattle.std.specs.Prelude.{ℕ, Bool, nat_eq, slice_index}
use Rattle.p416_syntax.specs.declared.keyword.Keyword16.{Keyword16}
use Rattle.p416_syntax.specs.Keywords.{keyword_text16}

-- the word begins with this octet
abbrev pub begins_with : ℕ → Keyword16 → Bool
begins_with first word = nat_eq first (slice_index (keyword_text16 word) 0)
