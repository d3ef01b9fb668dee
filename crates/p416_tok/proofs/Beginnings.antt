-- A text is held against the marks that begin with its first octet alone.
use Rattle.std.proofs.Common.{◌≡◌, ℕ, Bool, true, false, true≢false, ◌&&◌, List, [], ◌∷◌, Option, take, length, nat_eq, slice_index, filter, find, refl, sym, ◌∙◌}
use Rattle.token_division.specs.Pieces.{begins, mark_at}
use Rattle.p416_syntax.specs.declared.mark.Mark16.{Mark16}
use Rattle.p416_syntax.specs.Marks.{mark_text16}
use Rattle.p416_tok.specs.Beginnings.{may_begin, mark_begins_with}

first_of_both : (a b : Bool) → a && b ≡ true → a ≡ true
first_of_both true b e = refl
first_of_both false b e = e

first_fits : (text octets : List ℕ) → begins text octets ≡ true → may_begin (slice_index text 0) octets ≡ true
first_fits text [] e = refl
first_fits [] (octet ∷ octets) e = absurd (true≢false (sym e))
first_fits (x ∷ xs) (octet ∷ octets) e = first_of_both (nat_eq octet x) _ e

pub narrowed : (text : List ℕ) (marks : List Mark16) → mark_at mark_text16 (filter (mark_begins_with (slice_index text 0)) marks) text ≡ mark_at mark_text16 marks text
narrowed text [] = refl
narrowed text (mark ∷ marks) = by (begins text (mark_text16 mark)) refl (mark_begins_with (slice_index text 0) mark) refl (narrowed text marks) where
  by : (whole : Bool) → begins text (mark_text16 mark) ≡ whole → (first : Bool) → mark_begins_with (slice_index text 0) mark ≡ first
      → mark_at mark_text16 (filter (mark_begins_with (slice_index text 0)) marks) text ≡ mark_at mark_text16 marks text
      → mark_at mark_text16 (filter (mark_begins_with (slice_index text 0)) (mark ∷ marks)) text ≡ mark_at mark_text16 (mark ∷ marks) text
  by true e true f h = rw f (rw e refl)
  by true e false f h = absurd (true≢false (sym (first_fits text (mark_text16 mark) e) ∙ f))
  by false e true f h = rw f (rw e h)
  by false e false f h = rw f (rw e h)
