-- The widths of a program whose declarations have none that is bad.
use Rattle.std.proofs.Common.{◌≡◌, ℕ, zero, suc, ◌<◌, ◌≤◌, Bool, true, false, List, [], ◌∷◌, length, get_or, Option, Some, None, refl, sym, ap, ◌∙◌, arith}
use Rattle.std.specs.Prelude.{◌||◌, nat_lt, slice_get, option_and_then, filter_map}
use Rattle.std.specs.List.{cons_option}
use Rattle.std.specs.List.{list_any}
use Rattle.std.proofs.lemmas.List.Folds.{list_any_at}
use Rattle.std.proofs.lemmas.Bool.Decides.{nat_tests}
use Rattle.p414_syntax.specs.declared.lexeme.Literal.{Literal}
use Rattle.p414_syntax.specs.declared.headers.Field.{Field}
use Rattle.p414_syntax.specs.declared.headers.FieldWidth.TheVariants.{Bits}
use Rattle.p414_syntax.specs.declared.syntax.Decl.{Decl}
use Rattle.p414_syntax.specs.declared.syntax.Decl.TheVariants as decl
use Rattle.p414_syntax.specs.declared.syntax.Sort.TheVariants as sort
use Rattle.p414_syntax.specs.Views.{HeaderTypeTree}
use Rattle.p414_syntax.specs.Names.{Name, number_of}
use Rattle.p414_syntax.specs.Fields.{header_type_in, types, type_of}
use Rattle.p414_syntax.specs.Widths.{is_bad_width, is_bad_field_width, is_bad_field, declares_bad_width, has_bad_width}

neither : (a b : Bool) → (a || b) ≡ false → (a ≡ false) × (b ≡ false)
neither false b e = (refl, e)
neither true b e = absurd (cc e)

-- no item passes the test
pub none_at : {X : Type 0} (p : X → Bool) (xs : List X) (i : ℕ) (d : X) → i < length xs → list_any p xs ≡ false → p (get_or xs i d) ≡ false
none_at p xs i d lt none = by_test (p (get_or xs i d)) refl where
  by_test : (b : Bool) → p (get_or xs i d) ≡ b → b ≡ false
  by_test false e = refl
  by_test true e = absurd (cc (sym none ∙ list_any_at p xs i d lt e))

pub field_good : (fields : List Field) (i : ℕ) (d : Field) → i < length fields → list_any is_bad_field fields ≡ false → is_bad_field (get_or fields i d) ≡ false
field_good fields i d lt good = none_at is_bad_field fields i d lt good

-- a width that isn't bad is 128 at most
good_width : (n : Literal) → is_bad_width n ≡ false → n.value ≤ 128
good_width n e = let h : nat_lt 128 n.value ≡ false = (neither (nat_lt n.value 1) (nat_lt 128 n.value) e).1 in grind (arith, nat_tests)

pub width_good : (f : Field) (n : Literal) → f.width ≡ Bits n → is_bad_field f ≡ false → n.value ≤ 128
width_good f n is good = good_width n (ap is_bad_field_width (sym is) ∙ good)

has_type : (d : Decl) (t : HeaderTypeTree) → header_type_in d ≡ Some t → declares_bad_width d ≡ list_any is_bad_field t.fields
has_type (decl.HeaderType x) t e = let same : x ≡ t = cc e in ap (λ (y : HeaderTypeTree). list_any is_bad_field y.fields) same
has_type (decl.Header x) t e = absurd (cc e)
has_type (decl.Metadata x) t e = absurd (cc e)
has_type (decl.FieldList x) t e = absurd (cc e)
has_type (decl.FieldListCalculation x) t e = absurd (cc e)
has_type (decl.CalculatedField x) t e = absurd (cc e)
has_type (decl.Parser x) t e = absurd (cc e)
has_type (decl.Action x) t e = absurd (cc e)
has_type (decl.Table x) t e = absurd (cc e)
has_type (decl.Counter x) t e = absurd (cc e)
has_type (decl.Meter x) t e = absurd (cc e)
has_type (decl.Register x) t e = absurd (cc e)
has_type (decl.Control x) t e = absurd (cc e)
has_type (decl.LeftOut x) t e = absurd (cc e)

-- each header type has good widths
types_good : (ds : List Decl) (k : ℕ) (t : HeaderTypeTree) → list_any declares_bad_width ds ≡ false → slice_get (filter_map header_type_in ds) k ≡ Some t → list_any is_bad_field t.fields ≡ false
types_good [] k t good e = absurd (cc e)
types_good (d ∷ ds) k t good e = by_type (λ j. types_good ds j t (neither (declares_bad_width d) (list_any declares_bad_width ds) good).1) (header_type_in d) refl k e where
  by_type : ((j : ℕ) → slice_get (filter_map header_type_in ds) j ≡ Some t → list_any is_bad_field t.fields ≡ false) → (o : Option HeaderTypeTree) → header_type_in d ≡ o → (j : ℕ) → slice_get (cons_option o (filter_map header_type_in ds)) j ≡ Some t → list_any is_bad_field t.fields ≡ false
  by_type again None h j f = again j f
  by_type again (Some x) h zero f =
      sym (has_type d t (h ∙ f)) ∙ (neither (declares_bad_width d) (list_any declares_bad_width ds) good).0
  by_type again (Some x) h (suc j) f = again j f

pub type_good : (ds : List Decl) (name : Name) (t : HeaderTypeTree) → has_bad_width ds ≡ false → type_of ds name ≡ Some t → list_any is_bad_field t.fields ≡ false
type_good ds name t good found = at (number_of sort.HeaderType ds name) found where
  at : (o : Option ℕ) → option_and_then (slice_get (types ds)) o ≡ Some t → list_any is_bad_field t.fields ≡ false
  at None e = absurd (cc e)
  at (Some k) e = types_good ds k t good e
