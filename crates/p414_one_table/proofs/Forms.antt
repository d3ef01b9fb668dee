-- The names and numbers of a program of the form are such as it may have.
use Rattle.std.proofs.Common.{◌≡◌, Bool, true, false, if◌then◌else◌, Option, Some, None, ◌∙◌, sym, ap, refl}
use Rattle.p414_syntax.specs.declared.syntax.Syntax14.{Syntax14}
use Rattle.p414_one_table.specs.declared.program.OneTable14.{OneTable14}
use Rattle.p414_one_table.specs.Form.{of_decls, judged, one_table_of}
use Rattle.p414_one_table.specs.Programs.{is_one_table}

judged_is : (found : Option OneTable14) (p : OneTable14) → judged found ≡ Some p → is_one_table p ≡ true
judged_is None p is = cc is
judged_is (Some q) p is = by_test (is_one_table q) refl is
  where
    by_test : (b : Bool) → is_one_table q ≡ b → (if b then Some q else None) ≡ Some p → is_one_table p ≡ true
    by_test true form same = let here : q ≡ p = cc same in ap is_one_table (sym here) ∙ form
    by_test false form same = cc same

pub form_is : (s : Syntax14) (p : OneTable14) → one_table_of s ≡ Some p → is_one_table p ≡ true
form_is s p is = judged_is (of_decls s.decls) p is
