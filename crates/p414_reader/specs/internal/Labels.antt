-- What is kept of the labels of a list of branches.
use Rattle.std.specs.Prelude.{◌≡◌, ℕ, Bool, not, List, Vec}
use Rattle.std.specs.List.{list_any}
use Rattle.std.specs.BTreeSet.{BTreeSet, contains_by}
use Rattle.std.specs.Cmp.Lexicographic.{slice_cmp}
use Rattle.std.specs.Ordering.{nat_cmp}
use Rattle.std.specs.declared.alloc.Global.{Global}
use Rattle.p414_syntax.specs.Conditions.{is_among, is_outcome}

-- a set has these texts, and it is known whether one of them is `hit` or `miss`, and whether one is neither
pub record IsRecord (texts : List (List ℕ)) (seen : BTreeSet (Vec ℕ Global)) (has_outcome has_other : Bool) : Type 0 where
  pub members : (text : List ℕ) → contains_by (λ key. slice_cmp nat_cmp text key.items) seen ≡ is_among text texts
  pub outcome : has_outcome ≡ list_any is_outcome texts
  pub other : has_other ≡ list_any (λ text. not (is_outcome text)) texts
