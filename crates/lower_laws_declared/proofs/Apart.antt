-- The copies and tables of a pipeline are each one thing (C1).
use Rattle.std.proofs.Common.{◌≡◌, ◌≢◌, ℕ, Bool, true, false, ◌&&◌, not, List, [], ◌∷◌, ◌++◌, map, sym, ◌∙◌, subst}
use Rattle.std.specs.List.{list_any}
use Rattle.p414_syntax.specs.declared.syntax.Decl.{Decl}
use Rattle.p414_syntax.specs.declared.syntax.Sort.TheVariants as sort
use Rattle.p414_syntax.specs.Names.{Name, repeats}
use Rattle.lower_laws_names.specs.Reaches.{Outer, declared, copy, AreTwo, IsNoneOf, AreEachOnce}
use Rattle.lower_laws_names.specs.Copies.{Listing, listings, is_same_bit, is_same_table, copies_behind, copies, outers}
use Rattle.lower_laws_names.proofs.Copies.{seen, put, behind_is, copies_once}
use Rattle.lower_laws_names.proofs.Top.{AreAcross, once_both, named_once}
use Rattle.lower_laws_declared.specs.Controls.{pipeline_things}

-- a copy of an action, of its own or of a table's
abbrev pub IsCopy : Outer → Type 0
IsCopy (declared sort.Action n) = Unit {0}
IsCopy (copy k n) = Unit {0}
IsCopy _ = ⊥

abbrev pub AreCopies : List Outer → Type 0
AreCopies [] = Unit {0}
AreCopies (x ∷ xs) = IsCopy x × AreCopies xs

copies_put : (b c : Bool) (o : Outer) (rest : List Outer) → IsCopy o → AreCopies rest → AreCopies (put b c o rest)
copies_put true true o rest is more = (is, more)
copies_put true false o rest is more = more
copies_put false c o rest is more = more

copies_only : (e : Bool) (before ls : List Listing) → AreCopies (outers e (copies_behind before ls))
copies_only e before [] = tt
copies_only e before (l ∷ ls) =
    let rest : List Outer = outers e (copies_behind (before ++ l ∷ []) ls) in
    let counted : Bool = l.is_counted && not (list_any (is_same_table l) before) in
    subst AreCopies (sym (behind_is e before l ls))
    (copies_put (not (seen l.in_egress l.action before)) (is_same_bit e l.in_egress) (declared sort.Action l.action) (put counted (is_same_bit e l.in_egress) (copy l.number l.action) rest) tt
    (copies_put counted (is_same_bit e l.in_egress) (copy l.number l.action) rest tt (copies_only e (before ++ l ∷ []) ls)))

no_table : (x : Outer) → IsCopy x → (names : List Name) → IsNoneOf x (map (declared sort.Table) names)
no_table x is [] = tt
no_table x is (n ∷ names) = (by x is, no_table x is names) where
  by : (x : Outer) → IsCopy x → AreTwo x (declared sort.Table n)
  by (declared sort.Action m) is = λ e. absurd (cc e)
  by (copy k m) is = tt
  by _ is = absurd is

no_tables : (xs : List Outer) → AreCopies xs → (names : List Name) → AreAcross xs (map (declared sort.Table) names)
no_tables [] is names = tt
no_tables (x ∷ xs) is names = (no_table x is.0 names, no_tables xs is.1 names)

module _ (ds : List Decl) (egress : ℕ → Bool) (e : Bool) where
  pub copies_are : AreCopies (outers e (copies ds egress))
  copies_are = copies_only e [] (listings ds egress)

  pub things_once : (tables : List Name) → repeats tables ≡ false → AreEachOnce (pipeline_things ds egress e tables)
  things_once tables once = once_both (outers e (copies ds egress)) (map (declared sort.Table) tables) (copies_once ds egress e) (named_once sort.Table tables once) (no_tables (outers e (copies ds egress)) copies_are tables)
