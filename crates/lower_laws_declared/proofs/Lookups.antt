-- In a control each thing is found by its new name: in scope, among the actions, and among the tables.
use Rattle.std.proofs.Common.{◌≡◌, ◌≢◌, inl, inr, Bool, true, false, cond, Some, List, [], ◌∷◌, ◌++◌, map, refl, sym, ap, ◌∙◌, subst}
use Rattle.std.specs.Prelude.{filter_map}
use Rattle.std.specs.Str.{bytes_eq}
use Rattle.std.proofs.lemmas.Slice.Eq.{bytes_eq-Decides}
use Rattle.p414_syntax.specs.declared.syntax.Decl.{Decl}
use Rattle.p414_syntax.specs.declared.syntax.Sort.TheVariants as sort
use Rattle.p414_syntax.specs.Names.{Name}
use Rattle.p416_syntax.specs.declared.controls.Action16.{Action16}
use Rattle.p416_syntax.specs.declared.controls.Table16.{Table16}
use Rattle.p416_syntax.specs.declared.controls.Local.{Local}
use Rattle.p416_syntax.specs.declared.controls.Local.TheVariants as local
use Rattle.p416_syntax.specs.Scopes.{Known, sort_in}
use Rattle.p416_syntax.specs.Declarations.{known_local, action_in, table_in}
use Rattle.v1_core.specs.Surroundings.{action_called, table_called}
use Rattle.lower_laws_names.specs.Reaches.{Outer, declared, copy, outer_name, IsIn, AreTwo, AreIn, IsNoneOf, AreEachOnce}
use Rattle.lower_laws_names.proofs.Proved.{outer_names_differ}
use Rattle.lower_laws_names.specs.Declared.{Among}
use Rattle.lower_laws_declared.specs.Controls.{LocalIs, LocalsAre}

pub unlike : (a b : Name) → a ≢ b → bytes_eq a b ≡ false
unlike a b apart = by (bytes_eq a b) refl where
  by : (c : Bool) → bytes_eq a b ≡ c → c ≡ false
  by false e = refl
  by true e = absurd (apart ((bytes_eq-Decides a b).0 e))

module _ (ds : List Decl) (as_table : Name → Table16) (names : List Known) where
  -- the name of a local is that of its thing
  pub local_called : (y : Outer) (l : Local) → LocalIs ds as_table y l → (known_local names l).called ≡ outer_name ds y
  local_called (declared sort.Action n) (local.Action a) is = is.called
  local_called (declared sort.Table n) (local.Table t) is = is.called
  local_called (copy k n) (local.Action a) is = is.called
  local_called _ _ is = absurd is

  two_at : (y o : Outer) (things : List Outer) → IsNoneOf y things → Among o things → AreTwo y o
  two_at y o [] apart h = absurd h
  two_at y o (z ∷ things) apart (inl e) = subst (AreTwo y) e apart.0
  two_at y o (z ∷ things) apart (inr h) = two_at y o things apart.1 h

  in_at : (o : Outer) (things : List Outer) → AreIn ds things → Among o things → IsIn ds o
  in_at o [] inside h = absurd h
  in_at o (z ∷ things) inside (inl e) = subst (IsIn ds) e inside.0
  in_at o (z ∷ things) inside (inr h) = in_at o things inside.1 h

  skipped : (y o : Outer) (things : List Outer) (l : Local) → IsIn ds y → AreIn ds things → IsNoneOf y things → Among o things → LocalIs ds as_table y l → bytes_eq (known_local names l).called (outer_name ds o) ≡ false
  skipped y o things l inside more apart h is =
      ap (λ (t : Name). bytes_eq t (outer_name ds o)) (local_called y l is)
      ∙ unlike (outer_name ds y) (outer_name ds o) (outer_names_differ.two ds y o inside (in_at o things more h) (two_at y o things apart h))

  -- what stands for a thing, and how it is found
  pub record IsLocal (o : Outer) (locals : List Local) : Type 0 where
    pub written : Local
    pub is : LocalIs ds as_table o written
    pub sort : (rest : List Known) → sort_in (map (known_local names) locals ++ rest) (outer_name ds o) ≡ (known_local names written).sort
    pub action : (a : Action16) → written ≡ local.Action a → action_called (filter_map action_in locals) (outer_name ds o) ≡ Some a
    pub table : (t : Table16) → written ≡ local.Table t → table_called (filter_map table_in locals) (outer_name ds o) ≡ Some t

  here : (o : Outer) (l : Local) (locals : List Local) → LocalIs ds as_table o l → IsLocal o (l ∷ locals)
  here o l locals is = record {
    written = l;
    is = is;
    sort = λ rest. ap (λ (b : Bool). cond b (known_local names l).sort (sort_in (map (known_local names) locals ++ rest) (outer_name ds o))) ((bytes_eq-Decides _ _).1 (local_called o l is));
    action = λ a e.
        ap (λ (m : Local). action_called (filter_map action_in (m ∷ locals)) (outer_name ds o)) e
        ∙ ap (λ (b : Bool). cond b (Some a) (action_called (filter_map action_in locals) (outer_name ds o))) ((bytes_eq-Decides a.name (outer_name ds o)).1 (ap (λ (m : Local). (known_local names m).called) (sym e) ∙ local_called o l is));
    table = λ t e.
        ap (λ (m : Local). table_called (filter_map table_in (m ∷ locals)) (outer_name ds o)) e
        ∙ ap (λ (b : Bool). cond b (Some t) (table_called (filter_map table_in locals) (outer_name ds o))) ((bytes_eq-Decides t.name (outer_name ds o)).1 (ap (λ (m : Local). (known_local names m).called) (sym e) ∙ local_called o l is));
  }

  no_action : (l : Local) (locals : List Local) (text : Name) → bytes_eq (known_local names l).called text ≡ false → action_called (filter_map action_in (l ∷ locals)) text ≡ action_called (filter_map action_in locals) text
  no_action (local.Action a) locals text apart = ap (λ (b : Bool). cond b (Some a) (action_called (filter_map action_in locals) text)) apart
  no_action (local.Table t) locals text apart = refl
  no_action (local.Var v) locals text apart = refl
  no_action (local.Instance notes i) locals text apart = refl

  no_table : (l : Local) (locals : List Local) (text : Name) → bytes_eq (known_local names l).called text ≡ false → table_called (filter_map table_in (l ∷ locals)) text ≡ table_called (filter_map table_in locals) text
  no_table (local.Table t) locals text apart = ap (λ (b : Bool). cond b (Some t) (table_called (filter_map table_in locals) text)) apart
  no_table (local.Action a) locals text apart = refl
  no_table (local.Var v) locals text apart = refl
  no_table (local.Instance notes i) locals text apart = refl

  behind : (o : Outer) (l : Local) (locals : List Local) → bytes_eq (known_local names l).called (outer_name ds o) ≡ false → IsLocal o locals → IsLocal o (l ∷ locals)
  behind o l locals apart it = record {
    written = it.written;
    is = it.is;
    sort = λ rest. ap (λ (b : Bool). cond b (known_local names l).sort (sort_in (map (known_local names) locals ++ rest) (outer_name ds o))) apart ∙ it.sort rest;
    action = λ a e. no_action l locals (outer_name ds o) apart ∙ it.action a e;
    table = λ t e. no_table l locals (outer_name ds o) apart ∙ it.table t e;
  }

  pub local_found : (o : Outer) (things : List Outer) (locals : List Local) → AreIn ds things → AreEachOnce things → LocalsAre ds as_table things locals → Among o things → IsLocal o locals
  local_found o [] locals inside once are h = absurd h
  local_found o (y ∷ things) [] inside once are h = absurd are
  local_found o (y ∷ things) (l ∷ locals) inside once are (inl e) = here o l locals (subst (λ (z : Outer). LocalIs ds as_table z l) e are.0)
  local_found o (y ∷ things) (l ∷ locals) inside once are (inr h) =
      behind o l locals (skipped y o things l inside.0 inside.1 once.0 h are.0) (local_found o things locals inside.1 once.1 are.1 h)
