-- Tables that are gone through, and the tables among the names in scope.
use Rattle.std.proofs.Common.{◌≡◌, Bool, true, false, ◌||◌, ◌&&◌, cond, List, [], ◌∷◌, ◌++◌, Result, Ok, Err, OnOk, refl, sym, ap, ◌∙◌, subst}
use Rattle.std.specs.Bool.{MatchBool}
use Rattle.std.specs.List.{list_any}
use Rattle.std.specs.Str.{bytes_eq}
use Rattle.std.proofs.lemmas.Bool.{false≢true}
use Rattle.std.proofs.lemmas.List.Folds.{list_any-append}
use Rattle.std.proofs.lemmas.Slice.Eq.{bytes_eq-Decides}
use Rattle.p416_syntax.specs.declared.controls.ActionName.{ActionName}
use Rattle.p416_syntax.specs.declared.controls.ActionName.TheVariants as action_name
use Rattle.p416_syntax.specs.Names.{Name, has_name}
use Rattle.p416_syntax.specs.Scopes.{Sort, Known, Scope, sort_in, sort_of}
use Rattle.p416_syntax.specs.Tables.{is_same_action, is_bad_action, listed_by}
use Rattle.p416_listed_check.specs.Pairs.{Pair, is_same_pair, is_listed_pair}
use Rattle.p416_listed_check.specs.Listings.{Listed, AreListed, AreGiven, ListsScope, lists, is_table, is_known_table, tables_in}
use Rattle.p416_listed_check.specs.internal.Labels.{Tells, is_listed}
use Rattle.p416_listed_check.proofs.Pairing.{bytes_either, listed_is}

pub none_listed : (s : Scope) → ListsScope s ([], [])
none_listed s = record { are = λ table action. refl }

-- one table more

by_same : (b h l m : Bool) → (b ≡ true → h ≡ false) → (b ≡ true → l ≡ m) → ((h && l) || (b && m)) ≡ ((h || (b || false)) && l)
by_same true true l m f g = absurd (false≢true (sym (f refl)))
by_same true false l m f g = sym (g refl)
by_same false true true m f g = refl
by_same false true false m f g = refl
by_same false false l m f g = refl

entered : (names : List Known) (tables more : List Name) (pairs added : List Pair) (t : Name) (actions : List ActionName) → has_name tables t ≡ false → more ≡ tables ++ t ∷ []
    → ((p : Pair) → list_any (is_same_pair p) added ≡ (list_any (is_same_pair p) pairs || list_any (is_listed_pair p t) actions)) → listed_by (sort_in names t) ≡ actions → AreListed names (tables, pairs) → AreListed names (more, added)
entered names tables more pairs added t actions new is adds lists_them before = record {
  are = λ table action.
      let same : bytes_eq table t ≡ true → table ≡ t = (bytes_eq-Decides table t).0 in
      let away : bytes_eq table t ≡ true → has_name tables table ≡ false = λ e. subst (λ (n : Name). has_name tables n ≡ false) (sym (same e)) new in
      let here : bytes_eq table t ≡ true → lists names table action ≡ list_any (is_same_action (action_name.Declared action)) actions =
      λ e. ap (λ (n : Name). lists names n action) (same e) ∙ ap (list_any (is_same_action (action_name.Declared action))) lists_them in
      adds (table, action)
      ∙ (ap (λ (b : Bool). b || list_any (is_listed_pair (table, action) t) actions) (before.are table action)
      ∙ (ap (λ (b : Bool). (has_name tables table && lists names table action) || b) (sym (listed_is t table action actions))
      ∙ (ap (λ (b : Bool). (has_name tables table && lists names table action) || (b && list_any (is_same_action (action_name.Declared action)) actions)) (bytes_either t table)
      ∙ (by_same (bytes_eq table t) (has_name tables table) (lists names table action) (list_any (is_same_action (action_name.Declared action)) actions) away here
      ∙ (ap (λ (b : Bool). b && lists names table action) (sym (list_any-append (bytes_eq table) tables (t ∷ [])))
      ∙ ap (λ (ns : List Name). has_name ns table && lists names table action) (sym is))))));
}

has_last_by : (a b : Bool) → b ≡ true → (a || (b || false)) ≡ true
has_last_by true b e = refl
has_last_by false true e = refl
has_last_by false false e = e

has_last : (tables more : List Name) (t : Name) → more ≡ tables ++ t ∷ [] → has_name more t ≡ true
has_last tables more t is =
    ap (λ (ns : List Name). has_name ns t) is
    ∙ (list_any-append (bytes_eq t) tables (t ∷ []) ∙ has_last_by (list_any (bytes_eq t) tables) (bytes_eq t t) ((bytes_eq-Decides t t).1 refl))

-- the two answers of a set that a table's name is put in

abbrev pub Put : Bool → List Name → List Name → Name → Type 0
Put added old new t = MatchBool added ((has_name old t ≡ false) × (new ≡ old ++ t ∷ [])) ((has_name old t ≡ true) × (new ≡ old))

pub entered_ok : {E : Type 0} (r : Result (Unit {0}) E) (tables more : List Name) (pairs added : List Pair) (t : Name) (actions : List ActionName) (old : Listed) → (tables, pairs) ≡ old → (has_name tables t ≡ false) × (more ≡ tables ++ t ∷ [])
    → OnOk r ((p : Pair) → list_any (is_same_pair p) added ≡ (list_any (is_same_pair p) pairs || list_any (is_listed_pair p t) actions)) → OnOk r ((names : List Known) → listed_by (sort_in names t) ≡ actions → AreListed names old → AreListed names (more, added))
entered_ok (Ok x) tables more pairs added t actions old was put adds =
    λ names lists_them before. entered names tables more pairs added t actions put.0 put.1 adds lists_them (subst (AreListed names) (sym was) before)
entered_ok (Err e) tables more pairs added t actions old was put adds = tt

pub there_ok : {E : Type 0} (r : Result (Unit {0}) E) (tables more : List Name) (t : Name) → (has_name tables t ≡ false) × (more ≡ tables ++ t ∷ []) → OnOk r (has_name more t ≡ true)
there_ok (Ok x) tables more t put = has_last tables more t put.1
there_ok (Err e) tables more t put = tt

-- what a table lists that was gone through

pub listed_there : (names : List Known) (l : Listed) (text : Name) (sort : Sort) → is_table sort ≡ true → Tells names text sort → AreListed names l → has_name l.0 text ≡ true
    → (action : Name) → is_listed true l.1 text action ≡ list_any (is_same_action (action_name.Declared action)) (listed_by sort)
listed_there names l text sort is tells listed there action =
    listed.are text action ∙ (ap (λ (b : Bool). b && lists names text action) there ∙ ap (λ (s : Sort). list_any (is_same_action (action_name.Declared action)) (listed_by s)) (tells is))

-- the tables among the names in scope

tables_told_by : (k : Known) (names : List Known) (text : Name) → (is_table (sort_in names text) ≡ true → sort_in (tables_in names) text ≡ sort_in names text) → (b t : Bool) → bytes_eq k.called text ≡ b → is_known_table k ≡ t
    → is_table (cond b k.sort (sort_in names text)) ≡ true → sort_in (cond t (k ∷ tables_in names) (tables_in names)) text ≡ cond b k.sort (sort_in names text)
tables_told_by k names text more true true e f h = ap (λ (b : Bool). cond b k.sort (sort_in (tables_in names) text)) e
tables_told_by k names text more true false e f h = absurd (false≢true (sym f ∙ h))
tables_told_by k names text more false true e f h = ap (λ (b : Bool). cond b k.sort (sort_in (tables_in names) text)) e ∙ more h
tables_told_by k names text more false false e f h = more h

pub tables_tell : (names : List Known) (text : Name) → is_table (sort_in names text) ≡ true → sort_in (tables_in names) text ≡ sort_in names text
tables_tell [] text h = absurd (false≢true h)
tables_tell (k ∷ names) text h = tables_told_by k names text (tables_tell names text) (bytes_eq k.called text) (is_known_table k) refl refl h

pub scope_tells : (s : Scope) (text : Name) (sort : Sort) → sort ≡ sort_of s text → Tells (tables_in s.names) text sort
scope_tells s text sort is h = tables_tell s.names text (sym (ap is_table is) ∙ h) ∙ sym is

-- one action more whose parameters can be given

given_by : (s : Scope) (names : List Name) (t text : Name) (a b : Bool) → has_name names text ≡ a → bytes_eq text t ≡ b → (a || (b || false)) ≡ true → AreGiven s names → is_bad_action s (action_name.Declared t) ≡ false → is_bad_action s (action_name.Declared text) ≡ false
given_by s names t text true b e f h are is = are text e
given_by s names t text false true e f h are is = subst (λ (n : Name). is_bad_action s (action_name.Declared n) ≡ false) (sym ((bytes_eq-Decides text t).0 f)) is
given_by s names t text false false e f h are is = absurd (false≢true h)

pub given_more : (s : Scope) (old new : List Name) (t : Name) (added : Bool) → Put added old new t → AreGiven s old → is_bad_action s (action_name.Declared t) ≡ false → AreGiven s new
given_more s old new t true put are is text h =
    given_by s old t text (has_name old text) (bytes_eq text t) refl refl
    (sym (list_any-append (bytes_eq text) old (t ∷ [])) ∙ (sym (ap (λ (ns : List Name). has_name ns text) put.1) ∙ h)) are is
given_more s old new t false put are is text h = are text (sym (ap (λ (ns : List Name). has_name ns text) put.1) ∙ h)

pub none_given : (s : Scope) → AreGiven s []
none_given s text h = absurd (false≢true h)
