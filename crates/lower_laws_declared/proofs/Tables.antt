-- In a pipeline the copies and tables are found in scope and among what the control declares, and its variables are structs.
use Rattle.std.proofs.Common.{◌≡◌, ◌≢◌, inl, inr, ℕ, ◌+◌, ◌<◌, Bool, true, false, cond, Some, List, [], ◌∷◌, ◌++◌, map, refl, sym, ap, ◌∙◌, subst}
use Rattle.std.specs.Prelude.{codes, filter_map}
use Rattle.std.specs.Str.{bytes_eq}
use Rattle.match_core.specs.declared.entries.Entries.{Entries}
use Rattle.p414_syntax.specs.declared.tables.Table.{Table}
use Rattle.p414_syntax.specs.declared.syntax.Decl.{Decl}
use Rattle.p414_syntax.specs.declared.syntax.Rule14.{Rule14}
use Rattle.p414_syntax.specs.declared.syntax.Rule14.TheVariants as rule
use Rattle.p414_syntax.specs.declared.syntax.Sort.TheVariants as sort
use Rattle.p414_syntax.specs.Names.{Name, has_name, is_declared, repeats}
use Rattle.p416_syntax.specs.declared.controls.Action16.{Action16}
use Rattle.p416_syntax.specs.declared.controls.Table16.{Table16}
use Rattle.p416_syntax.specs.declared.controls.Local.{Local}
use Rattle.p416_syntax.specs.declared.controls.Local.TheVariants as local
use Rattle.p416_syntax.specs.declared.controls.Control16.{Control16}
use Rattle.p416_syntax.specs.Scopes.{Known, sort_in, sort_of, known_parameter, handed, an_action}
use Rattle.p416_syntax.specs.Declarations.{known_local, top_names, action_in, table_in}
use Rattle.v1_core.specs.declared.block.Block.{Block}
use Rattle.v1_core.specs.Surroundings.{Surroundings, action_called, action_named}
use Rattle.v1_core.specs.Blocks.{around_control}
use Rattle.lower_laws_names.specs.Words.{outer_words}
use Rattle.lower_laws_names.specs.Reaches.{Outer, declared, copy, fixed, outer_name, IsIn, AreIn}
use Rattle.lower_laws_names.proofs.Proved.{outer_names_differ}
use Rattle.lower_laws_names.specs.Declared.{Among}
use Rattle.lower_laws_states.specs.Expansions.{Has}
use Rattle.lower_laws_states.specs.Laws.{BreaksNo}
use Rattle.lower_laws_program.specs.Program.{Parts, decls_of, pipeline_parameters}
use Rattle.lower_laws_program.specs.Scopes.{IsClear}
use Rattle.lower_laws_program.specs.Controls.{old_locals}
use Rattle.lower_laws_program.specs.Fits.{setting_of}
use Rattle.lower_laws_program.proofs.Tops.{sort_behind}
use Rattle.lower_laws_declared.specs.Layout.{IsShort}
use Rattle.lower_laws_declared.specs.Controls.{CopyIs, LocalIs, LocalsAre, pipeline_things}
use Rattle.lower_laws_declared.proofs.Apart.{things_once}
use Rattle.lower_laws_declared.proofs.Listed.{things_in}
use Rattle.lower_laws_declared.proofs.Lookups.{unlike, IsLocal, local_found}

-- a thing has no name that the text has by itself
word_before : (ds : List Decl) (as_table : Name → Table16) (w : Name) → has_name outer_words w ≡ true → (o : Outer) → IsIn ds o → (l : Local) → LocalIs ds as_table o l → bytes_eq w (outer_name ds o) ≡ false
word_before ds as_table w outer (declared sort.Action n) inside (local.Action a) is = unlike _ _ (λ same. outer_names_differ.two ds (declared sort.Action n) (fixed w) inside outer tt (sym same))
word_before ds as_table w outer (declared sort.Table n) inside (local.Table t) is = unlike _ _ (λ same. outer_names_differ.two ds (declared sort.Table n) (fixed w) inside outer tt (sym same))
word_before ds as_table w outer (copy k n) inside (local.Action a) is = unlike _ _ (λ same. outer_names_differ.two ds (copy k n) (fixed w) inside outer tt (sym same))
word_before ds as_table w outer _ inside _ is = absurd is

-- in front of the copies and tables stand parameters and variables
abbrev pub front_of : List Known → Rule14 → List Known
front_of names r = map (known_parameter names) pipeline_parameters ++ map (known_local names) (old_locals r)

front_clear : (ds : List Decl) (as_table : Name → Table16) (names : List Known) (r : Rule14) (o : Outer) → IsIn ds o → (l : Local) → LocalIs ds as_table o l → IsClear (front_of names r) (outer_name ds o)
front_clear ds as_table names rule.Sequential o inside l is =
    (word_before ds as_table (codes "hdr") refl o inside l is, (word_before ds as_table (codes "meta") refl o inside l is, (word_before ds as_table (codes "sm") refl o inside l is, tt)))
front_clear ds as_table names rule.Parallel o inside l is = (
  word_before ds as_table (codes "hdr") refl o inside l is,
  (
    word_before ds as_table (codes "meta") refl o inside l is,
    (
      word_before ds as_table (codes "sm") refl o inside l is,
      (word_before ds as_table (codes "old_hdr") refl o inside l is, (word_before ds as_table (codes "old_meta") refl o inside l is, (word_before ds as_table (codes "old_sm") refl o inside l is, tt))),
    ),
  ),
)

pub scope_parts : (names : List Known) (r : Rule14) (locals : List Local) → (map (known_parameter names) pipeline_parameters ++ map (known_local names) (old_locals r ++ locals)) ++ names ≡ front_of names r ++ (map (known_local names) locals ++ names)
scope_parts names rule.Sequential locals = refl
scope_parts names rule.Parallel locals = refl

pub old_actions : (r : Rule14) (locals : List Local) → filter_map action_in (old_locals r ++ locals) ≡ filter_map action_in locals
old_actions rule.Sequential locals = refl
old_actions rule.Parallel locals = refl

pub old_tables : (r : Rule14) (locals : List Local) → filter_map table_in (old_locals r ++ locals) ≡ filter_map table_in locals
old_tables rule.Sequential locals = refl
old_tables rule.Parallel locals = refl

module _ (ds : List Decl) (none : BreaksNo ds) (short : IsShort ds) (p : Parts) (egress : ℕ → Bool) (e : Bool) (own_tables : List Name) (once : repeats own_tables ≡ false) (there : (n : Name) → Has own_tables n → is_declared sort.Table ds n ≡ true) (as_table : Name → Table16) (locals : List Local) (are : LocalsAre ds as_table (pipeline_things ds egress e own_tables) locals) (entries : Entries) (which : Block) (d : Control16) (r : Rule14) (parameters_are : d.parameters ≡ pipeline_parameters) (locals_are : d.locals ≡ old_locals r ++ locals) where
  abbrev things : List Outer
  things = pipeline_things ds egress e own_tables

  abbrev names : List Known
  names = top_names (decls_of p)

  abbrev b : Surroundings
  b = around_control (setting_of p entries) which d

  pub scope_names : b.scope.names ≡ front_of names r ++ (map (known_local names) locals ++ names)
  scope_names =
      ap (λ (l : List Rattle.p416_syntax.specs.declared.parts.Param.Param). (map (known_parameter names) l ++ map (known_local names) d.locals) ++ names) parameters_are
      ∙ ap (λ (l : List Local). (map (known_parameter names) pipeline_parameters ++ map (known_local names) l) ++ names) locals_are
      ∙ scope_parts names r locals

  inside : AreIn ds things
  inside = things_in ds none short egress e own_tables there

  its_place : (o : Outer) → Among o things → IsIn ds o
  its_place o h = at things inside h where
    at : (zs : List Outer) → AreIn ds zs → Among o zs → IsIn ds o
    at [] all h = absurd h
    at (z ∷ zs) all (inl same) = subst (IsIn ds) same all.0
    at (z ∷ zs) all (inr h) = at zs all.1 h

  pub its_local : (o : Outer) → Among o things → IsLocal ds as_table names o locals
  its_local o h = local_found ds as_table names o things locals inside (things_once ds egress e own_tables once) are h

  -- in scope
  pub its_sort : (o : Outer) (h : Among o things) → sort_of b.scope (outer_name ds o) ≡ (known_local names (its_local o h).written).sort
  its_sort o h =
      ap (λ (l : List Known). sort_in l (outer_name ds o)) scope_names
      ∙ sort_behind (front_of names r) (map (known_local names) locals ++ names) (outer_name ds o) (front_clear ds as_table names r o (its_place o h) (its_local o h).written (its_local o h).is)
      ∙ (its_local o h).sort names

  -- the copy of an action
  pub record HasCopy (n text : Name) : Type 0 where
    pub of : Action16
    pub plane : Rattle.p416_syntax.specs.Scopes.plane_name of.notes of.name ≡ n
    pub widths : map Rattle.v1_core.specs.Signatures.handed_width (map (handed names) of.parameters) ≡ Rattle.lower_laws_controls.specs.Listing.widths_of_action ds n
    pub sort : sort_of b.scope text ≡ an_action n (map (handed names) of.parameters)
    pub declared16 : action_named b text ≡ Some of

  its_copy : (o : Outer) (h : Among o things) (n : Name) (a : Action16) → (its_local o h).written ≡ local.Action a → CopyIs ds o n a → HasCopy n (outer_name ds o)
  its_copy o h n a e is = record {
    of = a;
    plane = is.plane;
    widths = is.widths names;
    sort = its_sort o h ∙ ap (λ (l : Local). (known_local names l).sort) e ∙ ap (λ (t : Name). an_action t (map (handed names) a.parameters)) is.plane;
    declared16 =
        ap (λ (l : List Local). action_called (filter_map action_in l) (outer_name ds o)) locals_are
        ∙ ap (λ (l : List Action16). action_called l (outer_name ds o)) (old_actions r locals) ∙ (its_local o h).action a e;
  }

  -- of a line
  pub of_action : (o : Outer) (h : Among o things) (n : Name) → (k : ℕ) (c : Bool) → cond c (copy k n) (declared sort.Action n) ≡ o → HasCopy n (outer_name ds o)
  of_action o h n k c same = by c same (its_local o h).written refl (its_local o h).is where
    by : (c : Bool) → cond c (copy k n) (declared sort.Action n) ≡ o → (l : Local) → (its_local o h).written ≡ l → LocalIs ds as_table o (its_local o h).written → HasCopy n (outer_name ds o)
    by true e (local.Action a) f is = its_copy o h n a f (at (subst (λ (z : Outer). LocalIs ds as_table z (local.Action a)) (sym e) (subst (LocalIs ds as_table o) f is))) where
      at : CopyIs ds (copy k n) n a → CopyIs ds o n a
      at i = subst (λ (z : Outer). CopyIs ds z n a) e i
    by false e (local.Action a) f is = its_copy o h n a f (at (subst (λ (z : Outer). LocalIs ds as_table z (local.Action a)) (sym e) (subst (LocalIs ds as_table o) f is))) where
      at : CopyIs ds (declared sort.Action n) n a → CopyIs ds o n a
      at i = subst (λ (z : Outer). CopyIs ds z n a) e i
    by true e (local.Table t) f is = absurd (subst (λ (z : Outer). LocalIs ds as_table z (local.Table t)) (sym e) (subst (LocalIs ds as_table o) f is))
    by true e (local.Var v) f is = absurd (subst (λ (z : Outer). LocalIs ds as_table z (local.Var v)) (sym e) (subst (LocalIs ds as_table o) f is))
    by true e (local.Instance notes i) f is = absurd (subst (λ (z : Outer). LocalIs ds as_table z (local.Instance notes i)) (sym e) (subst (LocalIs ds as_table o) f is))
    by false e (local.Table t) f is = absurd (subst (λ (z : Outer). LocalIs ds as_table z (local.Table t)) (sym e) (subst (LocalIs ds as_table o) f is))
    by false e (local.Var v) f is = absurd (subst (λ (z : Outer). LocalIs ds as_table z (local.Var v)) (sym e) (subst (LocalIs ds as_table o) f is))
    by false e (local.Instance notes i) f is = absurd (subst (λ (z : Outer). LocalIs ds as_table z (local.Instance notes i)) (sym e) (subst (LocalIs ds as_table o) f is))
