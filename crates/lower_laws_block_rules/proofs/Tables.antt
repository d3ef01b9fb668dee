-- Tables break no rule.
use Rattle.std.proofs.Common.{◌≡◌, ℕ, ◌^◌, ◌<◌, List, [], ◌∷◌, ◌++◌, length, map, Option, Some, None, refl, sym, ap, ap₂, ◌∙◌, subst, arith}
use Rattle.std.specs.Prelude.{option_map, unwrap_or}
use Rattle.std.specs.List.{AllZip, cons_option}
use Rattle.p414_syntax.specs.declared.lexeme.Literal.{Literal}
use Rattle.p414_syntax.specs.declared.parts.Number.{Number}
use Rattle.p414_syntax.specs.declared.tables.Table.{Table}
use Rattle.p414_syntax.specs.declared.syntax.Decl.{Decl}
use Rattle.p414_syntax.specs.Attributes.{reads_of, size_of, max_size_of, default_action_of, default_arguments_of}
use Rattle.p414_syntax.specs.Tables.{listed_in}
use Rattle.p414_sem.specs.Wholes.{whole, wrapped}
use Rattle.p414_sem.specs.Controls.{kept_arguments}
use Rattle.p416_syntax.specs.declared.controls.ActionName.{ActionName}
use Rattle.p416_syntax.specs.declared.controls.TableKey.{TableKey}
use Rattle.p416_syntax.specs.declared.controls.Property.{Property}
use Rattle.p416_syntax.specs.declared.controls.Property.TheVariants as property
use Rattle.p416_syntax.specs.Tree.{Exp16, literal, no_arguments, argument}
use Rattle.p416_syntax.specs.Names.{Name, repeats}
use Rattle.p416_syntax.specs.Scopes.{Scope}
use Rattle.p416_syntax.specs.Declarations.{table_uses}
use Rattle.lower_laws_base.specs.Context.{Words, Local, Lowering, words_of, Sees}
use Rattle.lower_laws_base.specs.Mirror.{sized}
use Rattle.lower_laws_base.proofs.Wrap.{wrap_below}
use Rattle.lower_laws_controls.specs.Keys.{key_of}
use Rattle.lower_laws_controls.specs.Listing.{each_once, copy_name, copy_text, widths_of_action}
use Rattle.lower_laws_controls.specs.Written.{keys_property, size_literal, size_property as size_written, counters_property as counters_written, arguments_exp, default_property as default_written, table_text}
use Rattle.lower_laws_rules.specs.Keeping.{Keeps}
use Rattle.lower_laws_rules.specs.Written.{literals16, TableText, key_property, size_property, counters_property, default_property, declared_action, table16}
use Rattle.lower_laws_rules.specs.Declared.{FitsDefault, TableFits}
use Rattle.lower_laws_rules.proofs.Tables.{table_kept}
use Rattle.lower_laws_block_rules.specs.Tables.{size_number, default_text, text_of, listed_as, IsCopyHere, DefaultStands, TableHere}
use Rattle.lower_laws_block_rules.proofs.Keys.{keys_kept}
use Rattle.lower_laws_block_rules.proofs.KeyKinds.{keys_are_good}
use Rattle.lower_laws_block_rules.proofs.Names.{each_of, once_has, once_differs, once_each, map_has, all_listed, planes}

-- the table that is written is one of the tables whose laws are known

literals_same : (before : Exp16) (widths : List ℕ) (numbers : List Number) → arguments_exp before widths numbers ≡ literals16 before widths (kept_arguments widths numbers)
literals_same before [] numbers = refl
literals_same before (w ∷ widths) [] = refl
literals_same before (w ∷ widths) (n ∷ numbers) = literals_same (argument before (literal (sized w (wrapped w (whole n))))) widths numbers

module _ (w : Words) (ds : List Decl) (copy : Name → Option Name) (t : Table) where
  names_same : (names : List Name) → map (copy_name copy) names ≡ map declared_action (map (copy_text copy) names)
  names_same [] = refl
  names_same (name ∷ names) = ap (λ (xs : List ActionName). copy_name copy name ∷ xs) (names_same names)

  default_same : (name : Name) → default_written ds copy t name ≡ property.DefaultAction (declared_action (copy_text copy name)) (literals16 no_arguments (default_text ds copy t name).widths (default_text ds copy t name).values)
  default_same name = ap (λ (e : Exp16). property.DefaultAction (declared_action (copy_text copy name)) e) (literals_same no_arguments (widths_of_action ds name) (unwrap_or (default_arguments_of t.attributes) []))

  defaults_same : (d : Option Name) → cons_option (option_map (default_written ds copy t) d) [] ≡ default_property (option_map (default_text ds copy t) d)
  defaults_same None = refl
  defaults_same (Some name) = ap (λ (p : Property). p ∷ []) (default_same name)

  size_same : (size most : Option Literal) (ps : List Property) → cons_option (option_map size_written (size_literal size most)) ps ≡ size_property (size_number size most) ++ ps
  size_same (Some n) most ps = refl
  size_same None (Some n) ps = refl
  size_same None None ps = refl

  counter_same : (counter : Option Name) (ps : List Property) → cons_option (option_map counters_written counter) ps ≡ counters_property counter ++ ps
  counter_same None ps = refl
  counter_same (Some x) ps = refl

  rest_same : (size most : Option Literal) (counter d : Option Name) → cons_option (option_map size_written (size_literal size most)) (cons_option (option_map counters_written counter) (cons_option (option_map (default_written ds copy t) d) [])) ≡ size_property (size_number size most) ++ (counters_property counter ++ default_property (option_map (default_text ds copy t) d))
  rest_same size most counter d =
      size_same size most _
      ∙ ap (λ (ps : List Property). size_property (size_number size most) ++ ps)
      (counter_same counter _ ∙ ap (λ (ps : List Property). counters_property counter ++ ps) (defaults_same d))

  keys_same : (keys : List TableKey) (ps : List Property) → cons_option (keys_property keys) ps ≡ key_property keys ++ ps
  keys_same [] ps = refl
  keys_same (k ∷ keys) ps = refl

  pub table_same : (called : Name) (counter : Option Name) → table_text w ds copy called counter t ≡ table16 (text_of w ds copy called counter t)
  table_same called counter =
      ap (λ (ps : List Property). record (table16 (text_of w ds copy called counter t)) { properties = ps })
      (keys_same (map (key_of w ds) (reads_of t.attributes)) _
      ∙ ap (λ (ps : List Property). key_property (map (key_of w ds) (reads_of t.attributes)) ++ ps)
      (ap₂ (λ (xs : List ActionName) (ps : List Property). property.Actions xs ∷ ps) (names_same (each_once (listed_in t))) (rest_same (size_of t.attributes) (max_size_of t.attributes) counter (default_action_of t.attributes))))

-- default arguments fit their widths
pub kept_fit : (widths : List ℕ) (numbers : List Number) → length numbers ≡ length widths → AllZip (λ (width value : ℕ). value < 2 ^ width) widths (kept_arguments widths numbers)
kept_fit [] numbers e = tt
kept_fit (w ∷ widths) [] e = absurd (omega (arith, e))
kept_fit (w ∷ widths) (n ∷ numbers) e = (wrap_below w (whole n), kept_fit widths numbers (omega (arith, e)))

module _ (c : Lowering) (ds : List Decl) (s : Scope) (ls : List Local) (sees : Sees c s ls) (copy : Name → Option Name) (called : Name) (counter : Option Name) (t : Table) (is : TableHere c ds s copy counter t) where
  abbrev text : TableText
  text = text_of (words_of c) ds copy called counter t

  default_fits : (o : Option Name) → DefaultStands ds t o → FitsDefault s text.actions (option_map (default_text ds copy t) o)
  default_fits None fits = tt
  default_fits (Some name) fits = record {
    among = map_has (copy_text copy) (each_once (listed_in t)) name (once_has (listed_in t) name fits.0);
    plane = name;
    known = each_of (IsCopyHere ds s copy) (listed_in t) name fits.0 is.listed;
    values = kept_fit (widths_of_action ds name) (unwrap_or (default_arguments_of t.attributes) []) fits.1;
  }

  pub table_fits : TableFits s text (map (listed_as ds) (each_once (listed_in t)))
  table_fits = record {
    keys = keys_kept c ds s ls sees (reads_of t.attributes) is.keys;
    good = keys_are_good c ds t is.good is.single;
    actions = all_listed ds s copy (each_once (listed_in t)) (once_each _ (listed_in t) is.listed);
    apart = ap repeats (planes ds s copy (each_once (listed_in t))) ∙ once_differs (listed_in t);
    counters = is.counter_is;
    default = default_fits (default_action_of t.attributes) is.default;
  }

  -- a table as it is written
  pub table_text_kept : Keeps (table_uses s (table_text (words_of c) ds copy called counter t)) []
  table_text_kept = subst (λ u. Keeps (table_uses s u) []) (sym (table_same (words_of c) ds copy t called counter)) (table_kept s text _ table_fits)
