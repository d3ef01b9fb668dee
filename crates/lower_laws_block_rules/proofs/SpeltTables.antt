-- Tables are spelt, where names are.
use Rattle.std.proofs.Common.{◌≡◌, ℕ, ◌^◌, ◌<◌, true, false, ◌&&◌, List, [], ◌∷◌, ◌++◌, map, Option, Some, None, refl, sym, subst, arith}
use Rattle.std.specs.Prelude.{option_map, unwrap_or}
use Rattle.std.specs.List.{AllByRecursion, AllZip}
use Rattle.p416_syntax.specs.declared.keyword.Keyword16.TheVariants as keyword
use Rattle.p416_syntax.specs.Keywords.{keyword_text16}
use Rattle.p414_syntax.specs.declared.lexeme.Literal.{Literal}
use Rattle.p414_syntax.specs.declared.tables.Table.{Table}
use Rattle.p414_syntax.specs.declared.syntax.Decl.{Decl}
use Rattle.p414_syntax.specs.Attributes.{reads_of, size_of, max_size_of, default_action_of, default_arguments_of}
use Rattle.p414_syntax.specs.Tables.{listed_in}
use Rattle.p416_syntax.specs.SpeltLexemes.{is_identifier16}
use Rattle.p416_syntax.specs.declared.controls.TableKey.{TableKey}
use Rattle.p416_syntax.specs.declared.controls.Property.TheVariants as property
use Rattle.p416_syntax.specs.Conditions.{is_some_listed, all_different, is_among, property_texts}
use Rattle.p416_syntax.specs.Tree.{Exp16, literal, no_arguments, argument}
use Rattle.p416_syntax.specs.Names.{Name}
use Rattle.p416_syntax.specs.Scopes.{Scope}
use Rattle.lower_laws_base.specs.Context.{Lowering, words_of}
use Rattle.lower_laws_base.specs.Mirror.{sized}
use Rattle.lower_laws_controls.specs.Listing.{Each, each_once, copy_text, widths_of_action}
use Rattle.lower_laws_controls.specs.Written.{table_text}
use Rattle.lower_laws_rules.specs.Written.{literals16, Default, TableText, key_property, size_property, counters_property, default_property, declared_action, table16}
use Rattle.lower_laws_rules.specs.Spelling.{SpeltName, SpeltAt, many, SpeltKey, SpeltActionName, SpeltProperty, SpeltTable}
use Rattle.lower_laws_rules.proofs.SpeltParts.{plain_spelt, sized_spelt}
use Rattle.lower_laws_rules.proofs.Found.{left_false}
use Rattle.lower_laws_block_rules.specs.Widths.{IsWidth, SlotsWide, SpeltHere}
use Rattle.lower_laws_block_rules.specs.Tables.{size_number, default_text, text_of, DefaultStands, TableHere, OptionSpelt, CopySpelt, TableNamed}
use Rattle.lower_laws_block_rules.proofs.KeyKinds.{keys_here}
use Rattle.lower_laws_block_rules.proofs.Names.{each_of, once_each}
use Rattle.lower_laws_block_rules.proofs.Tables.{kept_fit, table_same}

abbrev ValuesFit : List ℕ → List ℕ → Type 0
ValuesFit widths values = AllZip (λ (width value : ℕ). value < 2 ^ width) widths values

literals_spelt : (before : Exp16) (widths values : List ℕ) → AllByRecursion IsWidth widths → ValuesFit widths values → SpeltAt (many false) before → SpeltAt (many false) (literals16 before widths values)
literals_spelt before [] values wide fit is = is
literals_spelt before (w ∷ widths) [] wide fit is = absurd fit
literals_spelt before (w ∷ widths) (v ∷ values) wide fit is =
    literals_spelt (argument before (literal (sized w v))) widths values wide.1 fit.1 (is, sized_spelt w v wide.0.0 wide.0.1 fit.0)

-- what is asked of the names and numbers of a table

abbrev DefaultSpelt : Option Default → Type 0
DefaultSpelt None = Unit {0}
DefaultSpelt (Some d) = SpeltName d.action × AllByRecursion IsWidth d.widths × ValuesFit d.widths d.values

abbrev SizeSpelt : Option ℕ → Type 0
SizeSpelt None = Unit {0}
SizeSpelt (Some n) = n < 2 ^ 128

record TextSpelt (t : TableText) : Type 0 where
  plane : is_identifier16 t.plane ≡ true
  called : SpeltName t.called
  keys : AllByRecursion SpeltKey t.keys
  some : is_some_listed t.actions ≡ true
  actions : AllByRecursion SpeltName t.actions
  size : SizeSpelt t.size
  counter : OptionSpelt t.counters
  default : DefaultSpelt t.default

-- each property stands once, and `actions` stands
different : (keys : List TableKey) (names : List Name) (size : Option ℕ) (counters : Option Name) (default : Option Default) → all_different (property_texts (key_property keys ++ property.Actions (map declared_action names) ∷ (size_property size ++ (counters_property counters ++ default_property default)))) && is_among (keyword_text16 keyword.Actions) (property_texts (key_property keys ++ property.Actions (map declared_action names) ∷ (size_property size ++ (counters_property counters ++ default_property default)))) ≡ true
different [] names None None None = refl
different [] names None None (Some d) = refl
different [] names None (Some x) None = refl
different [] names None (Some x) (Some d) = refl
different [] names (Some n) None None = refl
different [] names (Some n) None (Some d) = refl
different [] names (Some n) (Some x) None = refl
different [] names (Some n) (Some x) (Some d) = refl
different (k ∷ keys) names None None None = refl
different (k ∷ keys) names None None (Some d) = refl
different (k ∷ keys) names None (Some x) None = refl
different (k ∷ keys) names None (Some x) (Some d) = refl
different (k ∷ keys) names (Some n) None None = refl
different (k ∷ keys) names (Some n) None (Some d) = refl
different (k ∷ keys) names (Some n) (Some x) None = refl
different (k ∷ keys) names (Some n) (Some x) (Some d) = refl

names_spelt : (names : List Name) → AllByRecursion SpeltName names → AllByRecursion SpeltActionName (map declared_action names)
names_spelt [] all = tt
names_spelt (x ∷ names) all = (all.0, names_spelt names all.1)

some_named : (names : List Name) → is_some_listed names ≡ true → is_some_listed (map declared_action names) ≡ true
some_named [] is = is
some_named (x ∷ names) is = refl

both_lists : {A : Type 0} (P : A → Type 0) (xs ys : List A) → AllByRecursion P xs → AllByRecursion P ys → AllByRecursion P (xs ++ ys)
both_lists P [] ys a b = b
both_lists P (x ∷ xs) ys a b = (a.0, both_lists P xs ys a.1 b)

text_spelt : (t : TableText) → TextSpelt t → SpeltTable (table16 t)
text_spelt t is = (
  ((is.plane, tt), refl),
  is.called,
  both_lists SpeltProperty (key_property t.keys) _ (keys t.keys is.keys) (
    (some_named t.actions is.some, names_spelt t.actions is.actions),
    both_lists SpeltProperty (size_property t.size) _ (size t.size is.size) (both_lists SpeltProperty (counters_property t.counters) _ (counter t.counters is.counter) (default t.default is.default)),
  ),
  different t.keys t.actions t.size t.counters t.default,
) where
  keys : (ks : List TableKey) → AllByRecursion SpeltKey ks → AllByRecursion SpeltProperty (key_property ks)
  keys [] all = tt
  keys (k ∷ ks) all = (all, tt)

  size : (o : Option ℕ) → SizeSpelt o → AllByRecursion SpeltProperty (size_property o)
  size None is = tt
  size (Some n) is = (plain_spelt n is, tt)

  counter : (o : Option Name) → OptionSpelt o → AllByRecursion SpeltProperty (counters_property o)
  counter None is = tt
  counter (Some x) is = (is, tt)

  default : (o : Option Default) → DefaultSpelt o → AllByRecursion SpeltProperty (default_property o)
  default None is = tt
  default (Some d) is = ((is.0, literals_spelt no_arguments d.widths d.values is.1 is.2 tt), tt)

-- the table that is written

some_once : (names : List Name) → is_some_listed names ≡ true → (copy : Name → Option Name) → is_some_listed (map (copy_text copy) (each_once names)) ≡ true
some_once [] is copy = is
some_once (x ∷ names) is copy = refl

copies_spelt : (ds : List Decl) (copy : Name → Option Name) (names : List Name) → Each (CopySpelt ds copy) names → AllByRecursion SpeltName (map (copy_text copy) names)
copies_spelt ds copy [] all = tt
copies_spelt ds copy (x ∷ names) all = (all.0.0, copies_spelt ds copy names all.1)

size_small : (size most : Option Literal) → SizeSpelt (size_number size most)
size_small (Some n) most = omega arith
size_small None (Some n) = omega arith
size_small None None = tt

pub table_here : (c : Lowering) (ds : List Decl) (s : Scope) (wide : SlotsWide c) (facts : SpeltHere c) (copy : Name → Option Name) (called : Name) (counter : Option Name) (t : Table) → TableHere c ds s copy counter t → TableNamed ds copy called counter t → SpeltTable (table_text (words_of c) ds copy called counter t)
table_here c ds s wide facts copy called counter t is named =
    subst SpeltTable (sym (table_same (words_of c) ds copy t called counter))
    (text_spelt (text_of (words_of c) ds copy called counter t)
    (record {
      plane = named.plane;
      called = named.spelt;
      keys = keys_here c ds wide facts (reads_of t.attributes) is.keys (left_false _ _ is.good);
      some = some_once (listed_in t) named.some copy;
      actions = copies_spelt ds copy (each_once (listed_in t)) (once_each (CopySpelt ds copy) (listed_in t) named.actions);
      size = size_small (size_of t.attributes) (max_size_of t.attributes);
      counter = named.counter_spelt;
      default = default (default_action_of t.attributes) is.default;
    })) where
      default : (o : Option Name) → DefaultStands ds t o → DefaultSpelt (option_map (default_text ds copy t) o)
      default None fits = tt
      default (Some name) fits =
          let one = each_of (CopySpelt ds copy) (listed_in t) name fits.0 named.actions in
          (one.0, one.1, kept_fit (widths_of_action ds name) (unwrap_or (default_arguments_of t.attributes) []) fits.1)
