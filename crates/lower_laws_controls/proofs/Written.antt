-- The table that is written is all that is asked of it.
use Rattle.std.proofs.Common.{◌≡◌, ℕ, ◌-◌, ◌^◌, Option, Some, None, option_map, List, [], ◌∷◌, ◌++◌, length, map, refl, sym, ap, ◌∙◌, arith, append_assoc, append-nil}
use Rattle.std.specs.Prelude.{min, unwrap_or}
use Rattle.std.specs.Option.{option_map_or}
use Rattle.std.specs.List.{cons_option}
use Rattle.std.proofs.lemmas.List.{map-append}
use Rattle.p414_syntax.specs.declared.lexeme.Literal.{Literal}
use Rattle.p416_syntax.specs.declared.lexeme.Literal16.{Literal16}
use Rattle.p414_syntax.specs.declared.parts.Number.{Number}
use Rattle.p414_syntax.specs.declared.tables.Table.{Table}
use Rattle.p414_syntax.specs.declared.syntax.Decl.{Decl}
use Rattle.p414_syntax.specs.Attributes.{reads_of, size_of, max_size_of, default_action_of as default14, default_arguments_of as arguments14}
use Rattle.p414_syntax.specs.Names.{Name, find_name}
use Rattle.p414_syntax.specs.Tables.{listed_in}
use Rattle.p414_sem.specs.Wholes.{whole, wrapped}
use Rattle.p414_sem.specs.Signatures.{table_sig as sig14, table_size as size14, direct_counter, actions_in_order}
use Rattle.p414_sem.specs.Controls.{Setting as Setting14, kept_arguments}
use Rattle.p416_syntax.specs.declared.controls.ActionName.{ActionName}
use Rattle.p416_syntax.specs.declared.controls.TableKey.{TableKey}
use Rattle.p416_syntax.specs.declared.controls.Property.{Property}
use Rattle.p416_syntax.specs.declared.controls.Property.TheVariants as property
use Rattle.p416_syntax.specs.declared.controls.Table16.{Table16}
use Rattle.p416_syntax.specs.Properties.{keys_of, actions_of, size_of as size_of16, counters_of, default_action_of as default16, default_arguments_of as arguments16}
use Rattle.p416_syntax.specs.Tree.{Exp16, literal, no_arguments, argument}
use Rattle.p416_syntax.specs.Uses.{arguments_of}
use Rattle.p416_syntax.specs.Totals.{size_value as literal_in}
use Rattle.v1_core.specs.Surroundings.{Surroundings}
use Rattle.v1_core.specs.Signatures.{size_written, direct_number}
use Rattle.lower_laws_base.specs.Context.{Lowering, words_of}
use Rattle.lower_laws_base.specs.Mirror.{sized}
use Rattle.lower_laws_controls.specs.Keys.{key_of, KeysFit}
use Rattle.lower_laws_controls.specs.Listing.{Each, each_once, copy_name, widths_of_action, CopyListed}
use Rattle.lower_laws_controls.specs.Written.{keys_property, size_literal, size_property, counters_property, arguments_exp, properties_in_order, table_text}
use Rattle.lower_laws_controls.proofs.Tables.{CopyDeclared, TableWritten, DefaultIs}

-- where properties are found

past : {A B : Type 0} (F : List Property → A) (make : B → Property) → ((x : B) (rest : List Property) → F (make x ∷ rest) ≡ F rest) → (o : Option B) (rest : List Property) → F (cons_option (option_map make o) rest) ≡ F rest
past F make skips None rest = refl
past F make skips (Some x) rest = skips x rest

past_keys : {A : Type 0} (F : List Property → A) → ((ks : List TableKey) (rest : List Property) → F (property.Key ks ∷ rest) ≡ F rest) → (ks : List TableKey) (rest : List Property) → F (cons_option (keys_property ks) rest) ≡ F rest
past_keys F skips [] rest = refl
past_keys F skips (k ∷ keys) rest = skips (k ∷ keys) rest

module _ (names : List ActionName) (size : Option Literal16) (counter : Option Name) (called : Name → ActionName) (given : Name → Exp16) (d : Option Name) where
  abbrev default_of : Name → Property
  default_of name = property.DefaultAction (called name) (given name)

  abbrev last : List Property
  last = cons_option (option_map default_of d) []

  abbrev props : List TableKey → List Property
  props ks = properties_in_order (keys_property ks) (property.Actions names) (option_map size_property size) (option_map counters_property counter) (option_map default_of d)

  pub found_keys : (ks : List TableKey) → keys_of (props ks) ≡ ks
  found_keys (k ∷ keys) = refl
  found_keys [] = past keys_of size_property (λ x r. refl) size _ ∙ past keys_of counters_property (λ x r. refl) counter last ∙ past keys_of default_of (λ x r. refl) d []

  pub found_actions : (ks : List TableKey) → actions_of (props ks) ≡ names
  found_actions [] = refl
  found_actions (k ∷ keys) = refl

  pub found_size : (ks : List TableKey) → size_of16 (props ks) ≡ size
  found_size ks = past_keys size_of16 (λ x r. refl) ks _ ∙ by size where
    by : (o : Option Literal16) → size_of16 (cons_option (option_map size_property o) (cons_option (option_map counters_property counter) last)) ≡ o
    by (Some n) = refl
    by None = past size_of16 counters_property (λ x r. refl) counter last ∙ past size_of16 default_of (λ x r. refl) d []

  pub found_counters : (ks : List TableKey) → counters_of (props ks) ≡ counter
  found_counters ks = past_keys counters_of (λ x r. refl) ks _ ∙ past counters_of size_property (λ x r. refl) size _ ∙ by counter where
    by : (o : Option Name) → counters_of (cons_option (option_map counters_property o) last) ≡ o
    by (Some n) = refl
    by None = past counters_of default_of (λ x r. refl) d []

  pub found_default : (ks : List TableKey) → default16 (props ks) ≡ option_map called d
  found_default ks = past_keys default16 (λ x r. refl) ks _ ∙ past default16 size_property (λ x r. refl) size _ ∙ past default16 counters_property (λ x r. refl) counter last ∙ by d where
    by : (o : Option Name) → default16 (cons_option (option_map default_of o) []) ≡ option_map called o
    by (Some name) = refl
    by None = refl

  pub found_arguments : (ks : List TableKey) → arguments16 (props ks) ≡ option_map given d
  found_arguments ks = past_keys arguments16 (λ x r. refl) ks _ ∙ past arguments16 size_property (λ x r. refl) size _ ∙ past arguments16 counters_property (λ x r. refl) counter last ∙ by d where
    by : (o : Option Name) → arguments16 (cons_option (option_map default_of o) []) ≡ option_map given o
    by (Some name) = refl
    by None = refl

-- a size that is cut to 32 bits is the size
pub size_same : (t : Table) → min (2 ^ 32 - 1) (option_map_or size_written (size_literal (size_of t.attributes) (max_size_of t.attributes)) 1024) ≡ size14 t
size_same t = by (size_of t.attributes) (max_size_of t.attributes) refl refl where
  twice : (a b : ℕ) → min a (min a b) ≡ min a b
  twice a b = omega arith

  by : (s m : Option Literal) → size_of t.attributes ≡ s → max_size_of t.attributes ≡ m → min (2 ^ 32 - 1) (option_map_or size_written (size_literal (size_of t.attributes) (max_size_of t.attributes)) 1024) ≡ size14 t
  by (Some n) m e f = rw e (twice (2 ^ 32 - 1) n.value)
  by None (Some n) e f = rw (e, f) (twice (2 ^ 32 - 1) n.value)
  by None None e f = rw (e, f) refl

-- arguments that are cut to widths
arguments_same : (before : Exp16) (widths : List ℕ) (numbers : List Number) → map literal_in (arguments_of (arguments_exp before widths numbers)) ≡ map literal_in (arguments_of before) ++ kept_arguments widths numbers
arguments_same before [] numbers = sym (append-nil (map literal_in (arguments_of before)))
arguments_same before (w ∷ widths) [] = sym (append-nil (map literal_in (arguments_of before)))
arguments_same before (w ∷ widths) (n ∷ numbers) =
    arguments_same (argument before (literal (sized w (wrapped w (whole n))))) widths numbers
    ∙ ap (λ l. l ++ kept_arguments widths numbers) (map-append literal_in (arguments_of before) (literal (sized w (wrapped w (whole n))) ∷ []))
    ∙ append_assoc (map literal_in (arguments_of before)) (wrapped w (whole n) ∷ []) (kept_arguments widths numbers)

-- the default action is one that the table lists, with as many arguments as it has parameters
abbrev pub DefaultFits : List Decl → Table → Option Name → Type 0
DefaultFits ds t None = Unit {0}
DefaultFits ds t (Some name) =
    ((i : ℕ) × (find_name (actions_in_order t) name ≡ Some i)) × (length (unwrap_or (arguments14 t.attributes) []) ≡ length (widths_of_action ds name))

-- what is asked of a table of P4_14 and of its new names
pub record TableFits (c : Lowering) (d : Setting14) (b : Surroundings) (copy : Name → Option Name) (counter : Option Name) (t : Table) : Type 0 where
  pub keys : KeysFit c.layout d.decls (reads_of t.attributes)
  pub copies : Each (CopyDeclared c d b copy (sig14 d.decls t).direct) (listed_in t)
  pub counter_is : option_map (direct_number b.setting.syntax b.locals) counter ≡ direct_counter d.decls t.name
  pub default : DefaultFits d.decls t (default14 t.attributes)

module _ (c : Lowering) (d : Setting14) (b : Surroundings) (copy : Name → Option Name) (called : Name) (counter : Option Name) (t : Table) (fits : TableFits c d b copy counter t) where
  abbrev u : Table16
  u = table_text (words_of c) d.decls copy called counter t

  abbrev names : List ActionName
  names = map (copy_name copy) (each_once (listed_in t))

  abbrev size : Option Literal16
  size = size_literal (size_of t.attributes) (max_size_of t.attributes)

  abbrev given : Name → Exp16
  given name = arguments_exp no_arguments (widths_of_action d.decls name) (unwrap_or (arguments14 t.attributes) [])

  abbrev keys : List TableKey
  keys = map (key_of (words_of c) d.decls) (reads_of t.attributes)

  listed : (names : List Name) → Each (CopyDeclared c d b copy (sig14 d.decls t).direct) names → Each (CopyListed d.decls b.scope copy) names
  listed [] all = tt
  listed (x ∷ xs) all = (all.0.listed, listed xs all.1)

  default_is : (o : Option Name) → arguments16 u.properties ≡ option_map given o → DefaultFits d.decls t o → DefaultIs d copy t u o
  default_is None is fit = tt
  default_is (Some name) is fit =
      (fit.0, fit.1, ap (λ (o : Option Exp16). map literal_in (option_map_or arguments_of o [])) is ∙ arguments_same no_arguments (widths_of_action d.decls name) (unwrap_or (arguments14 t.attributes) []))

  pub table_written : TableWritten c d b copy t u
  table_written =
      let default = default14 t.attributes in
      record {
        is = record {
          plane = refl;
          keys = found_keys names size counter (copy_name copy) given default keys;
          keys_fit = fits.keys;
          actions = found_actions names size counter (copy_name copy) given default keys;
          listed = listed (listed_in t) fits.copies;
          size = ap (λ (o : Option Literal16). min (2 ^ 32 - 1) (option_map_or size_written o 1024)) (found_size names size counter (copy_name copy) given default keys) ∙ size_same t;
          direct = ap (option_map (direct_number b.setting.syntax b.locals)) (found_counters names size counter (copy_name copy) given default keys) ∙ fits.counter_is;
        };
        copies = fits.copies;
        default = found_default names size counter (copy_name copy) given default keys;
        default_is = default_is default (found_arguments names size counter (copy_name copy) given default keys) fits.default;
      }
