-- What an action of ingress or egress sees: what its control sees, and its parameters.
use Rattle.std.proofs.Common.{◌≡◌, ◌≢◌, ℕ, zero, suc, ◌+◌, ◌<◌, ◌≤◌, ◌^◌, Bool, true, false, List, [], ◌∷◌, ◌++◌, length, map, refl, sym, ap, ◌∙◌, subst, arith}
use Rattle.std.specs.Prelude.{codes, ◌||◌, ◌&&◌}
use Rattle.std.specs.List.{list_all}
use Rattle.std.specs.Str.{bytes_eq}
use Rattle.std.proofs.lemmas.Slice.Eq.{bytes_eq-Decides}
use Rattle.p414_syntax.specs.declared.syntax.Decl.{Decl}
use Rattle.p414_syntax.specs.declared.syntax.Rule14.{Rule14}
use Rattle.p414_syntax.specs.declared.syntax.Rule14.TheVariants as rule
use Rattle.p414_syntax.specs.declared.syntax.Sort.TheVariants as sort
use Rattle.p414_syntax.specs.Names.{Name, has_name}
use Rattle.p416_syntax.specs.declared.parts.Param.{Param}
use Rattle.p416_syntax.specs.declared.controls.Action16.{Action16}
use Rattle.p416_syntax.specs.Kinds.{hash_algorithm, counter_type, meter_type, clone_type}
use Rattle.p416_syntax.specs.BuiltIn.{functions}
use Rattle.p416_syntax.specs.Scopes.{Known, a_value, sort_in, sort_of, known_parameter}
use Rattle.p416_syntax.specs.Declarations.{action_scope}
use Rattle.v1_core.specs.Frames.{Owner, of_headers, of_metadata, of_standard, of_variables, of_inner, of_nothing}
use Rattle.v1_core.specs.Surroundings.{Surroundings}
use Rattle.agreement_of_meanings.specs.Shown.{NamedField}
use Rattle.lower_laws_names.specs.Words.{outer_words}
use Rattle.lower_laws_names.specs.NewNames.{new_name}
use Rattle.lower_laws_names.specs.Reaches.{IsNumbered}
use Rattle.lower_laws_base.specs.Context.{Local, local_at, local_of, StateLayout, ObjectName, object_at, Lowering, IsCopied, Item, a_root, a_copy, an_object, a_function, an_enumeration, the_packet, IsItem, item_name, item_sort, Sees, HasNone, Spares, AreDistinct}
use Rattle.lower_laws_program.specs.TypesFit.{TypeWords}
use Rattle.lower_laws_program.specs.Scopes.{block_lowering, IsClear}
use Rattle.lower_laws_program.specs.Fits.{old_name, old_variables, pipeline_block}
use Rattle.lower_laws_program.proofs.Tops.{sort_behind}
use Rattle.v1_core.specs.Blocks.{control_world}
use Rattle.lower_laws_premises.proofs.Controls.{action_lowering}
use Rattle.lower_laws_translated.specs.Translated.{parameter_of, spare_name}
use Rattle.lower_laws_translated.proofs.Inner.{IsInner}
use Rattle.lower_laws_translated.proofs.Spares.{spares_same, spare_inner}
use Rattle.lower_laws_actions.specs.Actions.{AreParameters}

unlike : (a b : Name) → a ≢ b → bytes_eq a b ≡ false
unlike a b apart = by (bytes_eq a b) refl where
  by : (c : Bool) → bytes_eq a b ≡ c → c ≡ false
  by false e = refl
  by true e = absurd (apart ((bytes_eq-Decides a b).0 e))

-- a name of the text is no inner name

word_apart : (ds : List Decl) (text w : Name) → IsInner ds text → has_name outer_words w ≡ true → text ≢ w
word_apart ds text w inner has same = absurd (cc (has, subst (λ (z : Name). has_name outer_words z ≡ false) same inner.outside))

split : (a b : Bool) → (a && b) ≡ true → (a ≡ true) × (b ≡ true)
split true b e = (refl, e)
split false b e = absurd (cc e)

among : (w v : Name) (rest : Bool) → has_name outer_words v ≡ true → (rest ≡ true → has_name outer_words w ≡ true) → (b : Bool) → bytes_eq w v ≡ b → (b || rest) ≡ true → has_name outer_words w ≡ true
among w v rest there more true e f = subst (λ (z : Name). has_name outer_words z ≡ true) (sym ((bytes_eq-Decides w v).0 e)) there
among w v rest there more false e f = more f

subset : (ws : List Name) (w : Name) → list_all (has_name outer_words) ws ≡ true → has_name ws w ≡ true → has_name outer_words w ≡ true
subset [] w all has = absurd (cc has)
subset (v ∷ ws) w all has =
    let s = split (has_name outer_words v) (list_all (has_name outer_words) ws) all in
    among w v (has_name ws w) s.0 (λ h. subset ws w s.1 h) (bytes_eq w v) refl has

functions_outside : (w : Name) → has_name functions w ≡ true → has_name outer_words w ≡ true
functions_outside w has = subset functions w refl has

-- parameters

-- no two parameters have one name, and each has an inner one
pub record AreInner (ds : List Decl) (ps : List NamedField) : Type 0 where
  pub differ : AreDistinct (map local_of ps)
  pub inner : (j : ℕ) → j < length (map local_of ps) → IsInner ds (local_at (map local_of ps) j).called
  pub spare : (j : ℕ) → j < length (map local_of ps) → (K i : ℕ) → (local_at (map local_of ps) j).called ≢ spare_name K i

parameter_found : (names rest : List Known) (ps : List NamedField) → AreDistinct (map local_of ps) → (j : ℕ) → j < length (map local_of ps) → sort_in (map (known_parameter names) (map parameter_of ps) ++ rest) (local_at (map local_of ps) j).called ≡ a_value (local_at (map local_of ps) j).kind false
parameter_found names rest [] differ j lt = absurd (omega (arith, lt))
parameter_found names rest (f ∷ ps) differ zero lt = rw ((bytes_eq-Decides f.called f.called).1 refl) refl
parameter_found names rest (f ∷ ps) differ (suc j) lt =
    let other = unlike f.called (local_at (map local_of ps) j).called (differ 0 (suc j) (omega arith) lt (λ e. absurd (cc e))) in
    rw other (parameter_found names rest ps (λ a b p q apart. differ (suc a) (suc b) (omega (arith, p)) (omega (arith, q)) (λ e. apart (cc e))) j (omega (arith, lt)))

clear_by : (names : List Known) (ps : List NamedField) (text : Name) → HasNone (map local_of ps) text → IsClear (map (known_parameter names) (map parameter_of ps)) text
clear_by names [] text none = tt
clear_by names (f ∷ ps) text none = (unlike f.called text (none 0 (omega arith)), clear_by names ps text (λ j lt. none (suc j) (omega (arith, lt))))

module _ (ds : List Decl) (g : StateLayout) (t : TypeWords) (r : Rule14) (objects : List ObjectName) (ps : List NamedField) (b : Surroundings) (calls : ℕ) where
  abbrev outer : Lowering
  outer = block_lowering g t (pipeline_block r objects) (control_world b)

  abbrev inner : Lowering
  inner = action_lowering g t r objects spare_name ps b calls

  -- items are the same

  copied_outside : (o : Owner) → IsCopied inner o → IsCopied outer o
  copied_outside o is = record { place = is.place; within = is.within; stands = is.stands }

  item_outside : (x : Item) → IsItem inner x → IsItem outer x
  item_outside (a_root of_headers) is = is
  item_outside (a_root of_metadata) is = is
  item_outside (a_root of_standard) is = is
  item_outside (a_root of_variables) is = is
  item_outside (a_root of_inner) is = is
  item_outside (a_root of_nothing) is = is
  item_outside (a_copy o) is = copied_outside o is
  item_outside (an_object j) is = is
  item_outside (a_function called) is = is
  item_outside (an_enumeration e) is = is
  item_outside the_packet is = is

  name_outside : (x : Item) → item_name inner x ≡ item_name outer x
  name_outside (a_root o) = refl
  name_outside (a_copy o) = refl
  name_outside (an_object j) = refl
  name_outside (a_function called) = refl
  name_outside (an_enumeration e) = refl
  name_outside the_packet = refl

  sort_outside : (x : Item) → item_sort inner x ≡ item_sort outer x
  sort_outside (a_root o) = refl
  sort_outside (a_copy o) = refl
  sort_outside (an_object j) = refl
  sort_outside (a_function called) = refl
  sort_outside (an_enumeration e) = refl
  sort_outside the_packet = refl

  -- an inner name is none of an item

  old_there : (place : ℕ) → place < length (old_variables r) → has_name outer_words (local_at (old_variables r) place).called ≡ true
  old_there place lt = by r place lt where
    by : (r : Rule14) (place : ℕ) → place < length (old_variables r) → has_name outer_words (local_at (old_variables r) place).called ≡ true
    by rule.Sequential place lt = absurd (omega (arith, lt))
    by rule.Parallel zero lt = refl
    by rule.Parallel (suc zero) lt = refl
    by rule.Parallel (suc (suc zero)) lt = refl
    by rule.Parallel (suc (suc (suc k))) lt = absurd (omega (arith, lt))

  module _ (named : (j : ℕ) → j < length objects → (n : Name) × IsNumbered ds sort.Object n × ((object_at objects j).called ≡ new_name ds sort.Object n)) where
    pub no_item : (text : Name) → IsInner ds text → (x : Item) → IsItem inner x → text ≢ item_name inner x
    no_item text i (a_root of_headers) is = word_apart ds text (codes "hdr") i refl
    no_item text i (a_root of_metadata) is = word_apart ds text (codes "meta") i refl
    no_item text i (a_root of_standard) is = word_apart ds text (codes "sm") i refl
    no_item text i (a_root of_variables) is = absurd is
    no_item text i (a_root of_inner) is = absurd is
    no_item text i (a_root of_nothing) is = absurd is
    no_item text i (a_copy o) is = word_apart ds text (old_name o) i (ap (λ (l : Local). has_name outer_words l.called) (sym is.stands) ∙ old_there is.place is.within)
    no_item text i (an_object j) lt = let n = named j lt in λ same. i.object n.0 n.1 (same ∙ n.2)
    no_item text i (a_function called) is = word_apart ds text called i (functions_outside called is)
    no_item text i (an_enumeration hash_algorithm) is = word_apart ds text (codes "HashAlgorithm") i refl
    no_item text i (an_enumeration counter_type) is = word_apart ds text (codes "CounterType") i refl
    no_item text i (an_enumeration meter_type) is = word_apart ds text (codes "MeterType") i refl
    no_item text i (an_enumeration clone_type) is = word_apart ds text (codes "CloneType") i refl
    no_item text i the_packet is = absurd (cc is)

    module _ (are : AreInner ds ps) (sees : Sees outer b.scope []) (a : Action16) (parameters : a.parameters ≡ map parameter_of ps) where
      abbrev ls : List Local
      ls = map local_of ps

      none_there : (x : Item) → IsItem inner x → HasNone ls (item_name inner x)
      none_there x is j lt = no_item (local_at ls j).called (are.inner j lt) x is

      scope_names : (text : Name) → sort_of (action_scope b.scope a) text ≡ sort_in (map (known_parameter b.scope.names) (map parameter_of ps) ++ b.scope.names) text
      scope_names text = ap (λ (l : List Param). sort_in (map (known_parameter b.scope.names) l ++ b.scope.names) text) parameters

      named_there : (x : Item) → IsItem inner x → sort_of (action_scope b.scope a) (item_name inner x) ≡ item_sort inner x
      named_there x is =
          scope_names (item_name inner x)
          ∙ sort_behind (map (known_parameter b.scope.names) (map parameter_of ps)) b.scope.names (item_name inner x) (clear_by b.scope.names ps (item_name inner x) (none_there x is))
          ∙ ap (λ (z : Name). sort_of b.scope z) (name_outside x) ∙ sees.declares.named x (item_outside x is) ∙ sym (sort_outside x)

      -- what the action sees
      pub action_sees : Sees inner (action_scope b.scope a) ls
      action_sees = record {
        declares = record {
          differ = sees.declares.differ;
          apart = sees.declares.apart;
          named = named_there;
          rooted = sees.declares.rooted;
          copied = λ o is. sees.declares.copied o (copied_outside o is);
          numbered = sees.declares.numbered;
          stored = sees.declares.stored;
          shape = sees.declares.shape;
          instance = sees.declares.instance;
          field = sees.declares.field;
          standard = sees.declares.standard;
          error = sees.declares.error;
          checksum = sees.declares.checksum;
          standard_is = sees.declares.standard_is;
        };
        locals = λ j lt. (false, scope_names (local_at ls j).called ∙ parameter_found b.scope.names b.scope.names ps are.differ j lt);
        distinct = are.differ;
        apart = none_there;
      }

      pub action_spares : Spares inner ls 0
      action_spares = record {
        free = λ K i le. record { locals = λ j lt. are.spare j lt K i; items = λ x is. no_item (spare_name K i) (spare_inner ds K i) x is };
        differ = λ K i L j same. spares_same K L i j same;
      }

      pub action_parameters : AreParameters b.scope.names a.parameters ps
      action_parameters = subst (λ (l : List Param). AreParameters b.scope.names l ps) (sym parameters) (by ps) where
        by : (fs : List NamedField) → AreParameters b.scope.names (map parameter_of fs) fs
        by [] = tt
        by (f ∷ fs) = (refl, refl, by fs)
