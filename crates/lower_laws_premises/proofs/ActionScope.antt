-- The scope of an action sees what the control's scope sees, and the action's parameters, where these have names of their own.
use Rattle.std.proofs.Common.{◌≡◌, ◌≢◌, ℕ, zero, suc, ◌<◌, Bool, true, false, cond, List, [], ◌∷◌, ◌++◌, length, map, refl, sym, ap, ◌∙◌, subst, arith}
use Rattle.std.specs.Str.{bytes_eq}
use Rattle.std.proofs.lemmas.Slice.Eq.{bytes_eq-Decides}
use Rattle.p416_syntax.specs.declared.parts.Param.{Param}
use Rattle.p416_syntax.specs.declared.controls.Action16.{Action16}
use Rattle.p416_syntax.specs.Tree.{name}
use Rattle.p416_syntax.specs.Names.{Name}
use Rattle.p416_syntax.specs.Scopes.{Scope, Known, a_value, sort_in, sort_of, known_parameter, is_written}
use Rattle.p416_syntax.specs.Declarations.{action_scope}
use Rattle.v1_core.specs.Frames.{of_variables, whole, stepped}
use Rattle.v1_core.specs.Values.{to_member}
use Rattle.v1_core.specs.Surroundings.{Surroundings, by_root}
use Rattle.v1_core.specs.Calls.{object_in}
use Rattle.agreement_of_meanings.specs.Shown.{NamedField}
use Rattle.lower_laws_base.specs.Context.{local_at, local_of, AreDistinct, HasNone, Lowering, object_at, Item, a_root, a_copy, an_object, a_function, an_enumeration, the_packet, IsItem, item_name, item_sort, Declares, Sees}
use Rattle.lower_laws_actions.specs.Actions.{body_world, AreParameters}

not_same : (a b : Name) → a ≢ b → bytes_eq a b ≡ false
not_same a b apart = by (bytes_eq a b) refl where
  by : (c : Bool) → bytes_eq a b ≡ c → c ≡ false
  by true e = absurd (apart ((bytes_eq-Decides a b).0 e))
  by false e = refl

-- what parameters of these names don't hide
unhidden : (names : List Known) (ps : List Param) (fs : List NamedField) (rest : List Known) (text : Name) → AreParameters names ps fs → HasNone (map local_of fs) text → sort_in (map (known_parameter names) ps ++ rest) text ≡ sort_in rest text
unhidden names [] [] rest text are none = refl
unhidden names [] (f ∷ fs) rest text are none = absurd are
unhidden names (p ∷ ps) [] rest text are none = absurd are
unhidden names (p ∷ ps) (f ∷ fs) rest text are none =
    ap (λ (c : Bool). cond c (known_parameter names p).sort (sort_in (map (known_parameter names) ps ++ rest) text)) (not_same p.name text (λ e. none 0 (omega arith) (sym are.0 ∙ e)))
    ∙ unhidden names ps fs rest text are.2 (λ j lt. none (suc j) (omega (arith, lt)))

same_itself : (text : Name) → bytes_eq text text ≡ true
same_itself text = (bytes_eq-Decides text text).1 refl

-- and what they mean
parameter_sort : (names : List Known) (ps : List Param) (fs : List NamedField) (rest : List Known) → AreParameters names ps fs → AreDistinct (map local_of fs) → (j : ℕ) → j < length (map local_of fs) → (can : Bool) × (sort_in (map (known_parameter names) ps ++ rest) (local_at (map local_of fs) j).called ≡ a_value (local_at (map local_of fs) j).kind can)
parameter_sort names [] [] rest are distinct j lt = absurd (omega (arith, lt))
parameter_sort names [] (f ∷ fs) rest are distinct j lt = absurd are
parameter_sort names (p ∷ ps) [] rest are distinct j lt = absurd are
parameter_sort names (p ∷ ps) (f ∷ fs) rest are distinct zero lt = (
  is_written p.direction,
  ap (λ (c : Bool). cond c (known_parameter names p).sort (sort_in (map (known_parameter names) ps ++ rest) f.called)) (ap (λ text. bytes_eq text f.called) are.0 ∙ same_itself f.called)
      ∙ ap (λ k. a_value k (is_written p.direction)) are.1,
)
parameter_sort names (p ∷ ps) (f ∷ fs) rest are distinct (suc j) lt =
    let more = parameter_sort names ps fs rest are.2 (λ i k a b apart. distinct (suc i) (suc k) (omega (arith, a)) (omega (arith, b)) (λ e. apart (omega (arith, e)))) j (omega (arith, lt)) in
    let called = (local_at (map local_of fs) j).called in (
      more.0,
      ap (λ (c : Bool). cond c (known_parameter names p).sort (sort_in (map (known_parameter names) ps ++ rest) called)) (not_same p.name called (λ e. distinct 0 (suc j) (omega arith) lt (λ z. absurd (omega (arith, z))) (sym are.0 ∙ e)))
          ∙ more.1,
    )

-- the lowering of a control, and that of an action in it
module _ (c : Lowering) (b : Surroundings) (calls : ℕ) (spare : ℕ → ℕ → Name) (parameters : List NamedField) where
  abbrev pub inner : Lowering
  inner = record c { spare = spare; parameters = parameters; world = body_world b calls }

  outer_item : (x : Item) → IsItem inner x → IsItem c x
  outer_item (a_root o) is = is
  outer_item (a_copy o) is = record { place = is.place; within = is.within; stands = is.stands }
  outer_item (an_object j) is = is
  outer_item (a_function called) is = is
  outer_item (an_enumeration e) is = is
  outer_item the_packet is = is

  same_text : (x : Item) → item_name inner x ≡ item_name c x
  same_text (a_root o) = refl
  same_text (a_copy o) = refl
  same_text (an_object j) = refl
  same_text (a_function called) = refl
  same_text (an_enumeration e) = refl
  same_text the_packet = refl

  same_sort : (x : Item) → item_sort inner x ≡ item_sort c x
  same_sort (a_root o) = refl
  same_sort (a_copy o) = refl
  same_sort (an_object j) = refl
  same_sort (a_function called) = refl
  same_sort (an_enumeration e) = refl
  same_sort the_packet = refl

  module _ (s : Scope) (a : Action16) (sees : Sees c s []) (around : c.world.around ≡ b) (are : AreParameters s.names a.parameters parameters) (distinct : AreDistinct (map local_of parameters)) (apart : (x : Item) → IsItem c x → HasNone (map local_of parameters) (item_name c x)) where
    clear : (x : Item) → IsItem inner x → HasNone (map local_of parameters) (item_name inner x)
    clear x is = subst (HasNone (map local_of parameters)) (sym (same_text x)) (apart x (outer_item x is))

    named : (x : Item) → IsItem inner x → sort_of (action_scope s a) (item_name inner x) ≡ item_sort inner x
    named x is = unhidden s.names a.parameters parameters s.names (item_name inner x) are (clear x is) ∙ (ap (sort_in s.names) (same_text x) ∙ (sees.declares.named x (outer_item x is) ∙ sym (same_sort x)))

    declares : Declares inner (action_scope s a)
    declares =
        let d = sees.declares in
        record {
          differ = d.differ;
          apart = d.apart;
          named = named;
          rooted = λ o is. subst (λ (z : Surroundings). by_root z.roots (c.root o) ≡ whole o) around (d.rooted o is);
          copied = λ o is. subst (λ (z : Surroundings). by_root z.roots (c.copy o) ≡ stepped (whole of_variables) (to_member (c.copy o))) around (d.copied o (record { place = is.place; within = is.within; stands = is.stands }));
          numbered = λ j lt. subst (λ (z : Surroundings). object_in (body_world z calls) (name (object_at c.objects j).called) ≡ j) around (d.numbered j lt);
          stored = d.stored;
          shape = d.shape;
          instance = d.instance;
          field = d.field;
          standard = d.standard;
          error = d.error;
          checksum = d.checksum;
          standard_is = d.standard_is;
        }

    pub action_sees : Sees inner (action_scope s a) (map local_of parameters)
    action_sees = record {
      declares = declares;
      locals = parameter_sort s.names a.parameters parameters s.names are distinct;
      distinct = distinct;
      apart = clear;
    }
