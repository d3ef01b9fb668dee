-- Two actions of one control-plane name are mixed up where the first with the name of some action is another.
use Rattle.std.proofs.Common.{◌≡◌, ◌⊎◌, inl, inr, ℕ, Bool, true, false, not, ◌||◌, ◌&&◌, cond, Option, Some, None, List, [], ◌∷◌, map, slice_get, refl, sym, ap, ◌∙◌}
use Rattle.std.specs.Prelude.{option_and_then}
use Rattle.std.specs.Option.{option_map_or}
use Rattle.std.specs.List.{list_any}
use Rattle.std.specs.Str.{bytes_eq}
use Rattle.std.proofs.lemmas.Bool.{false≢true}
use Rattle.std.proofs.lemmas.Slice.Eq.{bytes_eq-Decides}
use Rattle.name_numbers.specs.Names.{find_name}
use Rattle.p416_syntax.specs.declared.controls.ActionName.{ActionName}
use Rattle.p416_syntax.specs.declared.controls.ActionName.TheVariants as action_name
use Rattle.p416_syntax.specs.Names.{Name}
use Rattle.p416_syntax.specs.Scopes.{Scope}
use Rattle.p416_syntax.specs.Tables.{is_same_action, action_plane, is_mixed_up, mixes_up}
use Rattle.p416_names.proofs.Found.{first_named, first_step}
use Rattle.p416_listed_check.specs.internal.Mixed.{is_other, is_other_where, is_mixed}

-- actions that are the same are equal

same_action : (a b : ActionName) → is_same_action a b ≡ true → a ≡ b
same_action (action_name.Declared x) (action_name.Declared y) h = ap action_name.Declared ((bytes_eq-Decides x y).0 h)
same_action (action_name.Declared x) action_name.NoAction h = absurd (false≢true h)
same_action action_name.NoAction (action_name.Declared y) h = absurd (false≢true h)
same_action action_name.NoAction action_name.NoAction h = refl

same_itself : (a : ActionName) → is_same_action a a ≡ true
same_itself (action_name.Declared x) = (bytes_eq-Decides x x).1 refl
same_itself action_name.NoAction = refl

plane_itself : (x : Name) → bytes_eq x x ≡ true
plane_itself x = (bytes_eq-Decides x x).1 refl

-- the first with a name

abbrev differs : Option ActionName → ActionName → Bool
differs o a = option_map_or (is_other a) o false

where_is : (actions : List ActionName) (o : Option ℕ) (a : ActionName) → is_other_where actions o a ≡ differs (option_and_then (slice_get actions) o) a
where_is actions None a = refl
where_is actions (Some place) a = refl

-- some of these

or_here : (a b : Bool) → a ≡ true → (a || b) ≡ true
or_here true b e = refl
or_here false b e = absurd (false≢true e)

or_there : (a b : Bool) → b ≡ true → (a || b) ≡ true
or_there true b e = refl
or_there false b e = e

one_of : (a b : Bool) → (a || b) ≡ true → (a ≡ true) ⊎ (b ≡ true)
one_of true b e = inl refl
one_of false b e = inr e

both_ways : (a b : Bool) → (a ≡ true → b ≡ true) → (b ≡ true → a ≡ true) → a ≡ b
both_ways true true f g = refl
both_ways true false f g = sym (f refl)
both_ways false true f g = g refl
both_ways false false f g = refl

two : (a b : Bool) → (a && b) ≡ true → (a ≡ true) × (b ≡ true)
two true b h = (refl, h)
two false b h = absurd (false≢true h)

and_both : (a b : Bool) → a ≡ true → b ≡ true → (a && b) ≡ true
and_both true b e f = f
and_both false b e f = absurd (false≢true e)

module _ (s : Scope) where
  abbrev plane : ActionName → Name
  plane a = action_plane s a

  abbrev first : List ActionName → Name → Option ActionName
  first actions p = first_named plane actions p

  -- an action with this name, and the first of them differs from what is asked
  some_at : (test : ActionName → Bool) (actions : List ActionName) (p : Name) (c : ActionName) → first actions p ≡ Some c → test c ≡ true → (list_any test actions ≡ true) × (plane c ≡ p)
  some_at test [] p c is holds = absurd (cc is)
  some_at test (x ∷ actions) p c is holds = by_first (bytes_eq (plane x) p) refl (sym (first_step plane x actions p) ∙ is) (λ e. some_at test actions p c e holds) where
    by_first : (b : Bool) → bytes_eq (plane x) p ≡ b → cond b (Some x) (first actions p) ≡ Some c → (first actions p ≡ Some c → (list_any test actions ≡ true) × (plane c ≡ p)) → (list_any test (x ∷ actions) ≡ true) × (plane c ≡ p)
    by_first true e found more =
        let same : x ≡ c = cc found in
        (or_here (test x) (list_any test actions) (ap test same ∙ holds), ap plane (sym same) ∙ (bytes_eq-Decides (plane x) p).0 e)
    by_first false e found more = let h = more found in (or_there (test x) (list_any test actions) h.0, h.1)

  differing : (o : Option ActionName) (a : ActionName) → differs o a ≡ true → (c : ActionName) × (o ≡ Some c) × (is_same_action c a ≡ false)
  differing None a h = absurd (false≢true h)
  differing (Some c) a h = (c, refl, off (is_same_action c a) h) where
    off : (b : Bool) → not b ≡ true → b ≡ false
    off true e = absurd (false≢true e)
    off false e = refl

  -- with one action x in front of all
  abbrev with_first : ActionName → List ActionName → ActionName → Bool
  with_first x all a = cond (bytes_eq (plane x) (plane a)) (not (is_same_action x a)) (differs (first all (plane a)) a)

  step_is : (x : ActionName) (all : List ActionName) (a : ActionName) → differs (first (x ∷ all) (plane a)) a ≡ with_first x all a
  step_is x all a = ap (λ (o : Option ActionName). differs o a) (first_step plane x all (plane a)) ∙ by_first (bytes_eq (plane x) (plane a)) where
    by_first : (b : Bool) → differs (cond b (Some x) (first all (plane a))) a ≡ cond b (not (is_same_action x a)) (differs (first all (plane a)) a)
    by_first true = refl
    by_first false = refl

  steps_are : (x : ActionName) (all ys : List ActionName) → list_any (λ a. differs (first (x ∷ all) (plane a)) a) ys ≡ list_any (with_first x all) ys
  steps_are x all [] = refl
  steps_are x all (y ∷ ys) =
      ap (λ (b : Bool). b || list_any (λ a. differs (first (x ∷ all) (plane a)) a) ys) (step_is x all y) ∙ ap (λ (b : Bool). with_first x all y || b) (steps_are x all ys)

  -- what is mixed up with x, or among all
  to_either : (x : ActionName) (all ys : List ActionName) → list_any (with_first x all) ys ≡ true → (list_any (is_mixed_up s x) ys || list_any (λ a. differs (first all (plane a)) a) ys) ≡ true
  to_either x all [] h = absurd (false≢true h)
  to_either x all (y ∷ ys) h =
      elim (one_of (with_first x all y) (list_any (with_first x all) ys) h) [
        | inl here ↦ by_first (bytes_eq (plane x) (plane y)) refl here
        | inr behind ↦ on (is_mixed_up s x y) (list_any (is_mixed_up s x) ys) (differs (first all (plane y)) y) (list_any (λ a. differs (first all (plane a)) a) ys) (to_either x all ys behind)
      ]
    where
      on : (a b c d : Bool) → (b || d) ≡ true → ((a || b) || (c || d)) ≡ true
      on true b c d e = refl
      on false true c d e = refl
      on false false c d e = or_there c d e

      by_first : (b : Bool) → bytes_eq (plane x) (plane y) ≡ b → cond b (not (is_same_action x y)) (differs (first all (plane y)) y) ≡ true
          → ((is_mixed_up s x y || list_any (is_mixed_up s x) ys) || (differs (first all (plane y)) y || list_any (λ a. differs (first all (plane a)) a) ys)) ≡ true
      by_first true e other =
          or_here (is_mixed_up s x y || list_any (is_mixed_up s x) ys) (differs (first all (plane y)) y || list_any (λ a. differs (first all (plane a)) a) ys)
          (or_here (is_mixed_up s x y) (list_any (is_mixed_up s x) ys) (and_both (not (is_same_action x y)) (bytes_eq (plane x) (plane y)) other e))
      by_first false e other =
          or_there (is_mixed_up s x y || list_any (is_mixed_up s x) ys) (differs (first all (plane y)) y || list_any (λ a. differs (first all (plane a)) a) ys)
          (or_here (differs (first all (plane y)) y) (list_any (λ a. differs (first all (plane a)) a) ys) other)

  mixed_here : (x : ActionName) (all ys : List ActionName) → list_any (is_mixed_up s x) ys ≡ true → list_any (with_first x all) ys ≡ true
  mixed_here x all [] h = absurd (false≢true h)
  mixed_here x all (y ∷ ys) h =
      elim (one_of (is_mixed_up s x y) (list_any (is_mixed_up s x) ys) h) [
        | inl here ↦
            let parts = two (not (is_same_action x y)) (bytes_eq (plane x) (plane y)) here in
            or_here (with_first x all y) (list_any (with_first x all) ys)
            (ap (λ (b : Bool). cond b (not (is_same_action x y)) (differs (first all (plane y)) y)) parts.1 ∙ parts.0)
        | inr behind ↦ or_there (with_first x all y) (list_any (with_first x all) ys) (mixed_here x all ys behind)
      ]

  -- where an action y differs from the first c of its name: with x in front, x differs from y or from c
  differs_here : (x : ActionName) (all ys : List ActionName) → list_any (λ a. differs (first all (plane a)) a) ys ≡ true → (list_any (with_first x all) ys || list_any (with_first x all) all) ≡ true
  differs_here x all [] h = absurd (false≢true h)
  differs_here x all (y ∷ ys) h =
      elim (one_of (differs (first all (plane y)) y) (list_any (λ a. differs (first all (plane a)) a) ys) h) [
        | inl here ↦ by_first (bytes_eq (plane x) (plane y)) refl here
        | inr behind ↦ on (with_first x all y) (list_any (with_first x all) ys) (list_any (with_first x all) all) (differs_here x all ys behind)
      ]
    where
      on : (a b c : Bool) → (b || c) ≡ true → ((a || b) || c) ≡ true
      on true b c e = refl
      on false b c e = e

      at_c : (c : ActionName) → first all (plane y) ≡ Some c → is_same_action c y ≡ false → bytes_eq (plane x) (plane y) ≡ true → is_same_action x y ≡ true → list_any (with_first x all) all ≡ true
      at_c c found other e same =
          let x_is : x ≡ y = same_action x y same in
          let apart : is_same_action x c ≡ false = not_same (is_same_action x c) (λ h. false≢true (sym other ∙ (ap (λ (a : ActionName). is_same_action a y) (sym (same_action x c h) ∙ x_is) ∙ same_itself y))) in
          (some_at (with_first x all) all (plane y) c found
          (ap (λ (b : Bool). cond b (not (is_same_action x c)) (differs (first all (plane c)) c)) (ap (bytes_eq (plane x)) (some_at (λ (a : ActionName). true) all (plane y) c found refl).1 ∙ e) ∙ ap not apart)).0
        where
          not_same : (b : Bool) → (b ≡ true → ⊥) → b ≡ false
          not_same true k = absurd (k refl)
          not_same false k = refl

      by_same : (b : Bool) → is_same_action x y ≡ b → bytes_eq (plane x) (plane y) ≡ true → differs (first all (plane y)) y ≡ true → ((with_first x all y || list_any (with_first x all) ys) || list_any (with_first x all) all) ≡ true
      by_same true same e here =
          let c = differing (first all (plane y)) y here in
          or_there (with_first x all y || list_any (with_first x all) ys) (list_any (with_first x all) all) (at_c c.0 c.1 c.2 e same)
      by_same false same e here =
          or_here (with_first x all y || list_any (with_first x all) ys) (list_any (with_first x all) all)
          (or_here (with_first x all y) (list_any (with_first x all) ys) (ap (λ (b : Bool). cond b (not (is_same_action x y)) (differs (first all (plane y)) y)) e ∙ ap not same))

      by_first : (b : Bool) → bytes_eq (plane x) (plane y) ≡ b → differs (first all (plane y)) y ≡ true → ((with_first x all y || list_any (with_first x all) ys) || list_any (with_first x all) all) ≡ true
      by_first true e here = by_same (is_same_action x y) refl e here
      by_first false e here =
          or_here (with_first x all y || list_any (with_first x all) ys) (list_any (with_first x all) all)
          (or_here (with_first x all y) (list_any (with_first x all) ys) (ap (λ (b : Bool). cond b (not (is_same_action x y)) (differs (first all (plane y)) y)) e ∙ here))

  same_twice : (a : Bool) → (a || a) ≡ a
  same_twice true = refl
  same_twice false = refl

  all_is : (all : List ActionName) → list_any (λ a. differs (first all (plane a)) a) all ≡ mixes_up s all
  all_is [] = refl
  all_is (x ∷ all) =
      ap (λ (b : Bool). b || list_any (λ a. differs (first (x ∷ all) (plane a)) a) all) itself
      ∙ (steps_are x all all
      ∙ (both_ways (list_any (with_first x all) all) (list_any (is_mixed_up s x) all || list_any (λ a. differs (first all (plane a)) a) all) (to_either x all all) from_either
      ∙ ap (λ (b : Bool). list_any (is_mixed_up s x) all || b) (all_is all)))
    where
      itself : differs (first (x ∷ all) (plane x)) x ≡ false
      itself =
          step_is x all x
          ∙ (ap (λ (b : Bool). cond b (not (is_same_action x x)) (differs (first all (plane x)) x)) (plane_itself (plane x)) ∙ ap not (same_itself x))

      from_either : (list_any (is_mixed_up s x) all || list_any (λ a. differs (first all (plane a)) a) all) ≡ true → list_any (with_first x all) all ≡ true
      from_either h =
          elim (one_of (list_any (is_mixed_up s x) all) (list_any (λ a. differs (first all (plane a)) a) all) h) [
            | inl with_x ↦ mixed_here x all all with_x
            | inr among ↦ sym (same_twice (list_any (with_first x all) all)) ∙ differs_here x all all among
          ]

  mixed_are : (all ys : List ActionName) → list_any (is_mixed s all) ys ≡ list_any (λ a. differs (first all (plane a)) a) ys
  mixed_are all [] = refl
  mixed_are all (y ∷ ys) =
      ap (λ (b : Bool). b || list_any (is_mixed s all) ys) (where_is all (find_name (map plane all) (plane y)) y)
      ∙ ap (λ (b : Bool). differs (first all (plane y)) y || b) (mixed_are all ys)

  pub mixed_is : (all : List ActionName) → list_any (is_mixed s all) all ≡ mixes_up s all
  mixed_is all = mixed_are all all ∙ all_is all
