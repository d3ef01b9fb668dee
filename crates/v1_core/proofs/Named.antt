-- A frame by name and its values by number are read and written alike.
use Rattle.std.proofs.Common.{◌≡◌, ◌≢◌, ℕ, ◌<◌, Bool, cond, Option, Some, None, List, [], ◌∷◌, length, get_or, set, refl, sym, ap, ◌∙◌, subst, IfSome}
use Rattle.std.proofs.lemmas.List.{get_or-set_same, get_or-set_other}
use Rattle.std.specs.Str.{bytes_eq}
use Rattle.p416_syntax.specs.Names.{Name}
use Rattle.v1_core.specs.Values.{Value, a_member, no_value, Step, to_member, to_element, part_of, part_at, member_in, with_member, with_part, with_part_at, Slice}
use Rattle.v1_core.specs.Frames.{Owner, of_headers, of_metadata, of_standard, of_variables, of_inner, of_nothing, place_value, around_slice, write}
use Rattle.v1_core.specs.Slots.{FramePart}
use Rattle.v1_core.specs.Numbered.{Numbered, part_value, with_part_value, Variable, InScope, named_values, frame_in, number_of, part_behind, variable_part, part_meant}
use Rattle.v1_core.specs.Scopes.{AreAway, AreApart, AreOthers, IsScope}
use Rattle.v1_core.proofs.Reading.{by_truth}

-- the value of a name

part_named : (values : List Value) (vs : List Variable) (text : Name) → part_of (named_values values vs) (to_member text) ≡ member_in (named_values values vs) text
part_named values [] text = refl
part_named values (v ∷ vs) text = refl

put_named : (values : List Value) (vs : List Variable) (text : Name) (x : Value) → with_part (named_values values vs) (to_member text) x ≡ with_member (named_values values vs) text x
put_named values [] text x = refl
put_named values (v ∷ vs) text x = refl

named_read : (values : List Value) (vs : List Variable) (text : Name) → IfSome (number_of vs text) (λ k. member_in (named_values values vs) text ≡ get_or values k no_value)
named_read values [] text = tt
named_read values (v ∷ vs) text =
    by_truth (λ (same : Bool). IfSome (cond same (Some v.number) (number_of vs text)) (λ k. cond same (get_or values v.number no_value) (member_in (named_values values vs) text) ≡ get_or values k no_value))
    refl (named_read values vs text) (bytes_eq v.called text)

-- values with other numbers stay
away_same : (values : List Value) (vs : List Variable) (k : ℕ) (x : Value) → AreAway k vs → named_values (set values k x) vs ≡ named_values values vs
away_same values [] k x away = refl
away_same values (v ∷ vs) k x away =
    ap (λ (y : Value). a_member v.called y (named_values (set values k x) vs)) (get_or-set_other values k v.number x no_value away.0)
    ∙ ap (λ (y : Value). a_member v.called (get_or values v.number no_value) y) (away_same values vs k x away.1)

-- the number that a name has is away from those that it isn't among
pub record IsNamed (count : ℕ) (values : List Value) (vs others : List Variable) (text : Name) (k : ℕ) : Type 0 where
  pub within : k < count
  pub others_away : AreAway k others
  pub put : (x : Value) → k < length values → with_member (named_values values vs) text x ≡ named_values (set values k x) vs

some_more : {A : Type 0} (P Q : A → Type 0) (o : Option A) → ((x : A) → o ≡ Some x → P x → Q x) → IfSome o P → IfSome o Q
some_more P Q None f h = tt
some_more P Q (Some x) f h = f x refl h

-- a number that is found is that of one of these
found_away : (n : ℕ) (vs : List Variable) (text : Name) → AreAway n vs → IfSome (number_of vs text) (λ k. k ≢ n)
found_away n [] text away = tt
found_away n (v ∷ vs) text away =
    by_truth (λ (same : Bool). IfSome (cond same (Some v.number) (number_of vs text)) (λ k. k ≢ n)) away.0 (found_away n vs text away.1) (bytes_eq v.called text)

both : {A : Type 0} (P Q : A → Type 0) (o : Option A) → IfSome o P → IfSome o Q → IfSome o (λ x. P x × Q x)
both P Q None p q = tt
both P Q (Some x) p q = (p, q)

named_put : (count : ℕ) (values : List Value) (vs others : List Variable) (text : Name) → AreApart count vs → AreOthers vs others → IfSome (number_of vs text) (IsNamed count values vs others text)
named_put count values [] others text apart away = tt
named_put count values (v ∷ vs) others text apart away =
    by_truth (λ (same : Bool). bytes_eq v.called text ≡ same → IfSome (cond same (Some v.number) (number_of vs text)) (IsNamed count values (v ∷ vs) others text))
    (λ e. record {
      within = apart.0;
      others_away = away.0;
      put = λ x lt. rw e (ap (λ (y : Value). a_member v.called y (named_values values vs)) (sym (get_or-set_same values v.number x no_value lt))
          ∙ ap (λ (y : Value). a_member v.called (get_or (set values v.number x) v.number no_value) y) (sym (away_same values vs v.number x apart.1)));
    })
    (λ e. some_more (λ k. IsNamed count values vs others text k × (k ≢ v.number)) (IsNamed count values (v ∷ vs) others text) (number_of vs text)
    (λ k is h. record {
      within = h.0.within;
      others_away = h.0.others_away;
      put = λ x lt. rw e (ap (λ (y : Value). a_member v.called y (with_member (named_values values vs) text x)) (sym (get_or-set_other values k v.number x no_value (λ same. h.1 (sym same))))
          ∙ ap (λ (y : Value). a_member v.called (get_or (set values k x) v.number no_value) y) (h.0.put x lt));
    })
    (both (IsNamed count values vs others text) (λ k. k ≢ v.number) (number_of vs text) (named_put count values vs others text apart.2 away.1) (found_away v.number vs text apart.1)))
    (bytes_eq v.called text) refl

-- l-values

variable_read : (s : InScope) (x : Numbered) (vs : List Variable) (steps : List Step) (p : FramePart) → variable_part vs steps ≡ Some p → part_at steps (named_values x.variables vs) ≡ part_value x p
variable_read s x vs [] p is = absurd (cc is)
variable_read s x vs (to_element i ∷ path) p is = absurd (cc is)
variable_read s x vs (to_member text ∷ path) p is = by (number_of vs text) (named_read x.variables vs text) is where
  by : (o : Option ℕ) → IfSome o (λ k. member_in (named_values x.variables vs) text ≡ get_or x.variables k no_value) → part_behind path o ≡ Some p → part_at path (part_of (named_values x.variables vs) (to_member text)) ≡ part_value x p
  by None h e = absurd (cc e)
  by (Some k) h e =
      ap (λ (v : Value). part_at path v) (part_named x.variables vs text ∙ h)
      ∙ subst (λ (o : Option FramePart). IfSome o (λ q. part_at path (get_or x.variables k no_value) ≡ part_value x q)) e refl

-- what is read of an l-value in a frame is what stands at its part
pub meant_read : (s : InScope) (x : Numbered) (owner : Owner) (steps : List Step) (slice : Option Slice) (p : FramePart) → part_meant s (record { owner = owner; steps = steps; slice = slice }) ≡ Some p → place_value (frame_in s x) (record { owner = owner; steps = steps; slice = slice }) ≡ part_value x p
meant_read s x of_headers steps slice p is = subst (λ (o : Option FramePart). IfSome o (λ q. part_at steps x.headers ≡ part_value x q)) is refl
meant_read s x of_metadata steps slice p is = subst (λ (o : Option FramePart). IfSome o (λ q. part_at steps x.metadata ≡ part_value x q)) is refl
meant_read s x of_standard steps slice p is = subst (λ (o : Option FramePart). IfSome o (λ q. part_at steps x.standard_metadata ≡ part_value x q)) is refl
meant_read s x of_variables steps slice p is = variable_read s x s.variables steps p is
meant_read s x of_inner steps slice p is = variable_read s x s.inner steps p is
meant_read s x of_nothing steps slice p is = absurd (cc is)

-- a value of a name with another part
value_put : (count : ℕ) (values : List Value) (vs others : List Variable) (text : Name) (k : ℕ) (path : List Step) (slice : Option Slice) (v : Value) → member_in (named_values values vs) text ≡ get_or values k no_value → IsNamed count values vs others text k → k < length values → with_part_at (to_member text ∷ path) (around_slice slice (part_at path (part_of (named_values values vs) (to_member text))) v) (named_values values vs) ≡ named_values (set values k (with_part_at path (around_slice slice (part_at path (get_or values k no_value)) v) (get_or values k no_value))) vs
value_put count values vs others text k path slice v read named lt =
    let old = named_values values vs in
    ap (λ (z : Value). with_part old (to_member text) (with_part_at path (around_slice slice (part_at path z) v) z)) (part_named values vs text ∙ read)
    ∙ put_named values vs text (with_part_at path (around_slice slice (part_at path (get_or values k no_value)) v) (get_or values k no_value))
    ∙ named.put (with_part_at path (around_slice slice (part_at path (get_or values k no_value)) v) (get_or values k no_value)) lt

-- a write of an l-value in a frame is one of its part
pub meant_write : (s : InScope) (x : Numbered) (owner : Owner) (steps : List Step) (slice : Option Slice) (v : Value) (p : FramePart) → IsScope (length x.variables) s → part_meant s (record { owner = owner; steps = steps; slice = slice }) ≡ Some p → write (record { owner = owner; steps = steps; slice = slice }) v (frame_in s x) ≡ frame_in s (with_part_value x p (around_slice slice (part_value x p) v))
meant_write s x of_headers steps slice v p scope is = subst (λ (o : Option FramePart). IfSome o (λ q. write (record { owner = of_headers; steps = steps; slice = slice }) v (frame_in s x) ≡ frame_in s (with_part_value x q (around_slice slice (part_value x q) v)))) is refl
meant_write s x of_metadata steps slice v p scope is = subst (λ (o : Option FramePart). IfSome o (λ q. write (record { owner = of_metadata; steps = steps; slice = slice }) v (frame_in s x) ≡ frame_in s (with_part_value x q (around_slice slice (part_value x q) v)))) is refl
meant_write s x of_standard steps slice v p scope is = subst (λ (o : Option FramePart). IfSome o (λ q. write (record { owner = of_standard; steps = steps; slice = slice }) v (frame_in s x) ≡ frame_in s (with_part_value x q (around_slice slice (part_value x q) v)))) is refl
meant_write s x of_variables [] slice v p scope is = absurd (cc is)
meant_write s x of_variables (to_element i ∷ path) slice v p scope is = absurd (cc is)
meant_write s x of_variables (to_member text ∷ path) slice v p scope is =
    by (number_of s.variables text) (named_read x.variables s.variables text) (named_put (length x.variables) x.variables s.variables s.inner text scope.variables scope.variables_others) is where
      by : (o : Option ℕ) → IfSome o (λ k. member_in (named_values x.variables s.variables) text ≡ get_or x.variables k no_value) → IfSome o (IsNamed (length x.variables) x.variables s.variables s.inner text) → part_behind path o ≡ Some p → write (record { owner = of_variables; steps = to_member text ∷ path; slice = slice }) v (frame_in s x) ≡ frame_in s (with_part_value x p (around_slice slice (part_value x p) v))
      by None read named e = absurd (cc e)
      by (Some k) read named e =
          let new : Value = with_part_at path (around_slice slice (part_at path (get_or x.variables k no_value)) v) (get_or x.variables k no_value) in
          subst (λ (o : Option FramePart). IfSome o (λ q. write (record { owner = of_variables; steps = to_member text ∷ path; slice = slice }) v (frame_in s x) ≡ frame_in s (with_part_value x q (around_slice slice (part_value x q) v)))) e
          (ap (λ (y : Value). record (frame_in s x) { variables = y }) (value_put (length x.variables) x.variables s.variables s.inner text k path slice v read named named.within)
          ∙ ap (λ (y : Value). record (frame_in s x) { variables = named_values (set x.variables k new) s.variables; inner = y }) (sym (away_same x.variables s.inner k new named.others_away)))
meant_write s x of_inner [] slice v p scope is = absurd (cc is)
meant_write s x of_inner (to_element i ∷ path) slice v p scope is = absurd (cc is)
meant_write s x of_inner (to_member text ∷ path) slice v p scope is =
    by (number_of s.inner text) (named_read x.variables s.inner text) (named_put (length x.variables) x.variables s.inner s.variables text scope.inner scope.inner_others) is where
      by : (o : Option ℕ) → IfSome o (λ k. member_in (named_values x.variables s.inner) text ≡ get_or x.variables k no_value) → IfSome o (IsNamed (length x.variables) x.variables s.inner s.variables text) → part_behind path o ≡ Some p → write (record { owner = of_inner; steps = to_member text ∷ path; slice = slice }) v (frame_in s x) ≡ frame_in s (with_part_value x p (around_slice slice (part_value x p) v))
      by None read named e = absurd (cc e)
      by (Some k) read named e =
          let new : Value = with_part_at path (around_slice slice (part_at path (get_or x.variables k no_value)) v) (get_or x.variables k no_value) in
          subst (λ (o : Option FramePart). IfSome o (λ q. write (record { owner = of_inner; steps = to_member text ∷ path; slice = slice }) v (frame_in s x) ≡ frame_in s (with_part_value x q (around_slice slice (part_value x q) v)))) e
          (ap (λ (y : Value). record (frame_in s x) { inner = y }) (value_put (length x.variables) x.variables s.inner s.variables text k path slice v read named named.within)
          ∙ ap (λ (y : Value). record (frame_in s x) { inner = named_values (set x.variables k new) s.inner; variables = y }) (sym (away_same x.variables s.variables k new named.others_away)))
meant_write s x of_nothing steps slice v p scope is = absurd (cc is)
