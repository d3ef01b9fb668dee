-- The new names of one sort differ, and so do those of header types, objects, tables and actions.
use Rattle.std.proofs.Common.{◌≡◌, ◌≢◌, ℕ, ◌≤◌, Bool, true, false, ◌&&◌, ◌||◌, not, cond, is_some, Option, unwrap_or, List, [], get_or, length, refl, sym, ap, ◌∙◌, arith}
use Rattle.std.specs.List.{list_any}
use Rattle.std.specs.Prelude.{codes}
use Rattle.std.specs.Str.{bytes_eq}
use Rattle.std.proofs.lemmas.Bool.{and_parts, not-true, true≢false, leb-true}
use Rattle.std.proofs.lemmas.List.Quantifiers.{position-Some}
use Rattle.std.proofs.lemmas.Slice.Eq.{bytes_eq-Decides}
use Rattle.token_division.specs.Octets.{is_decimal, is_word}
use Rattle.p414_syntax.specs.declared.syntax.Decl.{Decl}
use Rattle.p414_syntax.specs.declared.syntax.Sort.{Sort}
use Rattle.p414_syntax.specs.declared.syntax.Sort.TheVariants.{HeaderType, Instance, Parse, Action, Table, List as AList, Calculation, Object}
use Rattle.p414_syntax.specs.Names.{Name, has_name, names_in, number_of, is_declared}
use Rattle.lower_laws_names.specs.Words.{words, outer_words}
use Rattle.lower_laws_names.specs.Made.{looks_made, made, can_stay, can_stay_outside, Thing, called}
use Rattle.lower_laws_names.specs.NewNames.{letter_of, is_declared_before, gives_initials, is_displaced, stays, thing, new_name}
use Rattle.lower_laws_names.specs.Reaches.{IsProper, AreApart, IsNumbered, IsOuter}
use Rattle.lower_laws_names.proofs.Tags.{looks_made-made}
use Rattle.lower_laws_names.proofs.Things.{made_not_outside, apart_differ}

-- what stays

pub record Stays (n : Name) : Type 0 where
  pub short : length n ≤ 64
  pub plain : looks_made n ≡ false
  pub unreserved : has_name words n ≡ false

pub can_parts : (n : Name) → can_stay n ≡ true → Stays n
can_parts n e =
    let both = and_parts _ (not (looks_made n) && not (has_name words n)) e in
    let rest = and_parts (not (looks_made n)) (not (has_name words n)) both.1 in
    record {
      short = leb-true (length n) 64 both.0;
      plain = not-true (looks_made n) rest.0;
      unreserved = not-true (has_name words n) rest.1;
    }

pub record StaysOutside (n : Name) (rest : Bool) : Type 0 where
  pub can : can_stay n ≡ true
  pub outside : has_name outer_words n ≡ false
  pub more : rest ≡ true

pub outside_parts : (n : Name) (more : Bool) → (can_stay_outside n && more) ≡ true → StaysOutside n more
outside_parts n more e =
    let both = and_parts (can_stay_outside n) more e in
    let outer = and_parts (can_stay n) (not (has_name outer_words n)) both.0 in
    record { can = outer.0; outside = not-true (has_name outer_words n) outer.1; more = both.1 }

module _ (ds : List Decl) where
  stays_can : (s : Sort) (n : Name) → stays ds s n ≡ true → can_stay n ≡ true
  stays_can HeaderType n e = (outside_parts n (not (is_declared_before ds HeaderType n)) e).can
  stays_can Instance n e = e
  stays_can Parse n e = (outside_parts n (not (is_displaced ds n)) e).can
  stays_can Action n e = (outside_parts n (not (is_declared_before ds Action n)) e).can
  stays_can Table n e = (outside_parts n (not (is_declared_before ds Table n)) e).can
  stays_can AList n e = (outside_parts n (not (is_declared_before ds AList n)) e).can
  stays_can Calculation n e = (outside_parts n (not (is_declared_before ds Calculation n)) e).can
  stays_can Object n e = (outside_parts n (not (is_declared_before ds Object n)) e).can

  no_digit : (s : Sort) → is_decimal (letter_of s) ≡ false
  no_digit HeaderType = refl
  no_digit Instance = refl
  no_digit Parse = refl
  no_digit Action = refl
  no_digit Table = refl
  no_digit AList = refl
  no_digit Calculation = refl
  no_digit Object = refl

  a_letter : (s : Sort) → is_word (letter_of s) ≡ true
  a_letter HeaderType = refl
  a_letter Instance = refl
  a_letter Parse = refl
  a_letter Action = refl
  a_letter Table = refl
  a_letter AList = refl
  a_letter Calculation = refl
  a_letter Object = refl

  number_is : (s : Sort) (n : Name) (d : IsNumbered ds s n) → unwrap_or (number_of s ds n) 0 ≡ d.number
  number_is s n d = ap (λ (o : Option ℕ). unwrap_or o 0) d.found

  pub proper : (s : Sort) (n : Name) → IsNumbered ds s n → IsProper (thing ds s n)
  proper s n d = record {
    letter = no_digit s;
    word = a_letter s;
    small = rw (number_is s n d) d.small;
    short = λ e. (can_parts n (stays_can s n e)).short;
    plain = λ e. (can_parts n (stays_can s n e)).plain;
    unreserved = λ e. (can_parts n (stays_can s n e)).unreserved;
  }

  -- one sort

  named_at : (s : Sort) (n : Name) (d : IsNumbered ds s n) → n ≡ get_or (names_in s ds) d.number []
  named_at s n d =
      (bytes_eq-Decides n (get_or (names_in s ds) d.number [])).0 (position-Some (bytes_eq n) (names_in s ds) d.number [] d.found).1

  same_number : (s : Sort) (n m : Name) (d : IsNumbered ds s n) (e : IsNumbered ds s m) → d.number ≡ e.number → n ≡ m
  same_number s n m d e same =
      named_at s n d ∙ (ap (λ (k : ℕ). get_or (names_in s ds) k []) same ∙ sym (named_at s m e))

  pub one_sort : (s : Sort) (n m : Name) → IsNumbered ds s n → IsNumbered ds s m → n ≢ m → AreApart (thing ds s n) (thing ds s m)
  one_sort s n m d e differ = record {
    tag = λ (both : (letter_of s ≡ letter_of s) × (unwrap_or (number_of s ds n) 0 ≡ unwrap_or (number_of s ds m) 0)). differ (same_number s n m d e (sym (number_is s n d) ∙ (both.1 ∙ number_is s m e)));
    names = λ p q. differ;
  }

  pub sort_differs : (s : Sort) (n m : Name) → IsNumbered ds s n → IsNumbered ds s m → n ≢ m → new_name ds s n ≢ new_name ds s m
  sort_differs s n m d e differ = apart_differ (thing ds s n) (thing ds s m) (proper s n d) (proper s m e) (one_sort s n m d e differ)

  -- two sorts

  is_there : (s : Sort) (n : Name) → IsNumbered ds s n → is_declared s ds n ≡ true
  is_there s n d = ap (λ (o : Option ℕ). is_some o) d.found

  other_name : (s : Sort) (n m : Name) → IsNumbered ds s n → is_declared s ds m ≡ false → n ≢ m
  other_name s n m d none same = true≢false (sym (is_there s n d) ∙ (ap (is_declared s ds) same ∙ none))

  or_left : (a b : Bool) → (a || b) ≡ false → a ≡ false
  or_left true b e = e
  or_left false b e = refl

  or_right : (a b : Bool) → (a || b) ≡ false → b ≡ false
  or_right true b e = cc
  or_right false b e = e

  -- none of the sorts that keep a name before this one has it
  before_none : (s : Sort) (n : Name) → (can_stay_outside n && not (is_declared_before ds s n)) ≡ true → is_declared_before ds s n ≡ false
  before_none s n e =
      not-true (is_declared_before ds s n) (outside_parts n (not (is_declared_before ds s n)) e).more

  types_objects : (n m : Name) → IsNumbered ds HeaderType n → IsNumbered ds Object m → AreApart (thing ds HeaderType n) (thing ds Object m)
  types_objects n m d e = record {
    tag = λ (both : (104 ≡ 111) × (unwrap_or (number_of HeaderType ds n) 0 ≡ unwrap_or (number_of Object ds m) 0)). omega arith;
    names = λ p q. other_name HeaderType n m d (or_left (is_declared HeaderType ds m) false (before_none Object m q));
  }

  types_tables : (n m : Name) → IsNumbered ds HeaderType n → IsNumbered ds Table m → AreApart (thing ds HeaderType n) (thing ds Table m)
  types_tables n m d e = record {
    tag = λ (both : (104 ≡ 116) × (unwrap_or (number_of HeaderType ds n) 0 ≡ unwrap_or (number_of Table ds m) 0)). omega arith;
    names = λ p q. other_name HeaderType n m d (or_left (is_declared HeaderType ds m) _ (before_none Table m q));
  }

  objects_tables : (n m : Name) → IsNumbered ds Object n → IsNumbered ds Table m → AreApart (thing ds Object n) (thing ds Table m)
  objects_tables n m d e = record {
    tag = λ (both : (111 ≡ 116) × (unwrap_or (number_of Object ds n) 0 ≡ unwrap_or (number_of Table ds m) 0)). omega arith;
    names = λ p q. other_name Object n m d (or_left (is_declared Object ds m) _ (or_right (is_declared HeaderType ds m) _ (before_none Table m q)));
  }

  types_actions : (n m : Name) → IsNumbered ds HeaderType n → IsNumbered ds Action m → AreApart (thing ds HeaderType n) (thing ds Action m)
  types_actions n m d e = record {
    tag = λ (both : (104 ≡ 97) × (unwrap_or (number_of HeaderType ds n) 0 ≡ unwrap_or (number_of Action ds m) 0)). omega arith;
    names = λ p q. other_name HeaderType n m d (or_left (is_declared HeaderType ds m) _ (before_none Action m q));
  }

  objects_actions : (n m : Name) → IsNumbered ds Object n → IsNumbered ds Action m → AreApart (thing ds Object n) (thing ds Action m)
  objects_actions n m d e = record {
    tag = λ (both : (111 ≡ 97) × (unwrap_or (number_of Object ds n) 0 ≡ unwrap_or (number_of Action ds m) 0)). omega arith;
    names = λ p q. other_name Object n m d (or_left (is_declared Object ds m) _ (or_right (is_declared HeaderType ds m) _ (before_none Action m q)));
  }

  tables_actions : (n m : Name) → IsNumbered ds Table n → IsNumbered ds Action m → AreApart (thing ds Table n) (thing ds Action m)
  tables_actions n m d e = record {
    tag = λ (both : (116 ≡ 97) × (unwrap_or (number_of Table ds n) 0 ≡ unwrap_or (number_of Action ds m) 0)). omega arith;
    names = λ p q. other_name Table n m d (or_left (is_declared Table ds m) _ (or_right (is_declared Object ds m) _ (or_right (is_declared HeaderType ds m) _ (before_none Action m q))));
  }

pub turned : (x y : Thing) → AreApart x y → AreApart y x
turned x y a = record {
  tag = λ (both : (y.letter ≡ x.letter) × (y.number ≡ x.number)). a.tag (sym both.0, sym both.1);
  names = λ p q same. a.names q p (sym same);
}

pub outer_apart : (ds : List Decl) (s t : Sort) (n m : Name) → IsOuter s → IsOuter t → IsNumbered ds s n → IsNumbered ds t m → (s ≡ t → n ≡ m → ⊥)
    → AreApart (thing ds s n) (thing ds t m)
outer_apart ds HeaderType HeaderType n m o p d e differ = one_sort ds HeaderType n m d e (differ refl)
outer_apart ds HeaderType Object n m o p d e differ = types_objects ds n m d e
outer_apart ds HeaderType Table n m o p d e differ = types_tables ds n m d e
outer_apart ds HeaderType Action n m o p d e differ = types_actions ds n m d e
outer_apart ds Object HeaderType n m o p d e differ = turned (thing ds HeaderType m) (thing ds Object n) (types_objects ds m n e d)
outer_apart ds Object Object n m o p d e differ = one_sort ds Object n m d e (differ refl)
outer_apart ds Object Table n m o p d e differ = objects_tables ds n m d e
outer_apart ds Object Action n m o p d e differ = objects_actions ds n m d e
outer_apart ds Table HeaderType n m o p d e differ = turned (thing ds HeaderType m) (thing ds Table n) (types_tables ds m n e d)
outer_apart ds Table Object n m o p d e differ = turned (thing ds Object m) (thing ds Table n) (objects_tables ds m n e d)
outer_apart ds Table Table n m o p d e differ = one_sort ds Table n m d e (differ refl)
outer_apart ds Table Action n m o p d e differ = tables_actions ds n m d e
outer_apart ds Action HeaderType n m o p d e differ = turned (thing ds HeaderType m) (thing ds Action n) (types_actions ds m n e d)
outer_apart ds Action Object n m o p d e differ = turned (thing ds Object m) (thing ds Action n) (objects_actions ds m n e d)
outer_apart ds Action Table n m o p d e differ = turned (thing ds Table m) (thing ds Action n) (tables_actions ds m n e d)
outer_apart ds Action Action n m o p d e differ = one_sort ds Action n m d e (differ refl)
outer_apart ds Instance t n m o p d e differ = absurd o
outer_apart ds Parse t n m o p d e differ = absurd o
outer_apart ds AList t n m o p d e differ = absurd o
outer_apart ds Calculation t n m o p d e differ = absurd o
outer_apart ds s Instance n m o p d e differ = absurd p
outer_apart ds s Parse n m o p d e differ = absurd p
outer_apart ds s AList n m o p d e differ = absurd p
outer_apart ds s Calculation n m o p d e differ = absurd p

pub outer_differ : (ds : List Decl) (s t : Sort) (n m : Name) → IsOuter s → IsOuter t → IsNumbered ds s n → IsNumbered ds t m → (s ≡ t → n ≡ m → ⊥)
    → new_name ds s n ≢ new_name ds t m
outer_differ ds s t n m o p d e differ = apart_differ (thing ds s n) (thing ds t m) (proper ds s n d) (proper ds t m e) (outer_apart ds s t n m o p d e differ)

-- no new name of a sort but that of instances is one that the text has, or that is built in

pub outside_by : (x : Thing) → IsProper x → (x.stays ≡ true → has_name outer_words x.name ≡ false) → has_name outer_words (called x) ≡ false
outside_by x p outside = by x.stays refl
  where
    by : (b : Bool) → x.stays ≡ b → has_name outer_words (cond b x.name (made x.letter x.number x.name)) ≡ false
    by true e = outside e
    by false e = made_not_outside x.letter x.number x.name p.small

pub outer_outside : (ds : List Decl) (s : Sort) (n : Name) → IsOuter s → IsNumbered ds s n → has_name outer_words (new_name ds s n) ≡ false
outer_outside ds HeaderType n o d = outside_by (thing ds HeaderType n) (proper ds HeaderType n d) (λ e. (outside_parts n (not (is_declared_before ds HeaderType n)) e).outside)
outer_outside ds Object n o d = outside_by (thing ds Object n) (proper ds Object n d) (λ e. (outside_parts n (not (is_declared_before ds Object n)) e).outside)
outer_outside ds Table n o d = outside_by (thing ds Table n) (proper ds Table n d) (λ e. (outside_parts n (not (is_declared_before ds Table n)) e).outside)
outer_outside ds Action n o d = outside_by (thing ds Action n) (proper ds Action n d) (λ e. (outside_parts n (not (is_declared_before ds Action n)) e).outside)
outer_outside ds Instance n o d = absurd o
outer_outside ds Parse n o d = absurd o
outer_outside ds AList n o d = absurd o
outer_outside ds Calculation n o d = absurd o

pub state_outside : (ds : List Decl) (n : Name) → IsNumbered ds Parse n → has_name outer_words (new_name ds Parse n) ≡ false
state_outside ds n d = outside_by (thing ds Parse n) (proper ds Parse n d) (λ e. (outside_parts n (not (is_displaced ds n)) e).outside)

-- where a state of its own is called `start`, no other is

pub not_start : (ds : List Decl) (n : Name) → IsNumbered ds Parse n → list_any gives_initials ds ≡ true → new_name ds Parse n ≢ codes "start"
not_start ds n d begun = by (stays ds Parse n) refl
  where
    x : Thing
    x = thing ds Parse n

    start : (c : Bool) → bytes_eq n (codes "start") ≡ c → (c && list_any gives_initials ds) ≡ false → n ≢ codes "start"
    start true e none same = true≢false (sym (ap (λ (b : Bool). true && b) begun) ∙ none)
    start false e none same = true≢false (sym ((bytes_eq-Decides n (codes "start")).1 same) ∙ e)

    by : (b : Bool) → stays ds Parse n ≡ b → cond b n (made 115 (unwrap_or (number_of Parse ds n) 0) n) ≢ codes "start"
    by true e same = start (bytes_eq n (codes "start")) refl (not-true (is_displaced ds n) (outside_parts n (not (is_displaced ds n)) e).more) same
    by false e same = true≢false (sym (looks_made-made 115 (unwrap_or (number_of Parse ds n) 0) n (omega (arith, (proper ds Parse n d).small))) ∙ ap looks_made same)
