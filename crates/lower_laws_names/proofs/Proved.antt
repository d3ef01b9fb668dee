-- The laws of the new names.
use Rattle.std.proofs.Common.{◌≡◌, ◌≢◌, ℕ, ◌<◌, ◌^◌, true, false, not, List, [], ◌∷◌, ◌++◌, map, refl, sym, ap, ◌∙◌, arith}
use Rattle.std.specs.List.{list_any}
use Rattle.std.specs.Str.{bytes_eq}
use Rattle.std.proofs.lemmas.Slice.Eq.{bytes_eq-Decides}
use Rattle.std.specs.Prelude.{codes, is_some, unwrap_or}
use Rattle.std.proofs.lemmas.Bool.{not-true, true≢false}
use Rattle.p414_syntax.specs.declared.syntax.Decl.{Decl}
use Rattle.p414_syntax.specs.declared.syntax.Sort.{Sort}
use Rattle.p414_syntax.specs.declared.syntax.Sort.TheVariants.{HeaderType, Table, Action, Object, Instance, Parse, List as AList, Calculation}
use Rattle.p414_syntax.specs.Names.{Name, has_name, repeats_behind, repeats, is_declared, number_of}
use Rattle.p416_syntax.specs.Names.{repeats as repeats16}
use Rattle.lower_laws_names.specs.Words.{outer_words}
use Rattle.lower_laws_names.specs.Made.{Thing, called}
use Rattle.lower_laws_names.specs.NewNames.{variable_thing, second_thing, gives_initials, new_name, letter_of, parameter_letter, struct_letter, copy_letter, variable_letter, second_letter, made_thing, thing, parameter_thing}
use Rattle.lower_laws_names.specs.Reaches.{IsProper, AreApart, IsOuter, IsNumbered, Outer, declared, struct, copy, fixed, outer_name, IsIn, AreTwo, AreIn, IsNoneOf, AreEachOnce}
use Rattle.lower_laws_names.specs.NameLaws.{parser_words, AreStates, NamesAreWritable, OuterNamesDiffer, SortsDiffer, StatesDiffer, MembersDiffer, VariablesDiffer}
use Rattle.lower_laws_names.proofs.Things.{writable, begins, apart_differ, made_not_outside}
use Rattle.lower_laws_names.proofs.Sorts.{outside_parts, proper, sort_differs, turned, outer_apart, outer_outside, outside_by, state_outside, not_start}
use Rattle.lower_laws_names.proofs.Lists.{not_again, itself, or_parts, unequal, field_proper, parameter_proper, fields_once, parameters_once}
use Rattle.lower_laws_names.proofs.OneSort.{is_numbered, sort_names_once}

pub names_are_writable : NamesAreWritable
names_are_writable = record {
  writable = writable;
  begins = begins;
  of_sorts = proper;
  of_fields = field_proper;
  of_parameters = parameter_proper;
}

-- the outer reach

struct_proper : (k : ℕ) (n : Name) → k < 2 ^ 32 → IsProper (made_thing struct_letter k n)
struct_proper k n small =
    record { letter = refl; word = refl; small = small; short = λ e. cc; plain = λ e. cc; unreserved = λ e. cc }

copy_proper : (k : ℕ) (n : Name) → k < 2 ^ 32 → IsProper (made_thing copy_letter k n)
copy_proper k n small =
    record { letter = refl; word = refl; small = small; short = λ e. cc; plain = λ e. cc; unreserved = λ e. cc }

variable_proper : (k : ℕ) (n : Name) → k < 2 ^ 32 → IsProper (made_thing variable_letter k n)
variable_proper k n small =
    record { letter = refl; word = refl; small = small; short = λ e. cc; plain = λ e. cc; unreserved = λ e. cc }

second_proper : (k : ℕ) (n : Name) → k < 2 ^ 32 → IsProper (made_thing second_letter k n)
second_proper k n small =
    record { letter = refl; word = refl; small = small; short = λ e. cc; plain = λ e. cc; unreserved = λ e. cc }

-- a made thing is apart from one of another letter
other_letter : (x : Thing) (a k : ℕ) (n : Name) → x.letter ≢ a → AreApart x (made_thing a k n)
other_letter x a k n differ = record {
  tag = λ (both : (x.letter ≡ a) × (x.number ≡ k)). differ both.0;
  names = λ p q. cc;
}

other_number : (a j k : ℕ) (n m : Name) → j ≢ k → AreApart (made_thing a j n) (made_thing a k m)
other_number a j k n m differ = record {
  tag = λ (both : (a ≡ a) × (j ≡ k)). differ both.1;
  names = λ p q. cc;
}

no_struct : (s : Sort) → IsOuter s → letter_of s ≢ struct_letter
no_struct HeaderType o e = omega arith
no_struct Object o e = omega arith
no_struct Table o e = omega arith
no_struct Action o e = omega arith
no_struct Instance o e = absurd o
no_struct Parse o e = absurd o
no_struct AList o e = absurd o
no_struct Calculation o e = absurd o

no_copy : (s : Sort) → IsOuter s → letter_of s ≢ copy_letter
no_copy HeaderType o e = omega arith
no_copy Object o e = omega arith
no_copy Table o e = omega arith
no_copy Action o e = omega arith
no_copy Instance o e = absurd o
no_copy Parse o e = absurd o
no_copy AList o e = absurd o
no_copy Calculation o e = absurd o

struct_no_copy : (struct_letter ≡ copy_letter) → ⊥
struct_no_copy e = omega arith

module _ (ds : List Decl) where
  -- what isn't fixed is a thing
  abbrev thing_of : Outer → Thing
  thing_of (declared s n) = thing ds s n
  thing_of (struct k n) = made_thing struct_letter k n
  thing_of (copy k n) = made_thing copy_letter k n
  thing_of (fixed n) = made_thing copy_letter 0 n

  abbrev IsThing : Outer → Type 0
  IsThing (fixed n) = ⊥
  IsThing x = Unit {0}

  proper_in : (x : Outer) → IsThing x → IsIn ds x → IsProper (thing_of x)
  proper_in (declared s n) i p = proper ds s n p.1
  proper_in (struct k n) i p = struct_proper k n p
  proper_in (copy k n) i p = copy_proper k n p
  proper_in (fixed n) i p = absurd i

  apart_in : (x y : Outer) → IsThing x → IsThing y → IsIn ds x → IsIn ds y → AreTwo x y → AreApart (thing_of x) (thing_of y)
  apart_in (declared s n) (declared t m) i j p q two = outer_apart ds s t n m p.0 q.0 p.1 q.1 two
  apart_in (declared s n) (struct k m) i j p q two = other_letter (thing ds s n) struct_letter k m (no_struct s p.0)
  apart_in (declared s n) (copy k m) i j p q two = other_letter (thing ds s n) copy_letter k m (no_copy s p.0)
  apart_in (struct h n) (declared t m) i j p q two = turned (thing ds t m) (made_thing struct_letter h n) (other_letter (thing ds t m) struct_letter h n (no_struct t q.0))
  apart_in (struct h n) (struct k m) i j p q two = other_number struct_letter h k n m two
  apart_in (struct h n) (copy k m) i j p q two = other_letter (made_thing struct_letter h n) copy_letter k m struct_no_copy
  apart_in (copy h n) (declared t m) i j p q two = turned (thing ds t m) (made_thing copy_letter h n) (other_letter (thing ds t m) copy_letter h n (no_copy t q.0))
  apart_in (copy h n) (struct k m) i j p q two = other_letter (made_thing copy_letter h n) struct_letter k m (λ e. struct_no_copy (sym e))
  apart_in (copy h n) (copy k m) i j p q two = other_number copy_letter h k n m two
  apart_in (fixed n) y i j p q two = absurd i
  apart_in x (fixed n) i j p q two = absurd j

  things_differ : (x y : Outer) → IsThing x → IsThing y → IsIn ds x → IsIn ds y → AreTwo x y → called (thing_of x) ≢ called (thing_of y)
  things_differ x y i j p q two = apart_differ (thing_of x) (thing_of y) (proper_in x i p) (proper_in y j q) (apart_in x y i j p q two)

  outside_in : (x : Outer) → IsThing x → IsIn ds x → has_name outer_words (called (thing_of x)) ≡ false
  outside_in (declared s n) i p = outer_outside ds s n p.0 p.1
  outside_in (struct k n) i p = made_not_outside struct_letter k n p
  outside_in (copy k n) i p = made_not_outside copy_letter k n p
  outside_in (fixed n) i p = absurd i

  no_fixed : (x : Outer) (m : Name) → IsThing x → IsIn ds x → has_name outer_words m ≡ true → called (thing_of x) ≢ m
  no_fixed x m i p q same = true≢false (sym q ∙ (ap (has_name outer_words) (sym same) ∙ outside_in x i p))

  two_differ : (x y : Outer) → IsIn ds x → IsIn ds y → AreTwo x y → outer_name ds x ≢ outer_name ds y
  two_differ (declared s n) (declared t m) p q two = things_differ (declared s n) (declared t m) tt tt p q two
  two_differ (declared s n) (struct k m) p q two = things_differ (declared s n) (struct k m) tt tt p q two
  two_differ (declared s n) (copy k m) p q two = things_differ (declared s n) (copy k m) tt tt p q two
  two_differ (declared s n) (fixed m) p q two = no_fixed (declared s n) m tt p q
  two_differ (struct h n) (declared t m) p q two = things_differ (struct h n) (declared t m) tt tt p q two
  two_differ (struct h n) (struct k m) p q two = things_differ (struct h n) (struct k m) tt tt p q two
  two_differ (struct h n) (copy k m) p q two = things_differ (struct h n) (copy k m) tt tt p q two
  two_differ (struct h n) (fixed m) p q two = no_fixed (struct h n) m tt p q
  two_differ (copy h n) (declared t m) p q two = things_differ (copy h n) (declared t m) tt tt p q two
  two_differ (copy h n) (struct k m) p q two = things_differ (copy h n) (struct k m) tt tt p q two
  two_differ (copy h n) (copy k m) p q two = things_differ (copy h n) (copy k m) tt tt p q two
  two_differ (copy h n) (fixed m) p q two = no_fixed (copy h n) m tt p q
  two_differ (fixed n) (declared t m) p q two = λ same. no_fixed (declared t m) n tt q p (sym same)
  two_differ (fixed n) (struct k m) p q two = λ same. no_fixed (struct k m) n tt q p (sym same)
  two_differ (fixed n) (copy k m) p q two = λ same. no_fixed (copy k m) n tt q p (sym same)
  two_differ (fixed n) (fixed m) p q two = two

  none_of : (x : Outer) (ys : List Outer) → IsIn ds x → AreIn ds ys → IsNoneOf x ys → has_name (map (outer_name ds) ys) (outer_name ds x) ≡ false
  none_of x [] p ps two = refl
  none_of x (y ∷ ys) p ps two =
      rw (unequal (outer_name ds x) (outer_name ds y) (two_differ x y p ps.0 two.0), none_of x ys p ps.1 two.1) refl

  all_once : (xs : List Outer) → AreIn ds xs → AreEachOnce xs → repeats16 (map (outer_name ds) xs) ≡ false
  all_once [] p two = refl
  all_once (x ∷ xs) p two = rw (none_of x xs p.0 p.1 two.0, all_once xs p.1 two.1) refl

pub outer_names_differ : OuterNamesDiffer
outer_names_differ = record { two = two_differ; once = all_once }

pub sorts_differ : SortsDiffer
sorts_differ = record { two = sort_differs; once = sort_names_once; declared = is_numbered }

module _ (ds : List Decl) where
  no_other_state : (n : Name) (names : List Name) → IsNumbered ds Parse n → AreStates ds names → has_name names n ≡ false → has_name (map (new_name ds Parse) names) (new_name ds Parse n) ≡ false
  no_other_state n [] d es e = refl
  no_other_state n (m ∷ names) d es e =
      let both = or_parts (bytes_eq n m) (has_name names n) e in
      let differ : n ≢ m = λ same. true≢false (sym ((bytes_eq-Decides n m).1 same) ∙ both.0) in
      rw (unequal (new_name ds Parse n) (new_name ds Parse m) (sort_differs ds Parse n m d es.0 differ), no_other_state n names d es.1 both.1) refl

  states_behind : (before names : List Name) → AreStates ds names → repeats_behind before names ≡ false → repeats16 (map (new_name ds Parse) names) ≡ false
  states_behind before [] es e = refl
  states_behind before (n ∷ names) es e =
      let both = or_parts (has_name before n) (repeats_behind (before ++ n ∷ []) names) e in
      rw (no_other_state n names es.0 es.1 (not_again (before ++ n ∷ []) names n (itself before n) both.1), states_behind (before ++ n ∷ []) names es.1 both.1) refl

  no_word_state : (w : Name) (names : List Name) → ((n : Name) → IsNumbered ds Parse n → new_name ds Parse n ≢ w) → AreStates ds names → has_name (map (new_name ds Parse) names) w ≡ false
  no_word_state w [] other es = refl
  no_word_state w (n ∷ names) other es =
      rw (unequal w (new_name ds Parse n) (λ same. other n es.0 (sym same)), no_word_state w names other es.1) refl

  other_word : (w : Name) → has_name outer_words w ≡ true → (n : Name) → IsNumbered ds Parse n → new_name ds Parse n ≢ w
  other_word w has n d same = true≢false (sym has ∙ (ap (has_name outer_words) (sym same) ∙ state_outside ds n d))

  words_once : (names : List Name) → AreStates ds names → repeats names ≡ false → repeats16 (parser_words ++ map (new_name ds Parse) names) ≡ false
  words_once names es e =
      rw (no_word_state (codes "packet") names (other_word (codes "packet") refl) es, no_word_state (codes "hdr") names (other_word (codes "hdr") refl) es, no_word_state (codes "meta") names (other_word (codes "meta") refl) es, no_word_state (codes "sm") names (other_word (codes "sm") refl) es, states_behind [] names es e) refl

  begun_once : (names : List Name) → AreStates ds names → repeats names ≡ false → list_any gives_initials ds ≡ true → repeats16 (codes "start" ∷ parser_words ++ map (new_name ds Parse) names) ≡ false
  begun_once names es e begun =
      rw (no_word_state (codes "start") names (λ n d. not_start ds n d begun) es, words_once names es e) refl

pub states_differ : StatesDiffer
states_differ = record { outside = state_outside; once = words_once; started_once = begun_once; started = not_start }

-- parameters

no_object : (ds : List Decl) (k : ℕ) (p n : Name) → IsNumbered ds Object n → AreApart (parameter_thing ds k p) (thing ds Object n)
no_object ds k p n d = record {
  tag = λ (both : (parameter_letter ≡ letter_of Object) × (k ≡ unwrap_or (number_of Object ds n) 0)). omega arith;
  names = λ e f same. true≢false (sym (ap is_some d.found) ∙ (ap (is_declared Object ds) (sym same) ∙ not-true (is_declared Object ds p) (outside_parts p (not (is_declared Object ds p)) e).more));
}

differs_from : (ds : List Decl) (k a j : ℕ) (p n : Name) → k < 2 ^ 32 → parameter_letter ≢ a → IsProper (made_thing a j n) → called (parameter_thing ds k p) ≢ called (made_thing a j n)
differs_from ds k a j p n small differ proper_other =
    apart_differ (parameter_thing ds k p) (made_thing a j n) (parameter_proper ds k p small) proper_other (other_letter (parameter_thing ds k p) a j n differ)

no_variable : (parameter_letter ≡ variable_letter) → ⊥
no_variable e = omega arith

no_second : (parameter_letter ≡ second_letter) → ⊥
no_second e = omega arith

pub members_differ : MembersDiffer
members_differ = record {
  fields = fields_once;
  parameters = parameters_once;
  objects = λ ds k p n small d. apart_differ (parameter_thing ds k p) (thing ds Object n) (parameter_proper ds k p small) (proper ds Object n d) (no_object ds k p n d);
  variables = λ ds k j p small few. differs_from ds k variable_letter j p (codes "got") small no_variable (variable_proper j (codes "got") few);
  seconds = λ ds k j p small few. differs_from ds k second_letter j p (codes "cut") small no_second (second_proper j (codes "cut") few);
  outside = λ ds k p small. outside_by (parameter_thing ds k p) (parameter_proper ds k p small) (λ e. (outside_parts p (not (is_declared Object ds p)) e).outside);
}

-- variables

no_variable_letter : (letter_of Object ≡ variable_letter) → ⊥
no_variable_letter e = omega arith

no_second_letter : (letter_of Object ≡ second_letter) → ⊥
no_second_letter e = omega arith

two_letters : (variable_letter ≡ second_letter) → ⊥
two_letters e = omega arith

pub variables_differ : VariablesDiffer
variables_differ = record {
  variables = λ j k small few differ. apart_differ (variable_thing j) (variable_thing k) (variable_proper j (codes "got") small) (variable_proper k (codes "got") few) (other_number variable_letter j k (codes "got") (codes "got") differ);
  seconds = λ j k small few differ. apart_differ (second_thing j) (second_thing k) (second_proper j (codes "cut") small) (second_proper k (codes "cut") few) (other_number second_letter j k (codes "cut") (codes "cut") differ);
  both = λ j k small few. apart_differ (variable_thing j) (second_thing k) (variable_proper j (codes "got") small) (second_proper k (codes "cut") few) (other_letter (variable_thing j) second_letter k (codes "cut") two_letters);
  objects = λ ds j n small d. apart_differ (thing ds Object n) (variable_thing j) (proper ds Object n d) (variable_proper j (codes "got") small) (other_letter (thing ds Object n) variable_letter j (codes "got") no_variable_letter);
  second_objects = λ ds j n small d. apart_differ (thing ds Object n) (second_thing j) (proper ds Object n d) (second_proper j (codes "cut") small) (other_letter (thing ds Object n) second_letter j (codes "cut") no_second_letter);
  outside = λ j small. made_not_outside variable_letter j (codes "got") small;
  second_outside = λ j small. made_not_outside second_letter j (codes "cut") small;
}
