-- Laws of the new names (this project's own; P4_16 1.2, "Name resolution", "Lexical constructs"). `repeats16` is what
-- the rules of P4_16 ask of the names of a scope.
use Rattle.std.specs.Prelude.{◌≡◌, ◌≢◌, ℕ, ◌^◌, ◌<◌, ◌≤◌, true, false, List, [], ◌∷◌, ◌++◌, length, map, codes}
use Rattle.std.specs.List.{list_any}
use Rattle.p414_syntax.specs.SpeltLexemes.{is_identifier}
use Rattle.p414_syntax.specs.declared.syntax.Decl.{Decl}
use Rattle.p414_syntax.specs.declared.syntax.Sort.{Sort}
use Rattle.p414_syntax.specs.declared.syntax.Sort.TheVariants as sort
use Rattle.p414_syntax.specs.Names.{Name, has_name, names_in, repeats}
use Rattle.p414_syntax.specs.Twice.{declares_twice}
use Rattle.p416_syntax.specs.Names.{repeats as repeats16}
use Rattle.lower_laws_names.specs.Words.{outer_words}
use Rattle.lower_laws_names.specs.Made.{Thing, called}
use Rattle.lower_laws_names.specs.NewNames.{gives_initials, thing, things_of, new_name, numbered, field_thing, parameter_thing, variable_thing, second_thing}
use Rattle.lower_laws_names.specs.Reaches.{IsProper, IsWritable, BeginsAs, IsNumbered, Outer, outer_name, IsIn, AreTwo, AreIn, AreEachOnce}

-- Each new name is a name of P4_16 of at most 64 octets, no reserved word, and begins as the old one.
pub record NamesAreWritable : Type 0 where
  pub writable : (x : Thing) → IsProper x → is_identifier x.name ≡ true → IsWritable (called x)
  pub begins : (x : Thing) → BeginsAs (called x) x.name
  pub of_sorts : (ds : List Decl) (s : Sort) (n : Name) → IsNumbered ds s n → IsProper (thing ds s n)
  pub of_fields : (k : ℕ) (n : Name) → k < 2 ^ 32 → IsProper (field_thing k n)
  pub of_parameters : (ds : List Decl) (k : ℕ) (n : Name) → k < 2 ^ 32 → IsProper (parameter_thing ds k n)

-- Two things of the outer reach have two names; a list in which each stands once repeats no name.
pub record OuterNamesDiffer : Type 0 where
  pub two : (ds : List Decl) (x y : Outer) → IsIn ds x → IsIn ds y → AreTwo x y → outer_name ds x ≢ outer_name ds y
  pub once : (ds : List Decl) (xs : List Outer) → AreIn ds xs → AreEachOnce xs → repeats16 (map (outer_name ds) xs) ≡ false

-- Two names of one sort, that differ only in case, or only behind the 64th octet, say, have two new names; so the new names of
-- a program's sort don't repeat.
pub record SortsDiffer : Type 0 where
  pub two : (ds : List Decl) (s : Sort) (n m : Name) → IsNumbered ds s n → IsNumbered ds s m → n ≢ m → new_name ds s n ≢ new_name ds s m
  pub once : (ds : List Decl) (s : Sort) → length ds ≤ 2 ^ 32 → declares_twice ds ≡ false → repeats16 (map called (things_of ds s)) ≡ false
  pub declared : (ds : List Decl) (s : Sort) (n : Name) → length ds ≤ 2 ^ 32 → has_name (names_in s ds) n ≡ true → IsNumbered ds s n

-- the names of the parameters of a parser
abbrev pub parser_words : List Name
parser_words = codes "packet" ∷ codes "hdr" ∷ codes "meta" ∷ codes "sm" ∷ []

-- a state of the program has each of these names
abbrev pub AreStates : List Decl → List Name → Type 0
AreStates ds [] = Unit {0}
AreStates ds (n ∷ names) = IsNumbered ds sort.Parse n × AreStates ds names

-- A state has no name that the text has by itself, nor `start` where a state of the text has that. So
-- the names of a parser don't repeat: its parameters, and states in any order, each once.
pub record StatesDiffer : Type 0 where
  pub outside : (ds : List Decl) (n : Name) → IsNumbered ds sort.Parse n → has_name outer_words (new_name ds sort.Parse n) ≡ false
  pub once : (ds : List Decl) (names : List Name) → AreStates ds names → repeats names ≡ false → repeats16 (parser_words ++ map (new_name ds sort.Parse) names) ≡ false
  pub started_once : (ds : List Decl) (names : List Name) → AreStates ds names → repeats names ≡ false → list_any gives_initials ds ≡ true → repeats16 (codes "start" ∷ parser_words ++ map (new_name ds sort.Parse) names) ≡ false
  pub started : (ds : List Decl) (n : Name) → IsNumbered ds sort.Parse n → list_any gives_initials ds ≡ true → new_name ds sort.Parse n ≢ codes "start"

-- Fields of a type, and parameters of an action, that don't repeat in P4_14 don't either in P4_16; and a parameter has no name of
-- an object or of a variable, nor one that the text has by itself.
pub record MembersDiffer : Type 0 where
  pub fields : (names : List Name) → repeats names ≡ false → length names ≤ 2 ^ 32 → repeats16 (map called (numbered field_thing names)) ≡ false
  pub parameters : (ds : List Decl) (names : List Name) → repeats names ≡ false → length names ≤ 2 ^ 32 → repeats16 (map called (numbered (parameter_thing ds) names)) ≡ false
  pub objects : (ds : List Decl) (k : ℕ) (p n : Name) → k < 2 ^ 32 → IsNumbered ds sort.Object n → called (parameter_thing ds k p) ≢ new_name ds sort.Object n
  pub variables : (ds : List Decl) (k j : ℕ) (p : Name) → k < 2 ^ 32 → j < 2 ^ 32 → called (parameter_thing ds k p) ≢ called (variable_thing j)
  pub seconds : (ds : List Decl) (k j : ℕ) (p : Name) → k < 2 ^ 32 → j < 2 ^ 32 → called (parameter_thing ds k p) ≢ called (second_thing j)
  pub outside : (ds : List Decl) (k : ℕ) (p : Name) → k < 2 ^ 32 → has_name outer_words (called (parameter_thing ds k p)) ≡ false

-- The variables of an action differ, and hide nothing that its body names.
pub record VariablesDiffer : Type 0 where
  pub variables : (j k : ℕ) → j < 2 ^ 32 → k < 2 ^ 32 → j ≢ k → called (variable_thing j) ≢ called (variable_thing k)
  pub seconds : (j k : ℕ) → j < 2 ^ 32 → k < 2 ^ 32 → j ≢ k → called (second_thing j) ≢ called (second_thing k)
  pub both : (j k : ℕ) → j < 2 ^ 32 → k < 2 ^ 32 → called (variable_thing j) ≢ called (second_thing k)
  pub objects : (ds : List Decl) (j : ℕ) (n : Name) → j < 2 ^ 32 → IsNumbered ds sort.Object n → new_name ds sort.Object n ≢ called (variable_thing j)
  pub second_objects : (ds : List Decl) (j : ℕ) (n : Name) → j < 2 ^ 32 → IsNumbered ds sort.Object n → new_name ds sort.Object n ≢ called (second_thing j)
  pub outside : (j : ℕ) → j < 2 ^ 32 → has_name outer_words (called (variable_thing j)) ≡ false
  pub second_outside : (j : ℕ) → j < 2 ^ 32 → has_name outer_words (called (second_thing j)) ≡ false
