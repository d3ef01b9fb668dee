-- What holds of the new names: which are fit, and which differ (this project's own; P4_16 1.2, "Name resolution",
-- "Lexical constructs").
use Rattle.std.specs.Prelude.{◌≡◌, ◌≢◌, ℕ, ◌^◌, ◌<◌, ◌≤◌, true, false, List, [], ◌∷◌, ◌++◌, length, take, Some}
use Rattle.token_division.specs.Octets.{is_decimal, is_word}
use Rattle.p416_syntax.specs.SpeltLexemes.{is_identifier16}
use Rattle.p416_syntax.specs.Keywords.{is_reserved16}
use Rattle.p414_syntax.specs.declared.syntax.Decl.{Decl}
use Rattle.p414_syntax.specs.declared.syntax.Sort.{Sort}
use Rattle.p414_syntax.specs.declared.syntax.Sort.TheVariants as sort
use Rattle.p414_syntax.specs.Names.{Name, has_name, number_of}
use Rattle.lower_laws_names.specs.Words.{words, outer_words}
use Rattle.lower_laws_names.specs.Made.{Thing, called, looks_made}
use Rattle.lower_laws_names.specs.NewNames.{new_name, struct_thing, copy_thing}

-- one thing

-- A thing whose letter is a letter and whose number is small, and whose name, where it stays, is short, no reserved word
-- and doesn't look made.
pub record IsProper (x : Thing) : Type 0 where
  pub letter : is_decimal x.letter ≡ false
  pub word : is_word x.letter ≡ true
  pub small : x.number < 2 ^ 32
  pub short : x.stays ≡ true → length x.name ≤ 64
  pub plain : x.stays ≡ true → looks_made x.name ≡ false
  pub unreserved : x.stays ≡ true → has_name words x.name ≡ false

-- a name that can be written: a token of P4_16, and no word of it
pub record IsWritable (name : Name) : Type 0 where
  pub short : length name ≤ 64
  pub spelt : is_identifier16 name ≡ true
  pub unreserved : is_reserved16 name ≡ false
  pub new : has_name words name ≡ false

-- a name begins as another does, up to 48 octets
abbrev pub BeginsAs : Name → Name → Type 0
BeginsAs name other = (rest : Name) × (name ≡ take 48 other ++ rest)

-- two things

-- they differ by their letter or their number, and by their names where both stay
pub record AreApart (x y : Thing) : Type 0 where
  pub tag : (x.letter ≡ y.letter) × (x.number ≡ y.number) → ⊥
  pub names : x.stays ≡ true → y.stays ≡ true → x.name ≢ y.name

-- names of sorts

-- a sort has the name, under a small number
pub record IsNumbered (ds : List Decl) (s : Sort) (name : Name) : Type 0 where
  pub number : ℕ
  pub found : number_of s ds name ≡ Some number
  pub small : number < 2 ^ 32

-- the sorts of the outer reach: header types, objects, tables and actions
abbrev pub IsOuter : Sort → Type 0
IsOuter sort.HeaderType = Unit {0}
IsOuter sort.Object = Unit {0}
IsOuter sort.Table = Unit {0}
IsOuter sort.Action = Unit {0}
IsOuter _ = ⊥

-- lists of things

-- each thing of a list is proper
abbrev pub AreProper : List Thing → Type 0
AreProper [] = Unit {0}
AreProper (x ∷ xs) = IsProper x × AreProper xs

-- a thing differs from each of a list
abbrev pub IsApartFrom : Thing → List Thing → Type 0
IsApartFrom x [] = Unit {0}
IsApartFrom x (y ∷ ys) = AreApart x y × IsApartFrom x ys

-- any two things of a list differ
abbrev pub AreAllApart : List Thing → Type 0
AreAllApart [] = Unit {0}
AreAllApart (x ∷ xs) = IsApartFrom x xs × AreAllApart xs

-- The reach of header types, objects, tables and actions, in which the structs of metadata, the copies of actions, and the
-- names that the text has by itself stand too.

-- a thing of the outer reach
pub data Outer : Type 0 where
  declared : (s : Sort) (name : Name) → Outer
  struct : (number : ℕ) (type : Name) → Outer
  copy : (number : ℕ) (action : Name) → Outer
  fixed : (name : Name) → Outer

-- the new name of a thing of the outer reach
abbrev pub outer_name : List Decl → Outer → Name
outer_name ds (declared s name) = new_name ds s name
outer_name ds (struct number type) = called (struct_thing number type)
outer_name ds (copy number action) = called (copy_thing number action)
outer_name ds (fixed name) = name

-- a thing of the outer reach that the program has, under a small number
abbrev pub IsIn : List Decl → Outer → Type 0
IsIn ds (declared s name) = IsOuter s × IsNumbered ds s name
IsIn ds (struct number type) = number < 2 ^ 32
IsIn ds (copy number action) = number < 2 ^ 32
IsIn ds (fixed name) = has_name outer_words name ≡ true

-- two things of the reach are two: by their sort, by their name in the sort, or by their number
abbrev pub AreTwo : Outer → Outer → Type 0
AreTwo (declared s n) (declared t m) = s ≡ t → n ≡ m → ⊥
AreTwo (struct j a) (struct k b) = j ≢ k
AreTwo (copy j a) (copy k b) = j ≢ k
AreTwo (fixed n) (fixed m) = n ≢ m
AreTwo _ _ = Unit {0}

-- the program has each of these things
abbrev pub AreIn : List Decl → List Outer → Type 0
AreIn ds [] = Unit {0}
AreIn ds (x ∷ xs) = IsIn ds x × AreIn ds xs

-- a thing is none of a list
abbrev pub IsNoneOf : Outer → List Outer → Type 0
IsNoneOf x [] = Unit {0}
IsNoneOf x (y ∷ ys) = AreTwo x y × IsNoneOf x ys

-- each thing of a list stands there once
abbrev pub AreEachOnce : List Outer → Type 0
AreEachOnce [] = Unit {0}
AreEachOnce (x ∷ xs) = IsNoneOf x xs × AreEachOnce xs
