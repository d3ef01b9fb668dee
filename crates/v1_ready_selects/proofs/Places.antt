-- Parts of a case, by the places of their keys.
use Rattle.std.proofs.Common.{◌≡◌, ℕ, zero, suc, ◌+◌, ◌<◌, ◌&&◌, Bool, true, List, [], ◌∷◌, length, map, drop, get_or, slice_get, Option, Some, None, drop-cons, add-one, refl, sym, ap, ◌∙◌, arith}
use Rattle.p416_syntax.specs.declared.parsers.Simple.{Simple}
use Rattle.p416_syntax.specs.Kinds as rule
use Rattle.p416_names.specs.declared.kind.Kind.{Kind}
use Rattle.p416_names.specs.SeenKinds.{seen_kind}
use Rattle.v1_core.specs.Values.{Value}
use Rattle.v1_core.specs.declared.scalar.Scalar.{Scalar}
use Rattle.v1_core.specs.Scalars.{seen_scalar}
use Rattle.v1_ready_selects.specs.declared.rows.KeyTest.{KeyTest}
use Rattle.v1_ready_selects.specs.declared.rows.KeyTest.TheVariants as key_test
use Rattle.v1_ready_selects.specs.Selects.{takes, takes_each}
use Rattle.v1_ready_selects.specs.Seen.{seen_scalars}
use Rattle.v1_ready_selects.specs.Rows.{test_of_part, tests_of_parts}
use Rattle.v1_ready_selects.specs.internal.Places.{test_at, tests_from, takes_at, takes_from}

-- tests of parts

pub kind_there : (keys : List Kind) (place : ℕ) (k : Kind) (part : Simple) → slice_get keys place ≡ Some k → test_of_part (seen_kind k) part ≡ test_at (map seen_kind keys) place part
kind_there [] place k part is = absurd (cc is)
kind_there (x ∷ keys) zero k part is = sym (ap (λ (o : Option Kind). told o) is) where
  told : Option Kind → KeyTest
  told None = key_test.Never
  told (Some y) = test_of_part (seen_kind y) part
kind_there (x ∷ keys) (suc place) k part is = kind_there keys place k part is

pub kind_past : (keys : List Kind) (place : ℕ) (part : Simple) → slice_get keys place ≡ None → key_test.Never ≡ test_at (map seen_kind keys) place part
kind_past [] place part is = refl
kind_past (x ∷ keys) zero part is = absurd (cc is)
kind_past (x ∷ keys) (suc place) part is = kind_past keys place part is

past : (place : ℕ) (parts : List Simple) → tests_from [] place parts ≡ tests_of_parts [] parts
past place [] = refl
past place (part ∷ parts) = ap (λ (tests : List KeyTest). key_test.Never ∷ tests) (past (place + 1) parts)

one_less : (k : rule.Kind) (kinds : List rule.Kind) (place : ℕ) (parts : List Simple) → tests_from (k ∷ kinds) (suc place) parts ≡ tests_from kinds place parts
one_less k kinds place [] = refl
one_less k kinds place (part ∷ parts) =
    let next : suc place + 1 ≡ suc (place + 1) = omega arith in
    ap (λ (tests : List KeyTest). test_at kinds place part ∷ tests)
    (ap (λ (n : ℕ). tests_from (k ∷ kinds) n parts) next ∙ one_less k kinds (place + 1) parts)

pub from_first : (kinds : List rule.Kind) (parts : List Simple) → tests_from kinds 0 parts ≡ tests_of_parts kinds parts
from_first [] parts = past 0 parts
from_first (k ∷ kinds) [] = refl
from_first (k ∷ kinds) (part ∷ parts) =
    let next : 0 + 1 ≡ suc 0 = omega arith in
    ap (λ (tests : List KeyTest). test_of_part k part ∷ tests)
    (ap (λ (n : ℕ). tests_from (k ∷ kinds) n parts) next ∙ (one_less k kinds 0 parts ∙ from_first kinds parts))

-- keys

pub key_there : (keys : List Scalar) (place : ℕ) (k : Scalar) (t : KeyTest) → slice_get keys place ≡ Some k → takes t (seen_scalar k) ≡ takes_at (seen_scalars keys) place t
key_there [] place k t is = absurd (cc is)
key_there (x ∷ keys) zero k t is = sym (ap (λ (o : Option Scalar). told o) is) where
  told : Option Scalar → Bool
  told None = true
  told (Some y) = takes t (seen_scalar y)
key_there (x ∷ keys) (suc place) k t is = key_there keys place k t is

pub key_past : (keys : List Scalar) (place : ℕ) (t : KeyTest) → slice_get keys place ≡ None → true ≡ takes_at (seen_scalars keys) place t
key_past [] place t is = refl
key_past (x ∷ keys) zero t is = absurd (cc is)
key_past (x ∷ keys) (suc place) t is = key_past keys place t is

none_left : (place : ℕ) (tests : List KeyTest) → takes_from [] place tests ≡ true
none_left place [] = refl
none_left place (t ∷ tests) = none_left (place + 1) tests

key_less : (v : Value) (values : List Value) (place : ℕ) (tests : List KeyTest) → takes_from (v ∷ values) (suc place) tests ≡ takes_from values place tests
key_less v values place [] = refl
key_less v values place (t ∷ tests) =
    let next : suc place + 1 ≡ suc (place + 1) = omega arith in
    ap (λ (b : Bool). takes_at values place t && b)
    (ap (λ (n : ℕ). takes_from (v ∷ values) n tests) next ∙ key_less v values (place + 1) tests)

pub from_first_key : (values : List Value) (tests : List KeyTest) → takes_from values 0 tests ≡ takes_each tests values
from_first_key [] [] = refl
from_first_key [] (t ∷ tests) = none_left (0 + 1) tests
from_first_key (v ∷ values) [] = refl
from_first_key (v ∷ values) (t ∷ tests) =
    let next : 0 + 1 ≡ suc 0 = omega arith in
    ap (λ (b : Bool). takes t v && b)
    (ap (λ (n : ℕ). takes_from (v ∷ values) n tests) next ∙ (key_less v values 0 tests ∙ from_first_key values tests))

next_tests : (tests : List KeyTest) (i : ℕ) (d : KeyTest) → i < length tests → drop i tests ≡ get_or tests i d ∷ drop (i + 1) tests
next_tests tests i d lt = rw (add-one, drop-cons tests i d lt) refl

-- one key more is taken
pub taken_on : (values : List Value) (tests : List KeyTest) (i place : ℕ) (d : KeyTest) (taken due : Bool) → i < length tests → taken ≡ true → taken ≡ takes_at values place (get_or tests i d) → takes_from values place (drop i tests) ≡ due → takes_from values (place + 1) (drop (i + 1) tests) ≡ due
taken_on values tests i place d taken due lt on is so =
    ap (λ (b : Bool). b && takes_from values (place + 1) (drop (i + 1) tests)) (sym on ∙ is)
    ∙ ap (takes_from values place) (sym (next_tests tests i d lt))
    ∙ so
