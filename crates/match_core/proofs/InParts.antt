-- Laws of maps in parts: what all parts have at a number is what its own part has.
use Rattle.std.proofs.Common.{◌≡◌, ◌≢◌, ℕ, zero, suc, ◌-◌, ◌%◌, ◌<◌, ◌≤◌, Bool, true, false, cond, ◌⊎◌, inl, inr, Option, Some, None, is_some, unwrap_or, Result, Ok, Err, OnOk, List, [], ◌∷◌, ◌++◌, length, get_or, set, refl, sym, ◌∙◌, ap, subst, arith}
use Rattle.std.specs.Prelude.{bit_and}
use Rattle.std.specs.Ordering.{nat_cmp, is_eq}
use Rattle.std.proofs.Math.Nat.{min-le_right}
use Rattle.std.proofs.lemmas.Bool.{cases_eq}
use Rattle.std.proofs.lemmas.List.{get_or-set_other, length-set, get_or_default}
use Rattle.std.proofs.lemmas.Grind.{get_or-set_at}
use Rattle.std.proofs.lemmas.Map.Lookups.{exact_unsigned}
use Rattle.match_core.specs.internal.Maps.{stored, part_number, joined, AreParts, IsPut}
use Rattle.match_core.proofs.Indexes.{equal_of}

none_is : (o : Option ℕ) → (is_some o ≡ true → ⊥) → o ≡ None
none_is None never = refl
none_is (Some n) never = absurd (never refl)

-- lists behind each other: the first that has a number tells
behind_by : (b : Bool) (n : ℕ) (before after rest : Option ℕ) → cond b (Some n) before ≡ None → (before ≡ None → after ≡ rest) → cond b (Some n) after ≡ rest
behind_by true n before after rest none same = cc
behind_by false n before after rest none same = same none

behind : (part rest : List (ℕ × ℕ)) (number : ℕ) → stored nat_cmp part number ≡ None → stored nat_cmp (part ++ rest) number ≡ stored nat_cmp rest number
behind [] rest number none = refl
behind (e ∷ part) rest number none =
    behind_by (is_eq (nat_cmp number e.0)) e.1 (stored nat_cmp part number) (stored nat_cmp (part ++ rest) number) (stored nat_cmp rest number) none (behind part rest number)

front : (part rest : List (ℕ × ℕ)) (number : ℕ) → stored nat_cmp rest number ≡ None → stored nat_cmp (part ++ rest) number ≡ stored nat_cmp part number
front [] rest number none = none
front (e ∷ part) rest number none = ap (λ (o : Option ℕ). cond (is_eq (nat_cmp number e.0)) (Some e.1) o) (front part rest number none)

none_joined : (parts : List (List (ℕ × ℕ))) (number : ℕ) → ((place : ℕ) → stored nat_cmp (get_or parts place []) number ≡ None) → stored nat_cmp (joined parts) number ≡ None
none_joined [] number none = refl
none_joined (part ∷ parts) number none = behind part (joined parts) number (none 0) ∙ none_joined parts number (λ place. none (suc place))

joined_at : (parts : List (List (ℕ × ℕ))) (number at : ℕ) → at < length parts → ((place : ℕ) → place ≢ at → stored nat_cmp (get_or parts place []) number ≡ None) → stored nat_cmp (joined parts) number ≡ stored nat_cmp (get_or parts at []) number
joined_at [] number at lt none = absurd (omega arith)
joined_at (part ∷ parts) number zero lt none = front part (joined parts) number (none_joined parts number (λ place. none (suc place) (λ same. omega arith)))
joined_at (part ∷ parts) number (suc at) lt none =
    behind part (joined parts) number (none 0 (λ same. omega arith))
    ∙ joined_at parts number at (omega arith) (λ place apart. none (suc place) (λ same. apart (omega arith)))

pub part_within : (count number : ℕ) → 1 ≤ count → part_number count number < count
part_within count number some = let le = min-le_right (bit_and (number % 8192) (count - 1)) (count - 1) in omega arith

pub found : (parts : List (List (ℕ × ℕ))) → AreParts parts → (number : ℕ) → stored nat_cmp (joined parts) number ≡ stored nat_cmp (get_or parts (part_number (length parts) number) []) number
found parts are number =
    joined_at parts number (part_number (length parts) number) (part_within (length parts) number are.some)
    (λ place apart. none_is (stored nat_cmp (get_or parts place []) number) (λ has. apart (are.own place number has)))

-- one part changes
same_of : (a b : ℕ) → is_eq (nat_cmp a b) ≡ true → a ≡ b
same_of a b is = exact_unsigned a b (equal_of (nat_cmp a b) is)

own_by : (b : Bool) (there : Option ℕ) (n : ℕ) (P : Type 0) → is_some (cond b (Some n) there) ≡ true → (b ≡ true → P) → (is_some there ≡ true → P) → P
own_by true there n P has equal apart = equal refl
own_by false there n P has equal apart = apart has

-- a part takes another's place, and has nothing at numbers that stand elsewhere
pub set_parts : (parts : List (List (ℕ × ℕ))) (at : ℕ) (part : List (ℕ × ℕ)) → AreParts parts → at < length parts → ((number : ℕ) → is_some (stored nat_cmp part number) ≡ true → at ≡ part_number (length parts) number) → AreParts (set parts at part)
set_parts parts at part are lt own = record {
  some = rw (length-set parts at part) are.some;
  own = λ place number has. rw (length-set parts at part) (elim (cases_eq place at) [
    | inl same ↦ same ∙ own number (rw (get_or-set_at parts at place part [] same lt) at has)
    | inr apart ↦ are.own place number (rw (get_or-set_other parts at place part [] apart) at has)
  ]);
}

-- a part that has the same numbers as before
pub keep_parts : (parts : List (List (ℕ × ℕ))) (at : ℕ) (part : List (ℕ × ℕ)) → AreParts parts → at < length parts → ((number : ℕ) → stored nat_cmp part number ≡ stored nat_cmp (get_or parts at []) number) → AreParts (set parts at part)
keep_parts parts at part are lt same = set_parts parts at part are lt (λ number has. are.own at number (rw (same number) at has))

other_by : (b : Bool) (some there : Option ℕ) → (b ≡ true → ⊥) → there ≡ cond b some there
other_by true some there apart = absurd (apart refl)
other_by false some there apart = refl

-- an entry is put into the part of its number
pub put_parts : (parts : List (List (ℕ × ℕ))) (at : ℕ) (part : List (ℕ × ℕ)) (number entry : ℕ) → AreParts parts → at ≡ part_number (length parts) number → IsPut nat_cmp (get_or parts at []) part number entry → AreParts (set parts at part)
put_parts parts at part number entry are at_is put =
    set_parts parts at part are (rw at_is (part_within (length parts) number are.some))
    (λ other has. own_by (is_eq (nat_cmp number other)) (stored nat_cmp (get_or parts at []) other) (unwrap_or (stored nat_cmp (get_or parts at []) number) entry) (at ≡ part_number (length parts) other)
    (rw (put other) at has)
    (λ is. at_is ∙ ap (λ (n : ℕ). part_number (length parts) n) (same_of number other is))
    (λ old. are.own at other old))

put_other : (parts : List (List (ℕ × ℕ))) (at : ℕ) (part : List (ℕ × ℕ)) (number entry other : ℕ) → AreParts parts → at ≡ part_number (length parts) number → IsPut nat_cmp (get_or parts at []) part number entry → at < length parts → part_number (length parts) other ≡ at ⊎ (part_number (length parts) other ≢ at) → stored nat_cmp (get_or (set parts at part) (part_number (length parts) other) []) other ≡ cond (is_eq (nat_cmp number other)) (Some (unwrap_or (stored nat_cmp (joined parts) number) entry)) (stored nat_cmp (joined parts) other)
put_other parts at part number entry other are at_is put lt (inl same) =
    let here : stored nat_cmp (joined parts) number ≡ stored nat_cmp (get_or parts at []) number = found parts are number ∙ ap (λ (p : ℕ). stored nat_cmp (get_or parts p []) number) (sym at_is) in
    let there : stored nat_cmp (joined parts) other ≡ stored nat_cmp (get_or parts at []) other = found parts are other ∙ ap (λ (p : ℕ). stored nat_cmp (get_or parts p []) other) same in
    ap (λ (p : List (ℕ × ℕ)). stored nat_cmp p other) (get_or-set_at parts at (part_number (length parts) other) part [] same lt)
    ∙ (put other ∙ rw (here, there) refl)
put_other parts at part number entry other are at_is put lt (inr apart) =
    ap (λ (p : List (ℕ × ℕ)). stored nat_cmp p other) (get_or-set_other parts at (part_number (length parts) other) part [] apart)
    ∙ (sym (found parts are other)
    ∙ other_by (is_eq (nat_cmp number other)) (Some (unwrap_or (stored nat_cmp (joined parts) number) entry)) (stored nat_cmp (joined parts) other)
    (λ is. apart (ap (λ (n : ℕ). part_number (length parts) n) (sym (same_of number other is)) ∙ sym at_is)))

pub put_joined : (parts : List (List (ℕ × ℕ))) (at : ℕ) (part : List (ℕ × ℕ)) (number entry : ℕ) → AreParts parts → at ≡ part_number (length parts) number → IsPut nat_cmp (get_or parts at []) part number entry → IsPut nat_cmp (joined parts) (joined (set parts at part)) number entry
put_joined parts at part number entry are at_is put other =
    let lt : at < length parts = rw at_is (part_within (length parts) number are.some) in
    found (set parts at part) (put_parts parts at part number entry are at_is put) other
    ∙ (ap (λ (n : ℕ). stored nat_cmp (get_or (set parts at part) (part_number n other) []) other) (length-set parts at part)
    ∙ put_other parts at part number entry other are at_is put lt (cases_eq (part_number (length parts) other) at))

-- parts without numbers
abbrev pub AreEmpty : List (List (ℕ × ℕ)) → Type 0
AreEmpty [] = Unit {0}
AreEmpty (part ∷ parts) = (part ≡ []) × AreEmpty parts

pub empty_more : (parts : List (List (ℕ × ℕ))) → AreEmpty parts → AreEmpty (parts ++ [] ∷ [])
empty_more [] empty = (refl, tt)
empty_more (part ∷ parts) empty = (empty.0, empty_more parts empty.1)

pub empty_joined : (parts : List (List (ℕ × ℕ))) → AreEmpty parts → joined parts ≡ []
empty_joined [] empty = refl
empty_joined (part ∷ parts) empty = rw (empty.0) (empty_joined parts empty.1)

empty_at : (parts : List (List (ℕ × ℕ))) (place : ℕ) → AreEmpty parts → get_or parts place [] ≡ []
empty_at [] place empty = refl
empty_at (part ∷ parts) zero empty = empty.0
empty_at (part ∷ parts) (suc place) empty = empty_at parts place empty.1

pub empty_parts : (parts : List (List (ℕ × ℕ))) → 1 ≤ length parts → AreEmpty parts → AreParts parts
empty_parts parts some empty = record {
  some = some;
  own = λ place number has. absurd (let never : is_some (stored nat_cmp [] number) ≡ true = subst (λ (part : List (ℕ × ℕ)). is_some (stored nat_cmp part number) ≡ true) (empty_at parts place empty) has in cc);
}

-- the part at the place of a number, however it was read
own_at : (parts : List (List (ℕ × ℕ))) (place : ℕ) (part : List (ℕ × ℕ)) (number : ℕ) → AreParts parts → place ≡ part_number (length parts) number → part ≡ get_or parts place part → part ≡ get_or parts place []
own_at parts place part number are place_is part_is = part_is ∙ get_or_default parts place part [] (rw place_is (part_within (length parts) number are.some))

pub own_place : (parts : List (List (ℕ × ℕ))) (place : ℕ) (part : List (ℕ × ℕ)) (number : ℕ) → AreParts parts → place ≡ part_number (length parts) number → part ≡ get_or parts place part → stored nat_cmp part number ≡ stored nat_cmp (joined parts) number
own_place parts place part number are place_is part_is =
    ap (λ (p : List (ℕ × ℕ)). stored nat_cmp p number) (own_at parts place part number are place_is part_is)
    ∙ (ap (λ (p : ℕ). stored nat_cmp (get_or parts p []) number) place_is
    ∙ sym (found parts are number))

-- what becomes of all parts when one is asked to take a number
pub record Puts (parts new : List (List (ℕ × ℕ))) (number entry : ℕ) : Type 0 where
  pub are : AreParts new
  pub put : IsPut nat_cmp (joined parts) (joined new) number entry

pub puts : (parts : List (List (ℕ × ℕ))) (place : ℕ) (part after : List (ℕ × ℕ)) (number entry : ℕ) → AreParts parts → place ≡ part_number (length parts) number → part ≡ get_or parts place part → IsPut nat_cmp part after number entry → Puts parts (set parts place after) number entry
puts parts place part after number entry are place_is part_is put =
    let here : IsPut nat_cmp (get_or parts place []) after number entry = subst (λ (p : List (ℕ × ℕ)). IsPut nat_cmp p after number entry) (own_at parts place part number are place_is part_is) put in
    record { are = put_parts parts place after number entry are place_is here; put = put_joined parts place after number entry are place_is here }

pub keeps : (parts : List (List (ℕ × ℕ))) (place : ℕ) (part after : List (ℕ × ℕ)) (number : ℕ) → AreParts parts → place ≡ part_number (length parts) number → part ≡ get_or parts place part → ((other : ℕ) → stored nat_cmp after other ≡ stored nat_cmp part other) → AreParts (set parts place after)
keeps parts place part after number are place_is part_is same =
    keep_parts parts place after are (rw place_is (part_within (length parts) number are.some))
    (λ other. same other ∙ ap (λ (p : List (ℕ × ℕ)). stored nat_cmp p other) (own_at parts place part number are place_is part_is))

pub on_ok : {T E : Type 0} {P Q : Type 0} (r : Result T E) → (P → Q) → OnOk r P → OnOk r Q
on_ok {T} {E} {P} {Q} (Ok x) more has = more has
on_ok {T} {E} {P} {Q} (Err e) more has = tt
