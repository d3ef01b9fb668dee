-- The calls of an unbroken line fit.
use Rattle.std.proofs.Common.{◌≡◌, ℕ, ◌+◌, ◌<◌, ◌≤◌, ◌^◌, Bool, true, false, not, cond, ltb, leb, List, [], ◌∷◌, length, map, take, refl, subst, arith, Option, Some, None, is_none, unwrap_or, Ok}
use Rattle.std.specs.Option.{option_map_or, option_and_then}
use Rattle.std.specs.List.{AllZip, list_any, cons_option, slice_get}
use Rattle.std.proofs.lemmas.Bool.{or_parts}
use Rattle.std.proofs.lemmas.Bool.Decides.{nat_tests}
use Rattle.match_core.specs.declared.signatures.KeySpec.{KeySpec}
use Rattle.match_core.specs.declared.signatures.Signature.{Signature}
use Rattle.match_core.specs.Matching.{by_priority}
use Rattle.match_core.specs.Fits.{FitsCall}
use Rattle.entries_file.specs.declared.calls.Call.{Call}
use Rattle.entries_file.specs.Numbers.{number_of, up_to, number_up_to, fits}
use Rattle.entries_file.specs.Filling.{table_at}
use Rattle.entries_file.specs.Rules.{is_wide_argument, has_wide_argument, is_no_number, has_wrong_arguments, arguments_of, priority_of, lacks_priority, place_of, table_name, action_name, listed_call, table_call, call_of, widths_of}
use Rattle.entries_file.proofs.NameLaws.{place_within}
use Rattle.entries_file.proofs.FitKeys.{fits_is}

one : (a : Bool) → not a ≡ false → a ≡ true
one true is = refl
one false is = absurd (cc)

one_argument : (width : ℕ) (o : Option ℕ) (widths arguments : List ℕ) → is_none o ≡ false → option_map_or (λ number. not (fits width number)) o false ≡ false → AllZip (λ w v. v < 2 ^ w) widths arguments → AllZip (λ w v. v < 2 ^ w) (width ∷ widths) (cons_option o arguments)
one_argument width None widths arguments some narrow rest = absurd (cc)
one_argument width (Some n) widths arguments some narrow rest = (fits_is width n (one _ narrow), rest)

-- the arguments of enough words
pub arguments_fit : (widths : List ℕ) (words : List (List ℕ)) → length widths ≤ length words → list_any is_no_number (take (length widths) words) ≡ false → has_wide_argument widths words ≡ false → AllZip (λ w v. v < 2 ^ w) widths (arguments_of widths words)
arguments_fit [] words enough numbers narrow = tt
arguments_fit (width ∷ widths) [] enough numbers narrow = absurd (omega arith)
arguments_fit (width ∷ widths) (word ∷ words) enough numbers narrow =
    let here = or_parts (is_no_number word) (list_any is_no_number (take (length widths) words)) numbers in
    let wide = or_parts (is_wide_argument width word) (has_wide_argument widths words) narrow in
    one_argument width (number_of word) widths (arguments_of widths words) here.0 wide.0 (arguments_fit widths words (omega arith) here.1 wide.1)

not_fewer : (a b : ℕ) → ltb a b ≡ false → b ≤ a
not_fewer a b is = grind (arith, nat_tests)

pub right_arguments : (widths : List ℕ) (others : ℕ) (words : List (List ℕ)) → has_wide_argument widths words ≡ false → has_wrong_arguments widths others words ≡ false → AllZip (λ w v. v < 2 ^ w) widths (arguments_of widths words)
right_arguments widths others words narrow right =
    let few = or_parts (ltb (length words) (length widths)) _ right in
    let rest = or_parts (ltb (length widths + others) (length words)) (list_any is_no_number (take (length widths) words)) few.1 in
    arguments_fit widths words (not_fewer (length words) (length widths) few.0) rest.1 narrow

-- the call that a line names
pub record Called (g : Signature) (call : Call) : Type 0 where
  pub table : call.table < length g.tables
  pub action : call.action < length (table_at g call.table).actions

listed : (g : Signature) (name : List ℕ) (table : ℕ) (o : Option ℕ) (call : Call) → table < length g.tables → o ≡ place_of (map action_name (table_at g table).actions) name → listed_call table o ≡ Ok call → Called g call
listed g name table None call within place is = absurd (cc)
listed g name table (Some action) call within place is =
    let same : (let made : Call = record { table = table; action = action } in made) ≡ call = cc in
    subst (λ (c : Call). Called g c) same (record { table = within; action = place_within action_name (table_at g table).actions name (Some action) place })

called_by : (g : Signature) (table action : List ℕ) (o : Option ℕ) (call : Call) → o ≡ place_of (map table_name g.tables) table → table_call g action o ≡ Ok call → Called g call
called_by g table action None call place is = absurd (cc)
called_by g table action (Some t) call place is =
    listed g action t (place_of (map action_name (table_at g t).actions) action) call (place_within table_name g.tables table (Some t) place) refl is

pub called : (g : Signature) (table action : List ℕ) (call : Call) → call_of g table action ≡ Ok call → Called g call
called g table action call is = called_by g table action (place_of (map table_name g.tables) table) call refl is

-- a call with right arguments fits
pub call_fits : (g : Signature) (call : Call) (others : ℕ) (words : List (List ℕ)) → Called g call → has_wide_argument (widths_of g call) words ≡ false → has_wrong_arguments (widths_of g call) others words ≡ false
    → FitsCall (table_at g call.table) call.action (arguments_of (widths_of g call) words)
call_fits g call others words is narrow right = record { listed = is.action; widths = right_arguments (widths_of g call) others words narrow right }

-- a number that is at most a limit
at_most_by : (limit n : ℕ) (b : Bool) → leb n limit ≡ b → is_none (cond b (Some n) (let none : Option ℕ = None in none)) ≡ false → unwrap_or (cond b (Some n) None) 0 ≤ limit
at_most_by limit n true test some = grind (arith, nat_tests)
at_most_by limit n false test some = absurd (cc)

pub at_most : (limit : ℕ) (o : Option ℕ) → is_none (up_to limit o) ≡ false → unwrap_or (up_to limit o) 0 ≤ limit
at_most limit None some = absurd (cc)
at_most limit (Some n) some = at_most_by limit n (leb n limit) refl some

word_priority : (o : Option (List ℕ)) → is_none (option_and_then (number_up_to 2147483647) o) ≡ false → unwrap_or (option_and_then (number_up_to 2147483647) o) 0 ≤ 2147483647
word_priority None some = absurd (cc)
word_priority (Some word) some = at_most 2147483647 (number_of word) some

priority_by : (b : Bool) (o : Option (List ℕ)) → is_none (cond b (option_and_then (number_up_to 2147483647) o) (Some 0)) ≡ false → unwrap_or (cond b (option_and_then (number_up_to 2147483647) o) (Some 0)) 0 ≤ 2147483647
priority_by true o some = word_priority o some
priority_by false o some = omega arith

none_by : (b : Bool) (o : Option ℕ) → b ≡ false → unwrap_or (cond b o (Some 0)) 0 ≡ 0
none_by true o is = absurd (cc)
none_by false o is = refl

-- no priority is 0
pub no_priority : (specs : List KeySpec) (n : ℕ) (words : List (List ℕ)) → by_priority specs ≡ false → unwrap_or (priority_of specs n words) 0 ≡ 0
no_priority specs n words is = none_by (by_priority specs) (option_and_then (number_up_to 2147483647) (slice_get words n)) is

pub priority_fits : (specs : List KeySpec) (n : ℕ) (words : List (List ℕ)) → lacks_priority (priority_of specs n words) ≡ false → unwrap_or (priority_of specs n words) 0 < 2 ^ 31
priority_fits specs n words some =
    let most : unwrap_or (priority_of specs n words) 0 ≤ 2147483647 = priority_by (by_priority specs) (slice_get words n) some in
    omega arith
