-- What an accepted text says fits.
use Rattle.std.proofs.Common.{◌≡◌, ℕ, ◌+◌, ◌<◌, Bool, true, false, not, cond, nat_eq, leb, List, [], ◌∷◌, length, refl, subst, arith, Option, Some, None, is_none, unwrap_or, Result, Ok, Err}
use Rattle.std.specs.Prelude.{◌||◌}
use Rattle.std.specs.Option.{option_map_or}
use Rattle.std.specs.List.{list_any, filter_map}
use Rattle.std.specs.Str.Lines.{lines}
use Rattle.std.proofs.lemmas.Bool.{or_parts}
use Rattle.std.proofs.lemmas.Bool.Decides.{nat_tests}
use Rattle.p4x_fault.specs.declared.Fault.{Fault}
use Rattle.state_store.specs.declared.ports.Session.{Session}
use Rattle.state_store.specs.Ports.{greatest_port, greatest_session}
use Rattle.match_core.specs.declared.signatures.KeySpec.{KeySpec}
use Rattle.match_core.specs.declared.signatures.Signature.{Signature}
use Rattle.match_core.specs.declared.entries.Entries.{Entries}
use Rattle.match_core.specs.Fits.{Fits}
use Rattle.entries_file.specs.declared.calls.Call.{Call}
use Rattle.text_lines.specs.Words.{words_of, is_comment}
use Rattle.entries_file.specs.Numbers.{number_of, up_to, number_up_to}
use Rattle.entries_file.specs.Forms.{Form, AddEntry, SetDefault, AddSession, AddColours, form_of}
use Rattle.entries_file.specs.Filling.{nothing, table_at, fill_at, with_entry, with_default, with_session, with_colours}
use Rattle.entries_file.specs.Rules.{Tests, least_broken, entry_tests, default_tests, session_tests, colours_tests, has_wrong_keys, has_misformed, has_wide_key, has_wide_argument, has_wrong_arguments, priority_words, stands_twice, priority_of, lacks_priority, is_full, is_no_colour, has_session, is_wrong_session, arguments_of, entry_of, widths_of, meter_of, call_of}
use Rattle.entries_file.specs.Reading.{Judgement, judged, judged_by, judge_call, judge_entry, judge_default, judge_session, judge_colours, judge_form, judge_words, judge_line, read_on, read_lines, entries_of}
use Rattle.entries_file.proofs.FitKeys.{keys_fit}
use Rattle.entries_file.proofs.FitCalls.{Called, called, call_fits, priority_fits, no_priority, at_most}
use Rattle.entries_file.proofs.FitEntries.{nothing_fits, entry_fits, default_fits, session_fits, meter_is, colours_fit}

-- the first rule isn't broken, and none of the others is
unbroken_by : (rule : ℕ) (b : Bool) (rest : Option ℕ) → cond b (Some rule) rest ≡ None → (b ≡ false) × (rest ≡ None)
unbroken_by rule true rest is = absurd (cc)
unbroken_by rule false rest is = (refl, is)

-- what was read then
accepted_by : (o : Option ℕ) (after next : Entries) → judged o after ≡ Ok next → (o ≡ None) × (after ≡ next)
accepted_by None after next is = (refl, cc)
accepted_by (Some rule) after next is = absurd (cc)

accepted : (tests : Tests) (after next : Entries) → judged_by tests after ≡ Ok next → (least_broken tests ≡ None) × (after ≡ next)
accepted tests after next is = accepted_by (least_broken tests) after next is

right_count_by : (b : Bool) → not b ≡ false → b ≡ true
right_count_by true is = refl
right_count_by false is = absurd (cc)

equal : (a b : ℕ) → nat_eq a b ≡ true → a ≡ b
equal a b is = grind (arith, nat_tests)

right_count : (specs : List KeySpec) (words : List (List ℕ)) → has_wrong_keys specs words ≡ false → length words ≡ length specs
right_count specs words right =
    let parts = or_parts (nat_eq (length specs) 0) (not (nat_eq (length words) (length specs))) right in
    equal (length words) (length specs) (right_count_by _ parts.1)

-- a table without keys has no entries
some_keys : (specs : List KeySpec) (words : List (List ℕ)) → has_wrong_keys specs words ≡ false → 0 < length specs
some_keys [] words right = absurd (cc)
some_keys (spec ∷ specs) words right = omega arith

-- no rule of an entry is broken
record Passes (count formed narrow fitting right new ranked open_ : Bool) : Type 0 where
  right_count : count ≡ false
  is_formed : formed ≡ false
  is_narrow : narrow ≡ false
  is_fitting : fitting ≡ false
  is_right : right ≡ false
  is_ranked : ranked ≡ false
  is_open : open_ ≡ false

passes : (count formed narrow fitting right new ranked open_ : Bool) → least_broken ((4, count) ∷ (5, formed) ∷ (6, narrow) ∷ (6, fitting) ∷ (7, right) ∷ (8, new) ∷ (9, ranked) ∷ (12, open_) ∷ []) ≡ None → Passes count formed narrow fitting right new ranked open_
passes count formed narrow fitting right new ranked open_ is =
    let first = unbroken_by 4 count _ is in
    let second = unbroken_by 5 formed _ first.1 in
    let third = unbroken_by 6 narrow _ second.1 in
    let fourth = unbroken_by 6 fitting _ third.1 in
    let fifth = unbroken_by 7 right _ fourth.1 in
    let sixth = unbroken_by 8 new _ fifth.1 in
    let seventh = unbroken_by 9 ranked _ sixth.1 in
    let last = unbroken_by 12 open_ None seventh.1 in
    record { right_count = first.0; is_formed = second.0; is_narrow = third.0; is_fitting = fourth.0; is_right = fifth.0; is_ranked = seventh.0; is_open = last.0 }

two_pass : (first second : ℕ) (a b : Bool) → least_broken ((first, a) ∷ (second, b) ∷ []) ≡ None → (a ≡ false) × (b ≡ false)
two_pass first second a b is =
    let head = unbroken_by first a (cond b (Some second) None) is in
    let last = unbroken_by second b None head.1 in
    (head.0, last.0)

entry_line_fits : (g : Signature) (read next : Entries) (keys behind : List (List ℕ)) (call : Call) → Fits read g → Called g call → judge_entry g read keys behind call ≡ Ok next → Fits next g
entry_line_fits g read next keys behind call fits named is =
    let table = table_at g call.table in
    let widths = widths_of g call in
    let whole = accepted (entry_tests table widths (fill_at read call.table) keys behind) (with_entry read call.table (entry_of table.keys widths call.action keys behind)) next is in
    let pass = passes (has_wrong_keys table.keys keys) (has_misformed table.keys keys) (has_wide_key table.keys keys) (has_wide_argument widths behind) (has_wrong_arguments widths (priority_words table.keys) behind)
    (stands_twice table.keys (fill_at read call.table) keys (priority_of table.keys (length widths) behind)) (lacks_priority (priority_of table.keys (length widths) behind)) (is_full table (fill_at read call.table)) whole.0 in
    subst (λ (e : Entries). Fits e g) whole.1
    (entry_fits g read call.table (entry_of table.keys widths call.action keys behind) fits named.table pass.is_open (some_keys table.keys keys pass.right_count)
    (record {
      keys = keys_fit table.keys keys (right_count table.keys keys pass.right_count) pass.is_formed pass.is_narrow;
      priority = priority_fits table.keys (length widths) behind pass.is_ranked;
      no_priority = no_priority table.keys (length widths) behind;
      call = call_fits g call (priority_words table.keys) behind named pass.is_fitting pass.is_right;
    }))

default_line_fits : (g : Signature) (read next : Entries) (words : List (List ℕ)) (call : Call) → Fits read g → Called g call → judge_default g read words call ≡ Ok next → Fits next g
default_line_fits g read next words call fits named is =
    let widths = widths_of g call in
    let whole = accepted (default_tests widths words) (with_default read call.table (record { action = call.action; arguments = arguments_of widths words })) next is in
    let pass = two_pass 6 7 (has_wide_argument widths words) (has_wrong_arguments widths 0 words) whole.0 in
    subst (λ (e : Entries). Fits e g) whole.1
    (default_fits g read call.table (record { action = call.action; arguments = arguments_of widths words }) fits named.table (call_fits g call 0 words named pass.0 pass.1))

session_by : (sessions : List Session) (n : ℕ) (b rest : Bool) → (option_map_or (has_session sessions) (cond b (Some n) None) true || rest) ≡ false → (has_session sessions (unwrap_or (cond b (Some n) None) 0) ≡ false) × (is_none (cond b (Some n) (let none : Option ℕ = None in none)) ≡ false)
session_by sessions n true rest is = ((or_parts (has_session sessions n) rest is).0, refl)
session_by sessions n false rest is = absurd (cc)

-- the session that a line gives
session_given : (sessions : List Session) (o : Option ℕ) (rest : Bool) → (option_map_or (has_session sessions) (up_to greatest_session o) true || rest) ≡ false → (has_session sessions (unwrap_or (up_to greatest_session o) 0) ≡ false) × (is_none (up_to greatest_session o) ≡ false)
session_given sessions None rest is = absurd (cc)
session_given sessions (Some n) rest is = session_by sessions n (leb n greatest_session) rest is

session_line_fits : (g : Signature) (read next : Entries) (session port : List ℕ) → Fits read g → judge_session read session port ≡ Ok next → Fits next g
session_line_fits g read next session port fits is =
    let whole = accepted (session_tests read.sessions session port) (with_session read (record { number = unwrap_or (number_up_to greatest_session session) 0; port = unwrap_or (number_up_to greatest_port port) 0 })) next is in
    let pass = unbroken_by 10 (is_wrong_session read.sessions session port) None whole.0 in
    let given = session_given read.sessions (number_of session) (is_none (number_up_to greatest_port port)) pass.0 in
    let parts = or_parts (option_map_or (has_session read.sessions) (number_up_to greatest_session session) true) (is_none (number_up_to greatest_port port)) pass.0 in
    subst (λ (e : Entries). Fits e g) whole.1
    (session_fits g read (record { number = unwrap_or (number_up_to greatest_session session) 0; port = unwrap_or (number_up_to greatest_port port) 0 }) fits given.0
    (record { number = at_most greatest_session (number_of session) given.1; port = at_most greatest_port (number_of port) parts.1 }))

meter_given : (g : Signature) (read next : Entries) (word : List ℕ) (words : List (List ℕ)) (o : Option ℕ) → Fits read g → meter_of g word ≡ o → is_none o ≡ false → with_colours read (unwrap_or o 0) (filter_map (number_up_to 2) words) ≡ next → Fits next g
meter_given g read next word words None fits found some is = absurd (cc)
meter_given g read next word words (Some meter) fits found some is =
    let object = meter_is g word meter found in
    subst (λ (e : Entries). Fits e g) is (colours_fit g read meter words fits object.0 object.1)

colours_line_fits : (g : Signature) (read next : Entries) (meter : List ℕ) (words : List (List ℕ)) → Fits read g → judge_colours g read meter words ≡ Ok next → Fits next g
colours_line_fits g read next meter words fits is =
    let whole = accepted (colours_tests (meter_of g meter) words) (with_colours read (unwrap_or (meter_of g meter) 0) (filter_map (number_up_to 2) words)) next is in
    let pass = two_pass 11 11 (is_none (meter_of g meter)) (list_any is_no_colour words) whole.0 in
    meter_given g read next meter words (meter_of g meter) fits refl pass.0 whole.1

call_line_fits : (g : Signature) (next : Entries) (table action : List ℕ) (r : Result Call ℕ) (judge : Call → Judgement) → call_of g table action ≡ r → ((call : Call) → Called g call → judge call ≡ Ok next → Fits next g) → judge_call r judge ≡ Ok next → Fits next g
call_line_fits g next table action (Ok call) judge found each is = each call (called g table action call found) is
call_line_fits g next table action (Err rule) judge found each is = absurd (cc)

form_fits : (g : Signature) (read next : Entries) (form : Option Form) → Fits read g → judge_form g read form ≡ Ok next → Fits next g
form_fits g read next None fits is = absurd (cc)
form_fits g read next (Some (AddEntry table action keys behind)) fits is =
    call_line_fits g next table action (call_of g table action) (judge_entry g read keys behind) refl (λ call named judged_is. entry_line_fits g read next keys behind call fits named judged_is) is
form_fits g read next (Some (SetDefault table action words)) fits is =
    call_line_fits g next table action (call_of g table action) (judge_default g read words) refl (λ call named judged_is. default_line_fits g read next words call fits named judged_is) is
form_fits g read next (Some (AddSession session port)) fits is = session_line_fits g read next session port fits is
form_fits g read next (Some (AddColours meter words)) fits is = colours_line_fits g read next meter words fits is

kept_fits : (g : Signature) (read next : Entries) → Fits read g → (let same : Judgement = Ok read in same) ≡ Ok next → Fits next g
kept_fits g read next fits is =
    let same : read ≡ next = cc in
    subst (λ (e : Entries). Fits e g) same fits

remark_fits : (g : Signature) (read next : Entries) (b : Bool) (form : Option Form) → Fits read g → cond b (Ok read) (judge_form g read form) ≡ Ok next → Fits next g
remark_fits g read next true form fits is = kept_fits g read next fits is
remark_fits g read next false form fits is = form_fits g read next form fits is

words_fit : (g : Signature) (read next : Entries) (words : List (List ℕ)) → Fits read g → judge_words g read words ≡ Ok next → Fits next g
words_fit g read next [] fits is = kept_fits g read next fits is
words_fit g read next (first ∷ words) fits is = remark_fits g read next (is_comment first) (form_of first words) fits is

line_fits : (g : Signature) (read next : Entries) (line : List ℕ) → Fits read g → judge_line g read line ≡ Ok next → Fits next g
unfolding judge_line
line_fits g read next line fits is = words_fit g read next (words_of line) fits is

next_fits : (g : Signature) (read last : Entries) (line : ℕ) (one : List ℕ) (judgement : Judgement) (rest : Entries → Result Entries Fault) → judge_line g read one ≡ judgement → Fits read g → ((next : Entries) → Fits next g → rest next ≡ Ok last → Fits last g) → read_on line judgement rest ≡ Ok last → Fits last g
next_fits g read last line one (Ok next) rest judged_is fits each is = each next (line_fits g read next one fits judged_is) is
next_fits g read last line one (Err rule) rest judged_is fits each is = absurd (cc)

lines_fit : (g : Signature) (read last : Entries) (line : ℕ) (all : List (List ℕ)) → Fits read g → read_lines g read line all ≡ Ok last → Fits last g
lines_fit g read last line [] fits is =
    let same : read ≡ last = cc in
    subst (λ (e : Entries). Fits e g) same fits
lines_fit g read last line (one ∷ all) fits is =
    next_fits g read last line one (judge_line g read one) (λ next. read_lines g next (line + 1) all) refl fits (λ next next_is read_is. lines_fit g next last (line + 1) all next_is read_is) is

-- the entries of a text fit
pub text_fits : (g : Signature) (text : List ℕ) (entries : Entries) → entries_of text g ≡ Ok entries → Fits entries g
text_fits g text entries is = lines_fit g (nothing g) entries 1 (lines text) (nothing_fits g) is
