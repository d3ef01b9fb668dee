-- What names in calls mean, and the deeds of calls, where the numbers of tables are those of the block.
use Rattle.std.proofs.Common.{◌≡◌, ℕ, suc, ◌+◌, ◌<◌, Bool, true, false, not, ◌||◌, cond, nat_lt, Option, Some, None, unwrap_or, List, [], ◌∷◌, length, map, slice_get, refl, sym, ap, ◌∙◌, arith}
use Rattle.std.proofs.Math.Path.{fun_ext}
use Rattle.std.specs.Prelude.{position, option_map, option_and_then, filter_map}
use Rattle.std.specs.List.{position_or_len}
use Rattle.std.specs.Str.{bytes_eq}
use Rattle.std.proofs.lemmas.Bool.{lt-ltb, ltb-true}
use Rattle.name_numbers.specs.Names.{find_name}
use Rattle.p416_syntax.specs.declared.controls.Table16.{Table16}
use Rattle.p416_syntax.specs.declared.program.Decl16.{Decl16}
use Rattle.p416_syntax.specs.Tree.{Exp16, literal, truth, error, name, member, index, slice, call, lookahead, cast, unary, binary, choice, parenthesized, no_arguments, argument, listed}
use Rattle.p416_names.proofs.Found.{bytes_either}
use Rattle.p416_syntax.specs.Names.{Name}
use Rattle.p416_syntax.specs.Kinds.{Kind, bits, unsized, boolean, error_code, header, stack, struct, packet_in, packet_out, errors, enumeration, one_of, table, applied, object, items, nothing, unknown, is_header}
use Rattle.p416_syntax.specs.Scopes.{Scope}
use Rattle.p416_syntax.specs.Calls.{Place, owner}
use Rattle.p416_syntax.specs.Expressions.{kind_of}
use Rattle.p416_syntax.specs.Declarations.{table_in}
use Rattle.v1_core.specs.Expressions.{name_in}
use Rattle.v1_core.specs.Signatures.{own_object, top_object, object_names, place_among, plane_among, or_at_top}
use Rattle.v1_core.specs.Ready.{Ready}
use Rattle.v1_ready_forms.specs.Named.{NamedSeat}
use Rattle.v1_ready_forms.specs.Ways.{Way, its_value, its_validity}
use Rattle.v1_ready_forms.specs.Expressions.{asked_ready, method_ready}
use Rattle.v1_ready_blocks.specs.Tests.{Test, plain}
use Rattle.v1_ready_blocks.specs.Statements.{let_go, does}
use Rattle.p416_signature.specs.internal.Gathered.{objects_seen, plane_in}
use Rattle.v1_ready_statements.specs.Tested.{is_application, applies, by_application, method_test, asked_test, ready_test}
use Rattle.v1_ready_statements.specs.Around.{ActionPlace, Found, found_from, action_found, number_of_table, table_found, object_found}
use Rattle.v1_ready_statements.specs.Blocks.{number_in}
use Rattle.v1_ready_statements.specs.Called.{hashes, verified, updated, clones}
use Rattle.v1_ready_operands.specs.Functions.{hash_by, verify_by, update_by, clone_by}
use Rattle.v1_ready_operands.specs.Objects.{count_by, read_by, write_by, meter_by}
use Rattle.v1_ready_operands.proofs.CallingFunctions.{hash_in, verify_in, update_in, clone_in}
use Rattle.v1_ready_operands.specs.declared.callees.Callees.{Callees}
use Rattle.v1_ready_operands.specs.Callees.{seen_action, around_of, action_name, table_name, AreCallees}
use Rattle.v1_ready_operands.specs.internal.Passes.{found_with, found_by, IsHeaderOf, IsMemberOf, IsCallOf, count_deed, read_deed, write_deed, meter_deed, valid_deed, let_go_ready}

-- the place of a name among names

same_order : (a b c d : ℕ) → ((a < b) → c < d) → ((c < d) → a < b) → nat_lt a b ≡ nat_lt c d
same_order a b c d f g = by_value (nat_lt a b) refl where
  by_value : (t : Bool) → nat_lt a b ≡ t → nat_lt a b ≡ nat_lt c d
  by_value true e = e ∙ sym (lt-ltb _ _ (f (ltb-true _ _ e)))
  by_value false e = e ∙ by_other (nat_lt c d) refl where
    by_other : (u : Bool) → nat_lt c d ≡ u → false ≡ nat_lt c d
    by_other true h = absurd (cc (e, lt-ltb _ _ (g (ltb-true _ _ h))))
    by_other false h = sym h

suc_of : (b : Bool) (n : ℕ) → cond b (Some (suc n)) None ≡ option_map suc (cond b (Some n) None)
suc_of true n = refl
suc_of false n = refl

position_past : {X : Type 0} (p : X → Bool) (x : X) (xs : List X) → p x ≡ false → position p (x ∷ xs) ≡ option_map suc (position p xs)
position_past p x xs e =
    let n : position_or_len p (x ∷ xs) ≡ suc (position_or_len p xs) = ap (λ b. cond (not b) (1 + position_or_len p xs) 0) e ∙ more (position_or_len p xs) in
    ap (λ k. cond (nat_lt k (suc (length xs))) (Some k) None) n
    ∙ (ap (λ b. cond b (Some (suc (position_or_len p xs))) None) (same_order (suc (position_or_len p xs)) (suc (length xs)) (position_or_len p xs) (length xs) (λ h. omega arith) (λ h. omega arith))
    ∙ suc_of (nat_lt (position_or_len p xs) (length xs)) (position_or_len p xs))
  where
    more : (m : ℕ) → 1 + m ≡ suc m
    more m = omega arith

position_here : {X : Type 0} (p : X → Bool) (x : X) (xs : List X) → p x ≡ true → position p (x ∷ xs) ≡ Some 0
position_here p x xs e =
    let n : position_or_len p (x ∷ xs) ≡ 0 = ap (λ b. cond (not b) (1 + position_or_len p xs) 0) e in
    ap (λ k. cond (nat_lt k (suc (length xs))) (Some k) None) n
    ∙ ap (λ b. cond b (Some 0) None) (lt-ltb 0 (suc (length xs)) (omega arith))

find_step : (x : Name) (names : List Name) (text : Name) → find_name (x ∷ names) text ≡ cond (bytes_eq x text) (Some 0) (option_map suc (find_name names text))
find_step x names text = by (bytes_eq x text) (bytes_either text x) where
  by : (b : Bool) → bytes_eq text x ≡ b → find_name (x ∷ names) text ≡ cond b (Some 0) (option_map suc (find_name names text))
  by true is = position_here (bytes_eq text) x names is
  by false is = position_past (bytes_eq text) x names is

-- tables

table_step : (n : ℕ) (b : Bool) (r rest : Option ℕ) → rest ≡ option_map (λ i. suc n + i) r → cond b (Some n) rest ≡ option_map (λ i. n + i) (cond b (Some 0) (option_map suc r))
table_step n true r rest is = let same : n ≡ n + 0 = omega arith in ap Some same
table_step n false None rest is = is
table_step n false (Some i) rest is = let same : suc n + i ≡ n + suc i = omega arith in is ∙ ap Some same

tables_from : (n : ℕ) (ts : List Table16) (text : Name) → number_of_table n ts text ≡ option_map (λ i. n + i) (find_name (map table_name ts) text)
tables_from n [] text = refl
tables_from n (t ∷ ts) text =
    table_step n (bytes_eq t.name text) (find_name (map table_name ts) text) (number_of_table (suc n) ts text) (tables_from (suc n) ts text)
    ∙ sym (ap (option_map (λ i. n + i)) (find_step t.name (map table_name ts) text))

from_none : (o : Option ℕ) → option_map (λ i. 0 + i) o ≡ o
from_none None = refl
from_none (Some i) = let same : 0 + i ≡ i = omega arith in ap Some same

pub tables_found : (c : Callees) → AreCallees c → find_name c.tables.now ≡ table_found (around_of c)
tables_found c are =
    fun_ext (λ text. ap (λ (names : List Name). find_name names text) are.tables
    ∙ sym (tables_from 0 (filter_map table_in c.locals.now) text ∙ from_none (find_name (map table_name (filter_map table_in c.locals.now)) text)))

-- actions

action_step : (n : ℕ) (a : ActionPlace) (actions : List ActionPlace) (b : Bool) (r : Option ℕ) (rest : Option Found) → rest ≡ option_and_then (λ i. option_map (found_with (suc n + i)) (slice_get actions i)) r
    → cond b (Some (found_with n a)) rest ≡ option_and_then (λ i. option_map (found_with (n + i)) (slice_get (a ∷ actions) i)) (cond b (Some 0) (option_map suc r))
action_step n a actions true r rest is = let same : n ≡ n + 0 = omega arith in ap (λ k. Some (found_with k a)) same
action_step n a actions false None rest is = is
action_step n a actions false (Some i) rest is = let same : suc n + i ≡ n + suc i = omega arith in is ∙ ap (λ k. option_map (found_with k) (slice_get actions i)) same

actions_from : (n : ℕ) (actions : List ActionPlace) (text : Name) → found_from n actions text ≡ option_and_then (λ i. option_map (found_with (n + i)) (slice_get actions i)) (find_name (map action_name actions) text)
actions_from n [] text = refl
actions_from n (a ∷ actions) text =
    action_step n a actions (bytes_eq a.of.name text) (find_name (map action_name actions) text) (found_from (suc n) actions text) (actions_from (suc n) actions text)
    ∙ sym (ap (option_and_then (λ i. option_map (found_with (n + i)) (slice_get (a ∷ actions) i))) (find_step a.of.name (map action_name actions) text))

at_first : (actions : List ActionPlace) (o : Option ℕ) → option_and_then (λ i. option_map (found_with (0 + i)) (slice_get actions i)) o ≡ found_by actions o
at_first actions None = refl
at_first actions (Some i) = let same : 0 + i ≡ i = omega arith in ap (λ k. option_map (found_with k) (slice_get actions i)) same

pub action_is : (c : Callees) → AreCallees c → (text : Name) → found_by (map seen_action c.actions.now) (find_name c.action_names.now text) ≡ action_found (around_of c) text
action_is c are text =
    let actions : List ActionPlace = map seen_action c.actions.now in
    ap (λ (names : List Name). found_by actions (find_name names text)) are.names
    ∙ sym (actions_from 0 actions text ∙ at_first actions (find_name (map action_name actions) text))

number_each : (n : ℕ) (a : ActionPlace) (b : Bool) (rest : Option Found) → option_map number_in (cond b (Some (found_with n a)) rest) ≡ cond b (Some n) (option_map number_in rest)
number_each n a true rest = refl
number_each n a false rest = refl

numbers_from : (n : ℕ) (actions : List ActionPlace) (text : Name) → option_map number_in (found_from n actions text) ≡ option_map (λ i. n + i) (find_name (map action_name actions) text)
numbers_from n [] text = refl
numbers_from n (a ∷ actions) text =
    number_each n a (bytes_eq a.of.name text) (found_from (suc n) actions text)
    ∙ (table_step n (bytes_eq a.of.name text) (find_name (map action_name actions) text) (option_map number_in (found_from (suc n) actions text)) (numbers_from (suc n) actions text)
    ∙ sym (ap (option_map (λ i. n + i)) (find_step a.of.name (map action_name actions) text)))

-- the number of the action with a name
pub action_numbered : (c : Callees) → AreCallees c → (text : Name) → find_name c.action_names.now text ≡ option_map number_in (action_found (around_of c) text)
action_numbered c are text =
    let actions : List ActionPlace = map seen_action c.actions.now in
    ap (λ (names : List Name). find_name names text) are.names
    ∙ sym (numbers_from 0 actions text ∙ from_none (find_name (map action_name actions) text))

-- objects

plane_is : (ds : List Decl16) (text : Name) (o : Option Name) → unwrap_or o (unwrap_or (plane_among (filter_map top_object ds) text) text) ≡ or_at_top ds text o
plane_is ds text None = refl
plane_is ds text (Some plane) = refl

pub object_is : (c : Callees) → AreCallees c → (e : Exp16) → place_among c.objects.now.numbers (plane_in (objects_seen c.own_objects.now) (objects_seen c.objects.now.top) (name_in e)) ≡ object_found (around_of c) e
object_is c are e =
    ap (λ names. place_among names (plane_in (objects_seen c.own_objects.now) (objects_seen c.objects.now.top) (name_in e))) are.objects.numbers
    ∙ (ap (λ own. place_among (object_names c.syntax.now) (plane_in own (objects_seen c.objects.now.top) (name_in e))) are.own
    ∙ (ap (λ top. place_among (object_names c.syntax.now) (plane_in (filter_map own_object c.locals.now) top (name_in e))) are.objects.top
    ∙ ap (place_among (object_names c.syntax.now)) (plane_is c.syntax.now.decls (name_in e) (plane_among (filter_map own_object c.locals.now) (name_in e)))))

-- functions

module _ (c : Callees) (are : AreCallees c) (s : Scope) (seats : List NamedSeat) (es : List Exp16) where
  pub hash_at : hash_by s seats (find_name c.tables.now) es ≡ hashes (around_of c) s seats es
  hash_at = ap (λ (t : Name → Option ℕ). hash_by s seats t es) (tables_found c are) ∙ hash_in (around_of c) s seats es

  pub verify_at : (payload : Bool) → verify_by s seats (find_name c.tables.now) c.checksum_error payload es ≡ verified (around_of c) s seats payload es
  verify_at payload =
      ap (λ (t : Name → Option ℕ). verify_by s seats t c.checksum_error payload es) (tables_found c are)
      ∙ (ap (λ (o : Option ℕ). verify_by s seats (table_found (around_of c)) o payload es) are.checksum_error
      ∙ verify_in (around_of c) s seats es payload)

  pub update_at : (payload : Bool) → update_by s seats (find_name c.tables.now) payload es ≡ updated (around_of c) s seats payload es
  update_at payload =
      ap (λ (t : Name → Option ℕ). update_by s seats t payload es) (tables_found c are) ∙ update_in (around_of c) s seats es payload

  pub clone_at : clone_by s seats (find_name c.tables.now) es ≡ clones (around_of c) s seats es
  clone_at = ap (λ (t : Name → Option ℕ). clone_by s seats t es) (tables_found c are) ∙ clone_in (around_of c) s seats es

-- objects' methods

module _ (c : Callees) (are : AreCallees c) (s : Scope) (seats : List NamedSeat) (number : ℕ) (es : List Exp16) where
  pub count_at : count_by s seats (find_name c.tables.now) c.packet_length number es ≡ count_deed (around_of c) s seats number es
  count_at =
      ap (λ (t : Name → Option ℕ). count_by s seats t c.packet_length number es) (tables_found c are)
      ∙ ap (λ (o : Option ℕ). count_by s seats (table_found (around_of c)) o number es) are.packet_length

  pub read_at : read_by s seats (find_name c.tables.now) number es ≡ read_deed (around_of c) s seats number es
  read_at = ap (λ (t : Name → Option ℕ). read_by s seats t number es) (tables_found c are)

  pub write_at : write_by s seats (find_name c.tables.now) number es ≡ write_deed (around_of c) s seats number es
  write_at = ap (λ (t : Name → Option ℕ). write_by s seats t number es) (tables_found c are)

  pub meter_at : meter_by s seats (find_name c.tables.now) number es ≡ meter_deed (around_of c) s seats number es
  meter_at = ap (λ (t : Name → Option ℕ). meter_by s seats t number es) (tables_found c are)

-- what applies no table is a ready expression, whatever it is

module _ (s : Scope) (seats : List NamedSeat) (tables : Name → Option ℕ) where
  or_right : (a b : Bool) → (a || b) ≡ false → b ≡ false
  or_right true b is = absurd (cc is)
  or_right false b is = is

  only : (b : Bool) (r : Option Ready) (t : Option Test) → b ≡ false → by_application b r t ≡ option_map plain r
  only true r t is = absurd (cc is)
  only false r t is = refl

  only_ready : (p : Place) (way : Way) (e : Exp16) → applies s e ≡ false → asked_test s seats tables p way e ≡ option_map plain (asked_ready s seats p way e)
  only_ready p way (literal n) none = refl
  only_ready p way (truth holds) none = refl
  only_ready p way error none = refl
  only_ready p way (name text) none = refl
  only_ready p way (member e word) none = only (applies s e) _ _ none
  only_ready p way (index e at) none = only (applies s e) _ _ none
  only_ready p way (slice e high low) none = only (applies s e) _ _ none
  only_ready p way (lookahead e to given) none = refl
  only_ready p way (cast to e) none = only (applies s e) _ _ none
  only_ready p way (unary operator e) none = only (applies s e) _ _ none
  only_ready p way (binary operator a b) none = only (applies s (binary operator a b)) _ _ none
  only_ready p way (choice x a b) none = only (applies s (choice x a b)) _ _ none
  only_ready p way (parenthesized e) none = refl
  only_ready p way no_arguments none = refl
  only_ready p way (argument before last) none = refl
  only_ready p way (listed es) none = refl
  only_ready p way (call (literal n) given) none = refl
  only_ready p way (call (truth holds) given) none = refl
  only_ready p way (call error given) none = refl
  only_ready p way (call (name text) given) none = refl
  only_ready p way (call (index e at) given) none = refl
  only_ready p way (call (slice e high low) given) none = refl
  only_ready p way (call (call e other) given) none = refl
  only_ready p way (call (lookahead e to other) given) none = refl
  only_ready p way (call (cast to e) given) none = refl
  only_ready p way (call (unary operator e) given) none = refl
  only_ready p way (call (binary operator a b) given) none = refl
  only_ready p way (call (choice x a b) given) none = refl
  only_ready p way (call (parenthesized e) given) none = refl
  only_ready p way (call no_arguments given) none = refl
  only_ready p way (call (argument before last) given) none = refl
  only_ready p way (call (listed es) given) none = refl
  only_ready p way (call (member e word) given) none = only (applies s e) _ _ (or_right (is_application s (call (member e word) given)) (applies s e) none)

  -- `isValid` of a header asks for its validity

  valid_by : (e : Exp16) (type : Name) (b : Bool) → applies s e ≡ b → by_application b (method_ready (header type) its_value (λ further. asked_ready s seats owner further e)) (method_test (header type) its_value (λ further. asked_test s seats tables owner further e)) ≡ asked_test s seats tables owner its_validity e
  valid_by e type true is = refl
  valid_by e type false is = sym (only_ready owner its_validity e is)

  valid_of : (e : Exp16) (k : Kind) → is_header k ≡ true → by_application (applies s e) (method_ready k its_value (λ further. asked_ready s seats owner further e)) (method_test k its_value (λ further. asked_test s seats tables owner further e)) ≡ asked_test s seats tables owner its_validity e
  valid_of e (header type) h = valid_by e type (applies s e) refl
  valid_of e (bits width) h = absurd (cc h)
  valid_of e unsized h = absurd (cc h)
  valid_of e boolean h = absurd (cc h)
  valid_of e error_code h = absurd (cc h)
  valid_of e (stack type size) h = absurd (cc h)
  valid_of e (struct type) h = absurd (cc h)
  valid_of e packet_in h = absurd (cc h)
  valid_of e packet_out h = absurd (cc h)
  valid_of e errors h = absurd (cc h)
  valid_of e (enumeration enum) h = absurd (cc h)
  valid_of e (one_of enum) h = absurd (cc h)
  valid_of e table h = absurd (cc h)
  valid_of e applied h = absurd (cc h)
  valid_of e (object obj) h = absurd (cc h)
  valid_of e items h = absurd (cc h)
  valid_of e nothing h = absurd (cc h)
  valid_of e unknown h = absurd (cc h)

module _ (c : Callees) (are : AreCallees c) (s : Scope) (seats : List NamedSeat) (p : Place) (e : Exp16) where
  valid_on : (f given : Exp16) → IsMemberOf f e → IsHeaderOf s e → option_map let_go (ready_test s seats (find_name c.tables.now) p (call f given)) ≡ valid_deed (around_of c) s seats e
  valid_on (member f word) given is headed =
      ap (λ x. option_map let_go (ready_test s seats (find_name c.tables.now) p (call (member x word) given))) is
      ∙ (ap (λ (t : Name → Option ℕ). option_map let_go (ready_test s seats t p (call (member e word) given))) (tables_found c are)
      ∙ ap (option_map let_go) (valid_of s seats (table_found (around_of c)) e (kind_of s e) headed))
  valid_on (literal n) given is headed = absurd is
  valid_on (truth holds) given is headed = absurd is
  valid_on error given is headed = absurd is
  valid_on (name text) given is headed = absurd is
  valid_on (index f at) given is headed = absurd is
  valid_on (slice f high low) given is headed = absurd is
  valid_on (call f other) given is headed = absurd is
  valid_on (lookahead f to other) given is headed = absurd is
  valid_on (cast to f) given is headed = absurd is
  valid_on (unary operator f) given is headed = absurd is
  valid_on (binary operator a b) given is headed = absurd is
  valid_on (choice x a b) given is headed = absurd is
  valid_on (parenthesized f) given is headed = absurd is
  valid_on no_arguments given is headed = absurd is
  valid_on (argument before last) given is headed = absurd is
  valid_on (listed es) given is headed = absurd is

  pub valid_at : (whole : Exp16) → IsCallOf whole e → IsHeaderOf s e → option_map let_go (ready_test s seats (find_name c.tables.now) p whole) ≡ valid_deed (around_of c) s seats e
  valid_at (call f given) is headed = valid_on f given is headed
  valid_at (literal n) is headed = absurd is
  valid_at (truth holds) is headed = absurd is
  valid_at error is headed = absurd is
  valid_at (name text) is headed = absurd is
  valid_at (member f word) is headed = absurd is
  valid_at (index f at) is headed = absurd is
  valid_at (slice f high low) is headed = absurd is
  valid_at (lookahead f to given) is headed = absurd is
  valid_at (cast to f) is headed = absurd is
  valid_at (unary operator f) is headed = absurd is
  valid_at (binary operator a b) is headed = absurd is
  valid_at (choice x a b) is headed = absurd is
  valid_at (parenthesized f) is headed = absurd is
  valid_at no_arguments is headed = absurd is
  valid_at (argument before last) is headed = absurd is
  valid_at (listed es) is headed = absurd is

-- what is no call

let_go_each : (o : Option Test) → option_map does (option_map let_go o) ≡ option_map (λ t. does (let_go t)) o
let_go_each None = refl
let_go_each (Some t) = refl

pub let_go_at : (c : Callees) → AreCallees c → (s : Scope) (seats : List NamedSeat) (e : Exp16) → option_map does (option_map let_go (ready_test s seats (find_name c.tables.now) owner e)) ≡ let_go_ready (around_of c) s seats e
let_go_at c are s seats e =
    ap (λ (t : Name → Option ℕ). option_map does (option_map let_go (ready_test s seats t owner e))) (tables_found c are)
    ∙ let_go_each (asked_test s seats (table_found (around_of c)) owner its_value e)
