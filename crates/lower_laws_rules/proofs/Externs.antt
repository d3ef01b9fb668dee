-- Calls of what `core.p4` and `v1model.p4` declare, as statements: each breaks no rule.
use Rattle.std.proofs.Common.{◌≡◌, ℕ, suc, ◌<◌, ◌≤◌, ◌^◌, Bool, true, false, ◌&&◌, Option, Some, List, [], ◌∷◌, refl, ap, ◌∙◌, arith}
use Rattle.std.specs.Prelude.{not, codes}
use Rattle.std.specs.List.{list_any}
use Rattle.p416_syntax.specs.declared.controls.ActionName.{ActionName}
use Rattle.p416_syntax.specs.Tree.{Exp16, literal, name, member, call, no_arguments, argument, listed, expression}
use Rattle.p416_syntax.specs.Names.{Name, has_name}
use Rattle.p416_syntax.specs.Kinds.{Kind, ObjectKind, counter, direct_counter, register, meter, hash_algorithm, clone_type, bits, boolean, header, stack, object, packet_in, packet_out, nothing}
use Rattle.p416_syntax.specs.BuiltIn.{standard, members_of}
use Rattle.p416_syntax.specs.Scopes.{Scope, Sort, an_object, an_enumeration, a_function, a_table, in_action, in_parser, sort_of}
use Rattle.p416_syntax.specs.Scopes.{Part as ScopePart}
use Rattle.p416_syntax.specs.Calls.{value, written, any_bits, written_bits, written_header, emitted, owner, written_owner, literal_of, item_list, index_place, list_number, checksum_places, extern_at, in_pipelines, counts_by_entry, clone_signature, method, stack_method, function_signature, Place}
use Rattle.p416_syntax.specs.Expressions.{sort_kind}
use Rattle.p416_syntax.specs.Applications.{applies_nothing}
use Rattle.p416_syntax.specs.Tables.{is_direct_counter, is_counted_by, counts_outside}
use Rattle.p416_syntax.specs.Externs.{is_some_position, is_action_part, are_allowed, is_place_word}
use Rattle.lower_laws_base.specs.Mirror.{plain, sized, method_stmt, valid_exp}
use Rattle.lower_laws_rules.specs.Keeping.{Asks, Sound, Sits, Given, Part}
use Rattle.lower_laws_rules.proofs.Places.{sits, deeper, unapplied, asks_value, asks_any, asks_truth}
use Rattle.lower_laws_rules.proofs.Sound.{sits_literal, sits_plain, sound_place, asks_owner}
use Rattle.lower_laws_rules.proofs.Calls.{none_given, more_given, sits_items, sits_owner, sits_one, no_counter, method_sound, function_sound, table_applied}
use Rattle.lower_laws_rules.proofs.Parts.{part_call}

-- headers and stacks

pub sound_valid : {s : Scope} {e : Exp16} {type : Name} {can : Bool} {d : ℕ} → Sound s e (header type) can d → Sound s (valid_exp e) boolean false (suc (suc d))
sound_valid {s} {e} {type} {can} {d} x =
    deeper (suc (suc d)) (omega arith) (method_sound {k = header type} (method false [] boolean) x.kind refl (sits x owner (asks_owner (header type) can refl)) none_given refl refl (unapplied s) (no_counter {k = header type} s e _ x.kind refl) refl)

pub part_set_valid : {s : Scope} {e : Exp16} {type : Name} {d : ℕ} → Sound s e (header type) true d → d ≤ 390 → Part s s [] 0 (method_stmt e (codes "setValid"))
part_set_valid {s} {e} {type} x few =
    part_call (method_sound {k = header type} (method true [] nothing) x.kind refl (sits x written_owner (record { opens = refl; takes_it = refl; writes = refl })) none_given refl refl (unapplied s) (no_counter {k = header type} s e _ x.kind refl) refl) (omega (arith, few))

pub part_set_invalid : {s : Scope} {e : Exp16} {type : Name} {d : ℕ} → Sound s e (header type) true d → d ≤ 390 → Part s s [] 0 (method_stmt e (codes "setInvalid"))
part_set_invalid {s} {e} {type} x few =
    part_call (method_sound {k = header type} (method true [] nothing) x.kind refl (sits x written_owner (record { opens = refl; takes_it = refl; writes = refl })) none_given refl refl (unapplied s) (no_counter {k = header type} s e _ x.kind refl) refl) (omega (arith, few))

-- the count has no width, and takes that of its place; or it has the one that is asked for

stack_moved : {s : Scope} {e given : Exp16} {type : Name} {size d : ℕ} (word : Name) → stack_method word ≡ Some (method true (literal_of (bits 32) ∷ []) nothing) → is_place_word word ≡ false → Sound s e (stack type size) true d → d ≤ 390 → Sits s (literal_of (bits 32)) given 1 → Part s s [] 0 (expression (call (member e word) (argument no_arguments given)))
stack_moved {s} {e} {type = type} {size} word known plainly x few count =
    part_call (method_sound {k = stack type size} (method true (literal_of (bits 32) ∷ []) nothing) x.kind known (sits x written_owner (record { opens = refl; takes_it = refl; writes = refl })) (more_given none_given refl count) refl refl (unapplied s) (no_counter {k = stack type size} s e word x.kind refl) plainly) (omega (arith, few))

pub part_push : {s : Scope} {e : Exp16} {type : Name} {size d n : ℕ} → Sound s e (stack type size) true d → d ≤ 390 → n < 2 ^ 32 → Part s s [] 0 (expression (call (member e (codes "push_front")) (argument no_arguments (literal (plain n)))))
part_push {s} {n = n} x few fits = stack_moved (codes "push_front") refl refl x few (sits_plain s 32 n fits)

pub part_pop : {s : Scope} {e : Exp16} {type : Name} {size d n : ℕ} → Sound s e (stack type size) true d → d ≤ 390 → n < 2 ^ 32 → Part s s [] 0 (expression (call (member e (codes "pop_front")) (argument no_arguments (literal (plain n)))))
part_pop {s} {n = n} x few fits = stack_moved (codes "pop_front") refl refl x few (sits_plain s 32 n fits)

pub part_push_sized : {s : Scope} {e : Exp16} {type : Name} {size d n : ℕ} → Sound s e (stack type size) true d → d ≤ 390 → n < 2 ^ 32 → Part s s [] 0 (expression (call (member e (codes "push_front")) (argument no_arguments (literal (sized 32 n)))))
part_push_sized {s} {n = n} x few fits = stack_moved (codes "push_front") refl refl x few (sits_literal s 32 n fits)

pub part_pop_sized : {s : Scope} {e : Exp16} {type : Name} {size d n : ℕ} → Sound s e (stack type size) true d → d ≤ 390 → n < 2 ^ 32 → Part s s [] 0 (expression (call (member e (codes "pop_front")) (argument no_arguments (literal (sized 32 n)))))
part_pop_sized {s} {n = n} x few fits = stack_moved (codes "pop_front") refl refl x few (sits_literal s 32 n fits)

-- the packet

-- `S.next`
pub sound_next : {s : Scope} {e : Exp16} {type : Name} {size d : ℕ} {can : Bool} → Sound s e (stack type size) can d → s.part ≡ in_parser → Sound s (member e (codes "next")) (header type) can (suc d)
sound_next {s} {e} {type} {size} {d} {can} x part = sound_place s e (stack type size) can d (codes "next") (header type) x refl refl part

pub sound_last : {s : Scope} {e : Exp16} {type : Name} {size d : ℕ} {can : Bool} → Sound s e (stack type size) can d → s.part ≡ in_parser → Sound s (member e (codes "last")) (header type) can (suc d)
sound_last {s} {e} {type} {size} {d} {can} x part = sound_place s e (stack type size) can d (codes "last") (header type) x refl refl part

pub part_extract : {s : Scope} {p e : Exp16} {type : Name} {can : Bool} {m d : ℕ} → Sound s p packet_in can m → Sound s e (header type) true d → are_allowed (0 ∷ []) s.positions ≡ true → m ≤ 390 → d ≤ 390 → Part s s [] 0 (expression (call (member p (codes "extract")) (argument no_arguments e)))
part_extract {s} {p} {can = can} x y stands small few =
    part_call (method_sound {k = packet_in} (extern_at (0 ∷ []) (written_header ∷ [])) x.kind refl (sits x owner (asks_owner packet_in can refl)) (more_given none_given refl (sits y written_header (record { opens = refl; takes_it = refl; writes = refl }))) refl stands (unapplied s) (no_counter {k = packet_in} s p _ x.kind refl) refl) (omega (arith, small, few))

-- a header or a stack
pub part_emit : {s : Scope} {p e : Exp16} {k : Kind} {may can : Bool} {m d : ℕ} → Sound s p packet_out may m → Asks emitted k can → Sound s e k can d → are_allowed (5 ∷ []) s.positions ≡ true → m ≤ 390 → d ≤ 390 → Part s s [] 0 (expression (call (member p (codes "emit")) (argument no_arguments e)))
part_emit {s} {p} {may = may} x asks y stands small few =
    part_call (method_sound {k = packet_out} (extern_at (5 ∷ []) (emitted ∷ [])) x.kind refl (sits x owner (asks_owner packet_out may refl)) (more_given none_given refl (sits y emitted asks)) refl stands (unapplied s) (no_counter {k = packet_out} s p _ x.kind refl) refl) (omega (arith, small, few))

-- `t.apply();`
pub part_apply : {s : Scope} {text : Name} {actions : List ActionName} {counters : Option Name} → sort_of s text ≡ a_table actions counters → applies_nothing s.part ≡ false → Part s s [] 0 (method_stmt (name text) (codes "apply"))
part_apply known applies = part_call (table_applied known applies) (omega arith)

-- objects

sits_object : {s : Scope} {text : Name} (k : ObjectKind) → sort_of s text ≡ an_object k → Sits s owner (name text) 1
sits_object k known = sits_owner {x = an_object k} known refl refl

asks_written : (width : ℕ) → Asks written_bits (bits width) true
asks_written width = record { opens = refl; takes_it = refl; writes = refl }

pub part_count : {s : Scope} {text : Name} {i : Exp16} {can : Bool} {d : ℕ} → sort_of s text ≡ an_object counter → are_allowed (2 ∷ 3 ∷ []) s.positions ≡ true → Sound s i (bits 32) can d → d ≤ 390 → Part s s [] 0 (expression (call (member (name text) (codes "count")) (argument no_arguments i)))
part_count {s} {text} {can = can} known stands i few =
    part_call (method_sound {k = object counter} (in_pipelines (index_place ∷ [])) (ap sort_kind known) refl (sits_object counter known) (more_given none_given refl (sits i index_place (asks_value 32 can))) refl stands (unapplied s) (no_counter {k = object counter} s (name text) (codes "count") (ap sort_kind known) refl) refl) (omega (arith, few))

-- in an action that the table of the counter lists
pub part_count_entry : {s : Scope} {text : Name} (action : Name) → sort_of s text ≡ an_object direct_counter → s.part ≡ in_action action → is_some_position s.positions ≡ true → list_any (is_counted_by text action) s.names ≡ true → Part s s [] 0 (method_stmt (name text) (codes "count"))
part_count_entry {s} {text} action known part stands counted =
    part_call (method_sound {k = object direct_counter} counts_by_entry (ap sort_kind known) refl (sits_object direct_counter known) none_given refl (ap (λ b. b && is_action_part s.part) stands ∙ ap is_action_part part) (unapplied s)
    (ap (λ (x : Sort). is_direct_counter (sort_kind x) && counts_outside s.names s.part text) known ∙ ap (λ (p : ScopePart). counts_outside s.names p text) part ∙ ap not counted) refl) (omega arith)

pub part_read : {s : Scope} {text : Name} {v i : Exp16} {can : Bool} {width m d : ℕ} → sort_of s text ≡ an_object register → are_allowed (2 ∷ 3 ∷ []) s.positions ≡ true → Sound s v (bits width) true m → Sound s i (bits 32) can d → m ≤ 390 → d ≤ 390 → Part s s [] 0 (expression (call (member (name text) (codes "read")) (argument (argument no_arguments v) i)))
part_read {s} {text} {can = can} {width} known stands v i small few =
    part_call (method_sound {k = object register} (in_pipelines (written_bits ∷ index_place ∷ [])) (ap sort_kind known) refl (sits_object register known) (more_given (more_given none_given refl (sits v written_bits (asks_written width))) refl (sits i index_place (asks_value 32 can))) refl stands (unapplied s) (no_counter {k = object register} s (name text) (codes "read") (ap sort_kind known) refl) refl) (omega (arith, small, few))

pub part_write : {s : Scope} {text : Name} {i e : Exp16} {can may : Bool} {width m d : ℕ} → sort_of s text ≡ an_object register → are_allowed (2 ∷ 3 ∷ []) s.positions ≡ true → Sound s i (bits 32) can m → Sound s e (bits width) may d → m ≤ 390 → d ≤ 390 → Part s s [] 0 (expression (call (member (name text) (codes "write")) (argument (argument no_arguments i) e)))
part_write {s} {text} {can = can} {may} {width} known stands i e small few =
    part_call (method_sound {k = object register} (in_pipelines (index_place ∷ any_bits ∷ [])) (ap sort_kind known) refl (sits_object register known) (more_given (more_given none_given refl (sits i index_place (asks_value 32 can))) refl (sits e any_bits (asks_any width may))) refl stands (unapplied s) (no_counter {k = object register} s (name text) (codes "write") (ap sort_kind known) refl) refl) (omega (arith, small, few))

pub part_execute : {s : Scope} {text : Name} {i v : Exp16} {can : Bool} {width m d : ℕ} → sort_of s text ≡ an_object meter → are_allowed (2 ∷ 3 ∷ []) s.positions ≡ true → Sound s i (bits 32) can m → Sound s v (bits width) true d → m ≤ 390 → d ≤ 390 → Part s s [] 0 (expression (call (member (name text) (codes "execute_meter")) (argument (argument no_arguments i) v)))
part_execute {s} {text} {can = can} {width} known stands i v small few =
    part_call (method_sound {k = object meter} (in_pipelines (index_place ∷ written_bits ∷ [])) (ap sort_kind known) refl (sits_object meter known) (more_given (more_given none_given refl (sits i index_place (asks_value 32 can))) refl (sits v written_bits (asks_written width))) refl stands (unapplied s) (no_counter {k = object meter} s (name text) (codes "execute_meter") (ap sort_kind known) refl) refl) (omega (arith, small, few))

-- functions

pub part_drop : {s : Scope} {e : Exp16} {d : ℕ} → sort_of s (codes "mark_to_drop") ≡ a_function → are_allowed (2 ∷ 3 ∷ []) s.positions ≡ true → Sound s e standard true d → d ≤ 390 → Part s s [] 0 (expression (call (name (codes "mark_to_drop")) (argument no_arguments e)))
part_drop known stands x few =
    part_call (function_sound (in_pipelines (written standard ∷ [])) known refl (more_given none_given refl (sits x (written standard) (record { opens = refl; takes_it = refl; writes = refl }))) refl stands refl) (omega (arith, few))

pub part_hash : {s : Scope} {v base items most : Exp16} {algorithm : Name} {can may : Bool} {width a b m d n k : ℕ} → sort_of s (codes "hash") ≡ a_function → sort_of s (codes "HashAlgorithm") ≡ an_enumeration hash_algorithm → has_name (members_of hash_algorithm) algorithm ≡ true → are_allowed (2 ∷ 3 ∷ []) s.positions ≡ true → Sound s v (bits width) true m → Sound s base (bits a) can d → Given s [] any_bits items n → Sound s most (bits b) may k → m ≤ 390 → d ≤ 390 → n ≤ 390 → k ≤ 390 → Part s s [] 0 (expression (call (name (codes "hash")) (argument (argument (argument (argument (argument no_arguments v) (member (name (codes "HashAlgorithm")) algorithm)) base) (listed items)) most)))
part_hash {algorithm = algorithm} {can} {may} {width} {a} {b} known enumeration among stands v base items most p q r t =
    part_call (function_sound (in_pipelines (written_bits ∷ Place.member_place hash_algorithm ∷ any_bits ∷ item_list ∷ any_bits ∷ [])) known refl
    (more_given (more_given (more_given (more_given (more_given none_given refl (sits v written_bits (asks_written width))) refl (sits_one hash_algorithm algorithm enumeration among)) refl (sits base any_bits (asks_any a can))) refl (sits_items items)) refl (sits most any_bits (asks_any b may))) refl stands refl) (omega (arith, p, q, r, t))

-- the four requests

pub part_clone_ingress : {s : Scope} {session : Exp16} {can : Bool} {list d : ℕ} → sort_of s (codes "clone_preserving_field_list") ≡ a_function → sort_of s (codes "CloneType") ≡ an_enumeration clone_type → are_allowed (2 ∷ []) s.positions ≡ true → Sound s session (bits 32) can d → d ≤ 390 → list < 2 ^ 8 → Part s s [] 0 (expression (call (name (codes "clone_preserving_field_list")) (argument (argument (argument no_arguments (member (name (codes "CloneType")) (codes "I2E"))) session) (literal (sized 8 list)))))
part_clone_ingress {s} {can = can} {list} known enumeration stands session few fits =
    part_call (function_sound clone_signature known refl (more_given (more_given (more_given none_given refl (sits_one clone_type (codes "I2E") enumeration refl)) refl (sits session index_place (asks_value 32 can))) refl (sits_literal s 8 list fits)) refl stands refl) (omega (arith, few))

pub part_clone_egress : {s : Scope} {session : Exp16} {can : Bool} {list d : ℕ} → sort_of s (codes "clone_preserving_field_list") ≡ a_function → sort_of s (codes "CloneType") ≡ an_enumeration clone_type → are_allowed (3 ∷ []) s.positions ≡ true → Sound s session (bits 32) can d → d ≤ 390 → list < 2 ^ 8 → Part s s [] 0 (expression (call (name (codes "clone_preserving_field_list")) (argument (argument (argument no_arguments (member (name (codes "CloneType")) (codes "E2E"))) session) (literal (sized 8 list)))))
part_clone_egress {s} {can = can} {list} known enumeration stands session few fits =
    part_call (function_sound clone_signature known refl (more_given (more_given (more_given none_given refl (sits_one clone_type (codes "E2E") enumeration refl)) refl (sits session index_place (asks_value 32 can))) refl (sits_literal s 8 list fits)) refl stands refl) (omega (arith, few))

pub part_resubmit : {s : Scope} {list : ℕ} → sort_of s (codes "resubmit_preserving_field_list") ≡ a_function → are_allowed (2 ∷ []) s.positions ≡ true → list < 2 ^ 8 → Part s s [] 0 (expression (call (name (codes "resubmit_preserving_field_list")) (argument no_arguments (literal (sized 8 list)))))
part_resubmit {s} {list} known stands fits = part_call (function_sound (extern_at (2 ∷ []) (list_number ∷ [])) known refl (more_given none_given refl (sits_literal s 8 list fits)) refl stands refl) (omega arith)

pub part_recirculate : {s : Scope} {list : ℕ} → sort_of s (codes "recirculate_preserving_field_list") ≡ a_function → are_allowed (3 ∷ []) s.positions ≡ true → list < 2 ^ 8 → Part s s [] 0 (expression (call (name (codes "recirculate_preserving_field_list")) (argument no_arguments (literal (sized 8 list)))))
part_recirculate {s} {list} known stands fits = part_call (function_sound (extern_at (3 ∷ []) (list_number ∷ [])) known refl (more_given none_given refl (sits_literal s 8 list fits)) refl stands refl) (omega arith)

-- checksums, with payload or without

abbrev pub checksum_arguments : Exp16 → Exp16 → Exp16 → Name → Exp16
checksum_arguments condition items field algorithm = argument (argument (argument (argument no_arguments condition) (listed items)) field) (member (name (codes "HashAlgorithm")) algorithm)

checksum : {s : Scope} {text : Name} {condition items field : Exp16} {algorithm : Name} {can may : Bool} {width m n d : ℕ} (position : ℕ) (p : Place) → sort_of s text ≡ a_function → function_signature text ≡ Some (extern_at (position ∷ []) (checksum_places p)) → sort_of s (codes "HashAlgorithm") ≡ an_enumeration hash_algorithm → has_name (members_of hash_algorithm) algorithm ≡ true → are_allowed (position ∷ []) s.positions ≡ true → Sound s condition boolean can m → Given s [] any_bits items n → Asks p (bits width) may → Sound s field (bits width) may d → m ≤ 390 → n ≤ 390 → d ≤ 390 → Part s s [] 0 (expression (call (name text) (checksum_arguments condition items field algorithm)))
checksum {algorithm = algorithm} {can} position p known signature enumeration among stands condition items asks field a b t =
    part_call (function_sound (extern_at (position ∷ []) (checksum_places p)) known signature
    (more_given (more_given (more_given (more_given none_given refl (sits condition (value boolean) (asks_truth can))) refl (sits_items items)) refl (sits field p asks)) refl (sits_one hash_algorithm algorithm enumeration among)) refl stands refl) (omega (arith, a, b, t))

pub part_verify : {s : Scope} {text : Name} {condition items field : Exp16} {algorithm : Name} {can may : Bool} {width m n d : ℕ} → sort_of s text ≡ a_function → function_signature text ≡ Some (extern_at (1 ∷ []) (checksum_places any_bits)) → sort_of s (codes "HashAlgorithm") ≡ an_enumeration hash_algorithm → has_name (members_of hash_algorithm) algorithm ≡ true → are_allowed (1 ∷ []) s.positions ≡ true → Sound s condition boolean can m → Given s [] any_bits items n → Sound s field (bits width) may d → m ≤ 390 → n ≤ 390 → d ≤ 390 → Part s s [] 0 (expression (call (name text) (checksum_arguments condition items field algorithm)))
part_verify {may = may} {width} known signature enumeration among stands condition items field a b t = checksum 1 any_bits known signature enumeration among stands condition items (asks_any width may) field a b t

pub part_update : {s : Scope} {text : Name} {condition items field : Exp16} {algorithm : Name} {can : Bool} {width m n d : ℕ} → sort_of s text ≡ a_function → function_signature text ≡ Some (extern_at (4 ∷ []) (checksum_places written_bits)) → sort_of s (codes "HashAlgorithm") ≡ an_enumeration hash_algorithm → has_name (members_of hash_algorithm) algorithm ≡ true → are_allowed (4 ∷ []) s.positions ≡ true → Sound s condition boolean can m → Given s [] any_bits items n → Sound s field (bits width) true d → m ≤ 390 → n ≤ 390 → d ≤ 390 → Part s s [] 0 (expression (call (name text) (checksum_arguments condition items field algorithm)))
part_update {width = width} known signature enumeration among stands condition items field a b t = checksum 4 written_bits known signature enumeration among stands condition items (asks_written width) field a b t
