-- Outside parsers the rules let no stack tell anything.
use Rattle.std.proofs.Common.{◌≡◌, ◌⊎◌, inl, inr, ℕ, zero, suc, ◌<◌, ◌≤◌, ◌||◌, ◌&&◌, not, Bool, true, false, cond, is_some, Option, Some, None, is_none, List, [], ◌∷◌, ◌++◌, length, map, nat_eq, get_or, refl, sym, ap, ◌∙◌, arith}
use Rattle.std.specs.Prelude.{codes}
use Rattle.std.specs.List.{list_any}
use Rattle.std.specs.Option.{option_map_or}
use Rattle.std.specs.Str.{bytes_eq}
use Rattle.std.proofs.lemmas.Bool.{eqb-true}
use Rattle.p416_syntax.specs.declared.node.CastType.{CastType}
use Rattle.p416_syntax.specs.declared.node.CastType.TheVariants as cast_to
use Rattle.p416_syntax.specs.declared.node.UnaryOperator.{UnaryOperator}
use Rattle.p416_syntax.specs.declared.node.UnaryOperator.TheVariants.{Not, Complement, Negate}
use Rattle.p416_syntax.specs.declared.node.BinaryOperator.{BinaryOperator}
use Rattle.p416_syntax.specs.declared.node.BinaryOperator.TheVariants.{Multiply, Add, Subtract, SaturatingAdd, SaturatingSubtract, Concatenate, ShiftLeft, ShiftRight, BitAnd, BitXor, BitOr, Less, LessEqual, Greater, GreaterEqual, Equal, NotEqual, And, Or}
use Rattle.p416_syntax.specs.Tree.{Exp16, literal, truth, error, name, member, index, slice, call, lookahead, cast, unary, binary, choice, parenthesized, no_arguments, argument, listed}
use Rattle.p416_syntax.specs.Names.{Name}
use Rattle.p416_syntax.specs.Kinds.{hash_algorithm, counter, direct_counter, register, meter, Kind, bits, unsized, boolean, error_code, header, stack, struct, packet_in, packet_out, errors, enumeration, one_of, table, applied, object, items, nothing, unknown, is_unsized, is_plain, is_stack}
use Rattle.p416_syntax.specs.Scopes.{Sort, a_type, a_value, an_enumeration, a_function, an_object, an_action, a_table, a_state, a_block, undeclared, Handed, Scope, sort_of}
use Rattle.p416_syntax.specs.Calls.{Place, value, written, any_bits, written_bits, one_bit, bits_or_boolean, written_header, emitted, literal_of, any_literal, item_list, member_place, select_key, table_key, target, owner, written_owner, a_stack, callee, statement, unasked, Signature, place_of, function_signature, method_signature, extern_at, in_pipelines, checksum_places, list_number, index_place, clone_signature, method, counts_by_entry, parser_position, verify_position, ingress_position, egress_position, compute_position, deparser_position}
use Rattle.p416_syntax.specs.BuiltIn.{standard}
use Rattle.p416_syntax.specs.Expressions.{member_kind, call_kind, is_chosen, sort_signature, kind_of, signature_of, argument_count}
use Rattle.p416_syntax.specs.Uses.{Use, an_expression, a_number, one, many, joint_place, compared_place, chosen_place, unary_place, left_place, right_place, cast_place, owner_place, wanted_by, cast_numbers, uses, uses_at, arguments_of}
use Rattle.p416_syntax.specs.Unknown.{is_unknown_member, is_misnamed}
use Rattle.p416_syntax.specs.Types.{takes_kind, takes, is_named_callee, is_mistyped}
use Rattle.p416_syntax.specs.Arguments.{takes_other_count, is_miscounted}
use Rattle.p416_syntax.specs.Externs.{is_outside_block, is_parser_part, is_place_word, are_allowed}
use Rattle.v1_ready_laws.proofs.Rules.{first_false, second_false, front_none, rest_none}
use Rattle.v1_block_laws.specs.Keeping.{Each}
use Rattle.v1_call_laws.specs.Telling.{IsTold, ToldIn, ToldNone}
use Rattle.v1_call_laws.specs.Whole.{CallTold}
use Rattle.v1_call_laws.specs.Ruled.{Asking, Ruled, OutsideParsers, RulesTellNone, Signed, CallsTellNone}

front : (xs ys : List Use) → Ruled (xs ++ ys) → Ruled xs
front xs ys h = record { known = front_none is_misnamed xs ys h.known; typed = front_none is_mistyped xs ys h.typed; placed = front_none is_outside_block xs ys h.placed }

back : (xs ys : List Use) → Ruled (xs ++ ys) → Ruled ys
back xs ys h = record { known = rest_none is_misnamed xs ys h.known; typed = rest_none is_mistyped xs ys h.typed; placed = rest_none is_outside_block xs ys h.placed }

-- places

abbrev pub Elsewhere : Place → Type 0
Elsewhere callee = ⊥
Elsewhere p = Unit {0}

asking_elsewhere : (p : Place) → Asking p → Elsewhere p
asking_elsewhere (value k) h = tt
asking_elsewhere (written k) h = tt
asking_elsewhere any_bits h = tt
asking_elsewhere written_bits h = tt
asking_elsewhere one_bit h = tt
asking_elsewhere bits_or_boolean h = tt
asking_elsewhere written_header h = tt
asking_elsewhere emitted h = tt
asking_elsewhere (literal_of k) h = tt
asking_elsewhere any_literal h = tt
asking_elsewhere item_list h = tt
asking_elsewhere (member_place enum) h = tt
asking_elsewhere select_key h = tt
asking_elsewhere (table_key is_exact) h = tt
asking_elsewhere target h = tt
asking_elsewhere owner h = tt
asking_elsewhere written_owner h = tt
asking_elsewhere a_stack h = tt
asking_elsewhere callee h = absurd h
asking_elsewhere statement h = tt
asking_elsewhere unasked h = tt

unsized_only : (k : Kind) → is_unsized k ≡ true → k ≡ unsized
unsized_only (bits width) is = absurd (cc is)
unsized_only unsized is = refl
unsized_only boolean is = absurd (cc is)
unsized_only error_code is = absurd (cc is)
unsized_only (header type) is = absurd (cc is)
unsized_only (stack type size) is = absurd (cc is)
unsized_only (struct type) is = absurd (cc is)
unsized_only packet_in is = absurd (cc is)
unsized_only packet_out is = absurd (cc is)
unsized_only errors is = absurd (cc is)
unsized_only (enumeration enum) is = absurd (cc is)
unsized_only (one_of enum) is = absurd (cc is)
unsized_only table is = absurd (cc is)
unsized_only applied is = absurd (cc is)
unsized_only (object obj) is = absurd (cc is)
unsized_only items is = absurd (cc is)
unsized_only nothing is = absurd (cc is)
unsized_only unknown is = absurd (cc is)

joint_by : (C : Place → Type 0) (p : Place) (a b : Kind) → ((k : Kind) → C (value k)) → C any_bits → (a ≡ unsized → b ≡ unsized → C p) → C (joint_place p a b)
joint_by C p (bits width) b x y z = x (bits width)
joint_by C p unsized (bits w2) x y z = x (bits w2)
joint_by C p unsized unsized x y z = z refl refl
joint_by C p unsized boolean x y z = y
joint_by C p unsized error_code x y z = y
joint_by C p unsized (header t2) x y z = y
joint_by C p unsized (stack t2 n2) x y z = y
joint_by C p unsized (struct t2) x y z = y
joint_by C p unsized packet_in x y z = y
joint_by C p unsized packet_out x y z = y
joint_by C p unsized errors x y z = y
joint_by C p unsized (enumeration e2) x y z = y
joint_by C p unsized (one_of e2) x y z = y
joint_by C p unsized table x y z = y
joint_by C p unsized applied x y z = y
joint_by C p unsized (object o2) x y z = y
joint_by C p unsized items x y z = y
joint_by C p unsized nothing x y z = y
joint_by C p unsized unknown x y z = y
joint_by C p boolean (bits w2) x y z = x (bits w2)
joint_by C p boolean unsized x y z = y
joint_by C p boolean boolean x y z = y
joint_by C p boolean error_code x y z = y
joint_by C p boolean (header t2) x y z = y
joint_by C p boolean (stack t2 n2) x y z = y
joint_by C p boolean (struct t2) x y z = y
joint_by C p boolean packet_in x y z = y
joint_by C p boolean packet_out x y z = y
joint_by C p boolean errors x y z = y
joint_by C p boolean (enumeration e2) x y z = y
joint_by C p boolean (one_of e2) x y z = y
joint_by C p boolean table x y z = y
joint_by C p boolean applied x y z = y
joint_by C p boolean (object o2) x y z = y
joint_by C p boolean items x y z = y
joint_by C p boolean nothing x y z = y
joint_by C p boolean unknown x y z = y
joint_by C p error_code (bits w2) x y z = x (bits w2)
joint_by C p error_code unsized x y z = y
joint_by C p error_code boolean x y z = y
joint_by C p error_code error_code x y z = y
joint_by C p error_code (header t2) x y z = y
joint_by C p error_code (stack t2 n2) x y z = y
joint_by C p error_code (struct t2) x y z = y
joint_by C p error_code packet_in x y z = y
joint_by C p error_code packet_out x y z = y
joint_by C p error_code errors x y z = y
joint_by C p error_code (enumeration e2) x y z = y
joint_by C p error_code (one_of e2) x y z = y
joint_by C p error_code table x y z = y
joint_by C p error_code applied x y z = y
joint_by C p error_code (object o2) x y z = y
joint_by C p error_code items x y z = y
joint_by C p error_code nothing x y z = y
joint_by C p error_code unknown x y z = y
joint_by C p (header t1) (bits w2) x y z = x (bits w2)
joint_by C p (header t1) unsized x y z = y
joint_by C p (header t1) boolean x y z = y
joint_by C p (header t1) error_code x y z = y
joint_by C p (header t1) (header t2) x y z = y
joint_by C p (header t1) (stack t2 n2) x y z = y
joint_by C p (header t1) (struct t2) x y z = y
joint_by C p (header t1) packet_in x y z = y
joint_by C p (header t1) packet_out x y z = y
joint_by C p (header t1) errors x y z = y
joint_by C p (header t1) (enumeration e2) x y z = y
joint_by C p (header t1) (one_of e2) x y z = y
joint_by C p (header t1) table x y z = y
joint_by C p (header t1) applied x y z = y
joint_by C p (header t1) (object o2) x y z = y
joint_by C p (header t1) items x y z = y
joint_by C p (header t1) nothing x y z = y
joint_by C p (header t1) unknown x y z = y
joint_by C p (stack t1 n1) (bits w2) x y z = x (bits w2)
joint_by C p (stack t1 n1) unsized x y z = y
joint_by C p (stack t1 n1) boolean x y z = y
joint_by C p (stack t1 n1) error_code x y z = y
joint_by C p (stack t1 n1) (header t2) x y z = y
joint_by C p (stack t1 n1) (stack t2 n2) x y z = y
joint_by C p (stack t1 n1) (struct t2) x y z = y
joint_by C p (stack t1 n1) packet_in x y z = y
joint_by C p (stack t1 n1) packet_out x y z = y
joint_by C p (stack t1 n1) errors x y z = y
joint_by C p (stack t1 n1) (enumeration e2) x y z = y
joint_by C p (stack t1 n1) (one_of e2) x y z = y
joint_by C p (stack t1 n1) table x y z = y
joint_by C p (stack t1 n1) applied x y z = y
joint_by C p (stack t1 n1) (object o2) x y z = y
joint_by C p (stack t1 n1) items x y z = y
joint_by C p (stack t1 n1) nothing x y z = y
joint_by C p (stack t1 n1) unknown x y z = y
joint_by C p (struct t1) (bits w2) x y z = x (bits w2)
joint_by C p (struct t1) unsized x y z = y
joint_by C p (struct t1) boolean x y z = y
joint_by C p (struct t1) error_code x y z = y
joint_by C p (struct t1) (header t2) x y z = y
joint_by C p (struct t1) (stack t2 n2) x y z = y
joint_by C p (struct t1) (struct t2) x y z = y
joint_by C p (struct t1) packet_in x y z = y
joint_by C p (struct t1) packet_out x y z = y
joint_by C p (struct t1) errors x y z = y
joint_by C p (struct t1) (enumeration e2) x y z = y
joint_by C p (struct t1) (one_of e2) x y z = y
joint_by C p (struct t1) table x y z = y
joint_by C p (struct t1) applied x y z = y
joint_by C p (struct t1) (object o2) x y z = y
joint_by C p (struct t1) items x y z = y
joint_by C p (struct t1) nothing x y z = y
joint_by C p (struct t1) unknown x y z = y
joint_by C p packet_in (bits w2) x y z = x (bits w2)
joint_by C p packet_in unsized x y z = y
joint_by C p packet_in boolean x y z = y
joint_by C p packet_in error_code x y z = y
joint_by C p packet_in (header t2) x y z = y
joint_by C p packet_in (stack t2 n2) x y z = y
joint_by C p packet_in (struct t2) x y z = y
joint_by C p packet_in packet_in x y z = y
joint_by C p packet_in packet_out x y z = y
joint_by C p packet_in errors x y z = y
joint_by C p packet_in (enumeration e2) x y z = y
joint_by C p packet_in (one_of e2) x y z = y
joint_by C p packet_in table x y z = y
joint_by C p packet_in applied x y z = y
joint_by C p packet_in (object o2) x y z = y
joint_by C p packet_in items x y z = y
joint_by C p packet_in nothing x y z = y
joint_by C p packet_in unknown x y z = y
joint_by C p packet_out (bits w2) x y z = x (bits w2)
joint_by C p packet_out unsized x y z = y
joint_by C p packet_out boolean x y z = y
joint_by C p packet_out error_code x y z = y
joint_by C p packet_out (header t2) x y z = y
joint_by C p packet_out (stack t2 n2) x y z = y
joint_by C p packet_out (struct t2) x y z = y
joint_by C p packet_out packet_in x y z = y
joint_by C p packet_out packet_out x y z = y
joint_by C p packet_out errors x y z = y
joint_by C p packet_out (enumeration e2) x y z = y
joint_by C p packet_out (one_of e2) x y z = y
joint_by C p packet_out table x y z = y
joint_by C p packet_out applied x y z = y
joint_by C p packet_out (object o2) x y z = y
joint_by C p packet_out items x y z = y
joint_by C p packet_out nothing x y z = y
joint_by C p packet_out unknown x y z = y
joint_by C p errors (bits w2) x y z = x (bits w2)
joint_by C p errors unsized x y z = y
joint_by C p errors boolean x y z = y
joint_by C p errors error_code x y z = y
joint_by C p errors (header t2) x y z = y
joint_by C p errors (stack t2 n2) x y z = y
joint_by C p errors (struct t2) x y z = y
joint_by C p errors packet_in x y z = y
joint_by C p errors packet_out x y z = y
joint_by C p errors errors x y z = y
joint_by C p errors (enumeration e2) x y z = y
joint_by C p errors (one_of e2) x y z = y
joint_by C p errors table x y z = y
joint_by C p errors applied x y z = y
joint_by C p errors (object o2) x y z = y
joint_by C p errors items x y z = y
joint_by C p errors nothing x y z = y
joint_by C p errors unknown x y z = y
joint_by C p (enumeration e1) (bits w2) x y z = x (bits w2)
joint_by C p (enumeration e1) unsized x y z = y
joint_by C p (enumeration e1) boolean x y z = y
joint_by C p (enumeration e1) error_code x y z = y
joint_by C p (enumeration e1) (header t2) x y z = y
joint_by C p (enumeration e1) (stack t2 n2) x y z = y
joint_by C p (enumeration e1) (struct t2) x y z = y
joint_by C p (enumeration e1) packet_in x y z = y
joint_by C p (enumeration e1) packet_out x y z = y
joint_by C p (enumeration e1) errors x y z = y
joint_by C p (enumeration e1) (enumeration e2) x y z = y
joint_by C p (enumeration e1) (one_of e2) x y z = y
joint_by C p (enumeration e1) table x y z = y
joint_by C p (enumeration e1) applied x y z = y
joint_by C p (enumeration e1) (object o2) x y z = y
joint_by C p (enumeration e1) items x y z = y
joint_by C p (enumeration e1) nothing x y z = y
joint_by C p (enumeration e1) unknown x y z = y
joint_by C p (one_of e1) (bits w2) x y z = x (bits w2)
joint_by C p (one_of e1) unsized x y z = y
joint_by C p (one_of e1) boolean x y z = y
joint_by C p (one_of e1) error_code x y z = y
joint_by C p (one_of e1) (header t2) x y z = y
joint_by C p (one_of e1) (stack t2 n2) x y z = y
joint_by C p (one_of e1) (struct t2) x y z = y
joint_by C p (one_of e1) packet_in x y z = y
joint_by C p (one_of e1) packet_out x y z = y
joint_by C p (one_of e1) errors x y z = y
joint_by C p (one_of e1) (enumeration e2) x y z = y
joint_by C p (one_of e1) (one_of e2) x y z = y
joint_by C p (one_of e1) table x y z = y
joint_by C p (one_of e1) applied x y z = y
joint_by C p (one_of e1) (object o2) x y z = y
joint_by C p (one_of e1) items x y z = y
joint_by C p (one_of e1) nothing x y z = y
joint_by C p (one_of e1) unknown x y z = y
joint_by C p table (bits w2) x y z = x (bits w2)
joint_by C p table unsized x y z = y
joint_by C p table boolean x y z = y
joint_by C p table error_code x y z = y
joint_by C p table (header t2) x y z = y
joint_by C p table (stack t2 n2) x y z = y
joint_by C p table (struct t2) x y z = y
joint_by C p table packet_in x y z = y
joint_by C p table packet_out x y z = y
joint_by C p table errors x y z = y
joint_by C p table (enumeration e2) x y z = y
joint_by C p table (one_of e2) x y z = y
joint_by C p table table x y z = y
joint_by C p table applied x y z = y
joint_by C p table (object o2) x y z = y
joint_by C p table items x y z = y
joint_by C p table nothing x y z = y
joint_by C p table unknown x y z = y
joint_by C p applied (bits w2) x y z = x (bits w2)
joint_by C p applied unsized x y z = y
joint_by C p applied boolean x y z = y
joint_by C p applied error_code x y z = y
joint_by C p applied (header t2) x y z = y
joint_by C p applied (stack t2 n2) x y z = y
joint_by C p applied (struct t2) x y z = y
joint_by C p applied packet_in x y z = y
joint_by C p applied packet_out x y z = y
joint_by C p applied errors x y z = y
joint_by C p applied (enumeration e2) x y z = y
joint_by C p applied (one_of e2) x y z = y
joint_by C p applied table x y z = y
joint_by C p applied applied x y z = y
joint_by C p applied (object o2) x y z = y
joint_by C p applied items x y z = y
joint_by C p applied nothing x y z = y
joint_by C p applied unknown x y z = y
joint_by C p (object o1) (bits w2) x y z = x (bits w2)
joint_by C p (object o1) unsized x y z = y
joint_by C p (object o1) boolean x y z = y
joint_by C p (object o1) error_code x y z = y
joint_by C p (object o1) (header t2) x y z = y
joint_by C p (object o1) (stack t2 n2) x y z = y
joint_by C p (object o1) (struct t2) x y z = y
joint_by C p (object o1) packet_in x y z = y
joint_by C p (object o1) packet_out x y z = y
joint_by C p (object o1) errors x y z = y
joint_by C p (object o1) (enumeration e2) x y z = y
joint_by C p (object o1) (one_of e2) x y z = y
joint_by C p (object o1) table x y z = y
joint_by C p (object o1) applied x y z = y
joint_by C p (object o1) (object o2) x y z = y
joint_by C p (object o1) items x y z = y
joint_by C p (object o1) nothing x y z = y
joint_by C p (object o1) unknown x y z = y
joint_by C p items (bits w2) x y z = x (bits w2)
joint_by C p items unsized x y z = y
joint_by C p items boolean x y z = y
joint_by C p items error_code x y z = y
joint_by C p items (header t2) x y z = y
joint_by C p items (stack t2 n2) x y z = y
joint_by C p items (struct t2) x y z = y
joint_by C p items packet_in x y z = y
joint_by C p items packet_out x y z = y
joint_by C p items errors x y z = y
joint_by C p items (enumeration e2) x y z = y
joint_by C p items (one_of e2) x y z = y
joint_by C p items table x y z = y
joint_by C p items applied x y z = y
joint_by C p items (object o2) x y z = y
joint_by C p items items x y z = y
joint_by C p items nothing x y z = y
joint_by C p items unknown x y z = y
joint_by C p nothing (bits w2) x y z = x (bits w2)
joint_by C p nothing unsized x y z = y
joint_by C p nothing boolean x y z = y
joint_by C p nothing error_code x y z = y
joint_by C p nothing (header t2) x y z = y
joint_by C p nothing (stack t2 n2) x y z = y
joint_by C p nothing (struct t2) x y z = y
joint_by C p nothing packet_in x y z = y
joint_by C p nothing packet_out x y z = y
joint_by C p nothing errors x y z = y
joint_by C p nothing (enumeration e2) x y z = y
joint_by C p nothing (one_of e2) x y z = y
joint_by C p nothing table x y z = y
joint_by C p nothing applied x y z = y
joint_by C p nothing (object o2) x y z = y
joint_by C p nothing items x y z = y
joint_by C p nothing nothing x y z = y
joint_by C p nothing unknown x y z = y
joint_by C p unknown (bits w2) x y z = x (bits w2)
joint_by C p unknown unsized x y z = y
joint_by C p unknown boolean x y z = y
joint_by C p unknown error_code x y z = y
joint_by C p unknown (header t2) x y z = y
joint_by C p unknown (stack t2 n2) x y z = y
joint_by C p unknown (struct t2) x y z = y
joint_by C p unknown packet_in x y z = y
joint_by C p unknown packet_out x y z = y
joint_by C p unknown errors x y z = y
joint_by C p unknown (enumeration e2) x y z = y
joint_by C p unknown (one_of e2) x y z = y
joint_by C p unknown table x y z = y
joint_by C p unknown applied x y z = y
joint_by C p unknown (object o2) x y z = y
joint_by C p unknown items x y z = y
joint_by C p unknown nothing x y z = y
joint_by C p unknown unknown x y z = y

compared_by : (C : Place → Type 0) (a b : Kind) → ((k : Kind) → C (value k)) → C any_bits → C (compared_place a b)
compared_by C (bits width) b x y = x (bits width)
compared_by C unsized b x y = joint_by C any_bits unsized b x y (λ i j. y)
compared_by C boolean b x y = x boolean
compared_by C error_code b x y = x error_code
compared_by C (header type) b x y = joint_by C any_bits (header type) b x y (λ i j. y)
compared_by C (stack type size) b x y = joint_by C any_bits (stack type size) b x y (λ i j. y)
compared_by C (struct type) b x y = joint_by C any_bits (struct type) b x y (λ i j. y)
compared_by C packet_in b x y = joint_by C any_bits packet_in b x y (λ i j. y)
compared_by C packet_out b x y = joint_by C any_bits packet_out b x y (λ i j. y)
compared_by C errors b x y = joint_by C any_bits errors b x y (λ i j. y)
compared_by C (enumeration enum) b x y = joint_by C any_bits (enumeration enum) b x y (λ i j. y)
compared_by C (one_of enum) b x y = joint_by C any_bits (one_of enum) b x y (λ i j. y)
compared_by C table b x y = joint_by C any_bits table b x y (λ i j. y)
compared_by C applied b x y = joint_by C any_bits applied b x y (λ i j. y)
compared_by C (object obj) b x y = joint_by C any_bits (object obj) b x y (λ i j. y)
compared_by C items b x y = joint_by C any_bits items b x y (λ i j. y)
compared_by C nothing b x y = joint_by C any_bits nothing b x y (λ i j. y)
compared_by C unknown b x y = joint_by C any_bits unknown b x y (λ i j. y)

left_by : (C : Place → Type 0) (p : Place) (operator : BinaryOperator) (a b : Kind) → ((k : Kind) → C (value k)) → C any_bits → (a ≡ unsized → C p) → C (left_place p operator a b)
left_by C p Multiply a b x y z = joint_by C p a b x y (λ i j. z i)
left_by C p Add a b x y z = joint_by C p a b x y (λ i j. z i)
left_by C p Subtract a b x y z = joint_by C p a b x y (λ i j. z i)
left_by C p SaturatingAdd a b x y z = joint_by C p a b x y (λ i j. z i)
left_by C p SaturatingSubtract a b x y z = joint_by C p a b x y (λ i j. z i)
left_by C p Concatenate a b x y z = y
left_by C p ShiftLeft a b x y z = joint_by C p a a x y (λ i j. z i)
left_by C p ShiftRight a b x y z = joint_by C p a a x y (λ i j. z i)
left_by C p BitAnd a b x y z = joint_by C p a b x y (λ i j. z i)
left_by C p BitXor a b x y z = joint_by C p a b x y (λ i j. z i)
left_by C p BitOr a b x y z = joint_by C p a b x y (λ i j. z i)
left_by C p Less a b x y z = joint_by C any_bits a b x y (λ i j. y)
left_by C p LessEqual a b x y z = joint_by C any_bits a b x y (λ i j. y)
left_by C p Greater a b x y z = joint_by C any_bits a b x y (λ i j. y)
left_by C p GreaterEqual a b x y z = joint_by C any_bits a b x y (λ i j. y)
left_by C p Equal a b x y z = compared_by C a b x y
left_by C p NotEqual a b x y z = compared_by C a b x y
left_by C p And a b x y z = x boolean
left_by C p Or a b x y z = x boolean

right_by : (C : Place → Type 0) (p : Place) (operator : BinaryOperator) (a b : Kind) → ((k : Kind) → C (value k)) → C any_bits → (b ≡ unsized → C p) → C (right_place p operator a b)
right_by C p Multiply a b x y z = joint_by C p a b x y (λ i j. z j)
right_by C p Add a b x y z = joint_by C p a b x y (λ i j. z j)
right_by C p Subtract a b x y z = joint_by C p a b x y (λ i j. z j)
right_by C p SaturatingAdd a b x y z = joint_by C p a b x y (λ i j. z j)
right_by C p SaturatingSubtract a b x y z = joint_by C p a b x y (λ i j. z j)
right_by C p Concatenate a b x y z = y
right_by C p ShiftLeft a b x y z = y
right_by C p ShiftRight a b x y z = y
right_by C p BitAnd a b x y z = joint_by C p a b x y (λ i j. z j)
right_by C p BitXor a b x y z = joint_by C p a b x y (λ i j. z j)
right_by C p BitOr a b x y z = joint_by C p a b x y (λ i j. z j)
right_by C p Less a b x y z = joint_by C any_bits a b x y (λ i j. y)
right_by C p LessEqual a b x y z = joint_by C any_bits a b x y (λ i j. y)
right_by C p Greater a b x y z = joint_by C any_bits a b x y (λ i j. y)
right_by C p GreaterEqual a b x y z = joint_by C any_bits a b x y (λ i j. y)
right_by C p Equal a b x y z = compared_by C a b x y
right_by C p NotEqual a b x y z = compared_by C a b x y
right_by C p And a b x y z = x boolean
right_by C p Or a b x y z = x boolean

unary_by : (C : Place → Type 0) (p : Place) (operator : UnaryOperator) (k : Kind) → ((j : Kind) → C (value j)) → C any_bits → (k ≡ unsized → C p) → C (unary_place p operator k)
unary_by C p Not k x y z = x boolean
unary_by C p Complement k x y z = joint_by C p k k x y (λ i j. z i)
unary_by C p Negate k x y z = joint_by C p k k x y (λ i j. z i)

both_true : (t u : Bool) → (t && u) ≡ true → (t ≡ true) × (u ≡ true)
both_true true u is = (refl, is)
both_true false u is = absurd (cc is)

chosen_by : (C : Place → Type 0) (p : Place) (a b : Kind) → ((k : Kind) → C (value k)) → C any_bits → (a ≡ unsized → b ≡ unsized → C p) → C (chosen_place p a b)
chosen_by C p a b x y z = first (is_chosen a) (second (is_chosen b) (third (is_unsized a && is_unsized b) refl)) where
  third : (t : Bool) → (is_unsized a && is_unsized b) ≡ t → C (cond t p any_bits)
  third true is = let two = both_true (is_unsized a) (is_unsized b) is in z (unsized_only a two.0) (unsized_only b two.1)
  third false is = y

  second : (t : Bool) → C (cond (is_unsized a && is_unsized b) p any_bits) → C (cond t (value b) (cond (is_unsized a && is_unsized b) p any_bits))
  second true h = x b
  second false h = h

  first : (t : Bool) → C (cond (is_chosen b) (value b) (cond (is_unsized a && is_unsized b) p any_bits)) → C (cond t (value a) (cond (is_chosen b) (value b) (cond (is_unsized a && is_unsized b) p any_bits)))
  first true h = x a
  first false h = h

cast_asks : (to : CastType) → Asking (cast_place to)
cast_asks (cast_to.Bit width) = by (nat_eq width.value 1) where
  by : (t : Bool) → Asking (cond t bits_or_boolean any_bits)
  by true = tt
  by false = tt
cast_asks cast_to.Bool = tt

owner_asks : (p : Place) (o : Option Signature) → Asking (owner_place p o)
owner_asks (value k) o = tt
owner_asks (written k) o = tt
owner_asks any_bits o = tt
owner_asks written_bits o = tt
owner_asks one_bit o = tt
owner_asks bits_or_boolean o = tt
owner_asks written_header o = tt
owner_asks emitted o = tt
owner_asks (literal_of k) o = tt
owner_asks any_literal o = tt
owner_asks item_list o = tt
owner_asks (member_place enum) o = tt
owner_asks select_key o = tt
owner_asks (table_key is_exact) o = tt
owner_asks target o = tt
owner_asks owner o = tt
owner_asks written_owner o = tt
owner_asks a_stack o = tt
owner_asks callee None = tt
owner_asks callee (Some g) = by g.writes_owner where
  by : (t : Bool) → Asking (cond t written_owner owner)
  by true = tt
  by false = tt
owner_asks statement o = tt
owner_asks unasked o = tt

-- what a call of no value is at no place that asks for one
abbrev NoValue : Kind → Type 0
NoValue nothing = Unit {0}
NoValue unknown = Unit {0}
NoValue k = ⊥

nothing_taken : (j : Kind) → takes_kind j nothing ≡ false
nothing_taken (bits width) = refl
nothing_taken unsized = refl
nothing_taken boolean = refl
nothing_taken error_code = refl
nothing_taken (header type) = refl
nothing_taken (stack type size) = refl
nothing_taken (struct type) = refl
nothing_taken packet_in = refl
nothing_taken packet_out = refl
nothing_taken errors = refl
nothing_taken (enumeration enum) = refl
nothing_taken (one_of enum) = refl
nothing_taken table = refl
nothing_taken applied = refl
nothing_taken (object obj) = refl
nothing_taken items = refl
nothing_taken nothing = refl
nothing_taken unknown = refl

unknown_taken : (j : Kind) → takes_kind j unknown ≡ false
unknown_taken (bits width) = refl
unknown_taken unsized = refl
unknown_taken boolean = refl
unknown_taken error_code = refl
unknown_taken (header type) = refl
unknown_taken (stack type size) = refl
unknown_taken (struct type) = refl
unknown_taken packet_in = refl
unknown_taken packet_out = refl
unknown_taken errors = refl
unknown_taken (enumeration enum) = refl
unknown_taken (one_of enum) = refl
unknown_taken table = refl
unknown_taken applied = refl
unknown_taken (object obj) = refl
unknown_taken items = refl
unknown_taken nothing = refl
unknown_taken unknown = refl

taken_none : (j k : Kind) → NoValue k → takes_kind j k ≡ false
taken_none j (bits width) h = absurd h
taken_none j unsized h = absurd h
taken_none j boolean h = absurd h
taken_none j error_code h = absurd h
taken_none j (header type) h = absurd h
taken_none j (stack type size) h = absurd h
taken_none j (struct type) h = absurd h
taken_none j packet_in h = absurd h
taken_none j packet_out h = absurd h
taken_none j errors h = absurd h
taken_none j (enumeration enum) h = absurd h
taken_none j (one_of enum) h = absurd h
taken_none j table h = absurd h
taken_none j applied h = absurd h
taken_none j (object obj) h = absurd h
taken_none j items h = absurd h
taken_none j nothing h = nothing_taken j
taken_none j unknown h = unknown_taken j

both_false : (t : Bool) → (t && false) ≡ false
both_false true = refl
both_false false = refl

refused : (p : Place) (g more : Exp16) (k : Kind) → Asking p → NoValue k → takes p (call g more) k ≡ false
refused (value j) g more k asking none = taken_none j k none
refused (written j) g more k asking none = taken_none j k none
refused any_bits g more (bits width) asking none = absurd none
refused any_bits g more unsized asking none = absurd none
refused any_bits g more boolean asking none = absurd none
refused any_bits g more error_code asking none = absurd none
refused any_bits g more (header type) asking none = absurd none
refused any_bits g more (stack type size) asking none = absurd none
refused any_bits g more (struct type) asking none = absurd none
refused any_bits g more packet_in asking none = absurd none
refused any_bits g more packet_out asking none = absurd none
refused any_bits g more errors asking none = absurd none
refused any_bits g more (enumeration enum) asking none = absurd none
refused any_bits g more (one_of enum) asking none = absurd none
refused any_bits g more table asking none = absurd none
refused any_bits g more applied asking none = absurd none
refused any_bits g more (object obj) asking none = absurd none
refused any_bits g more items asking none = absurd none
refused any_bits g more nothing asking none = refl
refused any_bits g more unknown asking none = refl
refused written_bits g more (bits width) asking none = absurd none
refused written_bits g more unsized asking none = absurd none
refused written_bits g more boolean asking none = absurd none
refused written_bits g more error_code asking none = absurd none
refused written_bits g more (header type) asking none = absurd none
refused written_bits g more (stack type size) asking none = absurd none
refused written_bits g more (struct type) asking none = absurd none
refused written_bits g more packet_in asking none = absurd none
refused written_bits g more packet_out asking none = absurd none
refused written_bits g more errors asking none = absurd none
refused written_bits g more (enumeration enum) asking none = absurd none
refused written_bits g more (one_of enum) asking none = absurd none
refused written_bits g more table asking none = absurd none
refused written_bits g more applied asking none = absurd none
refused written_bits g more (object obj) asking none = absurd none
refused written_bits g more items asking none = absurd none
refused written_bits g more nothing asking none = refl
refused written_bits g more unknown asking none = refl
refused one_bit g more (bits width) asking none = absurd none
refused one_bit g more unsized asking none = absurd none
refused one_bit g more boolean asking none = absurd none
refused one_bit g more error_code asking none = absurd none
refused one_bit g more (header type) asking none = absurd none
refused one_bit g more (stack type size) asking none = absurd none
refused one_bit g more (struct type) asking none = absurd none
refused one_bit g more packet_in asking none = absurd none
refused one_bit g more packet_out asking none = absurd none
refused one_bit g more errors asking none = absurd none
refused one_bit g more (enumeration enum) asking none = absurd none
refused one_bit g more (one_of enum) asking none = absurd none
refused one_bit g more table asking none = absurd none
refused one_bit g more applied asking none = absurd none
refused one_bit g more (object obj) asking none = absurd none
refused one_bit g more items asking none = absurd none
refused one_bit g more nothing asking none = refl
refused one_bit g more unknown asking none = refl
refused bits_or_boolean g more (bits width) asking none = absurd none
refused bits_or_boolean g more unsized asking none = absurd none
refused bits_or_boolean g more boolean asking none = absurd none
refused bits_or_boolean g more error_code asking none = absurd none
refused bits_or_boolean g more (header type) asking none = absurd none
refused bits_or_boolean g more (stack type size) asking none = absurd none
refused bits_or_boolean g more (struct type) asking none = absurd none
refused bits_or_boolean g more packet_in asking none = absurd none
refused bits_or_boolean g more packet_out asking none = absurd none
refused bits_or_boolean g more errors asking none = absurd none
refused bits_or_boolean g more (enumeration enum) asking none = absurd none
refused bits_or_boolean g more (one_of enum) asking none = absurd none
refused bits_or_boolean g more table asking none = absurd none
refused bits_or_boolean g more applied asking none = absurd none
refused bits_or_boolean g more (object obj) asking none = absurd none
refused bits_or_boolean g more items asking none = absurd none
refused bits_or_boolean g more nothing asking none = refl
refused bits_or_boolean g more unknown asking none = refl
refused written_header g more (bits width) asking none = absurd none
refused written_header g more unsized asking none = absurd none
refused written_header g more boolean asking none = absurd none
refused written_header g more error_code asking none = absurd none
refused written_header g more (header type) asking none = absurd none
refused written_header g more (stack type size) asking none = absurd none
refused written_header g more (struct type) asking none = absurd none
refused written_header g more packet_in asking none = absurd none
refused written_header g more packet_out asking none = absurd none
refused written_header g more errors asking none = absurd none
refused written_header g more (enumeration enum) asking none = absurd none
refused written_header g more (one_of enum) asking none = absurd none
refused written_header g more table asking none = absurd none
refused written_header g more applied asking none = absurd none
refused written_header g more (object obj) asking none = absurd none
refused written_header g more items asking none = absurd none
refused written_header g more nothing asking none = refl
refused written_header g more unknown asking none = refl
refused emitted g more (bits width) asking none = absurd none
refused emitted g more unsized asking none = absurd none
refused emitted g more boolean asking none = absurd none
refused emitted g more error_code asking none = absurd none
refused emitted g more (header type) asking none = absurd none
refused emitted g more (stack type size) asking none = absurd none
refused emitted g more (struct type) asking none = absurd none
refused emitted g more packet_in asking none = absurd none
refused emitted g more packet_out asking none = absurd none
refused emitted g more errors asking none = absurd none
refused emitted g more (enumeration enum) asking none = absurd none
refused emitted g more (one_of enum) asking none = absurd none
refused emitted g more table asking none = absurd none
refused emitted g more applied asking none = absurd none
refused emitted g more (object obj) asking none = absurd none
refused emitted g more items asking none = absurd none
refused emitted g more nothing asking none = refl
refused emitted g more unknown asking none = refl
refused (literal_of j) g more k asking none = refl
refused any_literal g more k asking none = refl
refused item_list g more (bits width) asking none = absurd none
refused item_list g more unsized asking none = absurd none
refused item_list g more boolean asking none = absurd none
refused item_list g more error_code asking none = absurd none
refused item_list g more (header type) asking none = absurd none
refused item_list g more (stack type size) asking none = absurd none
refused item_list g more (struct type) asking none = absurd none
refused item_list g more packet_in asking none = absurd none
refused item_list g more packet_out asking none = absurd none
refused item_list g more errors asking none = absurd none
refused item_list g more (enumeration enum) asking none = absurd none
refused item_list g more (one_of enum) asking none = absurd none
refused item_list g more table asking none = absurd none
refused item_list g more applied asking none = absurd none
refused item_list g more (object obj) asking none = absurd none
refused item_list g more items asking none = absurd none
refused item_list g more nothing asking none = refl
refused item_list g more unknown asking none = refl
refused (member_place which) g more (bits width) asking none = absurd none
refused (member_place which) g more unsized asking none = absurd none
refused (member_place which) g more boolean asking none = absurd none
refused (member_place which) g more error_code asking none = absurd none
refused (member_place which) g more (header type) asking none = absurd none
refused (member_place which) g more (stack type size) asking none = absurd none
refused (member_place which) g more (struct type) asking none = absurd none
refused (member_place which) g more packet_in asking none = absurd none
refused (member_place which) g more packet_out asking none = absurd none
refused (member_place which) g more errors asking none = absurd none
refused (member_place which) g more (enumeration enum) asking none = absurd none
refused (member_place which) g more (one_of enum) asking none = absurd none
refused (member_place which) g more table asking none = absurd none
refused (member_place which) g more applied asking none = absurd none
refused (member_place which) g more (object obj) asking none = absurd none
refused (member_place which) g more items asking none = absurd none
refused (member_place which) g more nothing asking none = refl
refused (member_place which) g more unknown asking none = refl
refused select_key g more (bits width) asking none = absurd none
refused select_key g more unsized asking none = absurd none
refused select_key g more boolean asking none = absurd none
refused select_key g more error_code asking none = absurd none
refused select_key g more (header type) asking none = absurd none
refused select_key g more (stack type size) asking none = absurd none
refused select_key g more (struct type) asking none = absurd none
refused select_key g more packet_in asking none = absurd none
refused select_key g more packet_out asking none = absurd none
refused select_key g more errors asking none = absurd none
refused select_key g more (enumeration enum) asking none = absurd none
refused select_key g more (one_of enum) asking none = absurd none
refused select_key g more table asking none = absurd none
refused select_key g more applied asking none = absurd none
refused select_key g more (object obj) asking none = absurd none
refused select_key g more items asking none = absurd none
refused select_key g more nothing asking none = refl
refused select_key g more unknown asking none = refl
refused (table_key is_exact) g more (bits width) asking none = absurd none
refused (table_key is_exact) g more unsized asking none = absurd none
refused (table_key is_exact) g more boolean asking none = absurd none
refused (table_key is_exact) g more error_code asking none = absurd none
refused (table_key is_exact) g more (header type) asking none = absurd none
refused (table_key is_exact) g more (stack type size) asking none = absurd none
refused (table_key is_exact) g more (struct type) asking none = absurd none
refused (table_key is_exact) g more packet_in asking none = absurd none
refused (table_key is_exact) g more packet_out asking none = absurd none
refused (table_key is_exact) g more errors asking none = absurd none
refused (table_key is_exact) g more (enumeration enum) asking none = absurd none
refused (table_key is_exact) g more (one_of enum) asking none = absurd none
refused (table_key is_exact) g more table asking none = absurd none
refused (table_key is_exact) g more applied asking none = absurd none
refused (table_key is_exact) g more (object obj) asking none = absurd none
refused (table_key is_exact) g more items asking none = absurd none
refused (table_key is_exact) g more nothing asking none = both_false is_exact
refused (table_key is_exact) g more unknown asking none = both_false is_exact
refused target g more k asking none = absurd asking
refused owner g more (bits width) asking none = absurd none
refused owner g more unsized asking none = absurd none
refused owner g more boolean asking none = absurd none
refused owner g more error_code asking none = absurd none
refused owner g more (header type) asking none = absurd none
refused owner g more (stack type size) asking none = absurd none
refused owner g more (struct type) asking none = absurd none
refused owner g more packet_in asking none = absurd none
refused owner g more packet_out asking none = absurd none
refused owner g more errors asking none = absurd none
refused owner g more (enumeration enum) asking none = absurd none
refused owner g more (one_of enum) asking none = absurd none
refused owner g more table asking none = absurd none
refused owner g more applied asking none = absurd none
refused owner g more (object obj) asking none = absurd none
refused owner g more items asking none = absurd none
refused owner g more nothing asking none = refl
refused owner g more unknown asking none = refl
refused written_owner g more (bits width) asking none = absurd none
refused written_owner g more unsized asking none = absurd none
refused written_owner g more boolean asking none = absurd none
refused written_owner g more error_code asking none = absurd none
refused written_owner g more (header type) asking none = absurd none
refused written_owner g more (stack type size) asking none = absurd none
refused written_owner g more (struct type) asking none = absurd none
refused written_owner g more packet_in asking none = absurd none
refused written_owner g more packet_out asking none = absurd none
refused written_owner g more errors asking none = absurd none
refused written_owner g more (enumeration enum) asking none = absurd none
refused written_owner g more (one_of enum) asking none = absurd none
refused written_owner g more table asking none = absurd none
refused written_owner g more applied asking none = absurd none
refused written_owner g more (object obj) asking none = absurd none
refused written_owner g more items asking none = absurd none
refused written_owner g more nothing asking none = refl
refused written_owner g more unknown asking none = refl
refused a_stack g more (bits width) asking none = absurd none
refused a_stack g more unsized asking none = absurd none
refused a_stack g more boolean asking none = absurd none
refused a_stack g more error_code asking none = absurd none
refused a_stack g more (header type) asking none = absurd none
refused a_stack g more (stack type size) asking none = absurd none
refused a_stack g more (struct type) asking none = absurd none
refused a_stack g more packet_in asking none = absurd none
refused a_stack g more packet_out asking none = absurd none
refused a_stack g more errors asking none = absurd none
refused a_stack g more (enumeration enum) asking none = absurd none
refused a_stack g more (one_of enum) asking none = absurd none
refused a_stack g more table asking none = absurd none
refused a_stack g more applied asking none = absurd none
refused a_stack g more (object obj) asking none = absurd none
refused a_stack g more items asking none = absurd none
refused a_stack g more nothing asking none = refl
refused a_stack g more unknown asking none = refl
refused callee g more k asking none = absurd asking
refused statement g more k asking none = absurd asking
refused unasked g more k asking none = absurd asking

no_value : (k : Kind) → NoValue k → k ≡ unsized → ⊥
no_value (bits width) none is = none
no_value unsized none is = none
no_value boolean none is = none
no_value error_code none is = none
no_value (header type) none is = none
no_value (stack type size) none is = none
no_value (struct type) none is = none
no_value packet_in none is = none
no_value packet_out none is = none
no_value errors none is = none
no_value (enumeration enum) none is = none
no_value (one_of enum) none is = none
no_value table none is = none
no_value applied none is = none
no_value (object obj) none is = none
no_value items none is = none
no_value nothing none is = cc is
no_value unknown none is = cc is

stack_gives : (type : Name) (size : ℕ) (word : Name) → NoValue (call_kind (method_signature (stack type size) word))
stack_gives type size word = by (bytes_eq word (codes "push_front")) (bytes_eq word (codes "pop_front")) where
  by : (t u : Bool) → NoValue (call_kind (cond t (Some (method true (literal_of (bits 32) ∷ []) nothing)) (cond u (Some (method true (literal_of (bits 32) ∷ []) nothing)) None)))
  by true u = tt
  by false true = tt
  by false false = tt

-- where an expression stands, or the items of a list

abbrev pub Here : Place → Kind → Type 0
Here p k = Asking p ⊎ (k ≡ unsized)

abbrev pub CallHere : Scope → Place → Exp16 → Type 0
CallHere s p (call g more) = Here p (kind_of s (call g more))
CallHere s p e = Unit {0}

here_call : (s : Scope) (p : Place) (e : Exp16) → Here p (kind_of s e) → CallHere s p e
here_call s p (literal n) h = tt
here_call s p (truth holds) h = tt
here_call s p error h = tt
here_call s p (name text) h = tt
here_call s p (member e word) h = tt
here_call s p (index e at) h = tt
here_call s p (slice e high low) h = tt
here_call s p (call g more) h = h
here_call s p (lookahead e to more) h = tt
here_call s p (cast to e) h = tt
here_call s p (unary operator e) h = tt
here_call s p (binary operator a d) h = tt
here_call s p (choice c a d) h = tt
here_call s p (parenthesized e) h = tt
here_call s p no_arguments h = tt
here_call s p (argument before last) h = tt
here_call s p (listed es) h = tt

abbrev pub judged : Scope → Bool → Place → Exp16 → List Use
judged s true p e = uses_at s (many [] any_bits) e
judged s false p e = uses s p e

abbrev pub Stands : Scope → Bool → Place → Exp16 → Type 0
Stands s true p e = Unit {0}
Stands s false p e = Elsewhere p × CallHere s p e

module _ (s : Scope) (out : OutsideParsers s) where
  asked : (p : Place) (e : Exp16) → Asking p → Stands s false p e
  asked p e asking = (asking_elsewhere p asking, here_call s p e (inl asking))

  -- of a member of an owner of this kind
  unknown_there : (p : Place) (e : Exp16) (word : Name) → Elsewhere p → is_unknown_member s p e word ≡ (is_none (member_kind s.layouts (kind_of s e) word) && not (is_plain (kind_of s e)))
  unknown_there (value k) e word there = refl
  unknown_there (written k) e word there = refl
  unknown_there any_bits e word there = refl
  unknown_there written_bits e word there = refl
  unknown_there one_bit e word there = refl
  unknown_there bits_or_boolean e word there = refl
  unknown_there written_header e word there = refl
  unknown_there emitted e word there = refl
  unknown_there (literal_of k) e word there = refl
  unknown_there any_literal e word there = refl
  unknown_there item_list e word there = refl
  unknown_there (member_place enum) e word there = refl
  unknown_there select_key e word there = refl
  unknown_there (table_key is_exact) e word there = refl
  unknown_there target e word there = refl
  unknown_there owner e word there = refl
  unknown_there written_owner e word there = refl
  unknown_there a_stack e word there = refl
  unknown_there callee e word there = absurd there
  unknown_there statement e word there = refl
  unknown_there unasked e word there = refl

  stack_never : (type : Name) (size : ℕ) (word : Name) → (is_none (member_kind s.layouts (stack type size) word) && true) ≡ false → ((true && is_place_word word) && not (is_parser_part s.part)) ≡ false → ⊥
  stack_never type size word = by_word (is_place_word word) (is_parser_part s.part) out.part where
    by_word : (t u : Bool) → u ≡ false → (is_none (cond t (Some (header type)) None) && true) ≡ false → ((true && t) && not u) ≡ false → ⊥
    by_word true true x y k = cc x
    by_word true false x y k = cc k
    by_word false u x y k = cc y

  applied_told : (word : Name) → (is_none (member_kind s.layouts applied word) && true) ≡ false → IsTold applied word
  applied_told word = by (bytes_eq word (codes "hit")) (bytes_eq word (codes "miss")) refl refl where
    by : (t u : Bool) → bytes_eq word (codes "hit") ≡ t → bytes_eq word (codes "miss") ≡ u → (is_none (cond (t || (u || false)) (Some boolean) None) && true) ≡ false → (bytes_eq word (codes "hit") ≡ true) ⊎ (bytes_eq word (codes "miss") ≡ true)
    by true u x y h = inl x
    by false true x y h = inr y
    by false false x y h = absurd (cc h)

  member_told : (p : Place) (e : Exp16) (word : Name) → Elsewhere p → Ruled (an_expression s p (member e word) ∷ []) → IsTold (kind_of s e) word
  member_told p e word there h = by (kind_of s e) known placed where
    known : (is_none (member_kind s.layouts (kind_of s e) word) && not (is_plain (kind_of s e))) ≡ false
    known = sym (unknown_there p e word there) ∙ first_false (is_unknown_member s p e word) false h.known

    placed : ((is_stack (kind_of s e) && is_place_word word) && not (is_parser_part s.part)) ≡ false
    placed = first_false ((is_stack (kind_of s e) && is_place_word word) && not (is_parser_part s.part)) false h.placed

    by : (k : Kind) → (is_none (member_kind s.layouts k word) && not (is_plain k)) ≡ false → ((is_stack k && is_place_word word) && not (is_parser_part s.part)) ≡ false → IsTold k word
    by (bits width) x y = tt
    by unsized x y = tt
    by boolean x y = tt
    by error_code x y = tt
    by (header type) x y = tt
    by (stack type size) x y = stack_never type size word x y
    by (struct type) x y = tt
    by packet_in x y = tt
    by packet_out x y = tt
    by errors x y = tt
    by (enumeration enum) x y = tt
    by (one_of enum) x y = tt
    by table x y = tt
    by applied x y = applied_told word x
    by (object obj) x y = tt
    by items x y = tt
    by nothing x y = tt
    by unknown x y = tt

  -- a method that is called in an expression
  method_told : (p : Place) (e more : Exp16) (word : Name) → Here p (kind_of s (call (member e word) more)) → Ruled (an_expression s p (call (member e word) more) ∷ an_expression s callee (member e word) ∷ []) → IsTold (kind_of s e) word
  method_told p e more word here h = by (kind_of s e) here (first_false (is_mistyped (an_expression s p (call (member e word) more))) (list_any is_mistyped (an_expression s callee (member e word) ∷ [])) h.typed) (first_false (is_misnamed (an_expression s callee (member e word))) false (second_false (is_misnamed (an_expression s p (call (member e word) more))) (list_any is_misnamed (an_expression s callee (member e word) ∷ [])) h.known)) where
    nowhere : (k : Kind) → NoValue k → Here p k → not (takes p (call (member e word) more) k) ≡ false → ⊥
    nowhere k none (inl asking) typed = cc (sym typed ∙ ap not (refused p (member e word) more k asking none))
    nowhere k none (inr is) typed = no_value k none is

    by : (k : Kind) → Here p (call_kind (method_signature k word)) → not (takes p (call (member e word) more) (call_kind (method_signature k word))) ≡ false → (is_none (method_signature k word) && not (is_plain k)) ≡ false → IsTold k word
    by (bits width) x y z = tt
    by unsized x y z = tt
    by boolean x y z = tt
    by error_code x y z = tt
    by (header type) x y z = tt
    by (stack type size) x y z = nowhere (call_kind (method_signature (stack type size) word)) (stack_gives type size word) x y
    by (struct type) x y z = tt
    by packet_in x y z = tt
    by packet_out x y z = tt
    by errors x y z = tt
    by (enumeration enum) x y z = tt
    by (one_of enum) x y z = tt
    by table x y z = tt
    by applied x y z = absurd (cc z)
    by (object obj) x y z = tt
    by items x y z = tt
    by nothing x y z = tt
    by unknown x y z = tt

  -- only names and members are called
  pub head_of : (p : Place) (e : Exp16) (test : Use → Bool) → list_any test (uses_at s (one p) e) ≡ false → test (an_expression s p e) ≡ false
  head_of p (literal n) test none = first_false (test (an_expression s p (literal n))) _ none
  head_of p (truth holds) test none = first_false (test (an_expression s p (truth holds))) _ none
  head_of p error test none = first_false (test (an_expression s p error)) _ none
  head_of p (name text) test none = first_false (test (an_expression s p (name text))) _ none
  head_of p (member e word) test none = first_false (test (an_expression s p (member e word))) _ none
  head_of p (index e i) test none = first_false (test (an_expression s p (index e i))) _ none
  head_of p (slice e high low) test none = first_false (test (an_expression s p (slice e high low))) _ none
  head_of p (call g more) test none = first_false (test (an_expression s p (call g more))) _ none
  head_of p (lookahead e to more) test none = first_false (test (an_expression s p (lookahead e to more))) _ none
  head_of p (cast to e) test none = first_false (test (an_expression s p (cast to e))) _ none
  head_of p (unary operator e) test none = first_false (test (an_expression s p (unary operator e))) _ none
  head_of p (binary operator a d) test none = first_false (test (an_expression s p (binary operator a d))) _ none
  head_of p (choice c a d) test none = first_false (test (an_expression s p (choice c a d))) _ none
  head_of p (parenthesized e) test none = first_false (test (an_expression s p (parenthesized e))) _ none
  head_of p no_arguments test none = first_false (test (an_expression s p no_arguments)) _ none
  head_of p (argument before last) test none = first_false (test (an_expression s p (argument before last))) _ none
  head_of p (listed es) test none = first_false (test (an_expression s p (listed es))) _ none

  own_typed : (g : Exp16) → list_any is_mistyped (uses s callee g) ≡ false → not (is_named_callee g) ≡ false
  own_typed g typed = head_of callee g is_mistyped typed

  never_called : (p : Place) (g more : Exp16) → is_named_callee g ≡ false → Ruled (uses s p (call g more)) → ⊥
  never_called p g more other h =
      let args : List Use = uses_at s (many (wanted_by (signature_of s g)) unasked) more in
      let own : Ruled (uses s callee g) = back (an_expression s p (call g more) ∷ []) (uses s callee g) (front (an_expression s p (call g more) ∷ uses s callee g) args h) in
      cc (sym (own_typed g own.typed) ∙ ap not other)

  ahead_never : (p : Place) (x : Bool) → x ≡ false → not x ≡ false → ⊥
  ahead_never p true out_of h = cc out_of
  ahead_never p false out_of h = cc h

  pub told : (e : Exp16) (lists : Bool) (p : Place) → Stands s lists p e → Ruled (judged s lists p e) → ToldIn s lists e
  told (literal n) true p at h = tt
  told (truth holds) true p at h = tt
  told error true p at h = tt
  told (name text) true p at h = tt
  told (member e word) true p at h = tt
  told (index e i) true p at h = tt
  told (slice e high low) true p at h = tt
  told (call g more) true p at h = tt
  told (lookahead e to more) true p at h = tt
  told (cast to e) true p at h = tt
  told (unary operator e) true p at h = tt
  told (binary operator a d) true p at h = tt
  told (choice c a d) true p at h = tt
  told (parenthesized e) true p at h = tt
  told no_arguments true p at h = tt
  told (argument before last) true p at h =
      (told before true p tt (front (uses_at s (many [] any_bits) before) (uses s any_bits last) h), told last false any_bits (asked any_bits last tt) (back (uses_at s (many [] any_bits) before) (uses s any_bits last) h))
  told (listed es) true p at h = tt
  told (literal n) false p at h = tt
  told (truth holds) false p at h = tt
  told error false p at h = tt
  told (name text) false p at h = tt
  told (member e word) false p at h =
      let q : Place = owner_place p (method_signature (kind_of s e) word) in
      (member_told p e word at.0 (front (an_expression s p (member e word) ∷ []) (uses s q e) h), told e false q (asked q e (owner_asks p (method_signature (kind_of s e) word))) (back (an_expression s p (member e word) ∷ []) (uses s q e) h))
  told (index e i) false p at h = told e false a_stack (asked a_stack e tt) (back (an_expression s p (index e i) ∷ a_number i ∷ []) (uses s a_stack e) h)
  told (slice e high low) false p at h = told e false any_bits (asked any_bits e tt) (back (an_expression s p (slice e high low) ∷ a_number high ∷ a_number low ∷ []) (uses s any_bits e) h)
  told (call (literal n) more) false p at h = absurd (never_called p (literal n) more refl h)
  told (call (truth holds) more) false p at h = absurd (never_called p (truth holds) more refl h)
  told (call error more) false p at h = absurd (never_called p error more refl h)
  told (call (name text) more) false p at h = tt
  told (call (member e word) more) false p at h =
      let q : Place = owner_place callee (method_signature (kind_of s e) word) in
      let two : List Use = an_expression s p (call (member e word) more) ∷ an_expression s callee (member e word) ∷ [] in
      let inside : Ruled (two ++ uses s q e) = front (two ++ uses s q e) (uses_at s (many (wanted_by (signature_of s (member e word))) unasked) more) h in
      (method_told p e more word at.1 (front two (uses s q e) inside), told e false q (asked q e (owner_asks callee (method_signature (kind_of s e) word))) (back two (uses s q e) inside))
  told (call (index e i) more) false p at h = absurd (never_called p (index e i) more refl h)
  told (call (slice e high low) more) false p at h = absurd (never_called p (slice e high low) more refl h)
  told (call (call f again) more) false p at h = absurd (never_called p (call f again) more refl h)
  told (call (lookahead e to again) more) false p at h = absurd (never_called p (lookahead e to again) more refl h)
  told (call (cast to e) more) false p at h = absurd (never_called p (cast to e) more refl h)
  told (call (unary operator e) more) false p at h = absurd (never_called p (unary operator e) more refl h)
  told (call (binary operator a d) more) false p at h = absurd (never_called p (binary operator a d) more refl h)
  told (call (choice c a d) more) false p at h = absurd (never_called p (choice c a d) more refl h)
  told (call (parenthesized e) more) false p at h = absurd (never_called p (parenthesized e) more refl h)
  told (call no_arguments more) false p at h = absurd (never_called p no_arguments more refl h)
  told (call (argument before last) more) false p at h = absurd (never_called p (argument before last) more refl h)
  told (call (listed es) more) false p at h = absurd (never_called p (listed es) more refl h)
  told (lookahead e to more) false p at h = absurd (ahead_never p (are_allowed (parser_position ∷ []) s.positions) out.positions (head_of p (lookahead e to more) is_outside_block h.placed))
  told (cast to e) false p at h = told e false (cast_place to) (asked (cast_place to) e (cast_asks to)) (back (an_expression s p (cast to e) ∷ cast_numbers to) (uses s (cast_place to) e) h)
  told (unary operator e) false p at h =
      let q : Place = unary_place p operator (kind_of s e) in
      let there : Elsewhere q × Here q (kind_of s e) = unary_by (λ r. Elsewhere r × Here r (kind_of s e)) p operator (kind_of s e) (λ k. (tt, inl tt)) (tt, inl tt) (λ is. (at.0, inr is)) in
      told e false q (there.0, here_call s q e there.1) (back (an_expression s p (unary operator e) ∷ []) (uses s q e) h)
  told (binary operator a d) false p at h =
      let q : Place = left_place p operator (kind_of s a) (kind_of s d) in
      let r : Place = right_place p operator (kind_of s a) (kind_of s d) in
      let left : Elsewhere q × Here q (kind_of s a) = left_by (λ i. Elsewhere i × Here i (kind_of s a)) p operator (kind_of s a) (kind_of s d) (λ k. (tt, inl tt)) (tt, inl tt) (λ is. (at.0, inr is)) in
      let right : Elsewhere r × Here r (kind_of s d) = right_by (λ i. Elsewhere i × Here i (kind_of s d)) p operator (kind_of s a) (kind_of s d) (λ k. (tt, inl tt)) (tt, inl tt) (λ is. (at.0, inr is)) in
      let whole : List Use = an_expression s p (binary operator a d) ∷ [] in
      (told a false q (left.0, here_call s q a left.1) (back whole (uses s q a) (front (whole ++ uses s q a) (uses s r d) h)), told d false r (right.0, here_call s r d right.1) (back (whole ++ uses s q a) (uses s r d) h))
  told (choice c a d) false p at h =
      let q : Place = chosen_place p (kind_of s a) (kind_of s d) in
      let left : Elsewhere q × Here q (kind_of s a) = chosen_by (λ i. Elsewhere i × Here i (kind_of s a)) p (kind_of s a) (kind_of s d) (λ k. (tt, inl tt)) (tt, inl tt) (λ is same. (at.0, inr is)) in
      let right : Elsewhere q × Here q (kind_of s d) = chosen_by (λ i. Elsewhere i × Here i (kind_of s d)) p (kind_of s a) (kind_of s d) (λ k. (tt, inl tt)) (tt, inl tt) (λ same is. (at.0, inr is)) in
      let whole : List Use = an_expression s p (choice c a d) ∷ [] in
      let inner : List Use = (whole ++ uses s (value boolean) c) ++ uses s q a in (
        told c false (value boolean) (asked (value boolean) c tt) (back whole (uses s (value boolean) c) (front (whole ++ uses s (value boolean) c) (uses s q a) (front inner (uses s q d) h))),
        told a false q (left.0, here_call s q a left.1) (back (whole ++ uses s (value boolean) c) (uses s q a) (front inner (uses s q d) h)),
        told d false q (right.0, here_call s q d right.1) (back inner (uses s q d) h),
      )
  told (parenthesized e) false p at h = tt
  told no_arguments false p at h = tt
  told (argument before last) false p at h = tt
  told (listed es) false p at h = told es true any_bits tt (back (an_expression s p (listed es) ∷ []) (uses_at s (many [] any_bits) es) h)

  -- arguments of calls

  abbrev AllAsking : List Place → Type 0
  AllAsking [] = Unit {0}
  AllAsking (p ∷ places) = Asking p × AllAsking places

  nth_asks : (places : List Place) (n : ℕ) → AllAsking places → n < length places → Asking (get_or places n unasked)
  nth_asks [] n all lt = absurd (omega (arith, lt))
  nth_asks (p ∷ places) zero all lt = all.0
  nth_asks (p ∷ places) (suc n) all lt = nth_asks places n all.1 (omega (arith, lt))

  each_more : (P : Exp16 → Type 0) (es : List Exp16) (e : Exp16) → Each P es → P e → Each P (es ++ e ∷ [])
  each_more P [] e all last = (last, tt)
  each_more P (x ∷ es) e all last = (all.0, each_more P es e all.1 last)

  arguments_told : (places : List Place) (e : Exp16) → AllAsking places → argument_count e ≤ length places → Ruled (uses_at s (many places unasked) e) → Each (ToldNone s) (arguments_of e)
  arguments_told places (argument before last) all le h =
      let p : Place = get_or places (argument_count before) unasked in
      let there : Asking p = nth_asks places (argument_count before) all (omega (arith, le)) in
      each_more (ToldNone s) (arguments_of before) last
      (arguments_told places before all (omega (arith, le)) (front (uses_at s (many places unasked) before) (uses s p last) h))
      (told last false p (asked p last there) (back (uses_at s (many places unasked) before) (uses s p last) h))
  arguments_told places (literal n) all le h = tt
  arguments_told places (truth holds) all le h = tt
  arguments_told places error all le h = tt
  arguments_told places (name text) all le h = tt
  arguments_told places (member e word) all le h = tt
  arguments_told places (index e at) all le h = tt
  arguments_told places (slice e high low) all le h = tt
  arguments_told places (call g more) all le h = tt
  arguments_told places (lookahead e to more) all le h = tt
  arguments_told places (cast to e) all le h = tt
  arguments_told places (unary operator e) all le h = tt
  arguments_told places (binary operator a d) all le h = tt
  arguments_told places (choice c a d) all le h = tt
  arguments_told places (parenthesized e) all le h = tt
  arguments_told places no_arguments all le h = tt
  arguments_told places (listed es) all le h = tt

  -- what calls want asks for something

  handed_ask : (hs : List Handed) → AllAsking (map place_of hs)
  handed_ask [] = tt
  handed_ask (h ∷ hs) = (by h.is_written, handed_ask hs) where
    by : (t : Bool) → Asking (cond t (written h.kind) (value h.kind))
    by true = tt
    by false = tt

  wants : (t : Bool) (x y : Option Signature) → AllAsking (wanted_by x) → AllAsking (wanted_by y) → AllAsking (wanted_by (cond t x y))
  wants true x y h g = h
  wants false x y h g = g

  function_asks : (text : Name) → AllAsking (wanted_by (function_signature text))
  function_asks text = wants (bytes_eq text (codes "mark_to_drop")) (Some (in_pipelines (written standard ∷ []))) (cond (bytes_eq text (codes "hash")) (Some (in_pipelines (written_bits ∷ member_place hash_algorithm ∷ any_bits ∷ item_list ∷ any_bits ∷ []))) (cond (bytes_eq text (codes "verify_checksum")) (Some (extern_at (verify_position ∷ []) (checksum_places any_bits))) (cond (bytes_eq text (codes "verify_checksum_with_payload")) (Some (extern_at (verify_position ∷ []) (checksum_places any_bits))) (cond (bytes_eq text (codes "update_checksum")) (Some (extern_at (compute_position ∷ []) (checksum_places written_bits))) (cond (bytes_eq text (codes "update_checksum_with_payload")) (Some (extern_at (compute_position ∷ []) (checksum_places written_bits))) (cond (bytes_eq text (codes "clone_preserving_field_list")) (Some clone_signature) (cond (bytes_eq text (codes "resubmit_preserving_field_list")) (Some (extern_at (ingress_position ∷ []) (list_number ∷ []))) (cond (bytes_eq text (codes "recirculate_preserving_field_list")) (Some (extern_at (egress_position ∷ []) (list_number ∷ []))) None)))))))) (tt, tt) (wants (bytes_eq text (codes "hash")) (Some (in_pipelines (written_bits ∷ member_place hash_algorithm ∷ any_bits ∷ item_list ∷ any_bits ∷ []))) (cond (bytes_eq text (codes "verify_checksum")) (Some (extern_at (verify_position ∷ []) (checksum_places any_bits))) (cond (bytes_eq text (codes "verify_checksum_with_payload")) (Some (extern_at (verify_position ∷ []) (checksum_places any_bits))) (cond (bytes_eq text (codes "update_checksum")) (Some (extern_at (compute_position ∷ []) (checksum_places written_bits))) (cond (bytes_eq text (codes "update_checksum_with_payload")) (Some (extern_at (compute_position ∷ []) (checksum_places written_bits))) (cond (bytes_eq text (codes "clone_preserving_field_list")) (Some clone_signature) (cond (bytes_eq text (codes "resubmit_preserving_field_list")) (Some (extern_at (ingress_position ∷ []) (list_number ∷ []))) (cond (bytes_eq text (codes "recirculate_preserving_field_list")) (Some (extern_at (egress_position ∷ []) (list_number ∷ []))) None))))))) (tt, (tt, (tt, (tt, (tt, tt))))) (wants (bytes_eq text (codes "verify_checksum")) (Some (extern_at (verify_position ∷ []) (checksum_places any_bits))) (cond (bytes_eq text (codes "verify_checksum_with_payload")) (Some (extern_at (verify_position ∷ []) (checksum_places any_bits))) (cond (bytes_eq text (codes "update_checksum")) (Some (extern_at (compute_position ∷ []) (checksum_places written_bits))) (cond (bytes_eq text (codes "update_checksum_with_payload")) (Some (extern_at (compute_position ∷ []) (checksum_places written_bits))) (cond (bytes_eq text (codes "clone_preserving_field_list")) (Some clone_signature) (cond (bytes_eq text (codes "resubmit_preserving_field_list")) (Some (extern_at (ingress_position ∷ []) (list_number ∷ []))) (cond (bytes_eq text (codes "recirculate_preserving_field_list")) (Some (extern_at (egress_position ∷ []) (list_number ∷ []))) None)))))) (tt, (tt, (tt, (tt, tt)))) (wants (bytes_eq text (codes "verify_checksum_with_payload")) (Some (extern_at (verify_position ∷ []) (checksum_places any_bits))) (cond (bytes_eq text (codes "update_checksum")) (Some (extern_at (compute_position ∷ []) (checksum_places written_bits))) (cond (bytes_eq text (codes "update_checksum_with_payload")) (Some (extern_at (compute_position ∷ []) (checksum_places written_bits))) (cond (bytes_eq text (codes "clone_preserving_field_list")) (Some clone_signature) (cond (bytes_eq text (codes "resubmit_preserving_field_list")) (Some (extern_at (ingress_position ∷ []) (list_number ∷ []))) (cond (bytes_eq text (codes "recirculate_preserving_field_list")) (Some (extern_at (egress_position ∷ []) (list_number ∷ []))) None))))) (tt, (tt, (tt, (tt, tt)))) (wants (bytes_eq text (codes "update_checksum")) (Some (extern_at (compute_position ∷ []) (checksum_places written_bits))) (cond (bytes_eq text (codes "update_checksum_with_payload")) (Some (extern_at (compute_position ∷ []) (checksum_places written_bits))) (cond (bytes_eq text (codes "clone_preserving_field_list")) (Some clone_signature) (cond (bytes_eq text (codes "resubmit_preserving_field_list")) (Some (extern_at (ingress_position ∷ []) (list_number ∷ []))) (cond (bytes_eq text (codes "recirculate_preserving_field_list")) (Some (extern_at (egress_position ∷ []) (list_number ∷ []))) None)))) (tt, (tt, (tt, (tt, tt)))) (wants (bytes_eq text (codes "update_checksum_with_payload")) (Some (extern_at (compute_position ∷ []) (checksum_places written_bits))) (cond (bytes_eq text (codes "clone_preserving_field_list")) (Some clone_signature) (cond (bytes_eq text (codes "resubmit_preserving_field_list")) (Some (extern_at (ingress_position ∷ []) (list_number ∷ []))) (cond (bytes_eq text (codes "recirculate_preserving_field_list")) (Some (extern_at (egress_position ∷ []) (list_number ∷ []))) None))) (tt, (tt, (tt, (tt, tt)))) (wants (bytes_eq text (codes "clone_preserving_field_list")) (Some clone_signature) (cond (bytes_eq text (codes "resubmit_preserving_field_list")) (Some (extern_at (ingress_position ∷ []) (list_number ∷ []))) (cond (bytes_eq text (codes "recirculate_preserving_field_list")) (Some (extern_at (egress_position ∷ []) (list_number ∷ []))) None)) (tt, (tt, (tt, tt))) (wants (bytes_eq text (codes "resubmit_preserving_field_list")) (Some (extern_at (ingress_position ∷ []) (list_number ∷ []))) (cond (bytes_eq text (codes "recirculate_preserving_field_list")) (Some (extern_at (egress_position ∷ []) (list_number ∷ []))) None) (tt, tt) (wants (bytes_eq text (codes "recirculate_preserving_field_list")) (Some (extern_at (egress_position ∷ []) (list_number ∷ []))) None (tt, tt) tt))))))))

  method_asks : (k : Kind) (word : Name) → AllAsking (wanted_by (method_signature k word))
  method_asks (bits width) word = tt
  method_asks unsized word = tt
  method_asks boolean word = tt
  method_asks error_code word = tt
  method_asks (header type) word = wants (bytes_eq word (codes "isValid")) (Some (method false [] boolean)) (cond (bytes_eq word (codes "setValid")) (Some (method true [] nothing)) (cond (bytes_eq word (codes "setInvalid")) (Some (method true [] nothing)) None)) tt (wants (bytes_eq word (codes "setValid")) (Some (method true [] nothing)) (cond (bytes_eq word (codes "setInvalid")) (Some (method true [] nothing)) None) tt (wants (bytes_eq word (codes "setInvalid")) (Some (method true [] nothing)) None tt tt))
  method_asks (stack type size) word = wants (bytes_eq word (codes "push_front")) (Some (method true (literal_of (bits 32) ∷ []) nothing)) (cond (bytes_eq word (codes "pop_front")) (Some (method true (literal_of (bits 32) ∷ []) nothing)) None) (tt, tt) (wants (bytes_eq word (codes "pop_front")) (Some (method true (literal_of (bits 32) ∷ []) nothing)) None (tt, tt) tt)
  method_asks (struct type) word = tt
  method_asks packet_in word = wants (bytes_eq word (codes "extract")) (Some (extern_at (parser_position ∷ []) (written_header ∷ []))) None (tt, tt) tt
  method_asks packet_out word = wants (bytes_eq word (codes "emit")) (Some (extern_at (deparser_position ∷ []) (emitted ∷ []))) None (tt, tt) tt
  method_asks errors word = tt
  method_asks (enumeration enum) word = tt
  method_asks (one_of enum) word = tt
  method_asks table word = wants (bytes_eq word (codes "apply")) (Some (method false [] applied)) None tt tt
  method_asks applied word = tt
  method_asks (object counter) word = wants (bytes_eq word (codes "count")) (Some (in_pipelines (index_place ∷ []))) None (tt, tt) tt
  method_asks (object direct_counter) word = wants (bytes_eq word (codes "count")) (Some counts_by_entry) None tt tt
  method_asks (object register) word = wants (bytes_eq word (codes "read")) (Some (in_pipelines (written_bits ∷ index_place ∷ []))) (cond (bytes_eq word (codes "write")) (Some (in_pipelines (index_place ∷ any_bits ∷ []))) None) (tt, (tt, tt)) (wants (bytes_eq word (codes "write")) (Some (in_pipelines (index_place ∷ any_bits ∷ []))) None (tt, (tt, tt)) tt)
  method_asks (object meter) word = wants (bytes_eq word (codes "execute_meter")) (Some (in_pipelines (index_place ∷ written_bits ∷ []))) None (tt, (tt, tt)) tt
  method_asks items word = tt
  method_asks nothing word = tt
  method_asks unknown word = tt

  sort_asks : (x : Sort) (text : Name) → AllAsking (wanted_by (sort_signature x text))
  sort_asks (a_type k) text = tt
  sort_asks (a_value k can) text = tt
  sort_asks (an_enumeration enum) text = tt
  sort_asks a_function text = function_asks text
  sort_asks (an_object obj) text = tt
  sort_asks (an_action plane hs) text = handed_ask hs
  sort_asks (a_table actions counters) text = tt
  sort_asks a_state text = tt
  sort_asks a_block text = tt
  sort_asks undeclared text = tt

  signature_asks : (g : Exp16) → AllAsking (wanted_by (signature_of s g))
  signature_asks (literal n) = tt
  signature_asks (truth holds) = tt
  signature_asks error = tt
  signature_asks (name text) = sort_asks (sort_of s text) text
  signature_asks (member e word) = method_asks (kind_of s e) word
  signature_asks (index e at) = tt
  signature_asks (slice e high low) = tt
  signature_asks (call g more) = tt
  signature_asks (lookahead e to more) = tt
  signature_asks (cast to e) = tt
  signature_asks (unary operator e) = tt
  signature_asks (binary operator a d) = tt
  signature_asks (choice c a d) = tt
  signature_asks (parenthesized e) = tt
  signature_asks no_arguments = tt
  signature_asks (argument before last) = tt
  signature_asks (listed es) = tt

  as_many : (n : ℕ) (o : Option Signature) → is_some o ≡ true → option_map_or (takes_other_count n) o false ≡ false → n ≤ length (wanted_by o)
  as_many n None some is = absurd (cc some)
  as_many n (Some g) some is =
      let same : length g.wanted ≡ n = eqb-true (length g.wanted) n (not_false (nat_eq (length g.wanted) n) is) in
      omega (arith, same) where
        not_false : (t : Bool) → not t ≡ false → t ≡ true
        not_false true h = refl
        not_false false h = absurd (cc h)

  counted : (p : Place) (g more : Exp16) → list_any is_miscounted (uses s p (call g more)) ≡ false → is_some (signature_of s g) ≡ true → argument_count more ≤ length (wanted_by (signature_of s g))
  counted p g more count some = as_many (argument_count more) (signature_of s g) some (head_of p (call g more) is_miscounted count)

  given_told : (g more : Exp16) → Ruled (uses s statement (call g more)) → list_any is_miscounted (uses s statement (call g more)) ≡ false → is_some (signature_of s g) ≡ true → Each (ToldNone s) (arguments_of more)
  given_told g more h count some =
      arguments_told (wanted_by (signature_of s g)) more (signature_asks g) (counted statement g more count some)
      (back (an_expression s statement (call g more) ∷ uses s callee g) (uses_at s (many (wanted_by (signature_of s g)) unasked) more) h)

  pub call_told : (e : Exp16) → Ruled (uses s statement e) → list_any is_miscounted (uses s statement e) ≡ false → Signed s e → CallTold s e
  call_told (literal n) h count some = told (literal n) false statement (tt, tt) h
  call_told (truth holds) h count some = told (truth holds) false statement (tt, tt) h
  call_told error h count some = told error false statement (tt, tt) h
  call_told (name text) h count some = told (name text) false statement (tt, tt) h
  call_told (member e word) h count some = told (member e word) false statement (tt, tt) h
  call_told (index e i) h count some = told (index e i) false statement (tt, tt) h
  call_told (slice e high low) h count some = told (slice e high low) false statement (tt, tt) h
  call_told (call (literal n) more) h count some = given_told (literal n) more h count some
  call_told (call (truth holds) more) h count some = given_told (truth holds) more h count some
  call_told (call error more) h count some = given_told error more h count some
  call_told (call (name text) more) h count some = given_told (name text) more h count some
  call_told (call (member e word) more) h count some =
      let q : Place = owner_place callee (method_signature (kind_of s e) word) in
      let two : List Use = an_expression s statement (call (member e word) more) ∷ an_expression s callee (member e word) ∷ [] in
      (told e false q (asked q e (owner_asks callee (method_signature (kind_of s e) word))) (back two (uses s q e) (front (two ++ uses s q e) (uses_at s (many (wanted_by (signature_of s (member e word))) unasked) more) h)), given_told (member e word) more h count some)
  call_told (call (index e i) more) h count some = given_told (index e i) more h count some
  call_told (call (slice e high low) more) h count some = given_told (slice e high low) more h count some
  call_told (call (call f again) more) h count some = given_told (call f again) more h count some
  call_told (call (lookahead e to again) more) h count some = given_told (lookahead e to again) more h count some
  call_told (call (cast to e) more) h count some = given_told (cast to e) more h count some
  call_told (call (unary operator e) more) h count some = given_told (unary operator e) more h count some
  call_told (call (binary operator a d) more) h count some = given_told (binary operator a d) more h count some
  call_told (call (choice c a d) more) h count some = given_told (choice c a d) more h count some
  call_told (call (parenthesized e) more) h count some = given_told (parenthesized e) more h count some
  call_told (call no_arguments more) h count some = given_told no_arguments more h count some
  call_told (call (argument before last) more) h count some = given_told (argument before last) more h count some
  call_told (call (listed es) more) h count some = given_told (listed es) more h count some
  call_told (lookahead e to more) h count some = told (lookahead e to more) false statement (tt, tt) h
  call_told (cast to e) h count some = told (cast to e) false statement (tt, tt) h
  call_told (unary operator e) h count some = told (unary operator e) false statement (tt, tt) h
  call_told (binary operator a d) h count some = told (binary operator a d) false statement (tt, tt) h
  call_told (choice c a d) h count some = told (choice c a d) false statement (tt, tt) h
  call_told (parenthesized e) h count some = told (parenthesized e) false statement (tt, tt) h
  call_told no_arguments h count some = told no_arguments false statement (tt, tt) h
  call_told (argument before last) h count some = told (argument before last) false statement (tt, tt) h
  call_told (listed es) h count some = told (listed es) false statement (tt, tt) h

pub rules_tell_none : RulesTellNone
rules_tell_none s p e out asking h = told s out e false p (asked s out p e asking) h

pub calls_tell_none : CallsTellNone
calls_tell_none s e out h count some = call_told s out e h count some
