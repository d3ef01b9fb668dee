-- A program that is written with no more tokens than have numbers of 32 bits is brief: each declaration, each field, each line of a
-- table and each parameter has a token of its own.
use Rattle.std.proofs.Common.{◌≡◌, inl, inr, ◌+◌, ◌≤◌, ◌^◌, List, [], ◌∷◌, ◌++◌, length, flat_map, ap, subst, arith}
use Rattle.std.proofs.lemmas.List.{length-append}
use Rattle.std.proofs.lemmas.List.Concat.{flat_map-cons}
use Rattle.p414_syntax.specs.declared.actions.Action.{Action}
use Rattle.p414_syntax.specs.declared.syntax.Decl.{Decl}
use Rattle.p414_syntax.specs.declared.syntax.Decl.TheVariants as decl
use Rattle.p414_syntax.specs.declared.syntax.Syntax14.{Syntax14}
use Rattle.p414_syntax.specs.declared.tables.Table.{Table}
use Rattle.p414_syntax.specs.declared.tables.TableAttr.{TableAttr}
use Rattle.p414_syntax.specs.declared.tables.TableAttr.TheVariants as table_attr
use Rattle.p414_syntax.specs.Arguments.{action_in}
use Rattle.p414_syntax.specs.Attributes.{actions_of}
use Rattle.p414_syntax.specs.Names.{Name}
use Rattle.p414_syntax.specs.Tables.{tables, listed_in}
use Rattle.p414_syntax.specs.Views.{HeaderTypeTree}
use Rattle.p414_syntax.specs.Words.{keyword, brace_close, paren_close, comma}
use Rattle.p414_syntax.specs.declared.keyword.Keyword.TheVariants as key
use Rattle.p414_syntax.specs.Written.{in_braces, in_parens, after_commas, by_commas, name_line, written_name, written_field, written_tail, written_call, written_table_attr, written_decl, written}
use Rattle.lower_laws_states.specs.Expansions.{Has}
use Rattle.lower_laws_states.proofs.Bounded.{type_has}
use Rattle.lower_laws_states.proofs.Members.{picked_has}
use Rattle.lower_laws_premises.proofs.Literals.{declared_action}
use Rattle.lower_laws_translated.specs.Given.{IsBrief}

-- lists that are written one after another

joined_long : {X Y : Type 0} (f : X → List Y) (x : X) (xs : List X) → length (flat_map f (x ∷ xs)) ≡ length (f x) + length (flat_map f xs)
joined_long f x xs = omega (arith, ap length (flat_map-cons f x xs), length-append (f x) (flat_map f xs))

each_long : {X Y : Type 0} (f : X → List Y) → ((x : X) → 1 ≤ length (f x)) → (xs : List X) → length xs ≤ length (flat_map f xs)
each_long f some [] = omega arith
each_long f some (x ∷ xs) = omega (arith, some x, each_long f some xs, joined_long f x xs)

one_long : {X Y : Type 0} (f : X → List Y) (xs : List X) (x : X) → Has xs x → length (f x) ≤ length (flat_map f xs)
one_long f [] x h = absurd h
one_long {X} f (y ∷ xs) x (inl same) = omega (arith, ap (λ (z : X). length (f z)) same, joined_long f y xs)
one_long f (y ∷ xs) x (inr h) = omega (arith, one_long f xs x h, joined_long f y xs)

-- parts of declarations

fields_long : (t : HeaderTypeTree) → length t.fields ≤ length (written_decl (decl.HeaderType t))
fields_long t =
    let fields = flat_map written_field t.fields in
    let tails = flat_map written_tail t.tails in
    let inner = keyword key.Fields ∷ (in_braces fields ++ tails) in
    omega (arith, each_long written_field (λ f. omega arith) t.fields, length-append fields (brace_close ∷ []), length-append (in_braces fields) tails, length-append inner (brace_close ∷ []))

parameters_long : (names : List Name) → length names ≤ length (by_commas written_name names)
parameters_long [] = omega arith
parameters_long (n ∷ names) =
    omega (arith, each_long (λ (m : Name). comma ∷ written_name m) (λ m. omega arith) names, length-append (written_name n) (after_commas written_name names))

action_long : (a : Action) → length a.parameters ≤ length (written_decl (decl.Action a))
action_long a =
    let parameters = by_commas written_name a.parameters in
    let calls = in_braces (flat_map written_call a.calls) in
    omega (arith, parameters_long a.parameters, length-append parameters (paren_close ∷ []), length-append (in_parens parameters) calls)

listed_long : (attributes : List TableAttr) → length (actions_of attributes) ≤ length (flat_map written_table_attr attributes)
listed_long [] = omega arith
listed_long (table_attr.Actions names ∷ rest) =
    omega (arith, each_long name_line (λ n. omega arith) names, length-append (flat_map name_line names) (brace_close ∷ []), joined_long written_table_attr (table_attr.Actions names) rest)
listed_long (table_attr.Reads rs ∷ rest) = omega (arith, listed_long rest, joined_long written_table_attr (table_attr.Reads rs) rest)
listed_long (table_attr.MinSize n ∷ rest) = omega (arith, listed_long rest, joined_long written_table_attr (table_attr.MinSize n) rest)
listed_long (table_attr.MaxSize n ∷ rest) = omega (arith, listed_long rest, joined_long written_table_attr (table_attr.MaxSize n) rest)
listed_long (table_attr.Size n ∷ rest) = omega (arith, listed_long rest, joined_long written_table_attr (table_attr.Size n) rest)
listed_long (table_attr.SupportTimeout on ∷ rest) = omega (arith, listed_long rest, joined_long written_table_attr (table_attr.SupportTimeout on) rest)
listed_long (table_attr.DefaultAction a given ∷ rest) = omega (arith, listed_long rest, joined_long written_table_attr (table_attr.DefaultAction a given) rest)
listed_long (table_attr.ActionProfile p ∷ rest) = omega (arith, listed_long rest, joined_long written_table_attr (table_attr.ActionProfile p) rest)

table_long : (t : Table) → length (listed_in t) ≤ length (written_decl (decl.Table t))
table_long t = omega (arith, listed_long t.attributes, length-append (flat_map written_table_attr t.attributes) (brace_close ∷ []))

-- declarations

decl_long : (d : Decl) → 1 ≤ length (written_decl d)
decl_long (decl.HeaderType h) = omega arith
decl_long (decl.Header h) = omega arith
decl_long (decl.Metadata m) = omega arith
decl_long (decl.FieldList l) = omega arith
decl_long (decl.FieldListCalculation c) = omega arith
decl_long (decl.CalculatedField c) = omega arith
decl_long (decl.Parser p) = omega arith
decl_long (decl.Action a) = omega arith
decl_long (decl.Table t) = omega arith
decl_long (decl.Counter s) = omega arith
decl_long (decl.Meter s) = omega arith
decl_long (decl.Register s) = omega arith
decl_long (decl.Control c) = omega arith
decl_long (decl.LeftOut l) = omega arith

lines_long : (ds : List Decl) → length (flat_map listed_in (tables ds)) ≤ length (flat_map written_decl ds)
lines_long [] = omega arith
lines_long (decl.Table t ∷ ds) = omega (arith, table_long t, lines_long ds, joined_long listed_in t (tables ds), joined_long written_decl (decl.Table t) ds)
lines_long (d ∷ ds) = omega (arith, lines_long ds, joined_long written_decl d ds)

pub brief_so : (s : Syntax14) → length (written s) ≤ 2 ^ 32 → IsBrief s.decls
brief_so s few = record {
  short = record {
    few = omega (arith, few, each_long written_decl decl_long s.decls);
    few_lines = omega (arith, few, lines_long s.decls);
    few_fields = λ type t is. omega (arith, few, fields_long t, one_long written_decl s.decls (decl.HeaderType t) (type_has s.decls type t is));
  };
  few_parameters = λ a h.
      let d = picked_has action_in s.decls a h in
      omega (arith, few, action_long a, one_long written_decl s.decls (decl.Action a) (subst (Has s.decls) (declared_action d.0 a d.2) d.1));
}
