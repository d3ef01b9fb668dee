-- What pairs of counters and actions tell of the tables.
use Rattle.std.proofs.Common.{◌≡◌, ℕ, Bool, true, false, not, ◌||◌, ◌&&◌, List, [], ◌∷◌, flat_map, Option, Some, None, refl, sym, ap, ◌∙◌}
use Rattle.std.specs.List.{list_any}
use Rattle.std.specs.Str.{bytes_eq}
use Rattle.p416_syntax.specs.declared.controls.ActionName.{ActionName}
use Rattle.p416_syntax.specs.declared.controls.ActionName.TheVariants as action_name
use Rattle.p416_syntax.specs.declared.controls.Table16.{Table16}
use Rattle.p416_syntax.specs.declared.program.Decl16.{Decl16}
use Rattle.p416_syntax.specs.Properties.{actions_of, counters_of}
use Rattle.p416_syntax.specs.Names.{Name}
use Rattle.p416_syntax.specs.Scopes.{a_table}
use Rattle.p416_syntax.specs.Declarations.{top_scope, declaration_uses}
use Rattle.p416_syntax.specs.Tables.{is_same_action, counts_in, tables_of}
use Rattle.p416_expression_uses.specs.Found.{CountedIn, counted_of}
use Rattle.p416_counter_check.specs.Counting.{is_counted_use, is_counter_of, counts_in_decl, is_outside}
use Rattle.p416_listed_check.specs.Pairs.{Pair, is_same_pair}
use Rattle.p416_listed_check.proofs.Pairing.{listed_is}
use Rattle.p416_counter_check.specs.internal.Pairs.{is_pair_by, is_pair_of, is_missing}
use Rattle.p416_counter_check.proofs.Agreeing.{counted_is}

-- what the pairs tell of the tables

not_not : (a : Bool) → not (not a) ≡ a
not_not true = refl
not_not false = refl

table_by : (o : Option Name) (actions : List ActionName) (counter action : Name) → counts_in counter action (a_table actions o) ≡ is_pair_by (counter, action) o actions
table_by None actions counter action = refl
table_by (Some counters) actions counter action =
    ap (λ (b : Bool). bytes_eq counters counter && b) (not_not (list_any (is_same_action (action_name.Declared action)) actions))
    ∙ listed_is counters counter action actions

tables_are : (ts : List Table16) (counter action : Name) → list_any (is_counter_of counter action) ts ≡ list_any (is_pair_of (counter, action)) ts
tables_are [] counter action = refl
tables_are (t ∷ ts) counter action =
    ap (λ (b : Bool). b || list_any (is_counter_of counter action) ts) (table_by (counters_of t.properties) (actions_of t.properties) counter action)
    ∙ ap (λ (b : Bool). is_pair_of (counter, action) t || b) (tables_are ts counter action)

missing_are : (d : Decl16) (pairs : List Pair) (cs : List CountedIn) → ((p : Pair) → list_any (is_same_pair p) pairs ≡ list_any (is_pair_of p) (tables_of d)) → list_any (is_missing pairs) cs ≡ list_any (is_outside (counts_in_decl d)) cs
missing_are d pairs [] are = refl
missing_are d pairs (c ∷ cs) are =
    ap (λ (b : Bool). not b || list_any (is_missing pairs) cs) (are (c.counter, c.action) ∙ sym (tables_are (tables_of d) c.counter c.action))
    ∙ ap (λ (b : Bool). is_outside (counts_in_decl d) c || b) (missing_are d pairs cs are)

pub outside_by : (d : Decl16) (pairs : List Pair) (cs : List CountedIn) (outside : Bool) (ds : List Decl16) (positions : List ℕ) → ((p : Pair) → list_any (is_same_pair p) pairs ≡ list_any (is_pair_of p) (tables_of d)) → outside ≡ list_any (is_missing pairs) cs
    → cs ≡ flat_map counted_of (declaration_uses (top_scope ds positions) d) → outside ≡ list_any is_counted_use (declaration_uses (top_scope ds positions) d)
outside_by d pairs cs outside ds positions are is all =
    is ∙ (missing_are d pairs cs are ∙ (ap (list_any (is_outside (counts_in_decl d))) all ∙ sym (counted_is ds positions d)))
