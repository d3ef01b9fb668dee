-- T10: an extern call stands in a block that doesn't allow it, or `next` or `last` of a stack stands outside a parser
-- (`core.p4`; `v1model.p4`; P4_16 1.2, "Header stacks"). A block that stands at several places of `main` needs all of them
-- to allow the call, and one that stands at none allows no extern call. A direct counter is counted in an action.
use Rattle.std.specs.Prelude.{ℕ, Bool, true, false, not, ◌&&◌, nat_eq, List, [], ◌∷◌, codes}
use Rattle.std.specs.List.{list_any, list_all}
use Rattle.std.specs.Option.{option_map_or}
use Rattle.std.specs.Str.{bytes_eq}
use Rattle.p416_syntax.specs.Tree.{Exp16, member, call, lookahead}
use Rattle.p416_syntax.specs.Names.{Name}
use Rattle.p416_syntax.specs.Kinds.{is_stack}
use Rattle.p416_syntax.specs.Scopes.{Scope, Part, in_parser, in_action}
use Rattle.p416_syntax.specs.Calls.{Stand, anywhere, at_positions, in_its_actions, by_clone_type, Signature, parser_position, ingress_position, egress_position}
use Rattle.p416_syntax.specs.Expressions.{kind_of, signature_of}
use Rattle.p416_syntax.specs.Uses.{Use, an_expression, arguments_of}

abbrev pub is_some_position : List ℕ → Bool
is_some_position [] = false
is_some_position (p ∷ positions) = true

abbrev pub is_allowed_at : List ℕ → ℕ → Bool
is_allowed_at allowed position = list_any (nat_eq position) allowed

-- a block that stands at these places may make a call that is allowed at those
abbrev pub are_allowed : List ℕ → List ℕ → Bool
are_allowed allowed positions = is_some_position positions && list_all (is_allowed_at allowed) positions

abbrev pub is_action_part : Part → Bool
is_action_part (in_action text) = true
is_action_part _ = false

abbrev pub is_parser_part : Part → Bool
is_parser_part in_parser = true
is_parser_part _ = false

-- a clone from ingress is made in ingress, one from egress in egress
abbrev pub clone_positions : Exp16 → List ℕ
clone_positions (member e word) = if_ingress (bytes_eq word (codes "I2E"))
  where
    if_ingress : Bool → List ℕ
    if_ingress true = ingress_position ∷ []
    if_ingress false = egress_position ∷ []
clone_positions _ = []

abbrev pub first_clone_positions : List Exp16 → List ℕ
first_clone_positions [] = []
first_clone_positions (e ∷ es) = clone_positions e

abbrev pub may_stand : Scope → Exp16 → Stand → Bool
may_stand s given anywhere = true
may_stand s given (at_positions allowed) = are_allowed allowed s.positions
may_stand s given in_its_actions = is_some_position s.positions && is_action_part s.part
may_stand s given by_clone_type = are_allowed (first_clone_positions (arguments_of given)) s.positions

abbrev pub stands_elsewhere : Scope → Exp16 → Signature → Bool
stands_elsewhere s given signature = not (may_stand s given signature.stands)

abbrev pub is_place_word : Name → Bool
is_place_word word = list_any (bytes_eq word) (codes "next" ∷ codes "last" ∷ [])

abbrev pub is_misplaced_expression : Scope → Exp16 → Bool
is_misplaced_expression s (call e given) = option_map_or (stands_elsewhere s given) (signature_of s e) false
is_misplaced_expression s (lookahead e to given) = not (are_allowed (parser_position ∷ []) s.positions)
is_misplaced_expression s (member e word) = (is_stack (kind_of s e) && is_place_word word) && not (is_parser_part s.part)
is_misplaced_expression s _ = false

-- what is judged breaks T10
abbrev pub is_outside_block : Use → Bool
is_outside_block (an_expression s p e) = is_misplaced_expression s e
is_outside_block _ = false
