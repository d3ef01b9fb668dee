-- Parsers and their states.
use Rattle.std.proofs.Common.{◌≡◌, ℕ, List, [], ◌∷◌, ◌++◌, map, flat_map, refl, sym, ap, ◌∙◌}
use Rattle.std.proofs.lemmas.List.{map-append}
use Rattle.p416_syntax.specs.declared.parts.Param.{Param}
use Rattle.p416_syntax.specs.declared.parsers.Var.{Var}
use Rattle.p416_syntax.specs.declared.parsers.SelectCase.{SelectCase}
use Rattle.p416_syntax.specs.declared.parsers.State.{State}
use Rattle.p416_syntax.specs.declared.parsers.Parser16.{Parser16}
use Rattle.p416_syntax.specs.Tree.{Exp16}
use Rattle.p416_syntax.specs.Names.{Name}
use Rattle.p416_syntax.specs.Kinds.{Kind}
use Rattle.p416_syntax.specs.Scopes.{Scope, Known, called_of, known_parameter}
use Rattle.p416_syntax.specs.Calls.{select_key}
use Rattle.p416_syntax.specs.Expressions.{kind_of}
use Rattle.p416_syntax.specs.Uses.{Use, names_of_scope, of_block_parameter, uses}
use Rattle.p416_syntax.specs.Statements.{behind}
use Rattle.p416_syntax.specs.Declarations.{known_var, known_state, parameter_name, state_name, parser_names, parser_scope, parameter_uses, var_uses, body_uses, transition_uses, case_uses, state_uses, parser_uses}
use Rattle.p416_expression_uses.specs.Found.{Found, after, after_all}
use Rattle.p416_expression_uses.proofs.Finding.{after_then, after_turn}
use Rattle.p416_uses.specs.Parts.{var_name}
use Rattle.p416_uses.proofs.Turns.{three_seen}

pub select_told : (f g h : Found) (s : Scope) (keys : List Exp16) (kinds : List Kind) (cases : List SelectCase) → g ≡ after_all f (flat_map (uses s select_key) keys)
    → kinds ≡ map (kind_of s) keys → h ≡ after_all g (flat_map (case_uses s kinds) cases)
    → h ≡ after_all f (flat_map (uses s select_key) keys ++ flat_map (case_uses s (map (kind_of s) keys)) cases)
select_told f g h s keys kinds cases of_keys of_kinds of_cases =
    after_then f g h (flat_map (uses s select_key) keys) (flat_map (case_uses s (map (kind_of s) keys)) cases) of_keys
    (of_cases ∙ ap (λ ks. after_all g (flat_map (case_uses s ks) cases)) of_kinds)

pub state_told : (f g h : Found) (s t : Scope) (x : State) → ((braces : ℕ) → g ≡ after_all f (body_uses s braces x.body)) → t ≡ s
    → h ≡ after_all g (transition_uses (behind x.body t) x.transition) → h ≡ after_all f (state_uses s x)
state_told f g h s t x of_body same of_end =
    after_then f g h (body_uses s 0 x.body) (transition_uses (behind x.body s) x.transition) (of_body 0)
    (of_end ∙ ap (λ u. after_all g (transition_uses (behind x.body u) x.transition)) same)

pub state_turn : (f g whole : Found) (s t : Scope) (x : State) (rest : List State) → t ≡ s → g ≡ after_all f (state_uses t x)
    → after_all f (state_uses s x ++ flat_map (state_uses s) rest) ≡ whole → after_all g (flat_map (state_uses s) rest) ≡ whole
state_turn f g whole s t x rest same is so =
    after_turn f g whole (state_uses s x) (flat_map (state_uses s) rest) (is ∙ ap (λ u. after_all f (state_uses u x)) same) so

-- the names that a parser declares

pub called_parameters : (ns : List Known) (ps : List Param) → map called_of (map (known_parameter ns) ps) ≡ map parameter_name ps
called_parameters ns [] = refl
called_parameters ns (p ∷ ps) = ap (λ xs. p.name ∷ xs) (called_parameters ns ps)

called_vars : (ns : List Known) (vs : List Var) → map called_of (map (known_var ns) vs) ≡ map var_name vs
called_vars ns [] = refl
called_vars ns (v ∷ vs) = ap (λ xs. v.name ∷ xs) (called_vars ns vs)

called_states : (xs : List State) → map called_of (map known_state xs) ≡ map state_name xs
called_states [] = refl
called_states (x ∷ xs) = ap (λ ys. x.name ∷ ys) (called_states xs)

parser_called : (ns : List Known) (p : Parser16) → map called_of (parser_names ns p) ≡ map parameter_name p.parameters ++ map var_name p.vars ++ map state_name p.states
parser_called ns p =
    map-append called_of (map (known_parameter ns) p.parameters ++ map (known_var ns) p.vars) (map known_state p.states)
    ∙ (ap (λ xs. xs ++ map called_of (map known_state p.states)) (map-append called_of (map (known_parameter ns) p.parameters) (map (known_var ns) p.vars))
    ∙ (ap (λ xs. (xs ++ map called_of (map (known_var ns) p.vars)) ++ map called_of (map known_state p.states)) (called_parameters ns p.parameters)
    ∙ (ap (λ xs. (map parameter_name p.parameters ++ xs) ++ map called_of (map known_state p.states)) (called_vars ns p.vars)
    ∙ ap (λ xs. (map parameter_name p.parameters ++ map var_name p.vars) ++ xs) (called_states p.states))))

pub parser_named : (f g h : Found) (names : List Name) (ns : List Known) (p : Parser16) (s t : Scope) → g ≡ after f (names_of_scope names)
    → names ≡ map parameter_name p.parameters ++ map var_name p.vars ++ map state_name p.states → t ≡ s
    → h ≡ after_all g (flat_map (parameter_uses t of_block_parameter) p.parameters)
    → h ≡ after_all f (names_of_scope (map called_of (parser_names ns p)) ∷ flat_map (parameter_uses s of_block_parameter) p.parameters)
parser_named f g h names ns p s t of_names are same of_parameters =
    of_parameters
    ∙ (ap (λ u. after_all g (flat_map (parameter_uses u of_block_parameter) p.parameters)) same
    ∙ ap (λ x. after_all x (flat_map (parameter_uses s of_block_parameter) p.parameters)) (of_names ∙ ap (λ xs. after f (names_of_scope xs)) (are ∙ sym (parser_called ns p))))

pub parser_told : (f g h k : Found) (s t : Scope) (p : Parser16)
    → g ≡ after_all f (names_of_scope (map called_of (parser_names s.names p)) ∷ flat_map (parameter_uses s of_block_parameter) p.parameters) → t ≡ parser_scope s p
    → h ≡ after_all g (flat_map (var_uses t) p.vars) → k ≡ after_all h (flat_map (state_uses t) p.states) → k ≡ after_all f (parser_uses s p)
parser_told f g h k s t p of_head same of_vars of_states =
    three_seen f g h k (names_of_scope (map called_of (parser_names s.names p)) ∷ flat_map (parameter_uses s of_block_parameter) p.parameters)
    (flat_map (var_uses (parser_scope s p)) p.vars) (flat_map (state_uses (parser_scope s p)) p.states) of_head
    (of_vars ∙ ap (λ u. after_all g (flat_map (var_uses u) p.vars)) same) (of_states ∙ ap (λ u. after_all h (flat_map (state_uses u) p.states)) same)
