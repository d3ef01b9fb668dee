-- The parser breaks no rule.
use Rattle.std.proofs.Common.{◌≡◌, inl, inr, Bool, true, false, List, [], ◌∷◌, ◌||◌, map, flat_map, refl, sym, ap, ◌∙◌, subst}
use Rattle.std.specs.Str.{bytes_eq}
use Rattle.std.specs.Prelude.{codes, is_some}
use Rattle.std.specs.List.{AllByRecursion}
use Rattle.digraph.specs.Expansions.{HasCycle}
use Rattle.p414_syntax.specs.declared.syntax.Decl.{Decl}
use Rattle.p414_syntax.specs.Names.{Name}
use Rattle.p414_syntax.specs.ParserGraph.{states, state_name}
use Rattle.p414_sem.specs.Parsing.{state_named}
use Rattle.p416_syntax.specs.declared.parsers.Parser16.{Parser16}
use Rattle.p416_syntax.specs.declared.parsers.State.{State}
use Rattle.p416_syntax.specs.declared.parts.Param.{Param}
use Rattle.p416_syntax.specs.declared.program.Decl16.TheVariants as decl
use Rattle.p416_syntax.specs.Names.{has_name}
use Rattle.p416_syntax.specs.Scopes.{Scope, a_state, sort_of}
use Rattle.p416_syntax.specs.Uses.{of_block_parameter}
use Rattle.p416_syntax.specs.Declarations.{parameter_uses, parser_scope, state_name as name16}
use Rattle.p416_syntax.specs.ParserStates.{idle_graph}
use Rattle.lower_laws_base.specs.Context.{Lowering}
use Rattle.lower_laws_parser.specs.Words.{ParserWords, state_of}
use Rattle.lower_laws_parser.specs.Parsing.{parser_words}
use Rattle.lower_laws_parser.specs.Starts.{start_state, Begins}
use Rattle.lower_laws_rules.specs.Keeping.{Keeps}
use Rattle.lower_laws_rules.specs.Declared.{StateKeeps, ParserFits, DeclarationKeeps}
use Rattle.lower_laws_rules.proofs.Controls.{parser_params_kept, parser_kept}
use Rattle.lower_laws_block_rules.specs.Wholes.{ParserIs}
use Rattle.lower_laws_block_rules.proofs.Names.{map_has}
use Rattle.lower_laws_block_rules.proofs.Values.{ParsesHere}
use Rattle.lower_laws_block_rules.proofs.Starts.{start_kept, states_kept}
use Rattle.lower_laws_block_rules.proofs.StateNames.{named_among, state_found, new_names}
use Rattle.lower_laws_block_rules.proofs.Idle.{next_leads}
use Rattle.lower_laws_block_rules.proofs.Circles.{acyclic}

module _ (s : Scope) (c : Lowering) (ds : List Decl) (packet : Name) (state : Name → Name) (h m : Name) (q : Parser16) (is : ParserIs s c ds packet state h m q) where
  abbrev p : ParserWords
  p = parser_words c packet state

  abbrev inner : Scope
  inner = parser_scope s q

  pub parses_here : ParsesHere c ds packet inner
  parses_here = record { parses = is.parses; wide = is.wide; part = refl; at = is.at; writes = is.writes }

  -- a state of the program stands there under its new name
  own_there : (called : Name) → is_some (state_named ds called) ≡ true → has_name (map name16 (map (state_of ds p) (states ds))) (state called) ≡ true
  own_there called there = ap (λ (xs : List Name). has_name xs (state called)) (new_names ds p (states ds)) ∙ map_has state (map state_name (states ds)) called (named_among ds called there)

  past : (b e : Bool) → e ≡ true → b || e ≡ true
  past true e is = refl
  past false e is = is

  there : (called : Name) → is_some (state_named ds called) ≡ true → has_name (map name16 q.states) (state called) ≡ true
  there called has = by is.begins where
    by : Begins c ds p q.states → has_name (map name16 q.states) (state called) ≡ true
    by (inl b) = ap (λ (xs : List State). has_name (map name16 xs) (state called)) b.written ∙ past (bytes_eq (state called) (codes "start")) _ (own_there called has)
    by (inr b) = ap (λ (xs : List State). has_name (map name16 xs) (state called)) b.written ∙ own_there called has

  pub known : (called : Name) → is_some (state_named ds called) ≡ true → sort_of inner (state called) ≡ a_state
  known called has = state_found s q is.bare is.names (state called) (there called has)

  states_here : AllByRecursion (StateKeeps inner) q.states
  states_here = by is.begins where
    own : AllByRecursion (StateKeeps inner) (map (state_of ds p) (states ds))
    own = states_kept c ds packet state inner parses_here known (states ds) is.each

    by : Begins c ds p q.states → AllByRecursion (StateKeeps inner) q.states
    by (inl b) = subst (AllByRecursion (StateKeeps inner)) (sym b.written) (start_kept c ds packet state inner parses_here known b.fits, own)
    by (inr b) = subst (AllByRecursion (StateKeeps inner)) (sym b.written) own

  starts : has_name (map name16 q.states) (codes "start") ≡ true
  starts = by is.begins where
    by : Begins c ds p q.states → has_name (map name16 q.states) (codes "start") ≡ true
    by (inl b) = ap (λ (xs : List State). has_name (map name16 xs) (codes "start")) b.written
    by (inr b) = ap (has_name (map name16 q.states)) (sym b.start) ∙ there (codes "start") b.there

  circles : HasCycle (idle_graph q) → ⊥
  circles = by is.begins where
    by : Begins c ds p q.states → HasCycle (idle_graph q) → ⊥
    by (inl b) = acyclic ds p is.differ (start_state ds p ∷ []) (b.start, tt) ((codes "start" ∷ [], next_leads ds p is.differ [] (codes "start")), tt) is.idle q b.written
    by (inr b) = acyclic ds p is.differ [] tt tt is.idle q b.written

  pub parser_fits : ParserFits s q
  parser_fits = record {
    names = is.names;
    parameters = subst (λ (ps : List Param). Keeps (flat_map (parameter_uses s of_block_parameter) ps) []) (sym is.parameters) (parser_params_kept s h m is.roots is.packets is.headers is.metadata is.standards);
    bare = is.bare;
    states = states_here;
    start = starts;
    acyclic = circles;
  }

  pub parser_keeps : DeclarationKeeps s (decl.Parser q) []
  parser_keeps = parser_kept s q parser_fits
