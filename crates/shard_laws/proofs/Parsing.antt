-- How parsing ends from moments that are alike.
use Rattle.std.proofs.Common.{ℕ, zero, suc, Bool, true, false, cond, Option, Some, None, List, [], ◌∷◌}
use Rattle.std.specs.Prelude.{codes}
use Rattle.p416_syntax.specs.declared.parsers.Target.{Target}
use Rattle.p416_syntax.specs.declared.parsers.Target.TheVariants as target
use Rattle.p416_syntax.specs.declared.parsers.SelectCase.{SelectCase}
use Rattle.p416_syntax.specs.declared.parsers.Transition.{Transition}
use Rattle.p416_syntax.specs.declared.parsers.Transition.TheVariants as transition
use Rattle.p416_syntax.specs.declared.parsers.State.{State}
use Rattle.p416_syntax.specs.declared.parsers.Parser16.{Parser16}
use Rattle.p416_syntax.specs.Tree.{Exp16}
use Rattle.p416_syntax.specs.Names.{Name}
use Rattle.p416_syntax.specs.Kinds.{Kind}
use Rattle.p416_syntax.specs.Scopes.{Scope}
use Rattle.p416_syntax.specs.Calls.{select_key}
use Rattle.p416_syntax.specs.Expressions.{kind_of}
use Rattle.p416_syntax.specs.Statements.{behind}
use Rattle.v1_core.specs.declared.parser_error.ParserError.{ParserError}
use Rattle.v1_core.specs.declared.parser_error.ParserError.TheVariants.{PacketTooShort, NoMatch}
use Rattle.v1_core.specs.Values.{no_members}
use Rattle.v1_core.specs.Frames.{Moment, is_stopped}
use Rattle.v1_core.specs.Surroundings.{Setting, World, quiet_world}
use Rattle.v1_core.specs.Expressions.{Valued}
use Rattle.v1_core.specs.Statements.{no_label}
use Rattle.v1_core.specs.Parsing.{Keys, keys_from, first_match, Onward, to_target, to_found, selected, leads, passed, state_called, from_state, followed, parse_from, most_states, parser_of, around_parser, without_headers, run_states, run_parser, with_error, parse_ended, parse16}
use Rattle.shard_laws.specs.Likeness.{Pairing, Like, like, LikeValued, like_valued, LikeKeys, like_keys, LikeOnward, like_onward, like_finished, LikeParsed, like_parsed, LikeWorld}
use Rattle.shard_laws.proofs.Leaves.{either, raises, ticks, inner}
use Rattle.shard_laws.proofs.Values.{values}
use Rattle.shard_laws.proofs.Statements.{runs}
use Rattle.shard_laws.proofs.Tables.{quiet}
use Rattle.shard_laws.proofs.Blocks.{variables, opens}

module _ (k : Pairing) where
  either_onward : (b : Bool) {x y v w : Onward} → LikeOnward k x v → LikeOnward k y w → LikeOnward k (cond b x y) (cond b v w)
  either_onward true h i = h
  either_onward false h i = i

  key_behind : (kind : Kind) (f : Moment → Keys) → ((m n : Moment) → Like k m n → LikeKeys k (f m) (f n)) → (x y : Valued) → LikeValued k x y → LikeKeys k (let rest = f x.moment in record { keys = record { kind = kind; value = x.value } ∷ rest.keys; moment = rest.moment }) (let rest = f y.moment in record { keys = record { kind = kind; value = y.value } ∷ rest.keys; moment = rest.moment })
  key_behind kind f keys_like _ _ (like_valued v m n h) = by (f m) (f n) (keys_like m n h) where
    by : (x y : Keys) → LikeKeys k x y → LikeKeys k (record { keys = record { kind = kind; value = v } ∷ x.keys; moment = x.moment }) (record { keys = record { kind = kind; value = v } ∷ y.keys; moment = y.moment })
    by _ _ (like_keys keys p q i) = like_keys _ p q i

  targets : (t : Target) (m n : Moment) → Like k m n → LikeOnward k (to_target t m) (to_target t n)
  targets (target.State text) m n h = like_onward text m n h
  targets target.Accept m n h = like_finished m n h
  targets target.Reject m n h = like_finished m n h

  founds : (o : Option Target) (m n : Moment) → Like k m n → LikeOnward k (to_found o m) (to_found o n)
  founds (Some t) m n h = targets t m n h
  founds None m n h = like_finished _ _ (raises k NoMatch m n h)

  selects : (cases : List SelectCase) (x y : Keys) → LikeKeys k x y → LikeOnward k (selected cases x) (selected cases y)
  selects cases _ _ (like_keys keys m _ (like _ s w a b)) =
      let h = like m s w a b in
      either_onward (is_stopped m) (like_finished m _ h) (founds (first_match keys cases) m _ h)

  follows : (f : Name → Moment → Moment) → ((text : Name) (m n : Moment) → Like k m n → Like k (f text m) (f text n)) → (x y : Onward) → LikeOnward k x y → Like k (followed f x) (followed f y)
  follows f keeps _ _ (like_onward text m n h) = keeps text m n h
  follows f keeps _ _ (like_finished m n h) = h

  module _ (w : World) (same : LikeWorld k w) where
    keys : (s : Scope) (es : List Exp16) (m n : Moment) → Like k m n → LikeKeys k (keys_from w s es m) (keys_from w s es n)
    keys s [] m n h = like_keys [] m n h
    keys s (e ∷ es) m n h = key_behind (kind_of s e) (keys_from w s es) (keys s es) _ _ (values k w same s select_key e m n h)

    lead : (s : Scope) (t : Transition) (m n : Moment) → Like k m n → LikeOnward k (leads w s t m) (leads w s t n)
    lead s (transition.Go t) m n h = targets t m n h
    lead s (transition.Select es cases) m n h = selects cases _ _ (keys s es m n h)

    passes_on : (s : Scope) (t : Transition) (m n : Moment) → Like k m n → LikeOnward k (passed w s t m) (passed w s t n)
    passes_on s t m _ (like _ u x a b) =
        let h = like m u x a b in
        either_onward (is_stopped m) (like_finished m _ h) (lead s t _ _ (ticks k m _ h))

    states : (o : Option State) (m n : Moment) → Like k m n → LikeOnward k (from_state w o m) (from_state w o n)
    states None m n h = like_finished m n h
    states (Some x) m n h =
        passes_on (behind x.body w.around.scope) x.transition _ _ (runs k w same w.around.scope no_label x.body _ _ (inner k no_members m n h))

    parses_from : (all : List State) (left : ℕ) (text : Name) (m n : Moment) → Like k m n → Like k (parse_from w all left text m) (parse_from w all left text n)
    parses_from all zero text m n h = raises k PacketTooShort m n h
    parses_from all (suc left) text m _ (like _ s x a b) =
        let h = like m s x a b in
        either k (is_stopped m) h (follows (parse_from w all left) (parses_from all left) _ _ (states (state_called all text) m _ h))

    all_states : (p : Parser16) (m n : Moment) → Like k m n → Like k (run_states w p m) (run_states w p n)
    all_states p m _ (like _ s x a b) =
        variables k no_members _ _ (parses_from p.states (most_states p.states m) (codes "start") _ _ (opens k w same p.vars m _ (like m s x a b)))

  bare : (c : Setting) (m n : Moment) → Like k m n → Like k (without_headers c m) (without_headers c n)
  bare c m _ (like _ s w a b) = like (without_headers c m) s w a b

  parser_runs : (c : Setting) (o : Option Parser16) (m n : Moment) → Like k m n → Like k (run_parser c o m) (run_parser c o n)
  parser_runs c None m n h = h
  parser_runs c (Some p) m n h =
      all_states (quiet_world (around_parser c p)) (quiet k (around_parser c p)) p _ _ (bare c m n h)

  with_errors : (e : Option ParserError) (m n : Moment) → Like k m n → Like k (with_error e m) (with_error e n)
  with_errors None m n h = h
  with_errors (Some e) m _ (like _ s w a b) = like (with_error (Some e) m) s w a b

  parsing_ends : (m n : Moment) → Like k m n → LikeParsed k (parse_ended m) (parse_ended n)
  parsing_ends m _ (like _ s w a b) = like_parsed _ _ _ (with_errors m.stopped m _ (like m s w a b))

  pub parses : (c : Setting) (m n : Moment) → Like k m n → LikeParsed k (parse16 c m) (parse16 c n)
  unfolding parse16
  parses c m n h = parsing_ends _ _ (parser_runs c (parser_of c.syntax) m n h)
