-- What an answer on the graph of a program says of the program.
use Rattle.std.proofs.Common.{◌≡◌, ℕ, zero, suc, inl, inr, List, [], ◌∷◌, map, flat_map, slice_get, Result, Ok, Err, refl, sym, ap, ◌∙◌, subst}
use Rattle.std.specs.Option.{option_map_or}
use Rattle.digraph.specs.Graphs.{Among, successors}
use Rattle.least_order.specs.Labelled as labelled
use Rattle.least_order.specs.Orders as orders
use Rattle.least_order.proofs.Underway.{some_is}
use Rattle.p414_syntax.specs.declared.parsers.Parser.{Parser}
use Rattle.p414_syntax.specs.declared.syntax.Decl.{Decl}
use Rattle.p414_syntax.specs.Walks.{IsWalk}
use Rattle.p414_syntax.specs.ParserGraph as parser_graph
use Rattle.parse_graph.specs.declared.nodes.Graph.{Graph}
use Rattle.parse_graph.specs.declared.nodes.StateNode.{StateNode}
use Rattle.parse_graph.specs.Programs.{node_of}
use Rattle.deparse_order.specs.declared.fault.OrderFault.{OrderFault}
use Rattle.deparse_order.specs.declared.fault.OrderFault.TheVariants.{Memory, Cycle}
use Rattle.deparse_order.specs.Orders.{next_lists, extract_lists, IsExtracted, IsBefore, IsAnswer}
use Rattle.deparse_order.specs.Programs.{IsProgramGraph, AnswersProgram}
use Rattle.deparse_order.proofs.Splitting.{contains_of, among_of, split_of, of_split}
use Rattle.deparse_order.proofs.Walks.{find_label, find_pair, found_walk, before_walk}

-- the lists of the graph are those of the states
next_same : (ds : List Decl) (ss : List Parser) (a : ℕ) → successors (next_lists (map (node_of ds) ss)) a ≡ option_map_or (parser_graph.next_in ds) (slice_get ss a) []
next_same ds [] zero = refl
next_same ds [] (suc a) = refl
next_same ds (x ∷ ss) zero = refl
next_same ds (x ∷ ss) (suc a) = next_same ds ss a

extracts_same : (ds : List Decl) (ss : List Parser) (a : ℕ) → labelled.labels_of (extract_lists (map (node_of ds) ss)) a ≡ option_map_or (parser_graph.extracts_in ds) (slice_get ss a) []
extracts_same ds [] zero = refl
extracts_same ds [] (suc a) = refl
extracts_same ds (x ∷ ss) zero = refl
extracts_same ds (x ∷ ss) (suc a) = extracts_same ds ss a

-- lists are compared alike
at_most : (xs ys : List ℕ) → orders.AtMost xs ys → parser_graph.AtMost xs ys
at_most [] ys h = tt
at_most (x ∷ xs) [] h = absurd h
at_most (x ∷ xs) (y ∷ ys) (inl less) = inl less
at_most (x ∷ xs) (y ∷ ys) (inr same) = inr (same.0, at_most xs ys same.1)

module _ (ds : List Decl) (g : Graph) (is : IsProgramGraph ds g) where
  next_are : (a : ℕ) → successors (next_lists g.states) a ≡ parser_graph.next_of ds a
  next_are a = subst (λ (nodes : List StateNode). successors (next_lists nodes) a ≡ parser_graph.next_of ds a) (sym is.graph.states_are) (next_same ds (parser_graph.states ds) a)

  extracts_are : (a : ℕ) → labelled.labels_of (extract_lists g.states) a ≡ parser_graph.extracts_of ds a
  extracts_are a = subst (λ (nodes : List StateNode). labelled.labels_of (extract_lists nodes) a ≡ parser_graph.extracts_of ds a) (sym is.graph.states_are) (extracts_same ds (parser_graph.states ds) a)

  -- a walk of the program begins in the start of the graph
  starts : (walk : List ℕ) (w : parser_graph.IsWalkFromStart ds walk) → walk ≡ g.start ∷ w.rest
  starts walk w = w.begins ∙ ap (λ (s : ℕ). s ∷ w.rest) (some_is w.first g.start (sym w.start ∙ is.start_is))

  walk_of : (rest : List ℕ) → IsWalk (parser_graph.next_of ds) (g.start ∷ rest) → parser_graph.IsWalkFromStart ds (g.start ∷ rest)
  walk_of rest walks = record { first = g.start; rest = rest; start = is.start_is; begins = refl; walks = walks }

  -- what is extracted
  to_found : (x : ℕ) → parser_graph.IsExtracted ds x → IsExtracted g x
  to_found x e =
      let at = starts e.walk e.from_start in
      find_label (next_lists g.states) (extract_lists g.states) (parser_graph.next_of ds) (parser_graph.extracts_of ds) next_are extracts_are x g.start e.from_start.rest
      (subst (λ (walk : List ℕ). IsWalk (parser_graph.next_of ds) walk) at e.from_start.walks)
      (subst (λ (walk : List ℕ). Among x (flat_map (parser_graph.extracts_of ds) walk)) at (among_of (parser_graph.walk_extracts ds e.walk) x e.extracted))

  of_found : (x : ℕ) → IsExtracted g x → parser_graph.IsExtracted ds x
  of_found x found =
      let w = found_walk (next_lists g.states) (extract_lists g.states) (parser_graph.next_of ds) (parser_graph.extracts_of ds) next_are extracts_are x g.start found in
      record {
        walk = g.start ∷ w.rest;
        from_start = walk_of w.rest w.walks;
        extracted = contains_of (parser_graph.walk_extracts ds (g.start ∷ w.rest)) x w.holds;
      }

  -- what is before what
  to_before : (x y : ℕ) → parser_graph.IsBefore ds x y → IsBefore g x y
  to_before x y b =
      let at = starts b.walk b.from_start in (
        b.differ,
        find_pair (next_lists g.states) (extract_lists g.states) (parser_graph.next_of ds) (parser_graph.extracts_of ds) next_are extracts_are x y g.start b.from_start.rest
            (subst (λ (walk : List ℕ). IsWalk (parser_graph.next_of ds) walk) at b.from_start.walks)
            (subst (λ (walk : List ℕ). orders.Precedes x y (flat_map (parser_graph.extracts_of ds) walk)) at
            (subst (λ (xs : List ℕ). orders.Precedes x y xs) (sym b.extracts) (of_split x y b.before b.between b.behind))),
      )

  of_before : (x y : ℕ) → IsBefore g x y → parser_graph.IsBefore ds x y
  of_before x y b =
      let w = before_walk (next_lists g.states) (extract_lists g.states) (parser_graph.next_of ds) (parser_graph.extracts_of ds) next_are extracts_are x y g.start b.1 in
      let s = split_of x y (parser_graph.walk_extracts ds (g.start ∷ w.rest)) w.holds in
      record {
        walk = g.start ∷ w.rest;
        before = s.0;
        between = s.1;
        behind = s.2;
        from_start = walk_of w.rest w.walks;
        extracts = s.3;
        differ = b.0;
      }

  -- orders
  to_order : (order : List ℕ) → parser_graph.IsHeaderOrder ds order → orders.IsOrder (IsExtracted g) (IsBefore g) order
  to_order order h = record {
    each = λ x. (
      λ among. to_found x (h.instances.extracted x (contains_of order x among)),
      λ found. among_of order x (h.instances.each x (of_found x found)),
    );
    once = λ x p. let s = split_of x x order p in h.instances.once s.0 s.1 s.2 x s.3;
    keeps = λ x y b p. let s = split_of y x order p in h.pairs s.0 s.1 s.2 x y s.3 (of_before x y b);
  }

  of_order : (order : List ℕ) → orders.IsOrder (IsExtracted g) (IsBefore g) order → parser_graph.IsHeaderOrder ds order
  of_order order h = record {
    instances = record {
      each = λ x e. contains_of order x ((h.each x).1 (to_found x e));
      extracted = λ x has. of_found x ((h.each x).0 (among_of order x has));
      once = λ before between behind x e. h.once x (subst (λ (xs : List ℕ). orders.Precedes x x xs) (sym e) (of_split x x before between behind));
    };
    pairs = λ before between behind x y e b.
        h.keeps x y (to_before x y b) (subst (λ (xs : List ℕ). orders.Precedes y x xs) (sym e) (of_split y x before between behind));
  }

  pub program_answer : (answer : Result (List ℕ) OrderFault) → IsAnswer g answer → AnswersProgram ds answer
  program_answer (Ok order) h = record {
    is_order = of_order order h.is_order;
    least = λ other o. at_most order other (h.least other (to_order other o));
  }
  program_answer (Err Memory) h = tt
  program_answer (Err Cycle) none = λ order o. none order (to_order order o)
