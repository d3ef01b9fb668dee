-- What the graph of a program says of the program: its returns name states of the graph, and its idle cycles are those
-- of the program.
use Rattle.std.proofs.Common.{◌≡◌, ◌↔◌, inl, inr, ℕ, zero, suc, ◌<◌, List, [], ◌∷◌, ◌++◌, length, map, filter_map, flat_map, slice_get, Contains, Option, Some, None, refl, sym, ◌∙◌, subst}
use Rattle.std.specs.Option.{option_map_or}
use Rattle.std.specs.List.{cons_option}
use Rattle.std.specs.Str.{bytes_eq}
use Rattle.std.proofs.lemmas.List.{length-map}
use Rattle.std.proofs.lemmas.List.Concat.{flat_map-cons}
use Rattle.std.proofs.lemmas.List.Quantifiers.{position-Some}
use Rattle.digraph.specs.Graphs.{Among}
use Rattle.digraph.proofs.Members.{among_place}
use Rattle.p414_syntax.specs.declared.parsers.Parser.{Parser}
use Rattle.p414_syntax.specs.declared.syntax.Decl.{Decl}
use Rattle.p414_syntax.specs.Names.{Name, find_name}
use Rattle.p414_syntax.specs.Walks.{IsWalk}
use Rattle.p414_syntax.specs.ParserGraph.{states, state_name, targets_of, extracts_in, next_in, extracts_of, next_of, HasIdleCycle}
use Rattle.parse_graph.specs.declared.nodes.StateNode.{StateNode}
use Rattle.parse_graph.specs.Graphs.{extracts_at, next_at, IsWhole, IsIdle}
use Rattle.parse_graph.specs.Programs.{node_of}

-- what a node has is what its state has
extracts_same : (ds : List Decl) (ss : List Parser) (s : ℕ) → extracts_at (map (node_of ds) ss) s ≡ option_map_or (extracts_in ds) (slice_get ss s) []
extracts_same ds [] zero = refl
extracts_same ds [] (suc s) = refl
extracts_same ds (x ∷ ss) zero = refl
extracts_same ds (x ∷ ss) (suc s) = extracts_same ds ss s

next_same : (ds : List Decl) (ss : List Parser) (s : ℕ) → next_at (map (node_of ds) ss) s ≡ option_map_or (next_in ds) (slice_get ss s) []
next_same ds [] zero = refl
next_same ds [] (suc s) = refl
next_same ds (x ∷ ss) zero = refl
next_same ds (x ∷ ss) (suc s) = next_same ds ss s

-- the number of a name is that of a state
found_within : (names : List Name) (name : Name) (n : ℕ) → find_name names name ≡ Some n → n < length names
found_within names name n is = (position-Some (bytes_eq name) names n [] is).0

named_by : (names : List Name) (name : Name) (o : Option ℕ) (rest : List ℕ) (t : ℕ) → find_name names name ≡ o → Among t (cons_option o rest) → (Among t rest → t < length names) → t < length names
named_by names name None rest t is among more = more among
named_by names name (Some n) rest t is (inl same) more = rw same (found_within names name n is)
named_by names name (Some n) rest t is (inr behind) more = more behind

number_within : (names : List Name) (targets : List Name) (t : ℕ) → Among t (filter_map (find_name names) targets) → t < length names
number_within names [] t among = absurd among
number_within names (name ∷ targets) t among = named_by names name (find_name names name) (filter_map (find_name names) targets) t refl among (number_within names targets t)

next_within : (ds : List Decl) (ss : List Parser) (s t : ℕ) → Among t (option_map_or (next_in ds) (slice_get ss s) []) → t < length (map state_name (states ds))
next_within ds [] zero t among = absurd among
next_within ds [] (suc s) t among = absurd among
next_within ds (x ∷ ss) zero t among = number_within (map state_name (states ds)) (targets_of x.end) t among
next_within ds (x ∷ ss) (suc s) t among = next_within ds ss s t among

pub whole : (ds : List Decl) (nodes : List StateNode) → nodes ≡ map (node_of ds) (states ds) → IsWhole nodes
whole ds nodes is = rw is (record {
  within = λ s t has.
      let among : Among t (next_at (map (node_of ds) (states ds)) s) = subst (λ (y : ℕ). Among y (next_at (map (node_of ds) (states ds)) s)) has.2 (among_place (next_at (map (node_of ds) (states ds)) s) has.0 t has.1) in
      let lt = next_within ds (states ds) s t (subst (λ (l : List ℕ). Among t l) (next_same ds (states ds) s) among) in
      rw (length-map (states ds) (node_of ds)) (rw (length-map (states ds) state_name) at lt);
})

-- walks and what they extract, where nodes lead to the same and extract the same
walk_same : (f g : ℕ → List ℕ) → ((s : ℕ) → f s ≡ g s) → (walk : List ℕ) → IsWalk f walk → IsWalk g walk
walk_same f g same [] walks = tt
walk_same f g same (a ∷ []) walks = tt
walk_same f g same (a ∷ b ∷ rest) walks = (subst (λ (l : List ℕ). Contains l b) (same a) walks.0, walk_same f g same (b ∷ rest) walks.1)

all_same : (f g : ℕ → List ℕ) → ((s : ℕ) → f s ≡ g s) → (walk : List ℕ) → flat_map f walk ≡ flat_map g walk
all_same f g same [] = refl
all_same f g same (s ∷ walk) = flat_map-cons f s walk ∙ (rw (same s, all_same f g same walk) (sym (flat_map-cons g s walk)))

-- the program has an idle cycle exactly where its graph has one
pub idle_same : (ds : List Decl) (nodes : List StateNode) → nodes ≡ map (node_of ds) (states ds) → HasIdleCycle ds ↔ ((s : ℕ) × IsIdle nodes s)
idle_same ds nodes is = rw is ((
  λ idle. (
    idle.state,
    record {
      between = idle.between;
      cycle = walk_same (next_of ds) (next_at (map (node_of ds) (states ds))) (λ s. sym (next_same ds (states ds) s)) (idle.state ∷ idle.between ++ idle.state ∷ []) idle.cycle;
      idle = all_same (extracts_at (map (node_of ds) (states ds))) (extracts_of ds) (λ s. extracts_same ds (states ds) s) (idle.state ∷ idle.between) ∙ idle.idle;
    },
  ),
  λ found. record {
    state = found.0;
    between = found.1.between;
    cycle = walk_same (next_at (map (node_of ds) (states ds))) (next_of ds) (λ s. next_same ds (states ds) s) (found.0 ∷ found.1.between ++ found.0 ∷ []) found.1.cycle;
    idle = all_same (extracts_of ds) (extracts_at (map (node_of ds) (states ds))) (λ s. sym (extracts_same ds (states ds) s)) (found.0 ∷ found.1.between) ∙ found.1.idle;
  },
)
    )
