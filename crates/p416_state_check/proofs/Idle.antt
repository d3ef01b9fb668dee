-- The graph of states by their names, and what is known of a parser and of all declarations.
use Rattle.std.proofs.Common.{◌≡◌, ◌⊎◌, inl, inr, ◌<◌, ◌≤◌, ◌+◌, ℕ, zero, suc, Bool, true, false, not, cond, Result, Ok, Err, List, [], ◌∷◌, length, get_or, drop, map, filter_map, refl, sym, ap, ◌∙◌, subst, arith, add-one}
use Rattle.std.specs.Prelude.{IfOk, codes}
use Rattle.std.specs.Bool.{MatchBool}
use Rattle.std.proofs.lemmas.Bool.{false≢true}
use Rattle.digraph.specs.Expansions.{HasCycle}
use Rattle.name_numbers.specs.Names.{find_name}
use Rattle.name_cycles.specs.Named.{NamedNode, called_of, next_of, named_graph}
use Rattle.p416_syntax.specs.declared.parsers.State.{State}
use Rattle.p416_syntax.specs.declared.parsers.Parser16.{Parser16}
use Rattle.p416_syntax.specs.declared.program.Decl16.{Decl16}
use Rattle.p416_syntax.specs.declared.program.Syntax16.{Syntax16}
use Rattle.p416_syntax.specs.declared.rule.ProgramRule.TheVariants.{T7}
use Rattle.p416_syntax.specs.Exact.{IsExact}
use Rattle.p416_syntax.specs.Names.{Name, has_name}
use Rattle.p416_syntax.specs.Declarations.{state_name}
use Rattle.p416_syntax.specs.ParserStates.{extracts, targets_of, idle_next, idle_graph, has_no_start, StatesBreak}
use Rattle.p416_syntax.specs.Breaks.{SomeDeclaration, ParserBreaks, IsBroken}
use Rattle.p416_state_check.specs.internal.Outside.{state_node}

-- the graph by the names of states is that of the states that don't extract

names_are : (xs : List State) → map called_of (map state_node xs) ≡ map state_name xs
names_are [] = refl
names_are (x ∷ xs) = ap (λ l. x.name ∷ l) (names_are xs)

row_by : (e : Bool) (f : List Name → List ℕ) (targets : List Name) → f [] ≡ [] → f (cond e [] targets) ≡ cond e [] (f targets)
row_by true f targets none = none
row_by false f targets none = refl

rows_are : (all xs : List State) → map (next_of (map state_name all)) (map state_node xs) ≡ map (idle_next all) xs
rows_are all [] = refl
rows_are all (x ∷ xs) =
    ap (λ row. row ∷ map (next_of (map state_name all)) (map state_node xs)) (row_by (extracts x.body) (filter_map (find_name (map state_name all))) (targets_of x.transition) refl)
    ∙ ap (λ rows. idle_next all x ∷ rows) (rows_are all xs)

graph_is : (xs : List State) → named_graph (map state_node xs) ≡ map (idle_next xs) xs
graph_is xs = ap (λ names. map (next_of names) (map state_node xs)) (names_are xs) ∙ rows_are xs xs

-- what is known of a parser

exact_by : (p : Parser16) (found : Bool) → has_no_start p ≡ false → MatchBool found (HasCycle (idle_graph p)) (HasCycle (idle_graph p) → ⊥) → IsExact found (StatesBreak p)
exact_by p true started cycle = inr cycle
exact_by p false started acyclic = by_case where
  by_case : StatesBreak p → ⊥
  by_case (inl no_start) = false≢true (sym started ∙ no_start)
  by_case (inr cycle) = acyclic cycle

pub parser_by : {E : Type 0} (p : Parser16) (r : Result Bool E) (nodes : List NamedNode) → has_name (map state_name p.states) (codes "start") ≡ true → nodes ≡ map state_node p.states
    → IfOk r (λ found. MatchBool found (HasCycle (named_graph nodes)) (HasCycle (named_graph nodes) → ⊥)) → IfOk r (λ found. IsExact found (StatesBreak p))
parser_by p (Err e) nodes started is h = tt
parser_by p (Ok found) nodes started is h =
    exact_by p found (ap not started) (subst (λ (g : List (List ℕ)). MatchBool found (HasCycle g) (HasCycle g → ⊥)) (ap named_graph is ∙ graph_is p.states) h)

-- what is known of all declarations

some_place : (P : Decl16 → Type 0) (ds : List Decl16) (i : ℕ) (d : Decl16) → i < length ds → P (get_or ds i d) → SomeDeclaration P ds
some_place P [] i d lt h = absurd (omega arith)
some_place P (x ∷ ds) zero d lt h = inl h
some_place P (x ∷ ds) (suc i) d lt h = inr (some_place P ds i d (omega arith) h)

pub some_at : (P : Decl16 → Type 0) (ds : List Decl16) (i : ℕ) (d : Decl16) (found : Bool) → i < length ds → d ≡ get_or ds i d → found ≡ true → IsExact found (P d) → SomeDeclaration P ds
some_at P ds i d found lt here is exact = some_place P ds i d lt (subst P here (rw is at exact))

pass_place : (P : Decl16 → Type 0) (ds : List Decl16) (i : ℕ) (d : Decl16) → i < length ds → (P (get_or ds i d) → ⊥) → SomeDeclaration P (drop i ds) → SomeDeclaration P (drop (suc i) ds)
pass_place P [] i d lt keeps h = absurd (omega arith)
pass_place P (x ∷ ds) zero d lt keeps (inl here) = absurd (keeps here)
pass_place P (x ∷ ds) zero d lt keeps (inr behind) = behind
pass_place P (x ∷ ds) (suc i) d lt keeps h = pass_place P ds i d (omega arith) keeps h

pub some_behind : (P : Decl16 → Type 0) (ds : List Decl16) (i : ℕ) (d : Decl16) (found : Bool) → i < length ds → d ≡ get_or ds i d → found ≡ false → IsExact found (P d) → SomeDeclaration P (drop i ds) → SomeDeclaration P (drop (i + 1) ds)
some_behind P ds i d found lt here is exact some =
    let keeps : P d → ⊥ = rw is at exact in
    rw add-one (pass_place P ds i d lt (λ broken. keeps (subst P (sym here) broken)) some)

pub none_left : (P : Decl16 → Type 0) (ds : List Decl16) (i : ℕ) → length ds ≤ i → SomeDeclaration P (drop i ds) → ⊥
none_left P [] zero le h = h
none_left P [] (suc i) le h = h
none_left P (x ∷ ds) zero le h = absurd (omega arith)
none_left P (x ∷ ds) (suc i) le h = none_left P ds i (omega arith) h

program_exact : (s : Syntax16) (found : Bool) → IsExact found (SomeDeclaration ParserBreaks s.decls) → IsExact found (IsBroken s T7)
unfolding IsBroken
program_exact s true some = inl some
program_exact s false none = by_case where
  by_case : SomeDeclaration ParserBreaks s.decls ⊎ ⊥ → ⊥
  by_case (inl some) = none some
  by_case (inr never) = never

pub program_by : {E : Type 0} (s : Syntax16) (r : Result Bool E) → IfOk r (λ found. IsExact found (SomeDeclaration ParserBreaks s.decls)) → IfOk r (λ found. IsExact found (IsBroken s T7))
program_by s (Err e) h = tt
program_by s (Ok found) h = program_exact s found h
