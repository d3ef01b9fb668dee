-- A program breaks no rule where its declarations break none, and the whole is as is asked.
use Rattle.std.proofs.Common.{◌≡◌, ◌⊎◌, inl, inr, leb, ℕ, zero, suc, ◌+◌, ◌<◌, ◌≤◌, Bool, true, false, ◌||◌, ◌&&◌, List, [], ◌∷◌, ◌++◌, length, get_or, map, flat_map, filter_map, Option, Some, None, refl, sym, ap, ap₂, ◌∙◌, subst, arith, IsTrue}
use Rattle.std.specs.Prelude.{nat_lt, sum_by, not, codes}
use Rattle.std.specs.List.{list_any, list_all, AllByRecursion, position, cons_option}
use Rattle.std.specs.Str.{bytes_eq}
use Rattle.std.proofs.lemmas.Bool.{false≢true}
use Rattle.std.proofs.lemmas.Bool.Decides.{leb_tells}
use Rattle.std.proofs.lemmas.List.Quantifiers.{position-Some}
use Rattle.digraph.specs.Graphs.{Among, IsEdge}
use Rattle.digraph.specs.Expansions.{HasCycle}
use Rattle.p416_syntax.specs.declared.parts.Direction.{Direction}
use Rattle.p416_syntax.specs.declared.parts.Direction.TheVariants.{In, Out, InOut}
use Rattle.p416_syntax.specs.declared.parts.Param.{Param}
use Rattle.p416_syntax.specs.declared.program.Decl16.{Decl16}
use Rattle.p416_syntax.specs.declared.program.Decl16.TheVariants as decl
use Rattle.p416_syntax.specs.declared.program.Syntax16.{Syntax16}
use Rattle.p416_syntax.specs.declared.rule.ProgramRule.{ProgramRule}
use Rattle.p416_syntax.specs.declared.rule.ProgramRule.TheVariants.{T1, T2, T3, T4, T5, T6, T7, T8, T9, T10, T11, T12}
use Rattle.p416_syntax.specs.Names.{Name, has_name}
use Rattle.p416_syntax.specs.Kinds.{Kind, packet_in, packet_out, struct}
use Rattle.p416_syntax.specs.BuiltIn.{built_in, standard, standard_name}
use Rattle.p416_syntax.specs.Scopes.{Known, Sort, Scope, Layout, called_of, a_type, a_block, sort_in, type_sort}
use Rattle.p416_syntax.specs.Uses.{Use, an_expression, a_body, some_block}
use Rattle.p416_syntax.specs.Declarations.{top_names, layouts_of, declaration_uses}
use Rattle.p416_syntax.specs.Unknown.{is_wanted, declares_twice, declared_name, held_names, held_by, struct_graph}
use Rattle.p416_syntax.specs.Main.{BlockShape, Shape, shape, is_same_shape, is_same_direction, is_same_parameter_kind, are_same_shapes, a_control_of, a_parser, parameter_shape, block_of, is_block, wanted_blocks, are_blocks, block_kind, first_block, headers_kind, metadata_kind, is_main, are_headers, is_metadata}
use Rattle.p416_syntax.specs.Tables.{has_shared_names}
use Rattle.p416_syntax.specs.Totals.{depth, is_too_deep, held_kinds, fields_of_kind, octets_of_kind, has_large_headers, has_large_variables, is_bad_cell_count}
use Rattle.p416_syntax.specs.Breaks.{has_use, DeclarationBreaks, SomeDeclaration, SomeBreaks, WholeBreaks, IsBroken, BreaksNone, program_rules, scope_of, is_no_block, uses_in, program_uses}
use Rattle.std.proofs.lemmas.List.Folds.{list_any-append}
use Rattle.lower_laws_rules.specs.Keeping.{is_deep, Fine}
use Rattle.lower_laws_rules.specs.Declared.{DeclarationKeeps}
use Rattle.lower_laws_rules.specs.Whole.{IsOrdered, checksum_params, pipeline_params, deparser_params, HasControl, MainFits, CellsFit, EachKeeps, ProgramKeeps}
use Rattle.lower_laws_rules.proofs.Lists.{neither, both_true, rule_kept, held_behind}
use Rattle.lower_laws_rules.proofs.Places.{not_less}
use Rattle.lower_laws_rules.proofs.Found.{left_false, right_false, is_itself, found_built_in, found_declared, parser_found, control_found}
use Rattle.lower_laws_rules.proofs.Controls.{falling}

-- one declaration

isnt : (s : Scope) (d : Decl16) (held : List Kind) → DeclarationKeeps s d held → (test : Use → Bool) → ((u : Use) → Fine u → test u ≡ false) → IsTrue (has_use test s d) → ⊥
isnt s d held k test each holds = false≢true (sym (rule_kept test each (declaration_uses s d) k.keeps.fine) ∙ holds)

-- what nests at most 400 deep keeps T12's 512

less_deep : (n : ℕ) → nat_lt 400 n ≡ false → nat_lt 512 n ≡ false
less_deep n e = not_less 512 n (by (leb_tells (suc 400) n)) where
  by : ((leb (suc 400) n ≡ true) × (suc 400 ≤ n)) ⊎ ((leb (suc 400) n ≡ false) × (n < suc 400)) → n ≤ 512
  by (inl more) = absurd (false≢true (sym e ∙ more.0))
  by (inr less) = let few = less.1 in omega (arith, few)

one_shallow : (u : Use) → is_deep u ≡ false → is_too_deep u ≡ false
one_shallow (an_expression s p e) shallow = less_deep (depth e) shallow
one_shallow (a_body d) shallow = less_deep d shallow
one_shallow u shallow = refl

still_shallow : (us : List Use) → list_any is_deep us ≡ false → list_any is_too_deep us ≡ false
still_shallow [] shallow = refl
still_shallow (u ∷ us) shallow = neither _ _ (one_shallow u (left_false _ _ shallow)) (still_shallow us (right_false _ _ shallow))

pub breaks_by_itself : (s : Scope) (d : Decl16) (held : List Kind) → DeclarationKeeps s d held → (rule : ProgramRule) → DeclarationBreaks rule s d → ⊥
breaks_by_itself s d held k T1 broken = isnt s d held k _ (λ u f. f.t1) broken
breaks_by_itself s d held k T2 broken = isnt s d held k _ (λ u f. f.t2) broken
breaks_by_itself s d held k T3 broken = isnt s d held k _ (λ u f. f.t3) broken
breaks_by_itself s d held k T4 broken = isnt s d held k _ (λ u f. f.t4) broken
breaks_by_itself s d held k T5 broken = isnt s d held k _ (λ u f. f.t5) broken
breaks_by_itself s d held k T6 broken = isnt s d held k _ (λ u f. f.t6) broken
breaks_by_itself s d held k T7 broken = k.states broken
breaks_by_itself s d held k T8 (inl broken) = isnt s d held k _ (λ u f. f.t8) broken
breaks_by_itself s d held k T8 (inr cycle) = k.calls cycle
breaks_by_itself s d held k T9 broken = isnt s d held k _ (λ u f. f.t9) broken
breaks_by_itself s d held k T10 broken = isnt s d held k _ (λ u f. f.t10) broken
breaks_by_itself s d held k T11 broken = broken
breaks_by_itself s d held k T12 broken = false≢true (sym (still_shallow (declaration_uses s d) k.keeps.shallow) ∙ broken)

-- T1: structs hold what stands before them

none_among : (seen rest : List Name) (text : Name) → ((k : ℕ) → k < length seen → bytes_eq text (get_or (seen ++ rest) k []) ≡ false) → has_name seen text ≡ false
none_among [] rest text differ = refl
none_among (x ∷ seen) rest text differ = neither _ _ (differ 0 (omega arith)) (none_among seen rest text (λ k lt. differ (suc k) (omega (arith, lt))))

before : (seen rest : List Name) (text : Name) (b : ℕ) → has_name seen text ≡ true → position (bytes_eq text) (seen ++ rest) ≡ Some b → b < length seen
before seen rest text b has at = by (leb_tells (length seen) b) where
  by : ((leb (length seen) b ≡ true) × (length seen ≤ b)) ⊎ ((leb (length seen) b ≡ false) × (b < length seen)) → b < length seen
  by (inl past) = absurd (false≢true (sym (none_among seen rest text (λ k lt. (position-Some (bytes_eq text) (seen ++ rest) b [] at).2 k (let far = past.1 in omega (arith, far, lt)))) ∙ has))
  by (inr near) = near.1

all_left : (a b : Bool) → a && b ≡ true → a ≡ true
all_left true b e = refl
all_left false b e = e

all_right : (a b : Bool) → a && b ≡ true → b ≡ true
all_right true b e = e
all_right false b e = absurd (false≢true e)

one_held : (seen rest more : List Name) (text : Name) (b : ℕ) → has_name seen text ≡ true → (Among b (filter_map (λ text. position (bytes_eq text) (seen ++ rest)) more) → b < length seen) → (o : Option ℕ) → position (bytes_eq text) (seen ++ rest) ≡ o → Among b (cons_option o (filter_map (λ text. position (bytes_eq text) (seen ++ rest)) more)) → b < length seen
one_held seen rest more text b has later None at e = later e
one_held seen rest more text b has later (Some n) at (inl same) = subst (λ k. k < length seen) (sym same) (before seen rest text n has at)
one_held seen rest more text b has later (Some n) at (inr e) = later e

held_before : (seen rest texts : List Name) (b : ℕ) → list_all (has_name seen) texts ≡ true → Among b (filter_map (λ text. position (bytes_eq text) (seen ++ rest)) texts) → b < length seen
held_before seen rest [] b all e = absurd e
held_before seen rest (text ∷ texts) b all e = one_held seen rest texts text b (all_left _ _ all) (held_before seen rest texts b (all_right _ _ all)) (position (bytes_eq text) (seen ++ rest)) refl e

grouped : (xs : List Name) (y : Name) (zs : List Name) → xs ++ y ∷ zs ≡ (xs ++ y ∷ []) ++ zs
grouped [] y zs = refl
grouped (x ∷ xs) y zs = ap (λ (ws : List Name). x ∷ ws) (grouped xs y zs)

longer : (xs : List Name) (y : Name) → length (xs ++ y ∷ []) ≡ suc (length xs)
longer [] y = refl
longer (x ∷ xs) y = ap suc (longer xs y)

edges_down : (all : List Decl16) (seen : List Name) (rest : List Decl16) → map declared_name all ≡ seen ++ map declared_name rest → IsOrdered seen rest → (a b : ℕ) → IsEdge (map (held_by all) rest) a b → b < length seen + a
edges_down all seen [] is ordered zero b e = absurd e
edges_down all seen [] is ordered (suc a) b e = absurd e
edges_down all seen (d ∷ rest) is ordered zero b e =
    let lower = held_before seen (map declared_name (d ∷ rest)) (held_names d) b ordered.0 (subst (λ (ns : List Name). Among b (filter_map (λ text. position (bytes_eq text) ns) (held_names d))) is e) in
    omega (arith, lower)
edges_down all seen (d ∷ rest) is ordered (suc a) b e =
    let lower = edges_down all (seen ++ declared_name d ∷ []) rest (is ∙ grouped seen (declared_name d) (map declared_name rest)) ordered.1 a b e in
    let one = longer seen (declared_name d) in
    omega (arith, lower, one)

pub structs_acyclic : (ds : List Decl16) → IsOrdered [] ds → HasCycle (struct_graph ds) → ⊥
structs_acyclic ds ordered = falling (struct_graph ds) (λ a b e. let lower = edges_down ds [] ds refl ordered a b e in omega (arith, lower))

-- T11

shape_itself : (x : Shape) → is_same_parameter_kind x.kind x.kind ≡ true → is_same_shape x x ≡ true
shape_itself x kind = both_true _ _ (by x.direction) kind where
  by : (d : Option Direction) → is_same_direction d d ≡ true
  by None = refl
  by (Some In) = refl
  by (Some Out) = refl
  by (Some InOut) = refl

abbrev IsItself : Shape → Type 0
IsItself x = is_same_parameter_kind x.kind x.kind ≡ true

shapes_themselves : (xs : List Shape) → AllByRecursion IsItself xs → are_same_shapes xs xs ≡ true
shapes_themselves [] all = refl
shapes_themselves (x ∷ xs) all = both_true _ _ (shape_itself x all.0) (shapes_themselves xs all.1)

abbrev first_of : Syntax16 → List Name → Option BlockShape
first_of s [] = None
first_of s (text ∷ main) = block_of (top_names s.decls) s.decls text

module _ (s : Syntax16) (h m : Name) (once : declares_twice s.decls ≡ false) (k : MainFits s h m) where
  abbrev names : List Known
  names = top_names s.decls

  abbrev four : (Kind → Kind → Kind → Kind → List Shape)
  four p x y z = shape None p ∷ shape (Some Out) x ∷ shape (Some InOut) y ∷ shape (Some InOut) z ∷ []

  abbrev three : (Kind → Kind → Kind → List Shape)
  three x y z = shape (Some InOut) x ∷ shape (Some InOut) y ∷ shape (Some InOut) z ∷ []

  is_h : type_sort (sort_in names h) ≡ struct h
  is_h = ap type_sort k.headers

  is_m : type_sort (sort_in names m) ≡ struct m
  is_m = ap type_sort k.metadata

  built : (text : Name) (of : Kind) → has_name (map called_of built_in) text ≡ true → sort_in built_in text ≡ a_type of → type_sort (sort_in names text) ≡ of
  built text of has is = ap type_sort (found_built_in s.decls text once has ∙ is)

  is_standard : type_sort (sort_in names standard_name) ≡ standard
  is_standard = built standard_name standard refl refl

  parser_shapes : map (parameter_shape names) k.parser.parameters ≡ four packet_in (struct h) (struct m) standard
  parser_shapes =
      ap (map (parameter_shape names)) k.handed
      ∙ ap₂ (λ (p x : Kind). four p x (type_sort (sort_in names m)) (type_sort (sort_in names standard_name))) (built (codes "packet_in") packet_in refl refl) is_h
      ∙ ap₂ (λ (y z : Kind). four packet_in (struct h) y z) is_m is_standard

  first : first_block s ≡ Some (record { sort = a_parser; parameters = four packet_in (struct h) (struct m) standard })
  first = ap (first_of s) k.main ∙ parser_found names s.decls k.parser k.in_it once ∙ ap (λ (xs : List Shape). Some (record { sort = a_parser; parameters = xs })) parser_shapes

  pub its_headers : headers_kind s ≡ struct h
  its_headers = ap (block_kind 1) first

  pub its_metadata : metadata_kind s ≡ struct m
  its_metadata = ap (block_kind 2) first

  control_is : (called : Name) (ps : List Param) (shapes : List Shape) → (c : HasControl s.decls called ps) → map (parameter_shape names) ps ≡ shapes → AllByRecursion IsItself shapes → is_block (a_control_of shapes) (block_of names s.decls called) ≡ true
  control_is called ps shapes c same all =
      ap (is_block (a_control_of shapes)) (subst (λ text. block_of names s.decls text ≡ Some (a_control_of (map (parameter_shape names) c.control.parameters))) c.named (control_found names s.decls c.control c.in_it once) ∙ ap (λ (xs : List Shape). Some (a_control_of xs)) (ap (map (parameter_shape names)) c.handed ∙ same))
      ∙ shapes_themselves shapes all

  checksums : map (parameter_shape names) (checksum_params h m k.roots) ≡ shape (Some InOut) (struct h) ∷ shape (Some InOut) (struct m) ∷ []
  checksums = ap₂ (λ (x y : Kind). shape (Some InOut) x ∷ shape (Some InOut) y ∷ []) is_h is_m

  pipelines : map (parameter_shape names) (pipeline_params h m k.roots) ≡ three (struct h) (struct m) standard
  pipelines = ap₂ (λ (x y : Kind). three x y (type_sort (sort_in names standard_name))) is_h is_m ∙ ap (three (struct h) (struct m)) is_standard

  deparsers : map (parameter_shape names) (deparser_params h k.roots) ≡ shape None packet_out ∷ shape (Some In) (struct h) ∷ []
  deparsers = ap₂ (λ (p x : Kind). shape None p ∷ shape (Some In) x ∷ []) (built (codes "packet_out") packet_out refl refl) is_h

  self_h : is_same_parameter_kind (struct h) (struct h) ≡ true
  self_h = is_itself h

  self_m : is_same_parameter_kind (struct m) (struct m) ≡ true
  self_m = is_itself m

  blocks : are_blocks names s.decls (wanted_blocks (struct h) (struct m)) s.main ≡ true
  blocks = ap (are_blocks names s.decls (wanted_blocks (struct h) (struct m))) k.main
      ∙ both_true _ _ (ap (is_block (record { sort = a_parser; parameters = four packet_in (struct h) (struct m) standard })) (parser_found names s.decls k.parser k.in_it once ∙ ap (λ (xs : List Shape). Some (record { sort = a_parser; parameters = xs })) parser_shapes) ∙ shapes_themselves (four packet_in (struct h) (struct m) standard) (refl, (self_h, (self_m, (refl, tt)))))
      (both_true _ _ (control_is k.verify (checksum_params h m k.roots) _ k.verifies checksums (self_h, (self_m, tt)))
      (both_true _ _ (control_is k.ingress (pipeline_params h m k.roots) _ k.ingresses pipelines (self_h, (self_m, (refl, tt))))
      (both_true _ _ (control_is k.egress (pipeline_params h m k.roots) _ k.egresses pipelines (self_h, (self_m, (refl, tt))))
      (both_true _ _ (control_is k.compute (checksum_params h m k.roots) _ k.computes checksums (self_h, (self_m, tt)))
      (both_true _ _ (control_is k.deparser (deparser_params h k.roots) _ k.deparses deparsers (refl, (self_h, tt))) refl)))))

  pub main_is : is_main s ≡ true
  main_is = ap₂ (λ (x y : Kind). are_blocks names s.decls (wanted_blocks x y) s.main && (are_headers (layouts_of s.decls) x && is_metadata (layouts_of s.decls) y)) its_headers its_metadata
      ∙ both_true _ _ blocks (both_true _ _ k.of_headers k.of_bits)

  -- the names in `main` are those of blocks
  control_named : (called : Name) (ps : List Param) → HasControl s.decls called ps → is_no_block s called ≡ false
  control_named called ps c = ap (λ (x : Sort). not (is_wanted some_block x)) (subst (λ text. sort_in names text ≡ a_block) c.named (found_declared s.decls (decl.Control c.control) c.in_it once))

  pub main_named : list_any (is_no_block s) s.main ≡ false
  main_named = ap (list_any (is_no_block s)) k.main
      ∙ neither _ _ (ap (λ (x : Sort). not (is_wanted some_block x)) (found_declared s.decls (decl.Parser k.parser) k.in_it once))
      (neither _ _ (control_named k.verify _ k.verifies) (neither _ _ (control_named k.ingress _ k.ingresses) (neither _ _ (control_named k.egress _ k.egresses) (neither _ _ (control_named k.compute _ k.computes) (neither _ _ (control_named k.deparser _ k.deparses) refl)))))

-- T12

all_held : (s : Syntax16) (held : Decl16 → List Kind) (ds : List Decl16) → AllByRecursion (EachKeeps s held) ds → flat_map held_kinds (flat_map (uses_in s) ds) ≡ flat_map held ds
all_held s held [] all = refl
all_held s held (d ∷ ds) all = held_behind (uses_in s d) (flat_map (uses_in s) ds) ∙ ap₂ (λ (xs ys : List Kind). xs ++ ys) all.0.keeps.holds (all_held s held ds all.1)

small_cells : (ns : List ℕ) → AllByRecursion CellsFit ns → list_any is_bad_cell_count ns ≡ false
small_cells [] all = refl
small_cells (n ∷ ns) all = neither _ _ (neither _ _ (not_less n 1 all.0.0) (not_less 1048576 n all.0.1)) (small_cells ns all.1)

-- the whole program

some_none : (s : Syntax16) (held : Decl16 → List Kind) (rule : ProgramRule) (ds : List Decl16) → AllByRecursion (EachKeeps s held) ds → SomeDeclaration (λ d. DeclarationBreaks rule (scope_of s d) d) ds → ⊥
some_none s held rule [] all some = some
some_none s held rule (d ∷ ds) all (inl p) = breaks_by_itself (scope_of s d) d (held d) all.0 rule p
some_none s held rule (d ∷ ds) all (inr some) = some_none s held rule ds all.1 some

pub program_breaks_none : (s : Syntax16) (h m : Name) (held : Decl16 → List Kind) → ProgramKeeps s h m held → BreaksNone s program_rules
unfolding IsBroken
program_breaks_none s h m held k = (kept T1, (kept T2, (kept T3, (kept T4, (kept T5, (kept T6, (kept T7, (kept T8, (kept T9, (kept T10, (kept T11, (kept T12, tt)))))))))))) where
  layouts : List Layout
  layouts = layouts_of s.decls

  small_headers : has_large_headers s ≡ false
  small_headers = ap₂ (λ (x y : Kind). nat_lt 131072 (fields_of_kind (layouts_of s.decls) x + fields_of_kind (layouts_of s.decls) y) || nat_lt 32768 (octets_of_kind (layouts_of s.decls) x)) (its_headers s h m k.names k.main) (its_metadata s h m k.names k.main)
      ∙ neither _ _ (not_less 131072 _ k.fields) (not_less 32768 _ k.octets)

  small_variables : has_large_variables (layouts_of s.decls) (program_uses s) ≡ false
  small_variables = ap (λ (ks : List Kind). nat_lt 262144 (sum_by (fields_of_kind (layouts_of s.decls)) ks) || nat_lt 131072 (sum_by (octets_of_kind (layouts_of s.decls)) ks)) (all_held s held s.decls k.each)
      ∙ neither _ _ (not_less 262144 _ k.held_fields) (not_less 131072 _ k.held_octets)

  whole : (r : ProgramRule) → WholeBreaks r s → ⊥
  whole T1 (inl broken) = false≢true (sym (neither _ _ k.names (main_named s h m k.names k.main)) ∙ broken)
  whole T1 (inr cycle) = structs_acyclic s.decls k.ordered cycle
  whole T9 broken = let unshared : has_shared_names s.decls ≡ false = neither _ _ (neither _ _ k.tables k.objects) k.counters in false≢true (sym unshared ∙ broken)
  whole T11 broken = false≢true (sym (ap not (main_is s h m k.names k.main)) ∙ broken)
  whole T12 broken = false≢true (sym (neither _ _ (neither _ _ small_headers small_variables) (neither _ _ (small_cells _ k.cells) (not_less 4194304 _ k.all_cells))) ∙ broken)
  whole r broken = broken

  kept : (r : ProgramRule) → SomeBreaks r s ⊎ WholeBreaks r s → ⊥
  kept r (inl some) = some_none s held r s.decls k.each some
  kept r (inr broken) = whole r broken

-- and blocks and expressions nest at most 400 deep
pub program_shallow : (s : Syntax16) (h m : Name) (held : Decl16 → List Kind) → ProgramKeeps s h m held → list_any is_deep (program_uses s) ≡ false
program_shallow s h m held k = by s.decls k.each where
  by : (ds : List Decl16) → AllByRecursion (EachKeeps s held) ds → list_any is_deep (flat_map (uses_in s) ds) ≡ false
  by [] all = refl
  by (d ∷ ds) all = list_any-append is_deep (uses_in s d) (flat_map (uses_in s) ds) ∙ neither _ _ all.0.keeps.shallow (by ds all.1)
