-- What is written for the rows of a program's parser is what the mirror writes: initial values, and all states.
use Rattle.std.proofs.Common.{◌≡◌, ℕ, Bool, true, false, List, [], ◌∷◌, ◌++◌, map, refl, sym, ap, ap₂, ◌∙◌, ◌||◌, Option, Some, None}
use Rattle.std.specs.Prelude.{flat_map, codes}
use Rattle.std.specs.List.{list_any}
use Rattle.std.proofs.lemmas.List.{map-append}
use Rattle.p414_syntax.specs.Attributes.{initials_of}
use Rattle.p414_syntax.specs.declared.headers.Initial.{Initial}
use Rattle.p414_syntax.specs.declared.headers.Initials.{Initials}
use Rattle.p414_syntax.specs.declared.syntax.Decl.{Decl}
use Rattle.p414_syntax.specs.declared.syntax.Decl.TheVariants as decl
use Rattle.p414_syntax.specs.declared.syntax.Sort.TheVariants as sort
use Rattle.p414_syntax.specs.Names.{Name, declared_in}
use Rattle.p414_syntax.specs.ParserGraph.{states}
use Rattle.p414_sem.specs.Slots.{slot_of, bits_of_ref}
use Rattle.p414_sem.specs.Wholes.{whole, wrapped}
use Rattle.p414_sem.specs.Parsing.{field_named}
use Rattle.p414_slots.specs.Shown.{slot_in, kept_slot}
use Rattle.p414_ready_parser.specs.declared.rows.InitialRow.{InitialRow}
use Rattle.p414_ready_parser.specs.declared.parser.ReadyParser.{ReadyParser}
use Rattle.p414_ready_parser.specs.Rows.{initial_row, initials_in, ready_rows}
use Rattle.p416_syntax.specs.declared.parsers.State.{State}
use Rattle.p416_syntax.specs.declared.parsers.Transition.TheVariants as transition
use Rattle.p416_syntax.specs.Tree.{literal, Stmt16, no_statements, then, assign}
use Rattle.agreement_of_meanings.specs.Shown.{Shown, slot_width}
use Rattle.lower_laws_base.specs.Context.{Lowering, Words, words_of, now}
use Rattle.lower_laws_base.specs.Mirror.{sized, slot_exp, width_in}
use Rattle.lower_laws_actions.specs.Mirror.{behind_stmts}
use Rattle.lower_laws_names.specs.Instances.{shown_instances}
use Rattle.lower_laws_names.specs.NewNames.{gives_initials}
use Rattle.v1_core.specs.Frames.{of_headers, of_metadata, of_standard}
use Rattle.lower_laws_program.specs.Program.{root_name}
use Rattle.lower_laws_parser.specs.Words.{ParserWords, state_of, next_of}
use Rattle.lower_laws_parser.specs.Starts.{initial_stmt, initials_from, decl_initials, all_initials, start_state, InitialFits, InitialsFit, DeclFits, DeclsFit}
use Rattle.lower_laws_declared.specs.Layout.{layout_shaped}
use Rattle.lower_laws_declared.specs.Parser.{begun_with, states_written}
use Rattle.lower_rows.specs.declared.instances.InstanceRow.{InstanceRow}
use Rattle.lower_rows.specs.Named.{instance_shown}
use Rattle.lower_parser.specs.Rows.{row_initial, row_start, row_front}
use Rattle.lower_parser.specs.Written.{NamesAre, parser_names, IsAccepted}
use Rattle.lower_parser.proofs.Same.{slot_same, slot_words}
use Rattle.lower_parser.proofs.Around.{around, shown_around, initials_fit_around}

-- only metadata has initial values
pub instances_alone : (ds es : List Decl) → flat_map (initials_in ds) es ≡ flat_map (initials_in ds) (declared_in sort.Instance es)
instances_alone ds [] = refl
instances_alone ds (decl.Metadata x ∷ es) = ap (λ (l : List InitialRow). initials_in ds (decl.Metadata x) ++ l) (instances_alone ds es)
instances_alone ds (_ ∷ es) = instances_alone ds es

-- statements behind those that stand behind others
behind_append : (x : Stmt16) (a b : List Stmt16) → behind_stmts x (a ++ b) ≡ behind_stmts (behind_stmts x a) b
behind_append x [] b = refl
behind_append x (s ∷ a) b = behind_append ((then) x s) a b

-- Where all initial values are ones of fields, whose widths the table has.
module _ (ds : List Decl) (t : Words) (same : NamesAre ds t) (c : Lowering) (shown : c.layout.names.instances ≡ shown_instances ds) where
  abbrev p : ParserWords
  p = parser_names ds

  initial_same : (called : Name) (i : Initial) → InitialFits c ds called i → row_initial t (initial_row ds called i) ≡ initial_stmt ds p called i
  initial_same called i fits =
      let r = field_named called i.field in
      let bits : width_in t (slot_in (kept_slot (slot_of ds r))) ≡ bits_of_ref ds r = ap (width_in t) (slot_same (slot_of ds r)) ∙ ap (λ (xs : List Shown). slot_width xs (slot_of ds r)) (sym same.instances ∙ sym shown) ∙ sym fits.1 in
      ap₂ (λ s n. assign (slot_exp t now s) (literal (sized n (wrapped (bits_of_ref ds r) (whole i.value))))) (slot_same (slot_of ds r)) bits
      ∙ ap (λ e. assign e (literal (sized (bits_of_ref ds r) (wrapped (bits_of_ref ds r) (whole i.value))))) (sym (slot_words ds t same (slot_of ds r)))

  some_same : (called : Name) (x : Stmt16) (is : List Initial) → InitialsFit c ds called is → behind_stmts x (map (row_initial t) (map (initial_row ds called) is)) ≡ initials_from ds p called x is
  some_same called x [] fits = refl
  some_same called x (i ∷ is) fits =
      ap (λ y. behind_stmts ((then) x y) (map (row_initial t) (map (initial_row ds called) is))) (initial_same called i fits.0)
      ∙ some_same called ((then) x (initial_stmt ds p called i)) is fits.1

  decl_same : (x : Stmt16) (d : Decl) → DeclFits c ds d → behind_stmts x (map (row_initial t) (initials_in ds d)) ≡ decl_initials ds p x d
  decl_same x (decl.Metadata m) fits = some_same m.name x (initials_of m.initials) fits
  decl_same x _ fits = refl

  all_same : (x : Stmt16) (es : List Decl) → DeclsFit c ds es → behind_stmts x (map (row_initial t) (flat_map (initials_in ds) es)) ≡ all_initials ds p x es
  all_same x [] fits = refl
  all_same x (d ∷ es) fits =
      ap (behind_stmts x) (map-append (row_initial t) (initials_in ds d) (flat_map (initials_in ds) es))
      ∙ behind_append x (map (row_initial t) (initials_in ds d)) (map (row_initial t) (flat_map (initials_in ds) es))
      ∙ ap (λ y. behind_stmts y (map (row_initial t) (flat_map (initials_in ds) es))) (decl_same x d fits.0)
      ∙ all_same (decl_initials ds p x d) es fits.1

  module _ (fits : DeclsFit c ds (declared_in sort.Instance ds)) where
    pub start_same : row_start t (flat_map (initials_in ds) ds) (next_of ds p (codes "start")) ≡ start_state ds p
    start_same =
        ap (λ body. record { name = codes "start"; body = body; transition = transition.Go (next_of ds p (codes "start")) })
        (ap (λ l. behind_stmts no_statements (map (row_initial t) l)) (instances_alone ds ds) ∙ all_same no_statements (declared_in sort.Instance ds) fits)

-- whether there are initial values

abbrev some_rows : List InitialRow → Bool
some_rows [] = false
some_rows (row ∷ rows) = true

some_given : (ds es : List Decl) → some_rows (flat_map (initials_in ds) es) ≡ list_any gives_initials es
some_given ds [] = refl
some_given ds (decl.Metadata m ∷ es) = by m.initials (some_given ds es) where
  at : (is : Initials) (vs : List Initial) → some_rows (flat_map (initials_in ds) es) ≡ list_any gives_initials es → some_rows (map (initial_row ds m.name) vs ++ flat_map (initials_in ds) es) ≡ gives_initials (decl.Metadata (record m { initials = Some (record is { values = vs }) })) || list_any gives_initials es
  at is [] more = more
  at is (v ∷ vs) more = refl

  by : (o : Option Initials) → some_rows (flat_map (initials_in ds) es) ≡ list_any gives_initials es → some_rows (map (initial_row ds m.name) (initials_of o) ++ flat_map (initials_in ds) es) ≡ gives_initials (decl.Metadata (record m { initials = o })) || list_any gives_initials es
  by None more = more
  by (Some is) more = at is is.values more
some_given ds (_ ∷ es) = some_given ds es

module _ (ds : List Decl) (t : Words) (same : NamesAre ds t) (c : Lowering) (shown : c.layout.names.instances ≡ shown_instances ds) (fits : DeclsFit c ds (declared_in sort.Instance ds)) where
  front_same : (rows : List InitialRow) → rows ≡ flat_map (initials_in ds) ds → row_front t rows (next_of ds (parser_names ds) (codes "start")) ++ map (state_of ds (parser_names ds)) (states ds) ≡ begun_with (some_rows rows) ds (parser_names ds)
  front_same [] e = refl
  front_same (row ∷ rows) e = ap (λ (s : State). s ∷ map (state_of ds (parser_names ds)) (states ds)) (ap (λ (rs : List InitialRow). row_start t rs (next_of ds (parser_names ds) (codes "start"))) e ∙ start_same ds t same c shown fits)

  pub all_states : (rows : List InitialRow) → rows ≡ flat_map (initials_in ds) ds → row_front t rows (next_of ds (parser_names ds) (codes "start")) ++ map (state_of ds (parser_names ds)) (states ds) ≡ states_written (layout_shaped ds []) ds
  all_states rows e = front_same rows e ∙ ap (λ (b : Bool). begun_with b ds (parser_names ds)) (ap some_rows e ∙ some_given ds ds)

-- the state of initial values, and behind it all states
pub states_made : (ds es : List Decl) (t : Words) (rows given : List InitialRow) (none front made : List State) → es ≡ ds → given ≡ rows → none ≡ [] → front ≡ none ++ row_front t given (next_of es (parser_names es) (codes "start"))
    → made ≡ front ++ map (state_of es (parser_names es)) (states es) → made ≡ row_front t rows (next_of ds (parser_names ds) (codes "start")) ++ map (state_of ds (parser_names ds)) (states ds)
states_made ds es t rows given none front made same are empty first all =
    all
    ∙ ap (λ (l : List State). l ++ map (state_of es (parser_names es)) (states es)) (first ∙ ap₂ (λ (n : List State) (g : List InitialRow). n ++ row_front t g (next_of es (parser_names es) (codes "start"))) empty are)
    ∙ ap (λ (xs : List Decl). row_front t rows (next_of xs (parser_names xs) (codes "start")) ++ map (state_of xs (parser_names xs)) (states xs)) same

-- The states that are put there are those of the mirror.
pub states_same : (ds : List Decl) (t : Words) → NamesAre ds t → IsAccepted ds → (ready : ReadyParser) (made : List State) → ready ≡ ready_rows ds
    → made ≡ row_front t ready.initials (next_of ds (parser_names ds) (codes "start")) ++ map (state_of ds (parser_names ds)) (states ds) → made ≡ states_written (layout_shaped ds []) ds
states_same ds t same accepted ready made is all =
    all ∙ all_states ds t same (around ds accepted) (shown_around ds accepted) (initials_fit_around ds accepted) ready.initials (ap (λ (r : ReadyParser). r.initials) is)

-- the names of a parser's table
pub names_are : (ds : List Decl) (rows : List InstanceRow) (w : Words) → map instance_shown rows ≡ shown_instances ds → w.names.instances ≡ map instance_shown rows → w.root ≡ root_name → NamesAre ds w
names_are ds rows w shown same roots = record {
  instances = sym shown ∙ sym same;
  headers = ap (λ r. r of_headers) (sym roots);
  metadata = ap (λ r. r of_metadata) (sym roots);
  standard = ap (λ r. r of_standard) (sym roots);
}
