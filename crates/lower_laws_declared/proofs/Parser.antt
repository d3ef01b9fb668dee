-- The parser that is written fits (C1, C2).
use Rattle.std.proofs.Common.{◌≡◌, ◌≢◌, ◌⊎◌, inl, inr, ℕ, ◌<◌, ◌≤◌, ◌^◌, Bool, true, false, Option, Some, None, List, [], ◌∷◌, map, refl, sym, ap, ◌∙◌, subst}
use Rattle.std.specs.Prelude.{codes, is_some, slice_get, option_and_then, option_map}
use Rattle.std.specs.List.{list_any, fold}
use Rattle.std.proofs.lemmas.Option.{slice_get-map}
use Rattle.p414_syntax.specs.declared.headers.Initial.{Initial}
use Rattle.p414_syntax.specs.declared.headers.Initials.{Initials}
use Rattle.p414_syntax.specs.declared.headers.Metadata.{Metadata}
use Rattle.p414_syntax.specs.declared.parsers.Parser.{Parser}
use Rattle.p414_syntax.specs.declared.syntax.Decl.{Decl}
use Rattle.p414_syntax.specs.declared.syntax.Decl.TheVariants as decl14
use Rattle.p414_syntax.specs.declared.syntax.Sort.TheVariants as sort
use Rattle.p414_syntax.specs.Attributes.{initials_of}
use Rattle.p414_syntax.specs.Names.{Name, declared_in, is_in, is_declared, declaration_of, is_state}
use Rattle.p414_syntax.specs.ParserGraph.{states as states14, state_in, state_name}
use Rattle.p414_syntax.specs.Unknown.{is_unknown, lacks_start, lacks_ingress}
use Rattle.p414_syntax.specs.Uses.{uses}
use Rattle.p414_sem.specs.State.{State}
use Rattle.p414_sem.specs.Parsing.{initialized, begun, state_named}
use Rattle.p414_sem.specs.Expanded.{Expanded}
use Rattle.p416_syntax.specs.declared.program.Decl16.{Decl16}
use Rattle.v1_core.specs.Surroundings.{Setting}
use Rattle.lower_laws_names.specs.NewNames.{gives_initials}
use Rattle.lower_laws_base.specs.Context.{StateLayout}
use Rattle.lower_laws_states.specs.Expansions.{Has}
use Rattle.lower_laws_states.specs.Laws.{BreaksNo}
use Rattle.lower_laws_states.proofs.Members.{none_passes, neither, of_not, has_picked, has_mapped}
use Rattle.lower_laws_states.proofs.Rules.{none_unknown}
use Rattle.lower_laws_states.proofs.Declared.{kept_has}
use Rattle.lower_laws_states.proofs.Filling.{has_found}
use Rattle.lower_laws_parser.specs.Starts.{headers_off, Begins}
use Rattle.lower_laws_program.specs.TypesFit.{TypeWords, TypesFit}
use Rattle.lower_laws_program.specs.Fits.{ParserFits, parser_lowering}
use Rattle.lower_laws_declared.specs.Layout.{IsShort}
use Rattle.lower_laws_declared.specs.Parser.{state_called, names_of_parser, begun_with, parser_written}
use Rattle.lower_laws_declared.proofs.Found.{declaration_named, named_declared}
use Rattle.lower_laws_declared.proofs.Initials.{initials_fit}
use Rattle.lower_laws_declared.proofs.States.{states_apart, start_apart, start_stays, functions_clear, enumerations_clear}

-- no initial values

none_given : (m : Metadata) → gives_initials (decl14.Metadata m) ≡ false → initials_of m.initials ≡ []
none_given m e = by m.initials e where
  at : (is : Initials) (vs : List Initial) → gives_initials (decl14.Metadata (record m { initials = Some (record is { values = vs }) })) ≡ false → vs ≡ []
  at is [] e = refl
  at is (v ∷ vs) e = absurd (cc e)

  by : (o : Option Initials) → gives_initials (decl14.Metadata (record m { initials = o })) ≡ false → initials_of o ≡ []
  by None e = refl
  by (Some is) e = at is is.values e

module _ (ds : List Decl) where
  one_stays : (d : Decl) → gives_initials d ≡ false → (s : State) → initialized ds s d ≡ s
  one_stays (decl14.Metadata m) e s = ap (λ (is : List Initial). fold (Rattle.p414_sem.specs.Parsing.with_initial ds m.name) s is) (none_given m e)
  one_stays _ e s = refl

  all_stay : (es : List Decl) → ((d : Decl) → Has es d → gives_initials d ≡ false) → (s : State) → fold (initialized ds) s es ≡ s
  all_stay [] none s = refl
  all_stay (d ∷ es) none s = ap (λ (t : State). fold (initialized ds) t es) (one_stays d (none d (inl refl)) s) ∙ all_stay es (λ e h. none e (inr h)) s

  nothing_begun : list_any gives_initials ds ≡ false → (s : State) → begun ds s ≡ headers_off ds s
  nothing_begun none s = all_stay (declared_in sort.Instance ds) (λ d h. none_passes gives_initials ds d none (kept_has (is_in sort.Instance) ds d h)) (headers_off ds s)

  -- a state has the name `start` (C2)
  module _ (none : BreaksNo ds) where
    start_is : is_state (declaration_of sort.Parse ds (codes "start")) ≡ true
    start_is = of_not _ (neither (lacks_start ds) (lacks_ingress ds) (neither (list_any (is_unknown ds) (uses ds)) _ (none_unknown ds none)).1).0

    start_has : (p : Parser) × Has ds (decl14.Parser p) × (p.name ≡ codes "start")
    start_has = by (declaration_of sort.Parse ds (codes "start")) refl start_is where
      by : (o : Option Decl) → declaration_of sort.Parse ds (codes "start") ≡ o → is_state o ≡ true → (p : Parser) × Has ds (decl14.Parser p) × (p.name ≡ codes "start")
      by None e is = absurd (cc is)
      by (Some (decl14.Parser p)) e is = let there = declaration_named ds sort.Parse (decl14.Parser p) (codes "start") e in (p, there.0, cc there.1)
      by (Some _) e is = absurd (cc is)

    start_declared : is_declared sort.Parse ds (codes "start") ≡ true
    start_declared = named_declared ds sort.Parse (decl14.Parser start_has.0) (codes "start") start_has.1 (ap Some start_has.2)

    start_there : is_some (state_named ds (codes "start")) ≡ true
    start_there =
        let h : Has (map state_name (states14 ds)) (codes "start") = subst (Has (map state_name (states14 ds))) start_has.2 (has_mapped state_name (states14 ds) start_has.0 (has_picked state_in ds (decl14.Parser start_has.0) start_has.0 start_has.1 refl)) in
        let n = has_found (map state_name (states14 ds)) (codes "start") h in
        ap (λ (o : Option ℕ). is_some (option_and_then (slice_get (states14 ds)) o)) n.1
        ∙ at (slice_get (states14 ds) n.0) (sym (slice_get-map state_name (states14 ds) n.0) ∙ n.2)
      where
        at : (o : Option Parser) → option_map state_name o ≡ Some (codes "start") → is_some o ≡ true
        at None e = absurd (cc e)
        at (Some p) e = refl

    module _ (short : IsShort ds) (g : StateLayout) (x : Expanded) (t : TypeWords) (types : List Decl16) (fits : TypesFit g ds x t types) (c16 : Setting) where
      begins : (b : Bool) → list_any gives_initials ds ≡ b → Begins (parser_lowering g t c16 (parser_written g ds)) ds (names_of_parser g ds) (begun_with b ds (names_of_parser g ds))
      begins true e = inl (record { written = refl; fits = initials_fit ds none g x t types fits c16 (parser_written g ds); start = start_apart ds short.few e })
      begins false e = inr (record { written = refl; none = nothing_begun e; there = start_there; start = start_stays ds short.few e start_declared })

      pub parser_fits : ParserFits g ds t c16 (parser_written g ds)
      parser_fits = record {
        state = state_called ds;
        parameters = refl;
        vars = refl;
        begins = begins (list_any gives_initials ds) refl;
        differ = states_apart ds short.few;
        functions_free = functions_clear ds short.few (list_any gives_initials ds) (names_of_parser g ds) (λ n. refl);
        enumerations_free = enumerations_clear ds short.few (list_any gives_initials ds) (names_of_parser g ds) (λ n. refl);
      }

      -- the new names of its states
      pub states_called : (called : Name) → parser_fits.state called ≡ state_called ds called
      unfolding parser_fits
      states_called called = refl
