-- The rows parse as the program does.
use Rattle.std.proofs.Common.{◌≡◌, ℕ, zero, suc, ◌+◌, ◌*◌, List, [], ◌∷◌, length, map, flat_map, slice_get, Option, Some, None, option_and_then, option_map, refl, sym, ap, ◌∙◌}
use Rattle.std.specs.Prelude.{codes, filter, fold}
use Rattle.std.proofs.lemmas.List.{length-map}
use Rattle.std.proofs.lemmas.List.Sums.{fold-append}
use Rattle.std.proofs.lemmas.Option.{slice_get-map}
use Rattle.p414_syntax.specs.declared.headers.Initial.{Initial}
use Rattle.p414_syntax.specs.declared.parsers.Parser.{Parser}
use Rattle.p414_syntax.specs.declared.syntax.Decl.{Decl}
use Rattle.p414_syntax.specs.declared.syntax.Decl.TheVariants as decl
use Rattle.p414_syntax.specs.declared.syntax.Sort.TheVariants as sort
use Rattle.p414_syntax.specs.Attributes.{initials_of}
use Rattle.p414_syntax.specs.Names.{Name, is_in}
use Rattle.p414_syntax.specs.ParserGraph.{states, state_number}
use Rattle.p414_syntax.specs.Uses.{last_of}
use Rattle.p414_sem.specs.Parsing.{field_named, with_initial, initialized, begun, goes_on, does_next, Step, to, ended, steps, state_named, step_from, followed, run_out, parse_from, most_states, Parse, parsed}
use Rattle.p414_sem.specs.Meanings.{Parse14}
use Rattle.p414_sem.specs.Slots.{Slot, bits_of_ref, slot_of}
use Rattle.p414_sem.specs.State.{State, written}
use Rattle.p414_sem.specs.Wholes.{whole, wrapped}
use Rattle.p414_sem.specs.declared.parsed.Parsed.TheVariants.{Accepted}
use Rattle.p414_ready_parser.specs.declared.rows.Next.{Next}
use Rattle.p414_ready_parser.specs.declared.parser.ReadyParser.{ReadyParser}
use Rattle.p414_ready_parser.specs.Meaning.{AreWidthsOf, headers_off, Means}
use Rattle.p414_ready_parser.specs.Rows.{initial_row, initials_in, next_by, next_row, state_row, ready_rows}
use Rattle.p414_ready_parser.specs.Running as run
use Rattle.p414_ready_parser.proofs.Valuing.{slot_back}
use Rattle.p414_ready_parser.proofs.Doing.{all_do, all_end}
use Rattle.p414_ready_parser.proofs.Selects.{step_as, ends_same}

-- initial values

initial_is : (ds : List Decl) (name : Name) (s : State) (i : Initial) → run.with_row s (initial_row ds name i) ≡ with_initial ds name s i
initial_is ds name s i =
    ap (λ (slot : Slot). written s slot (wrapped (bits_of_ref ds (field_named name i.field)) (whole i.value))) (slot_back (slot_of ds (field_named name i.field)))

initials_are : (ds : List Decl) (name : Name) (initials : List Initial) (s : State) → fold run.with_row s (map (initial_row ds name) initials) ≡ fold (with_initial ds name) s initials
initials_are ds name [] s = refl
initials_are ds name (i ∷ initials) s =
    ap (λ t. fold run.with_row t (map (initial_row ds name) initials)) (initial_is ds name s i)
    ∙ initials_are ds name initials (with_initial ds name s i)

all_initials : (ds decls : List Decl) (s : State) → fold run.with_row s (flat_map (initials_in ds) decls) ≡ fold (initialized ds) s (filter (is_in sort.Instance) decls)
all_initials ds [] s = refl
all_initials ds (decl.Metadata x ∷ decls) s =
    fold-append run.with_row s (map (initial_row ds x.name) (initials_of x.initials)) (flat_map (initials_in ds) decls)
    ∙ (ap (λ t. fold run.with_row t (flat_map (initials_in ds) decls)) (initials_are ds x.name (initials_of x.initials) s)
    ∙ all_initials ds decls (fold (with_initial ds x.name) s (initials_of x.initials)))
all_initials ds (decl.Header x ∷ decls) s = all_initials ds decls s
all_initials ds (decl.HeaderType x ∷ decls) s = all_initials ds decls s
all_initials ds (decl.FieldList x ∷ decls) s = all_initials ds decls s
all_initials ds (decl.FieldListCalculation x ∷ decls) s = all_initials ds decls s
all_initials ds (decl.CalculatedField x ∷ decls) s = all_initials ds decls s
all_initials ds (decl.Parser x ∷ decls) s = all_initials ds decls s
all_initials ds (decl.Action x ∷ decls) s = all_initials ds decls s
all_initials ds (decl.Table x ∷ decls) s = all_initials ds decls s
all_initials ds (decl.Counter x ∷ decls) s = all_initials ds decls s
all_initials ds (decl.Meter x ∷ decls) s = all_initials ds decls s
all_initials ds (decl.Register x ∷ decls) s = all_initials ds decls s
all_initials ds (decl.Control x ∷ decls) s = all_initials ds decls s
all_initials ds (decl.LeftOut x ∷ decls) s = all_initials ds decls s

begun_is : (ds : List Decl) (s : State) → run.with_initials (flat_map (initials_in ds) ds) (headers_off ds s) ≡ begun ds s
begun_is ds s = all_initials ds ds (headers_off ds s)

-- states

module _ (ds : List Decl) (widths : ℕ → List ℕ) (are : AreWidthsOf ds widths) where
  state_is : (p : Parser) (s : State) → run.run_state widths (state_row ds p) s ≡ step_as ds (steps ds p s)
  state_is p s =
      ap (run.end_by (state_row ds p).end) (sym (all_do ds widths are p.statements None s))
      ∙ ends_same ds p.end (fold (does_next ds) (goes_on None s) p.statements) (last_of None p.statements) (all_end ds widths are p.statements None s)

  abbrev entered : Option Parser → State → Step
  entered None s = ended Accepted s
  entered (Some p) s = steps ds p s

  found_is : (o : Option Parser) (s : State) → run.run_found widths (option_map (state_row ds) o) s ≡ step_as ds (entered o s)
  found_is None s = refl
  found_is (Some p) s = state_is p s

  by_number : (o : Option ℕ) (s : State) → run.run_next widths (map (state_row ds) (states ds)) (next_by o) s ≡ step_as ds (entered (option_and_then (slice_get (states ds)) o) s)
  by_number None s = refl
  by_number (Some n) s =
      ap (λ q. run.run_found widths q s) (slice_get-map (state_row ds) (states ds) n) ∙ found_is (slice_get (states ds) n) s

  entered_is : (name : Name) (s : State) (o : Option Parser) → state_named ds name ≡ o → step_from ds name s ≡ entered o s
  entered_is name s None e = rw e refl
  entered_is name s (Some p) e = rw e refl

  step_is : (name : Name) (s : State) → run.run_next widths (map (state_row ds) (states ds)) (next_row ds name) s ≡ step_as ds (step_from ds name s)
  step_is name s = by_number (state_number ds name) s ∙ ap (step_as ds) (sym (entered_is name s (state_named ds name) refl))

  followed_is : (parse : Next → State → Parse) (more : Name → State → Parse) → ((name : Name) (s : State) → parse (next_row ds name) s ≡ more name s) → (step : Step) → run.run_on parse (step_as ds step) ≡ followed more step
  followed_is parse more h (to name s) = h name s
  followed_is parse more h (ended end s) = refl

  out_at_is : (o : Option Parser) → run.out_at (option_map (state_row ds) o) ≡ run_out o
  out_at_is None = refl
  out_at_is (Some p) = refl

  out_is : (o : Option ℕ) → run.run_out (map (state_row ds) (states ds)) (next_by o) ≡ run_out (option_and_then (slice_get (states ds)) o)
  out_is None = refl
  out_is (Some n) = ap run.out_at (slice_get-map (state_row ds) (states ds) n) ∙ out_at_is (slice_get (states ds) n)

  from_is : (left : ℕ) (name : Name) (s : State) → run.run_from widths (map (state_row ds) (states ds)) left (next_row ds name) s ≡ parse_from ds left name s
  from_is zero name s =
      ap (λ end. record { end = end; state = s }) (out_is (state_number ds name))
  from_is (suc left) name s =
      ap (run.run_on (run.run_from widths (map (state_row ds) (states ds)) left)) (step_is name s)
      ∙ followed_is (run.run_from widths (map (state_row ds) (states ds)) left) (parse_from ds left) (from_is left) (step_from ds name s)

  parses : (s : State) → run.ready_parse widths (ready_rows ds) (headers_off ds s) ≡ Parse14 ds s
  unfolding parsed
  parses s =
      ap (λ t. run.run_from widths (map (state_row ds) (states ds)) (run.most_runs (map (state_row ds) (states ds)) (headers_off ds s)) (next_row ds (codes "start")) t) (begun_is ds s)
      ∙ (ap (λ n. run.run_from widths (map (state_row ds) (states ds)) ((length s.unparsed + 1) * (n + 1)) (next_row ds (codes "start")) (begun ds s)) (length-map (states ds) (state_row ds))
      ∙ from_is (most_states ds s) (codes "start") (begun ds s))

pub rows_mean : (ds : List Decl) (parser : ReadyParser) → parser ≡ ready_rows ds → Means ds parser
rows_mean ds parser is widths are s = ap (λ r. run.ready_parse widths r (headers_off ds s)) is ∙ parses ds widths are s
