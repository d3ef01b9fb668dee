-- What the calls of a ready program give, where it is seen as `now`.
use Rattle.std.proofs.Common.{◌≡◌, ℕ, Bool, false, List, Option, refl, sym, ap, ap₂, ◌∙◌, subst}
use Rattle.state_store.specs.State.{Contents}
use Rattle.p414_act_run.specs.declared.calculations.Calculations.{Calculations}
use Rattle.p414_act_run.specs.Sums.{sums_in}
use Rattle.p414_syntax.specs.declared.syntax.Decl.{Decl}
use Rattle.p414_syntax.specs.declared.syntax.Rule14.{Rule14}
use Rattle.match_core.specs.declared.entries.Entries.{Entries}
use Rattle.p414_calculated_fields.specs.declared.rows.CalculatedRow.{CalculatedRow}
use Rattle.p414_calculated_fields.specs.Meaning.{MeansFields}
use Rattle.p414_calculated_fields.specs.Running.{rows_fail, rows_updated}
use Rattle.p414_field_lists.specs.declared.rows.ItemRow.{ItemRow}
use Rattle.p414_field_lists.specs.Meaning.{AreReady}
use Rattle.p414_laws.proofs.Whole.{comes_to_something}
use Rattle.p414_laws.specs.Expansion.{expansion}
use Rattle.p414_layout.specs.declared.shape.Shape.{Shape}
use Rattle.p414_layout.specs.Shapes.{layout_of}
use Rattle.p414_parse_run.specs.Fits.{FitsParser}
use Rattle.p414_passes.proofs.Deparsing.{leaves_as}
use Rattle.p414_passes.proofs.Preserving.{list_kept_as, nothing_as}
use Rattle.p414_passes.specs.Kept.{FitsKept, kept_by, nothing_kept}
use Rattle.p414_passes.specs.Leaving.{AreWhole, leaving}
use Rattle.p414_ready_actions.specs.Meaning.{AreSums}
use Rattle.p414_ready_parser.specs.declared.parser.ReadyParser.{ReadyParser}
use Rattle.p414_ready_parser.specs.Meaning.{Means}
use Rattle.p414_syntax.specs.Tree.{Stmt}
use Rattle.match_core.specs.Stores.{shapes_of}
use Rattle.p414_ready_tables.specs.Loaded.{Loaded, setting}
use Rattle.p414_sem.specs.Controls.{control_run}
use Rattle.p414_sem.specs.Signatures.{signature14}
use Rattle.p414_syntax.specs.Breaks.{BreaksNone, program_rules}
use Rattle.p414_syntax.specs.ParserGraph.{Order}
use Rattle.p414_sem.specs.CalculatedFields.{fails_verification, updated}
use Rattle.p414_sem.specs.Effects.{Moment}
use Rattle.p414_sem.specs.Expanded.{Expanded, IsExpanded}
use Rattle.p414_sem.specs.Passes.{Held, Preserved, cloned, deparsed, none_preserved, preserved_by}
use Rattle.p414_sem.specs.State.{State}
use Rattle.p414_state.specs.Packets.{Packet, with_state}
use Rattle.p414_pipe_run.specs.Prepared.{Prepared, comes_to, setting_of}
use Rattle.p414_pipe_run.specs.internal.Ready.{AreParts}

-- a program that was made ready
pub made_of_parts : (loaded : Loaded) (ds : List Decl) (rule : Rule14) (entries : Entries) (order : List ℕ) (parser : ReadyParser) (layout : List Shape) (lists : List (List ItemRow)) (fields : List CalculatedRow) (calculations : Calculations) → loaded ≡ record { decls = ds; rule = rule; entries = entries } → BreaksNone ds program_rules → Order ds order → Means ds parser → FitsParser (layout_of ds) parser → layout ≡ layout_of ds → AreWhole layout → AreReady ds lists → MeansFields ds fields → ((x : Expanded) → IsExpanded ds x → AreSums ds x (sums_in calculations)) → AreParts (record { loaded = loaded; order = order }) parser layout lists fields calculations
made_of_parts loaded ds rule entries order parser layout lists fields calculations is none ordered means fits laid whole ready calculated sums =
    subst (λ (l : Loaded). AreParts (record { loaded = l; order = order }) parser layout lists fields calculations) (sym is) (record {
      means = means;
      fits = fits;
      laid = laid;
      whole = whole;
      ready = ready;
      calculated = calculated;
      sums = sums;
      expanded = comes_to_something ds order none ordered;
    })

-- what it comes to is there
pub expands_there : (ds : List Decl) (rule : Rule14) (entries : Entries) (loaded : Loaded) (order : List ℕ) → loaded ≡ record { decls = ds; rule = rule; entries = entries } → BreaksNone ds program_rules → Order ds order → IsExpanded ds (expansion loaded.decls order)
expands_there ds rule entries loaded order is none ordered =
    subst (λ (l : Loaded). IsExpanded ds (expansion l.decls order)) (sym is) (comes_to_something ds order none ordered)

order_is : (ds : List Decl) (order : List ℕ) → (expansion ds order).order ≡ order
unfolding expansion
order_is ds order = refl

module _ (p now : Prepared) (parser : ReadyParser) (layout : List Shape) (lists : List (List ItemRow)) (fields : List CalculatedRow) (calculations : Calculations) (seen : p ≡ now) (parts : AreParts p parser layout lists fields calculations) where
  pub parts_now : AreParts now parser layout lists fields calculations
  parts_now = subst (λ (q : Prepared). AreParts q parser layout lists fields calculations) seen parts

  pub laid_now : layout ≡ layout_of now.loaded.decls
  laid_now = parts_now.laid

  pub whole_now : AreWhole layout
  whole_now = parts.whole

  pub nothing_now : (shapes : List Shape) (q : Preserved) → shapes ≡ layout → q ≡ nothing_kept shapes → q ≡ none_preserved now.loaded.decls
  nothing_now shapes q same is = nothing_as now.loaded.decls shapes q (same ∙ laid_now) is

  pub fits_now : (shapes : List Shape) (q : Preserved) → shapes ≡ layout → FitsKept shapes q → FitsKept (layout_of now.loaded.decls) q
  fits_now shapes q same fits = subst (λ (l : List Shape). FitsKept l q) (same ∙ laid_now) fits

  pub shapes_now : (shapes : List Shape) (packet : Packet) → shapes ≡ layout → packet.layout ≡ layout_of now.loaded.decls → shapes ≡ packet.layout
  shapes_now shapes packet same is = same ∙ (laid_now ∙ sym is)

  pub preserved_now : (shapes : List Shape) (s : State) (list : Option ℕ) (q : Preserved) → shapes ≡ layout → q ≡ kept_by shapes lists s list → q ≡ preserved_by now.loaded.decls (comes_to now) s list
  preserved_now shapes s list q same is =
      list_kept_as now.loaded.decls (comes_to now) shapes lists s list q (same ∙ laid_now) parts_now.ready parts_now.expanded is

  pub whole_there : (packet : Packet) → packet.layout ≡ layout_of now.loaded.decls → AreWhole packet.layout
  whole_there packet is = subst AreWhole (laid_now ∙ sym is) parts.whole

  pub kept_there : (shapes : List Shape) (packet : Packet) (q : Preserved) → shapes ≡ layout → packet.layout ≡ layout_of now.loaded.decls → FitsKept shapes q → FitsKept packet.layout q
  kept_there shapes packet q same is fits = subst (λ (l : List Shape). FitsKept l q) (shapes_now shapes packet same is) fits

  pub clone_now : (shapes : List Shape) (list : Option ℕ) (packet clone : Packet) (q : Preserved) → shapes ≡ layout → q ≡ kept_by shapes lists packet.state list → packet.layout ≡ layout_of now.loaded.decls → ((ds : List Decl) → packet.layout ≡ layout_of ds → (record { state = clone.state; failed = false } ≡ cloned ds q packet.state) × (clone.layout ≡ layout_of ds)) → clone ≡ record { layout = layout_of now.loaded.decls; state = (cloned now.loaded.decls (preserved_by now.loaded.decls (comes_to now) packet.state list) packet.state).state }
  clone_now shapes list packet clone q same kept is clones =
      let both = clones now.loaded.decls is in
      ap₂ (λ (l : List Shape) (s : State). record { layout = l; state = s }) both.1
      (ap (λ (h : Held). h.state) both.0 ∙ ap (λ (k : Preserved). (cloned now.loaded.decls k packet.state).state) (preserved_now shapes packet.state list q same kept))

  pub kept_here : (q : Preserved) → FitsKept (layout_of now.loaded.decls) q → FitsKept layout q
  kept_here q fits = subst (λ (l : List Shape). FitsKept l q) (sym laid_now) fits

  pub parser_fits : (packet : Packet) → packet.layout ≡ layout_of now.loaded.decls → FitsParser packet.layout parser
  parser_fits packet is = subst (λ (l : List Shape). FitsParser l parser) (sym is) parts_now.fits

  pub fails_now : (s : State) (fails : Bool) → fails ≡ rows_fail (sums_in calculations) s fields → fails ≡ fails_verification now.loaded.decls (comes_to now) s
  fails_now s fails is =
      is ∙ parts_now.calculated.verify (comes_to now) parts_now.expanded (sums_in calculations) (parts_now.sums (comes_to now) parts_now.expanded) s

  pub updated_now : (old new : Packet) → old.layout ≡ layout_of now.loaded.decls → new ≡ with_state old (rows_updated old.layout (sums_in calculations) old.state fields) → new ≡ record { layout = layout_of now.loaded.decls; state = updated now.loaded.decls (comes_to now) old.state }
  updated_now old new same is =
      is
      ∙ (ap (λ (l : List Shape). record { layout = l; state = rows_updated l (sums_in calculations) old.state fields }) same
      ∙ ap (λ (s : State). record { layout = layout_of now.loaded.decls; state = s })
      (parts_now.calculated.update (comes_to now) parts_now.expanded (sums_in calculations) (parts_now.sums (comes_to now) parts_now.expanded) old.state))

  pub whole_behind : (new : Packet) (s : State) → new ≡ record { layout = layout_of now.loaded.decls; state = s } → AreWhole new.layout
  whole_behind new s is = subst AreWhole (laid_now ∙ sym (ap (λ (q : Packet). q.layout) is)) parts.whole

  pub left_now : (order : List ℕ) (old new : Packet) (out : List ℕ) → order ≡ now.order → old.layout ≡ layout_of now.loaded.decls → new ≡ with_state old (rows_updated old.layout (sums_in calculations) old.state fields) → out ≡ leaving new.layout order new.state → out ≡ deparsed now.loaded.decls (comes_to now) (updated now.loaded.decls (comes_to now) old.state)
  left_now order old new out ordered same went is =
      is
      ∙ (ap (λ (q : Packet). leaving q.layout order q.state) (updated_now old new same went)
      ∙ (ap (λ (o : List ℕ). leaving (layout_of now.loaded.decls) o (updated now.loaded.decls (comes_to now) old.state)) (ordered ∙ sym (order_is now.loaded.decls now.order))
      ∙ leaves_as now.loaded.decls (comes_to now) (updated now.loaded.decls (comes_to now) old.state)))

  -- the controls run on what they need

  pub layout_here : (packet : Packet) → packet.layout ≡ layout_of now.loaded.decls → packet.layout ≡ layout_of p.loaded.decls
  layout_here packet is = subst (λ (q : Prepared). packet.layout ≡ layout_of q.loaded.decls) (sym seen) is

  pub store_here : (store : Contents) → store.shapes ≡ shapes_of (signature14 now.loaded.decls) now.loaded.entries → store.shapes ≡ shapes_of (signature14 p.loaded.decls) p.loaded.entries
  store_here store is = subst (λ (q : Prepared). store.shapes ≡ shapes_of (signature14 q.loaded.decls) q.loaded.entries) (sym seen) is

  pub runs_now : (body : Expanded → Stmt) (old new : Moment) → ((x : Expanded) → IsExpanded p.loaded.decls x → new ≡ control_run (setting p.loaded x) (body x) old) → new ≡ control_run (setting_of now) (body (comes_to now)) old
  runs_now body old new runs =
      subst (λ (q : Prepared). (x : Expanded) → IsExpanded q.loaded.decls x → new ≡ control_run (setting q.loaded x) (body x) old) seen runs (comes_to now) parts_now.expanded
