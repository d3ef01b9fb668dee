-- The initial values of metadata, and all states of a parser, break no rule.
use Rattle.std.proofs.Common.{◌≡◌, ℕ, ◌<◌, ◌≤◌, true, List, [], ◌∷◌, map, sym, subst, arith}
use Rattle.std.specs.Prelude.{codes, is_some}
use Rattle.std.specs.List.{AllByRecursion}
use Rattle.p414_syntax.specs.declared.headers.Initial.{Initial}
use Rattle.p414_syntax.specs.declared.parsers.Parser.{Parser}
use Rattle.p414_syntax.specs.declared.syntax.Decl.{Decl}
use Rattle.p414_syntax.specs.declared.syntax.Decl.TheVariants as decl
use Rattle.p414_syntax.specs.declared.syntax.Sort.TheVariants as sort
use Rattle.p414_syntax.specs.Attributes.{initials_of}
use Rattle.p414_syntax.specs.Names.{Name, declared_in}
use Rattle.p414_sem.specs.Wholes.{whole, wrapped}
use Rattle.p414_sem.specs.Slots.{Slot, standard, declared, slot_of, bits_of_ref}
use Rattle.p414_sem.specs.Parsing.{field_named, state_named}
use Rattle.p416_syntax.specs.Conditions.{statements}
use Rattle.p416_syntax.specs.Tree.{literal, Stmt16, no_statements, then, assign}
use Rattle.p416_syntax.specs.Scopes.{Scope, a_state, sort_of}
use Rattle.v1_core.specs.Frames.{of_standard}
use Rattle.agreement_of_meanings.specs.Shown.{owner_of}
use Rattle.lower_laws_base.specs.Context.{Lowering, words_of, shown_in, now, IsSlot}
use Rattle.lower_laws_base.specs.Mirror.{sized, width_in, slot_exp}
use Rattle.lower_laws_base.proofs.Wrap.{wrap_below}
use Rattle.lower_laws_parser.specs.Words.{ParserWords, state_of}
use Rattle.lower_laws_parser.specs.Parsing.{StateFits, parser_words}
use Rattle.lower_laws_parser.specs.Starts.{initial_stmt, initials_from, decl_initials, all_initials, start_state, InitialFits, InitialsFit, DeclFits, DeclsFit}
use Rattle.lower_laws_rules.specs.Keeping.{Part}
use Rattle.lower_laws_rules.specs.Standing.{slot_owner}
use Rattle.lower_laws_rules.specs.Declared.{StateKeeps}
use Rattle.lower_laws_rules.specs.Spelling.{SpeltStmt}
use Rattle.lower_laws_rules.proofs.Places.{writable}
use Rattle.lower_laws_rules.proofs.Sound.{sound_literal}
use Rattle.lower_laws_rules.proofs.Parts.{part_none, part_then, part_put}
use Rattle.lower_laws_rules.proofs.Sources.{sound_slot}
use Rattle.lower_laws_rules.proofs.Controls.{transition_go, state_kept}
use Rattle.lower_laws_rules.proofs.SpeltParts.{sized_spelt}
use Rattle.lower_laws_block_rules.specs.Widths.{SlotsWide, SpeltHere}
use Rattle.lower_laws_block_rules.specs.Parsers.{StateHere}
use Rattle.lower_laws_block_rules.proofs.SpeltConditions.{slot_here}
use Rattle.lower_laws_block_rules.proofs.Values.{ParsesHere}
use Rattle.lower_laws_block_rules.proofs.States.{next_kept, state_of_kept}

module _ (c : Lowering) (ds : List Decl) (packet : Name) (state : Name → Name) (s : Scope) (here : ParsesHere c ds packet s) where
  abbrev p : ParserWords
  p = parser_words c packet state

  initial_part : (called : Name) (i : Initial) → InitialFits c ds called i → Part s s [] 0 (initial_stmt ds p called i)
  initial_part called i fits =
      let r = field_named called i.field in
      let slot = slot_of ds r in
      subst (λ (w : ℕ). Part s s [] 0 (assign (slot_exp (words_of c) now slot) (literal (sized w (wrapped w (whole i.value)))))) (sym fits.1)
      (part_put (writable (can slot fits.0) (sound_slot c s [] here.parses.sees now tt slot fits.0))
      (sound_literal s (width_in (words_of c) slot) (wrapped (width_in (words_of c) slot) (whole i.value)) (wrap_below (width_in (words_of c) slot) (whole i.value))) (omega arith) (omega arith)) where
        can : (slot : Slot) → IsSlot c.layout slot → c.can_write (slot_owner c slot) ≡ true
        can (standard which) is = here.writes of_standard is
        can (declared i e k) is = here.writes (owner_of (shown_in c i)) is.2

  from_part : (called : Name) (x : Stmt16) (is : List Initial) → Part s s [] 0 x → InitialsFit c ds called is → Part s s [] 0 (initials_from ds p called x is)
  from_part called x [] part fits = part
  from_part called x (i ∷ is) part fits = from_part called ((then) x (initial_stmt ds p called i)) is (part_then part (initial_part called i fits.0)) fits.1

  decl_part : (x : Stmt16) (d : Decl) → Part s s [] 0 x → DeclFits c ds d → Part s s [] 0 (decl_initials ds p x d)
  decl_part x (decl.Metadata m) part fits = from_part m.name x (initials_of m.initials) part fits
  decl_part x d part fits = part

  all_part : (x : Stmt16) (rest : List Decl) → Part s s [] 0 x → DeclsFit c ds rest → Part s s [] 0 (all_initials ds p x rest)
  all_part x [] part fits = part
  all_part x (d ∷ rest) part fits = all_part (decl_initials ds p x d) rest (decl_part x d part fits.0) fits.1

  module _ (known : (called : Name) → is_some (state_named ds called) ≡ true → sort_of s (state called) ≡ a_state) where
    pub start_kept : DeclsFit c ds (declared_in sort.Instance ds) → StateKeeps s (start_state ds p)
    start_kept fits = state_kept s (start_state ds p) (all_part no_statements (declared_in sort.Instance ds) part_none fits) (omega arith) (transition_go s _ (next_kept c ds packet state s here known (codes "start")))

    pub states_kept : (ys : List Parser) → AllByRecursion (λ y. StateFits c ds p y × StateHere ds y) ys → AllByRecursion (StateKeeps s) (map (state_of ds p) ys)
    states_kept [] all = tt
    states_kept (y ∷ ys) all = (state_of_kept c ds packet state s here known y all.0.0 all.0.1, states_kept ys all.1)

-- the initial values are spelt

module _ (c : Lowering) (ds : List Decl) (packet : Name) (state : Name → Name) (wide : SlotsWide c) (facts : SpeltHere c) where
  abbrev w : ParserWords
  w = parser_words c packet state

  from_here : (called : Name) (x : Stmt16) (is : List Initial) → SpeltStmt statements x → InitialsFit c ds called is → SpeltStmt statements (initials_from ds w called x is)
  from_here called x [] part fits = part
  from_here called x (i ∷ is) part fits =
      let r = field_named called i.field in
      let v = subst (λ (n : ℕ). (0 < n) × (n ≤ 128)) (sym fits.0.1) (wide (slot_of ds r) fits.0.0) in
      from_here called ((then) x (initial_stmt ds w called i)) is
      (part, (slot_here c facts (slot_of ds r) fits.0.0, sized_spelt (bits_of_ref ds r) _ v.0 v.1 (wrap_below (bits_of_ref ds r) (whole i.value)))) fits.1

  decl_here : (x : Stmt16) (d : Decl) → SpeltStmt statements x → DeclFits c ds d → SpeltStmt statements (decl_initials ds w x d)
  decl_here x (decl.Metadata m) part fits = from_here m.name x (initials_of m.initials) part fits
  decl_here x d part fits = part

  pub initials_here : (x : Stmt16) (rest : List Decl) → SpeltStmt statements x → DeclsFit c ds rest → SpeltStmt statements (all_initials ds w x rest)
  initials_here x [] part fits = part
  initials_here x (d ∷ rest) part fits = initials_here (decl_initials ds w x d) rest (decl_here x d part fits.0) fits.1
