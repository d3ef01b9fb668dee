-- The initial values of metadata.
use Rattle.std.proofs.Common.{◌≡◌, List, [], ◌∷◌, fold, sym, ap, subst}
use Rattle.p414_syntax.specs.declared.headers.Initial.{Initial}
use Rattle.p414_syntax.specs.declared.syntax.Decl.{Decl}
use Rattle.p414_syntax.specs.declared.syntax.Decl.TheVariants as decl
use Rattle.p414_syntax.specs.Attributes.{initials_of}
use Rattle.p414_syntax.specs.Names.{Name}
use Rattle.p414_sem.specs.Wholes.{whole, wrapped}
use Rattle.p414_sem.specs.Slots.{slot_of, bits_of_ref}
use Rattle.p414_sem.specs.State.{State}
use Rattle.p414_sem.specs.Parsing.{field_named, with_initial, initialized}
use Rattle.p416_syntax.specs.Tree.{Stmt16, then}
use Rattle.p416_syntax.specs.Scopes.{Scope}
use Rattle.p416_syntax.specs.Statements.{behind}
use Rattle.v1_core.specs.Frames.{Moment, ticked}
use Rattle.v1_core.specs.Statements.{no_label, run}
use Rattle.lower_laws_base.specs.Context.{Lowering}
use Rattle.lower_laws_base.proofs.Wrap.{wrap_below}
use Rattle.lower_laws_base.proofs.Gives.{gives_literal}
use Rattle.lower_laws_parser.specs.Words.{ParserWords}
use Rattle.lower_laws_parser.specs.Parsing.{Origin, Going, parser_words, Parses}
use Rattle.lower_laws_parser.specs.Starts.{initial_stmt, initials_from, decl_initials, all_initials, InitialFits, InitialsFit, DeclFits, DeclsFit}
use Rattle.lower_laws_parser.proofs.Sets.{number_set}

module _ (c : Lowering) (ds : List Decl) (packet : Name) (state : Name → Name) (s : Scope) (parses : Parses c ds packet s) (o : Origin) (n : Moment) where
  abbrev p : ParserWords
  p = parser_words c packet state

  -- statements behind which both go on
  pub record Behind (t : State) (x : Stmt16) : Type 0 where
    pub stays : behind x s ≡ s
    pub going : Going c o t (run c.world s no_label x n)

  one_does : (t : State) (x : Stmt16) (called : Name) (i : Initial) → InitialFits c ds called i → Behind t x → Behind (with_initial ds called t i) ((then) x (initial_stmt ds p called i))
  one_does t x called i fits done =
      let r = field_named called i.field in
      let width = bits_of_ref ds r in
      let m = run c.world s no_label x n in
      record {
        stays = ap (behind (initial_stmt ds p called i)) done.stays;
        going = subst (λ z. Going c o (with_initial ds called t i) (run c.world z no_label (initial_stmt ds p called i) m)) (sym done.stays)
            (number_set c ds packet state s parses o t m done.going (slot_of ds r) width (wrapped width (whole i.value)) _ fits.0 fits.1 (wrap_below width (whole i.value))
            (gives_literal c.world s (ticked m) width (wrapped width (whole i.value)) (wrap_below width (whole i.value))));
      }

  some_do : (is : List Initial) (t : State) (x : Stmt16) (called : Name) → InitialsFit c ds called is → Behind t x → Behind (fold (with_initial ds called) t is) (initials_from ds p called x is)
  some_do [] t x called fits done = done
  some_do (i ∷ is) t x called fits done =
      some_do is (with_initial ds called t i) ((then) x (initial_stmt ds p called i)) called fits.1 (one_does t x called i fits.0 done)

  decl_does : (d : Decl) (t : State) (x : Stmt16) → DeclFits c ds d → Behind t x → Behind (initialized ds t d) (decl_initials ds p x d)
  decl_does (decl.Metadata m) t x fits done = some_do (initials_of m.initials) t x m.name fits done
  decl_does _ t x fits done = done

  pub decls_do : (rest : List Decl) (t : State) (x : Stmt16) → DeclsFit c ds rest → Behind t x → Behind (fold (initialized ds) t rest) (all_initials ds p x rest)
  decls_do [] t x fits done = done
  decls_do (d ∷ rest) t x fits done = decls_do rest (initialized ds t d) (decl_initials ds p x d) fits.1 (decl_does d t x fits.0 done)
