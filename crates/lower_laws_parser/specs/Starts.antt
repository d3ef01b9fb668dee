-- The initial values of metadata, and the whole parser (this project's own; P4_14 1.0.5, "Header and Metadata
-- Instances", "Parser Specification"; P4_16 1.2, "Parser states", "Assignment statement").
use Rattle.std.specs.Prelude.{◌≡◌, List, [], ◌∷◌, codes, ◌≢◌, ◌⊎◌, true, is_some, map}
use Rattle.p414_syntax.specs.declared.headers.Initial.{Initial}
use Rattle.p414_syntax.specs.declared.syntax.Decl.{Decl}
use Rattle.p414_syntax.specs.declared.syntax.Decl.TheVariants as decl
use Rattle.p414_syntax.specs.declared.syntax.Sort.TheVariants as sort
use Rattle.p414_syntax.specs.Attributes.{initials_of}
use Rattle.p414_syntax.specs.Names.{Name, declared_in}
use Rattle.p414_sem.specs.Wholes.{whole, wrapped}
use Rattle.p414_sem.specs.Slots.{slot_of, bits_of_ref}
use Rattle.p414_sem.specs.State.{State}
use Rattle.p414_sem.specs.Parsing.{field_named, begun_instances, begun, state_named}
use Rattle.p416_syntax.specs.declared.parsers.State.{State as State16}
use Rattle.p414_syntax.specs.ParserGraph.{states as states14}
use Rattle.p416_syntax.specs.declared.parsers.Transition.TheVariants as transition
use Rattle.p416_syntax.specs.Tree.{literal, Stmt16, no_statements, then, assign}
use Rattle.lower_laws_base.specs.Context.{Lowering, words_of, IsSlot, now}
use Rattle.lower_laws_base.specs.Mirror.{sized, slot_exp, width_in}
use Rattle.lower_laws_parser.specs.Words.{ParserWords, next_of, state_of}

-- all headers are invalid and all stacks at place 0
abbrev pub headers_off : List Decl → State → State
headers_off ds s = record s { instances = begun_instances (declared_in sort.Instance ds) s.instances }

module _ (ds : List Decl) (p : ParserWords) where
  -- a field gets its initial value, cut to the field
  abbrev pub initial_stmt : Name → Initial → Stmt16
  initial_stmt called i =
      let r = field_named called i.field in
      assign (slot_exp p.words now (slot_of ds r)) (literal (sized (bits_of_ref ds r) (wrapped (bits_of_ref ds r) (whole i.value))))

  -- those of an instance, behind other statements
  abbrev pub initials_from : Name → Stmt16 → List Initial → Stmt16
  initials_from called x [] = x
  initials_from called x (i ∷ is) = initials_from called ((then) x (initial_stmt called i)) is

  -- those of a declaration, which only metadata has
  abbrev pub decl_initials : Stmt16 → Decl → Stmt16
  decl_initials x (decl.Metadata m) = initials_from m.name x (initials_of m.initials)
  decl_initials x _ = x

  -- those of all instances, in the order of declaration
  abbrev pub all_initials : Stmt16 → List Decl → Stmt16
  all_initials x [] = x
  all_initials x (d ∷ rest) = all_initials (decl_initials x d) rest

  -- the state in front of all others, which writes the initial values and goes to the state `start` of the program
  abbrev pub start_state : State16
  start_state = record {
    name = codes "start";
    body = all_initials no_statements (declared_in sort.Instance ds);
    transition = transition.Go (next_of ds p (codes "start"));
  }

-- an initial value is one of a field that is there, with its width
abbrev pub InitialFits : Lowering → List Decl → Name → Initial → Type 0
InitialFits c ds called i =
    let r = field_named called i.field in IsSlot c.layout (slot_of ds r) × (bits_of_ref ds r ≡ width_in (words_of c) (slot_of ds r))

-- all initial values of an instance fit
abbrev pub InitialsFit : Lowering → List Decl → Name → List Initial → Type 0
InitialsFit c ds called [] = Unit {0}
InitialsFit c ds called (i ∷ is) = InitialFits c ds called i × InitialsFit c ds called is

-- all initial values of a declaration fit
abbrev pub DeclFits : Lowering → List Decl → Decl → Type 0
DeclFits c ds (decl.Metadata m) = InitialsFit c ds m.name (initials_of m.initials)
DeclFits c ds _ = Unit {0}

-- the initial values of all declarations fit
abbrev pub DeclsFit : Lowering → List Decl → List Decl → Type 0
DeclsFit c ds [] = Unit {0}
DeclsFit c ds (d ∷ rest) = DeclFits c ds d × DeclsFit c ds rest

-- How the states begin: with a state in front that writes the initial values, or, where there are none, with P4_14's own.

-- a state `start` in front, and behind it the states of the program, none of which has this name
pub record WritesInitials (c : Lowering) (ds : List Decl) (p : ParserWords) (states : List State16) : Type 0 where
  pub written : states ≡ start_state ds p ∷ map (state_of ds p) (states14 ds)
  pub fits : DeclsFit c ds (declared_in sort.Instance ds)
  pub start : (called : Name) → p.state called ≢ codes "start"

-- the states of the program alone, of which `start` keeps its name
pub record HasNoInitials (ds : List Decl) (p : ParserWords) (states : List State16) : Type 0 where
  pub written : states ≡ map (state_of ds p) (states14 ds)
  pub none : (s : State) → begun ds s ≡ headers_off ds s
  pub there : is_some (state_named ds (codes "start")) ≡ true
  pub start : p.state (codes "start") ≡ codes "start"

-- the states begin in one way or the other
abbrev pub Begins : Lowering → List Decl → ParserWords → List State16 → Type 0
Begins c ds p states = WritesInitials c ds p states ⊎ HasNoInitials ds p states
