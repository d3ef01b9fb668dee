-- The actions of a control of the whole program: what a translation asks of them (`ActionsFit` of lower_laws_program) follows from what
-- stands in the scope of each.
use Rattle.std.proofs.Common.{◌≡◌, ℕ, suc, ◌<◌, Bool, true, Some, List, [], length, map, refl, sym, ap, ◌∙◌, subst, arith}
use Rattle.std.specs.Prelude.{codes, filter_map}
use Rattle.p414_syntax.specs.declared.headers.Header.{Header}
use Rattle.p414_syntax.specs.declared.syntax.Decl.{Decl}
use Rattle.p414_syntax.specs.declared.syntax.Decl.TheVariants as decl
use Rattle.p414_syntax.specs.declared.syntax.Rule14.{Rule14}
use Rattle.p414_syntax.specs.declared.syntax.Rule14.TheVariants as rule
use Rattle.p414_syntax.specs.declared.syntax.Sort.TheVariants as sort
use Rattle.p414_syntax.specs.Names.{Name as Name14, numbered}
use Rattle.p414_syntax.specs.Breaks.{BreaksNone, program_rules}
use Rattle.p414_syntax.specs.Arguments.{actions}
use Rattle.p414_sem.specs.Controls.{Setting as Setting14}
use Rattle.p414_sem.specs.Expanded.{Expanded, IsExpanded, primitives_at}
use Rattle.p414_sem.specs.Signatures.{parameter_widths}
use Rattle.p416_syntax.specs.declared.controls.Control16.{Control16}
use Rattle.p416_syntax.specs.declared.program.Decl16.{Decl16}
use Rattle.p416_syntax.specs.Names.{Name}
use Rattle.p416_syntax.specs.Declarations.{action_in, action_scope}
use Rattle.v1_core.specs.declared.block.Block.{Block}
use Rattle.v1_core.specs.Frames.{Owner, of_headers, of_metadata, of_standard}
use Rattle.v1_core.specs.Surroundings.{Setting, Surroundings}
use Rattle.v1_core.specs.Blocks.{act_at, act, around_control, control_world}
use Rattle.agreement_of_meanings.specs.Shown.{NamedField, fields_of, width_of}
use Rattle.agreement_of_meanings.proofs.Names.{differ_names}
use Rattle.lower_laws_base.specs.Alike.{ActsAlike}
use Rattle.lower_laws_base.specs.Context.{object_at, StateLayout, Lowering, words_of, ObjectName, HasRoot, IsCopied, Copies, shown_on, local_of, AreDistinct, HasNone, Item, IsItem, item_name, Sees, Spares}
use Rattle.lower_laws_actions.specs.Mirror.{body_stmt}
use Rattle.lower_laws_actions.specs.Runs.{primitives_of}
use Rattle.lower_laws_premises.proofs.ActionScope.{action_sees}
use Rattle.lower_laws_program.specs.TypesFit.{TypeWords, TypesFit}
use Rattle.lower_laws_program.specs.Scopes.{BlockWords, block_layout, block_lowering}
use Rattle.lower_laws_program.specs.Fits.{pipeline_block, ActionCopy, ActionsFit}
use Rattle.lower_laws_premises.specs.Literals.{IsSpelt}
use Rattle.lower_laws_premises.specs.Shown.{Shows, objects_shown}
use Rattle.lower_laws_names.specs.Marks.{marks}
use Rattle.lower_laws_premises.proofs.Marks.{shows_marks}
use Rattle.lower_laws_states.proofs.Rules.{none_twice}
use Rattle.lower_laws_premises.specs.Placed.{StandsIn, block_place}
use Rattle.lower_laws_rules.proofs.Bodies.{BodyKeeps}
use Rattle.p416_syntax.specs.Tree.{Stmt16}
use Rattle.p416_syntax.specs.Scopes.{Scope}
use Rattle.p416_syntax.specs.Tables.{is_counted_by}
use Rattle.std.specs.List.{list_any}
use Rattle.lower_laws_premises.specs.Scope.{HasCopies, IsCounter, InScope}
use Rattle.lower_laws_premises.proofs.Whole.{InPlace, action_acts, widths, allowed, body_kept}
use Rattle.lower_laws_actions.specs.Actions.{body_world, AreParameters}
use Rattle.lower_laws_states.specs.Expansions.{Has}

-- what stands around the statements of an action of a pipeline
abbrev pub action_block : Rule14 → List ObjectName → (ℕ → ℕ → Name) → List NamedField → BlockWords
action_block r objects spare parameters = record (pipeline_block r objects) { spare = spare; parameters = parameters }

abbrev pub action_lowering : StateLayout → TypeWords → Rule14 → List ObjectName → (ℕ → ℕ → Name) → List NamedField → Surroundings → ℕ → Lowering
action_lowering g t r objects spare parameters b calls = block_lowering g t (action_block r objects spare parameters) (body_world b calls)

module _ (g : StateLayout) (ds : List Decl) (x : Expanded) (t : TypeWords) (types : List Decl16) (fits : TypesFit g ds x t types) where
  -- How the types of headers are named and their fields are shown is told by the names of the types in P4_14 alone.
  pub record GoByName : Type 0 where
    pub fields : Name14 → List NamedField
    pub type : Name14 → Name
    pub fields_are : (i : ℕ) (h : Header) → numbered sort.Instance ds i ≡ Some (decl.Header h) → fields_of (shown_on g i) ≡ fields h.header_type
    pub types_are : (i : ℕ) (h : Header) → numbered sort.Instance ds i ≡ Some (decl.Header h) → t.type_of i ≡ type h.header_type

  module _ (by_name : GoByName) (new : Name14 → Name) (none : BreaksNone ds program_rules) (marked : g.names.marks ≡ marks ds) (r : Rule14) (spare : ℕ → ℕ → Name) (parameters : List NamedField) (b : Surroundings) (calls : ℕ) where
    abbrev pub lowering : Lowering
    lowering = action_lowering g t r (objects_shown new ds) spare parameters b calls

    pub shows : Shows lowering ds
    shows = record {
      instances = record {
        decls = record { all = fits.shown.all; each = fits.shown.each };
        stacks = fits.stacks;
        widths = fits.widths;
        fields = λ i j h k e f same. by_name.fields_are i h e ∙ (ap by_name.fields same ∙ sym (by_name.fields_are j k f));
        types = λ i j h k e f same. by_name.types_are i h e ∙ (ap by_name.type same ∙ sym (by_name.types_are j k f));
      };
      roots = record { headers = refl; metadata = refl; standard = refl };
      new = new;
      objects = refl;
      marks = shows_marks lowering ds (none_twice ds none) marked;
    }

    -- parameters of the block can be written
    pub writes : (o : Owner) → HasRoot lowering.layout o → lowering.can_write o ≡ true
    writes o is = refl

-- the copies of the parallel rule
module _ (g : StateLayout) (t : TypeWords) (objects : List ObjectName) (spare : ℕ → ℕ → Name) (parameters : List NamedField) (b : Surroundings) (calls : ℕ) where
  abbrev c : Lowering
  c = action_lowering g t rule.Parallel objects spare parameters b calls

  pub copies : Copies c
  copies = record { copied = copied; differ = differ } where
    copied : (o : Owner) → HasRoot c.layout o → IsCopied c o
    copied of_headers is = record { place = 0; within = omega arith; stands = refl }
    copied of_metadata is = record { place = 1; within = omega arith; stands = refl }
    copied of_standard is = record { place = 2; within = omega arith; stands = refl }
    copied _ is = absurd is

    differ : (o p : Owner) → HasRoot c.layout o → HasRoot c.layout p → c.copy o ≡ c.copy p → o ≡ p
    differ of_headers of_headers is has e = refl
    differ of_headers of_metadata is has e = absurd (differ_names (codes "old_hdr") (codes "old_meta") refl e)
    differ of_headers of_standard is has e = absurd (differ_names (codes "old_hdr") (codes "old_sm") refl e)
    differ of_metadata of_headers is has e = absurd (differ_names (codes "old_meta") (codes "old_hdr") refl e)
    differ of_metadata of_metadata is has e = refl
    differ of_metadata of_standard is has e = absurd (differ_names (codes "old_meta") (codes "old_sm") refl e)
    differ of_standard of_headers is has e = absurd (differ_names (codes "old_sm") (codes "old_hdr") refl e)
    differ of_standard of_metadata is has e = absurd (differ_names (codes "old_sm") (codes "old_meta") refl e)
    differ of_standard of_standard is has e = refl
    differ of_headers _ is has e = absurd has
    differ of_metadata _ is has e = absurd has
    differ of_standard _ is has e = absurd has
    differ _ p is has e = absurd is

-- What `lower_actions` gives of one control.
module _ (c14 : Setting14) (none : BreaksNone c14.decls program_rules) (spelt : IsSpelt c14.decls) (is : IsExpanded c14.decls c14.expanded) (g : StateLayout) (t : TypeWords) (types : List Decl16) (fits : TypesFit g c14.decls c14.expanded t types) (by_name : GoByName g c14.decls c14.expanded t types fits) (new : Name14 → Name) (marked : g.names.marks ≡ marks c14.decls) (c16 : Setting) (which : Block) (control : Control16) (variables : Rule14) where
  -- what the statements of the control see
  abbrev pub outer : Lowering
  outer = block_lowering g t (pipeline_block variables (objects_shown new c14.decls)) (control_world (around_control c16 which control))

  abbrev pub within_it : (ℕ → ℕ → Name) → List NamedField → ℕ → Lowering
  within_it spare parameters calls = lowering g c14.decls c14.expanded t types fits by_name new none marked variables spare parameters (around_control c16 which control) calls

  -- Of each copy of an action: how it is written, with parameters of as many bits as they have in P4_14, whose names hide nothing,
  -- and variables whose names are new.
  pub record CopyFits (k : ActionCopy) : Type 0 where
    pub spare : ℕ → ℕ → Name
    pub parameters : List NamedField
    pub calls : ℕ
    pub count : length (filter_map action_in control.locals) ≡ suc calls
    pub within : k.action < length (actions c14.decls)
    pub widths : k.widths ≡ parameter_widths c14.decls k.action
    pub bits : map width_of parameters ≡ parameter_widths c14.decls k.action
    pub are : AreParameters (around_control c16 which control).scope.names k.written.parameters parameters
    pub distinct : AreDistinct (map local_of parameters)
    pub apart : (x : Item) → IsItem outer x → HasNone (map local_of parameters) (item_name outer x)
    pub spares : Spares (within_it spare parameters calls) (map local_of parameters) 0
    pub counter : IsCounter c14.decls k.direct
    pub copied : HasCopies (within_it spare parameters calls) c14.decls c14.rule (primitives_of c14.decls c14.expanded (primitives_at c14.expanded k.action))
    pub body : k.written.body ≡ body_stmt c14.decls (words_of (within_it spare parameters calls)) c14.rule k.direct (primitives_of c14.decls c14.expanded (primitives_at c14.expanded k.action))

  pub in_scope : Sees outer (around_control c16 which control).scope [] → (k : ActionCopy) (f : CopyFits k) → InScope (within_it f.spare f.parameters f.calls) c14 (around_control c16 which control) f.calls k.direct k.action k.written
  in_scope sees k f = record {
    world = refl;
    sees = action_sees outer (around_control c16 which control) f.calls f.spare f.parameters (around_control c16 which control).scope k.written sees refl f.are f.distinct f.apart;
    spares = f.spares;
    parameters = f.are;
    widths = f.bits;
    copies = f.copied;
    counter = f.counter;
    body = f.body;
  }

  pub actions_fit : Sees outer (around_control c16 which control).scope [] → (copies : List ActionCopy) → ((k : ActionCopy) → Has copies k → CopyFits k) → ActionsFit g c14 c16 variables (objects_shown new c14.decls) which control copies
  actions_fit sees list each k h =
      let f = each k h in
      let b = around_control c16 which control in
      let layout = block_layout g (pipeline_block variables (objects_shown new c14.decls)) in
      subst (λ (widths : List ℕ). ActsAlike layout c14 b (act b) k.direct k.action widths k.written) (sym f.widths)
      (subst (λ n. ActsAlike layout c14 b (act_at b n) k.direct k.action (parameter_widths c14.decls k.action) k.written) (sym f.count)
      (action_acts c14 none spelt is (within_it f.spare f.parameters f.calls) (shows g c14.decls c14.expanded t types fits by_name new none marked variables f.spare f.parameters b f.calls) b f.calls k.direct k.action f.within k.written (in_scope sees k f)))

  -- what the rules of P4_16 ask of a copy beside: the pipeline that its action stands in, and the table of its direct counter
  pub record CopyPlaced (egress : Bool) (k : ActionCopy) : Type 0 where
    pub stands : StandsIn c14.decls egress k.action
    pub positions : (around_control c16 which control).scope.positions ≡ block_place egress
    pub counted : (j : ℕ) → k.direct ≡ Some j → list_any (is_counted_by (object_at (objects_shown new c14.decls) j).called k.written.name) (action_scope (around_control c16 which control).scope k.written).names ≡ true

  module _ (sees : Sees outer (around_control c16 which control).scope []) (egress : Bool) (k : ActionCopy) (f : CopyFits k) (at : CopyPlaced egress k) where
    abbrev pub own : Scope
    own = action_scope (around_control c16 which control).scope k.written

    abbrev pub shown : Shows (within_it f.spare f.parameters f.calls) c14.decls
    shown = shows g c14.decls c14.expanded t types fits by_name new none marked variables f.spare f.parameters (around_control c16 which control) f.calls

    abbrev pub scoped : InScope (within_it f.spare f.parameters f.calls) c14 (around_control c16 which control) f.calls k.direct k.action k.written
    scoped = in_scope sees k f

    pub place : InPlace c14 none spelt is (within_it f.spare f.parameters f.calls) shown (around_control c16 which control) f.calls k.direct k.action f.within k.written scoped egress own k.written.name
    place = record {
      stands = at.stands;
      positions = at.positions;
      sees = scoped.sees;
      writes = writes g c14.decls c14.expanded t types fits by_name new none marked variables f.spare f.parameters (around_control c16 which control) f.calls;
      part = refl;
      counted = at.counted;
    }

    -- the body of a copy breaks no rule of P4_16
    pub copy_kept : BodyKeeps (within_it f.spare f.parameters f.calls) c14.decls (widths c14 none spelt is (within_it f.spare f.parameters f.calls) shown (around_control c16 which control) f.calls k.direct k.action f.within k.written scoped egress own k.written.name place) (block_place egress) (allowed c14 none spelt is (within_it f.spare f.parameters f.calls) shown (around_control c16 which control) f.calls k.direct k.action f.within k.written scoped egress) own k.written.body
    copy_kept = subst (λ (y : Stmt16). BodyKeeps (within_it f.spare f.parameters f.calls) c14.decls (widths c14 none spelt is (within_it f.spare f.parameters f.calls) shown (around_control c16 which control) f.calls k.direct k.action f.within k.written scoped egress own k.written.name place) (block_place egress) (allowed c14 none spelt is (within_it f.spare f.parameters f.calls) shown (around_control c16 which control) f.calls k.direct k.action f.within k.written scoped egress) own y) (sym f.body)
        (body_kept c14 none spelt is (within_it f.spare f.parameters f.calls) shown (around_control c16 which control) f.calls k.direct k.action f.within k.written scoped egress own k.written.name place)
