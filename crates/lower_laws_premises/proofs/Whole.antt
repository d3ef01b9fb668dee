-- An action of an accepted program does what it does in P4_14 and breaks no rule of P4_16, with no premise on its primitives: all
-- that is asked is what the lowering shows, and what stands in scope.
use Rattle.std.proofs.Common.{◌≡◌, inl, inr, ℕ, zero, suc, ◌<◌, Bool, true, false, Option, Some, None, List, [], ◌∷◌, length, map, get_or, refl, sym, ap, ◌∙◌, subst, arith}
use Rattle.std.specs.List.{AllByRecursion, list_all, list_any}
use Rattle.std.proofs.lemmas.List.{length-map, get_or-map}
use Rattle.p414_syntax.specs.SpeltLexemes.{is_spelt_lexeme}
use Rattle.p414_syntax.specs.declared.syntax.Decl.{Decl}
use Rattle.p414_syntax.specs.declared.syntax.Rule14.{Rule14}
use Rattle.p414_sem.specs.Operations.{Primitive}
use Rattle.p414_syntax.specs.declared.syntax.Syntax14.{Syntax14}
use Rattle.p414_syntax.specs.Conditions.{is_syntax}
use Rattle.p414_syntax.specs.Spelt.{is_spelt14}
use Rattle.p414_syntax.specs.Written.{written}
use Rattle.p414_syntax.specs.Breaks.{BreaksNone, program_rules}
use Rattle.p414_syntax.specs.Arguments.{actions}
use Rattle.p414_sem.specs.Controls.{Setting as Setting14}
use Rattle.p414_sem.specs.Expanded.{Expanded, IsExpanded, primitives_at}
use Rattle.p414_sem.specs.Signatures.{parameter_widths}
use Rattle.p416_syntax.specs.declared.controls.Action16.{Action16}
use Rattle.p416_syntax.specs.Names.{Name}
use Rattle.p416_syntax.specs.Scopes.{Scope, in_action}
use Rattle.p416_syntax.specs.Externs.{is_some_position, are_allowed}
use Rattle.p416_syntax.specs.Tables.{is_counted_by}
use Rattle.v1_core.specs.Frames.{Owner}
use Rattle.v1_core.specs.Surroundings.{Surroundings}
use Rattle.v1_core.specs.Blocks.{act_at}
use Rattle.agreement_of_meanings.specs.Shown.{width_of, no_field}
use Rattle.lower_laws_base.specs.Context.{local_of, no_local, Lowering, words_of, object_at, HasRoot, Sees}
use Rattle.lower_laws_base.specs.Alike.{ActsAlike}
use Rattle.lower_laws_states.proofs.Widths.{slot_wide}
use Rattle.lower_laws_actions.specs.Mirror.{body_stmt}
use Rattle.lower_laws_actions.specs.Runs.{primitives_of}
use Rattle.lower_laws_actions.specs.Fits.{AllFit}
use Rattle.lower_laws_actions.proofs.Entering.{action_acts as acts}
use Rattle.lower_laws_rules.specs.Standing.{HasParameters}
use Rattle.lower_laws_rules.specs.Acting.{IsWidth, WidthsFit}
use Rattle.lower_laws_rules.proofs.Bodies.{BodyKeeps, Entered, CountsFirst, body_keeps}
use Rattle.lower_laws_premises.specs.Literals.{IsSpelt}
use Rattle.lower_laws_premises.specs.Shown.{Shows}
use Rattle.lower_laws_premises.specs.Scope.{HasCopies, IsCounter, InScope}
use Rattle.lower_laws_premises.specs.Placed.{StandsIn, block_place}
use Rattle.lower_laws_premises.proofs.Sources.{split}
use Rattle.lower_laws_premises.proofs.LayoutFits.{bits_are, slot_stands}
use Rattle.lower_laws_premises.proofs.Objects.{direct_is}
use Rattle.lower_laws_premises.proofs.Registers.{registers_wide}
use Rattle.lower_laws_premises.proofs.Widths.{parameters_wide, parameters_long}
use Rattle.lower_laws_premises.proofs.Fits.{all_fit}
use Rattle.lower_laws_premises.proofs.Standing.{all_stand}
use Rattle.lower_laws_states.proofs.Rules.{none_twice}
use Rattle.lower_laws_actions.specs.Actions.{CounterIs, RuleFits}

-- what is read from a text is spelt
pub spelt_so : (s : Syntax14) → is_spelt14 s ≡ true → IsSpelt s.decls
spelt_so s is = let parts = split (is_syntax s) (list_all is_spelt_lexeme (written s)) is in record { tokens = parts.1; grammar = parts.0 }

-- what holds of each place of a list
at_each : (P : ℕ → Type 0) (ns : List ℕ) → AllByRecursion P ns → (j : ℕ) → j < length ns → P (get_or ns j 0)
at_each P [] all j lt = absurd (omega (arith, lt))
at_each P (n ∷ ns) all zero lt = all.0
at_each P (n ∷ ns) all (suc j) lt = at_each P ns all.1 j (omega (arith, lt))

module _ (ds : List Decl) (none : BreaksNone ds program_rules) (spelt : IsSpelt ds) (x : Expanded) (is : IsExpanded ds x) (c : Lowering) (shows : Shows c ds) where
  -- the widths of slots, registers and parameters
  pub widths_fit : (action : ℕ) → map width_of c.parameters ≡ parameter_widths ds action → ((o : Owner) → HasRoot c.layout o → c.can_write o ≡ true) → WidthsFit c
  widths_fit action same writes = record {
    slots = λ slot there. let stands = slot_stands c ds shows.instances shows.roots slot there in let w = slot_wide ds none slot stands in subst IsWidth (bits_are c ds shows.instances shows.roots slot stands) (w.0, w.1);
    parameters = λ j lt. subst IsWidth (ap (λ ns. get_or ns j 0) (sym same) ∙ get_or-map width_of c.parameters j no_field 0 lt) (at_each IsWidth (parameter_widths ds action) (parameters_wide ds none spelt action) j (omega (arith, lt, ap length same, length-map c.parameters width_of)));
    registers = registers_wide ds none spelt c shows.new shows.objects;
    writes = writes;
  }

  -- as many parameters as the action has
  pub counted : (action : ℕ) (lt : action < length (actions ds)) → map width_of c.parameters ≡ parameter_widths ds action → length c.parameters ≡ length (is.each_action action lt).action.parameters
  counted action lt same = sym (length-map c.parameters width_of) ∙ (ap length same ∙ parameters_long ds action (is.each_action action lt).action (is.each_action action lt).numbered)

module _ (d : Setting14) (none : BreaksNone d.decls program_rules) (spelt : IsSpelt d.decls) (is : IsExpanded d.decls d.expanded) (c : Lowering) (shows : Shows c d.decls) where
  pub counter_fits : (direct : Option ℕ) → IsCounter d.decls direct → CounterIs c direct
  counter_fits direct (inl e) = subst (CounterIs c) (sym e) tt
  counter_fits direct (inr t) = subst (CounterIs c) (sym t.1) (direct_is c d.decls shows.new shows.objects (none_twice d.decls none) t.0)

  rule_fits : (rule : Rule14) (ps : List Primitive) → HasCopies c d.decls rule ps → RuleFits c d.decls rule ps
  rule_fits rule ps copies = λ needs. (copies needs, record { headers = shows.roots.headers; metadata = shows.roots.metadata; standard = shows.roots.standard })

  entered : (rule : Rule14) (ps : List Primitive) → HasCopies c d.decls rule ps → (widths : WidthsFit c) (positions : List ℕ) (allowed : are_allowed (2 ∷ 3 ∷ []) positions ≡ true) → Entered c d.decls widths positions allowed rule ps
  entered rule ps copies widths positions allowed = λ needs. (copies needs, shows.roots.headers, shows.roots.metadata, shows.roots.standard)

  module _ (b : Surroundings) (calls : ℕ) (direct : Option ℕ) (action : ℕ) (lt : action < length (actions d.decls)) (a : Action16) (scope : InScope c d b calls direct action a) where
    pub fits : AllFit c d.decls (primitives_of d.decls d.expanded (primitives_at d.expanded action))
    fits = all_fit d.decls none spelt d.expanded is c shows action lt (counted d.decls none spelt d.expanded is c shows action lt scope.widths)

    -- it does what the action of P4_14 does
    pub action_acts : ActsAlike c.layout d b (act_at b (suc calls)) direct action (parameter_widths d.decls action) a
    action_acts = subst (λ widths. ActsAlike c.layout d b (act_at b (suc calls)) direct action widths a) scope.widths (acts c d b calls direct action a (record {
      world = scope.world;
      sees = scope.sees;
      spares = scope.spares;
      parameters = scope.parameters;
      counter = counter_fits direct scope.counter;
      fits = fits;
      rule = rule_fits d.rule (primitives_of d.decls d.expanded (primitives_at d.expanded action)) scope.copies;
      body = scope.body;
    }))

    -- What the rules ask beside: in which pipeline the action stands, that parameters of the block can be written, and where a direct
    -- counter counts.
    pub record InPlace (egress : Bool) (s : Scope) (name : Name) : Type 0 where
      pub stands : StandsIn d.decls egress action
      pub positions : s.positions ≡ block_place egress
      pub sees : Sees c s (map local_of c.parameters)
      pub writes : (o : Owner) → HasRoot c.layout o → c.can_write o ≡ true
      pub part : s.part ≡ in_action name
      pub counted : (j : ℕ) → direct ≡ Some j → list_any (is_counted_by (object_at c.objects j).called name) s.names ≡ true

    pub allowed : (egress : Bool) → are_allowed (2 ∷ 3 ∷ []) (block_place egress) ≡ true
    allowed false = refl
    allowed true = refl

    placed : (egress : Bool) → is_some_position (block_place egress) ≡ true
    placed false = refl
    placed true = refl

    pub widths : (egress : Bool) (s : Scope) (name : Name) → InPlace egress s name → WidthsFit c
    widths egress s name place = widths_fit d.decls none spelt d.expanded is c shows action scope.widths place.writes

    counts_first : (egress : Bool) (s : Scope) (name : Name) (place : InPlace egress s name) → CountsFirst c d.decls (widths egress s name place) (block_place egress) (allowed egress) s name direct
    counts_first egress s name place = by direct refl (counter_fits direct scope.counter) where
      by : (o : Option ℕ) → direct ≡ o → CounterIs c o → CountsFirst c d.decls (widths egress s name place) (block_place egress) (allowed egress) s name o
      by None e is = tt
      by (Some j) e is = (is, place.part, ap is_some_position place.positions ∙ placed egress, place.counted j e)

    given : HasParameters c (map local_of c.parameters)
    given j less = record { place = j; within = omega (arith, less, length-map c.parameters local_of); stands = get_or-map local_of c.parameters j no_field no_local less }

    -- its body breaks no rule
    pub body_kept : (egress : Bool) (s : Scope) (name : Name) (place : InPlace egress s name) → BodyKeeps c d.decls (widths egress s name place) (block_place egress) (allowed egress) s (body_stmt d.decls (words_of c) d.rule direct (primitives_of d.decls d.expanded (primitives_at d.expanded action)))
    body_kept egress s name place =
        body_keeps c d.decls (widths egress s name place) (block_place egress) (allowed egress) s (map local_of c.parameters) place.sees given scope.spares place.positions
        (primitives_of d.decls d.expanded (primitives_at d.expanded action)) fits (all_stand d.decls none spelt d.expanded is action lt c shows egress place.stands) name direct (counts_first egress s name place) d.rule
        (entered d.rule (primitives_of d.decls d.expanded (primitives_at d.expanded action)) scope.copies (widths egress s name place) (block_place egress) (allowed egress))
