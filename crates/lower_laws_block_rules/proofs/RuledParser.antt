-- All that is asked of the parser of an accepted program but for new names.
use Rattle.std.proofs.Common.{◌≡◌, ℕ, zero, suc, ◌<◌, Bool, true, false, ◌&&◌, List, [], ◌∷◌, length, map, flat_map, Option, Some, None, refl, subst, arith}
use Rattle.std.specs.List.{list_any, list_all, AllByRecursion}
use Rattle.std.specs.Option.{option_map_or}
use Rattle.p414_syntax.specs.declared.parts.Inst.{Inst}
use Rattle.p414_syntax.specs.declared.parsers.PValue.{PValue}
use Rattle.p414_syntax.specs.declared.parsers.Return.{Return}
use Rattle.p414_syntax.specs.declared.parsers.Return.TheVariants as end_of
use Rattle.p414_syntax.specs.declared.parsers.Parser.{Parser}
use Rattle.p414_syntax.specs.declared.syntax.Decl.{Decl}
use Rattle.p414_syntax.specs.declared.syntax.Decl.TheVariants as decl
use Rattle.p414_syntax.specs.declared.syntax.Sort.TheVariants as sort
use Rattle.p414_syntax.specs.Conditions.{is_select_value}
use Rattle.p414_syntax.specs.Views.{HeaderTypeTree}
use Rattle.p414_syntax.specs.Breaks.{BreaksNone, program_rules}
use Rattle.p414_syntax.specs.Fields.{type_of}
use Rattle.p414_syntax.specs.Names.{Name, numbered}
use Rattle.p414_syntax.specs.ParserGraph.{state_in, states}
use Rattle.p414_syntax.specs.Uses.{Use, uses, uses_of, uses_of_value, uses_of_statements, uses_of_return, last_of}
use Rattle.p414_syntax.specs.Widths.{looks_too_far, return_looks_too_far}
use Rattle.p414_sem.specs.Expanded.{Expanded}
use Rattle.p414_sem.specs.Packing.{type_widths, widths_of_type}
use Rattle.p416_syntax.specs.declared.program.Decl16.{Decl16}
use Rattle.p416_syntax.specs.declared.parsers.Parser16.{Parser16}
use Rattle.p416_syntax.specs.Declarations.{known_state}
use Rattle.v1_core.specs.Surroundings.{Setting}
use Rattle.agreement_of_meanings.specs.Shown.{NamedField, fields_of, field_at, width_of}
use Rattle.lower_laws_base.specs.Context.{StateLayout, shown_on}
use Rattle.lower_laws_parser.specs.Parsing.{parser_words}
use Rattle.lower_laws_program.specs.Program.{packet_called}
use Rattle.lower_laws_program.specs.TypesFit.{TypeWords, TypesFit}
use Rattle.lower_laws_program.specs.Scopes.{IsClear}
use Rattle.lower_laws_program.specs.Fits.{SelectHas, parser_lowering, ParserFits}
use Rattle.lower_laws_program.proofs.States.{LastFits, last_fits, state_fits}
use Rattle.lower_laws_states.specs.Expansions.{Has}
use Rattle.lower_laws_states.specs.Fits.{widths_in, widths_at}
use Rattle.lower_laws_states.proofs.Accepted.{declared_state}
use Rattle.lower_laws_states.proofs.Members.{each_has, picked_has, has_left, has_right, has_joined}
use Rattle.lower_laws_states.proofs.Rules.{none_idle}
use Rattle.lower_laws_rules.proofs.Found.{left_false, right_false}
use Rattle.lower_laws_block_rules.specs.Widths.{IsWidth}
use Rattle.lower_laws_block_rules.specs.Parsers.{SelectValue, EndHere, StateHere}
use Rattle.lower_laws_block_rules.specs.Program.{LayoutWide, parser_fixed, ParserRules}
use Rattle.lower_laws_block_rules.proofs.Ruled.{states_once, state_near, type_wide}
use Rattle.lower_laws_block_rules.proofs.RuledStates.{LastPlain, value_here}

-- no number stands in a select (S1)
abbrev pub SelectRead : Return → Type 0
SelectRead (end_of.Select vs cases) = list_all is_select_value vs ≡ true
SelectRead _ = Unit {0}

both : (a b : Bool) → (a && b) ≡ true → (a ≡ true) × (b ≡ true)
both true b e = (refl, e)
both false b e = absurd (cc e)

module _ (ds : List Decl) (none : BreaksNone ds program_rules) where
  -- fields on the layout have 1 to 128 bits

  named_wide : (name : Name) → AllByRecursion IsWidth (widths_of_type ds name)
  named_wide name = by (type_of ds name) refl where
    by : (o : Option HeaderTypeTree) → type_of ds name ≡ o → AllByRecursion IsWidth (option_map_or type_widths o [])
    by None is = tt
    by (Some t) is = type_wide ds none name t is

  instance_wide : (d : Decl) → AllByRecursion IsWidth (widths_in ds d)
  instance_wide (decl.Header x) = named_wide x.header_type
  instance_wide (decl.Metadata x) = named_wide x.header_type
  instance_wide d = tt

  widths_wide : (k : ℕ) → AllByRecursion IsWidth (widths_at ds k)
  widths_wide k = by (numbered sort.Instance ds k) where
    by : (o : Option Decl) → AllByRecursion IsWidth (option_map_or (widths_in ds) o [])
    by None = tt
    by (Some d) = instance_wide d

  each_wide : (fs : List NamedField) (k : ℕ) → AllByRecursion IsWidth (map width_of fs) → k < length fs → IsWidth (field_at fs k).width
  each_wide [] k all lt = absurd (omega (arith, lt))
  each_wide (f ∷ fs) zero all lt = all.0
  each_wide (f ∷ fs) (suc k) all lt = each_wide fs k all.1 (omega (arith, lt))

  pub layout_wide : (g : StateLayout) (x : Expanded) (t : TypeWords) (types : List Decl16) → TypesFit g ds x t types → LayoutWide g
  layout_wide g x t types fits i k a b = each_wide (fields_of (shown_on g i)) k (subst (AllByRecursion IsWidth) (fits.widths i a) (widths_wide i)) b

  -- states

  values_here : (last : Option Inst) (vs : List PValue) → LastPlain ds none last → ((u : Use) → Has (flat_map (uses_of_value last) vs) u → Has (uses ds) u) → list_all is_select_value vs ≡ true → list_any looks_too_far vs ≡ false → AllByRecursion (SelectValue ds last) vs
  values_here last [] plain used read near = tt
  values_here last (v ∷ vs) plain used read near =
      let r = both (is_select_value v) (list_all is_select_value vs) read in (
        value_here ds none last v plain (λ u h. used u (has_left (uses_of_value last v) (flat_map (uses_of_value last) vs) u h)) r.0 (left_false _ _ near),
        values_here last vs plain (λ u h. used u (has_right (uses_of_value last v) (flat_map (uses_of_value last) vs) u h)) r.1 (right_false _ _ near),
      )

  end_here : (last : Option Inst) (e : Return) → LastPlain ds none last → ((u : Use) → Has (uses_of_return last e) u → Has (uses ds) u) → SelectRead e → return_looks_too_far e ≡ false → EndHere ds last e
  end_here last (end_of.Select vs cases) plain used read near = values_here last vs plain (λ u h. used u (has_left (flat_map (uses_of_value last) vs) _ u h)) read near
  end_here last (end_of.State called) plain used read near = tt
  end_here last (end_of.ParseError called) plain used read near = tt

  pub state_here_ruled : (y : Parser) → Has ds (decl.Parser y) → LastPlain ds none (last_of None y.statements) → SelectRead y.end → StateHere ds y
  state_here_ruled y has plain read =
      let near = state_near ds none y has in
      record {
        statements = near.0;
        end = end_here (last_of None y.statements) y.end plain (λ u h. has_joined uses_of ds (decl.Parser y) u has (has_right (uses_of_statements None y.statements) (uses_of_return (last_of None y.statements) y.end) u h)) read near.1;
      }

  -- the parser
  module _ (g : StateLayout) (x : Expanded) (t : TypeWords) (types : List Decl16) (fits : TypesFit g ds x t types) (c16 : Setting) (q : Parser16) (parser : ParserFits g ds t c16 q) where
    plainly : (last : Option Inst) → LastFits g ds x t types fits none c16 q last → LastPlain ds none last
    plainly None is = tt
    plainly (Some i) is = is.1

    declared : (y : Parser) → Has (states ds) y → Has ds (decl.Parser y)
    declared y has = let d = picked_has state_in ds y has in subst (Has ds) (declared_state d.0 y d.2) d.1

    pub parser_ruled : AllByRecursion (IsClear (map known_state q.states)) parser_fixed → ((y : Parser) → Has (states ds) y → SelectHas y.end × SelectRead y.end) → ParserRules g ds t c16 q parser
    parser_ruled free read = record {
      free = free;
      once = states_once ds none;
      each = each_has _ (states ds) (λ y has.
          let d = declared y has in
          (state_fits g ds x t types fits none c16 q (parser_words (parser_lowering g t c16 q) packet_called parser.state) y d (read y has).0, state_here_ruled y d (plainly (last_of None y.statements) (last_fits g ds x t types fits none c16 q y d)) (read y has).1));
      idle = none_idle ds none;
    }
