-- A table that is written for a table of P4_14, with copies of its actions, is alike.
use Rattle.std.proofs.Common.{◌≡◌, ℕ, zero, suc, ◌<◌, Option, Some, None, option_map, List, [], ◌∷◌, length, map, get_or, refl, sym, ap, ◌∙◌, subst, arith}
use Rattle.std.specs.Prelude.{unwrap_or}
use Rattle.std.specs.Option.{option_map_or}
use Rattle.std.specs.Str.{bytes_eq}
use Rattle.std.proofs.lemmas.List.Quantifiers.{position-Some}
use Rattle.std.proofs.lemmas.Slice.Eq.{bytes_eq-Decides}
use Rattle.state_store.specs.State.{Contents}
use Rattle.match_core.specs.Fits.{FitsFill}
use Rattle.p414_syntax.specs.declared.parts.Number.{Number}
use Rattle.p414_syntax.specs.declared.syntax.Decl.{Decl}
use Rattle.p414_syntax.specs.declared.tables.Table.{Table}
use Rattle.p414_syntax.specs.Attributes.{reads_of, default_action_of as default14, default_arguments_of as arguments14}
use Rattle.p414_syntax.specs.Names.{Name, find_name}
use Rattle.p414_syntax.specs.Arguments.{action_number}
use Rattle.p414_syntax.specs.Tables.{listed_in}
use Rattle.p414_sem.specs.Wholes.{whole}
use Rattle.p414_sem.specs.Signatures.{table_sig as sig14, actions_in_order, action_sig as action14}
use Rattle.p414_sem.specs.Controls.{Setting as Setting14, fill_of as fill14, signature_number, kept_arguments}
use Rattle.p416_syntax.specs.declared.controls.Action16.{Action16}
use Rattle.p416_syntax.specs.declared.controls.Table16.{Table16}
use Rattle.p416_syntax.specs.Properties.{default_action_of as default16, default_arguments_of as arguments16}
use Rattle.p416_syntax.specs.Scopes.{Sort}
use Rattle.p416_syntax.specs.Tables.{sort_plane}
use Rattle.p416_syntax.specs.Uses.{arguments_of}
use Rattle.p416_syntax.specs.Totals.{size_value as literal_in}
use Rattle.v1_core.specs.Signatures.{table_number}
use Rattle.v1_core.specs.Surroundings.{Surroundings, action_named}
use Rattle.v1_core.specs.Tables.{key_value as value16}
use Rattle.v1_core.specs.Blocks.{act}
use Rattle.lower_laws_base.specs.Context.{Lowering, Sees}
use Rattle.lower_laws_base.specs.Alike.{FitWidths, ActsAlike}
use Rattle.lower_laws_base.proofs.Wrap.{wrap_below}
use Rattle.lower_laws_controls.specs.Listing.{Each, copy_text, copy_name, widths_of_action, CopyListed, TableIs}
use Rattle.lower_laws_controls.specs.Tables.{named_at, widths_at, ActionStands, DefaultStands, TableAlike}
use Rattle.lower_laws_controls.proofs.Keys.{keys_same}
use Rattle.lower_laws_controls.proofs.Listing.{in_order_all, each_get, planes_are, numbered_so, signatures_same}

-- the copy that the control declares for an action
pub record CopyDeclared (c : Lowering) (d : Setting14) (b : Surroundings) (copy : Name → Option Name) (direct : Option ℕ) (name : Name) : Type 0 where
  pub listed : CopyListed d.decls b.scope copy name
  pub action : ℕ
  pub of : Action16
  pub number : action_number d.decls name ≡ Some action
  pub declared : action_named b (copy_text copy name) ≡ Some of
  pub acts : ActsAlike c.layout d b (act b) direct action (widths_of_action d.decls name) of

-- the default action, which the table lists, with as many arguments as it has parameters
abbrev pub DefaultIs : Setting14 → (Name → Option Name) → Table → Table16 → Option Name → Type 0
DefaultIs d copy t u None = Unit {0}
DefaultIs d copy t u (Some name) =
    ((i : ℕ) × (find_name (actions_in_order t) name ≡ Some i))
    × (length (unwrap_or (arguments14 t.attributes) []) ≡ length (widths_of_action d.decls name))
    × (map literal_in (option_map_or arguments_of (arguments16 u.properties) []) ≡ kept_arguments (widths_of_action d.decls name) (unwrap_or (arguments14 t.attributes) []))

-- all that is asked of a table of P4_16
pub record TableWritten (c : Lowering) (d : Setting14) (b : Surroundings) (copy : Name → Option Name) (t : Table) (u : Table16) : Type 0 where
  pub is : TableIs c d.decls b copy t u
  pub copies : Each (CopyDeclared c d b copy (sig14 d.decls t).direct) (listed_in t)
  pub default : default16 u.properties ≡ option_map (copy_name copy) (default14 t.attributes)
  pub default_is : DefaultIs d copy t u (default14 t.attributes)

kept_fit : (widths : List ℕ) (numbers : List Number) → length numbers ≡ length widths → FitWidths widths (kept_arguments widths numbers)
kept_fit [] [] same = tt
kept_fit [] (n ∷ numbers) same = absurd (omega (arith, same))
kept_fit (w ∷ widths) [] same = absurd (omega (arith, same))
kept_fit (w ∷ widths) (n ∷ numbers) same = (wrap_below w (whole n), kept_fit widths numbers (omega (arith, same)))

widths_is : (ds : List Decl) (names : List Name) (i : ℕ) → i < length names → (get_or (map (action14 ds) names) i (record { name = []; widths = [] })).widths ≡ widths_of_action ds (get_or names i [])
widths_is ds [] i lt = absurd (omega (arith, lt))
widths_is ds (name ∷ names) zero lt = refl
widths_is ds (name ∷ names) (suc i) lt = widths_is ds names i (omega (arith, lt))

module _ (c : Lowering) (d : Setting14) (b : Surroundings) (around : c.world.around ≡ b) (none : c.parameters ≡ []) (sees : Sees c b.scope []) (copy : Name → Option Name) (t : Table) (u : Table16) (w : TableWritten c d b copy t u) where
  abbrev Here : Name → Type 0
  Here name = CopyDeclared c d b copy (sig14 d.decls t).direct name

  action_stands : (i : ℕ) → i < length (actions_in_order t) → ActionStands c.layout d b (act b) copy t u i
  action_stands i lt =
      let name = named_at t i in
      let one = each_get Here (actions_in_order t) i [] lt (in_order_all Here [] (listed_in t) tt w.copies) in
      let so = numbered_so c d.decls b copy t u w.is i lt in
      record {
        action = one.action;
        text = copy_text copy name;
        of = one.of;
        listed14 = one.number;
        copied = so.1;
        numbered = so.0;
        listed16 = one.declared;
        acts = λ aside entry arguments m n fit stands.
            one.acts aside entry arguments m n (subst (λ ws. FitWidths ws arguments) (widths_is d.decls (actions_in_order t) i lt) fit) stands;
      }

  default_stands : (o : Option Name) → DefaultIs d copy t u o → DefaultStands d b copy t u o (option_map (copy_name copy) o)
  default_stands None is = tt
  default_stands (Some name) is =
      let i = is.0.0 in
      let there = position-Some (bytes_eq name) (actions_in_order t) i [] is.0.1 in
      let here : named_at t i ≡ name = sym ((bytes_eq-Decides name (named_at t i)).0 there.1) in
      let one : Here name = subst Here here (each_get Here (actions_in_order t) i [] there.0 (in_order_all Here [] (listed_in t) tt w.copies)) in
      let widths : widths_at d t i ≡ widths_of_action d.decls name = widths_is d.decls (actions_in_order t) i there.0 ∙ ap (widths_of_action d.decls) here in (
        one.listed.copied,
        ap (λ (z : Sort). sort_plane (copy_text copy name) z) one.listed.sort,
        (i, is.0.1, subst (λ ws. FitWidths ws (kept_arguments (widths_of_action d.decls name) (unwrap_or (arguments14 t.attributes) []))) (sym widths) (kept_fit (widths_of_action d.decls name) (unwrap_or (arguments14 t.attributes) []) is.1)),
        is.2,
      )

  pub table_alike : Contents → b.setting.entries ≡ d.entries → FitsFill (sig14 d.decls t) (fill14 d t) → table_number b.setting.syntax u ≡ signature_number d.decls t → TableAlike c.layout d b (act b) copy t u
  table_alike store entries fill number = record {
    entries = entries;
    fill = fill;
    number = number;
    signature = signatures_same c d.decls b copy t u w.is around none sees store;
    planes = planes_are c d.decls b copy t u w.is;
    keys = λ aside m n stands. ap (map (value16 b n)) w.is.keys ∙ keys_same c b around none sees d.decls aside m n stands (reads_of t.attributes) w.is.keys_fit;
    each = action_stands;
    default = subst (λ o. DefaultStands d b copy t u (default14 t.attributes) o) (sym w.default) (default_stands (default14 t.attributes) w.default_is);
  }
