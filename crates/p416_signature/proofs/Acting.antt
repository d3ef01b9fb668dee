-- The actions that a table lists.
use Rattle.std.proofs.Common.{◌≡◌, Bool, true, false, cond, List, [], ◌∷◌, map, Option, Some, refl, sym, ap, ◌∙◌, slice_get}
use Rattle.std.specs.Prelude.{filter_map, option_and_then}
use Rattle.std.specs.Option.{option_map_or}
use Rattle.std.specs.Str.{bytes_eq}
use Rattle.match_core.specs.declared.signatures.ActionSig.{ActionSig}
use Rattle.p416_syntax.specs.declared.controls.ActionName.{ActionName}
use Rattle.p416_syntax.specs.declared.controls.ActionName.TheVariants.{Declared, NoAction}
use Rattle.p416_syntax.specs.declared.controls.Table16.{Table16}
use Rattle.p416_syntax.specs.Properties.{actions_of}
use Rattle.name_numbers.specs.Names.{find_name}
use Rattle.p416_names.proofs.Found.{bytes_either, first_step}
use Rattle.p416_syntax.specs.Names.{Name}
use Rattle.p416_syntax.specs.Scopes.{Handed, Known, Scope}
use Rattle.p416_syntax.specs.Declarations.{parameters_of}
use Rattle.p416_syntax.specs.Tables.{action_plane}
use Rattle.v1_core.specs.Signatures.{in_order, action_with, action_sig, handed_width, listed_plane, planes_of}
use Rattle.p416_signature.specs.internal.Gathered.{Row, first_named, given_with, listed_row, row_given, row_named, row_plane, row_sig, sigs_in, sigs_of_rows}

pub same_map : {X Y : Type 0} (f g : X → Y) → ((x : X) → f x ≡ g x) → (xs : List X) → map f xs ≡ map g xs
same_map f g same [] = refl
same_map f g same (x ∷ xs) = ap (λ y. y ∷ map f xs) (same x) ∙ ap (λ ys. g x ∷ ys) (same_map f g same xs)

given_step : (s : Scope) (text : Name) (b : Bool) (a : ActionName) (r : Option Row) → parameters_of s a ≡ option_map_or row_given r [] → parameters_of s (cond b (Declared text) a) ≡ option_map_or row_given (cond b (Some (row_named s.names text)) r) []
given_step s text true a r same = refl
given_step s text false a r same = same

pub given_is : (s : Scope) (actions : List ActionName) (plane : Name) → parameters_of s (action_with s actions plane) ≡ option_map_or row_given (first_named row_plane (filter_map (listed_row s.names) actions) plane) []
given_is s [] plane = refl
given_is s (NoAction ∷ actions) plane = given_is s actions plane
given_is s (Declared text ∷ actions) plane =
    ap (λ (b : Bool). parameters_of s (cond b (Declared text) (action_with s actions plane))) (bytes_either plane (action_plane s (Declared text)))
    ∙ (given_step s text (bytes_eq (action_plane s (Declared text)) plane) (action_with s actions plane) (first_named row_plane (filter_map (listed_row s.names) actions) plane) (given_is s actions plane)
    ∙ ap (λ (r : Option Row). option_map_or row_given r []) (sym (first_step row_plane (row_named s.names text) (filter_map (listed_row s.names) actions) plane)))

planes_are : (s : Scope) (actions : List ActionName) → map row_plane (filter_map (listed_row s.names) actions) ≡ filter_map (listed_plane s) actions
planes_are s [] = refl
planes_are s (NoAction ∷ actions) = planes_are s actions
planes_are s (Declared text ∷ actions) = ap (λ (l : List Name). action_plane s (Declared text) ∷ l) (planes_are s actions)

pub given_found : (rows : List Row) (names : List Name) (plane : Name) (found : Option Row) (given : List Handed) → found ≡ option_and_then (slice_get rows) (find_name names plane) → given ≡ option_map_or row_given found [] → given ≡ given_with rows names plane
given_found rows names plane found given is told = told ∙ ap (λ (r : Option Row). option_map_or row_given r []) is

pub sigs_made : (known : List Known) (actions : List ActionName) (rows : List Row) (names ordered : List Name) (sigs : List ActionSig) → rows ≡ filter_map (listed_row known) actions → names ≡ map row_plane rows → ordered ≡ in_order names → sigs ≡ map (row_sig rows) ordered → sigs ≡ sigs_in known actions
sigs_made known actions rows names ordered sigs are is in_turn made =
    made ∙ (ap (map (row_sig rows)) (in_turn ∙ ap in_order is) ∙ ap sigs_of_rows are)

abbrev with_given : Name → List Handed → ActionSig
with_given plane given = record { name = plane; widths = map handed_width given }

pub actions_are : (s : Scope) (t : Table16) → sigs_in s.names (actions_of t.properties) ≡ map (action_sig s t) (planes_of s t)
actions_are s t =
    ap (λ (l : List Name). map (row_sig (filter_map (listed_row s.names) (actions_of t.properties))) (in_order l)) (planes_are s (actions_of t.properties))
    ∙ same_map (row_sig (filter_map (listed_row s.names) (actions_of t.properties))) (action_sig s t) (λ plane. ap (with_given plane) (sym (given_is s (actions_of t.properties) plane))) (planes_of s t)
