-- One turn of the loops over types and over members.
use Rattle.std.proofs.Common.{◌≡◌, ℕ, ◌+◌, ◌<◌, ◌≤◌, List, [], ◌∷◌, ◌++◌, length, map, take, get_or, sym, subst, ap, ◌∙◌}
use Rattle.std.specs.Borrow.{Bor}
use Rattle.std.proofs.lemmas.List.{take_more, map-append}
use Rattle.p416_syntax.specs.Names.{Name}
use Rattle.p416_syntax.specs.Scopes.{Layout, fields_in}
use Rattle.p416_names.specs.declared.kind.Kind.{Kind as CodeKind}
use Rattle.v1_core.specs.Seats.{Start as SeatStart}
use Rattle.v1_seats.specs.declared.rows.Row.{Row}
use Rattle.v1_seats.specs.declared.start.Start.{Start}
use Rattle.v1_seats.specs.Seen.{seen_start}
use Rattle.v1_seats.specs.Extents.{further, Reaches, AreLaid}
use Rattle.v1_seats.specs.internal.Rows.{form_of_kind, IsRow, AreRows}
use Rattle.v1_seats.proofs.Naming.{one_row_more}
use Rattle.v1_seats.proofs.Reaching.{one_laid_more}

abbrev now_of : Bor Name → Name
now_of name = name.now

name_turn : (names : List (Bor Name)) (i : ℕ) (d : Bor Name) → i < length names → map now_of (take i names) ++ (get_or names i d).now ∷ [] ≡ map now_of (take (i + 1) names)
name_turn names i d within =
    sym (ap (map now_of) (take_more names i d within) ∙ map-append now_of (take i names) (get_or names i d ∷ []))

pub row_turn : (types : List Layout) (names : List (Bor Name)) (rows : List Row) (i : ℕ) (d : Bor Name) (r : Row) → i < length names → AreRows types (map now_of (take i names)) rows → IsRow (fields_in types (get_or names i d).now) r → AreRows types (map now_of (take (i + 1) names)) (rows ++ r ∷ [])
row_turn types names rows i d r within all is =
    subst (λ ns. AreRows types ns (rows ++ r ∷ [])) (name_turn names i d within)
    (one_row_more types (map now_of (take i names)) rows (get_or names i d).now r all is)

pub laid_turn : (types : List Layout) (kinds : List CodeKind) (i : ℕ) (d : CodeKind) (starts : List Start) (size now : Start) (more : SeatStart) (depth deeper at_least : ℕ) → i < length kinds → AreLaid types (map form_of_kind (take i kinds)) (map seen_start starts) (seen_start size) depth
    → Reaches types (form_of_kind (get_or kinds i d)) more deeper → seen_start now ≡ further (seen_start size) more → depth ≤ at_least → deeper ≤ at_least
    → AreLaid types (map form_of_kind (take (i + 1) kinds)) (map seen_start (starts ++ size ∷ [])) (seen_start now) at_least
laid_turn types kinds i d starts size now more depth deeper at_least within laid reaches is first second =
    let forms : map form_of_kind (take i kinds) ++ form_of_kind (get_or kinds i d) ∷ [] ≡ map form_of_kind (take (i + 1) kinds) = sym (ap (map form_of_kind) (take_more kinds i d within) ∙ map-append form_of_kind (take i kinds) (get_or kinds i d ∷ [])) in
    let begins : map seen_start starts ++ seen_start size ∷ [] ≡ map seen_start (starts ++ size ∷ []) = sym (map-append seen_start starts (size ∷ [])) in
    subst (λ fs. AreLaid types fs (map seen_start (starts ++ size ∷ [])) (seen_start now) at_least) forms
    (subst (λ ss. AreLaid types (map form_of_kind (take i kinds) ++ form_of_kind (get_or kinds i d) ∷ []) ss (seen_start now) at_least) begins
    (one_laid_more types (map form_of_kind (take i kinds)) (form_of_kind (get_or kinds i d)) (map seen_start starts) (seen_start size) more depth deeper (seen_start now) at_least laid reaches is first second))
