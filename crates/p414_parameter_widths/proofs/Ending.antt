-- At the end the rows of all actions are right.
use Rattle.std.proofs.Common.{◌≡◌, ℕ, zero, suc, ◌+◌, ◌<◌, ◌≤◌, ⊎_elim, List, [], ◌∷◌, length, get_or, take, slice_get, Option, Some, None, refl, sym, ap, ◌∙◌, subst, arith}
use Rattle.std.specs.Option.{option_map_or}
use Rattle.std.proofs.lemmas.Bool.{cases_lt}
use Rattle.std.proofs.lemmas.List.{ext_get_or, get_or_past, take_all, length-map}
use Rattle.std.proofs.lemmas.Option.{slice_get_past}
use Rattle.digraph.specs.Graphs.{Among}
use Rattle.digraph.specs.Components.{Condensation, AreComponents}
use Rattle.p414_syntax.specs.declared.actions.Action.{Action}
use Rattle.p414_syntax.specs.declared.syntax.Decl.{Decl}
use Rattle.p414_syntax.specs.Names.{Name}
use Rattle.p414_syntax.specs.Arguments.{actions, action_number}
use Rattle.p414_syntax.specs.ActionExpansion.{called_in}
use Rattle.p414_list_check.proofs.Expanding.{get_within}
use Rattle.p414_action_check.specs.internal.Counted.{action_graph}
use Rattle.p414_sem.specs.Signatures.{parameter_width, widths_from, parameter_widths}
use Rattle.p414_parameter_widths.specs.Widths.{AreWidths}
use Rattle.p414_parameter_widths.specs.internal.Noting.{row_at, parameter_count}
use Rattle.p414_parameter_widths.proofs.Once.{no_more}
use Rattle.p414_parameter_widths.proofs.Turning.{Known, at_place}

from_length : (ds : List Decl) (a p : ℕ) (names : List Name) → length (widths_from ds a p names) ≡ length names
from_length ds a p [] = refl
from_length ds a p (name ∷ names) = ap suc (from_length ds a (p + 1) names)

from_at : (ds : List Decl) (a p : ℕ) (names : List Name) (j : ℕ) → j < length names → get_or (widths_from ds a p names) j 8 ≡ parameter_width ds a (p + j)
from_at ds a p [] j lt = absurd (omega arith)
from_at ds a p (name ∷ names) zero lt = ap (parameter_width ds a) (omega arith)
from_at ds a p (name ∷ names) (suc j) lt = from_at ds a (p + 1) names j (omega arith) ∙ ap (parameter_width ds a) (omega arith)

row_is : (ds : List Decl) (rows : List (List ℕ)) (limit b : ℕ) (a : Action) → slice_get (actions ds) b ≡ Some a → limit ≤ length (actions ds) → Known ds rows limit b → row_at rows b ≡ parameter_widths ds b
row_is ds rows limit b a there le known =
    let count : length (row_at rows b) ≡ length a.parameters = known.each ∙ at_place parameter_count (actions ds) b a 0 there in
    let other : length (widths_from ds b 0 a.parameters) ≡ length a.parameters = from_length ds b 0 a.parameters in
    ext_get_or 8 (row_at rows b) (widths_from ds b 0 a.parameters) (count ∙ sym other)
    (λ p lt.
    let inside : p < length a.parameters = omega (arith, lt, count) in
    known.right (length (actions ds)) le p ∙ (ap (parameter_width ds b) (omega arith) ∙ sym (from_at ds b 0 a.parameters p inside)))
    ∙ sym (ap (λ o. option_map_or (λ (x : Action). widths_from ds b 0 x.parameters) o []) there)

beyond_is : (ds : List Decl) (rows : List (List ℕ)) (b : ℕ) → length rows ≡ length (actions ds) → length (actions ds) ≤ b → row_at rows b ≡ parameter_widths ds b
beyond_is ds rows b each le =
    get_or_past rows b [] (omega arith)
    ∙ sym (ap (λ o. option_map_or (λ (x : Action). widths_from ds b 0 x.parameters) o []) (slice_get_past (actions ds) b le))

pub are_widths : (ds : List Decl) (k : Condensation) (xs : List ℕ) (rows : List (List ℕ)) (i : ℕ) → AreComponents (action_graph ds) k → xs ≡ k.order → length xs ≤ i → length rows ≡ length (actions ds)
    → ((b : ℕ) → Among b (take i k.order) → Known ds rows (length (take i k.order)) b) → AreWidths ds rows
are_widths ds k xs rows i h order le each known b =
    let nodes : length (action_graph ds) ≡ length (actions ds) = length-map (actions ds) (called_in ds) in
    let all : take i k.order ≡ k.order = take_all i k.order (subst (λ ys. length ys ≤ i) order le) in
    let few : length (take i k.order) ≤ length (actions ds) = subst (λ ys. length ys ≤ length (actions ds)) (sym all) (no_more k.order (length (actions ds)) h.once (λ c among. subst (λ n. c < n) nodes ((h.nodes c).0 among))) in
    ⊎_elim
    (λ lt.
    let a = get_within (actions ds) b lt in
    let among : Among b (take i k.order) = subst (λ ys. Among b ys) (sym all) ((h.nodes b).1 (subst (λ n. b < n) (sym nodes) lt)) in
    row_is ds rows (length (take i k.order)) b a.0 a.1 few (known b among))
    (beyond_is ds rows b each)
    (cases_lt b (length (actions ds)))

by_number : (ds : List Decl) (rows : List (List ℕ)) (o : Option ℕ) → AreWidths ds rows → option_map_or (row_at rows) o [] ≡ option_map_or (parameter_widths ds) o []
by_number ds rows None h = refl
by_number ds rows (Some b) h = h b

pub widths_by_name : (ds : List Decl) (rows : List (List ℕ)) (name : Name) → AreWidths ds rows → option_map_or (row_at rows) (action_number ds name) [] ≡ option_map_or (parameter_widths ds) (action_number ds name) []
widths_by_name ds rows name h = by_number ds rows (action_number ds name) h
