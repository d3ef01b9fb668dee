-- The values of a frame stand one after another.
use Rattle.std.proofs.Common.{◌≡◌, ℕ, zero, suc, List, [], ◌∷◌, ◌++◌, length, refl, ap, ◌∙◌, append_assoc, slice_get}
use Rattle.p416_syntax.specs.Kinds.{Kind}
use Rattle.p416_syntax.specs.Scopes.{Layout}
use Rattle.v1_core.specs.Seats.{form_of, Start, behind, Seat, seat}
use Rattle.v1_core.specs.Programs.{seat_in}
use Rattle.v1_seats.specs.Frame.{seats_from}

-- the next value of many
pub one_seated : (types : List Layout) (depth : ℕ) (k : Kind) (kinds : List Kind) (b next : Start) (old whole : List Seat) → depth ≡ length types → next ≡ behind types depth (form_of k) b → old ++ seats_from types (k ∷ kinds) b ≡ whole
    → (old ++ seat depth (form_of k) b ∷ []) ++ seats_from types kinds next ≡ whole
one_seated types depth k kinds b next old whole deep is so =
    append_assoc old (seat depth (form_of k) b ∷ []) (seats_from types kinds next)
    ∙ (ap (λ s. old ++ seat depth (form_of k) b ∷ seats_from types kinds s) is
    ∙ (ap (λ n. old ++ seat n (form_of k) b ∷ seats_from types kinds (behind types n (form_of k) b)) deep ∙ so))

-- the value with a number
pub seat_among : (types : List Layout) (kinds : List Kind) (b : Start) (number : ℕ) → slice_get (seats_from types kinds b) number ≡ seat_in types kinds b number
seat_among types [] b zero = refl
seat_among types [] b (suc number) = refl
seat_among types (k ∷ kinds) b zero = refl
seat_among types (k ∷ kinds) b (suc number) = seat_among types kinds (behind types (length types) (form_of k) b) number
