-- Where the values of a frame stand, one after another (this project's own).
use Rattle.std.specs.Prelude.{List, [], ◌∷◌, length}
use Rattle.p416_syntax.specs.Kinds.{Kind}
use Rattle.p416_syntax.specs.Scopes.{Layout}
use Rattle.v1_core.specs.Seats.{form_of, Start, behind, Seat, seat}

abbrev pub seats_from : List Layout → List Kind → Start → List Seat
seats_from types [] b = []
seats_from types (k ∷ kinds) b =
    seat (length types) (form_of k) b ∷ seats_from types kinds (behind types (length types) (form_of k) b)
