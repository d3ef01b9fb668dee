-- A test of clone sessions by marks, one for each number, of the numbers that were seen.
use Rattle.std.specs.Prelude.{Bool, true, ◌&&◌, not, nat_le, List, [], ◌∷◌, slice_index_or, slice_set}
use Rattle.state_store.specs.declared.ports.Session.{Session}
use Rattle.state_store.specs.Ports.{greatest_port, greatest_session}

-- whether the session's number and port are in their ranges, and the number has a mark that isn't set
abbrev pub is_unmarked : List Bool → Session → Bool
is_unmarked seen session =
    nat_le session.number greatest_session && nat_le session.port greatest_port &&
    not (slice_index_or seen session.number true)

-- whether that is so of each session, once those before it have set their marks
abbrev pub are_unmarked : List Bool → List Session → Bool
are_unmarked seen [] = true
are_unmarked seen (session ∷ others) =
    is_unmarked seen session && are_unmarked (slice_set seen session.number true) others
