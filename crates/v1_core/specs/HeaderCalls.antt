-- What the calls of headers and of header stacks do (P4_16 1.2, "Operations on headers", "Operations on header stacks"; that
-- neither `push_front` nor `pop_front` moves the place of the stack is this project's own).
use Rattle.std.specs.Prelude.{ℕ, true, false, if◌then◌else◌, List, ◌++◌, length, map, take, drop, codes}
use Rattle.std.specs.Str.{bytes_eq}
use Rattle.p416_syntax.specs.Names.{Name}
use Rattle.v1_core.specs.Values.{a_header, a_stack, Header, header_in, place_in, elements_in, cleared}
use Rattle.v1_core.specs.Frames.{Moment, Reference, read, put_at}

-- an invalid header becomes valid with fields 0, which the standard leaves open; a valid one stays as it is
abbrev pub validated : Header → Header
validated h = if h.valid then h else cleared true h

abbrev pub set_valid : Reference → Moment → Moment
set_valid r m = put_at r (a_header (validated (header_in (read m.frame r)))) m

abbrev pub set_invalid : Reference → Moment → Moment
set_invalid r m = put_at r (a_header (cleared false (header_in (read m.frame r)))) m

-- the first elements of a stack, so many and at most all, become invalid, and the others move up; what would move past the
-- end is lost
abbrev pub pushed : ℕ → List Header → List Header
pushed count elements = take (length elements) (map (cleared false) (take count elements) ++ elements)

-- the elements move down, and the last ones, so many and at most all, become invalid
abbrev pub popped : ℕ → List Header → List Header
popped count elements = drop count elements ++ map (cleared false) (take count elements)

abbrev pub push_front : Reference → ℕ → Moment → Moment
push_front r count m =
    let v = read m.frame r in put_at r (a_stack (place_in v) (pushed count (elements_in v))) m

abbrev pub pop_front : Reference → ℕ → Moment → Moment
pop_front r count m =
    let v = read m.frame r in put_at r (a_stack (place_in v) (popped count (elements_in v))) m

abbrev pub header_call : Name → Reference → Moment → Moment
header_call word r m =
    if bytes_eq word (codes "setValid") then set_valid r m
    else if bytes_eq word (codes "setInvalid") then set_invalid r m else m

abbrev pub stack_call : Name → Reference → ℕ → Moment → Moment
stack_call word r count m =
    if bytes_eq word (codes "push_front") then push_front r count m
    else if bytes_eq word (codes "pop_front") then pop_front r count m else m
