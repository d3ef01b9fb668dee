-- The desk and the sink in memory: this project's own.
use Rattle.std.specs.Prelude.{◌-◌, ℕ, Bool, true, cond, ◌||◌, ◌==◌, max, List, [], ◌∷◌, ◌++◌, length, take, Option, Some, None, is_none, option_map, unwrap_or}
use Rattle.std.specs.List.{list_any}
use Rattle.std.specs.Str.{bytes_eq}
use Rattle.p4x_io.specs.Desk.{DeskView, SinkView, next}

-- What a desk in memory knows of a name: the octets of the file, where it is there; the octets
-- that it has room for, where room was ever asked for; how many reads and appends there were;
-- and the numbers, from 1, of the reads and appends that fail.
pub record Known : Type 0 where
  pub file : Option (List ℕ)
  pub room : Option ℕ
  pub reads : ℕ
  pub appends : ℕ
  pub failing_reads : List ℕ
  pub failing_appends : List ℕ

-- a name that was mentioned, and what is known of it
pub record Named : Type 0 where
  pub name : List ℕ
  pub known : Known

-- What a desk in memory holds, which is all that contracts see of one: the names that were
-- mentioned, with what is known of each, and how many of its calls failed.
pub record Held : Type 0 where
  pub names : List Named
  pub faults : ℕ

-- a name of which nothing was asked
abbrev pub fresh : Known
fresh = record { file = None; room = None; reads = 0; appends = 0; failing_reads = []; failing_appends = [] }

-- what is known of a name among these: None where nothing was asked of it
abbrev pub known_at : List Named → List ℕ → Option Known
known_at [] name = None
known_at (n ∷ names) name = cond (bytes_eq n.name name) (Some n.known) (known_at names name)

-- what a desk in memory knows of a name
abbrev pub known : Held → List ℕ → Option Known
known desk name = known_at desk.names name

-- whether the call after so many calls is one that fails
abbrev pub is_failing : ℕ → List ℕ → Bool
is_failing calls failing = list_any (λ n. n == next calls) failing

-- the octets that there is still room for
abbrev pub left : Known → ℕ
left k = unwrap_or k.room 0 - length (unwrap_or k.file [])

-- A read fails where the file is absent or this failure was asked for,
abbrev pub read_fails : Option Known → Bool
read_fails None = true
read_fails (Some k) = is_none k.file || is_failing k.reads k.failing_reads

-- a make where the name has no room,
abbrev pub make_fails : Option Known → Bool
make_fails None = true
make_fails (Some k) = is_none k.room

-- and an append where the room is full or this failure was asked for.
abbrev pub append_fails : Option Known → Bool
append_fails None = true
append_fails (Some k) = (left k == 0) || is_failing k.appends k.failing_appends

-- what is known of the name after a read
abbrev pub after_read : Known → Known
after_read k = record k { reads = next k.reads }

-- after a make: where it has room, an empty file
abbrev pub after_make : Known → Known
after_make k = cond (is_none k.room) k (record k { file = Some [] })

-- the file after an append: unless it fails, with as much of the piece at its end as the room holds
abbrev pub file_after_append : List ℕ → Known → Option (List ℕ)
file_after_append piece k =
    cond (append_fails (Some k)) k.file (option_map (λ text. text ++ take (left k) piece) k.file)

-- after an append
abbrev pub after_append : List ℕ → Known → Known
after_append piece k = record k { appends = next k.appends; file = file_after_append piece k }

-- a file with these octets, and room for them at least
abbrev pub with_file : List ℕ → Known → Known
with_file octets k = record k { file = Some octets; room = Some (max (unwrap_or k.room 0) (length octets)) }

-- room for so many octets at least
abbrev pub with_room : ℕ → Known → Known
with_room octets k = record k { room = Some (max (unwrap_or k.room 0) octets) }

-- one more read that fails
abbrev pub with_failing_read : ℕ → Known → Known
with_failing_read n k = record k { failing_reads = k.failing_reads ++ n ∷ [] }

-- one more append that fails
abbrev pub with_failing_append : ℕ → Known → Known
with_failing_append n k = record k { failing_appends = k.failing_appends ++ n ∷ [] }

-- the file of a name of which this is known
abbrev pub file_in : Option Known → Option (List ℕ)
file_in None = None
file_in (Some k) = k.file

-- the file of a name, as the desk holds it
abbrev pub memory_file : Held → List ℕ → Option (List ℕ)
memory_file desk name = file_in (known desk name)

-- a desk in memory as any desk: it tells its files, and one count is each of its counts
abbrev pub memory_view : Held → DeskView
memory_view desk = record {
  told = λ name. Some (memory_file desk name);
  reads = λ name. desk.faults;
  writes = λ name. desk.faults;
}

-- What a sink in memory holds, which is all that contracts see of one: what was printed, the
-- octets that it has room for in all, how many writes there were, the numbers, from 1, of the
-- writes that fail, and how many failed.
pub record Printed : Type 0 where
  pub text : List ℕ
  pub room : ℕ
  pub calls : ℕ
  pub failing : List ℕ
  pub faults : ℕ

-- a sink in memory as any sink: it tells what was printed
abbrev pub printed_view : Printed → SinkView
printed_view p = record { printed = Some p.text; writes = p.faults }

-- a write fails where the room is full or this failure was asked for
abbrev pub write_fails : Printed → Bool
write_fails p = (p.room - length p.text == 0) || is_failing p.calls p.failing

-- the sink after a write: unless it fails, as much of the piece as the room holds is printed
abbrev pub after_write : List ℕ → Printed → Printed
after_write piece p = record p {
  calls = next p.calls;
  text = cond (write_fails p) p.text (p.text ++ take (p.room - length p.text) piece);
  faults = cond (write_fails p) (next p.faults) p.faults;
}

-- one more write that fails
abbrev pub with_failing_write : ℕ → Printed → Printed
with_failing_write n p = record p { failing = p.failing ++ n ∷ [] }
