-- What is built while a text is read: the parts that aren't part of a declaration yet, by their sorts and the newest first,
-- and the declarations.
use Rattle.std.specs.Prelude.{[]}
use Rattle.p414_reader.specs.declared.parts.Parts.{Parts}
use Rattle.p414_reader.specs.declared.headers.Headers.{Headers}
use Rattle.p414_reader.specs.declared.calculations.Calculations.{Calculations}
use Rattle.p414_reader.specs.declared.states.States.{States}
use Rattle.p414_reader.specs.declared.calls.Calls.{Calls}
use Rattle.p414_reader.specs.declared.tables.Tables.{Tables}
use Rattle.p414_reader.specs.internal.Bodies.{Bodies}
use Rattle.p414_reader.specs.declared.built.Built.{Built}

abbrev pub no_parts : Parts
no_parts = record { names = []; name_lists = []; literals = []; literal_options = []; numbers = []; arguments = []; indexes = []; instances = []; fields = []; field_options = [] }

abbrev pub no_headers : Headers
no_headers = record { widths = []; fields = []; initials = []; initials_options = [] }

abbrev pub no_calculations : Calculations
no_calculations = record { items = []; conditions = []; entries = [] }

abbrev pub no_states : States
no_states = record { values = []; value_lists = []; statements = []; masked = []; case_values = []; targets = []; cases = []; ends = [] }

abbrev pub no_calls : Calls
no_calls = record { arguments = []; calls = [] }

abbrev pub no_tables : Tables
no_tables = record { reads = []; attributes = [] }

abbrev pub no_bodies : Bodies
no_bodies = record { exprs = []; tails = []; stmts = []; labels = []; else_calls = [] }

-- nothing
abbrev pub nothing : Built
nothing = record {
  parts = no_parts;
  headers = no_headers;
  calculations = no_calculations;
  states = no_states;
  calls = no_calls;
  tables = no_tables;
  objects = [];
  bodies = no_bodies;
  groups = [];
  decls = [];
}
