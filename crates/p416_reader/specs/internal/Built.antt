-- What is built while a text is read: the parts that aren't part of a declaration yet, by their sorts and the newest first,
-- and the declarations.
use Rattle.std.specs.Prelude.{[], false}
use Rattle.p416_reader.specs.declared.parts.Parts.{Parts}
use Rattle.p416_reader.specs.internal.Bodies.{Bodies}
use Rattle.p416_reader.specs.declared.states.States.{States}
use Rattle.p416_reader.specs.declared.controls.Controls.{Controls}
use Rattle.p416_reader.specs.declared.declarations.Decls.{Decls}
use Rattle.p416_reader.specs.declared.built.Built.{Built}

abbrev pub no_parts : Parts
no_parts = record { names = []; literals = []; literal_options = []; literal_lists = []; notes = []; types = []; params = []; members = [] }

abbrev pub no_bodies : Bodies
no_bodies = record { exps = []; stmts = []; is_open = false }

abbrev pub no_states : States
no_states = record { exps = []; exp_options = []; exp_lists = []; simples = []; simple_lists = []; keysets = []; targets = []; cases = []; transitions = []; vars = []; states = []; blocks = [] }

abbrev pub no_controls : Controls
no_controls = record { instances = []; action_names = []; action_lists = []; keys = []; properties = []; locals = [] }

abbrev pub no_decls : Decls
no_decls = record { bit_fields = []; struct_fields = []; decls = []; main = [] }

-- nothing
abbrev pub nothing : Built
nothing = record { parts = no_parts; bodies = no_bodies; states = no_states; controls = no_controls; decls = no_decls }
