-- Programs whose stateful objects are counters alone (`v1model.p4`: `counter`, `direct_counter`, `register`, `meter`). What such a
-- program does with a packet doesn't depend on the packets before it, but for what it counts (this project's own).
use Rattle.std.specs.Prelude.{Bool, true, false}
use Rattle.std.specs.List.{list_all}
use Rattle.p416_syntax.specs.declared.controls.Instance.{Instance}
use Rattle.p416_syntax.specs.declared.controls.Instance.TheVariants as instance
use Rattle.p416_syntax.specs.declared.controls.Local.{Local}
use Rattle.p416_syntax.specs.declared.controls.Local.TheVariants as local
use Rattle.p416_syntax.specs.declared.program.Decl16.{Decl16}
use Rattle.p416_syntax.specs.declared.program.Decl16.TheVariants as decl
use Rattle.p416_syntax.specs.declared.program.Syntax16.{Syntax16}

-- a counter of either form
abbrev pub is_counter : Instance → Bool
is_counter (instance.Counter size m text) = true
is_counter (instance.DirectCounter m text) = true
is_counter (instance.Register width size text) = false
is_counter (instance.Meter size m text) = false

-- what a control declares is no register and no meter
abbrev pub is_shardable_local : Local → Bool
is_shardable_local (local.Instance notes i) = is_counter i
is_shardable_local _ = true

-- neither a declaration nor what is declared in it is a register or a meter
abbrev pub is_shardable_decl : Decl16 → Bool
is_shardable_decl (decl.Instance notes i) = is_counter i
is_shardable_decl (decl.Control c) = list_all is_shardable_local c.locals
is_shardable_decl _ = true

-- the program has no register and no meter
abbrev pub shardable : Syntax16 → Bool
shardable syntax = list_all is_shardable_decl syntax.decls
