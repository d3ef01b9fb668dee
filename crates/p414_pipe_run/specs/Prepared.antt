-- A program with what fills its tables, under a rule, and the order in which its headers leave.
use Rattle.std.specs.Prelude.{ℕ, List}
use Rattle.p414_laws.specs.Expansion.{expansion}
use Rattle.p414_ready_tables.specs.Loaded.{Loaded, setting}
use Rattle.p414_sem.specs.Controls.{Setting}
use Rattle.p414_sem.specs.Expanded.{Expanded}
use Rattle.p414_sem.specs.Runs.{Between}

pub record Prepared : Type 0 where
  pub loaded : Loaded
  pub order : List ℕ

-- what it comes to
abbrev pub comes_to : Prepared → Expanded
comes_to p = expansion p.loaded.decls p.order

-- what its passes run with
abbrev pub setting_of : Prepared → Setting
setting_of p = setting p.loaded (comes_to p)

-- a program that is made ready, and what stands between two calls
pub record Running : Type 0 where
  pub prepared : Prepared
  pub between : Between
