-- What contracts see of what runs the blocks of a program (this project's own).
use Rattle.std.specs.Prelude.{refl}
use Rattle.std.specs.Coded.{Coded, code_by, coded×}
use Rattle.state_store.specs.contracts.state.Store as objects
use Rattle.state_store.specs.State.{Contents}
use Rattle.match_core.specs.contracts.entries.Entries as fills
use Rattle.match_core.specs.declared.entries.Entries.{Entries}
use Rattle.p416_syntax.specs.contracts.program.Syntax16 as declaration
use Rattle.p416_syntax.specs.declared.program.Syntax16.{Syntax16}
use Rattle.v1_core.specs.Surroundings.{Setting}

-- the program with what stands in its tables; and its counters, registers and meters as the packets so far left them
pub record Running : Type 0 where
  pub setting : Setting
  pub store : Contents

abbrev pub coded_setting : Coded Setting
coded_setting =
    code_by (Syntax16 × Entries) (coded× declaration.the_row.coded fills.the_row.coded) (λ s. (s.syntax, s.entries))
    (λ p. record { syntax = p.0; entries = p.1 }) (λ _. refl)

abbrev pub coded_running : Coded Running
coded_running =
    code_by (Setting × Contents) (coded× coded_setting objects.the_row.coded) (λ r. (r.setting, r.store))
    (λ p. record { setting = p.0; store = p.1 }) (λ _. refl)
