-- How far fields and octets are counted (this project's own; it lies above each limit that the rules set).
use Rattle.std.specs.Prelude.{ℕ, min}

abbrev pub limit : ℕ
limit = 1048576

abbrev pub up_to : ℕ → ℕ
up_to n = min limit n
