-- Hashes (`v1model.p4`, `HashAlgorithm` and `hash`; the parameters of the algorithms, and the base alone
-- where the bound is 0, are this project's own).
use Rattle.std.specs.Prelude.{ℕ, ◌+◌, ◌%◌, ◌==◌, Bool, if◌then◌else◌, List, codes}
use Rattle.std.specs.Str.{bytes_eq}
use Rattle.calc_core.specs.Calculations.{csum16, crc16, crc32, identity}
use Rattle.p416_syntax.specs.Names.{Name}
use Rattle.v1_core.specs.Frames.{Moment, Reference, number_put_at}

-- what the algorithm with this name gives of a list of bits
abbrev pub result_of : Name → List Bool → ℕ
result_of algorithm list =
    if bytes_eq algorithm (codes "csum16") then csum16 list
    else if bytes_eq algorithm (codes "crc16") then crc16 list
    else if bytes_eq algorithm (codes "crc32") then crc32 list else identity list

-- the base and the result modulo the bound, or the base where the bound is 0
abbrev pub in_range : ℕ → ℕ → ℕ → ℕ
in_range base result bound = if bound == 0 then base else base + result % bound

-- `hash(r, algorithm, base, { .. }, bound)`: what is given is cut to its target
abbrev pub hash : Reference → Name → ℕ → List Bool → ℕ → Moment → Moment
hash to algorithm base list bound m = number_put_at to (in_range base (result_of algorithm list) bound) m
