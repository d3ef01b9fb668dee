-- What is written down of the types of a program.
use Rattle.std.specs.Prelude.{◌≡◌, List}
use Rattle.p416_syntax.specs.declared.program.Decl16.{Decl16}
use Rattle.p416_type_totals.specs.declared.headers.Headers.{Headers}
use Rattle.p416_type_totals.specs.declared.measure.Measure.{Measure}
use Rattle.p416_type_totals.specs.declared.totals.Table.{Table}
use Rattle.p416_type_totals.specs.internal.Sized.{headers_of, structs_of}

-- of headers by their measure
abbrev pub HasHeaders : List Decl16 → Headers → Type 0
HasHeaders ds h = h.sizes.items ≡ headers_of h.measure ds

-- of headers and structs by a measure
pub record IsTable (m : Measure) (ds : List Decl16) (t : Table) : Type 0 where
  pub measured : t.headers.measure ≡ m
  pub headers : HasHeaders ds t.headers
  pub structs : t.structs.items ≡ structs_of m ds
