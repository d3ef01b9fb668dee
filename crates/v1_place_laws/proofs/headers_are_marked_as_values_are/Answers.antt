use Rattle.v1_place_laws.proofs.Marking.{headers_marked}
use Rattle.v1_place_laws.proofs.headers_are_marked_as_values_are.Goals as goal

pub returns : goal.returns
returns c = λ syntax d who r t type m is scope at form frame. headers_marked syntax d who is scope r t type m at form frame
