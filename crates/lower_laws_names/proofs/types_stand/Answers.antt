use Rattle.lower_laws_names.proofs.Top.{top_once, top_names_once, names_of_text, top_of_text}
use Rattle.lower_laws_names.proofs.Declared.{types_are_declared}
use Rattle.lower_laws_names.proofs.Marked.{marks_are_declared, members_are_shown}
use Rattle.lower_laws_names.proofs.types_stand.Goals as goal

pub returns : goal.returns
returns c = record {
  begins = λ ds x syntax blocks h known e b. record {
    blocks = blocks;
    decls = e;
    once = names_of_text ds x syntax blocks e (top_names_once ds x h blocks b);
    top = top_of_text ds x syntax blocks e (top_once ds x h blocks b);
    names = h;
    types = known;
  };
  types = types_are_declared;
  marks = marks_are_declared;
  members = members_are_shown;
}
