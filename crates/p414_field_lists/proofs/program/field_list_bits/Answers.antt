use Rattle.p414_field_lists.proofs.Meaning.{bits_mean}
use Rattle.p414_field_lists.proofs.program.field_list_bits.Goals as goal

pub returns : goal.returns
returns c =
    bits_mean c.args.program.now.decls c.in_ok-lists.lists c.bits_of.result c.args.state.now.state c.args.list
    c.in_ok-lists.ensures.means c.bits_of.ensures
