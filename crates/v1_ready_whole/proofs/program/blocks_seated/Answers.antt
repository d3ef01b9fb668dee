use Rattle.v1_ready_whole.proofs.program.blocks_seated.Goals as goal

pub blocks_of-requires : goal.blocks_of-requires
blocks_of-requires c = record {
  top = c.requires.top;
  types = c.requires.types;
  places = c.requires.names.places;
  seats = c.requires.seats;
  objects = c.requires.names.objects;
  tables = c.requires.names.tables;
  checksum_error = c.in_ok-checksum_error.ensures;
  packet_length = c.in_ok-packet_length.ensures;
}
