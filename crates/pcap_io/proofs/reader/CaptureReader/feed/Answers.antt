use Rattle.pcap_io.proofs.Feeding.{reads_by}
use Rattle.pcap_io.proofs.reader.CaptureReader.feed.Goals as goal

pub returns-clause-reads : goal.returns-clause-reads
returns-clause-reads c = λ octets taken read. reads_by c.read_piece.result octets _ taken _ _ read c.read_piece.ensures.read
