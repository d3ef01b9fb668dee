use Rattle.std.proofs.Common.{None}
use Rattle.pcap_io.proofs.Drawing.{opened_head, taken_reads, taken_head, refused_reads, refused_head}
use Rattle.pcap_io.proofs.drawn.open_file.Goals as goal

pub returns-then-octets-lt-FILE_HEADER-clause-head : goal.returns-then-octets-lt-FILE_HEADER-clause-head
returns-then-octets-lt-FILE_HEADER-clause-head c = opened_head None _ c.if-octets-lt-FILE_HEADER.true

pub returns-in-Ok-clause-reads : goal.returns-in-Ok-clause-reads
returns-in-Ok-clause-reads c = taken_reads _ c.in-Ok.head c.if-octets-lt-FILE_HEADER.false c.in-Ok.ensures

pub returns-in-Ok-clause-head : goal.returns-in-Ok-clause-head
returns-in-Ok-clause-head c = taken_head _ c.in-Ok.head c.if-octets-lt-FILE_HEADER.false c.in-Ok.ensures

pub returns-in-Err-clause-reads : goal.returns-in-Err-clause-reads
returns-in-Err-clause-reads c = refused_reads _ c.in-Err.fault c.if-octets-lt-FILE_HEADER.false c.in-Err.ensures

pub returns-in-Err-clause-head : goal.returns-in-Err-clause-head
returns-in-Err-clause-head c = refused_head _ c.in-Err.fault c.if-octets-lt-FILE_HEADER.false c.in-Err.ensures
